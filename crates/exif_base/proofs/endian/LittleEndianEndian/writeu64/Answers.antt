use Rattle.exif_base.proofs.EndianSteps.{put_over}
use Rattle.byteorder.specs.Endian.{little_bytes}
use Rattle.exif_base.proofs.endian.LittleEndianEndian.writeu64.Goals as goal

pub returns-clause-written : goal.returns-clause-written
returns-clause-written c = put_over c.args.from 8 c.args.buf.now (little_bytes 8 c.args.num) c.write_u64.new.buf c.write_u64.ensures
