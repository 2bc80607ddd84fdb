use Rattle.exif_base.proofs.EndianSteps.{put_over}
use Rattle.byteorder.specs.Endian.{big_bytes}
use Rattle.exif_base.proofs.endian.BigEndianEndian.writeu32.Goals as goal

pub returns-clause-written : goal.returns-clause-written
returns-clause-written c = put_over c.args.from 4 c.args.buf.now (big_bytes 4 c.args.num) c.write_u32.new.buf c.write_u32.ensures
