use Rattle.byteorder.proofs.Reading.{reads_number}
use Rattle.byteorder.specs.Endian.{big_number}
use Rattle.byteorder.specs.Numbers.{big_from-append}
use Rattle.exif_base.proofs.read.read64.Goals as goal

pub returns-clause-taken : goal.returns-clause-taken
returns-clause-taken g c =
    rw c.loadu64.ensures (reads_number big_number 8 (big_from-append 8) _ _ c.read_exact.new.buf c.read_exact.auto.buf c.in_ok-read_exact.ensures.taken)
