use Rattle.exif_change_laws.proofs.CopiedData.{Laws, found_again, read_as_before}
use Rattle.exif_change_laws.specs.Copies.{CopiedOnce}
use Rattle.exif_copy.specs.Found.{data_found, format_for}
use Rattle.exif_change_laws.proofs.copied.copied_data_are_read.Goals as goal

pub returns : goal.returns
returns c =
    let laws : Laws = record { file = c.file_answers_what_was_put.ensures; png = c.png_answers_what_was_put.ensures; jxl = c.jxl_answers_what_was_put.ensures } in
    record {
      bytes = λ (k : CopiedOnce). found_again laws k.from k.to k.new k.contents k.read k.made k.short;
      fields = λ (k : CopiedOnce).
          read_as_before k.from k.contents (data_found (format_for k.to) k.new) k.read
          (found_again laws k.from k.to k.new k.contents k.read k.made k.short);
    }
