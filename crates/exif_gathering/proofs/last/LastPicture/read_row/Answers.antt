use Rattle.std.proofs.Common.{rules}
use Rattle.exif_gathering.proofs.last.LastPicture.read_row.Goals as goal

pub returns : goal.returns
returns c = record {
  format = c.in_ok-format.format;
  answer = c.in_ok-format.answer;
  exif = c.in_ok-exif.exif;
  is = search rules;
  contents = search rules;
  format_is = search rules;
  reads = search rules;
}
