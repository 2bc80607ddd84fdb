use Rattle.std.proofs.Common.{◌≡◌, sym, ◌∙◌, subst}
use Rattle.std.specs.Str.{IsUtf8}
use Rattle.exif_rename.proofs.LineTexts.{if_read, line_utf8}
use Rattle.exif_rename.proofs.lines.step_of.Goals as goal

pub returns-in-Ok : goal.returns-in-Ok
returns-in-Ok c = if_read c.args.line.now c.in-Ok.line.now c.parse_line.result c.in-Ok.ensures.cases.0 c.parse_line.ensures.back c.parse_line.ensures.only

pub returns-in-Err : goal.returns-in-Err
returns-in-Err c = λ step e. c.in-Err.ensures.cases.0 (subst IsUtf8 (sym e) (line_utf8 step))
