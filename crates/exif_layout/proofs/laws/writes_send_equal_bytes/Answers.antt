use Rattle.std.proofs.Common.{◌∙◌, sym}
use Rattle.std.proofs.lemmas.List.{append_cancel_left}
use Rattle.exif_layout.specs.Image.{image}
use Rattle.exif_layout.proofs.laws.writes_send_equal_bytes.Goals as goal

pub returns : goal.returns
returns c order groups old more old' more' first second =
    append_cancel_left old more (image order groups) first ∙ sym (append_cancel_left old' more' (image order groups) second)
