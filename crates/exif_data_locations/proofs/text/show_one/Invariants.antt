use Rattle.std.proofs.Common.{◌≡◌, drop}
use Rattle.exif_data_locations.specs.Texts.{show_one}
use Rattle.exif_data_locations.proofs.text.show_one.Given as goal

-- none of the texts so far shows something
abbrev pub invariant-loop-text : goal.invariant-loop-text
invariant-loop-text l = show_one l.texts ≡ show_one (drop l.text-index l.texts)
