use Rattle.std.proofs.Common.{◌≡◌, drop}
use Rattle.exif_xml.specs.declared.characters.Expected.TheVariants.{First}
use Rattle.exif_xml.specs.Characters.{invalid_from}
use Rattle.exif_xml.proofs.characters.invalid_character.Given as goal

abbrev pub invariant-loop-i : goal.invariant-loop-i
invariant-loop-i l = invalid_from First 0 0 l.document ≡ invalid_from l.expected l.begun l.i (drop l.i l.document)
