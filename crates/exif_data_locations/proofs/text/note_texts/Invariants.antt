use Rattle.std.proofs.Common.{◌≡◌, drop}
use Rattle.exif_data_locations.specs.Texts.{texts_noted}
use Rattle.exif_data_locations.proofs.text.note_texts.Given as goal

-- the fields that are left add to what was noted what all of them add to what was there
abbrev pub invariant-loop-field : goal.invariant-loop-field
invariant-loop-field l =
    texts_noted (drop l.field-index l.fields) l.whys.items ≡ texts_noted l.fields l.fn.whys.items
