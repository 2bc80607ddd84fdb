-- The boxes of a file in the code, as definitions see them.
use Rattle.exif_isobmff.specs.declared.file.FileBox.{FileBox}
use Rattle.exif_isobmff.specs.Boxes.{Part}

-- a box of a file as a part
abbrev pub file_box_view : FileBox → Part
file_box_view b = record { kind = b.kind; len = b.len; body = b.body.now }
