-- The metadata of one picture copied into another one: its Exif data, and what is selected.
use Rattle.std.specs.Prelude.{ℕ, List, Bool, Result, Ok, if◌then◌else◌}
use Rattle.exif_change.specs.Changed.{Change}
use Rattle.exif_change.specs.Refusals.{Reason, as_read, ◌>>=◌}
use Rattle.exif_copy.specs.Blocks.{packet_put, profile_put}
use Rattle.exif_copy.specs.Copied.{copied}
use Rattle.exif_copy.specs.declared.selected.Selection.{Selection}

-- a changed file with the packet of a picture, if it is requested
abbrev pub with_packet : Bool → List ℕ → Change → Result Change Reason
with_packet requested from change =
    if requested then as_read (packet_put from change) else Ok change

-- a changed file with its profile, if it is requested
abbrev pub with_color : Bool → List ℕ → Change → Result Change Reason
with_color requested from change =
    if requested then as_read (profile_put from change) else Ok change

-- a picture with what is selected of another one
abbrev pub selected : Selection → List ℕ → List ℕ → Result Change Reason
selected selection from to =
    copied selection.shape from to
    >>= with_packet selection.xmp from
    >>= with_color selection.color_profile from
