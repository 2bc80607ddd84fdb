use Rattle.std.proofs.Common.{◌≡◌, ◌++◌, drop}
use Rattle.std.specs.List.{filter_map}
use Rattle.exif_base.specs.Orders.{number_of}
use Rattle.exif_thumbnails.specs.Previews.{preview_in}
use Rattle.exif_thumbnails.proofs.previews.previews_of.Given as goal

-- what is left of the directories adds what all of them do
abbrev pub invariant-loop-directory : goal.invariant-loop-directory
invariant-loop-directory l =
    l.places.items
    ++ filter_map (preview_in (number_of l.order) l.bytes) (drop l.directory-index l.directories)
    ≡ filter_map (preview_in (number_of l.order) l.bytes) l.directories
