-- What the subcommands ask for, by their names.
use Rattle.std.specs.Prelude.{ℕ, if◌then◌else◌, List, Result, codes}
use Rattle.std.specs.Str.{bytes_eq}
use Rattle.clap.specs.declared.parser.matches.ArgMatches.{ArgMatches}
use Rattle.exif_arguments.specs.Changes.{copy_asked, scrub_asked, set_asked, shift_asked}
use Rattle.exif_arguments.specs.Jobs.{catalog_asked, check_asked, geotag_asked, json_asked, rename_asked, show_asked, table_asked, thumbnail_asked, touch_asked}
use Rattle.exif_arguments.specs.Views.{TheRequest}

-- the request of a subcommand of this name
abbrev pub request_of : List ℕ → ArgMatches → Result TheRequest (List ℕ)
request_of name found =
    if bytes_eq name (codes "json") then json_asked found else
    if bytes_eq name (codes "table") then table_asked found else
    if bytes_eq name (codes "check") then check_asked found else
    if bytes_eq name (codes "scrub") then scrub_asked found else
    if bytes_eq name (codes "set") then set_asked found else
    if bytes_eq name (codes "shift") then shift_asked found else
    if bytes_eq name (codes "copy") then copy_asked found else
    if bytes_eq name (codes "rename") then rename_asked found else
    if bytes_eq name (codes "geotag") then geotag_asked found else
    if bytes_eq name (codes "touch") then touch_asked found else
    if bytes_eq name (codes "thumbnail") then thumbnail_asked found else
    if bytes_eq name (codes "catalog") then catalog_asked found else show_asked found
