use Rattle.std.proofs.Common.{◌≡◌, drop}
use Rattle.exif_columns.specs.Names.{names_seen, tags_from}
use Rattle.exif_columns.proofs.Naming.{onto}
use Rattle.exif_columns.proofs.names.tags_from.Given as goal

-- the tags so far are in front of those of the other names
abbrev pub invariant-loop-name : goal.invariant-loop-name
invariant-loop-name l =
    tags_from (names_seen l.names) ≡ onto l.tags.items (tags_from (names_seen (drop l.name-index l.names)))
