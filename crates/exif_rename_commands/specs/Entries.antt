-- The files of a run as the grouping sees them.
use Rattle.std.specs.Prelude.{string_bytes}
use Rattle.exif_rename.specs.Grouped.{Named}
use Rattle.exif_rename_commands.specs.Members.{is_sidecar}
use Rattle.exif_rename_commands.specs.declared.gathering.Member.{Member}

-- a file: the path where its links end, and whether it is a sidecar
abbrev pub entry_at : Member → Named
entry_at member = (string_bytes member.key, is_sidecar member.kind)
