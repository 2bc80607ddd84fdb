use Rattle.std.proofs.Common.{◌≡◌, map, take}
use Rattle.exif_rename_commands.specs.Stems.{keys_of}
use Rattle.exif_rename_commands.proofs.stems.request_in.Given as goal

-- the paths so far are those of the files so far
abbrev pub invariant-loop-member : goal.invariant-loop-member
invariant-loop-member l = map (λ path. path.now) l.paths.items ≡ keys_of (take l.member-index l.together)
