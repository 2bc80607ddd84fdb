use Rattle.std.proofs.Common.{◌≡◌, ◌++◌, drop, map}
use Rattle.std.specs.List.{flat_map}
use Rattle.exif_rename_commands.specs.Gathered.{member_at}
use Rattle.exif_rename_commands.proofs.gathering.members_at.Given as goal

-- the files so far, and those at the places that are left, are all
abbrev pub invariant-loop-place : goal.invariant-loop-place
invariant-loop-place l =
    map (λ member. member.now) l.together.items ++ flat_map (member_at l.members) (drop l.place-index l.places)
    ≡ flat_map (member_at l.members) l.places
