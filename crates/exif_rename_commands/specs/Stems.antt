-- The files of one stem, which get one new name.
use Rattle.std.specs.Prelude.{ℕ, ⊤, List, map, string_bytes}
use Rattle.std.specs.Borrow.{Bor}
use Rattle.exif_rename_commands.specs.Members.{left_as}
use Rattle.exif_rename_commands.specs.declared.gathering.Member.{Member}
use Rattle.exif_rename_commands.specs.declared.members.Kind.{Kind}
use Rattle.exif_rename_commands.specs.declared.members.Kind.TheVariants.{Picture, Beside, Sidecar}
use Rattle.exif_rename_commands.specs.declared.members.Leaving.{Leaving}

-- where the links of the files' paths end
abbrev pub keys_of : List (Bor Member) → List (List ℕ)
keys_of together = map (λ member. string_bytes member.now.key) together

-- what becomes of a file of a stem that gets no new name
abbrev pub left_by : Member → Leaving
left_by member = left_as member.kind (string_bytes member.path)

-- a file that gives no name
abbrev pub IsNone : Kind → Type 0
IsNone Picture = ⊥
IsNone (Beside why) = ⊤
IsNone Sidecar = ⊤

abbrev pub IsNoPicture : Bor Member → Type 0
IsNoPicture member = IsNone member.now.kind
