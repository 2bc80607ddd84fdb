-- The files of a run of `rename`.
use Rattle.std.specs.Prelude.{◌≡◌, ℕ, Bool, true, false, not, ◌&&◌, if◌then◌else◌, All, List, [], ◌∷◌, ◌++◌, Option, Some, None, Result, Ok, Err, map, slice_get, string_bytes}
use Rattle.std.specs.Global.{Global}
use Rattle.std.specs.List.{flat_map}
use Rattle.std.specs.declared.io.Error as io
use Rattle.std.specs.declared.string.String.{String}
use Rattle.exif_rename.specs.Grouped.{Named}
use Rattle.exif_rename.specs.declared.together.Place.{Place}
use Rattle.exif_inputs.specs.declared.pending.Next.{Next}
use Rattle.exif_inputs.specs.declared.pending.Next.TheVariants as next
use Rattle.exif_rename_commands.specs.Entries.{entry_at}
use Rattle.exif_rename_commands.specs.declared.gathering.Member.{Member}
use Rattle.exif_rename_commands.specs.declared.gathering.NextStep.{NextStep}
use Rattle.exif_rename_commands.specs.declared.gathering.NextStep.TheVariants.{Add, RefuseInput, Refuse}
use Rattle.exif_rename_commands.specs.declared.members.Kind.{Kind}
use Rattle.exif_rename_commands.specs.declared.members.Kind.TheVariants.{Picture, Beside}

-- Each file is one of the run: a picture that was named or found, or what goes with pictures.
-- Standard input has no name that could be another, and a name that can't be followed no file.
abbrev pub step_of : Next → NextStep
step_of next.Input = RefuseInput
step_of (next.Named path) = Add path Picture
step_of (next.Found path) = Add path Picture
step_of (next.Beside path why) = Add path (Beside why)
step_of (next.Failed path cause) = Refuse path cause

-- a file is added once, by where the links of its path end
abbrev pub with_member : (List ℕ → Bool) → Member → List Member → List Member
with_member is_seen member members =
    if is_seen (string_bytes member.key) then members else members ++ (member ∷ [])

-- the file of a path whose links end at a key, or why it is none
abbrev pub member_of : String Global → Kind → Result (String Global) io.Error
    → Result Member (String Global × io.Error)
member_of path kind (Ok key) = Ok (record { path = path; key = key; kind = kind })
member_of path kind (Err cause) = Err (path, cause)

-- what can't be told is not so
abbrev pub is_told : Result Bool io.Error → Bool
is_told (Ok is_so) = is_so
is_told (Err cause) = false

abbrev pub listed : Option Member → List Member
listed None = []
listed (Some member) = member ∷ []

-- the file at a place, if there is one
abbrev pub member_at : List Member → Place → List Member
member_at members place = listed (slice_get members place.index)

-- the files at places, in their order
abbrev pub members_by : List Member → List Place → List Member
members_by members places = flat_map (member_at members) places

-- ---- sidecars, which are looked for beside pictures

-- a path, if something has it
abbrev pub if_there : Bool → List ℕ → Option (List ℕ)
if_there is_there key = if is_there then Some key else None

-- a sidecar that is there and no file of the run yet is one
abbrev pub with_sidecar : (List ℕ → Bool) → Bool → List ℕ → List Named → List Named
with_sidecar is_seen is_there key files =
    if is_there && not (is_seen key) then files ++ ((key, true) ∷ []) else files

-- Sidecars are added behind the files, which stay. None of them was a file of the run.
pub record AddsSidecars (is_seen : List ℕ → Bool) (old new : List Member) : Type 0 where
  pub keys : List (List ℕ)
  pub added : map entry_at new ≡ map entry_at old ++ map (λ key. (key, true)) keys
  pub unseen : All (λ key. is_seen key ≡ false) keys
