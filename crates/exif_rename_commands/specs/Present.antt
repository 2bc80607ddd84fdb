-- Files whose bytes have one of their new names already, and moves that were begun.
use Rattle.std.specs.Prelude.{◌≡◌, ℕ, ◌<◌, Bool, true, not, if◌then◌else◌, ⊤, List, ◌++◌, codes, filter, map, length, nat_lt, Option, Some, None, slice_get, slice_index_or, string_bytes, zip}
use Rattle.std.specs.BTreeMap.{BTreeMap, get_by_text}
use Rattle.std.specs.Global.{Global}
use Rattle.std.specs.declared.string.String.{String}
use Rattle.std.specs.declared.vec.Vec.{Vec}
use Rattle.std.specs.Option.{option_map}
use Rattle.exif_files.specs.NewNames.{IsThere as HasFile, IsGone}
use Rattle.exif_files.specs.States.{State}
use Rattle.exif_rename.specs.Present.{all_there}
use Rattle.exif_rename.specs.RenameRequests.{Wanted, move_of, moves_by}
use Rattle.exif_rename.specs.declared.present.Held.{Held}
use Rattle.exif_rename.specs.declared.present.Held.TheVariants.{Nothing, Itself, Other}
use Rattle.exif_rename.specs.declared.present.Presence.{Presence}
use Rattle.exif_rename.specs.declared.request.Move.{Move}
use Rattle.exif_rename_commands.specs.declared.present.Found.{Found}
use Rattle.exif_rename_commands.specs.declared.present.There.{There}

-- the moves of all files of a stem by one number of their new name
pub record AreMovesBy (wanted : Wanted) (number : ℕ) (moves : List Move) : Type 0 where
  pub by : map move_of moves ≡ moves_by wanted number
  pub all : length moves ≡ length wanted.files

abbrev pub AreMoves : Wanted → List Move → Type 0
AreMoves wanted moves = (number : ℕ) × AreMovesBy wanted number moves

-- the new path of the first file that is no sidecar
abbrev pub new_path_at : ℕ → List Move → Option (List ℕ)
new_path_at sidecars moves = option_map (λ move. string_bytes move.to) (slice_get moves sidecars)

-- of each of the files whether it is a sidecar, which the first so many are
pub record ArePresences (sidecars : ℕ) (moves : List Move) (found : List Presence) : Type 0 where
  pub all : length found ≡ length moves
  pub sidecar : (index : ℕ) (other : Presence) → index < length moves
      → (slice_index_or found index other).is_sidecar ≡ nat_lt index sidecars

-- the files of which none of the same bytes has the new path, in their order
abbrev pub differing_of : List Move → List Presence → List Move
differing_of moves found =
    map (λ pair. pair.0) (filter (λ pair. not pair.1.is_same) (zip moves found))

-- Files are there by one number of their new name: each but a sidecar has its bytes there. Those
-- that differ are named.
pub record IsThere (sidecars : ℕ) (wanted : Wanted) (there : There) : Type 0 where
  pub number : ℕ
  pub moves : List Move
  pub found : List Presence
  pub by : AreMovesBy wanted number moves
  pub each : ArePresences sidecars moves found
  pub all : all_there found ≡ true
  pub to : Some (string_bytes there.to) ≡ new_path_at sidecars moves
  pub differing : there.differing.items ≡ differing_of moves found

-- ---- moves that were cut off

-- one file has both names
abbrev pub IsOneFile : List ℕ → List ℕ → State → Type 0
IsOneFile from to s = (s.at from ≡ s.at to) × HasFile to s

-- what has the new path of a file
abbrev pub IsHeld : List ℕ → List ℕ → Held → State → Type 0
IsHeld from to Nothing s = IsGone to s
IsHeld from to Itself s = IsOneFile from to s
IsHeld from to Other s = ⊤

-- ---- what is known of the numbered paths of names

-- a file, if it is a regular one
abbrev pub if_regular : Bool → Found → Option Found
if_regular is_file found = if is_file then Some found else None

-- a name and an ending as one text: a line for the name
abbrev pub key_by : List ℕ → List ℕ → List ℕ
key_by base ending = base ++ (codes "\n" ++ ending)

-- the files of a name and an ending by number, if they were looked for
abbrev pub found_by : BTreeMap (String Global) (Vec (Option Found) Global) → List ℕ → List ℕ
    → Option (List (Option Found))
found_by known base ending =
    option_map (λ found. found.items) (get_by_text known (key_by base ending))
