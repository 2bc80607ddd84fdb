-- A picture that gets another location.
use Rattle.std.specs.Prelude.{◌≡◌, ℕ, ◌+◌, List, [], length, map, Option, Result, Ok, Err}
use Rattle.exif_change.specs.Changed.{Undone, undone_of}
use Rattle.exif_change.specs.Refusals.{Reason, ◌>>=◌}
use Rattle.exif_setting.specs.Pictures.{picture_fields_set}
use Rattle.exif_types.specs.declared.field.Field.{Field}
use Rattle.exif_types.specs.declared.tag.Tag.{Tag}
use Rattle.exif_geotag.specs.Erasing.{all_erased}
use Rattle.exif_geotag.specs.declared.relocating.Relocated.{Relocated}

-- the new bytes, what was left undone of the fields, and which old fields stay
pub record Relocation : Type 0 where
  pub file : List ℕ
  pub undone : List (Option Undone)
  pub kept : List Tag

-- those that a call answers
abbrev pub relocation_of : Relocated → Relocation
relocation_of made = record {
  file = made.file.items;
  undone = map undone_of made.left.items;
  kept = made.kept.items;
}

-- a changed file without old fields, as far as they can be taken out
abbrev pub with_erased : List (Option Undone) → List ℕ × List Tag → Relocation
with_erased undone (file, kept) = record { file = file; undone = undone; kept = kept }

-- the fields are set, and then the old fields are taken out
abbrev pub relocated : List Field → List Tag → List ℕ → Result Relocation Reason
relocated fields stale file =
    picture_fields_set fields file
    >>= λ made. Ok (with_erased made.undone (all_erased stale (made.file, [])))

-- the new bytes alone
abbrev pub file_of : Result Relocation Reason → Result (List ℕ) Reason
file_of (Ok made) = Ok made.file
file_of (Err why) = Err why

-- how many things are left undone in the new file
abbrev pub undone_by : Result Relocation Reason → ℕ
undone_by (Ok made) = length made.undone + length made.kept
undone_by (Err why) = 0

abbrev pub undone_in : List Field → List Tag → List ℕ → ℕ
undone_in fields stale old = undone_by (relocated fields stale old)

-- the bytes of the new file are exactly these
abbrev pub IsRelocated : List Field → List Tag → List ℕ → List ℕ → Type 0
IsRelocated fields stale old new = file_of (relocated fields stale old) ≡ Ok new
