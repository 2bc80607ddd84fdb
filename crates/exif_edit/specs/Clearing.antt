-- All fields erased: the header stays, and no directory is left.
use Rattle.std.specs.Prelude.{◌≡◌, ℕ, ◌-◌, ◌≤◌, nat_lt, List, [], ◌∷◌, length, slice_index, Bool, None, Result, Ok, if◌then◌else◌}
use Rattle.exif_base.specs.declared.endian.Order.{Order}
use Rattle.exif_tiff.specs.Answers.{Whole, raw_answer}
use Rattle.exif_tiff.specs.Trace.{header}
use Rattle.exif_layout.specs.Encoding.{spelled}
use Rattle.exif_edit_base.specs.Causes.{Cause, of_data, ◌>>=◌}
use Rattle.exif_edit_base.specs.Patches.{patched, zeros_over}
use Rattle.exif_edit_base.specs.declared.patch.Patch.{Patch}

-- the offset of the directory of the chain then: behind the header, or 0 if there is no space
-- for its count and its next offset
abbrev pub empty_offset : ℕ → ℕ
empty_offset total = if nat_lt total 14 then 0 else 8

-- the offset of the first directory, and zeros behind the header
abbrev pub clearing : Order → ℕ → List Patch
clearing order total =
    record { offset = 4; bytes = spelled order 4 (empty_offset total) }
    ∷ zeros_over (record { offset = 8; len = total - 8 }) ∷ []

-- what erases all fields, or the fault of the header
unfoldable pub clear_patches : List ℕ → Result (List Patch) Cause
clear_patches bytes = do
  order ← of_data (header bytes)
  Ok (clearing order (length bytes))

-- the data without them
abbrev pub clear_answer : List ℕ → Result (List ℕ) Cause
clear_answer bytes = clear_patches bytes >>= λ patches. Ok (patched patches bytes)

-- the byte order and the number 42 stay, and the data hold no field and no fault
pub record IsCleared (old new : List ℕ) : Type 0 where
  pub as_long : length new ≡ length old
  pub header : header new ≡ header old
  pub zeros : (i : ℕ) → 8 ≤ i → slice_index new i ≡ 0
  pub reads : (lenient : Bool) → raw_answer lenient None new ≡ Whole []
