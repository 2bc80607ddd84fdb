-- What an edit means to do: its patches, and how the data must be read with them.
use Rattle.std.specs.Prelude.{◌≡◌, Bool, true, ℕ, List, Result, Ok, Err, if◌then◌else◌}
use Rattle.exif_edit_base.specs.Causes.{Cause, Fails, shared, ◌>>=◌}
use Rattle.exif_edit_base.specs.Patches.{patched}
use Rattle.exif_edit_base.specs.Readings.{read_of, reads_as}
use Rattle.exif_edit_base.specs.declared.error.Error.{Error}
use Rattle.exif_edit_base.specs.declared.patch.Patch.{Patch}
use Rattle.exif_edit_base.specs.Rereading.{clears, still_reads}
use Rattle.exif_edit_base.specs.declared.plan.Plan.{Plan}
use Rattle.exif_edit_base.specs.declared.plan.Wanted.{Wanted}
use Rattle.exif_edit_base.specs.declared.plan.Wanted.TheVariants.{Anything, Same, Cleared, Left}

-- whether data are read as it is wanted
abbrev pub is_read : List ℕ → Wanted → Bool
is_read bytes Anything = true
is_read bytes (Same parsed) = reads_as bytes (read_of parsed)
is_read bytes (Cleared parsed) = clears bytes (read_of parsed)
is_read bytes (Left parsed) = still_reads bytes (read_of parsed)

-- patches, if what they make is read as it is wanted
abbrev pub if_read : Wanted → List ℕ → List Patch → Result (List Patch) Cause
if_read wanted bytes patches =
    if is_read (patched patches bytes) wanted then Ok patches else Err shared

-- the patches of a plan, if what they make is read as it is wanted
unfoldable pub planned : List ℕ → Plan → Result (List Patch) Cause
planned bytes plan = if_read plan.wanted bytes plan.patches.items

-- the data with them
abbrev pub carried_out : List ℕ → Plan → Result (List ℕ) Cause
carried_out bytes plan = planned bytes plan >>= λ patches. Ok (patched patches bytes)

-- a plan, whose patches are the answer if what they make is read as it is wanted
abbrev pub Plans : Result Plan Error → List ℕ → Result (List Patch) Cause → Type 0
Plans (Ok plan) bytes answer = planned bytes plan ≡ answer
Plans (Err e) bytes answer = Fails e answer
