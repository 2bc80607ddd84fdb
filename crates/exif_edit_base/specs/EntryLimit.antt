-- A limit on the entries of data that are edited.
use Rattle.std.specs.Prelude.{ℕ, nat_lt, Bool, true, false, List, Option, Some, None, Result}
use Rattle.exif_tiff.specs.Trace.{trace, visits_of}
use Rattle.exif_tiff.specs.declared.fault.Fault.{Fault}
use Rattle.exif_tiff.specs.declared.fault.Fault.TheVariants.{TooManyEntries}
use Rattle.exif_edit_base.specs.Causes.{Cause, of_data, unless, wrong_header, ◌>>=◌}
use Rattle.exif_edit_base.specs.Readings.{Read, reading}

-- whether a fault is that of a limit
abbrev pub is_limit_fault : Fault → Bool
is_limit_fault TooManyEntries = true
is_limit_fault _ = false

-- whether reading visits more entries than so many
abbrev pub has_more : ℕ → List ℕ → Bool
has_more limit bytes = nat_lt limit (visits_of (trace bytes))

-- whether it visits more than a limit, if there is one
abbrev pub exceeds : Option ℕ → List ℕ → Bool
exceeds None bytes = false
exceeds (Some limit) bytes = has_more limit bytes

-- nothing, unless the data have more entries than a limit
abbrev pub within_limit : Option ℕ → List ℕ → Result (Unit {0}) Cause
within_limit limit bytes = unless (exceeds limit bytes) (wrong_header TooManyEntries)

-- an answer, unless the data have more entries than a limit
abbrev pub limited : {A : Type 0} → Option ℕ → List ℕ → Result A Cause → Result A Cause
limited limit bytes answer = within_limit limit bytes >>= λ u. answer

-- what data hold, unless they have more entries than a limit
abbrev pub limited_reading : Option ℕ → List ℕ → Result Read Cause
limited_reading limit bytes = limited limit bytes (of_data (reading bytes))
