-- How many entries a reading may visit.
use Rattle.std.specs.Prelude.{ℕ, ◌+◌, ◌*◌, ◌/◌, ◌<◌, ◌≤◌, min, List, length, slice_index, Option}
use Rattle.exif_tiff.specs.Trace.{Node, trace, visits_of, fields_of, faults_of, cut, limited}

-- the most entries that one directory of the data can have whole
abbrev pub entries_at_most : List ℕ → ℕ
entries_at_most bytes = min 65535 (length bytes / 12)

-- eight directories, each with entries, children of these and children of those
abbrev pub visits_at_most : List ℕ → ℕ
visits_at_most bytes = let n = entries_at_most bytes in 8 * (n + n * n + n * n * n)

-- each number of a list is one of a byte
abbrev pub AreBytes : List ℕ → Type 0
AreBytes bytes = (i : ℕ) → slice_index bytes i < 256

-- the visits of data are bounded by their length
abbrev pub VisitsAreBounded : List ℕ → Type 0
VisitsAreBounded bytes = AreBytes bytes → visits_of (trace bytes) ≤ visits_at_most bytes

-- how many fields and faults nodes hold
abbrev pub reports_of : List Node → ℕ
reports_of nodes = length (fields_of nodes) + length (faults_of nodes)

-- each field and fault, but for one, has an entry of its own
abbrev pub ReportsAreBounded : List ℕ → Type 0
ReportsAreBounded bytes = reports_of (trace bytes) ≤ visits_of (trace bytes) + 1

-- so under any limit
abbrev pub ReportsAreBoundedUnder : Option ℕ → List ℕ → Type 0
ReportsAreBoundedUnder limit bytes =
    reports_of (limited limit (trace bytes)) ≤ visits_of (limited limit (trace bytes)) + 1

-- with a limit, the fields and the faults together are at most one more than it
abbrev pub LimitBoundsReports : ℕ → List ℕ → Type 0
LimitBoundsReports n bytes = reports_of (cut n (trace bytes)) ≤ n + 1

-- and one more than what the length of the data allows
abbrev pub LimitAndLengthBoundReports : ℕ → List ℕ → Type 0
LimitAndLengthBoundReports n bytes =
    AreBytes bytes → reports_of (cut n (trace bytes)) ≤ min (n + 1) (visits_at_most bytes + 1)
