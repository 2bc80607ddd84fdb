-- The parameters of the text that writes a row.
use Rattle.std.specs.Prelude.{Option, Some, None}
use Rattle.sqlite_value.specs.declared.value.ValueRef.{ValueRef}
use Rattle.sqlite_value.specs.declared.value.ValueRef.TheVariants as ref
use Rattle.exif_catalog.specs.Values.{Stored, integer, null, real, text}

-- a number goes in as its text, and the SQL makes it a number (`insert_text`)
abbrev pub parameter_of : Stored → Stored
parameter_of null = null
parameter_of (integer n) = integer n
parameter_of (real digits) = text digits
parameter_of (text bytes) = text bytes

-- what a parameter of SQLite binds, if it is one that a row has
abbrev pub bound : ValueRef → Option Stored
bound ref.Null = Some null
bound (ref.Int n) = Some (integer n)
bound (ref.Text t) = Some (text t.now)
bound (ref.Real x) = None
bound (ref.Blob b) = None
