-- Answers as definitions give them.
use Rattle.std.specs.Prelude.{Result, Ok, Err}

-- an answer whose value is seen by a function; an error is the same
abbrev pub ok_as : {T U E : Type 0} → (T → U) → Result T E → Result U E
ok_as view (Ok value) = Ok (view value)
ok_as view (Err error) = Err error
