-- The ways in which a read falls short.
use Rattle.std.specs.Prelude.{⊤, Bool, true, false, Result, Ok, Err}
use Rattle.exif_base.specs.declared.read.ReadFault.{ReadFault}
use Rattle.exif_base.specs.declared.read.ReadFault.TheVariants.{End, Io, OutOfMemory}

-- P holds where the bytes ended too early
abbrev pub OnEnd : {T : Type 0} → Result T ReadFault → Type 0 → Type 0
OnEnd (Ok x) P = ⊤
OnEnd (Err End) P = P
OnEnd (Err (Io e)) P = ⊤
OnEnd (Err OutOfMemory) P = ⊤

-- the reader answered an error
abbrev pub is_io_fault : {T : Type 0} → Result T ReadFault → Bool
is_io_fault (Ok x) = false
is_io_fault (Err End) = false
is_io_fault (Err (Io e)) = true
is_io_fault (Err OutOfMemory) = false
