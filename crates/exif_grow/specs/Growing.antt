-- Data that grow: patches over their bytes, and new bytes after them.
use Rattle.std.specs.Prelude.{ℕ, ◌%◌, List, [], ◌++◌, replicate, Result, Ok, Err, if◌then◌else◌}
use Rattle.exif_edit_base.specs.Causes.{Cause, shared}
use Rattle.exif_edit_base.specs.Patches.{patched}
use Rattle.exif_edit_base.specs.Readings.{Read, reads_as}
use Rattle.exif_edit_base.specs.declared.patch.Patch.{Patch}
use Rattle.exif_grow.specs.declared.growth.Growth.{Growth}

-- what is put over data, and what follows them
pub record Added : Type 0 where
  pub patches : List Patch
  pub tail : List ℕ

-- patches alone: the data do not become longer
abbrev pub in_place : List Patch → Added
in_place patches = record { patches = patches; tail = [] }

-- what the program adds
abbrev pub added_of : Growth → Added
added_of g = record { patches = g.patches.items; tail = g.tail.items }

-- the new data
abbrev pub grown : Added → List ℕ → List ℕ
grown a bytes = patched a.patches bytes ++ a.tail

-- bytes that follow data of a length at the next even offset (TIFF 6.0, section 2: an offset is on
-- a word boundary)
abbrev pub aligned : ℕ → List ℕ → List ℕ
aligned n bytes = replicate (n % 2) 0 ++ bytes

-- what is added, if the new data read as wanted
abbrev pub checked_growth : Read → List ℕ → Added → Result Added Cause
checked_growth read bytes a = if reads_as (grown a bytes) read then Ok a else Err shared

-- the first of two with which they do
abbrev pub first_read : Read → List ℕ → Added → Added → Result Added Cause
first_read read bytes a b =
    if reads_as (grown a bytes) read then Ok a else checked_growth read bytes b
