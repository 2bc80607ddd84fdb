-- Without their offsets, the located fields are those of the trace.
use Rattle.std.proofs.Common.{◌≡◌, ◌==◌, ℕ, Bool, true, false, if◌then◌else◌, List, [], ◌∷◌, map, Result, Ok, Err, refl, ap}
use Rattle.exif_base.specs.Bytes.{Reading}
use Rattle.exif_tiff.specs.declared.fault.Fault.{Fault}
use Rattle.exif_tiff.specs.declared.fault.Fault.TheVariants.{UnexpectedNext}
use Rattle.exif_tiff.specs.Trace.{Found, Located, Met, Node, Opens, Visit, child_end, fields_of, located_of, ordered_trace, trace}
use Rattle.exif_edit_base.specs.Locations.{LocatesWhatIsRead, located}

-- the fields of nodes
fields_in : (nodes : List Node)
    → map (λ (l : Located). l.field) (located_of nodes) ≡ fields_of nodes
fields_in [] = refl
fields_in (Opens directory ∷ nodes) = fields_in nodes
fields_in (Visit ∷ nodes) = fields_in nodes
fields_in (Found l ∷ nodes) = ap (λ fields. l.field ∷ fields) (fields_in nodes)
fields_in (Met fault ∷ nodes) = fields_in nodes

-- the end of a child adds no field
pub end_has_none : (x : Result ℕ Fault) → fields_of (child_end x) ≡ []
end_has_none (Err fault) = refl
end_has_none (Ok next) = by_zero (next == 0)
  where
    by_zero : (b : Bool) → fields_of (if b then [] else Met UnexpectedNext ∷ []) ≡ []
    by_zero true = refl
    by_zero false = refl

-- however numbers are read, the located fields without offsets are those of the trace
pub ordered_fields : (number : Reading) (bytes : List ℕ)
    → map (λ (l : Located). l.field) (located_of (ordered_trace number bytes))
    ≡ fields_of (ordered_trace number bytes)
ordered_fields number bytes = fields_in (ordered_trace number bytes)

-- the same of all data, read in the byte order that their header names
pub located_fields : (bytes : List ℕ) → LocatesWhatIsRead bytes
unfolding located
located_fields bytes = fields_in (trace bytes)
