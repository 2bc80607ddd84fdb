-- The steps of setting several fields.
use Rattle.std.proofs.Common.{◌≡◌, ◌<◌, ◌+◌, ℕ, List, ◌∷◌, length, get_or, drop, Result, Ok, Err, refl, sym, ap, ◌∙◌}
use Rattle.exif_types.specs.declared.field.Field.{Field}
use Rattle.exif_edit_base.specs.Causes.{Cause, ◌>>=◌}
use Rattle.exif_edit_base.proofs.ChangeSteps.{left_step}
use Rattle.exif_grow.specs.Alike.{made_alike}
use Rattle.exif_grow.specs.Growing.{Added, grown}
use Rattle.exif_grow.specs.Setting.{grow_answer}
use Rattle.exif_grow.specs.Fields.{field_grown, fields_grown}

-- where a value is set, its fields are made alike
pub field_set : (field : Field) (bytes : List ℕ) (a : Added)
    → grow_answer bytes field.tag field.ifd_num field.value ≡ Ok a
    → field_grown field bytes ≡ made_alike (grown a bytes) field.tag field.ifd_num
unfolding field_grown
field_set field bytes a h = rw h refl

-- one that is refused
pub field_refused : (field : Field) (bytes : List ℕ) (c : Cause)
    → grow_answer bytes field.tag field.ifd_num field.value ≡ Err c
    → field_grown field bytes ≡ Err c
unfolding field_grown
field_refused field bytes c h = rw h refl

-- one field of several
pub fields_step : (fields : List Field) (i : ℕ) (x : Field) (bytes new : List ℕ)
    (all : Result (List ℕ) Cause)
    → i < length fields → x ≡ get_or fields i x → field_grown x bytes ≡ Ok new
    → fields_grown (drop i fields) bytes ≡ all → fields_grown (drop (i + 1) fields) new ≡ all
fields_step fields i x bytes new all l is h inv =
    let a : fields_grown (x ∷ drop (i + 1) fields) bytes ≡ all =
    rw (left_step fields i x l is) at inv in
    sym (ap (λ r. r >>= fields_grown (drop (i + 1) fields)) h) ∙ a

-- one that is refused
pub fields_refused : (fields : List Field) (i : ℕ) (x : Field) (bytes : List ℕ) (c : Cause)
    (all : Result (List ℕ) Cause)
    → i < length fields → x ≡ get_or fields i x → field_grown x bytes ≡ Err c
    → fields_grown (drop i fields) bytes ≡ all → all ≡ Err c
fields_refused fields i x bytes c all l is h inv =
    let a : fields_grown (x ∷ drop (i + 1) fields) bytes ≡ all =
    rw (left_step fields i x l is) at inv in
    sym a ∙ ap (λ r. r >>= fields_grown (drop (i + 1) fields)) h
