-- The last field of a name, found from the first one on.
use Rattle.std.proofs.Common.{◌≡◌, ℕ, Bool, true, false, cond, List, [], ◌∷◌, Option, Some, None, refl, ap, sym, ◌∙◌}
use Rattle.std.specs.Prelude.{find, reverse, if◌then◌else◌}
use Rattle.std.specs.Option.{option_and_then}
use Rattle.std.proofs.lemmas.List.{reverse-append}
use Rattle.exif_types.specs.Lookup.{is_named}
use Rattle.exif_types.specs.Numbers.{number_in}
use Rattle.exif_types.specs.declared.field.Field.{Field}
use Rattle.exif_types.proofs.LawsLemmas.{find_one_more, or_else}
use Rattle.exif_data_locations.specs.Thumbnails.{chain_tag, number_named, second}

-- the number of the last field of a name, or this one where none has it
abbrev pub number_or : Option ℕ → ℕ → List Field → Option ℕ
number_or last number [] = last
number_or last number (f ∷ fields) =
    number_or (if is_named (chain_tag number) second f then number_in f.value 0 else last) number fields

-- the number of a field, or this one
abbrev of_found : Option ℕ → Option Field → Option ℕ
of_found last None = last
of_found last (Some f) = number_in f.value 0

found_or : (last : Option ℕ) (f : Field) (b : Bool) (o : Option Field)
    → of_found last (or_else o (cond b (Some f) None)) ≡ of_found (if b then number_in f.value 0 else last) o
found_or last f b (Some g) = refl
found_or last f true None = refl
found_or last f false None = refl

or_found : (fields : List Field) (last : Option ℕ) (number : ℕ)
    → of_found last (find (is_named (chain_tag number) second) (reverse fields)) ≡ number_or last number fields
or_found [] last number = refl
or_found (f ∷ fields) last number =
    let p = is_named (chain_tag number) second in
    ap (of_found last) (ap (find p) (reverse-append (f ∷ []) fields) ∙ find_one_more p (reverse fields) f)
    ∙ (found_or last f (p f) (find p (reverse fields))
    ∙ or_found fields (if p f then number_in f.value 0 else last) number)

by_option : (o : Option Field) → of_found None o ≡ option_and_then (λ (f : Field). number_in f.value 0) o
by_option None = refl
by_option (Some f) = refl

-- from the first one on
pub from_first : (number : ℕ) (fields : List Field) → number_or None number fields ≡ number_named number fields
from_first number fields =
    sym (or_found fields None number) ∙ by_option (find (is_named (chain_tag number) second) (reverse fields))
