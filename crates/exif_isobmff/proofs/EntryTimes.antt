-- The last of the entries of an item, as a loop reads them.
use Rattle.std.proofs.Common.{◌≡◌, ℕ, ◌+◌, ◌-◌, ◌<◌, List, Option, Some, None, Result, Ok, refl, sym, subst}
use Rattle.std.specs.Option.{option_map, option_or, option_to_list}
use Rattle.exif_types.specs.Refusals.{Refusal, last_read, Front}
use Rattle.exif_isobmff.specs.Boxes.{times_joined}
use Rattle.exif_isobmff.proofs.LocationsTimes.{last_went_on}

same : {A : Type 0} (o : Option A) → option_map (λ x. x) o ≡ o
same None = refl
same (Some x) = refl

-- the next value gave at most one
pub entry_went_on : {A : Type 0} (value : List ℕ → Front (List A)) (found one : Option A) (count i : ℕ) (text rest : List ℕ) (total : Result (Option A) Refusal)
    → i < count → value text ≡ Ok (option_to_list one, rest)
    → last_read found (times_joined (count - i) value text) ≡ total
    → last_read (option_or one found) (times_joined (count - (i + 1)) value rest) ≡ total
entry_went_on value found one count i text rest total lt h so_far =
    subst (λ o. last_read o (times_joined (count - (i + 1)) value rest) ≡ total) (same (option_or one found))
    (last_went_on (λ x. x) value found one count i text rest total lt
    (subst (λ o. value text ≡ Ok (option_to_list o, rest)) (sym (same one)) h)
    (subst (λ o. last_read o (times_joined (count - i) value text) ≡ total) (sym (same found)) so_far))
