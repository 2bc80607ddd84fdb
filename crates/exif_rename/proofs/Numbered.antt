-- What lies between a base and an ending in the path of a number.
use Rattle.std.proofs.Common.{◌≡◌, ℕ, List, [], ◌++◌, Bool, true, false, cond, ◌⊎◌, inl, inr, ap, sym, refl, ◌∙◌, append_assoc}
use Rattle.std.proofs.lemmas.List.{append-nil, append_cancel_left, append_cancel_right}
use Rattle.std.specs.Char.{encode_utf8}
use Rattle.std.specs.Prelude.{◌==◌, codes}
use Rattle.std.specs.Fmt.{decimal}
use Rattle.exif_rename.specs.RenameRequests.{candidate}

underscore : codes "_" ≡ encode_utf8 95
unfolding lib.Utf8.encode
underscore = refl

-- nothing at 0, and else `_` and the number
pub middle_is : (path base rest middle ending : List ℕ) (number : ℕ) → path ≡ base ++ rest → rest ≡ middle ++ ending → path ≡ candidate base number ++ ending
    → (middle ≡ []) ⊎ (middle ≡ encode_utf8 95 ++ decimal number)
middle_is path base rest middle ending number front back e =
    let whole : (base ++ middle) ++ ending ≡ candidate base number ++ ending = append_assoc base middle ending ∙ ap (λ r. base ++ r) (sym back) ∙ sym front ∙ e in
    let name : base ++ middle ≡ candidate base number = append_cancel_right (base ++ middle) (candidate base number) ending whole in
    let by : (b : Bool) → cond b base (base ++ (codes "_" ++ decimal number)) ≡ base ++ middle → (middle ≡ []) ⊎ (middle ≡ encode_utf8 95 ++ decimal number) = λ b.
    elim b as (λ v. cond v base (base ++ (codes "_" ++ decimal number)) ≡ base ++ middle → (middle ≡ []) ⊎ (middle ≡ encode_utf8 95 ++ decimal number)) [
      | true ↦ λ h. inl (append_cancel_left base middle [] (sym h ∙ sym (append-nil base)))
      | false ↦ λ h. inr (sym (append_cancel_left base (codes "_" ++ decimal number) middle h) ∙ ap (λ u. u ++ decimal number) underscore)
    ] in
    by (number == 0) (sym name)
