-- Digits are UTF-8.
use Rattle.std.proofs.Common.{◌≡◌, ℕ, ◌<◌, ◌≤◌, List, length, true, arith, ⊎_elim}
use Rattle.std.proofs.lemmas.Bool.{cases_lt}
use Rattle.std.proofs.lemmas.List.{get_or_past}
use Rattle.std.proofs.lemmas.Str.{IsUtf8-from_ascii}
use Rattle.std.specs.Char.{is_ascii_digit}
use Rattle.std.specs.List.{list_all}
use Rattle.std.specs.Str.{IsUtf8}
use Rattle.exif_text.proofs.SubsecLemmas.{digit_in_range}

pub digits_are_utf8 : (ds : List ℕ) → list_all is_ascii_digit ds ≡ true → IsUtf8 ds
digits_are_utf8 ds all =
    IsUtf8-from_ascii ds (λ i. ⊎_elim
    (λ (within : i < length ds). omega (arith, digit_in_range ds i all within))
    (λ (past : length ds ≤ i). omega (arith, get_or_past ds i 0 past))
    (cases_lt i (length ds)))
