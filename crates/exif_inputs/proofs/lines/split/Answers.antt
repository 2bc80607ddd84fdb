use Rattle.std.proofs.Common.{◌≡◌, ◌+◌, ◌-◌, ◌<◌, ◌≤◌, ℕ, zero, suc, List, length, slice_index, subst, arith}
use Rattle.std.specs.Str.{IsCharBoundary, IsUtf8}
use Rattle.std.proofs.lemmas.Str.{IsCharBoundary-after_ascii, IsCharBoundary-start}
use Rattle.exif_inputs.proofs.lines.split.Goals as goal

-- a text may be cut at its start, and behind a space
boundary : (line : List ℕ) (n : ℕ) → IsUtf8 line → n ≤ length line → (0 < n → slice_index line (n - 1) ≡ 32) → IsCharBoundary line n
boundary line zero utf8 le space = IsCharBoundary-start line utf8
boundary line (suc n) utf8 le space =
    let here : suc n - 1 ≡ n = omega arith in
    let next : n + 1 ≡ suc n = omega arith in
    let P : ℕ → Type 0 = λ m. slice_index line m ≡ 32 in
    let Q : ℕ → Type 0 = λ m. IsCharBoundary line m in
    let is = subst P here (space (omega arith)) in
    subst Q next (IsCharBoundary-after_ascii line n utf8 (omega arith) (omega (arith, is)))

pub split_at-requires : goal.split_at-requires
split_at-requires c =
    let P : List ℕ → Type 0 = λ bytes. IsCharBoundary bytes c.name_len.result in
    subst P c.as_bytes.ensures.value (boundary c.as_bytes.result.now c.name_len.result c.as_bytes.ensures.utf8 c.name_len.ensures.within c.name_len.ensures.space)
