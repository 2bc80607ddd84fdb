use Rattle.std.proofs.Common.{◌≡◌, ◌+◌, ◌-◌, ◌<◌, ◌≤◌, ℕ, zero, suc, List, length, slice_index, subst, arith}
use Rattle.std.specs.Str.{IsCharBoundary, IsUtf8}
use Rattle.std.proofs.lemmas.Str.{IsCharBoundary-after_ascii, IsCharBoundary-start}
use Rattle.exif_decisions.proofs.paths.name_of.Goals as goal

-- a text may be cut at its start, and behind a `/`
boundary : (path : List ℕ) (n : ℕ) → IsUtf8 path → n ≤ length path → (0 < n → slice_index path (n - 1) ≡ 47) → IsCharBoundary path n
boundary path zero utf8 le slash = IsCharBoundary-start path utf8
boundary path (suc n) utf8 le slash =
    let here : suc n - 1 ≡ n = omega arith in
    let next : n + 1 ≡ suc n = omega arith in
    let P : ℕ → Type 0 = λ m. slice_index path m ≡ 47 in
    let Q : ℕ → Type 0 = λ m. IsCharBoundary path m in
    let is = subst P here (slash (omega arith)) in
    subst Q next (IsCharBoundary-after_ascii path n utf8 (omega arith) (omega (arith, is)))

pub split_at-requires : goal.split_at-requires
split_at-requires c =
    let P : List ℕ → Type 0 = λ bytes. IsCharBoundary bytes c.name_start.result in
    subst P c.as_bytes.ensures.value (boundary c.as_bytes.result.now c.name_start.result c.as_bytes.ensures.utf8 c.name_start.ensures.within c.name_start.ensures.slash)
