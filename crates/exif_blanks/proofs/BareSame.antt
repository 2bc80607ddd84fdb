-- Whether bytes are others without their metadata, step after step.
use Rattle.std.proofs.Common.{◌≡◌, ◌<◌, ◌≤◌, ◌+◌, ◌-◌, ℕ, Bool, true, false, ◌&&◌, List, [], ◌++◌, length, take, drop, replicate, refl, ap, sym, ◌∙◌, subst, arith, length-drop}
use Rattle.std.proofs.lemmas.List.{drop-drop, drop_all, length-replicate, length-take-le}
use Rattle.std.specs.Str.{bytes_eq}
use Rattle.exif_blanks.specs.HeifBlanks.{all_are}
use Rattle.exif_blanks.specs.Steps.{bared_from, step_of}
use Rattle.exif_blanks.specs.declared.steps.Place.{Place}
use Rattle.exif_blanks.specs.declared.steps.Step.{Step}
use Rattle.exif_blanks.proofs.BareSteps.{bared_on, bared_over}
use Rattle.exif_blanks.proofs.SameSteps.{all_same, split_eq}

and_of : (x y z : Bool) → (x && (y && z)) ≡ ((x && y) && z)
and_of true y z = refl
and_of false y z = refl

-- so many bytes at the front, then one byte again and again, and then more
three_eq : (front tail bytes : List ℕ) (kept len fill : ℕ) → length front ≡ kept → kept ≤ len → len ≤ length bytes
    → bytes_eq (front ++ (replicate (len - kept) fill ++ tail)) bytes
    ≡ ((bytes_eq front (take kept bytes) && all_are fill (take (len - kept) (drop kept bytes))) && bytes_eq tail (drop len bytes))
three_eq front tail bytes kept len fill is ordered within =
    let n = len - kept in
    let zeros : List ℕ = replicate n fill in
    let rest = drop kept bytes in
    let rest_long : length rest ≡ length bytes - kept = length-drop kept bytes in
    let zeros_long : length zeros ≡ n = length-replicate n fill in
    let middle_long : length (take n rest) ≡ n = length-take-le n rest (omega arith) in
    let behind : drop n rest ≡ drop len bytes = drop-drop n kept bytes ∙ ap (λ k. drop k bytes) (omega arith) in
    let middle : bytes_eq zeros (take n rest) ≡ all_are fill (take n rest) =
    ap (λ k. bytes_eq (replicate k fill) (take n rest)) (sym middle_long) ∙ sym (all_same fill (take n rest)) in
    let inner : bytes_eq (zeros ++ tail) rest ≡ (all_are fill (take n rest) && bytes_eq tail (drop len bytes)) =
    split_eq zeros tail rest (omega arith)
    ∙ ap (λ k. bytes_eq zeros (take k rest) && bytes_eq tail (drop k rest)) zeros_long
    ∙ ap (λ (b : Bool). b && bytes_eq tail (drop n rest)) middle
    ∙ ap (λ (bs : List ℕ). all_are fill (take n rest) && bytes_eq tail bs) behind in
    split_eq front (zeros ++ tail) bytes (omega arith)
    ∙ ap (λ k. bytes_eq front (take k bytes) && bytes_eq (zeros ++ tail) (drop k bytes)) is
    ∙ ap (λ (b : Bool). bytes_eq front (take kept bytes) && b) inner
    ∙ and_of (bytes_eq front (take kept bytes)) (all_are fill (take n rest)) (bytes_eq tail (drop len bytes))

-- one step, and then the bytes behind it
pub compared_on : (at : ℕ) (s : Place) (old new : List ℕ) (step : Step) → at < length old → length new ≡ length old
    → step ≡ step_of s (drop at old) → 0 < step.len → step.kept ≤ step.len → at + step.len ≤ length old
    → bytes_eq (bared_from (length (drop at old)) s (drop at old)) (drop at new)
    ≡ ((bytes_eq (take step.kept (drop at old)) (take step.kept (drop at new)) && all_are step.fill (take (step.len - step.kept) (drop step.kept (drop at new))))
    && bytes_eq (bared_from (length (drop (at + step.len) old)) step.next (drop (at + step.len) old)) (drop (at + step.len) new))
compared_on at s old new step h long is some kept within =
    let rest = drop at old in
    let tail : List ℕ → List ℕ = λ bs. bared_from (length bs) step.next bs in
    let rest_long : length rest ≡ length old - at = length-drop at old in
    let new_long : length (drop at new) ≡ length new - at = length-drop at new in
    let front_long : length (take step.kept rest) ≡ step.kept = length-take-le step.kept rest (omega arith) in
    let positive : 0 < (step_of s rest).len = subst (λ (t : Step). 0 < t.len) is some in
    let one : bared_from (length rest) s rest ≡ take step.kept rest ++ (replicate (step.len - step.kept) step.fill ++ tail (drop step.len rest)) =
    subst (λ (t : Step). bared_from (length rest) s rest ≡ take t.kept rest ++ (replicate (t.len - t.kept) t.fill ++ bared_from (length (drop t.len rest)) t.next (drop t.len rest)))
    (sym is) (bared_on s rest (omega arith) positive) in
    let made = bytes_eq (take step.kept rest) (take step.kept (drop at new)) && all_are step.fill (take (step.len - step.kept) (drop step.kept (drop at new))) in
    ap (λ (bs : List ℕ). bytes_eq bs (drop at new)) one
    ∙ three_eq (take step.kept rest) (tail (drop step.len rest)) (drop at new) step.kept step.len step.fill front_long kept (omega arith)
    ∙ ap (λ (bs : List ℕ). made && bytes_eq (tail bs) (drop step.len (drop at new))) (drop-drop step.len at old)
    ∙ ap (λ (bs : List ℕ). made && bytes_eq (tail (drop (at + step.len) old)) bs) (drop-drop step.len at new)

-- the end
pub compared_over : (at n : ℕ) (s : Place) (old new : List ℕ) → length old ≤ at → length new ≡ length old
    → bytes_eq (bared_from n s (drop at old)) (drop at new) ≡ true
compared_over at n s old new h long =
    let none : length (drop at old) ≡ length old - at = length-drop at old in
    ap (λ (bs : List ℕ). bytes_eq bs (drop at new)) (bared_over n s (drop at old) (omega arith))
    ∙ ap (λ (bs : List ℕ). bytes_eq [] bs) (drop_all at new (omega arith))
