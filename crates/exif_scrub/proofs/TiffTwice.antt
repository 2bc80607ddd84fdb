-- A scrubbed file stays as it is.
use Rattle.std.proofs.Common.{◌≡◌, ◌⊎◌, inl, inr, ℕ, Bool, true, false, ◌&&◌, ◌||◌, if◌then◌else◌, List, Result, Ok, Err, ap, sym, ◌∙◌, refl, subst}
use Rattle.std.specs.Str.{bytes_eq}
use Rattle.std.proofs.lemmas.Slice.Eq.{bytes_eq-Decides}
use Rattle.exif_scrub.specs.Keeping.{◌>>=◌}
use Rattle.exif_scrub.specs.TiffScrubbing.{file_walked, if_settled, is_settled, keeps_picture, kept_once, makes, only_described, scrubbed}
use Rattle.exif_scrub.specs.declared.tiff.fault.Fault.{Fault}
use Rattle.exif_scrub.specs.declared.tiff.fault.Fault.TheVariants.{SharedBytes}
use Rattle.exif_scrub.specs.declared.tiff.pass.Pass.TheVariants.{Pictures}

-- what comes out of a file: it is what stays of it, and was tested
record Tested (keeps_orientation : Bool) (file new : List ℕ) : Type 0 where
  made : kept_once keeps_orientation file ≡ Ok new
  again : makes new (kept_once keeps_orientation new) ≡ true
  described : only_described keeps_orientation new ≡ true
  picture : keeps_picture file new ≡ true

three_true : (a b c : Bool) → ((a && b) && c) ≡ true → (a ≡ true) × (b ≡ true) × (c ≡ true)
three_true true true c e = (refl, refl, e)
three_true true false c e = absurd (cc)
three_true false b c e = absurd (cc)

tested_if : (t : Bool) (new made : List ℕ) → ◌≡◌ {A = Result (List ℕ) Fault} (if t then Ok made else Err SharedBytes) (Ok new) → (t ≡ true) × (made ≡ new)
tested_if true new made e = (refl, cc)
tested_if false new made e = absurd (cc)

tested : (o : Bool) (file new : List ℕ) → scrubbed o file ≡ Ok new → Tested o file new
tested o file new e = by (kept_once o file) refl e
  where
    by : (x : Result (List ℕ) Fault) → kept_once o file ≡ x → (x >>= if_settled o file) ≡ Ok new → Tested o file new
    by (Err f) k h = absurd (cc)
    by (Ok made) k h =
        let t = tested_if (is_settled o made && keeps_picture file made) new made h in
        let p = three_true (makes made (kept_once o made)) (only_described o made) (keeps_picture file made) t.0 in
        subst (λ (n : List ℕ). Tested o file n) t.1 (record { made = k; again = p.0; described = p.1; picture = p.2 })

-- what a walk makes
makes_is : (new : List ℕ) (r : Result (List ℕ) Fault) → makes new r ≡ true → r ≡ Ok new
makes_is new (Err f) e = absurd (cc)
makes_is new (Ok made) e = ap (λ x. let r : Result (List ℕ) Fault = Ok x in r) ((bytes_eq-Decides made new).0 e)

same_bytes : (bytes : List ℕ) → bytes_eq bytes bytes ≡ true
same_bytes bytes = (bytes_eq-Decides bytes bytes).1 refl

pub twice : (o : Bool) (file new : List ℕ) → scrubbed o file ≡ Ok new → scrubbed o new ≡ Ok new
twice o file new e =
    let t = tested o file new e in
    let stays : kept_once o new ≡ Ok new = makes_is new (kept_once o new) t.again in
    ap (λ (r : Result (List ℕ) Fault). r >>= if_settled o new) stays
    ∙ ap (λ (b : Bool). let r : Result (List ℕ) Fault = if b && only_described o new && keeps_picture new new then Ok new else Err SharedBytes in r) t.again
    ∙ ap (λ (b : Bool). let r : Result (List ℕ) Fault = if b && keeps_picture new new then Ok new else Err SharedBytes in r) t.described
    ∙ ap (λ (b : Bool). let r : Result (List ℕ) Fault = if b || makes new (file_walked Pictures new new) then Ok new else Err SharedBytes in r) (same_bytes new)

pub stays_alone : (o : Bool) (file new : List ℕ) → scrubbed o file ≡ Ok new → kept_once o new ≡ Ok new
stays_alone o file new e = let t = tested o file new e in makes_is new (kept_once o new) t.again

pub described_alone : (o : Bool) (file new : List ℕ) → scrubbed o file ≡ Ok new → only_described o new ≡ true
described_alone o file new e = (tested o file new e).described

either : (a b : Bool) → (a || b) ≡ true → (a ≡ true) ⊎ (b ≡ true)
either true b e = inl refl
either false b e = inr e

pub picture_same : (o : Bool) (file new : List ℕ) → scrubbed o file ≡ Ok new → (new ≡ file) ⊎ (file_walked Pictures file new ≡ Ok new)
picture_same o file new e = by (either (bytes_eq file new) (makes new (file_walked Pictures file new)) (tested o file new e).picture)
  where
    by : (bytes_eq file new ≡ true) ⊎ (makes new (file_walked Pictures file new) ≡ true) → (new ≡ file) ⊎ (file_walked Pictures file new ≡ Ok new)
    by (inl h) = inl (sym ((bytes_eq-Decides file new).0 h))
    by (inr h) = inr (makes_is new (file_walked Pictures file new) h)
