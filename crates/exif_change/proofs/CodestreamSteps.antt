-- A walk over the boxes of a JPEG XL file.
use Rattle.std.proofs.Common.{◌≡◌, ◌<◌, ◌≤◌, ◌-◌, ℕ, zero, suc, Bool, true, false, cond, List, [], ◌∷◌, length, take, drop, refl, ap, sym, ◌∙◌, arith, length-drop}
use Rattle.exif_inventory.specs.JxlPieces.{box_piece, is_cut_box}
use Rattle.exif_change.specs.Codestreams.{cut_off, stepped, with_box}
use Rattle.exif_change.specs.declared.codestream.Codestream.{Codestream}

-- what is found behind what is left is what is found of all
pub record Walks (answer : Codestream) (bytes : List ℕ) (found : Codestream) : Type 0 where
  pub n : ℕ
  pub enough : length bytes ≤ n
  pub same : stepped n found bytes ≡ answer

-- the start
pub walks : (found : Codestream) (bytes : List ℕ) → Walks (stepped (length bytes) found bytes) bytes found
walks found bytes = record { n = length bytes; enough = omega arith; same = refl }

-- what is found behind the first box, and what follows it
abbrev with_first : ℕ → List ℕ → ℕ → Bool → Codestream → Codestream
with_first n bytes len cut next = cond cut (cut_off next) (stepped n next (drop len bytes))

step : (n : ℕ) (found : Codestream) (b : ℕ) (bytes : List ℕ)
    → stepped (suc n) found (b ∷ bytes)
    ≡ with_first n (b ∷ bytes) (box_piece (b ∷ bytes)).len (is_cut_box (b ∷ bytes)) (with_box found (take (box_piece (b ∷ bytes)).len (b ∷ bytes)))
unfolding stepped
step n found b bytes = refl

over : (n : ℕ) (found : Codestream) → stepped n found [] ≡ found
unfolding stepped
over zero found = refl
over (suc n) found = refl

-- the first box
record Begun (answer : Codestream) (bytes : List ℕ) (found : Codestream) : Type 0 where
  n : ℕ
  enough : length bytes ≤ suc n
  same : with_first n bytes (box_piece bytes).len (is_cut_box bytes) (with_box found (take (box_piece bytes).len bytes)) ≡ answer

begun : (answer : Codestream) (bytes : List ℕ) (found : Codestream) (n : ℕ) → 0 < length bytes → length bytes ≤ n
    → stepped n found bytes ≡ answer → Begun answer bytes found
begun answer [] found n some h e = absurd (omega arith)
begun answer (b ∷ bytes) found zero some h e = absurd (omega arith)
begun answer (b ∷ bytes) found (suc n) some h e = record { n = n; enough = h; same = sym (step n found b bytes) ∙ e }

-- the answer where no box is left
pub walks_over : (answer : Codestream) (bytes : List ℕ) (found : Codestream) → Walks answer bytes found → length bytes ≡ 0 → answer ≡ found
walks_over answer [] found w h = sym w.same ∙ over w.n found
walks_over answer (b ∷ bytes) found w h = absurd (omega arith)

-- it, by a box
by_box : (answer : Codestream) (bytes : List ℕ) (found : Codestream) (len : ℕ) (next : Codestream) (cut : Bool) → (b : Begun answer bytes found)
    → len ≡ (box_piece bytes).len → next ≡ with_box found (take len bytes) → cut ≡ is_cut_box bytes → answer ≡ with_first b.n bytes len cut next
by_box answer bytes found len next cut b p o c =
    sym b.same
    ∙ ap (λ k. with_first b.n bytes k (is_cut_box bytes) (with_box found (take k bytes))) (sym p)
    ∙ ap (λ t. with_first b.n bytes len t (with_box found (take len bytes))) (sym c)
    ∙ ap (λ (f : Codestream). with_first b.n bytes len cut f) (sym o)

-- the answer where the box is cut off
pub walks_cut : (answer : Codestream) (bytes : List ℕ) (found : Codestream) (len : ℕ) (next : Codestream)
    → Walks answer bytes found → 0 < length bytes → len ≡ (box_piece bytes).len → next ≡ with_box found (take len bytes) → is_cut_box bytes ≡ true
    → answer ≡ cut_off next
walks_cut answer bytes found len next w some p o c =
    by_box answer bytes found len next true (begun answer bytes found w.n some w.enough w.same) p o (sym c)

-- the next box
pub walks_on : (answer : Codestream) (bytes : List ℕ) (found : Codestream) (len : ℕ) (rest : List ℕ) (next : Codestream)
    → Walks answer bytes found → 0 < length bytes → len ≡ (box_piece bytes).len → 0 < len → next ≡ with_box found (take len bytes) → is_cut_box bytes ≡ false
    → rest ≡ drop len bytes → Walks answer rest next
walks_on answer bytes found len rest next w some p long o c d =
    let b = begun answer bytes found w.n some w.enough w.same in
    let enough : length bytes ≤ suc b.n = b.enough in
    let short : length rest ≡ length bytes - len = ap length d ∙ length-drop len bytes in
    let on = by_box answer bytes found len next false b p o (sym c) in
    record {
      n = b.n;
      enough = omega arith;
      same = ap (λ (l : List ℕ). stepped b.n next l) d ∙ sym on;
    }
