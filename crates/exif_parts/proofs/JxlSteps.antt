-- One box more of a JPEG XL file that is filtered.
use Rattle.std.proofs.Common.{◌≡◌, ◌<◌, ◌≤◌, ◌-◌, ℕ, zero, suc, Bool, true, false, cond, ltb, List, [], ◌∷◌, ◌++◌, length, drop, Ok, Err, refl, ap, sym, ◌∙◌, arith, length-drop}
use Rattle.exif_types.specs.Refusals.{◌>>=◌}
use Rattle.exif_inventory.specs.JxlPieces.{box_piece, is_cut_box, is_jxl}
use Rattle.exif_inventory.specs.declared.piece.Piece.{Piece}
use Rattle.exif_segments.specs.declared.remove.Remove.{Remove}
use Rattle.exif_parts.specs.Jxl.{boxes_filtered, broken_jxl, contained, if_contained, is_codestream, kept_box, no_container, not_jxl, with_box}
use Rattle.exif_parts.specs.Written.{Written}
use Rattle.exif_parts.specs.declared.rewritten.Ended.TheVariants.{Whole, Cut}

-- what is left becomes what all becomes
pub record Runs (remove : Remove) (answer : Written) (bytes out : List ℕ) : Type 0 where
  pub n : ℕ
  pub enough : length bytes ≤ n
  pub same : boxes_filtered n remove bytes out ≡ answer

-- the start
pub runs : (remove : Remove) (bytes out : List ℕ) → Runs remove (boxes_filtered (length bytes) remove bytes out) bytes out
runs remove bytes out = record { n = length bytes; enough = omega arith; same = refl }

-- what the first box becomes, and what follows it
abbrev pub with_first : ℕ → Remove → List ℕ → Piece → Bool → List ℕ → Written
with_first n remove bytes piece cut out =
    cond cut (record { bytes = out; ended = Cut }) (boxes_filtered n remove (drop piece.len bytes) out)

-- where there are bytes, the first box is what comes next
pub boxes_step : (n : ℕ) (remove : Remove) (b : ℕ) (bytes out : List ℕ)
    → boxes_filtered (suc n) remove (b ∷ bytes) out
    ≡ with_first n remove (b ∷ bytes) (box_piece (b ∷ bytes)) (is_cut_box (b ∷ bytes)) (out ++ kept_box remove (box_piece (b ∷ bytes)) (b ∷ bytes))
unfolding boxes_filtered
boxes_step n remove b bytes out = refl

-- where there are none, all is kept
pub boxes_over : (n : ℕ) (remove : Remove) (out : List ℕ) → boxes_filtered n remove [] out ≡ record { bytes = out; ended = Whole }
unfolding boxes_filtered
boxes_over zero remove out = refl
boxes_over (suc n) remove out = refl

-- the first box
pub record Begun (remove : Remove) (answer : Written) (bytes out : List ℕ) : Type 0 where
  pub n : ℕ
  pub enough : length bytes ≤ suc n
  pub same : with_first n remove bytes (box_piece bytes) (is_cut_box bytes) (out ++ kept_box remove (box_piece bytes) bytes) ≡ answer

begun : (remove : Remove) (answer : Written) (bytes out : List ℕ) (n : ℕ) → 0 < length bytes → length bytes ≤ n
    → boxes_filtered n remove bytes out ≡ answer → Begun remove answer bytes out
begun remove answer [] out n some h e = absurd (omega arith)
begun remove answer (b ∷ bytes) out zero some h e = absurd (omega arith)
begun remove answer (b ∷ bytes) out (suc n) some h e = record { n = n; enough = h; same = sym (boxes_step n remove b bytes out) ∙ e }

-- the answer where no box is left
pub runs_over : (remove : Remove) (answer : Written) (bytes out : List ℕ)
    → Runs remove answer bytes out → length bytes ≡ 0 → answer ≡ record { bytes = out; ended = Whole }
runs_over remove answer [] out r h = sym r.same ∙ boxes_over r.n remove out
runs_over remove answer (b ∷ bytes) out r h = absurd (omega arith)

-- it, by a box
by_box : (remove : Remove) (answer : Written) (bytes out : List ℕ) (piece : Piece) (out' : List ℕ) (cut : Bool) → (b : Begun remove answer bytes out)
    → piece ≡ box_piece bytes → out' ≡ out ++ kept_box remove piece bytes → cut ≡ is_cut_box bytes → answer ≡ with_first b.n remove bytes piece cut out'
by_box remove answer bytes out piece out' cut b p o c =
    sym b.same
    ∙ ap (λ (q : Piece). with_first b.n remove bytes q (is_cut_box bytes) (out ++ kept_box remove q bytes)) (sym p)
    ∙ ap (λ (t : Bool). with_first b.n remove bytes piece t (out ++ kept_box remove piece bytes)) (sym c)
    ∙ ap (λ (l : List ℕ). with_first b.n remove bytes piece cut l) (sym o)

-- the answer where the box is cut off
pub runs_cut : (remove : Remove) (answer : Written) (bytes out : List ℕ) (piece : Piece) (out' : List ℕ)
    → Runs remove answer bytes out → 0 < length bytes → piece ≡ box_piece bytes → out' ≡ out ++ kept_box remove piece bytes → is_cut_box bytes ≡ true
    → answer ≡ record { bytes = out'; ended = Cut }
runs_cut remove answer bytes out piece out' r some p o c =
    by_box remove answer bytes out piece out' true (begun remove answer bytes out r.n some r.enough r.same) p o (sym c)

-- the next box
pub runs_on : (remove : Remove) (answer : Written) (bytes out : List ℕ) (piece : Piece) (rest out' : List ℕ)
    → Runs remove answer bytes out → 0 < length bytes → piece ≡ box_piece bytes → 0 < piece.len → out' ≡ out ++ kept_box remove piece bytes → is_cut_box bytes ≡ false
    → rest ≡ drop piece.len bytes → Runs remove answer rest out'
runs_on remove answer bytes out piece rest out' r some p long o c d =
    let b = begun remove answer bytes out r.n some r.enough r.same in
    let enough : length bytes ≤ suc b.n = b.enough in
    let short : length rest ≡ length bytes - piece.len = ap length d ∙ length-drop piece.len bytes in
    let on = by_box remove answer bytes out piece out' false b p o (sym c) in
    record {
      n = b.n;
      enough = omega arith;
      same = ap (λ (l : List ℕ). boxes_filtered b.n remove l out') d ∙ sym on;
    }

-- a file that is one in its container is written again
pub contained_then : (remove : Remove) (file new : List ℕ) → (contained file >>= λ (f : List ℕ). Ok (with_box remove f new)) ≡ if_contained remove file new
contained_then remove file new = by (is_codestream file) (ltb (length file) 12) (is_jxl file)
  where
    by : (a b c : Bool)
        → ((cond a (Err no_container) (cond b (Err broken_jxl) (cond c (Ok file) (Err not_jxl)))) >>= λ (f : List ℕ). Ok (with_box remove f new))
        ≡ cond a (Err no_container) (cond b (Err broken_jxl) (cond c (Ok (with_box remove file new)) (Err not_jxl)))
    by true b c = refl
    by false true c = refl
    by false false true = refl
    by false false false = refl
