-- One piece more of a file that gets a new block.
use Rattle.std.proofs.Common.{◌≡◌, ◌<◌, ◌≤◌, ◌+◌, ◌-◌, ℕ, zero, suc, Bool, true, false, cond, List, ◌++◌, length, take, drop, refl, ap, sym, subst, ◌∙◌, arith, length-drop}
use Rattle.std.proofs.lemmas.Bool.Decides.{nat_tests}
use Rattle.std.specs.Prelude.{not, ◌==◌}
use Rattle.exif_inventory.specs.JpegPieces.{stream_piece}
use Rattle.exif_inventory.specs.Pieces.{piece_at}
use Rattle.exif_inventory.specs.declared.piece.Piece.{Piece}
use Rattle.exif_inventory.specs.declared.piece.State.{State}
use Rattle.exif_inventory.specs.declared.piece.State.TheVariants.{Stream}
use Rattle.exif_blocks.specs.Blocks.{blocks_put, has_next, is_over, left_behind, next_of, step_of, unit_len, unit_put}
use Rattle.exif_blocks.specs.declared.blocks.Block.{Block}
use Rattle.exif_blocks.specs.declared.step.Place.{Place}
use Rattle.exif_blocks.specs.declared.step.Step.{Step}
use Rattle.exif_parts.specs.Jpeg.{resources_len}
use Rattle.exif_parts.proofs.Pieces.{full_within}

-- what is left becomes what all becomes
pub record Runs (block : Block) (place : Place) (answer : List ℕ) (state : State) (new bytes out : List ℕ) : Type 0 where
  pub n : ℕ
  pub enough : length bytes ≤ n
  pub same : blocks_put n block place state new bytes out ≡ answer

-- what a piece becomes, and what follows it
abbrev pub with_unit : ℕ → Block → Place → Piece → Step → List ℕ → List ℕ → List ℕ → List ℕ → List ℕ
with_unit n block place piece step new unit rest out =
    blocks_put n block place (next_of piece.next) (left_behind step new) rest (out ++ unit_put step new unit)

-- the same of so many bytes
abbrev pub with_piece : ℕ → Block → Place → State → Piece → List ℕ → List ℕ → List ℕ → List ℕ
with_piece n block place state piece new bytes out =
    with_unit n block place piece (step_of block place state piece (take (unit_len state piece) bytes)) new (take (unit_len state piece) bytes) (drop (unit_len state piece) bytes) out

-- where a piece comes next, it is the next one; where none does, all is written
pub blocks_step : (n : ℕ) (block : Block) (place : Place) (state : State) (new bytes out : List ℕ)
    → blocks_put (suc n) block place state new bytes out
    ≡ cond (has_next state bytes) (with_piece n block place state (piece_at state bytes) new bytes out) ((out ++ new) ++ bytes)
unfolding blocks_put
blocks_step n block place state new bytes out = refl

-- where none does, all is written
pub over : (n : ℕ) (block : Block) (place : Place) (state : State) (new bytes out : List ℕ) → has_next state bytes ≡ false
    → blocks_put n block place state new bytes out ≡ (out ++ new) ++ bytes
unfolding blocks_put
over zero block place state new bytes out h = refl
over (suc n) block place state new bytes out h =
    ap (λ (t : Bool). cond t (with_piece n block place state (piece_at state bytes) new bytes out) ((out ++ new) ++ bytes)) h

-- the answer where no piece comes next
pub runs_over : (block : Block) (place : Place) (answer : List ℕ) (state : State) (new bytes out : List ℕ)
    → Runs block place answer state new bytes out → has_next state bytes ≡ false → answer ≡ (out ++ new) ++ bytes
runs_over block place answer state new bytes out r h = sym r.same ∙ over r.n block place state new bytes out h

-- the first piece
record Begun (block : Block) (place : Place) (answer : List ℕ) (state : State) (new bytes out : List ℕ) : Type 0 where
  n : ℕ
  enough : length bytes ≤ suc n
  same : with_piece n block place state (piece_at state bytes) new bytes out ≡ answer

begun : (block : Block) (place : Place) (answer : List ℕ) (state : State) (new bytes out : List ℕ) (n : ℕ) → 0 < length bytes → length bytes ≤ n
    → has_next state bytes ≡ true → blocks_put n block place state new bytes out ≡ answer → Begun block place answer state new bytes out
begun block place answer state new bytes out zero some h t e = absurd (omega arith)
begun block place answer state new bytes out (suc n) some h t e = record {
  n = n;
  enough = h;
  same = sym (ap (λ (t : Bool). cond t (with_piece n block place state (piece_at state bytes) new bytes out) ((out ++ new) ++ bytes)) t)
      ∙ sym (blocks_step n block place state new bytes out) ∙ e;
}

-- the next piece
pub runs_on : (block : Block) (place : Place) (answer : List ℕ) (state : State) (new bytes out : List ℕ) (piece : Piece) (len : ℕ) (unit : List ℕ) (step : Step) (left rest out' : List ℕ)
    → Runs block place answer state new bytes out → 0 < length bytes → has_next state bytes ≡ true → piece ≡ piece_at state bytes → len ≡ unit_len state piece → 0 < len
    → unit ≡ take len bytes → step ≡ step_of block place state piece unit → left ≡ left_behind step new → rest ≡ drop len bytes → out' ≡ out ++ unit_put step new unit
    → Runs block place answer (next_of piece.next) left rest out'
runs_on block place answer state new bytes out piece len unit step left rest out' r some t p l long u s w d o =
    let b = begun block place answer state new bytes out r.n some r.enough t r.same in
    let enough : length bytes ≤ suc b.n = b.enough in
    let short : length rest ≡ length bytes - len = ap length d ∙ length-drop len bytes in
    let take_is : unit ≡ take (unit_len state piece) bytes = u ∙ ap (λ k. take k bytes) l in
    let drop_is : rest ≡ drop (unit_len state piece) bytes = d ∙ ap (λ k. drop k bytes) l in
    let step_is : step ≡ step_of block place state piece (take (unit_len state piece) bytes) = s ∙ ap (λ (x : List ℕ). step_of block place state piece x) take_is in
    let on : answer ≡ with_unit b.n block place piece step new unit rest out =
    sym b.same
    ∙ ap (λ (q : Piece). with_piece b.n block place state q new bytes out) (sym p)
    ∙ ap (λ (q : Step). with_unit b.n block place piece q new (take (unit_len state piece) bytes) (drop (unit_len state piece) bytes) out) (sym step_is)
    ∙ ap (λ (x : List ℕ). with_unit b.n block place piece step new x (drop (unit_len state piece) bytes) out) (sym take_is)
    ∙ ap (λ (x : List ℕ). with_unit b.n block place piece step new unit x out) (sym drop_is) in
    record {
      n = b.n;
      enough = omega arith;
      same = ap (λ (x : List ℕ). blocks_put b.n block place (next_of piece.next) x rest out') w
          ∙ ap (λ (x : List ℕ). blocks_put b.n block place (next_of piece.next) (left_behind step new) rest x) o
          ∙ sym on;
    }

-- a piece of a JPEG stream, with all resources that it begins, is a part of the bytes
pub full_fits : (state : State) (picture : ℕ) (scanned : Bool) (bytes : List ℕ) (piece : Piece) → state ≡ Stream picture scanned
    → is_over state ≡ false → piece ≡ piece_at state bytes → piece.len + resources_len piece.next ≤ length bytes
full_fits state picture scanned bytes piece s o p =
    let still : not (picture == 0) ≡ false = sym (ap (λ (t : State). is_over t) s) ∙ o in
    let first : (picture == 0) ≡ true = not_false (picture == 0) still in
    let none : picture ≡ 0 = grind (arith, nat_tests) in
    let is : piece ≡ stream_piece 0 scanned bytes = p ∙ ap (λ (t : State). piece_at t bytes) s ∙ ap (λ n. stream_piece n scanned bytes) none in
    subst (λ (r : Piece). r.len + resources_len r.next ≤ length bytes) (sym is) (full_within scanned bytes)
  where
    not_false : (b : Bool) → not b ≡ false → b ≡ true
    not_false true e = refl
    not_false false e = absurd (cc)
