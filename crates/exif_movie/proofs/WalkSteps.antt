-- A walk over boxes, one after the other.
use Rattle.std.proofs.Common.{◌≡◌, ◌<◌, ◌≤◌, ◌+◌, ◌-◌, ℕ, zero, suc, List, [], ◌∷◌, ◌++◌, length, drop, refl, ap, sym, ◌∙◌, subst, arith, length-drop, append_assoc}
use Rattle.exif_movie.specs.Pieces.{piece_at}
use Rattle.exif_movie.specs.Walks.{boxes_in, part_at, walked}
use Rattle.exif_movie.specs.declared.kind.Container.{Container}
use Rattle.exif_movie.specs.declared.part.Part.{Part}
use Rattle.exif_movie.specs.declared.piece.Piece.{Piece}

-- what follows the first byte is shorter by that
shorter : (m n : ℕ) (bytes : List ℕ) → length bytes ≤ n → length (drop m bytes) ≤ n
shorter m n bytes h = let e : length (drop m bytes) ≡ length bytes - m = length-drop m bytes in omega arith

-- any bound that is large enough serves
walked_any : (n k : ℕ) (container : Container) (level from : ℕ) (bytes : List ℕ) → length bytes ≤ n → length bytes ≤ k
    → walked n container level from bytes ≡ walked k container level from bytes
unfolding walked
walked_any zero zero container level from [] h l = refl
walked_any zero (suc k) container level from [] h l = refl
walked_any (suc n) zero container level from [] h l = refl
walked_any (suc n) (suc k) container level from [] h l = refl
walked_any zero k container level from (b ∷ bytes) h l = absurd (omega arith)
walked_any (suc n) zero container level from (b ∷ bytes) h l = absurd (omega arith)
walked_any (suc n) (suc k) container level from (b ∷ bytes) h l =
    let piece = piece_at container (b ∷ bytes) in
    ap (λ parts. part_at level from piece ∷ parts)
    (walked_any n k container level (from + piece.len) (drop (piece.len - 1) bytes)
    (shorter (piece.len - 1) n bytes (omega arith)) (shorter (piece.len - 1) k bytes (omega arith)))

-- the bytes behind a piece
behind_piece : (b : ℕ) (bytes : List ℕ) (len : ℕ) → 0 < len → drop (len - 1) bytes ≡ drop len (b ∷ bytes)
behind_piece b bytes zero h = absurd (omega arith)
behind_piece b bytes (suc n) h = ap (λ k. drop k bytes) (omega arith)

-- one piece
walked_on : (container : Container) (level from : ℕ) (bytes : List ℕ) → 0 < length bytes → 0 < (piece_at container bytes).len
    → let piece = piece_at container bytes in
    boxes_in container level from bytes ≡ part_at level from piece ∷ boxes_in container level (from + piece.len) (drop piece.len bytes)
unfolding walked
walked_on container level from [] h p = absurd (omega arith)
walked_on container level from (b ∷ bytes) h p =
    let piece = piece_at container (b ∷ bytes) in
    let rest = drop (piece.len - 1) bytes in
    let same : rest ≡ drop piece.len (b ∷ bytes) = behind_piece b bytes piece.len p in
    ap (λ parts. part_at level from piece ∷ parts)
    (walked_any (length bytes) (length rest) container level (from + piece.len) rest (shorter (piece.len - 1) (length bytes) bytes (omega arith)) (omega arith)
    ∙ ap (λ bs. walked (length bs) container level (from + piece.len) bs) same)

-- the end
walked_over : (n : ℕ) (container : Container) (level from : ℕ) (bytes : List ℕ) → length bytes ≡ 0 → walked n container level from bytes ≡ []
unfolding walked
walked_over zero container level from [] h = refl
walked_over (suc n) container level from [] h = refl
walked_over n container level from (b ∷ bytes) h = absurd (omega arith)

-- some pieces of a walk over bytes from an offset on, behind the parts that were there
pub record Walks (container : Container) (level from : ℕ) (bytes : List ℕ) (before : List Part) (at : ℕ) (rest : List ℕ) (found : List Part) : Type 0 where
  pub parts_are : before ++ boxes_in container level from bytes ≡ found ++ boxes_in container level at rest
  pub ends : at + length rest ≡ from + length bytes

one_on : (container : Container) (level from : ℕ) (bytes : List ℕ) (before : List Part) (at : ℕ) (rest : List ℕ) (found : List Part)
    → Walks container level from bytes before at rest found → 0 < length rest → 0 < (piece_at container rest).len → (piece_at container rest).len ≤ length rest
    → let piece = piece_at container rest in Walks container level from bytes before (at + piece.len) (drop piece.len rest) (found ++ part_at level at piece ∷ [])
one_on container level from bytes before at rest found w some positive within =
    let piece = piece_at container rest in
    let more = drop piece.len rest in
    let short : length more ≡ length rest - piece.len = length-drop piece.len rest in
    let same : at + length rest ≡ from + length bytes = w.ends in
    record {
      parts_are = w.parts_are ∙ ap (λ parts. found ++ parts) (walked_on container level at rest some positive)
          ∙ sym (append_assoc found (part_at level at piece ∷ []) (boxes_in container level (at + piece.len) more));
      ends = omega arith;
    }

-- one piece more
pub walks_on : (container : Container) (level from : ℕ) (bytes : List ℕ) (before : List Part) (at : ℕ) (rest : List ℕ) (found : List Part) (piece : Piece) (less : List ℕ) (more : List Part)
    → Walks container level from bytes before at rest found → 0 < length rest → piece ≡ piece_at container rest → 0 < piece.len → piece.len ≤ length rest
    → less ≡ drop piece.len rest → more ≡ found ++ part_at level at piece ∷ [] → Walks container level from bytes before (at + piece.len) less more
walks_on container level from bytes before at rest found piece less more w some p positive within r e =
    let one = one_on container level from bytes before at rest found w some (subst (λ (q : Piece). 0 < q.len) p positive) (subst (λ (q : Piece). q.len ≤ length rest) p within) in
    let by_piece = subst (λ (q : Piece). Walks container level from bytes before (at + q.len) (drop q.len rest) (found ++ part_at level at q ∷ [])) (sym p) one in
    let by_rest = subst (λ (bs : List ℕ). Walks container level from bytes before (at + piece.len) bs (found ++ part_at level at piece ∷ [])) (sym r) by_piece in
    subst (λ (parts : List Part). Walks container level from bytes before (at + piece.len) less parts) (sym e) by_rest

none_behind : (found : List Part) → found ++ [] ≡ found
none_behind [] = refl
none_behind (s ∷ parts) = ap (λ more. s ∷ more) (none_behind parts)

-- the end of a walk
pub walks_over : (container : Container) (level from : ℕ) (bytes : List ℕ) (before : List Part) (at : ℕ) (rest : List ℕ) (found : List Part)
    → Walks container level from bytes before at rest found → length rest ≡ 0 → found ≡ before ++ boxes_in container level from bytes
walks_over container level from bytes before at rest found w none_left =
    sym (w.parts_are ∙ ap (λ parts. found ++ parts) (walked_over (length rest) container level at rest none_left) ∙ none_behind found)
