-- A walk over a file, piece after piece.
use Rattle.std.proofs.Common.{◌≡◌, ◌<◌, ◌≤◌, ◌+◌, ◌-◌, ℕ, zero, suc, List, [], ◌∷◌, ◌++◌, length, drop, refl, ap, sym, ◌∙◌, subst, arith, length-drop, append_assoc}
use Rattle.exif_inventory_heif.specs.Pieces.{piece_at}
use Rattle.exif_inventory_heif.specs.Walks.{AreSpans, span_at, walked}
use Rattle.exif_inventory_heif.specs.declared.piece.Piece.{Piece}
use Rattle.exif_inventory_heif.specs.declared.piece.State.{State}
use Rattle.exif_inventory_heif.specs.declared.span.Span.{Span}

-- what follows the first byte is shorter by that
shorter : (m n : ℕ) (bytes : List ℕ) → length bytes ≤ n → length (drop m bytes) ≤ n
shorter m n bytes h = let e : length (drop m bytes) ≡ length bytes - m = length-drop m bytes in omega arith

-- any bound that is large enough serves
walked_any : (n k : ℕ) (state : State) (from : ℕ) (bytes : List ℕ) → length bytes ≤ n → length bytes ≤ k
    → walked n state from bytes ≡ walked k state from bytes
unfolding walked
walked_any zero zero state from [] h l = refl
walked_any zero (suc k) state from [] h l = refl
walked_any (suc n) zero state from [] h l = refl
walked_any (suc n) (suc k) state from [] h l = refl
walked_any zero k state from (b ∷ bytes) h l = absurd (omega arith)
walked_any (suc n) zero state from (b ∷ bytes) h l = absurd (omega arith)
walked_any (suc n) (suc k) state from (b ∷ bytes) h l =
    let piece = piece_at state (b ∷ bytes) in
    ap (λ spans. span_at from piece ∷ spans)
    (walked_any n k piece.next (from + piece.len) (drop (piece.len - 1) bytes)
    (shorter (piece.len - 1) n bytes (omega arith)) (shorter (piece.len - 1) k bytes (omega arith)))

-- the bytes behind a piece
behind_piece : (b : ℕ) (bytes : List ℕ) (len : ℕ) → 0 < len → drop (len - 1) bytes ≡ drop len (b ∷ bytes)
behind_piece b bytes zero h = absurd (omega arith)
behind_piece b bytes (suc n) h = ap (λ k. drop k bytes) (omega arith)

-- one piece
walked_on : (state : State) (from : ℕ) (bytes : List ℕ) → 0 < length bytes → 0 < (piece_at state bytes).len
    → let piece = piece_at state bytes in
    walked (length bytes) state from bytes
    ≡ span_at from piece ∷ walked (length (drop piece.len bytes)) piece.next (from + piece.len) (drop piece.len bytes)
unfolding walked
walked_on state from [] h p = absurd (omega arith)
walked_on state from (b ∷ bytes) h p =
    let piece = piece_at state (b ∷ bytes) in
    let rest = drop (piece.len - 1) bytes in
    let same : rest ≡ drop piece.len (b ∷ bytes) = behind_piece b bytes piece.len p in
    ap (λ spans. span_at from piece ∷ spans)
    (walked_any (length bytes) (length rest) piece.next (from + piece.len) rest (shorter (piece.len - 1) (length bytes) bytes (omega arith)) (omega arith)
    ∙ ap (λ bs. walked (length bs) piece.next (from + piece.len) bs) same)

-- the end
walked_over : (n : ℕ) (state : State) (from : ℕ) (bytes : List ℕ) → length bytes ≡ 0 → walked n state from bytes ≡ []
unfolding walked
walked_over zero state from [] h = refl
walked_over (suc n) state from [] h = refl
walked_over n state from (b ∷ bytes) h = absurd (omega arith)

-- another span may follow
pub behind_ordered : (at : ℕ) (spans : List Span) (end : ℕ) (span : Span) → AreSpans at spans end → span.from ≡ end
    → span.from ≤ span.content → span.content ≤ span.end → AreSpans at (spans ++ span ∷ []) span.end
behind_ordered at [] end span h e f c = let o : at ≡ end = h in (omega arith, f, c, refl)
behind_ordered at (s ∷ spans) end span h e f c = (h.0, h.1, h.2, behind_ordered s.end spans end span h.3 e f c)

-- some pieces of a walk
pub record Walks (start : State) (file : List ℕ) (state : State) (from : ℕ) (bytes : List ℕ) (found : List Span) : Type 0 where
  pub spans_are : walked (length file) start 0 file ≡ found ++ walked (length bytes) state from bytes
  pub ends : from + length bytes ≡ length file
  pub ordered : AreSpans 0 found from

one_on : (start : State) (file : List ℕ) (state : State) (from : ℕ) (bytes : List ℕ) (found : List Span)
    → Walks start file state from bytes found → 0 < length bytes → 0 < (piece_at state bytes).len → (piece_at state bytes).len ≤ length bytes
    → (piece_at state bytes).front ≤ (piece_at state bytes).len
    → let piece = piece_at state bytes in Walks start file piece.next (from + piece.len) (drop piece.len bytes) (found ++ span_at from piece ∷ [])
one_on start file state from bytes found w some positive within framed =
    let piece = piece_at state bytes in
    let rest = drop piece.len bytes in
    let short : length rest ≡ length bytes - piece.len = length-drop piece.len bytes in
    let before : from + length bytes ≡ length file = w.ends in
    record {
      spans_are = w.spans_are ∙ ap (λ spans. found ++ spans) (walked_on state from bytes some positive)
          ∙ sym (append_assoc found (span_at from piece ∷ []) (walked (length rest) piece.next (from + piece.len) rest));
      ends = omega arith;
      ordered = behind_ordered 0 found from (span_at from piece) w.ordered refl (omega arith) (omega arith);
    }

-- one piece more
pub walks_on : (start : State) (file : List ℕ) (state : State) (from : ℕ) (bytes : List ℕ) (found : List Span) (piece : Piece) (rest : List ℕ) (more : List Span)
    → Walks start file state from bytes found → 0 < length bytes → piece ≡ piece_at state bytes → 0 < piece.len → piece.len ≤ length bytes → piece.front ≤ piece.len
    → rest ≡ drop piece.len bytes → more ≡ found ++ span_at from piece ∷ [] → Walks start file piece.next (from + piece.len) rest more
walks_on start file state from bytes found piece rest more w some p positive within framed r e =
    let one = one_on start file state from bytes found w some (subst (λ (q : Piece). 0 < q.len) p positive) (subst (λ (q : Piece). q.len ≤ length bytes) p within) (subst (λ (q : Piece). q.front ≤ q.len) p framed) in
    let by_piece = subst (λ (q : Piece). Walks start file q.next (from + q.len) (drop q.len bytes) (found ++ span_at from q ∷ [])) (sym p) one in
    let by_rest = subst (λ (bs : List ℕ). Walks start file piece.next (from + piece.len) bs (found ++ span_at from piece ∷ [])) (sym r) by_piece in
    subst (λ (spans : List Span). Walks start file piece.next (from + piece.len) rest spans) (sym e) by_rest

none_behind : (found : List Span) → found ++ [] ≡ found
none_behind [] = refl
none_behind (s ∷ spans) = ap (λ more. s ∷ more) (none_behind spans)

-- the end of a walk
pub walks_over : (start : State) (file : List ℕ) (state : State) (from : ℕ) (bytes : List ℕ) (found : List Span)
    → Walks start file state from bytes found → length bytes ≡ 0
    → (found ≡ walked (length file) start 0 file) × AreSpans 0 found (length file)
walks_over start file state from bytes found w none_left =
    let before : from + length bytes ≡ length file = w.ends in
    let end : from ≡ length file = omega arith in (
      sym (w.spans_are ∙ ap (λ spans. found ++ spans) (walked_over (length bytes) state from bytes none_left) ∙ none_behind found),
      subst (λ n. AreSpans 0 found n) end w.ordered,
    )
