-- A walk over a file, piece after piece.
use Rattle.std.proofs.Common.{◌≡◌, ◌<◌, ◌≤◌, ◌+◌, ◌-◌, ℕ, zero, suc, Bool, true, false, cond, List, [], ◌∷◌, ◌++◌, length, drop, All, refl, ap, sym, ◌∙◌, subst, arith, length-drop}
use Rattle.std.proofs.lemmas.List.Elements.{All-append, All-cons, All-nil}
use Rattle.exif_inventory.specs.Pieces.{piece_at}
use Rattle.exif_inventory.specs.Promises.{AreInOrder, EndsIn, IsWithin}
use Rattle.exif_inventory.specs.Walks.{Parts, added, all_parts, joins, longer, part_behind, walked}
use Rattle.exif_inventory.specs.declared.part.Part.{Part}
use Rattle.exif_inventory.specs.declared.piece.Piece.{Piece}
use Rattle.exif_inventory.specs.declared.piece.State.{State}

-- what follows the first byte is shorter by that
shorter : (m n : ℕ) (bytes : List ℕ) → length bytes ≤ n → length (drop m bytes) ≤ n
shorter m n bytes h = let e : length (drop m bytes) ≡ length bytes - m = length-drop m bytes in omega arith

-- any bound that is large enough serves
pub walked_any : (n k : ℕ) (state : State) (bytes : List ℕ) (parts : Parts) → length bytes ≤ n → length bytes ≤ k
    → walked n state bytes parts ≡ walked k state bytes parts
unfolding walked
walked_any zero zero state [] parts h l = refl
walked_any zero (suc k) state [] parts h l = refl
walked_any (suc n) zero state [] parts h l = refl
walked_any (suc n) (suc k) state [] parts h l = refl
walked_any zero k state (b ∷ bytes) parts h l = absurd (omega arith)
walked_any (suc n) zero state (b ∷ bytes) parts h l = absurd (omega arith)
walked_any (suc n) (suc k) state (b ∷ bytes) parts h l =
    let piece = piece_at state (b ∷ bytes) in
    walked_any n k piece.next (drop (piece.len - 1) bytes) (added parts piece)
    (shorter (piece.len - 1) n bytes (omega arith)) (shorter (piece.len - 1) k bytes (omega arith))

-- the bytes behind a piece
behind_piece : (b : ℕ) (bytes : List ℕ) (len : ℕ) → 0 < len → drop (len - 1) bytes ≡ drop len (b ∷ bytes)
behind_piece b bytes zero h = absurd (omega arith)
behind_piece b bytes (suc n) h = ap (λ k. drop k bytes) (omega arith)

-- one piece
pub walked_on : (state : State) (bytes : List ℕ) (parts : Parts) → 0 < length bytes → 0 < (piece_at state bytes).len
    → let piece = piece_at state bytes in
    walked (length bytes) state bytes parts
    ≡ walked (length (drop piece.len bytes)) piece.next (drop piece.len bytes) (added parts piece)
unfolding walked
walked_on state [] parts h p = absurd (omega arith)
walked_on state (b ∷ bytes) parts h p =
    let piece = piece_at state (b ∷ bytes) in
    let rest = drop (piece.len - 1) bytes in
    let next = added parts piece in
    let same : rest ≡ drop piece.len (b ∷ bytes) = behind_piece b bytes piece.len p in
    walked_any (length bytes) (length rest) piece.next rest next (shorter (piece.len - 1) (length bytes) bytes (omega arith)) (omega arith)
    ∙ ap (λ bs. walked (length bs) piece.next bs next) same

-- the end
pub walked_over : (n : ℕ) (state : State) (bytes : List ℕ) (parts : Parts) → length bytes ≡ 0 → walked n state bytes parts ≡ parts
unfolding walked
walked_over zero state [] parts h = refl
walked_over (suc n) state [] parts h = refl
walked_over n state (b ∷ bytes) parts h = absurd (omega arith)

-- ---- the order of the parts

-- the last part may be longer
longer_ordered : (at : ℕ) (ps : List Part) (p : Part) (n : ℕ) → AreInOrder at (ps ++ p ∷ []) (p.offset + p.len)
    → AreInOrder at (ps ++ longer p n ∷ []) (p.offset + (p.len + n))
longer_ordered at [] p n h = let o = h.0 in (o, omega arith)
longer_ordered at (q ∷ ps) p n h = (h.0, longer_ordered (at + q.len) ps p n h.1)

-- another part may follow
behind_ordered : (at : ℕ) (ps : List Part) (p q : Part) → q.offset ≡ p.offset + p.len → AreInOrder at (ps ++ p ∷ []) (p.offset + p.len)
    → AreInOrder at ((ps ++ p ∷ []) ++ q ∷ []) (q.offset + q.len)
behind_ordered at [] p q e h = let o = h.0 in (o, (omega arith, omega arith))
behind_ordered at (r ∷ ps) p q e h = (h.0, behind_ordered (at + r.len) ps p q e h.1)

chosen : (b : Bool) (parts : Parts) (piece : Piece)
    → AreInOrder 0 (all_parts parts) (parts.last.offset + parts.last.len)
    → let next : Parts = cond b
    (record { done = parts.done; last = longer parts.last piece.len })
    (record { done = parts.done ++ parts.last ∷ []; last = part_behind parts.last piece }) in
    AreInOrder 0 (all_parts next) (next.last.offset + next.last.len)
chosen true parts piece h = longer_ordered 0 parts.done parts.last piece.len h
chosen false parts piece h = behind_ordered 0 parts.done parts.last (part_behind parts.last piece) refl h

-- parts in order are in order with one piece more
pub added_ordered : (parts : Parts) (piece : Piece) → AreInOrder 0 (all_parts parts) (parts.last.offset + parts.last.len)
    → AreInOrder 0 (all_parts (added parts piece)) ((added parts piece).last.offset + (added parts piece).last.len)
added_ordered parts piece h = chosen (joins parts.last piece) parts piece h

ends_by : (b : Bool) (parts : Parts) (piece : Piece)
    → let next : Parts = cond b
    (record { done = parts.done; last = longer parts.last piece.len })
    (record { done = parts.done ++ parts.last ∷ []; last = part_behind parts.last piece }) in
    next.last.offset + next.last.len ≡ parts.last.offset + parts.last.len + piece.len
ends_by true parts piece = omega arith
ends_by false parts piece = refl

-- and end behind it
pub added_ends : (parts : Parts) (piece : Piece)
    → (added parts piece).last.offset + (added parts piece).last.len ≡ parts.last.offset + parts.last.len + piece.len
added_ends parts piece = ends_by (joins parts.last piece) parts piece

-- ---- the data of the parts

longer_within : (p : Part) (n : ℕ) → IsWithin p → IsWithin (longer p n)
longer_within p n w = let a = w.0 in let b = w.1 in (a, omega arith)

behind_within : (p : Part) (piece : Piece) → piece.front + piece.pad ≤ piece.len → IsWithin (part_behind p piece)
behind_within p piece h = (omega arith, omega arith)

all_behind : (ps : List Part) (p : Part) → All IsWithin ps → IsWithin p → All IsWithin (ps ++ p ∷ [])
all_behind ps p a w = All-append IsWithin ps (p ∷ []) a (All-cons IsWithin p [] w (All-nil IsWithin))

-- the data of all parts are bytes of them
pub record AreWithin (parts : Parts) : Type 0 where
  pub done : All IsWithin parts.done
  pub last : IsWithin parts.last

chosen_within : (b : Bool) (parts : Parts) (piece : Piece) → piece.front + piece.pad ≤ piece.len → AreWithin parts
    → AreWithin (cond b
    (record { done = parts.done; last = longer parts.last piece.len })
    (record { done = parts.done ++ parts.last ∷ []; last = part_behind parts.last piece }))
chosen_within true parts piece h w = record { done = w.done; last = longer_within parts.last piece.len w.last }
chosen_within false parts piece h w =
    record { done = all_behind parts.done parts.last w.done w.last; last = behind_within parts.last piece h }

pub added_within : (parts : Parts) (piece : Piece) → piece.front + piece.pad ≤ piece.len → AreWithin parts → AreWithin (added parts piece)
added_within parts piece h w = chosen_within (joins parts.last piece) parts piece h w

pub all_within : (parts : Parts) → AreWithin parts → All IsWithin (all_parts parts)
all_within parts w = all_behind parts.done parts.last w.done w.last

-- ---- parts in order end where the last one does

not_before : (at : ℕ) (ps : List Part) (end : ℕ) → AreInOrder at ps end → at ≤ end
not_before at [] end h = omega arith
not_before at (p ∷ ps) end h = let l = not_before (at + p.len) ps end h.1 in omega arith

first_of : (p : Part) (ps : List Part) → All IsWithin (p ∷ ps) → IsWithin p
first_of p ps w = w 0 p (omega arith)

others_of : (p : Part) (ps : List Part) → All IsWithin (p ∷ ps) → All IsWithin ps
others_of p ps w = λ k d h. w (suc k) d (omega arith)

pub all_inside : (at : ℕ) (ps : List Part) (end : ℕ) → AreInOrder at ps end → All IsWithin ps → All (EndsIn end) ps
all_inside at [] end h w = All-nil (EndsIn end)
all_inside at (p ∷ ps) end h w =
    let l = not_before (at + p.len) ps end h.1 in
    let o = h.0 in
    let i = first_of p ps w in
    let e : p.data_offset + p.data_len ≤ p.offset + p.len = i.1 in
    All-cons (EndsIn end) p ps (omega arith) (all_inside (at + p.len) ps end h.1 (others_of p ps w))

-- one piece more of a walk
pub record Walks (start : State) (file : List ℕ) (none : Parts) (state : State) (bytes : List ℕ) (parts : Parts) : Type 0 where
  pub parts_are : walked (length file) start file none ≡ walked (length bytes) state bytes parts
  pub ends : parts.last.offset + parts.last.len + length bytes ≡ length file
  pub ordered : AreInOrder 0 (all_parts parts) (parts.last.offset + parts.last.len)
  pub within : AreWithin parts

one_on : (start : State) (file : List ℕ) (none : Parts) (state : State) (bytes : List ℕ) (parts : Parts)
    → Walks start file none state bytes parts → 0 < length bytes → 0 < (piece_at state bytes).len → (piece_at state bytes).len ≤ length bytes
    → (piece_at state bytes).front + (piece_at state bytes).pad ≤ (piece_at state bytes).len
    → let piece = piece_at state bytes in Walks start file none piece.next (drop piece.len bytes) (added parts piece)
one_on start file none state bytes parts w some positive within framed =
    let piece = piece_at state bytes in
    let short : length (drop piece.len bytes) ≡ length bytes - piece.len = length-drop piece.len bytes in
    let far : (added parts piece).last.offset + (added parts piece).last.len ≡ parts.last.offset + parts.last.len + piece.len = added_ends parts piece in
    let before : parts.last.offset + parts.last.len + length bytes ≡ length file = w.ends in
    record {
      parts_are = w.parts_are ∙ walked_on state bytes parts some positive;
      ends = omega arith;
      ordered = added_ordered parts piece w.ordered;
      within = added_within parts piece framed w.within;
    }

pub walks_on : (start : State) (file : List ℕ) (none : Parts) (state : State) (bytes : List ℕ) (parts : Parts) (piece : Piece) (rest : List ℕ) (next : Parts)
    → Walks start file none state bytes parts → 0 < length bytes → piece ≡ piece_at state bytes → 0 < piece.len → piece.len ≤ length bytes → piece.front + piece.pad ≤ piece.len
    → rest ≡ drop piece.len bytes → next ≡ added parts piece → Walks start file none piece.next rest next
walks_on start file none state bytes parts piece rest next w some p positive within framed r e =
    let one = one_on start file none state bytes parts w some (subst (λ (q : Piece). 0 < q.len) p positive) (subst (λ (q : Piece). q.len ≤ length bytes) p within) (subst (λ (q : Piece). q.front + q.pad ≤ q.len) p framed) in
    let by_piece = subst (λ (q : Piece). Walks start file none q.next (drop q.len bytes) (added parts q)) (sym p) one in
    let by_rest = subst (λ (bs : List ℕ). Walks start file none piece.next bs (added parts piece)) (sym r) by_piece in
    subst (λ (ps : Parts). Walks start file none piece.next rest ps) (sym e) by_rest

-- the end of a walk
pub walks_over : (start : State) (file : List ℕ) (none : Parts) (state : State) (bytes : List ℕ) (parts : Parts) (out : List Part)
    → Walks start file none state bytes parts → length bytes ≡ 0 → out ≡ all_parts parts
    → (out ≡ all_parts (walked (length file) start file none)) × AreInOrder 0 out (length file) × All IsWithin out × All (EndsIn (length file)) out
walks_over start file none state bytes parts out w none_left o =
    let before : parts.last.offset + parts.last.len + length bytes ≡ length file = w.ends in
    let end : parts.last.offset + parts.last.len ≡ length file = omega arith in
    let covers : AreInOrder 0 out (length file) =
    subst (λ (ps : List Part). AreInOrder 0 ps (length file)) (sym o) (subst (λ n. AreInOrder 0 (all_parts parts) n) end w.ordered) in
    let within : All IsWithin out = subst (λ (ps : List Part). All IsWithin ps) (sym o) (all_within parts w.within) in (
      o ∙ sym (ap all_parts (w.parts_are ∙ walked_over (length bytes) state bytes parts none_left)),
      covers,
      within,
      all_inside 0 out (length file) covers within,
    )
