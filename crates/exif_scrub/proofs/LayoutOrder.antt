-- The spans of a file are in order.
use Rattle.std.proofs.Common.{◌≡◌, ◌<◌, ◌≤◌, ◌+◌, ◌-◌, ℕ, zero, suc, Bool, true, false, cond, ltb, List, [], ◌∷◌, length, drop, take, min, Option, Some, None, refl, subst, arith, length-drop, length-take}
use Rattle.std.proofs.lemmas.Bool.Decides.{nat_tests}
use Rattle.std.proofs.lemmas.Grind.{common_steps}
use Rattle.exif_inventory.specs.declared.kind.Kind.TheVariants as kind
use Rattle.exif_inventory.specs.BoxHeaders.{content_of, head_of, name_of}
use Rattle.exif_inventory_heif.specs.Inventories.{heif_layout, is_heif, layout_of}
use Rattle.exif_inventory_heif.specs.Pieces.{box_piece, child_box, child_piece, content_front, is_meta, meta_piece, piece_at, rest_piece, top_box, top_piece}
use Rattle.exif_inventory_heif.specs.Roles.{child_role, top_role}
use Rattle.exif_inventory_heif.specs.Walks.{AreSpans, spans_of, walked}
use Rattle.exif_inventory.specs.declared.boxes.Head.{Head}
use Rattle.exif_inventory_heif.specs.declared.piece.Piece.{Piece}
use Rattle.exif_inventory_heif.specs.declared.piece.State.{State}
use Rattle.exif_inventory_heif.specs.declared.piece.State.TheVariants.{Before, Inside}
use Rattle.exif_inventory_heif.specs.declared.role.Role.{Role}
use Rattle.exif_inventory_heif.specs.declared.role.Role.TheVariants.{Known, Meta}
use Rattle.exif_inventory_heif.specs.declared.span.Span.{Span}
use Rattle.exif_inventory.proofs.BoxHeads.{HeadIn, head_in}
use Rattle.exif_inventory_heif.proofs.PartOrder.{layout_ordered}

-- ---- pieces

-- a piece is of so many bytes, and has one at least
record PieceIn (all : ℕ) (piece : Piece) : Type 0 where
  some : 0 < piece.len
  within : piece.len ≤ all
  framed : piece.front ≤ piece.len

rest_in : (bytes : List ℕ) (next : State) → 0 < length bytes → PieceIn (length bytes) (rest_piece bytes next)
rest_in bytes next h = record { some = h; within = omega arith; framed = omega arith }

content_in : (role : Role) (head : Head) → head.front ≤ head.len → content_front role head ≤ head.len
content_in (Known kind.Picture) head h = omega arith
content_in (Known kind.Xmp) head h = grind (arith, common_steps)
content_in _ head h = h

box_in : (role : Role) (all : ℕ) (head : Head) (next : State) → HeadIn all (Some head) → PieceIn all (box_piece role head next)
box_in role all head next h =
    let least : 8 ≤ head.front = h.0 in
    let front : head.front ≤ head.len = h.1 in
    record { some = omega arith; within = h.2; framed = content_in role head front }

choice_in : (t : Bool) (all : ℕ) (x y : Piece) → (t ≡ true → PieceIn all x) → (t ≡ false → PieceIn all y) → PieceIn all (cond t x y)
choice_in true all x y h k = h refl
choice_in false all x y h k = k refl

meta_in : (all : ℕ) (head : Head) → HeadIn all (Some head) → PieceIn all (meta_piece head)
meta_in all head h =
    let least : 8 ≤ head.front = h.0 in
    let front : head.front ≤ head.len = h.1 in
    let most : head.len ≤ all = h.2 in
    choice_in (ltb (head.len - head.front) 4) all
    (record { role = Known kind.Broken; len = head.len; front = 0; next = Inside 0 })
    (record { role = Meta; len = head.front + 4; front = 0; next = Inside (head.len - head.front - 4) })
    (λ e. record { some = omega arith; within = most; framed = omega arith })
    (λ e. let four : 4 ≤ head.len - head.front = grind (arith, nat_tests) in record { some = omega arith; within = omega arith; framed = omega arith })

top_in : (state : State) (bytes : List ℕ) (head : Option Head) → 0 < length bytes → HeadIn (length bytes) head → PieceIn (length bytes) (top_box state bytes head)
top_in state bytes None some h = rest_in bytes state some
top_in state bytes (Some head) some h =
    choice_in (is_meta state (name_of bytes)) (length bytes) (meta_piece head)
    (box_piece (top_role (name_of bytes) (content_of head bytes)) head state)
    (λ e. meta_in (length bytes) head h)
    (λ e. box_in (top_role (name_of bytes) (content_of head bytes)) (length bytes) head state h)

child_in : (bytes : List ℕ) (head : Option Head) → 0 < length bytes → HeadIn (length bytes) head → PieceIn (length bytes) (child_box bytes head)
child_in bytes None some h = rest_in bytes (Inside 0) some
child_in bytes (Some head) some h =
    box_in (child_role (name_of bytes) (content_of head bytes)) (length bytes) head (Inside (length bytes - head.len)) h

piece_in : (state : State) (bytes : List ℕ) → 0 < length bytes → PieceIn (length bytes) (piece_at state bytes)
unfolding top_piece child_piece
piece_in Before bytes some = top_in Before bytes (head_of bytes) some (head_in bytes)
piece_in (Inside zero) bytes some = top_in (Inside 0) bytes (head_of bytes) some (head_in bytes)
piece_in (Inside (suc space)) bytes some =
    let front : List ℕ = take (suc space) bytes in
    let long : length front ≡ min (suc space) (length bytes) = length-take (suc space) bytes in
    let least : 0 < length front = grind (arith, common_steps) in
    let most : length front ≤ length bytes = grind (arith, common_steps) in
    let p = child_in front (head_of front) least (head_in front) in
    let within : (child_box front (head_of front)).len ≤ length front = p.within in
    record { some = p.some; within = omega arith; framed = p.framed }

-- ---- spans

walked_ordered : (n : ℕ) (state : State) (from : ℕ) (bytes : List ℕ) → length bytes ≤ n → AreSpans from (walked n state from bytes) (from + length bytes)
unfolding walked
walked_ordered zero state from [] h = omega arith
walked_ordered (suc n) state from [] h = omega arith
walked_ordered zero state from (b ∷ bytes) h = absurd (omega arith)
walked_ordered (suc n) state from (b ∷ bytes) h =
    let piece = piece_at state (b ∷ bytes) in
    let p = piece_in state (b ∷ bytes) (omega arith) in
    let some : 0 < piece.len = p.some in
    let within : piece.len ≤ suc (length bytes) = p.within in
    let framed : piece.front ≤ piece.len = p.framed in
    let rest : List ℕ = drop (piece.len - 1) bytes in
    let short : length rest ≡ length bytes - (piece.len - 1) = length-drop (piece.len - 1) bytes in
    let end : from + piece.len + length rest ≡ from + suc (length bytes) = omega arith in
    let behind = walked_ordered n piece.next (from + piece.len) rest (omega arith) in
    (refl, omega arith, omega arith, subst (λ e. AreSpans (from + piece.len) (walked n piece.next (from + piece.len) rest) e) end behind)

found_ordered : (file : List ℕ) → AreSpans 0 (spans_of file) (length file)
found_ordered file =
    let none : 0 + length file ≡ length file = omega arith in
    subst (λ e. AreSpans 0 (spans_of file) e) none (walked_ordered (length file) Before 0 file (omega arith))

laid : (t : Bool) (layout found : List Span × Bool) → ◌≡◌ {A = Option (List Span × Bool)} (cond t (Some layout) None) (Some found) → found ≡ layout
laid true layout found e = cc
laid false layout found e = absurd (cc)

-- the spans of a file are in order
pub heif_ordered : (file : List ℕ) (spans : List Span) (judged : Bool) → heif_layout file ≡ Some (spans, judged) → AreSpans 0 spans (length file)
unfolding layout_of
heif_ordered file spans judged e =
    layout_ordered file (spans_of file) spans judged (found_ordered file) (laid (is_heif file) (layout_of file) (spans, judged) e)
