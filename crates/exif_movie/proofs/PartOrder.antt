-- The parts of a file are in order.
use Rattle.std.proofs.Common.{◌≡◌, ◌<◌, ◌≤◌, ◌+◌, ◌-◌, ◌||◌, ◌++◌, ℕ, zero, suc, Bool, true, false, cond, ltb, eqb, List, [], ◌∷◌, length, drop, take, min, All, Option, Some, None, Result, Ok, Err, if◌then◌else◌, refl, ap, sym, ◌∙◌, subst, arith, length-drop, length-take}
use Rattle.std.proofs.lemmas.Bool.Decides.{nat_tests}
use Rattle.std.proofs.lemmas.Grind.{common_steps}
use Rattle.std.proofs.lemmas.List.Elements.{All-cons, All-nil}
use Rattle.exif_inventory.proofs.BoxHeads.{HeadIn, head_in}
use Rattle.exif_inventory.specs.BoxHeaders.{content_of, head_of, name_of}
use Rattle.exif_inventory.specs.declared.boxes.Head.{Head}
use Rattle.exif_movie.specs.Boxes.{has_size, head_at}
use Rattle.exif_movie.specs.Files.{has_movie, is_video, parts_of, parts_with}
use Rattle.exif_movie.specs.Kinds.{kind_at}
use Rattle.exif_movie.specs.Named.{keys_after, named, named_part}
use Rattle.exif_movie.specs.Parts.{AreParts, IsInside, data_of}
use Rattle.exif_movie.specs.Pieces.{box_piece, content_front, headed_piece, is_file, is_quicktime_meta, meta_front, piece_at, rest_piece}
use Rattle.exif_movie.specs.Walks.{boxes_in, header_of, opened, opened_file, opened_kind, opened_one, walked}
use Rattle.exif_movie.specs.declared.file.Refusal.{Refusal}
use Rattle.exif_movie.specs.declared.file.Refusal.TheVariants as refusal
use Rattle.exif_movie.specs.declared.kind.Kind.{Kind}
use Rattle.exif_movie.specs.declared.kind.Kind.TheVariants as kind
use Rattle.exif_movie.specs.declared.kind.Container.{Container}
use Rattle.exif_movie.specs.declared.kind.Container.TheVariants as container
use Rattle.exif_movie.specs.declared.part.Part.{Part}
use Rattle.exif_movie.specs.declared.piece.Piece.{Piece}

-- ---- headers

either_in : (t : Bool) (all : ℕ) (x y : Option Head) → HeadIn all x → HeadIn all y → HeadIn all (cond t x y)
either_in true all x y h k = h
either_in false all x y h k = k

head_at_in : (top : Bool) (bytes : List ℕ) → HeadIn (length bytes) (head_at top bytes)
head_at_in top bytes = either_in (top || has_size bytes) (length bytes) (head_of bytes) None (head_in bytes) tt

-- ---- pieces

-- a piece is of so many bytes, and has one at least
record PieceIn (all : ℕ) (piece : Piece) : Type 0 where
  some : 0 < piece.len
  within : piece.len ≤ all
  framed : piece.front ≤ piece.len

meta_if : (t : Bool) (front len : ℕ) → front ≤ len → cond t front (min len (front + 4)) ≤ len
meta_if true front len h = h
meta_if false front len h = grind (arith, common_steps)

content_in : (k : Kind) (head : Head) (bytes : List ℕ) → head.front ≤ head.len → content_front k head bytes ≤ head.len
content_in (kind.Unopened container.Meta) head bytes h = meta_if (is_quicktime_meta (content_of head bytes)) head.front head.len h
content_in _ head bytes h = h

headed_in : (within : Container) (bytes : List ℕ) (head : Option Head) → 0 < length bytes → HeadIn (length bytes) head → PieceIn (length bytes) (headed_piece within bytes head)
headed_in within bytes None some h = record { some = some; within = omega arith; framed = omega arith }
headed_in within bytes (Some head) some h =
    let least : 8 ≤ head.front = h.0 in
    let front : head.front ≤ head.len = h.1 in
    record { some = omega arith; within = h.2; framed = content_in (kind_at within (name_of bytes) (content_of head bytes)) head bytes front }

piece_in : (within : Container) (bytes : List ℕ) → 0 < length bytes → PieceIn (length bytes) (piece_at within bytes)
unfolding piece_at
piece_in within bytes some = headed_in within bytes (head_at (is_file within) bytes) some (head_at_in (is_file within) bytes)

-- ---- boxes

walked_ordered : (n : ℕ) (within : Container) (level from : ℕ) (bytes : List ℕ) → length bytes ≤ n → AreParts from (walked n within level from bytes) (from + length bytes)
unfolding walked
walked_ordered zero within level from [] h = omega arith
walked_ordered (suc n) within level from [] h = omega arith
walked_ordered zero within level from (b ∷ bytes) h = absurd (omega arith)
walked_ordered (suc n) within level from (b ∷ bytes) h =
    let piece = piece_at within (b ∷ bytes) in
    let p = piece_in within (b ∷ bytes) (omega arith) in
    let some : 0 < piece.len = p.some in
    let inside : piece.len ≤ suc (length bytes) = p.within in
    let framed : piece.front ≤ piece.len = p.framed in
    let rest : List ℕ = drop (piece.len - 1) bytes in
    let short : length rest ≡ length bytes - (piece.len - 1) = length-drop (piece.len - 1) bytes in
    let end : from + piece.len + length rest ≡ from + suc (length bytes) = omega arith in
    let behind = walked_ordered n within level (from + piece.len) rest (omega arith) in
    (refl, omega arith, omega arith, subst (λ e. AreParts (from + piece.len) (walked n within level (from + piece.len) rest) e) end behind)

boxes_ordered : (within : Container) (level from : ℕ) (bytes : List ℕ) (end : ℕ) → from + length bytes ≡ end → AreParts from (boxes_in within level from bytes) end
boxes_ordered within level from bytes end h =
    subst (λ e. AreParts from (boxes_in within level from bytes) e) h (walked_ordered (length bytes) within level from bytes (omega arith))

-- ---- boxes opened

joined : (from : ℕ) (xs : List Part) (mid : ℕ) (ys : List Part) (end : ℕ) → AreParts from xs mid → AreParts mid ys end → AreParts from (xs ++ ys) end
joined from [] mid ys end h k = subst (λ n. AreParts n ys end) (sym h) k
joined from (x ∷ xs) mid ys end h k = (h.0, h.1, h.2, joined x.end xs mid ys end h.3 k)

data_long : (part : Part) (file : List ℕ) → part.data_offset ≤ part.end → part.end ≤ length file → part.data_offset + length (data_of part file) ≡ part.end
data_long part file c e =
    let front : length (take part.end file) ≡ min part.end (length file) = length-take part.end file in
    let back : length (data_of part file) ≡ length (take part.end file) - part.data_offset = length-drop part.data_offset (take part.end file) in
    grind (arith, common_steps)

opened_in : (k : Kind) (file : List ℕ) (level : ℕ) (part : Part) → part.offset ≤ part.data_offset → part.data_offset ≤ part.end → part.end ≤ length file
    → AreParts part.offset (opened_kind k file level part) part.end
opened_in (kind.Unopened inner) file level part f c e =
    (refl, f, omega arith, boxes_ordered inner level part.data_offset (data_of part file) part.end (data_long part file c e))
opened_in _ file level part f c e = (refl, f, c, refl)

not_before : (from : ℕ) (parts : List Part) (end : ℕ) → AreParts from parts end → from ≤ end
not_before from [] end h = omega arith
not_before from (s ∷ parts) end h =
    let at : s.offset ≡ from = h.0 in
    let f : s.offset ≤ s.data_offset = h.1 in
    let c : s.data_offset ≤ s.end = h.2 in
    let l = not_before s.end parts end h.3 in
    omega arith

opened_ordered : (file : List ℕ) (level from : ℕ) (parts : List Part) (end : ℕ) → AreParts from parts end → end ≤ length file → AreParts from (opened file level parts) end
opened_ordered file level from [] end h e = h
opened_ordered file level from (s ∷ parts) end h e =
    let at : s.offset ≡ from = h.0 in
    let l : s.end ≤ end = not_before s.end parts end h.3 in
    let own : AreParts s.offset (opened_one file level s) s.end = opened_in s.kind file level s h.1 h.2 (omega arith) in
    let first : AreParts from (opened_one file level s) s.end = subst (λ n. AreParts n (opened_one file level s) s.end) at own in
    joined from (opened_one file level s) s.end (opened file level parts) end first (opened_ordered file level s.end parts end h.3 e)

file_ordered : (file : List ℕ) → AreParts 0 (opened_file file) (length file)
file_ordered file =
    let n = length file in
    let p0 = boxes_in container.File 0 0 file in
    let p1 = opened file 1 p0 in
    let p2 = opened file 2 p1 in
    let p3 = opened file 3 p2 in
    let p4 = opened file 4 p3 in
    let p5 = opened file 5 p4 in
    let most : n ≤ n = omega arith in
    let o0 : AreParts 0 p0 n = boxes_ordered container.File 0 0 file n (omega arith) in
    let o1 : AreParts 0 p1 n = opened_ordered file 1 0 p0 n o0 most in
    let o2 : AreParts 0 p2 n = opened_ordered file 2 0 p1 n o1 most in
    let o3 : AreParts 0 p3 n = opened_ordered file 3 0 p2 n o2 most in
    let o4 : AreParts 0 p4 n = opened_ordered file 4 0 p3 n o3 most in
    let o5 : AreParts 0 p5 n = opened_ordered file 5 0 p4 n o4 most in
    opened_ordered file 6 0 p5 n o5 most

-- ---- parts named

named_ordered : (file : List ℕ) (keys : Option Part) (from : ℕ) (parts : List Part) (end : ℕ) → AreParts from parts end → AreParts from (named file keys parts) end
named_ordered file keys from [] end h = h
named_ordered file keys from (s ∷ parts) end h = (h.0, h.1, h.2, named_ordered file (keys_after keys s) s.end parts end h.3)

-- parts in order are within the bytes up to the end of the last one
pub parts_inside : (from : ℕ) (parts : List Part) (end : ℕ) → AreParts from parts end → All (IsInside end) parts
parts_inside from [] end h = All-nil (IsInside end)
parts_inside from (s ∷ parts) end h =
    let f : s.offset ≤ s.data_offset = h.1 in
    let c : s.data_offset ≤ s.end = h.2 in
    All-cons (IsInside end) s parts (omega arith, not_before s.end parts end h.3) (parts_inside s.end parts end h.3)

-- the parts of a file, named, are in order
pub found_ordered : (file : List ℕ) (boxes found : List Part) → boxes ≡ opened_file file → found ≡ named file None boxes → AreParts 0 found (length file)
found_ordered file boxes found b f =
    let o = named_ordered file None 0 (opened_file file) (length file) (file_ordered file) in
    subst (λ (ps : List Part). AreParts 0 ps (length file)) (sym (f ∙ ap (named file None) b)) o

with_ordered : (t : Bool) (file : List ℕ) (parts : List Part) → ◌≡◌ {A = Result (List Part) Refusal} (if t then Ok (named file None (opened_file file)) else Err refusal.NoMovie) (Ok parts)
    → AreParts 0 parts (length file)
with_ordered true file parts e = found_ordered file (opened_file file) parts refl (cc)
with_ordered false file parts e = absurd (cc)

video_if : (t : Bool) (file : List ℕ) (parts : List Part) → ◌≡◌ {A = Result (List Part) Refusal} (if t then parts_with file (opened_file file) else Err refusal.Format) (Ok parts)
    → AreParts 0 parts (length file)
video_if true file parts e = with_ordered (has_movie (opened_file file)) file parts e
video_if false file parts e = absurd (cc)

-- the parts of a video are in order
pub video_ordered : (file : List ℕ) (parts : List Part) → parts_of file ≡ Ok parts → AreParts 0 parts (length file)
video_ordered file parts e = video_if (is_video file) file parts e
