-- The reader finds what was put into a JPEG XL file: the new file as the tree of its boxes.
use Rattle.std.proofs.Common.{◌≡◌, ◌∙◌, ◌⊎◌, inl, inr, ◌<◌, ◌≤◌, ◌+◌, ◌-◌, ℕ, Bool, true, false, cond, List, [], ◌∷◌, ◌++◌, length, take, drop, codes, Some, Ok, refl, sym, ap, subst, arith, append_assoc, append-nil, length-drop}
use Rattle.std.specs.Int.{from_be_bytes, to_be_bytes, w32, w64}
use Rattle.std.specs.List.{flat_map}
use Rattle.std.proofs.Math.Seq.{take-add}
use Rattle.std.proofs.lemmas.List.{drop-drop, length-take-le}
use Rattle.std.proofs.lemmas.Nat.{from_be_bytes-to_be_bytes_4}
use Rattle.byteorder.specs.Endian.{big_number}
use Rattle.exif_segments.specs.declared.remove.Remove.{Remove}
use Rattle.exif_inventory.specs.JxlPieces.{box_piece}
use Rattle.exif_inventory.specs.declared.piece.Piece.{Piece}
use Rattle.exif_containers.specs.Container.{data_of}
use Rattle.exif_formats.specs.Jxl.{jxl_answer, max_boxes, signature}
use Rattle.exif_formats.specs.JxlGrammar.{AreOthers, BoxTree, BoxesEnd, FileIsAnswered, Header, IsEnd, IsOther, JxlFile, container, exif, print_box, print_end}
use Rattle.exif_formats.proofs.LawsJxl.{alike, unlike}
use Rattle.exif_parts.specs.Jxl.{begins_typed, exif_box, front_len, jxl_rewritten}
use Rattle.exif_parts.specs.Written.{Written}
use Rattle.exif_parts.proofs.JxlAgain.{put_at, typed}
use Rattle.exif_parts.proofs.JxlReads.{found, whole_len}

-- ---- numbers

number_4 : (bytes : List ℕ) → big_number 4 bytes ≡ from_be_bytes w32 bytes
number_4 bytes = omega arith

number_8 : (bytes : List ℕ) → big_number 8 bytes ≡ from_be_bytes w64 bytes
number_8 bytes = omega arith

-- ---- the box of new data

abbrev new_header : List ℕ → Header
new_header payload = record { size = to_be_bytes w32 (12 + length payload); name = codes "Exif"; large = [] }

abbrev new_end : List ℕ → List ℕ → BoxesEnd
new_end payload tail = exif (new_header payload) (0 ∷ 0 ∷ 0 ∷ 0 ∷ []) [] payload tail

new_printed : (payload tail : List ℕ) → print_end (new_end payload tail) ≡ exif_box payload ++ tail
new_printed payload tail = refl

new_ends : (n : ℕ) (payload tail : List ℕ) → n < max_boxes → length payload ≤ 4294967283 → IsEnd n max_boxes (new_end payload tail)
new_ends n payload tail most small =
    let size : big_number 4 (to_be_bytes w32 (12 + length payload)) ≡ 12 + length payload =
    number_4 (to_be_bytes w32 (12 + length payload)) ∙ from_be_bytes-to_be_bytes_4 (12 + length payload) (omega arith) in
    (most, inl (inl (record { header = record { size_len = refl; name_len = refl }; none = refl; size_is = omega arith })), refl, refl, refl)

-- ---- the box of the file's type

record TypeBox (xs : List ℕ) : Type 0 where
  tree : BoxTree
  is : print_box tree ≡ take (box_piece xs).len xs
  other : IsOther tree

-- a small one, and one whose size has eight bytes
abbrev small_tree : List ℕ → ℕ → BoxTree
small_tree xs n = record {
  header = record { size = take 4 xs; name = take 4 (drop 4 xs); large = [] };
  body = take n (drop 4 (drop 4 xs));
}

abbrev large_tree : List ℕ → ℕ → BoxTree
large_tree xs n = record {
  header = record { size = take 4 xs; name = take 4 (drop 4 xs); large = take 8 (drop 4 (drop 4 xs)) };
  body = take n (drop 8 (drop 4 (drop 4 xs)));
}

small_printed : (xs : List ℕ) (n : ℕ) → print_box (small_tree xs n) ≡ take (4 + (4 + n)) xs
small_printed xs n =
    ap (λ (l : List ℕ). (take 4 xs ++ l) ++ take n (drop 4 (drop 4 xs))) (append-nil (take 4 (drop 4 xs)))
    ∙ append_assoc (take 4 xs) (take 4 (drop 4 xs)) (take n (drop 4 (drop 4 xs)))
    ∙ ap (λ (l : List ℕ). take 4 xs ++ l) (sym (take-add 4 n (drop 4 xs)))
    ∙ sym (take-add 4 (4 + n) xs)

large_printed : (xs : List ℕ) (n : ℕ) → print_box (large_tree xs n) ≡ take (4 + (4 + (8 + n))) xs
large_printed xs n =
    append_assoc (take 4 xs) (take 4 (drop 4 xs) ++ take 8 (drop 4 (drop 4 xs))) (take n (drop 8 (drop 4 (drop 4 xs))))
    ∙ ap (λ (l : List ℕ). take 4 xs ++ l) (append_assoc (take 4 (drop 4 xs)) (take 8 (drop 4 (drop 4 xs))) (take n (drop 8 (drop 4 (drop 4 xs)))))
    ∙ ap (λ (l : List ℕ). take 4 xs ++ (take 4 (drop 4 xs) ++ l)) (sym (take-add 8 n (drop 4 (drop 4 xs))))
    ∙ ap (λ (l : List ℕ). take 4 xs ++ l) (sym (take-add 4 (8 + n) (drop 4 xs)))
    ∙ sym (take-add 4 (4 + (8 + n)) xs)

type_box : (xs : List ℕ) → begins_typed xs ≡ true → TypeBox xs
type_box xs e =
    let y = typed xs e in
    let f = found xs y.whole y.first in
    let len : (box_piece xs).len ≡ f.size = ap (λ (p : Piece). p.len) (f.boxed xs f.within refl).piece ∙ whole_len xs f.header f.size in
    by f.header f.size f.fits f.within f.spelled len (alike (take 4 (drop 4 xs)) (codes "ftyp") y.named)
  where
    by : (header size : ℕ) → header ≤ size → size ≤ length xs
        → ((header ≡ 8) × (from_be_bytes w32 (take 4 xs) ≡ size)) ⊎ ((header ≡ 16) × (from_be_bytes w32 (take 4 xs) ≡ 1) × (from_be_bytes w64 (take 8 (drop 8 xs)) ≡ size))
        → (box_piece xs).len ≡ size → take 4 (drop 4 xs) ≡ codes "ftyp" → TypeBox xs
    by header size fits within (inl s) len name =
        let eight = s.0 in
        let four : length (drop 4 xs) ≡ length xs - 4 = length-drop 4 xs in
        let behind : length (drop 4 (drop 4 xs)) ≡ length (drop 4 xs) - 4 = length-drop 4 (drop 4 xs) in
        let body : length (take (size - 8) (drop 4 (drop 4 xs))) ≡ size - 8 = length-take-le (size - 8) (drop 4 (drop 4 xs)) (omega arith) in
        let number : big_number 4 (take 4 xs) ≡ size = number_4 (take 4 xs) ∙ s.1 in
        let all : 4 + (4 + (size - 8)) ≡ (box_piece xs).len = omega arith in record {
          tree = small_tree xs (size - 8);
          is = small_printed xs (size - 8) ∙ ap (λ k. take k xs) all;
          other = (
            inl (record {
              header = record { size_len = length-take-le 4 xs (omega arith); name_len = length-take-le 4 (drop 4 xs) (omega arith) };
              none = refl;
              size_is = omega arith;
            }),
            (
              (λ is. unlike (codes "ftyp") (codes "Exif") refl (sym name ∙ is)),
              λ is. absurd (unlike (codes "ftyp") (codes "brob") refl (sym name ∙ is)),
            ),
          );
        }
    by header size fits within (inr s) len name =
        let sixteen = s.0 in
        let four : length (drop 4 xs) ≡ length xs - 4 = length-drop 4 xs in
        let behind : length (drop 4 (drop 4 xs)) ≡ length (drop 4 xs) - 4 = length-drop 4 (drop 4 xs) in
        let last : length (drop 8 (drop 4 (drop 4 xs))) ≡ length (drop 4 (drop 4 xs)) - 8 = length-drop 8 (drop 4 (drop 4 xs)) in
        let body : length (take (size - 16) (drop 8 (drop 4 (drop 4 xs)))) ≡ size - 16 = length-take-le (size - 16) (drop 8 (drop 4 (drop 4 xs))) (omega arith) in
        let one : big_number 4 (take 4 xs) ≡ 1 = number_4 (take 4 xs) ∙ s.1 in
        let number : big_number 8 (take 8 (drop 4 (drop 4 xs))) ≡ size =
        ap (λ (l : List ℕ). big_number 8 (take 8 l)) (drop-drop 4 4 xs) ∙ number_8 (take 8 (drop 8 xs)) ∙ s.2 in
        let all : 4 + (4 + (8 + (size - 16))) ≡ (box_piece xs).len = omega arith in record {
          tree = large_tree xs (size - 16);
          is = large_printed xs (size - 16) ∙ ap (λ k. take k xs) all;
          other = (
            inr (record {
              header = record { size_len = length-take-le 4 xs (omega arith); name_len = length-take-le 4 (drop 4 xs) (omega arith) };
              one = one;
              large_len = length-take-le 8 (drop 4 (drop 4 xs)) (omega arith);
              size_is = omega arith;
            }),
            (
              (λ is. unlike (codes "ftyp") (codes "Exif") refl (sym name ∙ is)),
              λ is. absurd (unlike (codes "ftyp") (codes "brob") refl (sym name ∙ is)),
            ),
          );
        }

-- ---- the file

answered : (payload tail : List ℕ) (bs : List BoxTree) → ((f : JxlFile) → FileIsAnswered f) → AreOthers bs → length bs < max_boxes → length payload ≤ 4294967283
    → data_of (jxl_answer (signature ++ (flat_map print_box bs ++ (exif_box payload ++ tail)))) ≡ Ok payload
answered payload tail bs law others most small =
    ap (λ (l : List ℕ). data_of (jxl_answer (signature ++ (flat_map print_box bs ++ l)))) (sym (new_printed payload tail))
    ∙ ap data_of (law (container bs (new_end payload tail)) (others, new_ends (length bs) payload tail most small))

pub found_again : (remove : Remove) (payload file : List ℕ) (new : Written) → ((f : JxlFile) → FileIsAnswered f)
    → jxl_rewritten remove (Some payload) file ≡ Ok new → data_of (jxl_answer new.bytes) ≡ Ok payload
found_again remove payload file new law e =
    let p = put_at remove payload file new e in
    ap (λ (l : List ℕ). data_of (jxl_answer l)) p.is
    ∙ by p.tail p.small (alike (take 12 file) signature p.begins) (begins_typed (drop 12 file)) refl
  where
    xs : List ℕ
    xs = drop 12 file

    by : (tail : List ℕ) → length payload ≤ 4294967283 → take 12 file ≡ signature → (t : Bool) → begins_typed xs ≡ t
        → data_of (jxl_answer (take (12 + cond t (box_piece xs).len 0) file ++ (exif_box payload ++ tail))) ≡ Ok payload
    by tail small begins false t =
        ap (λ (l : List ℕ). data_of (jxl_answer (l ++ (exif_box payload ++ tail)))) begins
        ∙ answered payload tail [] law tt (omega arith) small
    by tail small begins true t =
        let b = type_box xs t in
        let new' : List ℕ = exif_box payload ++ tail in
        ap (λ (l : List ℕ). data_of (jxl_answer (l ++ new'))) (take-add 12 (box_piece xs).len file)
        ∙ ap (λ (l : List ℕ). data_of (jxl_answer ((l ++ take (box_piece xs).len xs) ++ new'))) begins
        ∙ ap (λ (l : List ℕ). data_of (jxl_answer ((signature ++ l) ++ new'))) (sym b.is)
        ∙ ap (λ (l : List ℕ). data_of (jxl_answer l)) (append_assoc signature (print_box b.tree) new')
        ∙ ap (λ (l : List ℕ). data_of (jxl_answer (signature ++ (l ++ new')))) (sym (append-nil (print_box b.tree)))
        ∙ answered payload tail (b.tree ∷ []) law (b.other, tt) (omega arith) small
