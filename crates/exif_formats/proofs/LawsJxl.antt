-- The answer of a JPEG XL file is that of its tree.
use Rattle.std.proofs.Common.{◌≡◌, ◌≢◌, inl, inr, subst, ℕ, suc, ◌+◌, ◌-◌, ◌<◌, ◌≤◌, Bool, true, false, cond, eqb, ltb, List, [], ◌∷◌, ◌++◌, length, take, drop, codes, Result, Ok, Err, ap, sym, ◌∙◌, refl, arith, append_assoc, append-nil, length-append}
use Rattle.std.specs.List.{flat_map}
use Rattle.std.specs.Str.{bytes_eq}
use Rattle.std.proofs.lemmas.Bool.{ne_eqb, lt-ltb, le-ltb}
use Rattle.std.proofs.lemmas.List.{take_at, take_all, drop_all, drop_at, take-append-drop, drop-drop}
use Rattle.std.proofs.lemmas.Slice.Eq.{bytes_eq-Decides}
use Rattle.byteorder.specs.Endian.{big_number}
use Rattle.byteorder.specs.Numbers.{big_from-append}
use Rattle.exif_types.specs.Refusals.{Refusal}
use Rattle.exif_segments.specs.Answer.{refused}
use Rattle.exif_formats.specs.Jxl.{Box, exif as exif_answer, other, broken_jxl, not_jxl, invalid_size, compressed_exif, no_exif_in_jxl, before_tiff, exif_box, brotli_box, named_box, whole_box, sized_box, large_box, last_of, headed_box, box_at, boxes_answer, max_boxes, signature, begins_jxl, begins_codestream, jxl_answer}
use Rattle.exif_formats.specs.JxlGrammar.{Header, print_header, IsHeader, Gives, IsOpen, Holds, IsTooSmall, BoxTree, print_box, IsOtherBody, IsOther, AreOthers, IsShortBody, BoxesEnd, exif, compressed, last, used_up, short_body, too_small, cut_header, cut_large, cut_body, too_many, print_end, IsEnd, end_answer, JxlFile, container, codestream, short, foreign, IsNoCodestream, FileIsAnswered}
use Rattle.exif_formats.proofs.BoxSteps.{boxes-other, boxes-exif, boxes-refused, boxes-none}
use Rattle.exif_formats.proofs.ReadSteps.{brotli-held, exif-part, large-behind, header-behind}

-- ---- names

differ : (a b : List ℕ) → a ≢ b → bytes_eq a b ≡ false
differ a b h = by (bytes_eq a b) refl
  where
    by : (t : Bool) → bytes_eq a b ≡ t → t ≡ false
    by true e = absurd (h ((bytes_eq-Decides a b).0 e))
    by false e = refl

-- names that differ by a test
pub unlike : (a b : List ℕ) → bytes_eq a b ≡ false → a ≢ b
unlike a b e is = let k : true ≡ false = sym ((bytes_eq-Decides a b).1 is) ∙ e in cc

-- names that are the same by a test
pub alike : (a b : List ℕ) → bytes_eq a b ≡ true → a ≡ b
alike a b e = (bytes_eq-Decides a b).0 e

-- ---- a box is answered as its tree says

pub print-header : (h : Header) (rest : List ℕ) → print_header h ++ rest ≡ h.size ++ (h.name ++ (h.large ++ rest))
print-header h rest = append_assoc h.size (h.name ++ h.large) rest ∙ ap (λ t. h.size ++ t) (append_assoc h.name h.large rest)

box-headed : (size name rest : List ℕ) → length size ≡ 4 → length name ≡ 4 → box_at (size ++ (name ++ rest)) ≡ headed_box (big_number 4 size) name rest
box-headed size name rest sl nl =
    ap box_at (sym (append_assoc size name rest))
    ∙ header-behind (size ++ name) rest (omega (arith, length-append size name))
    ∙ ap (λ t. headed_box (big_number 4 (size ++ name)) (take 4 (drop 4 (size ++ name))) (t ++ rest)) (drop_all 8 (size ++ name) (omega (arith, length-append size name)))
    ∙ ap (λ n. headed_box n (take 4 (drop 4 (size ++ name))) rest) (big_from-append 4 size name (omega arith))
    ∙ ap (λ t. headed_box (big_number 4 size) t rest) (ap (take 4) (drop_at size name 4 sl) ∙ take_all 4 name (omega arith))

header-box : (h : Header) (rest : List ℕ) → IsHeader h → box_at (print_header h ++ rest) ≡ headed_box (big_number 4 h.size) h.name (h.large ++ rest)
header-box h rest i = ap box_at (print-header h rest) ∙ box-headed h.size h.name (h.large ++ rest) i.size_len i.name_len

bare-box : (h : Header) (rest : List ℕ) → IsHeader h → h.large ≡ [] → box_at (print_header h ++ rest) ≡ headed_box (big_number 4 h.size) h.name rest
bare-box h rest i none = header-box h rest i ∙ ap (λ t. headed_box (big_number 4 h.size) h.name (t ++ rest)) none

headed-small : (size : ℕ) (name rest : List ℕ) → 1 < size → headed_box size name rest ≡ sized_box 8 size name rest
headed-small size name rest l =
    ap (λ s. cond s (last_of (named_box name rest [])) (cond (eqb size 1) (large_box name rest) (sized_box 8 size name rest))) (ne_eqb size 0 (λ z. omega arith))
    ∙ ap (λ s. cond s (large_box name rest) (sized_box 8 size name rest)) (ne_eqb size 1 (λ z. omega arith))

sized-fits : (header size len : ℕ) (name rest : List ℕ) → size ≡ header + len → sized_box header size name rest ≡ whole_box name len rest
sized-fits header size len name rest e =
    let left : size - header ≡ len = omega arith in
    ap (λ s. cond s (Err invalid_size) (whole_box name (size - header) rest)) (le-ltb size header (omega arith))
    ∙ ap (λ n. whole_box name n rest) left

-- a box whose header gives the length of its body
gives-box : (h : Header) (len : ℕ) (rest : List ℕ) → Gives h len → box_at (print_header h ++ rest) ≡ whole_box h.name len rest
gives-box h len rest (inl s) =
    let e = s.size_is in
    bare-box h rest s.header s.none ∙ headed-small (big_number 4 h.size) h.name rest (omega arith)
    ∙ sized-fits 8 (big_number 4 h.size) len h.name rest e
gives-box h len rest (inr l) =
    header-box h rest l.header ∙ ap (λ n. headed_box n h.name (h.large ++ rest)) l.one
    ∙ large-behind h.name h.large rest l.large_len ∙ sized-fits 16 (big_number 8 h.large) len h.name rest l.size_is

-- a box that goes to the end
open-box : (h : Header) (rest : List ℕ) → IsOpen h → box_at (print_header h ++ rest) ≡ last_of (named_box h.name rest [])
open-box h rest o = bare-box h rest o.header o.none ∙ ap (λ n. headed_box n h.name rest) o.zero

whole-there : (name body rest : List ℕ) → whole_box name (length body) (body ++ rest) ≡ named_box name body rest
whole-there name body rest =
    ap (λ s. cond s (Err broken_jxl) (named_box name (take (length body) (body ++ rest)) (drop (length body) (body ++ rest)))) (le-ltb (length (body ++ rest)) (length body) (omega (arith, length-append body rest)))
    ∙ ap (λ t. named_box name t (drop (length body) (body ++ rest))) (take_at body rest (length body) refl)
    ∙ ap (named_box name body) (drop_at body rest (length body) refl)

-- a body and what follows it, by what the body is
holds-box : (h : Header) (body rest : List ℕ) (x : Result Box Refusal) → Holds h (length body) rest → named_box h.name body rest ≡ x → last_of x ≡ x
    → box_at (print_header h ++ (body ++ rest)) ≡ x
holds-box h body rest x (inl g) e l = gives-box h (length body) (body ++ rest) g ∙ whole-there h.name body rest ∙ e
holds-box h body rest x (inr (o, none)) e l =
    ap (λ t. box_at (print_header h ++ (body ++ t))) none ∙ ap (λ t. box_at (print_header h ++ t)) (append-nil body)
    ∙ open-box h body o ∙ ap (λ t. last_of (named_box h.name body t)) (sym none) ∙ ap last_of e ∙ l

named-exif : (name body rest : List ℕ) → name ≡ codes "Exif" → named_box name body rest ≡ exif_box body rest
named-exif name body rest e = ap (λ t. named_box t body rest) e

named-brotli : (name body rest : List ℕ) → name ≡ codes "brob" → named_box name body rest ≡ brotli_box body rest
named-brotli name body rest e = ap (λ t. named_box t body rest) e

brotli-other : (body rest : List ℕ) → 4 ≤ length body → take 4 body ≢ codes "Exif" → brotli_box body rest ≡ Ok (other rest)
brotli-other body rest l n =
    ap (λ s. cond s (Err broken_jxl) (cond (bytes_eq (take 4 body) (codes "Exif")) (Err compressed_exif) (Ok (other rest)))) (le-ltb (length body) 4 l)
    ∙ ap (λ s. cond s (Err compressed_exif) (Ok (other rest))) (differ (take 4 body) (codes "Exif") n)

named-other : (name body rest : List ℕ) → IsOtherBody name body → named_box name body rest ≡ Ok (other rest)
named-other name body rest h =
    ap (λ s. cond s (exif_box body rest) (cond (bytes_eq name (codes "brob")) (brotli_box body rest) (Ok (other rest)))) (differ name (codes "Exif") h.0)
    ∙ by (bytes_eq name (codes "brob")) refl
  where
    by : (t : Bool) → bytes_eq name (codes "brob") ≡ t → cond t (brotli_box body rest) (Ok (other rest)) ≡ Ok (other rest)
    by true e = let k = h.1 (alike name (codes "brob") e) in brotli-other body rest k.0 k.1
    by false e = refl

other-box : (b : BoxTree) (more : List ℕ) → IsOther b → box_at (print_box b ++ more) ≡ Ok (other more)
other-box b more h =
    ap box_at (append_assoc (print_header b.header) b.body more) ∙ gives-box b.header (length b.body) (b.body ++ more) h.0
    ∙ whole-there b.header.name b.body more ∙ named-other b.header.name b.body more h.1

-- an offset, so many bytes and the TIFF data
exif-there : (offset before tiff rest : List ℕ) → length offset ≡ 4 → big_number 4 offset ≡ length before
    → exif_box (offset ++ (before ++ tiff)) rest ≡ Ok (exif_answer tiff rest)
exif-there offset before tiff rest l e =
    let body : List ℕ = offset ++ (before ++ tiff) in
    exif-part (offset ++ (before ++ tiff)) rest tiff (4 + length before)
    (ap (λ n. 4 + n) (big_from-append 4 offset (before ++ tiff) (omega arith) ∙ e))
    (omega (arith, length-append offset (before ++ tiff), length-append before tiff))
    (sym (drop-drop (length before) 4 body) ∙ ap (drop (length before)) (drop_at offset (before ++ tiff) 4 l) ∙ drop_at before tiff (length before) refl)

short-body : (name body rest : List ℕ) → IsShortBody name body → named_box name body rest ≡ Err broken_jxl
short-body name body rest (inl (e, l)) =
    named-exif name body rest e
    ∙ ap (λ s. cond s (Err broken_jxl) (Ok (exif_answer (drop (before_tiff body) body) rest))) (lt-ltb (length body) (before_tiff body) l)
short-body name body rest (inr (e, l)) =
    named-brotli name body rest e
    ∙ ap (λ s. cond s (Err broken_jxl) (cond (bytes_eq (take 4 body) (codes "Exif")) (Err compressed_exif) (Ok (other rest)))) (lt-ltb (length body) 4 l)

small-box : (h : Header) (rest : List ℕ) → IsTooSmall h → box_at (print_header h ++ rest) ≡ Err invalid_size
small-box h rest (inl (i, none, least, most)) =
    bare-box h rest i none ∙ headed-small (big_number 4 h.size) h.name rest least
    ∙ ap (λ s. cond s (Err invalid_size) (whole_box h.name (big_number 4 h.size - 8) rest)) (lt-ltb (big_number 4 h.size) 8 most)
small-box h rest (inr (i, one, l, most)) =
    header-box h rest i ∙ ap (λ n. headed_box n h.name (h.large ++ rest)) one ∙ large-behind h.name h.large rest l
    ∙ ap (λ s. cond s (Err invalid_size) (whole_box h.name (big_number 8 h.large - 16) rest)) (lt-ltb (big_number 8 h.large) 16 most)

cut-box : (bytes : List ℕ) → 0 < length bytes → length bytes < 8 → box_at bytes ≡ Err broken_jxl
cut-box bytes some l =
    let more = headed_box (big_number 4 bytes) (take 4 (drop 4 bytes)) (drop 8 bytes) in
    ap (λ s. cond s (Err no_exif_in_jxl) (cond (ltb (length bytes) 8) (Err broken_jxl) more)) (ne_eqb (length bytes) 0 (λ z. omega arith))
    ∙ ap (λ s. cond s (Err broken_jxl) more) (lt-ltb (length bytes) 8 l)

cut-large-box : (h : Header) → IsHeader h → big_number 4 h.size ≡ 1 → length h.large < 8 → box_at (print_header h) ≡ Err broken_jxl
cut-large-box h i one l =
    box-headed h.size h.name h.large i.size_len i.name_len ∙ ap (λ n. headed_box n h.name h.large) one
    ∙ ap (λ s. cond s (Err broken_jxl) (sized_box 16 (big_number 8 h.large) h.name (drop 8 h.large))) (lt-ltb (length h.large) 8 l)

cut-body-box : (h : Header) (len : ℕ) (bytes : List ℕ) → Gives h len → length bytes < len → box_at (print_header h ++ bytes) ≡ Err broken_jxl
cut-body-box h len bytes g l =
    gives-box h len bytes g ∙ ap (λ s. cond s (Err broken_jxl) (named_box h.name (take len bytes) (drop len bytes))) (lt-ltb (length bytes) len l)

-- ---- boxes are answered as their trees say

answer-end : (n left most : ℕ) (end : BoxesEnd) → left + n ≡ most → IsEnd n most end → boxes_answer left (print_end end) ≡ end_answer end
answer-end n left most (exif h offset before tiff rest) s i =
    let some = i.0 in
    boxes-exif left (print_header h ++ ((offset ++ (before ++ tiff)) ++ rest)) tiff rest (omega arith)
    (holds-box h (offset ++ (before ++ tiff)) rest (Ok (exif_answer tiff rest)) i.1 (named-exif h.name (offset ++ (before ++ tiff)) rest i.2 ∙ exif-there offset before tiff rest i.3 i.4) refl)
answer-end n left most (compressed h packed rest) s i =
    let some = i.0 in
    boxes-refused left (print_header h ++ ((codes "Exif" ++ packed) ++ rest)) compressed_exif (omega arith)
    (holds-box h (codes "Exif" ++ packed) rest (Err compressed_exif) i.1 (named-brotli h.name (codes "Exif" ++ packed) rest i.2 ∙ brotli-held (codes "Exif") packed rest true refl refl) refl)
answer-end n left most (last h body) s i =
    let some = i.0 in
    boxes-refused left (print_header h ++ body) no_exif_in_jxl (omega arith) (open-box h body i.1 ∙ ap last_of (named-other h.name body [] i.2))
answer-end n left most used_up s i = boxes-refused left [] no_exif_in_jxl (omega arith) refl
answer-end n left most (short_body h body rest) s i =
    let some = i.0 in
    boxes-refused left (print_header h ++ (body ++ rest)) broken_jxl (omega arith) (holds-box h body rest (Err broken_jxl) i.1 (short-body h.name body rest i.2) refl)
answer-end n left most (too_small h rest) s i =
    let some = i.0 in boxes-refused left (print_header h ++ rest) invalid_size (omega arith) (small-box h rest i.1)
answer-end n left most (cut_header bytes) s i = let some = i.0 in boxes-refused left bytes broken_jxl (omega arith) (cut-box bytes i.1 i.2)
answer-end n left most (cut_large h) s i =
    let some = i.0 in boxes-refused left (print_header h) broken_jxl (omega arith) (cut-large-box h i.1 i.2 i.3)
answer-end n left most (cut_body h len bytes) s i =
    let some = i.0 in boxes-refused left (print_header h ++ bytes) broken_jxl (omega arith) (cut-body-box h len bytes i.1 i.2)
answer-end n left most (too_many rest) s i = boxes-none left rest (omega arith)

-- no more boxes come before the end than count
not-over : (n most : ℕ) (end : BoxesEnd) → IsEnd n most end → n ≤ most
not-over n most (exif h offset before tiff rest) i = let l = i.0 in omega arith
not-over n most (compressed h packed rest) i = let l = i.0 in omega arith
not-over n most (last h body) i = let l = i.0 in omega arith
not-over n most used_up i = omega arith
not-over n most (short_body h body rest) i = let l = i.0 in omega arith
not-over n most (too_small h rest) i = let l = i.0 in omega arith
not-over n most (cut_header bytes) i = let l = i.0 in omega arith
not-over n most (cut_large h) i = let l = i.0 in omega arith
not-over n most (cut_body h len bytes) i = let l = i.0 in omega arith
not-over n most (too_many rest) i = omega arith

-- the number of boxes before an end, counted otherwise
pub same-end : (m n most : ℕ) (end : BoxesEnd) → m ≡ n → IsEnd m most end → IsEnd n most end
same-end m n most end e i = let P : ℕ → Type 0 = λ k. IsEnd k most end in subst P e i

answer-boxes : (n left most : ℕ) (bs : List BoxTree) (end : BoxesEnd) → left + n ≡ most → AreOthers bs → IsEnd (n + length bs) most end
    → boxes_answer left (flat_map print_box bs ++ print_end end) ≡ end_answer end
answer-boxes n left most [] end s h i = answer-end n left most end s (same-end (n + 0) n most end (omega arith) i)
answer-boxes n left most (b ∷ bs) end s h i =
    let more : List ℕ = flat_map print_box bs ++ print_end end in
    let fits = not-over (n + suc (length bs)) most end i in
    ap (boxes_answer left) (append_assoc (print_box b) (flat_map print_box bs) (print_end end))
    ∙ boxes-other left (print_box b ++ more) more (omega arith) (other-box b more h.0)
    ∙ answer-boxes (suc n) (left - 1) most bs end (omega arith) h.1 (same-end (n + suc (length bs)) (suc n + length bs) most end (omega arith) i)

-- ---- the signature of a file

answer-container : (xs : List ℕ) → jxl_answer (signature ++ xs) ≡ boxes_answer max_boxes xs
answer-container xs = ap (λ s. cond s (refused broken_jxl) (boxes_answer max_boxes xs)) (le-ltb (length (signature ++ xs)) 12 (omega (arith, length-append signature xs)))

-- bytes that begin as a codestream does
pub code-split : (bytes : List ℕ) → begins_codestream bytes ≡ true → 0xff ∷ 0x0a ∷ drop 2 bytes ≡ bytes
code-split bytes e = ap (λ t. t ++ drop 2 bytes) (sym (alike (take 2 bytes) (0xff ∷ 0x0a ∷ []) e)) ∙ take-append-drop 2 bytes

-- bytes that begin with the signature
pub signature-split : (bytes : List ℕ) → begins_jxl bytes ≡ true → signature ++ drop 12 bytes ≡ bytes
signature-split bytes e = ap (λ t. t ++ drop 12 bytes) (sym (alike (take 12 bytes) signature e)) ∙ take-append-drop 12 bytes

no-code : (bytes : List ℕ) → IsNoCodestream bytes → begins_codestream bytes ≡ false
no-code bytes h = by (begins_codestream bytes) refl
  where
    by : (t : Bool) → begins_codestream bytes ≡ t → t ≡ false
    by true e = absurd (h (drop 2 bytes) (sym (code-split bytes e)))
    by false e = refl

no-signature : (bytes : List ℕ) → ((rest : List ℕ) → bytes ≡ signature ++ rest → ⊥) → begins_jxl bytes ≡ false
no-signature bytes h = by (begins_jxl bytes) refl
  where
    by : (t : Bool) → begins_jxl bytes ≡ t → t ≡ false
    by true e = absurd (h (drop 12 bytes) (sym (signature-split bytes e)))
    by false e = refl

uncoded : (bytes : List ℕ) → begins_codestream bytes ≡ false
    → jxl_answer bytes ≡ cond (ltb (length bytes) 12) (refused broken_jxl) (cond (begins_jxl bytes) (boxes_answer max_boxes (drop 12 bytes)) (refused not_jxl))
uncoded bytes e =
    ap (λ s. cond s (refused no_exif_in_jxl) (cond (ltb (length bytes) 12) (refused broken_jxl) (cond (begins_jxl bytes) (boxes_answer max_boxes (drop 12 bytes)) (refused not_jxl)))) e

-- a file is answered as its tree says
pub file_is_answered : (f : JxlFile) → FileIsAnswered f
file_is_answered (container bs end) h =
    answer-container (flat_map print_box bs ++ print_end end)
    ∙ answer-boxes 0 max_boxes max_boxes bs end refl h.0 (same-end (length bs) (0 + length bs) max_boxes end (omega arith) h.1)
file_is_answered (codestream rest) h = refl
file_is_answered (short bytes) h =
    uncoded bytes (no-code bytes h.1) ∙ ap (λ s. cond s (refused broken_jxl) (cond (begins_jxl bytes) (boxes_answer max_boxes (drop 12 bytes)) (refused not_jxl))) (lt-ltb (length bytes) 12 h.0)
file_is_answered (foreign bytes) h =
    uncoded bytes (no-code bytes h.1) ∙ ap (λ s. cond s (refused broken_jxl) (cond (begins_jxl bytes) (boxes_answer max_boxes (drop 12 bytes)) (refused not_jxl))) (le-ltb (length bytes) 12 h.0)
    ∙ ap (λ s. cond s (boxes_answer max_boxes (drop 12 bytes)) (refused not_jxl)) (no-signature bytes h.2)
