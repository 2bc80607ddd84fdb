-- The answer of a RAF file is that of its tree, and all bytes have a tree.
use Rattle.std.proofs.Common.{◌≡◌, ℕ, ◌+◌, ◌-◌, ◌^◌, ◌≤◌, Bool, true, false, cond, ltb, List, ◌++◌, length, take, drop, codes, ap, sym, ◌∙◌, refl, subst, arith, append_assoc, length-append, length-drop}
use Rattle.std.proofs.lemmas.Bool.{lt-ltb, ltb-true, ltb-false}
use Rattle.std.proofs.lemmas.List.{take_at, drop_at, take-append-drop, length-take-le, drop-drop}
use Rattle.std.proofs.lemmas.Slice.Eq.{bytes_eq-Decides}
use Rattle.byteorder.specs.Endian.{big_number}
use Rattle.byteorder.specs.Numbers.{big_from-append}
use Rattle.exif_segments.specs.Answer.{refused}
use Rattle.exif_segments.specs.Jpeg.{jpeg_answer}
use Rattle.exif_formats.specs.Raf.{broken_raf, not_raf, begins_raf, jpeg_offset, stream_answer, raf_answer}
use Rattle.exif_formats.specs.RafGrammar.{RafHeader, print_header, IsHeader, offset_of, RafFile, stream, cut, early, short, foreign, HasNoSignature, FileIsAnswered, IsAFile}
use Rattle.exif_formats.proofs.RafSteps.{raf-stream, stream-there, stream-cut, stream-early}

-- ---- a header

header-len : (h : RafHeader) → IsHeader h → length (print_header h) ≡ 92
header-len h is =
    let a = is.fields_len in
    let b = is.offset_len in
    let c = is.size_len in
    omega (arith, length-append (codes "FUJIFILMCCD-RAW ") (h.fields ++ (h.offset ++ h.size)), length-append h.fields (h.offset ++ h.size), length-append h.offset h.size)

header-begins : (h : RafHeader) → begins_raf (print_header h) ≡ true
header-begins h =
    (bytes_eq-Decides (take 16 (print_header h)) (codes "FUJIFILMCCD-RAW ")).1 (take_at (codes "FUJIFILMCCD-RAW ") (h.fields ++ (h.offset ++ h.size)) 16 refl)

header-offset : (h : RafHeader) → IsHeader h → offset_of h ≡ jpeg_offset (print_header h)
header-offset h is =
    let a = is.fields_len in
    let b = is.offset_len in
    sym (ap (λ t. big_number 4 (drop 84 t)) (sym (append_assoc (codes "FUJIFILMCCD-RAW ") h.fields (h.offset ++ h.size)))
    ∙ ap (big_number 4) (drop_at (codes "FUJIFILMCCD-RAW " ++ h.fields) (h.offset ++ h.size) 84 (omega (arith, length-append (codes "FUJIFILMCCD-RAW ") h.fields)))
    ∙ big_from-append 4 h.offset h.size (omega arith))

headed : (h : RafHeader) (rest : List ℕ) → IsHeader h → raf_answer (print_header h ++ rest) ≡ stream_answer (offset_of h) (print_header h ++ rest)
headed h rest is = raf-stream (print_header h) rest (offset_of h) (header-len h is) (header-begins h) (header-offset h is)

-- ---- a file is answered as its tree says

no-signature : (bytes : List ℕ) → HasNoSignature bytes → begins_raf bytes ≡ false
no-signature bytes h = by (begins_raf bytes) refl
  where
    by : (t : Bool) → begins_raf bytes ≡ t → t ≡ false
    by true e =
        let same : take 16 bytes ≡ codes "FUJIFILMCCD-RAW " = (bytes_eq-Decides (take 16 bytes) (codes "FUJIFILMCCD-RAW ")).0 e in
        absurd (h (drop 16 bytes) (sym (take-append-drop 16 bytes) ∙ ap (λ t. t ++ drop 16 bytes) same))
    by false e = refl

-- the answer of a file is that of its tree
pub raf_file_is_answered : (f : RafFile) → FileIsAnswered f
raf_file_is_answered (stream h gap jpeg) is =
    let len : length (print_header h) ≡ 92 = header-len h is.0 in
    let at = is.1 in
    headed h (gap ++ jpeg) is.0
    ∙ stream-there (offset_of h) (print_header h ++ (gap ++ jpeg)) (omega arith) (omega (arith, length-append (print_header h) (gap ++ jpeg), length-append gap jpeg))
    ∙ ap (λ t. jpeg_answer (take (2 ^ 64 - 1) (drop (offset_of h) t))) (sym (append_assoc (print_header h) gap jpeg))
    ∙ ap (λ t. jpeg_answer (take (2 ^ 64 - 1) t)) (drop_at (print_header h ++ gap) jpeg (offset_of h) (omega (arith, length-append (print_header h) gap)))
raf_file_is_answered (cut h rest) is =
    let len : length (print_header h) ≡ 92 = header-len h is.0 in
    headed h rest is.0 ∙ stream-cut (offset_of h) (print_header h ++ rest) (omega (arith, is.1)) (omega (arith, is.1, length-append (print_header h) rest))
raf_file_is_answered (early h rest) is = headed h rest is.0 ∙ stream-early (offset_of h) (print_header h ++ rest) is.1
raf_file_is_answered (short bytes) is =
    ap (λ t. cond t (refused broken_raf) (cond (begins_raf bytes) (stream_answer (jpeg_offset bytes) bytes) (refused not_raf))) (lt-ltb (length bytes) 92 is)
raf_file_is_answered (foreign bytes) is =
    ap (λ t. cond t (refused broken_raf) (cond (begins_raf bytes) (stream_answer (jpeg_offset bytes) bytes) (refused not_raf))) (not_short (length bytes) is.0)
    ∙ ap (λ t. cond t (stream_answer (jpeg_offset bytes) bytes) (refused not_raf)) (no-signature bytes is.1)
  where
    not_short : (n : ℕ) → 92 ≤ n → ltb n 92 ≡ false
    not_short n h = by (ltb n 92) refl
      where
        by : (t : Bool) → ltb n 92 ≡ t → t ≡ false
        by true e = absurd (let l = ltb-true n 92 e in omega arith)
        by false e = refl

-- ---- all bytes have a tree

split-header : (bytes : List ℕ) → RafHeader
split-header bytes = record { fields = take 68 (drop 16 bytes); offset = take 4 (drop 84 bytes); size = take 4 (drop 88 bytes) }

split-is : (bytes : List ℕ) → 92 ≤ length bytes → IsHeader (split-header bytes)
unfolding split-header
split-is bytes h = record {
  fields_len = length-take-le 68 (drop 16 bytes) (omega (arith, length-drop 16 bytes));
  offset_len = length-take-le 4 (drop 84 bytes) (omega (arith, length-drop 84 bytes));
  size_len = length-take-le 4 (drop 88 bytes) (omega (arith, length-drop 88 bytes));
}

-- this many bytes, and then others
next : (n m k : ℕ) (bytes : List ℕ) → m + n ≡ k → take n (drop m bytes) ++ drop k bytes ≡ drop m bytes
next n m k bytes e =
    ap (λ i. take n (drop m bytes) ++ drop i bytes) (sym e) ∙ ap (λ t. take n (drop m bytes) ++ t) (sym (drop-drop n m bytes)) ∙ take-append-drop n (drop m bytes)

split-whole : (bytes : List ℕ) → begins_raf bytes ≡ true → print_header (split-header bytes) ++ drop 92 bytes ≡ bytes
unfolding split-header
split-whole bytes e =
    let fields : List ℕ = take 68 (drop 16 bytes) in
    let offset : List ℕ = take 4 (drop 84 bytes) in
    let size : List ℕ = take 4 (drop 88 bytes) in
    let same : take 16 bytes ≡ codes "FUJIFILMCCD-RAW " = (bytes_eq-Decides (take 16 bytes) (codes "FUJIFILMCCD-RAW ")).0 e in
    append_assoc (codes "FUJIFILMCCD-RAW ") (fields ++ (offset ++ size)) (drop 92 bytes)
    ∙ ap (λ t. t ++ ((fields ++ (offset ++ size)) ++ drop 92 bytes)) (sym same)
    ∙ ap (λ t. take 16 bytes ++ t) (append_assoc fields (offset ++ size) (drop 92 bytes))
    ∙ ap (λ t. take 16 bytes ++ (fields ++ t)) (append_assoc offset size (drop 92 bytes))
    ∙ ap (λ t. take 16 bytes ++ (fields ++ (offset ++ t))) (next 4 88 92 bytes refl)
    ∙ ap (λ t. take 16 bytes ++ (fields ++ t)) (next 4 84 88 bytes refl)
    ∙ ap (λ t. take 16 bytes ++ t) (next 68 16 84 bytes refl)
    ∙ take-append-drop 16 bytes

with-header : (h : RafHeader) (rest : List ℕ) → IsHeader h → IsAFile (print_header h ++ rest)
with-header h rest is = by-offset (ltb (offset_of h) 92) refl
  where
    by-rest : (t : Bool) → ltb (length rest) (offset_of h - 92) ≡ t → 92 ≤ offset_of h → IsAFile (print_header h ++ rest)
    by-rest true e l = let few = ltb-true (length rest) (offset_of h - 92) e in (cut h rest, (is, omega arith), refl)
    by-rest false e l =
        let long = ltb-false (length rest) (offset_of h - 92) e in
        let n = offset_of h - 92 in
        let len : length (take n rest) ≡ n = length-take-le n rest long in
        (stream h (take n rest) (drop n rest), (is, omega arith), ap (λ t. print_header h ++ t) (take-append-drop n rest))

    by-offset : (t : Bool) → ltb (offset_of h) 92 ≡ t → IsAFile (print_header h ++ rest)
    by-offset true e = (early h rest, (is, ltb-true (offset_of h) 92 e), refl)
    by-offset false e = by-rest (ltb (length rest) (offset_of h - 92)) refl (ltb-false (offset_of h) 92 e)

-- all bytes are those of a file
pub is_a_raf_file : (bytes : List ℕ) → IsAFile bytes
is_a_raf_file bytes = by-len (ltb (length bytes) 92) refl
  where
    none : begins_raf bytes ≡ false → HasNoSignature bytes
    none e rest is =
        let first : take 16 bytes ≡ codes "FUJIFILMCCD-RAW " = ap (take 16) is ∙ take_at (codes "FUJIFILMCCD-RAW ") rest 16 refl in
        let k : true ≡ false = sym ((bytes_eq-Decides (take 16 bytes) (codes "FUJIFILMCCD-RAW ")).1 first) ∙ e in
        cc

    by-signature : (t : Bool) → begins_raf bytes ≡ t → 92 ≤ length bytes → IsAFile bytes
    by-signature true e l = subst IsAFile (split-whole bytes e) (with-header (split-header bytes) (drop 92 bytes) (split-is bytes l))
    by-signature false e l = (foreign bytes, (l, none e), refl)

    by-len : (t : Bool) → ltb (length bytes) 92 ≡ t → IsAFile bytes
    by-len true e = (short bytes, ltb-true (length bytes) 92 e, refl)
    by-len false e = by-signature (begins_raf bytes) refl (ltb-false (length bytes) 92 e)
