-- The boxes of a file are read as their trees say, and all bytes have a tree.
use Rattle.std.proofs.Common.{◌≡◌, ◌≢◌, ◌⊎◌, inl, inr, subst, ℕ, zero, suc, ◌+◌, ◌-◌, ◌<◌, ◌≤◌, ◌^◌, Bool, true, false, cond, ◌||◌, eqb, leb, List, [], ◌∷◌, ◌++◌, length, map, take, drop, codes, None, Result, Ok, Err, ap, sym, ◌∙◌, refl, arith, append_assoc, append-nil, length-append}
use Rattle.std.specs.List.{flat_map, list_any}
use Rattle.std.specs.Str.{bytes_eq}
use Rattle.std.proofs.lemmas.Slice.Eq.{bytes_eq-Decides}
use Rattle.std.proofs.lemmas.Bool.{cases_lt, lt-ltb, le-ltb, le-leb, leb-true, lt-leb}
use Rattle.std.proofs.lemmas.List.{take_at, drop_at, take_all, drop_all}
use Rattle.std.proofs.Math.Bool.{or-false}
use Rattle.byteorder.specs.Endian.{big_number}
use Rattle.exif_types.specs.Refusals.{Refusal, ◌>>=◌, Front}
use Rattle.exif_isobmff.specs.declared.kind.Kind.{Kind}
use Rattle.exif_isobmff.specs.declared.kind.Kind.TheVariants.{FileType, Meta, ItemData, ItemInfo, ItemInfoEntry, ItemLocation, Other}
use Rattle.exif_isobmff.specs.declared.splitter.Header.{Header}
use Rattle.exif_isobmff.specs.HeifRefusals.{broken_file, invalid_size, seek_too_large, meta_before_ftyp, no_exif}
use Rattle.exif_isobmff.specs.Kinds.{kind_of, same_kind}
use Rattle.exif_isobmff.specs.Boxes.{Part, Parts, before, and_then, box_size, header_len, header_at, all_boxes}
use Rattle.exif_isobmff.specs.HeifFile.{file_box_at, file_boxes, brand_checked, whole, checked, passed, meta_body, meta_from}
use Rattle.exif_isobmff.specs.BoxGrammar.{BoxHeader, print_header, type_of, said_size, IsHeader, BoxTree, print_box, IsBox, box_part, AreBoxes, NoBox, cut, cut_large, too_long, too_short, print_no_box, IsNoBox, Parent, filled, broken}
use Rattle.exif_isobmff.specs.FileGrammar.{said_len, end_parts, FileBoxesAreRead, IsMeta, IsFtyp, IsOther, Passed, ftyp, other, passed_box, IsPassed, is_ftyp, print_passed, ArePassed, FrontTree, FileEnd, meta, wrong_ftyp, large, cut_meta, cut_ftyp, cut_other, no_header, no_meta, print_file_end, IsHeadless, headless_refusal, IsFileEnd, end_says, MetaIsFound, IsAFront}
use Rattle.exif_isobmff.proofs.SplitterBoxes.{all_boxes_end, all_boxes_more}
use Rattle.exif_isobmff.proofs.FileBoxes.{box_of, file_box_shorter, file_more, file_found, file_done}
use Rattle.exif_isobmff.proofs.LawsBoxes.{head_of, head-read, header-reads, header-some, no_box-some, Boxed, Unboxed, boxed-shorter, boxed_or_not, two-number}
use Rattle.exif_isobmff.proofs.LawsBrands.{is-not, said-checked, checked-said}

-- ---- one box

abbrev file_after : Header × List ℕ → Front Part
file_after h = Ok (box_of h.0.kind h.0.len (take h.0.len h.1), drop h.0.len h.1)

file-headed : (text : List ℕ) → header_len text ≤ length text → file_box_at text ≡ (header_at text >>= file_after)
unfolding file_box_at
file-headed text h = ap (λ t. cond t (header_at text >>= file_after) (Err broken_file)) (le-leb (header_len text) (length text) h)

-- the box of a header at the front of a text
pub file-read : (text behind : List ℕ) (kind : Kind) (n : ℕ) → header_len text ≤ length text → header_len text ≤ box_size text → drop (header_len text) text ≡ behind
    → kind_of (take 4 (drop 4 text)) ≡ kind → box_size text - header_len text ≡ n → file_box_at text ≡ Ok (box_of kind n (take n behind), drop n behind)
file-read text behind kind n h k e f g =
    file-headed text h ∙ ap (λ r. r >>= file_after) (head-read text k)
    ∙ ap (λ t. read_as (kind_of (take 4 (drop 4 text))) (box_size text - header_len text) t) e
    ∙ ap (λ t. read_as t (box_size text - header_len text) behind) f
    ∙ ap (λ m. read_as kind m behind) g
  where
    read_as : Kind → ℕ → List ℕ → Front Part
    read_as kind n behind = Ok (box_of kind n (take n behind), drop n behind)

-- a whole box of a file is read as its tree says
pub file_whole : (b : BoxTree) (rest : List ℕ) → IsBox b rest → file_box_at (print_box b ++ rest) ≡ Ok (box_part b, rest)
file_whole b rest h =
    let r = header-reads b.header (b.body ++ rest) h.0 in
    let e : print_box b ++ rest ≡ print_header b.header ++ (b.body ++ rest) = append_assoc (print_header b.header) b.body rest in
    let text : List ℕ = print_header b.header ++ (b.body ++ rest) in
    let total : length (print_header b.header ++ (b.body ++ rest)) ≡ length (print_header b.header) + length (b.body ++ rest) = length-append (print_header b.header) (b.body ++ rest) in
    let size : box_size (print_header b.header ++ (b.body ++ rest)) ≡ header_len (print_header b.header ++ (b.body ++ rest)) + length b.body =
    r.size ∙ ap (λ (t : List ℕ). said_size b.header (length t)) (sym e) ∙ h.1 ∙ length-append (print_header b.header) b.body ∙ ap (λ n. n + length b.body) (sym r.len) in
    let len = r.len in
    ap file_box_at e
    ∙ file-read text (b.body ++ rest) (kind_of (type_of b.header)) (length b.body) (omega arith) (omega arith) r.behind (ap kind_of r.kind) (omega arith)
    ∙ ap (λ t. read_as t (drop (length b.body) (b.body ++ rest))) (take_at b.body rest (length b.body) refl)
    ∙ ap (λ t. read_as b.body t) (drop_at b.body rest (length b.body) refl)
  where
    read_as : List ℕ → List ℕ → Front Part
    read_as body rest = Ok (box_of (kind_of (type_of b.header)) (length b.body) body, rest)

-- a box that is longer than the file is read as far as it is there
pub file_cut_box : (h : BoxHeader) (bytes : List ℕ) → IsNoBox (too_long h bytes)
    → file_box_at (print_header h ++ bytes) ≡ Ok (box_of (kind_of (type_of h)) (said_len h bytes) bytes, [])
file_cut_box h bytes is =
    let r = header-reads h bytes is.0 in
    let total : length (print_header h ++ bytes) ≡ length (print_header h) + length bytes = length-append (print_header h) bytes in
    let len = r.len in
    let size = r.size in
    let over = is.1 in
    let room : length bytes ≤ said_len h bytes = omega arith in
    file-read (print_header h ++ bytes) bytes (kind_of (type_of h)) (said_len h bytes) (omega arith) (omega arith) r.behind (ap kind_of r.kind) (omega arith)
    ∙ ap (λ t. read_as t (drop (said_len h bytes) bytes)) (take_all (said_len h bytes) bytes room)
    ∙ ap (λ t. read_as bytes t) (drop_all (said_len h bytes) bytes room)
  where
    read_as : List ℕ → List ℕ → Front Part
    read_as body rest = Ok (box_of (kind_of (type_of h)) (said_len h bytes) body, rest)

file-cut : (text : List ℕ) → length text < header_len text → file_box_at text ≡ Err broken_file
unfolding file_box_at
file-cut text h = ap (λ t. cond t (header_at text >>= file_after) (Err broken_file)) (not_le (leb (header_len text) (length text)) refl)
  where
    not_le : (t : Bool) → leb (header_len text) (length text) ≡ t → t ≡ false
    not_le true e = absurd (let k = leb-true (header_len text) (length text) e in omega arith)
    not_le false e = refl

file-wrong : (text : List ℕ) → header_len text ≤ length text → box_size text < header_len text → file_box_at text ≡ Err invalid_size
unfolding header_at
file-wrong text h k =
    file-headed text h ∙ ap (λ t. cond t (Err invalid_size) (Ok (head_of text)) >>= file_after) (lt-ltb (box_size text) (header_len text) k)

-- bytes without a header are refused as their tree says
pub file_headless : (end : NoBox) → IsHeadless end → file_box_at (print_no_box end) ≡ Err (headless_refusal end)
file_headless (cut bytes) h = file-cut bytes (let k = least (eqb (big_number 4 bytes) 1) in omega (arith, h.1))
  where
    least : (t : Bool) → 8 ≤ cond t 16 8
    least true = omega arith
    least false = omega arith
file_headless (cut_large one type bytes) h =
    let number : big_number 4 (one ++ (type ++ bytes)) ≡ 1 = two-number one type bytes h.0 ∙ h.2 in
    let sixteen : header_len (one ++ (type ++ bytes)) ≡ 16 = ap (λ m. cond (eqb m 1) 16 8) number in
    file-cut (one ++ (type ++ bytes)) (omega (arith, h.0, h.1, h.3, length-append one (type ++ bytes), length-append type bytes))
file_headless (too_long head bytes) h = absurd h
file_headless (too_short head bytes) h =
    let r = header-reads head bytes h.0 in
    let total : length (print_header head ++ bytes) ≡ length (print_header head) + length bytes = length-append (print_header head) bytes in
    let len = r.len in
    let size = r.size in
    file-wrong (print_header head ++ bytes) (omega arith) (omega (arith, h.1))

-- ---- all boxes

box-some : (b : BoxTree) (rest : List ℕ) → IsHeader b.header → 0 < length (print_box b ++ rest)
box-some b rest h = let some = header-some b.header h in omega (arith, length-append (print_box b) rest, length-append (print_header b.header) b.body)

boxes-file : (bs : List BoxTree) (rest : List ℕ) (parts : Parts) → AreBoxes bs rest → file_boxes rest ≡ parts
    → file_boxes (flat_map print_box bs ++ rest) ≡ record { whole = map box_part bs ++ parts.whole; fault = parts.fault }
boxes-file [] rest parts h e = e
boxes-file (b ∷ bs) rest parts h e =
    ap file_boxes (append_assoc (print_box b) (flat_map print_box bs) rest)
    ∙ all_boxes_more file_box_at file_box_shorter (print_box b ++ (flat_map print_box bs ++ rest)) (box-some b (flat_map print_box bs ++ rest) h.0.0)
    ∙ ap (λ r. and_then r (all_boxes file_box_at)) (file_whole b (flat_map print_box bs ++ rest) h.0)
    ∙ ap (before (box_part b)) (boxes-file bs rest parts h.1 e)

end-file : (end : NoBox) → IsNoBox end → file_boxes (print_no_box end) ≡ end_parts end
end-file (cut bytes) h =
    all_boxes_more file_box_at file_box_shorter bytes (no_box-some (cut bytes) h) ∙ ap (λ r. and_then r (all_boxes file_box_at)) (file_headless (cut bytes) h)
end-file (cut_large one type bytes) h =
    all_boxes_more file_box_at file_box_shorter (one ++ (type ++ bytes)) (no_box-some (cut_large one type bytes) h)
    ∙ ap (λ r. and_then r (all_boxes file_box_at)) (file_headless (cut_large one type bytes) h)
end-file (too_long head bytes) h =
    all_boxes_more file_box_at file_box_shorter (print_header head ++ bytes) (no_box-some (too_long head bytes) h)
    ∙ ap (λ r. and_then r (all_boxes file_box_at)) (file_cut_box head bytes h)
    ∙ ap (before (box_of (kind_of (type_of head)) (said_len head bytes) bytes)) (all_boxes_end file_box_at [] refl)
end-file (too_short head bytes) h =
    all_boxes_more file_box_at file_box_shorter (print_header head ++ bytes) (no_box-some (too_short head bytes) h)
    ∙ ap (λ r. and_then r (all_boxes file_box_at)) (file_headless (too_short head bytes) h)

-- the boxes of a file are read as their tree says
pub file_boxes_are_read : (p : Parent) → FileBoxesAreRead p
file_boxes_are_read (filled bs) h =
    boxes-file bs [] (record { whole = []; fault = None }) h (all_boxes_end file_box_at [] refl)
    ∙ ap (λ (ps : List Part). parts_of ps) (append-nil (map box_part bs))
  where
    parts_of : List Part → Parts
    parts_of ps = record { whole = ps; fault = None }
file_boxes_are_read (broken bs end) h = boxes-file bs (print_no_box end) (end_parts end) h.0 (end-file end h.1)

-- ---- types

abbrev kind_by : Bool → Bool → Bool → Bool → Bool → Bool → Kind
kind_by a b c d e f = cond a FileType (cond b Meta (cond c ItemData (cond d ItemInfo (cond e ItemInfoEntry (cond f ItemLocation Other)))))

other-kind : (h : BoxHeader) → IsOther h → (same_kind FileType (kind_of (type_of h)) ≡ false) × (kind_of (type_of h) ≡ Meta → ⊥)
other-kind h is =
    let name = type_of h in
    let P : Bool → Bool → Type 0 = λ a b.
    (same_kind FileType (kind_by a b (bytes_eq (type_of h) (codes "idat")) (bytes_eq (type_of h) (codes "iinf")) (bytes_eq (type_of h) (codes "infe")) (bytes_eq (type_of h) (codes "iloc"))) ≡ false)
    × (kind_by a b (bytes_eq (type_of h) (codes "idat")) (bytes_eq (type_of h) (codes "iinf")) (bytes_eq (type_of h) (codes "infe")) (bytes_eq (type_of h) (codes "iloc")) ≡ Meta → ⊥) in
    subst (λ a. P a (bytes_eq (type_of h) (codes "meta"))) (sym (is-not (type_of h) (codes "ftyp") is.0))
    (subst (P false) (sym (is-not (type_of h) (codes "meta") is.1))
    (none (bytes_eq (type_of h) (codes "idat")) (bytes_eq (type_of h) (codes "iinf")) (bytes_eq (type_of h) (codes "infe")) (bytes_eq (type_of h) (codes "iloc"))))
  where
    none : (c d e f : Bool) → (same_kind FileType (kind_by false false c d e f) ≡ false) × (kind_by false false c d e f ≡ Meta → ⊥)
    none true d e f = (refl, λ k. cc)
    none false true e f = (refl, λ k. cc)
    none false false true f = (refl, λ k. cc)
    none false false false true = (refl, λ k. cc)
    none false false false false = (refl, λ k. cc)

ftyp-kind : (h : BoxHeader) → IsFtyp h → kind_of (type_of h) ≡ FileType
ftyp-kind h is = ap kind_of is

meta-kind : (h : BoxHeader) → IsMeta h → kind_of (type_of h) ≡ Meta
meta-kind h is = ap kind_of is

ftyp-no_meta : (h : BoxHeader) → IsFtyp h → kind_of (type_of h) ≡ Meta → ⊥
ftyp-no_meta h is k = let e : FileType ≡ Meta = sym (ftyp-kind h is) ∙ k in cc

-- ---- a box before `meta`

abbrev seen_if : Result (Unit {0}) Refusal → Bool → Result Bool Refusal
seen_if checked seen = checked >>= λ u. Ok seen

passed-ftyp : (h : BoxHeader) (len : ℕ) (body : List ℕ) (seen : Bool) → IsFtyp h → passed seen (kind_of (type_of h)) len body ≡ seen_if (whole len body >>= brand_checked) true
passed-ftyp h len body seen is = ap (λ k. passed seen k len body) (ftyp-kind h is)

passed-other : (h : BoxHeader) (len : ℕ) (body : List ℕ) (seen : Bool) → IsOther h
    → passed seen (kind_of (type_of h)) len body ≡ seen_if (cond (leb (2 ^ 63) len) (Err seek_too_large) (Ok tt)) seen
passed-other h len body seen is =
    ap (λ t. seen_if (cond t (whole len body >>= brand_checked) (cond (leb (2 ^ 63) len) (Err seek_too_large) (Ok tt))) (t || seen)) ((other-kind h is).0)

whole-there : (body : List ℕ) → whole (length body) body ≡ Ok body
whole-there body = ap (λ t. cond t (Err broken_file) (Ok body)) (le-ltb (length body) (length body) (omega arith))

whole-cut : (len : ℕ) (body : List ℕ) → length body < len → whole len body ≡ Err broken_file
whole-cut len body h = ap (λ t. cond t (Err broken_file) (Ok body)) (lt-ltb (length body) len h)

passed-ok : (p : Passed) (seen : Bool) → IsPassed p → passed seen (kind_of (type_of (passed_box p).header)) (length (passed_box p).body) (passed_box p).body ≡ Ok (is_ftyp p || seen)
passed-ok (ftyp b) seen h =
    passed-ftyp b.header (length b.body) b.body seen h.0 ∙ ap (λ r. seen_if (r >>= brand_checked) true) (whole-there b.body) ∙ ap (λ r. seen_if r true) (said-checked b.body (Ok tt) h.1)
passed-ok (other b) seen h =
    passed-other b.header (length b.body) b.body seen h.0
    ∙ ap (λ t. seen_if (cond t (Err seek_too_large) (Ok tt)) seen) (lt-leb (2 ^ 63) (length b.body) h.1)

passed-no_meta : (p : Passed) → IsPassed p → kind_of (type_of (passed_box p).header) ≡ Meta → ⊥
passed-no_meta (ftyp b) h = ftyp-no_meta b.header h.0
passed-no_meta (other b) h = (other-kind b.header h.0).1

or_turn : (a b c : Bool) → (b || (a || c)) ≡ ((a || b) || c)
or_turn true true c = refl
or_turn true false c = refl
or_turn false b c = refl

front-read : (ps : List Passed) (rest : List ℕ) (seen : Bool) (total : Bool → Result (List ℕ) Refusal) → ArePassed ps rest
    → ((s : Bool) → meta_from s (file_boxes rest) ≡ total s)
    → meta_from seen (file_boxes (flat_map print_passed ps ++ rest)) ≡ total (list_any is_ftyp ps || seen)
front-read [] rest seen total h e = e seen
front-read (p ∷ ps) rest seen total h e =
    let b = passed_box p in
    let behind = flat_map print_passed ps ++ rest in
    ap (λ t. meta_from seen (file_boxes t)) (append_assoc (print_box (passed_box p)) (flat_map print_passed ps) rest)
    ∙ file_more seen (box_part (passed_box p)) (print_box (passed_box p) ++ (flat_map print_passed ps ++ rest)) (flat_map print_passed ps ++ rest) (box-some (passed_box p) (flat_map print_passed ps ++ rest) h.0.0)
    (file_whole (passed_box p) (flat_map print_passed ps ++ rest) h.0) (passed-no_meta p h.1)
    ∙ ap (λ r. r >>= λ s. meta_from s (file_boxes (flat_map print_passed ps ++ rest))) (passed-ok p seen h.1)
    ∙ front-read ps rest (is_ftyp p || seen) total h.2 e
    ∙ ap total (or_turn (is_ftyp p) (list_any is_ftyp ps) seen)

-- ---- what ends them

meta-cond : (seen : Bool) (len : ℕ) (body : List ℕ) (r : Result (List ℕ) Refusal) → whole len body ≡ r
    → cond seen (whole len body) (Err meta_before_ftyp) ≡ cond seen r (Err meta_before_ftyp)
meta-cond seen len body r e = ap (λ x. cond seen x (Err meta_before_ftyp)) e

one-more : (seen : Bool) (p : Part) (text rest : List ℕ) (r : Refusal) → 0 < length text → file_box_at text ≡ Ok (p, rest) → (p.kind ≡ Meta → ⊥)
    → passed seen p.kind p.len p.body ≡ Err r → meta_from seen (file_boxes text) ≡ Err r
one-more seen p text rest r some e other_kind k =
    file_more seen p text rest some e other_kind ∙ ap (λ x. x >>= λ s. meta_from s (file_boxes rest)) k

end-headless : (end : NoBox) (seen : Bool) → 0 < length (print_no_box end) → IsHeadless end → meta_from seen (file_boxes (print_no_box end)) ≡ Err (headless_refusal end)
end-headless end seen some h =
    ap (λ ps. meta_from seen ps) (all_boxes_more file_box_at file_box_shorter (print_no_box end) some)
    ∙ ap (λ b. meta_from seen (and_then b (all_boxes file_box_at))) (file_headless end h)

headless-some : (end : NoBox) → IsHeadless end → 0 < length (print_no_box end)
headless-some (cut bytes) h = no_box-some (cut bytes) h
headless-some (cut_large one type bytes) h = no_box-some (cut_large one type bytes) h
headless-some (too_long head bytes) h = absurd h
headless-some (too_short head bytes) h = no_box-some (too_short head bytes) h

large-refused : (len : ℕ) (seen : Bool) → 2 ^ 63 ≤ len → seen_if (cond (leb (2 ^ 63) len) (Err seek_too_large) (Ok tt)) seen ≡ Err seek_too_large
large-refused len seen h = ap (λ t. seen_if (cond t (Err seek_too_large) (Ok tt)) seen) (le-leb (2 ^ 63) len h)

cut-some : (h : BoxHeader) (bytes : List ℕ) → IsNoBox (too_long h bytes) → 0 < length (print_header h ++ bytes)
cut-some h bytes is = no_box-some (too_long h bytes) is

cut-over : (h : BoxHeader) (bytes : List ℕ) → IsNoBox (too_long h bytes) → length bytes < said_len h bytes
cut-over h bytes is = omega (arith, is.1, length-append (print_header h) bytes)

end-other : (t : Bool) (seen : Bool)
    → (seen_if (cond t (Err seek_too_large) (Ok tt)) seen >>= λ s. meta_from s (file_boxes [])) ≡ cond t (Err seek_too_large) (Err no_exif)
end-other true seen = refl
end-other false seen = file_done seen [] refl

end-read : (end : FileEnd) (seen : Bool) → IsFileEnd end → meta_from seen (file_boxes (print_file_end end)) ≡ end_says seen end
end-read (meta b rest) seen h =
    file_found seen (box_part b) (print_box b ++ rest) rest (box-some b rest h.0.0) (file_whole b rest h.0) (meta-kind b.header h.1)
    ∙ meta-cond seen (length b.body) b.body (Ok b.body) (whole-there b.body)
end-read (wrong_ftyp b r rest) seen h =
    one-more seen (box_part b) (print_box b ++ rest) rest r (box-some b rest h.0.0) (file_whole b rest h.0) (ftyp-no_meta b.header h.1)
    (passed-ftyp b.header (length b.body) b.body seen h.1 ∙ ap (λ x. seen_if (x >>= brand_checked) true) (whole-there b.body) ∙ ap (λ x. seen_if x true) (said-checked b.body (Err r) h.2))
end-read (large b rest) seen h =
    one-more seen (box_part b) (print_box b ++ rest) rest seek_too_large (box-some b rest h.0.0) (file_whole b rest h.0) ((other-kind b.header h.1).1)
    (passed-other b.header (length b.body) b.body seen h.1 ∙ large-refused (length b.body) seen h.2)
end-read (cut_meta hd bytes) seen h =
    file_found seen (box_of (kind_of (type_of hd)) (said_len hd bytes) bytes) (print_header hd ++ bytes) [] (cut-some hd bytes h.0) (file_cut_box hd bytes h.0) (meta-kind hd h.1)
    ∙ meta-cond seen (said_len hd bytes) bytes (Err broken_file) (whole-cut (said_len hd bytes) bytes (cut-over hd bytes h.0))
end-read (cut_ftyp hd bytes) seen h =
    one-more seen (box_of (kind_of (type_of hd)) (said_len hd bytes) bytes) (print_header hd ++ bytes) [] broken_file (cut-some hd bytes h.0) (file_cut_box hd bytes h.0) (ftyp-no_meta hd h.1)
    (passed-ftyp hd (said_len hd bytes) bytes seen h.1 ∙ ap (λ x. seen_if (x >>= brand_checked) true) (whole-cut (said_len hd bytes) bytes (cut-over hd bytes h.0)))
end-read (cut_other hd bytes) seen h =
    file_more seen (box_of (kind_of (type_of hd)) (said_len hd bytes) bytes) (print_header hd ++ bytes) [] (cut-some hd bytes h.0) (file_cut_box hd bytes h.0) ((other-kind hd h.1).1)
    ∙ ap (λ x. x >>= λ s. meta_from s (file_boxes [])) (passed-other hd (said_len hd bytes) bytes seen h.1)
    ∙ end-other (leb (2 ^ 63) (said_len hd bytes)) seen
end-read (no_header end) seen h = end-headless end seen (headless-some end h) h
end-read no_meta seen h = file_done seen [] refl

meta-from_false : (file : List ℕ) → meta_body file ≡ meta_from false (file_boxes file)
unfolding meta_body
meta-from_false file = refl

-- the `meta` is found as the tree of the file says
pub meta_is_found : (t : FrontTree) → MetaIsFound t
meta_is_found t h =
    meta-from_false (flat_map print_passed t.passed ++ print_file_end t.end)
    ∙ front-read t.passed (print_file_end t.end) false (λ s. end_says s t.end) h.0 (λ s. end-read t.end s h.1)
    ∙ ap (λ s. end_says s t.end) (or-false (list_any is_ftyp t.passed))

-- ---- all bytes have a tree

front-end : (text : List ℕ) (end : FileEnd) → IsFileEnd end → print_file_end end ≡ text → IsAFront text
front-end text end is whole = (record { passed = []; end = end }, (tt, is), whole)

front-unboxed : (text : List ℕ) (end : NoBox) → IsNoBox end → print_no_box end ≡ text → IsAFront text
front-unboxed text (cut bytes) is whole = front-end text (no_header (cut bytes)) is whole
front-unboxed text (cut_large one type bytes) is whole = front-end text (no_header (cut_large one type bytes)) is whole
front-unboxed text (too_short h bytes) is whole = front-end text (no_header (too_short h bytes)) is whole
front-unboxed text (too_long h bytes) is whole = by (bytes_eq (type_of h) (codes "ftyp")) (bytes_eq (type_of h) (codes "meta")) refl refl
  where
    by : (a b : Bool) → bytes_eq (type_of h) (codes "ftyp") ≡ a → bytes_eq (type_of h) (codes "meta") ≡ b → IsAFront text
    by true b p q = front-end text (cut_ftyp h bytes) (is, (bytes_eq-Decides (type_of h) (codes "ftyp")).0 p) whole
    by false true p q = front-end text (cut_meta h bytes) (is, (bytes_eq-Decides (type_of h) (codes "meta")).0 q) whole
    by false false p q = front-end text (cut_other h bytes) (is, (unlike (codes "ftyp") p, unlike (codes "meta") q)) whole
      where
        unlike : (word : List ℕ) → bytes_eq (type_of h) word ≡ false → type_of h ≢ word
        unlike word e k = let c : true ≡ false = sym ((bytes_eq-Decides (type_of h) word).1 k) ∙ e in cc

front-passed : (text : List ℕ) (b : Boxed text) (p : Passed) → passed_box p ≡ b.tree → IsPassed p → IsAFront b.rest → IsAFront text
front-passed text b p same is f = (
  record { passed = p ∷ f.0.passed; end = f.0.end },
  ((subst (λ (t : BoxTree). IsBox t (flat_map print_passed f.0.passed ++ print_file_end f.0.end)) (sym same) (subst (λ r. IsBox b.tree r) (sym f.2) b.is), is, f.1.0), f.1.1),
  append_assoc (print_box (passed_box p)) (flat_map print_passed f.0.passed) (print_file_end f.0.end)
      ∙ ap (λ r. print_box (passed_box p) ++ r) f.2 ∙ ap (λ (t : BoxTree). print_box t ++ b.rest) same ∙ b.whole,
)

front-boxed : (text : List ℕ) (b : Boxed text) → IsAFront b.rest → IsAFront text
front-boxed text b f = by (bytes_eq (type_of b.tree.header) (codes "ftyp")) (bytes_eq (type_of b.tree.header) (codes "meta")) refl refl
  where
    unlike : (word : List ℕ) → bytes_eq (type_of b.tree.header) word ≡ false → type_of b.tree.header ≢ word
    unlike word e k = let c : true ≡ false = sym ((bytes_eq-Decides (type_of b.tree.header) word).1 k) ∙ e in cc

    brand : (r : Result (Unit {0}) Refusal) → IsFtyp b.tree.header → brand_checked b.tree.body ≡ r → IsAFront text
    brand (Ok u) is e = front-passed text b (ftyp b.tree) refl (is, checked-said b.tree.body (Ok tt) e) f
    brand (Err r) is e = front-end text (wrong_ftyp b.tree r b.rest) (b.is, is, checked-said b.tree.body (Err r) e) b.whole

    room : (length b.tree.body < 2 ^ 63) ⊎ (2 ^ 63 ≤ length b.tree.body) → IsOther b.tree.header → IsAFront text
    room (inl lt) is = front-passed text b (other b.tree) refl (is, lt) f
    room (inr le) is = front-end text (large b.tree b.rest) (b.is, is, le) b.whole

    by : (x y : Bool) → bytes_eq (type_of b.tree.header) (codes "ftyp") ≡ x → bytes_eq (type_of b.tree.header) (codes "meta") ≡ y → IsAFront text
    by true y p q = brand (brand_checked b.tree.body) ((bytes_eq-Decides (type_of b.tree.header) (codes "ftyp")).0 p) refl
    by false true p q = front-end text (meta b.tree b.rest) (b.is, (bytes_eq-Decides (type_of b.tree.header) (codes "meta")).0 q) b.whole
    by false false p q = room (cases_lt (length b.tree.body) (2 ^ 63)) (unlike (codes "ftyp") p, unlike (codes "meta") q)

front-within : (n : ℕ) (text : List ℕ) → length text < n → IsAFront text
front-within zero text h = absurd (omega arith)
front-within (suc n) [] h = front-end [] no_meta tt refl
front-within (suc n) (b ∷ text) h = first n (b ∷ text) h (boxed_or_not (b ∷ text) (omega arith)) (front-within n)
  where
    first : (n : ℕ) (text : List ℕ) → length text < suc n → Unboxed text ⊎ Boxed text → ((rest : List ℕ) → length rest < n → IsAFront rest) → IsAFront text
    first n text h (inl u) ih = front-unboxed text u.end u.is u.whole
    first n text h (inr b) ih = front-boxed text b (ih b.rest (let lt = boxed-shorter text b in omega arith))

-- all bytes are those of such a tree
pub is_a_front : (bytes : List ℕ) → IsAFront bytes
is_a_front bytes = front-within (suc (length bytes)) bytes (omega arith)
