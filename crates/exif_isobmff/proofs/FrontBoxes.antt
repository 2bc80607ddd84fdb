-- Whole boxes in front of more bytes.
use Rattle.std.proofs.Common.{◌≡◌, ℕ, ◌-◌, ◌<◌, ◌≤◌, Bool, true, false, cond, not, eqb, leb, ltb, List, [], ◌∷◌, ◌++◌, length, take, drop, Result, Ok, Err, refl, sym, ap, ◌∙◌, arith, length-append, length-drop}
use Rattle.std.proofs.lemmas.Bool.{leb-true, ltb-false, and_parts, not-true}
use Rattle.std.proofs.lemmas.Bool.Decides.{nat_tests}
use Rattle.std.proofs.lemmas.List.{take-append-le, drop-append-le, length-take-le}
use Rattle.byteorder.specs.Endian.{big_number}
use Rattle.byteorder.specs.Numbers.{big_from-append}
use Rattle.exif_types.specs.Refusals.{Refusal, ◌>>=◌, Front}
use Rattle.exif_isobmff.specs.declared.kind.Kind.{Kind}
use Rattle.exif_isobmff.specs.declared.kind.Kind.TheVariants.{FileType, Meta, ItemData, ItemInfo, ItemInfoEntry, ItemLocation, Other}
use Rattle.exif_isobmff.specs.declared.splitter.Header.{Header}
use Rattle.exif_isobmff.specs.HeifRefusals.{too_small, broken_file, invalid_size, meta_before_ftyp}
use Rattle.exif_isobmff.specs.Kinds.{kind_of, same_kind}
use Rattle.exif_isobmff.specs.Extents.{behind_meta, behind_this}
use Rattle.exif_isobmff.proofs.BehindMeta.{behind_more}
use Rattle.exif_isobmff.specs.Boxes.{Part, whole_part, sizes_itself, box_size, header_len, header_at, box_at}
use Rattle.exif_isobmff.specs.HeifFile.{file_box_at, meta_in, passed, whole}
use Rattle.exif_isobmff.proofs.SplitterBoxes.{bind_ok, when_ok, ok_same, eight}
use Rattle.exif_isobmff.proofs.FileBoxes.{box_of, file_went_on, file_found}
use Rattle.exif_isobmff.proofs.LawsBoxes.{head_of, head-read, box-headed, with_body, after_head}
use Rattle.exif_isobmff.proofs.LawsFiles.{file-read}

test_off : {A : Type 0} (b : Bool) (d : Refusal) (x y : A) → cond b (Err d) (Ok x) ≡ Ok y → b ≡ false
test_off true d x y e = absurd cc
test_off false d x y e = refl

-- a header that is read is no longer than its box
header_fits : (text : List ℕ) (h : Header × List ℕ) → header_at text ≡ Ok h → header_len text ≤ box_size text
unfolding header_at
header_fits text h e = ltb-false (box_size text) (header_len text) (test_off (ltb (box_size text) (header_len text)) invalid_size (head_of text) h e)

body_read : (t : Bool) (kind : Kind) (u v : List ℕ) (y : Part × List ℕ)
    → (let body : Front (List ℕ) = cond t (Err too_small) (Ok (u, v)) in body >>= with_body kind) ≡ Ok y → (t ≡ false) × ((whole_part kind u, v) ≡ y)
body_read true kind u v y e = absurd cc
body_read false kind u v y e = (refl, ok_same e)

-- what is read of a whole box
record IsRead (text : List ℕ) (y : Part × List ℕ) : Type 0 where
  head : header_len text ≤ length text
  size : header_len text ≤ box_size text
  body : box_size text - header_len text ≤ length (drop (header_len text) text)
  same : (whole_part (kind_of (take 4 (drop 4 text))) (take (box_size text - header_len text) (drop (header_len text) text)), drop (box_size text - header_len text) (drop (header_len text) text)) ≡ y

is_read : (text : List ℕ) (y : Part × List ℕ) → box_at text ≡ Ok y → IsRead text y
unfolding box_at
is_read text y e =
    let w = when_ok (leb (header_len text) (length text)) _ too_small y e in
    let h = bind_ok (header_at text) _ y w.1 in
    let head : header_len text ≤ length text = leb-true _ _ w.0 in
    let size : header_len text ≤ box_size text = header_fits text h.0 h.1 in
    let n : ℕ = box_size text - header_len text in
    let behind : List ℕ = drop (header_len text) text in
    let same : box_at text ≡ after_head (head_of text) = box-headed text head ∙ ap (λ r. r >>= after_head) (head-read text size) in
    let b = body_read (ltb (length behind) n) (kind_of (take 4 (drop 4 text))) (take n behind) (drop n behind) y (sym same ∙ e) in
    record { head = head; size = size; body = ltb-false (length behind) n b.0; same = b.1 }

-- ---- more bytes behind

number_same : (n : ℕ) (text more : List ℕ) → n ≤ length text → big_number n (text ++ more) ≡ big_number n text
number_same n text more h = big_from-append n text more h

head_same : (text more : List ℕ) → 4 ≤ length text → header_len (text ++ more) ≡ header_len text
head_same text more h = ap (λ s. cond (eqb s 1) 16 8) (number_same 4 text more h)

sized : (z o : Bool) (s l m x y : ℕ) → z ≡ false → (o ≡ true → x ≡ y) → cond z l (cond o x s) ≡ cond z m (cond o y s)
sized true o s l m x y e f = absurd cc
sized false true s l m x y e f = f refl
sized false false s l m x y e f = refl

size_same : (text more : List ℕ) → 4 ≤ length text → eqb (big_number 4 text) 0 ≡ false → header_len text ≤ length text → box_size (text ++ more) ≡ box_size text
size_same text more h z k =
    ap (λ s. cond (eqb s 0) (length (text ++ more)) (cond (eqb s 1) (big_number 8 (drop 8 (text ++ more))) s)) (number_same 4 text more h)
    ∙ sized (eqb (big_number 4 text) 0) (eqb (big_number 4 text) 1) (big_number 4 text) (length (text ++ more)) (length text) (big_number 8 (drop 8 (text ++ more))) (big_number 8 (drop 8 text)) z large
  where
    large : eqb (big_number 4 text) 1 ≡ true → big_number 8 (drop 8 (text ++ more)) ≡ big_number 8 (drop 8 text)
    large o =
        let sixteen : header_len text ≡ 16 = ap (λ b. cond b 16 8) o in
        ap (big_number 8) (drop-append-le 8 text more (omega arith)) ∙ number_same 8 (drop 8 text) more (omega (arith, length-drop 8 text))

-- a whole box that says its size is read whatever follows
pub still_read : (text more body after : List ℕ) (kind : Kind) → sizes_itself text ≡ true → box_at text ≡ Ok (whole_part kind body, after)
    → file_box_at (text ++ more) ≡ Ok (whole_part kind body, after ++ more)
still_read text more body after kind s e =
    let r = is_read text (whole_part kind body, after) e in
    let t = and_parts (leb 4 (length text)) (not (eqb (big_number 4 text) 0)) s in
    let four : 4 ≤ length text = leb-true _ _ t.0 in
    let head = r.head in
    let fits = r.size in
    let within = r.body in
    let size : box_size (text ++ more) ≡ box_size text = size_same text more four (not-true _ t.1) r.head in
    let long : header_len (text ++ more) ≡ header_len text = head_same text more four in
    let eight : 8 ≤ header_len text = at_least (eqb (big_number 4 text) 1) in
    let n : ℕ = box_size text - header_len text in
    let behind : List ℕ = drop (header_len text) text in
    let left : box_size (text ++ more) - header_len (text ++ more) ≡ n = ap (λ m. m - header_len (text ++ more)) size ∙ ap (λ m. box_size text - m) long in
    let total = length-append text more in
    file-read (text ++ more) (behind ++ more) (kind_of (take 4 (drop 4 text))) n (omega arith) (omega arith)
    (ap (λ m. drop m (text ++ more)) long ∙ drop-append-le (header_len text) text more head)
    (ap (λ m. kind_of (take 4 m)) (drop-append-le 4 text more four) ∙ ap kind_of (take-append-le 4 (drop 4 text) more (omega (arith, length-drop 4 text)))) left
    ∙ ap (λ m. read_as n m (drop n (behind ++ more))) (take-append-le n behind more within)
    ∙ ap (λ m. read_as n (take n behind) m) (drop-append-le n behind more within)
    ∙ ap (λ m. read_as m (take n behind) (drop n behind ++ more)) (sym (length-take-le n behind within))
    ∙ ap with_more r.same
  where
    at_least : (b : Bool) → 8 ≤ cond b 16 8
    at_least true = omega arith
    at_least false = omega arith

    read_as : ℕ → List ℕ → List ℕ → Front Part
    read_as n body after = Ok (box_of (kind_of (take 4 (drop 4 text))) n body, after)

    with_more : Part × List ℕ → Front Part
    with_more y = Ok (y.0, y.1 ++ more)

-- a header that says its size is that of a box whatever follows
pub headed_by : (text rest more : List ℕ) (h : Header) → header_len text ≤ length text → sizes_itself text ≡ true → header_at text ≡ Ok (h, rest) → length rest ≡ 0
    → file_box_at (text ++ more) ≡ Ok (box_of h.kind h.len (take h.len more), drop h.len more)
headed_by text rest more h head s e z =
    let t = and_parts (leb 4 (length text)) (not (eqb (big_number 4 text) 0)) s in
    let four : 4 ≤ length text = leb-true _ _ t.0 in
    let fits : header_len text ≤ box_size text = header_fits text (h, rest) e in
    let same : head_of text ≡ (h, rest) = ok_same (sym (head-read text fits) ∙ e) in
    let size : box_size (text ++ more) ≡ box_size text = size_same text more four (not-true _ t.1) head in
    let long : header_len (text ++ more) ≡ header_len text = head_same text more four in
    let n : ℕ = box_size text - header_len text in
    let total = length-append text more in
    let behind : drop (header_len text) (text ++ more) ≡ more =
    drop-append-le (header_len text) text more head ∙ ap (λ (y : Header × List ℕ). y.1 ++ more) same ∙ ap (λ t. t ++ more) (none_of rest z) in
    let left : box_size (text ++ more) - header_len (text ++ more) ≡ n = ap (λ m. m - header_len (text ++ more)) size ∙ ap (λ m. box_size text - m) long in
    file-read (text ++ more) more (kind_of (take 4 (drop 4 text))) n (omega arith) (omega arith)
    (ap (λ m. drop m (text ++ more)) long ∙ behind)
    (ap (λ m. kind_of (take 4 m)) (drop-append-le 4 text more four) ∙ ap kind_of (take-append-le 4 (drop 4 text) more (omega (arith, length-drop 4 text, eight (eqb (big_number 4 text) 1))))) left
    ∙ ap (λ (y : Header × List ℕ). read_as y.0) same
  where
    none_of : (rest : List ℕ) → length rest ≡ 0 → rest ≡ []
    none_of [] z = refl
    none_of (b ∷ rest) z = absurd (omega arith)

    read_as : Header → Front Part
    read_as h = Ok (box_of h.kind h.len (take h.len more), drop h.len more)

-- ---- the boxes up to `meta`, whatever follows

some_more : (text more : List ℕ) → sizes_itself text ≡ true → 0 < length (text ++ more)
some_more text more s =
    let t = and_parts (leb 4 (length text)) (not (eqb (big_number 4 text) 0)) s in
    let four : 4 ≤ length text = leb-true _ _ t.0 in
    let total = length-append text more in
    omega arith

-- the loop goes on behind a box that is skipped
pub settled_on : (seen now : Bool) (text body after : List ℕ) (kind : Kind) (total : List ℕ → Result (List ℕ) Refusal)
    → sizes_itself text ≡ true → box_at text ≡ Ok (whole_part kind body, after) → (kind ≡ Meta → ⊥) → passed seen kind (length body) body ≡ Ok now
    → ((more : List ℕ) → meta_in seen (text ++ more) ≡ total more) → (more : List ℕ) → meta_in now (after ++ more) ≡ total more
settled_on seen now text body after kind total s e not_meta p h more =
    file_went_on seen now (whole_part kind body) (text ++ more) (after ++ more) (total more) (some_more text more s) (still_read text more body after kind s e) not_meta p (h more)

-- a `meta` that is whole is the answer
pub settled_by : (seen : Bool) (text body after : List ℕ) (kind : Kind) (total : List ℕ → Result (List ℕ) Refusal)
    → sizes_itself text ≡ true → box_at text ≡ Ok (whole_part kind body, after) → kind ≡ Meta → seen ≡ true
    → ((more : List ℕ) → meta_in seen (text ++ more) ≡ total more) → (more : List ℕ) → total more ≡ Ok body
settled_by seen text body after kind total s e is_meta was h more =
    sym (h more) ∙ file_found seen (whole_part kind body) (text ++ more) (after ++ more) (some_more text more s) (still_read text more body after kind s e) is_meta
    ∙ ap (λ b. cond b (whole (length body) body) (Err meta_before_ftyp)) was
    ∙ ap (λ b. cond b (Err broken_file) (Ok body)) (same_length (length body))
  where
    same_length : (n : ℕ) → ltb n n ≡ false
    same_length n = grind (arith, nat_tests)

-- what follows the `meta` is that behind a later box
pub behind_on : (text body after : List ℕ) (kind : Kind) (total : List ℕ → List ℕ) → sizes_itself text ≡ true → box_at text ≡ Ok (whole_part kind body, after)
    → (kind ≡ Meta → ⊥) → ((more : List ℕ) → behind_meta (text ++ more) ≡ total more) → (more : List ℕ) → behind_meta (after ++ more) ≡ total more
behind_on text body after kind total s e not_meta h more =
    sym (behind_more (text ++ more) (some_more text more s) ∙ ap (λ r. behind_this r behind_meta) (still_read text more body after kind s e)
    ∙ ap (λ t. cond t (after ++ more) (behind_meta (after ++ more))) (other kind not_meta)) ∙ h more
  where
    other : (kind : Kind) → (kind ≡ Meta → ⊥) → same_kind Meta kind ≡ false
    other Meta n = absurd (n refl)
    other FileType n = refl
    other ItemData n = refl
    other ItemInfo n = refl
    other ItemInfoEntry n = refl
    other ItemLocation n = refl
    other Other n = refl

-- what follows the `meta` is what follows this box
pub behind_by : (text body after : List ℕ) (kind : Kind) (total : List ℕ → List ℕ) → sizes_itself text ≡ true → box_at text ≡ Ok (whole_part kind body, after)
    → kind ≡ Meta → ((more : List ℕ) → behind_meta (text ++ more) ≡ total more) → (more : List ℕ) → total more ≡ after ++ more
behind_by text body after kind total s e is h more =
    sym (h more) ∙ behind_more (text ++ more) (some_more text more s) ∙ ap (λ r. behind_this r behind_meta) (still_read text more body after kind s e)
    ∙ ap (λ k. cond (same_kind Meta k) (after ++ more) (behind_meta (after ++ more))) is
