-- Where the first `meta` of a file is: what comes before its body, the body, and what follows.
use Rattle.std.proofs.Common.{◌≡◌, ℕ, zero, suc, ◌<◌, ◌≤◌, Bool, true, false, cond, leb, ltb, List, [], ◌∷◌, ◌++◌, length, take, drop, Ok, Err, ap, sym, ◌∙◌, refl, arith, append_assoc}
use Rattle.std.proofs.lemmas.List.{take-append-drop}
use Rattle.exif_types.specs.Refusals.{Refusal, Front}
use Rattle.exif_isobmff.specs.declared.kind.Kind.{Kind}
use Rattle.exif_isobmff.specs.declared.kind.Kind.TheVariants.{FileType, Meta, ItemData, ItemInfo, ItemInfoEntry, ItemLocation, Other}
use Rattle.exif_isobmff.specs.HeifRefusals.{broken_file, meta_before_ftyp}
use Rattle.exif_isobmff.specs.Boxes.{Part, and_then, all_boxes, header_len, header_at}
use Rattle.exif_isobmff.specs.HeifFile.{file_box_at, file_boxes, is_meta, meta_body, meta_from, passed, whole}
use Rattle.exif_isobmff.specs.Kinds.{same_kind}
use Rattle.exif_isobmff.specs.Extents.{behind_this, behind_within, behind_meta}
use Rattle.exif_isobmff.proofs.SplitterBoxes.{all_boxes_more, bind_ok, header_rest, ok_same, unless_ok, when_ok}
use Rattle.exif_isobmff.proofs.FileBoxes.{file_box_shorter, file_done, file_found, file_more}

-- as many boxes as there are bytes are enough
this-enough : (n m : ℕ) (text : List ℕ) (r : Front Part) → file_box_at text ≡ r
    → ((rest : List ℕ) → length rest < length text → behind_within n rest ≡ behind_within m rest)
    → behind_this r (behind_within n) ≡ behind_this r (behind_within m)
this-enough n m text (Ok p) e same =
    ap (λ t. cond (is_meta p.0) p.1 t) (same p.1 (file_box_shorter text p.0 p.1 e))
this-enough n m text (Err r) e same = refl

pub behind_enough : (n m : ℕ) (text : List ℕ) → length text ≤ n → length text ≤ m → behind_within n text ≡ behind_within m text
behind_enough zero zero text h k = refl
behind_enough zero (suc m) [] h k = refl
behind_enough (suc n) zero [] h k = refl
behind_enough (suc n) (suc m) [] h k = refl
behind_enough zero (suc m) (b ∷ text) h k = absurd (omega arith)
behind_enough (suc n) zero (b ∷ text) h k = absurd (omega arith)
behind_enough (suc n) (suc m) (b ∷ text) h k =
    this-enough n m (b ∷ text) (file_box_at (b ∷ text)) refl (λ rest lt. behind_enough n m rest (omega arith) (omega arith))

-- what follows is that behind this box, or behind a later one
pub behind_more : (text : List ℕ) → 0 < length text → behind_meta text ≡ behind_this (file_box_at text) behind_meta
behind_more [] h = absurd (omega arith)
behind_more (b ∷ text) h = this-all (file_box_at (b ∷ text)) refl
  where
    this-all : (r : Front Part) → file_box_at (b ∷ text) ≡ r → behind_this r (behind_within (length text)) ≡ behind_this r behind_meta
    this-all (Ok p) e =
        let lt : length p.1 < length (b ∷ text) = file_box_shorter (b ∷ text) p.0 p.1 e in
        ap (λ t. cond (is_meta p.0) p.1 t) (behind_enough (length text) (length p.1) p.1 (omega arith) (omega arith))
    this-all (Err r) e = refl

-- a box of a file is its header, its body and what follows
box-parts : (text : List ℕ) (p : Part) (rest : List ℕ) → file_box_at text ≡ Ok (p, rest) → (head : List ℕ) × (text ≡ head ++ (p.body ++ rest))
unfolding file_box_at
box-parts text p rest e =
    let w = when_ok (leb (header_len text) (length text)) _ broken_file (p, rest) e in
    let h = bind_ok (header_at text) _ (p, rest) w.1 in
    let same = ok_same h.2 in
    let first : drop (header_len text) text ≡ h.0.1 = header_rest text h.0 h.1 in
    let body : take h.0.0.len h.0.1 ≡ p.body = ap (λ t. t.0.body) same in
    let left : drop h.0.0.len h.0.1 ≡ rest = ap (λ t. t.1) same in (
      take (header_len text) text,
      sym (take-append-drop (header_len text) text)
          ∙ ap (λ t. take (header_len text) text ++ t)
          (first ∙ sym (take-append-drop h.0.0.len h.0.1) ∙ ap (λ t. t ++ drop h.0.0.len h.0.1) body ∙ ap (λ t. p.body ++ t) left),
    )

not-meta : (kind : Kind) → (kind ≡ Meta → ⊥) → same_kind Meta kind ≡ false
not-meta Meta n = absurd (n refl)
not-meta FileType n = refl
not-meta ItemData n = refl
not-meta ItemInfo n = refl
not-meta ItemInfoEntry n = refl
not-meta ItemLocation n = refl
not-meta Other n = refl

-- what follows the `meta` is that behind a later box
pub behind_other : (text rest : List ℕ) (p : Part) → 0 < length text → file_box_at text ≡ Ok (p, rest) → (p.kind ≡ Meta → ⊥) → behind_meta rest ≡ behind_meta text
behind_other text rest p some e n =
    sym (behind_more text some ∙ ap (λ r. behind_this r behind_meta) e ∙ ap (λ t. cond t rest (behind_meta rest)) (not-meta p.kind n))

-- what follows the `meta` follows this box
pub behind_found : (text rest : List ℕ) (p : Part) → 0 < length text → file_box_at text ≡ Ok (p, rest) → p.kind ≡ Meta → rest ≡ behind_meta text
behind_found text rest p some e is =
    sym (behind_more text some ∙ ap (λ r. behind_this r behind_meta) e ∙ ap (λ k. cond (same_kind Meta k) rest (behind_meta rest)) is)

-- the body of the first `meta` and what follows it end the file
pub record IsAt (file body rest : List ℕ) : Type 0 where
  pub front : List ℕ
  pub whole : file ≡ front ++ (body ++ rest)

-- a `meta`
at-meta : (seen : Bool) (len : ℕ) (found body text rest : List ℕ) → cond seen (whole len found) (Err meta_before_ftyp) ≡ Ok body
    → (head : List ℕ) × (text ≡ head ++ (found ++ rest)) → IsAt text body rest
at-meta true len found body text rest e parts =
    record { front = parts.0; whole = parts.1 ∙ ap (λ t. parts.0 ++ (t ++ rest)) (unless_ok (ltb (length found) len) broken_file found body e) }
at-meta false len found body text rest e parts = absurd (cc)

meta-kind : (kind : Kind) → same_kind Meta kind ≡ true → kind ≡ Meta
meta-kind Meta e = refl
meta-kind FileType e = absurd (cc)
meta-kind ItemData e = absurd (cc)
meta-kind ItemInfo e = absurd (cc)
meta-kind ItemInfoEntry e = absurd (cc)
meta-kind ItemLocation e = absurd (cc)
meta-kind Other e = absurd (cc)

no-meta : (kind : Kind) → same_kind Meta kind ≡ false → kind ≡ Meta → ⊥
no-meta kind e is = let same : same_kind Meta kind ≡ true = ap (same_kind Meta) is in cc

-- a box is the `meta`, or one of those behind it
at-box : (seen t : Bool) (p : Part) (text rest body : List ℕ) → 0 < length text → file_box_at text ≡ Ok (p, rest) → is_meta p ≡ t
    → ((s : Bool) → meta_from s (file_boxes rest) ≡ Ok body → IsAt rest body (behind_meta rest))
    → meta_from seen (file_boxes text) ≡ Ok body → IsAt text body (cond t rest (behind_meta rest))
at-box seen true p text rest body some e is later h =
    at-meta seen p.len p.body body text rest (sym (file_found seen p text rest some e (meta-kind p.kind is)) ∙ h) (box-parts text p rest e)
at-box seen false p text rest body some e is later h =
    let parts = box-parts text p rest e in
    let passed_on = bind_ok (passed seen p.kind p.len p.body) (λ s. meta_from s (file_boxes rest)) body
    (sym (file_more seen p text rest some e (no-meta p.kind is)) ∙ h) in
    let i = later passed_on.0 passed_on.2 in
    record {
      front = parts.0 ++ (p.body ++ i.front);
      whole = parts.1 ∙ ap (λ t. parts.0 ++ (p.body ++ t)) i.whole
          ∙ ap (λ t. parts.0 ++ t) (sym (append_assoc p.body i.front (body ++ behind_meta rest)))
          ∙ sym (append_assoc parts.0 (p.body ++ i.front) (body ++ behind_meta rest));
    }

cut-refused : (seen : Bool) (r : Refusal) (text : List ℕ) → 0 < length text → file_box_at text ≡ Err r → meta_from seen (file_boxes text) ≡ Err r
cut-refused seen r text some e =
    ap (λ ps. meta_from seen ps) (all_boxes_more file_box_at file_box_shorter text some) ∙ ap (λ b. meta_from seen (and_then b (all_boxes file_box_at))) e

at-any : (seen : Bool) (text body : List ℕ) (r : Front Part) → 0 < length text → file_box_at text ≡ r
    → ((s : Bool) (rest : List ℕ) → length rest < length text → meta_from s (file_boxes rest) ≡ Ok body → IsAt rest body (behind_meta rest))
    → meta_from seen (file_boxes text) ≡ Ok body → IsAt text body (behind_this r behind_meta)
at-any seen text body (Ok p) some e later h =
    at-box seen (is_meta p.0) p.0 text p.1 body some e refl (λ s. later s p.1 (file_box_shorter text p.0 p.1 e)) h
at-any seen text body (Err r) some e later h =
    let refused = sym (cut-refused seen r text some e) ∙ h in absurd (cc)

at-within : (n : ℕ) (seen : Bool) (text body : List ℕ) → length text ≤ n → meta_from seen (file_boxes text) ≡ Ok body → IsAt text body (behind_meta text)
at-within n seen [] body le h = let none = sym (file_done seen [] refl) ∙ h in absurd (cc)
at-within zero seen (b ∷ text) body le h = absurd (omega arith)
at-within (suc n) seen (b ∷ text) body le h =
    rw (behind_more (b ∷ text) (omega arith))
    (at-any seen (b ∷ text) body (file_box_at (b ∷ text)) (omega arith) refl (λ s rest lt. at-within n s rest body (omega arith)) h)

-- the body of the first `meta` is at its offset
pub meta_is_at : (file body : List ℕ) → meta_body file ≡ Ok body → IsAt file body (behind_meta file)
unfolding meta_body
meta_is_at file body h = at-within (length file) false file body (omega arith) h
