-- The body of the last `idat` of a `meta` is at its offset.
use Rattle.std.proofs.Common.{◌≡◌, ℕ, zero, suc, ◌<◌, ◌≤◌, Bool, true, false, cond, leb, ltb, List, [], ◌∷◌, ◌++◌, length, take, drop, Option, None, Some, Ok, Err, ap, sym, ◌∙◌, refl, subst, arith, append_assoc}
use Rattle.std.specs.List.{last_or}
use Rattle.std.proofs.lemmas.List.{take-append-drop}
use Rattle.exif_types.specs.Refusals.{Front}
use Rattle.exif_isobmff.specs.declared.kind.Kind.TheVariants.{ItemData}
use Rattle.exif_isobmff.specs.HeifRefusals.{too_small}
use Rattle.exif_isobmff.specs.Kinds.{same_kind}
use Rattle.exif_isobmff.specs.Boxes.{Part, Parts, all_boxes, and_then, before, bodies, box_at, bytes_at, children, header_at, header_len}
use Rattle.exif_isobmff.specs.Extents.{behind_last}
use Rattle.exif_isobmff.proofs.SplitterBoxes.{all_boxes_end, all_boxes_more, bind_ok, box_shorter, header_rest, ok_same, when_ok}
use Rattle.exif_isobmff.proofs.BehindLast.{last_went_on, step-of}
use Rattle.exif_isobmff.proofs.BehindMeta.{IsAt}

-- a body, if there is one, and what follows it end the bytes
abbrev pub MayBeAt : List ℕ → Option (List ℕ) → List ℕ → Type 0
MayBeAt all None rest = Unit {0}
MayBeAt all (Some body) rest = IsAt all body rest

front-of : (n : ℕ) (text : List ℕ) (x : List ℕ × List ℕ) → bytes_at n text ≡ Ok x → text ≡ x.0 ++ x.1
front-of n text x e = by (ltb (length text) n) e
  where
    by : (b : Bool) → (let r : Front (List ℕ) = cond b (Err too_small) (Ok (take n text, drop n text)) in r ≡ Ok x) → text ≡ x.0 ++ x.1
    by true e = absurd (cc)
    by false e = let same : (take n text, drop n text) ≡ x = ok_same e in sym (take-append-drop n text) ∙ ap (λ p. p.0 ++ p.1) same

-- a box is its header, its body and what follows
box-parts : (text : List ℕ) (p : Part) (rest : List ℕ) → box_at text ≡ Ok (p, rest) → (head : List ℕ) × (text ≡ head ++ (p.body ++ rest))
unfolding box_at
box-parts text p rest e =
    let w = when_ok (leb (header_len text) (length text)) _ too_small (p, rest) e in
    let h = bind_ok (header_at text) _ (p, rest) w.1 in
    let b = bind_ok (bytes_at h.0.0.len h.0.1) _ (p, rest) h.2 in
    let same = ok_same b.2 in
    let first : drop (header_len text) text ≡ h.0.1 = header_rest text h.0 h.1 in
    let body : b.0.0 ≡ p.body = ap (λ t. t.0.body) same in
    let left : b.0.1 ≡ rest = ap (λ t. t.1) same in (
      take (header_len text) text,
      sym (take-append-drop (header_len text) text)
          ∙ ap (λ t. take (header_len text) text ++ t) (first ∙ front-of h.0.0.len h.0.1 b.0 b.1 ∙ ap (λ t. t ++ b.0.1) body ∙ ap (λ t. p.body ++ t) left),
    )

-- the body that was found last, with one box more
abbrev last-with : Option (List ℕ) → Part → Option (List ℕ)
last-with f p = cond (same_kind ItemData p.kind) (Some p.body) f

last-before : (f : Option (List ℕ)) (p : Part) (ps : Parts) → last_or f (bodies ItemData (before p ps)) ≡ last_or (last-with f p) (bodies ItemData ps)
last-before f p ps = by (same_kind ItemData p.kind) refl
  where
    by : (b : Bool) → same_kind ItemData p.kind ≡ b → last_or f (bodies ItemData (before p ps)) ≡ last_or (last-with f p) (bodies ItemData ps)
    by true e = rw e refl
    by false e = rw e refl

with-box : (b : Bool) (all pre text rest : List ℕ) (p : Part) (f : Option (List ℕ)) (g : List ℕ) → all ≡ pre ++ text → (head : List ℕ) × (text ≡ head ++ (p.body ++ rest))
    → MayBeAt all f g → MayBeAt all (cond b (Some p.body) f) (cond b rest g)
with-box true all pre text rest p f g whole parts h =
    record { front = pre ++ parts.0; whole = whole ∙ ap (λ t. pre ++ t) parts.1 ∙ sym (append_assoc pre parts.0 (p.body ++ rest)) }
with-box false all pre text rest p f g whole parts h = h

behind-box : (pre text : List ℕ) (p : Part) (rest : List ℕ) (parts : (head : List ℕ) × (text ≡ head ++ (p.body ++ rest)))
    → pre ++ text ≡ (pre ++ (parts.0 ++ p.body)) ++ rest
behind-box pre text p rest parts =
    ap (λ t. pre ++ t) (parts.1 ∙ sym (append_assoc parts.0 p.body rest)) ∙ sym (append_assoc pre (parts.0 ++ p.body) rest)

-- one box more
at-step : (all pre text : List ℕ) (f : Option (List ℕ)) (g : List ℕ) (r : Front Part) → 0 < length text → box_at text ≡ r → all ≡ pre ++ text → MayBeAt all f g
    → ((pre rest : List ℕ) (f : Option (List ℕ)) (g : List ℕ) → length rest < length text → all ≡ pre ++ rest → MayBeAt all f g → MayBeAt all (last_or f (bodies ItemData (children rest))) (behind_last ItemData g rest))
    → MayBeAt all (last_or f (bodies ItemData (children text))) (behind_last ItemData g text)
at-step all pre text f g (Ok p) some e whole h ih =
    let parts = box-parts text p.0 p.1 e in
    let more : children text ≡ before p.0 (children p.1) = all_boxes_more box_at box_shorter text some ∙ ap (λ b. and_then b (all_boxes box_at)) e in
    let bodies-same : last_or f (bodies ItemData (children text)) ≡ last_or (last-with f p.0) (bodies ItemData (children p.1)) =
    ap (λ ps. last_or f (bodies ItemData ps)) more ∙ last-before f p.0 (children p.1) in
    let behind-same = last_went_on ItemData g text p.1 p.0 some e in
    subst (λ o. MayBeAt all o (behind_last ItemData g text)) (sym bodies-same)
    (subst (λ t. MayBeAt all (last_or (last-with f p.0) (bodies ItemData (children p.1))) t) (sym behind-same)
    (ih (pre ++ (parts.0 ++ p.0.body)) p.1 (last-with f p.0) (cond (same_kind ItemData p.0.kind) p.1 g) (box_shorter text p.0 p.1 e)
    (whole ∙ behind-box pre text p.0 p.1 parts) (with-box (same_kind ItemData p.0.kind) all pre text p.1 p.0 f g whole parts h)))
at-step all pre text f g (Err r) some e whole h ih =
    let none = all_boxes_more box_at box_shorter text some ∙ ap (λ b. and_then b (all_boxes box_at)) e in
    subst (λ o. MayBeAt all o (behind_last ItemData g text)) (sym (ap (λ ps. last_or f (bodies ItemData ps)) none))
    (subst (λ t. MayBeAt all f t) (sym (cut text some e)) h)
  where
    cut : (text : List ℕ) → 0 < length text → box_at text ≡ Err r → behind_last ItemData g text ≡ g
    cut [] some e = absurd (omega arith)
    cut (b ∷ text) some e = ap (λ q. step-of ItemData (length text) g q) e

at-boxes : (n : ℕ) (all pre text : List ℕ) (f : Option (List ℕ)) (g : List ℕ) → length text ≤ n → all ≡ pre ++ text → MayBeAt all f g
    → MayBeAt all (last_or f (bodies ItemData (children text))) (behind_last ItemData g text)
at-boxes n all pre [] f g le whole h =
    rw (all_boxes_end box_at [] refl) h
at-boxes zero all pre (b ∷ text) f g le whole h = absurd (omega arith)
at-boxes (suc n) all pre (b ∷ text) f g le whole h =
    at-step all pre (b ∷ text) f g (box_at (b ∷ text)) (omega arith) refl whole h (λ pre rest f g lt w k. at-boxes n all pre rest f g (omega arith) w k)

-- the last `idat` among boxes is at its offset
pub idat_is_at : (all pre text : List ℕ) → all ≡ pre ++ text → MayBeAt all (last_or None (bodies ItemData (children text))) (behind_last ItemData [] text)
idat_is_at all pre text whole = at-boxes (length text) all pre text None [] (omega arith) whole tt
