-- The boxes of a file one after the other, as a loop reads them.
use Rattle.std.proofs.Common.{◌≡◌, ℕ, ◌-◌, ◌<◌, ◌≤◌, Bool, true, false, cond, ◌||◌, leb, eqb, List, [], ◌∷◌, length, take, drop, Option, Some, None, MatchOption, Result, Ok, Err, refl, sym, ap, ◌∙◌, arith}
use Rattle.std.specs.Prelude.{unwrap_or}
use Rattle.std.specs.List.{find, list_any}
use Rattle.std.proofs.lemmas.Bool.{leb-true}
use Rattle.std.proofs.lemmas.List.{length-drop}
use Rattle.byteorder.specs.Endian.{big_number}
use Rattle.exif_types.specs.Failures.{Failure}
use Rattle.exif_isobmff.specs.declared.kind.Kind.{Kind}
use Rattle.exif_isobmff.specs.declared.kind.Kind.TheVariants.{FileType, Meta, ItemData, ItemInfo, ItemInfoEntry, ItemLocation, Other}
use Rattle.exif_types.specs.Refusals.{Refusal, refusal_of, ◌>>=◌, Refuses, all_pass, or_refuse, Front}
use Rattle.exif_isobmff.specs.HeifRefusals.{no_exif, meta_before_ftyp, broken_file}
use Rattle.exif_isobmff.specs.Boxes.{Part, Parts, before, and_then, all_boxes, children, whole_part, box_at, header_len, header_at}
use Rattle.exif_isobmff.specs.HeifFile.{file_box_at, file_boxes, fours, is_heif_brand, has_heif_brand, is_meta, is_ftyp, checked, passed, before_meta, whole, meta_from}
use Rattle.exif_types.proofs.Refusing.{refuses_along}
use Rattle.exif_isobmff.proofs.SplitterBoxes.{Shortens, all_boxes_more, all_boxes_end, bind_ok, when_ok, ok_same, header_rest, eight, after, box_shorter}

-- ---- brands

-- a test of the first text of 4 bytes, and of those behind it
pub any_more : (f : List ℕ → Bool) (text : List ℕ) → 4 ≤ length text → list_any f (fours text) ≡ (f (take 4 text) || list_any f (fours (drop 4 text)))
any_more f [] h = absurd (omega arith)
any_more f (a ∷ []) h = absurd (omega arith)
any_more f (a ∷ b ∷ []) h = absurd (omega arith)
any_more f (a ∷ b ∷ c ∷ []) h = absurd (omega arith)
any_more f (a ∷ b ∷ c ∷ d ∷ text) h = refl

-- fewer than 4 bytes hold no text of 4
pub any_none : (f : List ℕ → Bool) (text : List ℕ) → length text < 4 → list_any f (fours text) ≡ false
any_none f [] h = refl
any_none f (a ∷ []) h = refl
any_none f (a ∷ b ∷ []) h = refl
any_none f (a ∷ b ∷ c ∷ []) h = refl
any_none f (a ∷ b ∷ c ∷ d ∷ text) h = absurd (omega arith)

-- the first is none
pub any_went_on : (f : List ℕ → Bool) (text : List ℕ) (total : Bool) → 4 ≤ length text → f (take 4 text) ≡ false → list_any f (fours text) ≡ total → list_any f (fours (drop 4 text)) ≡ total
any_went_on f text total long h so_far = sym (any_more f text long ∙ ap (λ b. b || list_any f (fours (drop 4 text))) h) ∙ so_far

-- ---- boxes

-- a box of a file is longer than nothing
pub file_box_shorter : Shortens file_box_at
unfolding file_box_at
file_box_shorter text p rest e =
    let w = when_ok (leb (header_len text) (length text)) _ broken_file (p, rest) e in
    let h = bind_ok (header_at text) _ (p, rest) w.1 in
    let head : header_len text ≤ length text = leb-true _ _ w.0 in
    let long : 8 ≤ header_len text = eight (eqb (big_number 4 text) 1) in
    let first : drop (header_len text) text ≡ h.0.1 = header_rest text h.0 h.1 in
    let last : drop h.0.0.len h.0.1 ≡ rest = ap after (ok_same h.2) in
    let n : length h.0.1 ≡ length text - header_len text = sym (ap (λ (t : List ℕ). length t) first) ∙ length-drop (header_len text) text in
    let m : length rest ≡ length h.0.1 - h.0.0.len = sym (ap (λ (t : List ℕ). length t) last) ∙ length-drop h.0.0.len h.0.1 in
    omega arith

-- what the boxes answer, where an `ftyp` was seen before or not
abbrev pub each_checked : List Part → Result (Unit {0}) Refusal
each_checked ps = all_pass (λ p. checked p.kind p.len p.body) ps

or_swap : (seen t a : Bool) → (seen || (t || a)) ≡ ((t || seen) || a)
or_swap true true a = refl
or_swap true false a = refl
or_swap false true a = refl
or_swap false false a = refl

abbrev chosen : Bool → Parts → Result (List ℕ) Refusal
chosen b parts = or_refuse (find is_meta parts.whole) (unwrap_or parts.fault no_exif) >>= λ meta. cond b (whole meta.len meta.body) (Err meta_before_ftyp)

step : (seen t : Bool) (one : Result (Unit {0}) Refusal) (ps : Parts)
    → ((one >>= λ u. each_checked (before_meta ps.whole)) >>= λ u. chosen (seen || (t || list_any is_ftyp (before_meta ps.whole))) ps)
    ≡ ((one >>= λ u. let made : Result Bool Refusal = Ok (t || seen) in made) >>= λ s. meta_from s ps)
step seen t (Ok u) ps = ap (λ b. each_checked (before_meta ps.whole) >>= λ v. chosen b ps) (or_swap seen t (list_any is_ftyp (before_meta ps.whole)))
step seen t (Err r) ps = refl

-- a box by its type, the length of its body and the body
abbrev pub box_of : Kind → ℕ → List ℕ → Part
box_of kind len body = record { kind = kind; len = len; body = body }

more : (seen : Bool) (kind : Kind) (len : ℕ) (body : List ℕ) (ps : Parts) → (kind ≡ Meta → ⊥) → meta_from seen (before (box_of kind len body) ps) ≡ (passed seen kind len body >>= λ s. meta_from s ps)
more seen FileType len body ps h = step seen true (checked FileType len body) ps
more seen Meta len body ps h = absurd (h refl)
more seen ItemData len body ps h = step seen false (checked ItemData len body) ps
more seen ItemInfo len body ps h = step seen false (checked ItemInfo len body) ps
more seen ItemInfoEntry len body ps h = step seen false (checked ItemInfoEntry len body) ps
more seen ItemLocation len body ps h = step seen false (checked ItemLocation len body) ps
more seen Other len body ps h = step seen false (checked Other len body) ps

opened : (seen : Bool) (p : Part) (text rest : List ℕ) → 0 < length text → file_box_at text ≡ Ok (p, rest) → meta_from seen (file_boxes text) ≡ meta_from seen (before p (file_boxes rest))
opened seen p text rest some h =
    ap (λ ps. meta_from seen ps) (all_boxes_more file_box_at file_box_shorter text some) ∙ ap (λ b. meta_from seen (and_then b (all_boxes file_box_at))) h

-- a box that is no `meta`, and then the others
pub file_more : (seen : Bool) (p : Part) (text rest : List ℕ) → 0 < length text → file_box_at text ≡ Ok (p, rest) → (p.kind ≡ Meta → ⊥)
    → meta_from seen (file_boxes text) ≡ (passed seen p.kind p.len p.body >>= λ s. meta_from s (file_boxes rest))
file_more seen p text rest some h not_meta = opened seen p text rest some h ∙ more seen p.kind p.len p.body (file_boxes rest) not_meta

-- the loop goes on behind a box that is skipped
pub file_went_on : (seen now : Bool) (p : Part) (text rest : List ℕ) (total : Result (List ℕ) Refusal) → 0 < length text → file_box_at text ≡ Ok (p, rest) → (p.kind ≡ Meta → ⊥)
    → passed seen p.kind p.len p.body ≡ Ok now → meta_from seen (file_boxes text) ≡ total → meta_from now (file_boxes rest) ≡ total
file_went_on seen now p text rest total some h not_meta k so_far =
    sym (file_more seen p text rest some h not_meta ∙ ap (λ r. r >>= λ s. meta_from s (file_boxes rest)) k) ∙ so_far

-- a box that is refused is the file's refusal
pub file_failed : (e : Failure) (seen : Bool) (p : Part) (text rest : List ℕ) → 0 < length text → file_box_at text ≡ Ok (p, rest) → (p.kind ≡ Meta → ⊥)
    → Refuses e (passed seen p.kind p.len p.body) → Refuses e (meta_from seen (file_boxes text))
file_failed e seen p text rest some h not_meta k =
    rw (file_more seen p text rest some h not_meta) (refuses_along e (λ r. r >>= λ s. meta_from s (file_boxes rest)) (passed seen p.kind p.len p.body) (λ r. refl) k)

-- bytes that are no box are the file's refusal
pub file_cut : (e : Failure) (seen : Bool) (text : List ℕ) → 0 < length text → Refuses e (file_box_at text) → Refuses e (meta_from seen (file_boxes text))
file_cut e seen text some h =
    rw (all_boxes_more file_box_at file_box_shorter text some) (refuses_along e (λ b. meta_from seen (and_then b (all_boxes file_box_at))) (file_box_at text) (λ r. refl) h)

found : (seen : Bool) (kind : Kind) (len : ℕ) (body : List ℕ) (ps : Parts) → kind ≡ Meta → meta_from seen (before (box_of kind len body) ps) ≡ cond seen (whole len body) (Err meta_before_ftyp)
found true Meta len body ps h = refl
found false Meta len body ps h = refl
found seen FileType len body ps h = absurd cc
found seen ItemData len body ps h = absurd cc
found seen ItemInfo len body ps h = absurd cc
found seen ItemInfoEntry len body ps h = absurd cc
found seen ItemLocation len body ps h = absurd cc
found seen Other len body ps h = absurd cc

-- the first `meta` is the answer, where an `ftyp` was seen
pub file_found : (seen : Bool) (p : Part) (text rest : List ℕ) → 0 < length text → file_box_at text ≡ Ok (p, rest) → p.kind ≡ Meta → meta_from seen (file_boxes text) ≡ cond seen (whole p.len p.body) (Err meta_before_ftyp)
file_found seen p text rest some h is_meta = opened seen p text rest some h ∙ found seen p.kind p.len p.body (file_boxes rest) is_meta

-- a file with no more boxes holds no Exif data
pub file_done : (seen : Bool) (text : List ℕ) → length text ≡ 0 → meta_from seen (file_boxes text) ≡ Err no_exif
file_done seen text h = ap (λ ps. meta_from seen ps) (all_boxes_end file_box_at text h)

-- ---- what begins as a HEIF file

-- whether the first `ftyp` among boxes has a brand of HEIF
abbrev pub heif_of : Parts → Bool
heif_of parts = elim (find is_ftyp parts.whole) [ Some p ↦ has_heif_brand p.body | None ↦ false ]

refused_end : (e : Failure) (box : Front Part) → Refuses e box → heif_of (and_then box (all_boxes box_at)) ≡ false
refused_end e (Err r) h = refl
refused_end e (Ok p) h = absurd (no_refusal (refusal_of e) h)
  where
    no_refusal : (o : Option Refusal) → MatchOption o ⊥ (λ r. Ok p ≡ Err r) → ⊥
    no_refusal None h = h
    no_refusal (Some r) h = cc

-- bytes that are no box begin no HEIF file
pub heif_cut : (e : Failure) (text : List ℕ) → Refuses e (box_at text) → heif_of (children text) ≡ false
heif_cut e [] h = ap heif_of (all_boxes_end box_at [] refl)
heif_cut e (b ∷ text) h = ap heif_of (all_boxes_more box_at box_shorter (b ∷ text) (omega arith)) ∙ refused_end e (box_at (b ∷ text)) h

heif_opened : (p : Part) (text rest : List ℕ) → box_at text ≡ Ok (p, rest) → heif_of (children text) ≡ heif_of (before p (children rest))
heif_opened p text rest h =
    let lt = box_shorter text p rest h in
    ap heif_of (all_boxes_more box_at box_shorter text (omega arith)) ∙ ap (λ b. heif_of (and_then b (all_boxes box_at))) h

heif_step : (kind : Kind) (body : List ℕ) (ps : Parts) → (kind ≡ FileType → ⊥) → heif_of (before (whole_part kind body) ps) ≡ heif_of ps
heif_step FileType body ps h = absurd (h refl)
heif_step Meta body ps h = refl
heif_step ItemData body ps h = refl
heif_step ItemInfo body ps h = refl
heif_step ItemInfoEntry body ps h = refl
heif_step ItemLocation body ps h = refl
heif_step Other body ps h = refl

heif_first : (kind : Kind) (body : List ℕ) (ps : Parts) → kind ≡ FileType → heif_of (before (whole_part kind body) ps) ≡ has_heif_brand body
heif_first FileType body ps h = refl
heif_first Meta body ps h = absurd cc
heif_first ItemData body ps h = absurd cc
heif_first ItemInfo body ps h = absurd cc
heif_first ItemInfoEntry body ps h = absurd cc
heif_first ItemLocation body ps h = absurd cc
heif_first Other body ps h = absurd cc

-- the loop goes on behind a box that is no `ftyp`
pub heif_went_on : (kind : Kind) (body text rest : List ℕ) (total : Bool) → box_at text ≡ Ok (whole_part kind body, rest) → (kind ≡ FileType → ⊥) → heif_of (children text) ≡ total → heif_of (children rest) ≡ total
heif_went_on kind body text rest total h not_ftyp so_far = sym (heif_opened (whole_part kind body) text rest h ∙ heif_step kind body (children rest) not_ftyp) ∙ so_far

-- the first `ftyp` decides
pub heif_found : (kind : Kind) (body text rest : List ℕ) → box_at text ≡ Ok (whole_part kind body, rest) → kind ≡ FileType → heif_of (children text) ≡ has_heif_brand body
heif_found kind body text rest h is_ftyp = heif_opened (whole_part kind body) text rest h ∙ heif_first kind body (children rest) is_ftyp

-- less than 8 bytes have no brand
pub no_brand_in : (body : List ℕ) → length body < 8 → has_heif_brand body ≡ false
no_brand_in body h = any_none is_heif_brand (drop 8 body) (omega (arith, length-drop 8 body))
