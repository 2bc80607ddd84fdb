-- The reader finds the new Exif data in a JPEG file that was written again.
use Rattle.std.proofs.Common.{◌≡◌, ◌≤◌, ◌+◌, ◌*◌, ◌/◌, ◌%◌, inl, inr, ℕ, zero, suc, Bool, true, false, cond, eqb, ltb, not, ◌&&◌, List, [], ◌∷◌, ◌++◌, length, take, drop, Option, None, Some, Ok, Err, unwrap_or, refl, ap, sym, ◌∙◌, subst, arith, append_assoc}
use Rattle.std.specs.Prelude.{codes}
use Rattle.std.specs.Option.{option_map}
use Rattle.std.proofs.lemmas.Bool.{eqb-true}
use Rattle.std.proofs.lemmas.Bool.Decides.{nat_tests}
use Rattle.std.proofs.lemmas.List.{append-nil}
use Rattle.exif_types.specs.Refusals.{◌>>=◌}
use Rattle.exif_segments.specs.Answer.{found, refused}
use Rattle.exif_segments.specs.Jpeg.{answer_from, broken_jpeg, exif_payload, invalid_length, jpeg_answer, no_exif_in_jpeg, not_jpeg, stands_alone, two_bytes, unit_answer}
use Rattle.exif_segments.specs.JpegGrammar.{exif_id}
use Rattle.exif_segments.specs.Removing.{behind, too_large}
use Rattle.exif_segments.specs.declared.remove.Remove.{Remove}
use Rattle.exif_segments.specs.declared.remove.Remove.TheVariants.{Exif, Metadata}
use Rattle.exif_segments.proofs.JpegUnits.{unit-segment}
use Rattle.exif_inventory.specs.JpegPieces.{is_jpeg, stream_piece}
use Rattle.exif_inventory.specs.declared.kind.Kind.{Kind}
use Rattle.exif_inventory.specs.declared.kind.Kind.TheVariants as kind
use Rattle.exif_inventory.specs.declared.piece.Piece.{Piece}
use Rattle.exif_parts.specs.Jpeg.{Next, Rewriting, exif_segment, filtered, inserted, is_scanned, pending, rewritten, unless_flawed, with_piece, with_segment}
use Rattle.exif_parts.specs.Kept.{kept, stays, trimmed}
use Rattle.exif_parts.specs.Laws.{IsAnswered, answer_without}
use Rattle.exif_parts.specs.Markers.{body_of, flaw, is_broken, is_end, is_insertion_point, marked_flaw, marker_of, segment_flaw}
use Rattle.exif_parts.specs.Written.{Written, finished}
use Rattle.exif_parts.specs.declared.rewritten.Ended.{Ended}
use Rattle.exif_parts.specs.declared.rewritten.Ended.TheVariants.{Whole, Cut}
use Rattle.exif_parts.proofs.Pieces.{full_len}
use Rattle.exif_parts.proofs.MarkerSegments.{IsMarkerSegment, answer_segment}
use Rattle.exif_parts.proofs.PieceKinds.{IsOutside, IsSilent, Describes, IsSegment, Classified, app0_plain, body_is, chosen_silent, marker_outside, marker_is, nothing_silent, outside_kept, passed, plain_kept, classified, trimmed_silent}

-- ---- the new segment

abbrev high : List ℕ → ℕ
high payload = ((8 + length payload) / 256) % 256

abbrev low : List ℕ → ℕ
low payload = (8 + length payload) % 256

size_is : (payload : List ℕ) → length payload ≤ 65527 → 256 * high payload + low payload ≡ 8 + length payload
size_is payload h = omega arith

new_segment : (payload : List ℕ) → length payload ≤ 65527 → IsMarkerSegment (exif_segment payload) 1 225 (high payload ∷ low payload ∷ (exif_id ++ payload))
new_segment payload h = record {
  some = omega arith;
  no_ff = omega arith;
  bytes_are = refl;
  brings = λ ys. unit-segment 225 (high payload) (low payload) (exif_id ++ payload) ys refl (omega (arith, size_is payload h));
}

large : (x : ℕ) → 2 ≤ x → ltb x 2 ≡ false
large x h = grind (arith, nat_tests)

segment_answers : (payload ys : List ℕ) → length payload ≤ 65527 → answer_from (exif_segment payload ++ ys) ≡ found payload ys
segment_answers payload ys h =
    answer_segment (exif_segment payload) 1 225 (high payload ∷ low payload ∷ (exif_id ++ payload)) ys (new_segment payload h)
    ∙ ap (λ b. unwrap_or (cond b (Some (refused invalid_length)) (Some (found payload ys))) (answer_from ys)) (large (256 * high payload + low payload) (omega (arith, size_is payload h)))

-- ---- what was written so far

-- the reader skips them, whatever follows
abbrev Passes : List ℕ → Type 0
Passes made = (ys : List ℕ) → jpeg_answer (made ++ ys) ≡ answer_from ys

-- it finds the data in them, whatever follows
abbrev Finds : List ℕ → List ℕ → Type 0
Finds payload made = (ys : List ℕ) → (rest : List ℕ) × (jpeg_answer (made ++ ys) ≡ found payload rest)

passes_more : (made span : List ℕ) → Passes made → IsSilent span → Passes (made ++ span)
passes_more made span p s ys = ap jpeg_answer (append_assoc made span ys) ∙ p (span ++ ys) ∙ s ys

finds_more : (payload made span : List ℕ) → Finds payload made → Finds payload (made ++ span)
finds_more payload made span f ys = let w = f (span ++ ys) in (w.0, ap jpeg_answer (append_assoc made span ys) ∙ w.1)

finds_segment : (payload made : List ℕ) → length payload ≤ 65527 → Passes made → Finds payload (made ++ exif_segment payload)
finds_segment payload made h p ys =
    (ys, ap jpeg_answer (append_assoc made (exif_segment payload) ys) ∙ p (exif_segment payload ++ ys) ∙ segment_answers payload ys h)

-- ---- what comes out begins with what was written so far

-- a new file, or another one
abbrev written_in : Written → Rewriting → Written
written_in other (Ok new) = new
written_in other (Err refusal) = other

ok_is : (one out : Written) → ◌≡◌ {A = Rewriting} (Ok one) (Ok out) → one ≡ out
ok_is one out e = ap (written_in one) e

pub record Begins (made : List ℕ) (out : Written) : Type 0 where
  pub tail : List ℕ
  pub is : out.bytes ≡ made ++ tail

-- the end, with a last few bytes
begins_last : (made last : List ℕ) (how : Ended) (out : Written) → ◌≡◌ {A = Rewriting} (Ok (finished made last how)) (Ok out) → Begins made out
begins_last made last how out e =
    record { tail = last; is = sym (ap (λ (w : Written). w.bytes) (ok_is (finished made last how) out e)) }

begins_piece : (o : Option (List ℕ)) (t : Bool) (made last : List ℕ) (out : Written) (next : Rewriting)
    → unless_flawed o (cond t (Ok (finished made last Whole)) next) ≡ Ok out → (next ≡ Ok out → Begins made out) → Begins made out
begins_piece (Some x) t made last out next e ih = absurd (cc)
begins_piece None true made last out next e ih = begins_last made last Whole out e
begins_piece None false made last out next e ih = ih e

begins_cut : (b : Bool) (made new : List ℕ) (out : Written) (other : Rewriting)
    → cond b (Ok (finished made new Cut)) other ≡ Ok out → (other ≡ Ok out → Begins made out) → Begins made out
begins_cut true made new out other e f = begins_last made new Cut out e
begins_cut false made new out other e f = f e

begins_before : (made put span : List ℕ) (out : Written) → Begins ((made ++ put) ++ span) out → Begins made out
begins_before made put span out b =
    record { tail = put ++ (span ++ b.tail); is = b.is ∙ append_assoc (made ++ put) span b.tail ∙ append_assoc made put (span ++ b.tail) }

pub begins : (n : ℕ) (remove : Remove) (scanned : Bool) (new bytes made : List ℕ) (out : Written) → filtered n remove scanned new bytes made ≡ Ok out → Begins made out
unfolding filtered
begins zero remove scanned new [] made out e = begins_last made new Cut out e
begins zero remove scanned new (b ∷ bytes) made out e = begins_last made new Cut out e
begins (suc n) remove scanned new [] made out e = begins_last made new Cut out e
begins (suc n) remove scanned new (b ∷ bytes) made out e =
    let piece = stream_piece 0 scanned (b ∷ bytes) in
    let span = take (full_len piece) (b ∷ bytes) in
    let rest = drop (full_len piece) (b ∷ bytes) in
    let put = inserted (is_insertion_point (marker_of span)) new in
    let more = kept remove piece.kind span in
    begins_cut (is_broken piece.kind) made new out _ e (λ e.
    begins_before made put more out
    (begins_piece (flaw span) (is_end (marker_of span)) ((made ++ put) ++ more) (behind remove rest) out _ e
    (λ e. begins n remove (is_scanned piece.next) (pending (is_insertion_point (marker_of span)) new) rest ((made ++ put) ++ more) out e)))

-- ---- one piece

-- the data are found in what comes out
abbrev IsFound : List ℕ → Written → Type 0
IsFound payload out = (rest : List ℕ) × (jpeg_answer out.bytes ≡ found payload rest)

found_in : (payload made : List ℕ) (out : Written) → Finds payload made → Begins made out → IsFound payload out
found_in payload made out f b = let w = f b.tail in (w.0, ap jpeg_answer b.is ∙ w.1)

-- the end, where they are last
last_found : (payload made : List ℕ) (out : Written) → length payload ≤ 65527 → Passes made
    → ◌≡◌ {A = Rewriting} (Ok (finished made (exif_segment payload) Cut)) (Ok out) → IsFound payload out
last_found payload made out h p e = (
  [],
  ap jpeg_answer (sym (ap (λ (w : Written). w.bytes) (ok_is (finished made (exif_segment payload) Cut) out e)))
      ∙ p (exif_segment payload) ∙ ap answer_from (sym (append-nil (exif_segment payload))) ∙ segment_answers payload [] h,
)

-- bytes outside of segments
outside_found : (payload : List ℕ) (remove : Remove) (made : List ℕ) (piece : Piece) (span rest : List ℕ) (out : Written) (next : Next)
    → Passes made → IsOutside piece.kind span → with_piece remove (exif_segment payload) made piece span rest next ≡ Ok out
    → ((made : List ℕ) → Passes made → next (is_scanned piece.next) (exif_segment payload) rest made ≡ Ok out → IsFound payload out) → IsFound payload out
outside_found payload remove made piece span rest out next p o e ih =
    let new = exif_segment payload in
    let step = λ (c : Option ℕ). cond (is_end c) (Ok (finished ((made ++ inserted (is_insertion_point c) new) ++ kept remove piece.kind span) (behind remove rest) Whole))
    (next (is_scanned piece.next) (pending (is_insertion_point c) new) rest ((made ++ inserted (is_insertion_point c) new) ++ kept remove piece.kind span)) in
    ih ((made ++ []) ++ kept remove piece.kind span)
    (passes_more (made ++ []) (kept remove piece.kind span) (passes_more made [] p nothing_silent) (outside_kept remove piece.kind span o))
    (sym (ap step (marker_outside span o.all)) ∙ e)

-- a marker segment that is APP0
app0_found : (payload : List ℕ) (remove : Remove) (made : List ℕ) (piece : Piece) (span rest : List ℕ) (out : Written) (next : Next) (n : ℕ) (body : List ℕ)
    → Passes made → IsMarkerSegment span n 224 body → ltb (two_bytes body) 2 ≡ false → with_piece remove (exif_segment payload) made piece span rest next ≡ Ok out
    → ((made : List ℕ) → Passes made → next (is_scanned piece.next) (exif_segment payload) rest made ≡ Ok out → IsFound payload out) → IsFound payload out
app0_found payload remove made piece span rest out next n body p u l e ih =
    let new = exif_segment payload in
    let step = λ (c : Option ℕ). cond (is_end c) (Ok (finished ((made ++ inserted (is_insertion_point c) new) ++ kept remove piece.kind span) (behind remove rest) Whole))
    (next (is_scanned piece.next) (pending (is_insertion_point c) new) rest ((made ++ inserted (is_insertion_point c) new) ++ kept remove piece.kind span)) in
    ih ((made ++ []) ++ kept remove piece.kind span)
    (passes_more (made ++ []) (kept remove piece.kind span) (passes_more made [] p nothing_silent) (plain_kept remove piece.kind span n 224 body app0_plain u l))
    (sym (ap step (marker_is span n 224 body u)) ∙ e)

-- a marker segment that is another one: the new segment is before it
other_found : (payload : List ℕ) (remove : Remove) (made : List ℕ) (piece : Piece) (span rest : List ℕ) (out : Written) (next : Next) (n marker : ℕ) (body : List ℕ)
    → length payload ≤ 65527 → Passes made → IsMarkerSegment span n marker body → eqb marker 224 ≡ false
    → with_piece remove (exif_segment payload) made piece span rest next ≡ Ok out
    → ((scanned : Bool) (new rest made : List ℕ) → next scanned new rest made ≡ Ok out → Begins made out) → IsFound payload out
other_found payload remove made piece span rest out next n marker body h p u other e ih =
    let new = exif_segment payload in
    let more = kept remove piece.kind span in
    let place : is_insertion_point (marker_of span) ≡ true = ap is_insertion_point (marker_is span n marker body u) ∙ ap not other in
    let whole : List ℕ = (made ++ inserted (is_insertion_point (marker_of span)) new) ++ more in
    found_in payload whole out
    (subst (λ b. Finds payload ((made ++ inserted b new) ++ more)) (sym place) (finds_more payload (made ++ new) more (finds_segment payload made h p)))
    (begins_piece None (is_end (marker_of span)) whole (behind remove rest) out _ e (λ e. ih (is_scanned piece.next) (pending (is_insertion_point (marker_of span)) new) rest whole e))

-- a length that counts itself
no_flaw : (span : List ℕ) (n : ℕ) (body : List ℕ) → IsMarkerSegment span n 224 body → flaw span ≡ None → ltb (two_bytes body) 2 ≡ false
no_flaw span n body u e =
    by (ltb (two_bytes body) 2)
    (sym (ap (λ c. marked_flaw c (body_of span)) (marker_is span n 224 body u) ∙ ap (segment_flaw 224) (body_is span n 224 body u)) ∙ e)
  where
    by : (t : Bool) → cond t (Some (codes "Invalid segment length")) None ≡ None → t ≡ false
    by true e = absurd (cc)
    by false e = refl

unflawed : (o : Option (List ℕ)) (answer : Rewriting) (out : Written) → unless_flawed o answer ≡ Ok out → o ≡ None
unflawed None answer out e = refl
unflawed (Some x) answer out e = absurd (cc)

segment_found : (payload : List ℕ) (remove : Remove) (made : List ℕ) (piece : Piece) (span rest : List ℕ) (out : Written) (next : Next) (u : IsSegment piece.kind span)
    → length payload ≤ 65527 → Passes made → flaw span ≡ None
    → with_piece remove (exif_segment payload) made piece span rest next ≡ Ok out
    → ((made : List ℕ) → Passes made → next (is_scanned piece.next) (exif_segment payload) rest made ≡ Ok out → IsFound payload out)
    → ((scanned : Bool) (new rest made : List ℕ) → next scanned new rest made ≡ Ok out → Begins made out) → IsFound payload out
segment_found payload remove made piece span rest out next u h p f e ih more = by (eqb u.marker 224) refl
  where
    by : (t : Bool) → eqb u.marker 224 ≡ t → IsFound payload out
    by false is = other_found payload remove made piece span rest out next u.n u.marker u.body h p u.is is e more
    by true is =
        let i : IsMarkerSegment span u.n 224 u.body = subst (λ c. IsMarkerSegment span u.n c u.body) (eqb-true u.marker 224 is) u.is in
        app0_found payload remove made piece span rest out next u.n u.body p i (no_flaw span u.n u.body i f) e ih

whole_found : (payload : List ℕ) (remove : Remove) (made : List ℕ) (piece : Piece) (span rest : List ℕ) (out : Written) (next : Next) → Classified piece span
    → is_broken piece.kind ≡ false → length payload ≤ 65527 → Passes made
    → unless_flawed (flaw span) (with_piece remove (exif_segment payload) made piece span rest next) ≡ Ok out
    → ((made : List ℕ) → Passes made → next (is_scanned piece.next) (exif_segment payload) rest made ≡ Ok out → IsFound payload out)
    → ((scanned : Bool) (new rest made : List ℕ) → next scanned new rest made ≡ Ok out → Begins made out) → IsFound payload out
whole_found payload remove made piece span rest out next s whole h p e ih more =
    elim s [
      | inl broken ↦ absurd (let no : true ≡ false = sym broken ∙ whole in cc)
      | inr (inl o) ↦ outside_found payload remove made piece span rest out next p o sound ih
      | inr (inr u) ↦ segment_found payload remove made piece span rest out next u h p none sound ih more
    ]
  where
    none : flaw span ≡ None
    none = unflawed (flaw span) (with_piece remove (exif_segment payload) made piece span rest next) out e

    sound : with_piece remove (exif_segment payload) made piece span rest next ≡ Ok out
    sound = sym (ap (λ o. unless_flawed o (with_piece remove (exif_segment payload) made piece span rest next)) none) ∙ e

piece_found : (payload : List ℕ) (remove : Remove) (made : List ℕ) (piece : Piece) (span rest : List ℕ) (out : Written) (next : Next) → Classified piece span
    → length payload ≤ 65527 → Passes made
    → cond (is_broken piece.kind) (Ok (finished made (exif_segment payload) Cut)) (unless_flawed (flaw span) (with_piece remove (exif_segment payload) made piece span rest next)) ≡ Ok out
    → ((made : List ℕ) → Passes made → next (is_scanned piece.next) (exif_segment payload) rest made ≡ Ok out → IsFound payload out)
    → ((scanned : Bool) (new rest made : List ℕ) → next scanned new rest made ≡ Ok out → Begins made out) → IsFound payload out
piece_found payload remove made piece span rest out next s h p e ih more = by (is_broken piece.kind) refl e
  where
    by : (t : Bool) → is_broken piece.kind ≡ t
        → cond t (Ok (finished made (exif_segment payload) Cut)) (unless_flawed (flaw span) (with_piece remove (exif_segment payload) made piece span rest next)) ≡ Ok out
        → IsFound payload out
    by true b e = last_found payload made out h p e
    by false b e = whole_found payload remove made piece span rest out next s b h p e ih more

-- ---- all pieces

found_within : (n : ℕ) (remove : Remove) (payload : List ℕ) (scanned : Bool) (bytes made : List ℕ) (out : Written) → length payload ≤ 65527 → Passes made
    → filtered n remove scanned (exif_segment payload) bytes made ≡ Ok out → IsFound payload out
unfolding filtered
found_within zero remove payload scanned [] made out h p e = last_found payload made out h p e
found_within zero remove payload scanned (b ∷ bytes) made out h p e = last_found payload made out h p e
found_within (suc n) remove payload scanned [] made out h p e = last_found payload made out h p e
found_within (suc n) remove payload scanned (b ∷ bytes) made out h p e =
    let piece = stream_piece 0 scanned (b ∷ bytes) in
    let rest = drop (full_len piece) (b ∷ bytes) in
    piece_found payload remove made piece (take (full_len piece) (b ∷ bytes)) rest out (filtered n remove) (classified scanned (b ∷ bytes) (omega arith)) h p e
    (λ made p e. found_within n remove payload (is_scanned piece.next) rest made out h p e)
    (λ scanned new rest made e. begins n remove scanned new rest made out e)

-- ---- no new data

-- the reader skips what stays of a marker segment that is not refused and is not the end
fine : (s a l : Bool) → cond s (Some (codes "Unexpected SOI")) (cond (not a && l) (Some (codes "Invalid segment length")) None) ≡ None → (s ≡ false) × (a ≡ false → l ≡ false)
fine true a l e = absurd (cc)
fine false true l e = (refl, λ a. absurd (cc))
fine false false true e = absurd (cc)
fine false false false e = (refl, λ a. refl)

segment_silent : (remove : Remove) (k : Kind) (span : List ℕ) (n marker : ℕ) (body : List ℕ) → IsMarkerSegment span n marker body → Describes k marker body
    → stays remove k (Some marker) ≡ true → segment_flaw marker body ≡ None → eqb marker 217 ≡ false → IsSilent span
segment_silent remove k span n marker body u described s f e ys =
    let ok = fine (eqb marker 216) (stands_alone marker) (ltb (two_bytes body) 2) f in
    answer_segment span n marker body ys u
    ∙ ap (λ o. unwrap_or o (answer_from ys))
    (passed (eqb marker 216) (eqb marker 217) (stands_alone marker) (ltb (two_bytes body) 2) (eqb marker 225) (option_map (λ p. found p ys) (exif_payload (drop 2 body))) ok.0 e ok.1
    (λ a x. ap (λ b. option_map (λ p. found p ys) (cond b (Some (drop 6 (drop 2 body))) None)) (described.no_exif remove s x)))

segment_kept : (remove : Remove) (k : Kind) (span : List ℕ) (n marker : ℕ) (body : List ℕ) → IsMarkerSegment span n marker body → Describes k marker body
    → segment_flaw marker body ≡ None → eqb marker 217 ≡ false → IsSilent (kept remove k span)
segment_kept remove k span n marker body u described f e =
    chosen_silent (stays remove k (marker_of span)) (trimmed remove k span) []
    (λ s. by (segment_silent remove k span n marker body u described (sym (ap (λ m. stays remove k m) (marker_is span n marker body u)) ∙ s) f e)) (λ s. nothing_silent)
  where
    by : IsSilent span → IsSilent (trimmed remove k span)
    by h = elim described.trims [
      | inl same ↦ subst (λ (t : List ℕ). IsSilent t) (sym (same remove span)) h
      | inr plain ↦ trimmed_silent remove k span n marker body plain u h
    ]

kept_picture : (remove : Remove) (span : List ℕ) → kept remove kind.Picture span ≡ span
kept_picture Exif span = refl
kept_picture Metadata span = refl

-- the end of the image stays, and the reader finds nothing
end_kept : (remove : Remove) (k : Kind) (span : List ℕ) (n marker : ℕ) (body ys : List ℕ) → IsMarkerSegment span n marker body → Describes k marker body → eqb marker 217 ≡ true
    → answer_from (kept remove k span ++ ys) ≡ refused no_exif_in_jpeg
end_kept remove k span n marker body ys u described e =
    ap (λ (k : Kind). answer_from (kept remove k span ++ ys)) (described.last e)
    ∙ ap (λ (t : List ℕ). answer_from (t ++ ys)) (kept_picture remove span)
    ∙ answer_segment span n marker body ys u
    ∙ ap (λ c. unwrap_or (unit_answer (record { code = c; body = body; rest = ys })) (answer_from ys)) (eqb-true marker 217 e)

-- nothing is found in what comes out
abbrev IsNone : Written → Type 0
IsNone out = jpeg_answer out.bytes ≡ answer_without out.ended

none_inserted : (b : Bool) → inserted b [] ≡ []
none_inserted true = refl
none_inserted false = refl

none_pending : (b : Bool) → pending b [] ≡ []
none_pending true = refl
none_pending false = refl

-- a piece with nothing before it
bare_piece : (remove : Remove) (made : List ℕ) (piece : Piece) (span rest : List ℕ) (out : Written) (next : Next) → with_piece remove [] made piece span rest next ≡ Ok out
    → cond (is_end (marker_of span)) (Ok (finished ((made ++ []) ++ kept remove piece.kind span) (behind remove rest) Whole))
    (next (is_scanned piece.next) [] rest ((made ++ []) ++ kept remove piece.kind span)) ≡ Ok out
bare_piece remove made piece span rest out next e =
    sym (ap (λ (p : List ℕ). cond (is_end (marker_of span)) (Ok (finished ((made ++ p) ++ kept remove piece.kind span) (behind remove rest) Whole))
    (next (is_scanned piece.next) (pending (is_insertion_point (marker_of span)) []) rest ((made ++ p) ++ kept remove piece.kind span))) (none_inserted (is_insertion_point (marker_of span)))
    ∙ ap (λ (p : List ℕ). cond (is_end (marker_of span)) (Ok (finished ((made ++ []) ++ kept remove piece.kind span) (behind remove rest) Whole))
    (next (is_scanned piece.next) p rest ((made ++ []) ++ kept remove piece.kind span))) (none_pending (is_insertion_point (marker_of span)))) ∙ e

-- the end of the image, or what follows
ends_or : (t : Bool) (made last : List ℕ) (out : Written) (next : Rewriting) → cond t (Ok (finished made last Whole)) next ≡ Ok out
    → (t ≡ true → jpeg_answer (made ++ last) ≡ refused no_exif_in_jpeg) → (t ≡ false → next ≡ Ok out → IsNone out) → IsNone out
ends_or true made last out next e f g = subst (λ (w : Written). IsNone w) (ok_is (finished made last Whole) out e) (f refl)
ends_or false made last out next e f g = g refl e

-- the end of what there is
last_none : (made : List ℕ) (out : Written) → Passes made → ◌≡◌ {A = Rewriting} (Ok (finished made [] Cut)) (Ok out) → IsNone out
last_none made out p e = subst (λ (w : Written). IsNone w) (ok_is (finished made [] Cut) out e) (p [])

outside_none : (remove : Remove) (made : List ℕ) (piece : Piece) (span rest : List ℕ) (out : Written) (next : Next)
    → Passes made → IsOutside piece.kind span → with_piece remove [] made piece span rest next ≡ Ok out
    → ((made : List ℕ) → Passes made → next (is_scanned piece.next) [] rest made ≡ Ok out → IsNone out) → IsNone out
outside_none remove made piece span rest out next p o e ih =
    let more : List ℕ = (made ++ []) ++ kept remove piece.kind span in
    let no : is_end (marker_of span) ≡ false = ap is_end (marker_outside span o.all) in
    ends_or (is_end (marker_of span)) more (behind remove rest) out _ (bare_piece remove made piece span rest out next e)
    (λ t. absurd (let no : true ≡ false = sym t ∙ no in cc))
    (λ t e. ih more (passes_more (made ++ []) (kept remove piece.kind span) (passes_more made [] p nothing_silent) (outside_kept remove piece.kind span o)) e)

segment_none : (remove : Remove) (made : List ℕ) (piece : Piece) (span rest : List ℕ) (out : Written) (next : Next) (u : IsSegment piece.kind span)
    → Passes made → flaw span ≡ None → with_piece remove [] made piece span rest next ≡ Ok out
    → ((made : List ℕ) → Passes made → next (is_scanned piece.next) [] rest made ≡ Ok out → IsNone out) → IsNone out
segment_none remove made piece span rest out next u p f e ih =
    let more : List ℕ = (made ++ []) ++ kept remove piece.kind span in
    let before : Passes (made ++ []) = passes_more made [] p nothing_silent in
    let end : is_end (marker_of span) ≡ eqb u.marker 217 = ap is_end (marker_is span u.n u.marker u.body u.is) in
    let fine : segment_flaw u.marker u.body ≡ None =
    sym (ap (λ c. marked_flaw c (body_of span)) (marker_is span u.n u.marker u.body u.is) ∙ ap (segment_flaw u.marker) (body_is span u.n u.marker u.body u.is)) ∙ f in
    ends_or (is_end (marker_of span)) more (behind remove rest) out _ (bare_piece remove made piece span rest out next e)
    (λ t. ap jpeg_answer (append_assoc (made ++ []) (kept remove piece.kind span) (behind remove rest)) ∙ before (kept remove piece.kind span ++ behind remove rest)
    ∙ end_kept remove piece.kind span u.n u.marker u.body (behind remove rest) u.is u.described (sym end ∙ t))
    (λ t e. ih more (passes_more (made ++ []) (kept remove piece.kind span) before (segment_kept remove piece.kind span u.n u.marker u.body u.is u.described fine (sym end ∙ t))) e)

whole_none : (remove : Remove) (made : List ℕ) (piece : Piece) (span rest : List ℕ) (out : Written) (next : Next) → Classified piece span
    → is_broken piece.kind ≡ false → Passes made → unless_flawed (flaw span) (with_piece remove [] made piece span rest next) ≡ Ok out
    → ((made : List ℕ) → Passes made → next (is_scanned piece.next) [] rest made ≡ Ok out → IsNone out) → IsNone out
whole_none remove made piece span rest out next s whole p e ih =
    elim s [
      | inl broken ↦ absurd (let no : true ≡ false = sym broken ∙ whole in cc)
      | inr (inl o) ↦ outside_none remove made piece span rest out next p o sound ih
      | inr (inr u) ↦ segment_none remove made piece span rest out next u p none sound ih
    ]
  where
    none : flaw span ≡ None
    none = unflawed (flaw span) (with_piece remove [] made piece span rest next) out e

    sound : with_piece remove [] made piece span rest next ≡ Ok out
    sound = sym (ap (λ o. unless_flawed o (with_piece remove [] made piece span rest next)) none) ∙ e

piece_none : (remove : Remove) (made : List ℕ) (piece : Piece) (span rest : List ℕ) (out : Written) (next : Next) → Classified piece span → Passes made
    → cond (is_broken piece.kind) (Ok (finished made [] Cut)) (unless_flawed (flaw span) (with_piece remove [] made piece span rest next)) ≡ Ok out
    → ((made : List ℕ) → Passes made → next (is_scanned piece.next) [] rest made ≡ Ok out → IsNone out) → IsNone out
piece_none remove made piece span rest out next s p e ih = by (is_broken piece.kind) refl e
  where
    by : (t : Bool) → is_broken piece.kind ≡ t
        → cond t (Ok (finished made [] Cut)) (unless_flawed (flaw span) (with_piece remove [] made piece span rest next)) ≡ Ok out → IsNone out
    by true b e = last_none made out p e
    by false b e = whole_none remove made piece span rest out next s b p e ih

none_within : (n : ℕ) (remove : Remove) (scanned : Bool) (bytes made : List ℕ) (out : Written) → Passes made → filtered n remove scanned [] bytes made ≡ Ok out → IsNone out
unfolding filtered
none_within zero remove scanned [] made out p e = last_none made out p e
none_within zero remove scanned (b ∷ bytes) made out p e = last_none made out p e
none_within (suc n) remove scanned [] made out p e = last_none made out p e
none_within (suc n) remove scanned (b ∷ bytes) made out p e =
    let piece = stream_piece 0 scanned (b ∷ bytes) in
    let rest = drop (full_len piece) (b ∷ bytes) in
    piece_none remove made piece (take (full_len piece) (b ∷ bytes)) rest out (filtered n remove) (classified scanned (b ∷ bytes) (omega arith)) p e
    (λ made p e. none_within n remove (is_scanned piece.next) rest made out p e)

-- ---- a file

-- a file that has both bytes of its first marker
abbrev file_with : List ℕ → List ℕ → Bool → Bool → Remove → Rewriting
file_with new file short jpeg remove =
    cond short (Err broken_jpeg) (cond jpeg (filtered (length (drop 2 file)) remove false new (drop 2 file) (255 ∷ 216 ∷ [])) (Err not_jpeg))

file_none : (short jpeg : Bool) (remove : Remove) (file : List ℕ) (out : Written) → file_with [] file short jpeg remove ≡ Ok out → IsNone out
file_none true jpeg remove file out e = absurd (cc)
file_none false false remove file out e = absurd (cc)
file_none false true remove file out e = none_within (length (drop 2 file)) remove false (drop 2 file) (255 ∷ 216 ∷ []) out (λ ys. refl) e

file_found : (short jpeg : Bool) (remove : Remove) (payload file : List ℕ) (out : Written) → length payload ≤ 65527
    → file_with (exif_segment payload) file short jpeg remove ≡ Ok out → IsFound payload out
file_found true jpeg remove payload file out h e = absurd (cc)
file_found false false remove payload file out h e = absurd (cc)
file_found false true remove payload file out h e = found_within (length (drop 2 file)) remove payload false (drop 2 file) (255 ∷ 216 ∷ []) out h (λ ys. refl) e

fits_where : (n : ℕ) → ltb 65527 n ≡ false → n ≤ 65527
fits_where n h = grind (arith, nat_tests)

data_found : (remove : Remove) (payload file : List ℕ) (out : Written) (t : Bool) → (t ≡ false → length payload ≤ 65527)
    → (cond t (Err too_large) (Ok (exif_segment payload)) >>= λ new. with_segment remove file new) ≡ Ok out → IsFound payload out
data_found remove payload file out true h e = absurd (cc)
data_found remove payload file out false h e = file_found (ltb (length file) 2) (is_jpeg file) remove payload file out (h refl) e

-- the reader finds what was put, or that there is nothing
pub answered : (remove : Remove) (put : Option (List ℕ)) (file : List ℕ) (out : Written) → IsAnswered remove put file out
answered remove None file out e = file_none (ltb (length file) 2) (is_jpeg file) remove file out e
answered remove (Some payload) file out e = data_found remove payload file out (ltb 65527 (length payload)) (fits_where (length payload)) e

-- ---- how a new file begins

file_begun : (new : List ℕ) (short jpeg : Bool) (remove : Remove) (file : List ℕ) (out : Written) → file_with new file short jpeg remove ≡ Ok out
    → Begins (255 ∷ 216 ∷ []) out
file_begun new true jpeg remove file out e = absurd (cc)
file_begun new false false remove file out e = absurd (cc)
file_begun new false true remove file out e = begins (length (drop 2 file)) remove false new (drop 2 file) (255 ∷ 216 ∷ []) out e

data_begun : (remove : Remove) (payload file : List ℕ) (out : Written) (t : Bool)
    → (cond t (Err too_large) (Ok (exif_segment payload)) >>= λ new. with_segment remove file new) ≡ Ok out → Begins (255 ∷ 216 ∷ []) out
data_begun remove payload file out true e = absurd (cc)
data_begun remove payload file out false e = file_begun (exif_segment payload) (ltb (length file) 2) (is_jpeg file) remove file out e

-- with the first marker of a JPEG stream
pub begun : (remove : Remove) (put : Option (List ℕ)) (file : List ℕ) (out : Written) → rewritten remove put file ≡ Ok out → Begins (255 ∷ 216 ∷ []) out
begun remove None file out e = file_begun [] (ltb (length file) 2) (is_jpeg file) remove file out e
begun remove (Some payload) file out e = data_begun remove payload file out (ltb 65527 (length payload)) e
