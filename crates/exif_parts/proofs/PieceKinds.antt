-- What a piece of a JPEG stream is to the reader, and what becomes of it.
use Rattle.std.proofs.Common.{◌≡◌, ◌≢◌, ◌<◌, ◌≤◌, ◌+◌, ◌-◌, ◌*◌, ◌⊎◌, inl, inr, max, ℕ, suc, Bool, true, false, cond, codes, eqb, ltb, leb, ◌&&◌, ◌||◌, List, [], ◌∷◌, ◌++◌, length, take, drop, replicate, slice_index, Option, None, Some, unwrap_or, refl, ap, sym, ◌∙◌, subst, arith, append_assoc}
use Rattle.std.specs.List.{All}
use Rattle.std.specs.Option.{option_map}
use Rattle.std.proofs.lemmas.Bool.{eqb-true, eqb-false, ne_eqb}
use Rattle.std.proofs.lemmas.Bool.Decides.{nat_tests}
use Rattle.std.proofs.lemmas.List.{length-take-le, length-append}
use Rattle.std.proofs.lemmas.List.Elements.{All-nil, All-cons, All-head}
use Rattle.exif_segments.specs.Answer.{Answer, found, refused}
use Rattle.exif_segments.specs.Jpeg.{after_marks, answer_from, begins_exif, first_answer, exif_payload, invalid_length, no_exif_in_jpeg, stands_alone, two_bytes, unexpected_soi, unit_from_code, units_of, with_units}
use Rattle.exif_segments.specs.declared.remove.Remove.{Remove}
use Rattle.exif_segments.specs.declared.remove.Remove.TheVariants.{Exif, Metadata}
use Rattle.exif_segments.proofs.JpegUnits.{answer-first_unit, unit-segment}
use Rattle.exif_segments.proofs.LimitedMoves.{from_mark-others}
use Rattle.exif_inventory.specs.JpegKinds.{app0_kind, app1_kind, app2_kind, app_kind, front_len, has_resources, named, segment_kind, unsegmented, xmp_kind}
use Rattle.exif_inventory.specs.JpegPieces.{fill_len, free_len, free_piece, given_len, kind_segment, marker_kind, marker_piece, segment_front, stream_piece, whole_segment}
use Rattle.exif_inventory.specs.declared.kind.Kind.{Kind}
use Rattle.exif_inventory.specs.declared.kind.Kind.TheVariants as kind
use Rattle.exif_inventory.specs.declared.piece.Piece.{Piece}
use Rattle.exif_parts.specs.Jpeg.{resources_len}
use Rattle.exif_parts.specs.Kept.{adobe_fields, jfif_fields, kept, stays, trimmed}
use Rattle.exif_parts.specs.Markers.{body_of, marker_of, prefix_of, is_broken}
use Rattle.exif_parts.proofs.Pieces.{IsMarked, IsSized, by_piece, marker_at, content_at, segment_len, sized_piece, full_len}
use Rattle.exif_parts.proofs.MarkerSegments.{IsMarkerSegment, alone_segment, answer_segment, content_is, drop_filled, fill_filled, prefix_filled, index_filled, length_filled, sized_segment}

-- bytes that hold no ff, of which nothing is trimmed
pub record IsOutside (k : Kind) (span : List ℕ) : Type 0 where
  pub all : All (λ b. b ≢ 255) span
  pub untrimmed : (remove : Remove) → trimmed remove k span ≡ span

-- the marker of a segment that the reader skips
pub record IsPlain (marker : ℕ) : Type 0 where
  pub soi : eqb marker 216 ≡ false
  pub eoi : eqb marker 217 ≡ false
  pub sized : stands_alone marker ≡ false
  pub app1 : eqb marker 225 ≡ false

pub app0_plain : IsPlain 224
app0_plain = record { soi = refl; eoi = refl; sized = refl; app1 = refl }

app14_plain : IsPlain 238
app14_plain = record { soi = refl; eoi = refl; sized = refl; app1 = refl }

-- what the kind of a marker segment states of its marker and body: only plain ones are trimmed, what stays
-- is no Exif data, and the end of the image stays
pub record Describes (k : Kind) (marker : ℕ) (body : List ℕ) : Type 0 where
  pub trims : ((remove : Remove) (span : List ℕ) → trimmed remove k span ≡ span) ⊎ IsPlain marker
  pub no_exif : (remove : Remove) → stays remove k (Some marker) ≡ true → eqb marker 225 ≡ true → begins_exif (drop 2 body) ≡ false
  pub last : eqb marker 217 ≡ true → k ≡ kind.Picture

-- a marker segment, by its ffs, its marker and its body
pub record IsSegment (k : Kind) (span : List ℕ) : Type 0 where
  pub n : ℕ
  pub marker : ℕ
  pub body : List ℕ
  pub is : IsMarkerSegment span n marker body
  pub described : Describes k marker body

chosen : {A : Type 0} (Q : A → Type 0) (b : Bool) (x y : A) → (b ≡ true → Q x) → (b ≡ false → Q y) → Q (cond b x y)
chosen Q true x y f g = f refl
chosen Q false x y f g = g refl

-- a piece is cut off, outside of segments, or a marker segment
abbrev pub Classified : Piece → List ℕ → Type 0
Classified piece span = (is_broken piece.kind ≡ true) ⊎ (IsOutside piece.kind span ⊎ IsSegment piece.kind span)

pub free_plain : (bytes : List ℕ) → All (λ b. b ≢ 255) (take (free_len bytes) bytes)
free_plain [] = All-nil (λ b. b ≢ 255)
free_plain (b ∷ bytes) = by (eqb b 255) refl (free_plain bytes)
  where
    by : (t : Bool) → eqb b 255 ≡ t → All (λ b. b ≢ 255) (take (free_len bytes) bytes) → All (λ b. b ≢ 255) (take (cond t 0 (suc (free_len bytes))) (b ∷ bytes))
    by true e ih = All-nil (λ b. b ≢ 255)
    by false e ih = All-cons (λ b. b ≢ 255) b (take (free_len bytes) bytes) (eqb-false b 255 e) ih

pub untrimmed_free : (scanned : Bool) (span : List ℕ) (remove : Remove) → trimmed remove (unsegmented scanned) span ≡ span
untrimmed_free true span Exif = refl
untrimmed_free true span Metadata = refl
untrimmed_free false span Exif = refl
untrimmed_free false span Metadata = refl

plus_zero : (n : ℕ) → n ≡ n + 0
plus_zero n = omega arith

free_classified : (scanned : Bool) (bytes : List ℕ) → Classified (free_piece 0 scanned (free_len bytes)) (take (full_len (free_piece 0 scanned (free_len bytes))) bytes)
free_classified scanned bytes =
    inr (inl (record {
      all = subst (λ k. All (λ b. b ≢ 255) (take k bytes)) (plus_zero (free_len bytes)) (free_plain bytes);
      untrimmed = untrimmed_free scanned (take (full_len (free_piece 0 scanned (free_len bytes))) bytes);
    }))

pub alone_len : (scanned : Bool) (n marker : ℕ) → full_len (marker_piece 0 scanned n marker) ≡ n + 1
alone_len scanned n marker = by (eqb marker 217)
  where
    by : (t : Bool) → n + 1 + resources_len (cond t (marker_piece 0 scanned n 217).next (marker_piece 0 scanned n 0).next) ≡ n + 1
    by true = omega arith
    by false = omega arith

-- ---- what a kind states

-- whether something goes of a piece of this kind that stays
abbrev pub trims : Kind → Bool
trims kind.Jfif = true
trims kind.Adobe = true
trims k = false

pub untrimmed : (k : Kind) → trims k ≡ false → (remove : Remove) (span : List ℕ) → trimmed remove k span ≡ span
untrimmed k e Exif span = refl
untrimmed kind.Jfif e Metadata span = absurd (cc)
untrimmed kind.Adobe e Metadata span = absurd (cc)
untrimmed kind.Picture e Metadata span = refl
untrimmed kind.JfifThumbnail e Metadata span = refl
untrimmed kind.Exif e Metadata span = refl
untrimmed kind.Xmp e Metadata span = refl
untrimmed kind.ExtendedXmp e Metadata span = refl
untrimmed kind.Photoshop e Metadata span = refl
untrimmed kind.PhotoshopExif e Metadata span = refl
untrimmed kind.PhotoshopXmp e Metadata span = refl
untrimmed kind.PhotoshopOther e Metadata span = refl
untrimmed kind.Iptc e Metadata span = refl
untrimmed kind.Comment e Metadata span = refl
untrimmed kind.IccProfile e Metadata span = refl
untrimmed kind.MultiPicture e Metadata span = refl
untrimmed kind.ContentCredentials e Metadata span = refl
untrimmed kind.Trailer e Metadata span = refl
untrimmed kind.Unknown e Metadata span = refl
untrimmed kind.Broken e Metadata span = refl

pub alone_kind : (e s scanned : Bool) → trims (cond e kind.Picture (cond s kind.Unknown (cond scanned kind.Picture kind.Unknown))) ≡ false
alone_kind true s scanned = refl
alone_kind false true scanned = refl
alone_kind false false true = refl
alone_kind false false false = refl

alone_described : (scanned : Bool) (marker : ℕ) → stands_alone marker ≡ true → Describes (marker_kind scanned marker) marker []
alone_described scanned marker alone = record {
  trims = inl (untrimmed (marker_kind scanned marker) (alone_kind (eqb marker 217) (eqb marker 216) scanned));
  no_exif = λ remove s e. absurd (let no : true ≡ false = sym alone ∙ ap stands_alone (eqb-true marker 225 e) in cc);
  last = λ e. ap (λ b. cond b kind.Picture (cond (eqb marker 216) kind.Unknown (unsegmented scanned))) e;
}

pub kind_kept : (scanned : Bool) (at marker len : ℕ) (k : Kind) → (kind_segment 0 scanned at marker len k).kind ≡ k
kind_kept scanned at marker len k =
    chosen (λ (p : Piece). p.kind ≡ k) (has_resources k (at + 1 + len - front_len k at)) (segment_front 0 scanned at k (at + 1 + len - front_len k at)) (whole_segment 0 scanned at marker len k) (λ e. refl) (λ e. refl)

pub named_untrimmed : (b : Bool) (k : Kind) → trims k ≡ false → trims (cond b k kind.Unknown) ≡ false
named_untrimmed true k e = e
named_untrimmed false k e = refl

pub app1_untrimmed : (a b c : Bool) → trims (cond a kind.Exif (cond b kind.Xmp (cond c kind.ExtendedXmp kind.Unknown))) ≡ false
app1_untrimmed true b c = refl
app1_untrimmed false true c = refl
app1_untrimmed false false true = refl
app1_untrimmed false false false = refl

pub app2_untrimmed : (a b : Bool) → trims (cond a kind.IccProfile (cond b kind.MultiPicture kind.Unknown)) ≡ false
app2_untrimmed true b = refl
app2_untrimmed false true = refl
app2_untrimmed false false = refl

-- a kind of which nothing is trimmed, or a plain marker
abbrev pub Untrimmed : ℕ → Kind → Type 0
Untrimmed marker k = (trims k ≡ false) ⊎ IsPlain marker

app_untrimmed : (marker : ℕ) (content : List ℕ) → Untrimmed marker (app_kind marker content)
app_untrimmed marker content =
    chosen (Untrimmed marker) (eqb marker 224) (app0_kind content) _ (λ e. inr (subst IsPlain (sym (eqb-true marker 224 e)) app0_plain))
    (λ e. chosen (Untrimmed marker) (eqb marker 225) (app1_kind content) _ (λ e. inl (app1_untrimmed _ _ _))
    (λ e. chosen (Untrimmed marker) (eqb marker 226) (app2_kind content) _ (λ e. inl (app2_untrimmed _ _))
    (λ e. chosen (Untrimmed marker) (eqb marker 235) (named (codes "JP") kind.ContentCredentials content) _ (λ e. inl (named_untrimmed _ kind.ContentCredentials refl))
    (λ e. chosen (Untrimmed marker) (eqb marker 237) (named (codes "Photoshop 3.0\0") kind.Photoshop content) _ (λ e. inl (named_untrimmed _ kind.Photoshop refl))
    (λ e. chosen (Untrimmed marker) (eqb marker 238) (named (codes "Adobe") kind.Adobe content) kind.Unknown (λ e. inr (subst IsPlain (sym (eqb-true marker 238 e)) app14_plain)) (λ e. inl refl))))))

pub segment_untrimmed : (marker : ℕ) (content : List ℕ) → Untrimmed marker (segment_kind marker content)
segment_untrimmed marker content =
    chosen (Untrimmed marker) ((leb 192 marker && leb marker 223) || (leb 240 marker && leb marker 248)) kind.Picture _ (λ e. inl refl)
    (λ e. chosen (Untrimmed marker) (leb 224 marker && leb marker 239) (app_kind marker content) _ (λ e. app_untrimmed marker content)
    (λ e. chosen (Untrimmed marker) (eqb marker 254) kind.Comment kind.Unknown (λ e. inl refl) (λ e. inl refl)))

not_exif : (b : Bool) (remove : Remove) (k : Kind) (marker : Option ℕ) → stays remove (cond b kind.Exif k) marker ≡ true → b ≡ false
not_exif true Exif k marker e = absurd (cc)
not_exif true Metadata k marker e = absurd (cc)
not_exif false remove k marker e = refl

segment_described : (marker : ℕ) (content body : List ℕ) → stands_alone marker ≡ false → content ≡ drop 2 body → Describes (segment_kind marker content) marker body
segment_described marker content body sized c = record {
  trims = elim (segment_untrimmed marker content) [
    | inl e ↦ inl (untrimmed (segment_kind marker content) e)
    | inr plain ↦ inr plain
  ];
  no_exif = λ remove s e. ap begins_exif (sym c) ∙ not_exif (begins_exif content) remove (xmp_kind content) (Some marker) (sym (ap (λ n. stays remove (segment_kind n content) (Some marker)) (eqb-true marker 225 e)) ∙ s);
  last = λ e. absurd (let no : true ≡ false = sym (ap stands_alone (eqb-true marker 217 e)) ∙ sized in cc);
}

alone_classified : (scanned : Bool) (bytes : List ℕ) → 0 < length bytes → IsMarked true bytes
    → Classified (marker_piece 0 scanned (fill_len bytes) (marker_at bytes)) (take (full_len (marker_piece 0 scanned (fill_len bytes) (marker_at bytes))) bytes)
alone_classified scanned bytes h m =
    inr (inr (record { n = fill_len bytes; marker = marker_at bytes; body = []; is = alone_segment bytes h m _ (alone_len scanned (fill_len bytes) (marker_at bytes)); described = alone_described scanned (marker_at bytes) m.is }))

sized_classified : (scanned : Bool) (bytes : List ℕ) → 0 < length bytes → IsSized bytes → Classified (sized_piece scanned bytes) (take (full_len (sized_piece scanned bytes)) bytes)
sized_classified scanned bytes h s =
    inr (inr (record {
      n = fill_len bytes;
      marker = marker_at bytes;
      body = take (given_len (fill_len bytes) bytes) (drop (suc (fill_len bytes)) bytes);
      is = sized_segment bytes h s (full_len (sized_piece scanned bytes)) (segment_len scanned (fill_len bytes) (marker_at bytes) (given_len (fill_len bytes) bytes) (segment_kind (marker_at bytes) (content_at bytes)));
      described = subst (λ (k : Kind). Describes k (marker_at bytes) (take (given_len (fill_len bytes) bytes) (drop (suc (fill_len bytes)) bytes)))
          (sym (kind_kept scanned (fill_len bytes) (marker_at bytes) (given_len (fill_len bytes) bytes) (segment_kind (marker_at bytes) (content_at bytes))))
          (segment_described (marker_at bytes) (content_at bytes) (take (given_len (fill_len bytes) bytes) (drop (suc (fill_len bytes)) bytes)) s.marked.is (content_is bytes s));
    }))

pub classified : (scanned : Bool) (bytes : List ℕ) → 0 < length bytes → Classified (stream_piece 0 scanned bytes) (take (full_len (stream_piece 0 scanned bytes)) bytes)
classified scanned bytes h =
    by_piece (λ (p : Piece). Classified p (take (full_len p) bytes)) scanned bytes (λ e. free_classified scanned bytes) (inl refl)
    (λ m. alone_classified scanned bytes h m) (λ s. sized_classified scanned bytes h s)

-- ---- the marker of a piece

fill_outside : (span : List ℕ) → All (λ b. b ≢ 255) span → fill_len span ≡ 0
fill_outside [] a = refl
fill_outside (b ∷ span) a = ap (λ t. cond t (suc (fill_len span)) 0) (ne_eqb b 255 (All-head (λ b. b ≢ 255) b span a))

-- outside of segments there is none
pub marker_outside : (span : List ℕ) → All (λ b. b ≢ 255) span → marker_of span ≡ None
marker_outside span a = ap (λ n. cond (eqb n 0 || eqb n (length span)) None (Some (slice_index span n))) (fill_outside span a)

not_zero : (n : ℕ) → 0 < n → eqb n 0 ≡ false
not_zero n h = grind (arith, nat_tests)

pub not_same : (n m : ℕ) → n < m → eqb n m ≡ false
not_same n m h = grind (arith, nat_tests)

-- the marker of a marker segment
pub marker_is : (span : List ℕ) (n marker : ℕ) (body : List ℕ) → IsMarkerSegment span n marker body → marker_of span ≡ Some marker
marker_is span n marker body u =
    let whole : List ℕ = replicate n 255 ++ (marker ∷ body) in
    ap (λ t. marker_of t) u.bytes_are
    ∙ ap (λ m. cond (eqb m 0 || eqb m (length whole)) None (Some (slice_index whole m))) (fill_filled n marker body u.no_ff)
    ∙ ap (λ b. cond (b || eqb n (length whole)) None (Some (slice_index whole n))) (not_zero n u.some)
    ∙ ap (λ b. cond b None (Some (slice_index whole n))) (not_same n (length whole) (length_filled n marker body))
    ∙ ap (λ c. Some c) (index_filled n marker body)

-- and its body
pub body_is : (span : List ℕ) (n marker : ℕ) (body : List ℕ) → IsMarkerSegment span n marker body → body_of span ≡ body
body_is span n marker body u =
    ap (λ t. body_of t) u.bytes_are
    ∙ ap (λ m. drop (m + 1) (replicate n 255 ++ (marker ∷ body))) (fill_filled n marker body u.no_ff)
    ∙ drop_filled n marker body

pub prefix_is : (span : List ℕ) (n marker : ℕ) (body : List ℕ) → IsMarkerSegment span n marker body → prefix_of span ≡ replicate n 255 ++ (marker ∷ [])
prefix_is span n marker body u =
    ap (λ t. prefix_of t) u.bytes_are
    ∙ ap (λ m. take (m + 1) (replicate n 255 ++ (marker ∷ body))) (fill_filled n marker body u.no_ff)
    ∙ prefix_filled n marker body

-- ---- what the reader skips

-- the reader skips bytes
abbrev pub IsSilent : List ℕ → Type 0
IsSilent span = (ys : List ℕ) → answer_from (span ++ ys) ≡ answer_from ys

pub nothing_silent : IsSilent []
nothing_silent ys = refl

-- bytes outside of segments
pub outside_silent : (span : List ℕ) → All (λ b. b ≢ 255) span → IsSilent span
outside_silent span a ys =
    answer-first_unit (span ++ ys)
    ∙ ap (λ t. first_answer (with_units (unit_from_code (after_marks t)) units_of)) (from_mark-others span ys a)
    ∙ sym (answer-first_unit ys)

pub passed : (s e a l x : Bool) (o : Option Answer) → s ≡ false → e ≡ false → (a ≡ false → l ≡ false) → (a ≡ false → x ≡ true → o ≡ None)
    → cond s (Some (refused unexpected_soi)) (cond e (Some (refused no_exif_in_jpeg)) (cond a None (cond l (Some (refused invalid_length)) (cond x o None)))) ≡ None
passed true e a l x o p q r f = absurd (cc)
passed false true a l x o p q r f = absurd (cc)
passed false false true l x o p q r f = refl
passed false false false true x o p q r f = absurd (let no : true ≡ false = r refl in cc)
passed false false false false true o p q r f = f refl refl
passed false false false false false o p q r f = refl

-- a segment of such a marker whose length counts itself
pub plain_silent : (span : List ℕ) (n marker : ℕ) (body : List ℕ) → IsPlain marker → IsMarkerSegment span n marker body → ltb (two_bytes body) 2 ≡ false → IsSilent span
plain_silent span n marker body c u e ys =
    answer_segment span n marker body ys u
    ∙ ap (λ o. unwrap_or o (answer_from ys))
    (passed (eqb marker 216) (eqb marker 217) (stands_alone marker) (ltb (two_bytes body) 2) (eqb marker 225) (option_map (λ p. found p ys) (exif_payload (drop 2 body))) c.soi c.eoi (λ a. e)
    (λ a x. absurd (let no : true ≡ false = sym x ∙ c.app1 in cc)))

-- one with other content of this length
fields_silent : (span : List ℕ) (n marker low : ℕ) (body content : List ℕ) → IsPlain marker → IsMarkerSegment span n marker body → low < 256 → 2 ≤ low → length content ≡ low - 2
    → IsSilent (prefix_of span ++ (0 ∷ low ∷ [] ++ content))
fields_silent span n marker low body content c u most least len =
    plain_silent (prefix_of span ++ (0 ∷ low ∷ [] ++ content)) n marker (0 ∷ low ∷ content) c unit large
  where
    large : ltb (two_bytes (0 ∷ low ∷ content)) 2 ≡ false
    large = grind (arith, nat_tests)

    counted : max 2 (256 * 0 + low) ≡ 2 + length content
    counted = omega (arith, len)

    unit : IsMarkerSegment (prefix_of span ++ (0 ∷ low ∷ [] ++ content)) n marker (0 ∷ low ∷ content)
    unit = record {
      some = u.some;
      no_ff = u.no_ff;
      bytes_are = ap (λ t. t ++ (0 ∷ low ∷ content)) (prefix_is span n marker body u) ∙ append_assoc (replicate n 255) (marker ∷ []) (0 ∷ low ∷ content);
      brings = λ ys. unit-segment marker 0 low content ys c.sized counted;
    }

pub chosen_silent : (b : Bool) (x y : List ℕ) → (b ≡ true → IsSilent x) → (b ≡ false → IsSilent y) → IsSilent (cond b x y)
chosen_silent true x y f g = f refl
chosen_silent false x y f g = g refl

twelve : (bytes : List ℕ) → 14 ≤ length bytes → length (take 12 (drop 2 bytes)) ≡ 12
twelve [] h = absurd (omega arith)
twelve (a ∷ []) h = absurd (omega arith)
twelve (a ∷ b ∷ bytes) h = length-take-le 12 bytes (omega arith)

jfif_silent : (span : List ℕ) (n marker : ℕ) (body : List ℕ) → IsPlain marker → IsMarkerSegment span n marker body → IsSilent span → IsSilent (jfif_fields span)
jfif_silent span n marker body c u h =
    chosen_silent (ltb (length (body_of span)) 16) span (prefix_of span ++ (0 ∷ 16 ∷ [] ++ (take 12 (drop 2 (body_of span)) ++ 0 ∷ 0 ∷ []))) (λ e. h)
    (λ e. fields_silent span n marker 16 body (take 12 (drop 2 (body_of span)) ++ 0 ∷ 0 ∷ []) c u (omega arith) (omega arith) (len e))
  where
    len : ltb (length (body_of span)) 16 ≡ false → length (take 12 (drop 2 (body_of span)) ++ 0 ∷ 0 ∷ []) ≡ 16 - 2
    len e =
        let long : 16 ≤ length (body_of span) = grind (arith, nat_tests) in
        let t = twelve (body_of span) (omega arith) in
        let both = length-append (take 12 (drop 2 (body_of span))) (0 ∷ 0 ∷ []) in
        omega (arith, t, both)

adobe_silent : (span : List ℕ) (n marker : ℕ) (body : List ℕ) → IsPlain marker → IsMarkerSegment span n marker body → IsSilent span → IsSilent (adobe_fields span)
adobe_silent span n marker body c u h =
    chosen_silent (ltb (length (body_of span)) 14) span (prefix_of span ++ (0 ∷ 14 ∷ [] ++ take 12 (drop 2 (body_of span)))) (λ e. h)
    (λ e. fields_silent span n marker 14 body (take 12 (drop 2 (body_of span))) c u (omega arith) (omega arith) (len e))
  where
    len : ltb (length (body_of span)) 14 ≡ false → length (take 12 (drop 2 (body_of span))) ≡ 14 - 2
    len e =
        let long : 14 ≤ length (body_of span) = grind (arith, nat_tests) in
        let t = twelve (body_of span) long in
        omega (arith, t)

pub trimmed_silent : (remove : Remove) (k : Kind) (span : List ℕ) (n marker : ℕ) (body : List ℕ) → IsPlain marker → IsMarkerSegment span n marker body → IsSilent span → IsSilent (trimmed remove k span)
trimmed_silent Exif k span n marker body c u h = h
trimmed_silent Metadata kind.Jfif span n marker body c u h = jfif_silent span n marker body c u h
trimmed_silent Metadata kind.Adobe span n marker body c u h = adobe_silent span n marker body c u h
trimmed_silent Metadata kind.Picture span n marker body c u h = h
trimmed_silent Metadata kind.JfifThumbnail span n marker body c u h = h
trimmed_silent Metadata kind.Exif span n marker body c u h = h
trimmed_silent Metadata kind.Xmp span n marker body c u h = h
trimmed_silent Metadata kind.ExtendedXmp span n marker body c u h = h
trimmed_silent Metadata kind.Photoshop span n marker body c u h = h
trimmed_silent Metadata kind.PhotoshopExif span n marker body c u h = h
trimmed_silent Metadata kind.PhotoshopXmp span n marker body c u h = h
trimmed_silent Metadata kind.PhotoshopOther span n marker body c u h = h
trimmed_silent Metadata kind.Iptc span n marker body c u h = h
trimmed_silent Metadata kind.Comment span n marker body c u h = h
trimmed_silent Metadata kind.IccProfile span n marker body c u h = h
trimmed_silent Metadata kind.MultiPicture span n marker body c u h = h
trimmed_silent Metadata kind.ContentCredentials span n marker body c u h = h
trimmed_silent Metadata kind.Trailer span n marker body c u h = h
trimmed_silent Metadata kind.Unknown span n marker body c u h = h
trimmed_silent Metadata kind.Broken span n marker body c u h = h

-- what stays of a segment of such a marker
pub plain_kept : (remove : Remove) (k : Kind) (span : List ℕ) (n marker : ℕ) (body : List ℕ) → IsPlain marker → IsMarkerSegment span n marker body → ltb (two_bytes body) 2 ≡ false → IsSilent (kept remove k span)
plain_kept remove k span n marker body c u e =
    chosen_silent (stays remove k (marker_of span)) (trimmed remove k span) [] (λ s. trimmed_silent remove k span n marker body c u (plain_silent span n marker body c u e)) (λ s. nothing_silent)

-- what stays of bytes outside of segments
pub outside_kept : (remove : Remove) (k : Kind) (span : List ℕ) → IsOutside k span → IsSilent (kept remove k span)
outside_kept remove k span o =
    chosen_silent (stays remove k (marker_of span)) (trimmed remove k span) [] (λ s. subst (λ (t : List ℕ). IsSilent t) (sym (o.untrimmed remove)) (outside_silent span o.all)) (λ s. nothing_silent)
