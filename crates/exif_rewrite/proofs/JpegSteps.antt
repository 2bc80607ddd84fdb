-- JPEG files that are written again: their refusals, and those that are whole.
use Rattle.std.proofs.Common.{◌≡◌, ℕ, zero, suc, ◌+◌, ◌&&◌, not, Bool, true, false, cond, eqb, ltb, List, [], ◌∷◌, length, take, drop, Option, None, Some, IfSome, IfErr, MatchOption, Result, Ok, Err, ◌∙◌, refl, ap, arith, codes}
use Rattle.std.specs.List.{Contains}
use Rattle.std.specs.Io.KnownBytes.{Appends}
use Rattle.exif_types.specs.Failures.{Failure}
use Rattle.exif_types.specs.Refusals.{Refusal, refusal_of, IsInterrupted, Fails, Gives, ◌>>=◌}
use Rattle.exif_inventory.specs.JpegPieces.{is_jpeg, stream_piece}
use Rattle.exif_inventory.specs.declared.piece.Piece.{Piece}
use Rattle.exif_segments.specs.Answer.{IsNamed}
use Rattle.exif_segments.specs.Jpeg.{broken_jpeg, invalid_length, not_jpeg, stands_alone, two_bytes, unexpected_soi}
use Rattle.exif_segments.specs.Removing.{too_large}
use Rattle.exif_segments.specs.declared.remove.Remove.{Remove}
use Rattle.exif_parts.specs.Jpeg.{Next, Rewriting, exif_segment, filtered, resources_len, rewritten, unless_flawed, with_len, with_piece, with_segment}
use Rattle.exif_parts.specs.Markers.{body_of, is_broken, is_end, marked_flaw, marker_of}
use Rattle.exif_parts.specs.Written.{Written, written_of}
use Rattle.exif_parts.specs.declared.rewritten.Ended.{Ended}
use Rattle.exif_parts.specs.declared.rewritten.Ended.TheVariants.{Whole, Cut}
use Rattle.exif_parts.specs.declared.rewritten.Rewritten.{Rewritten}
use Rattle.exif_rewrite.specs.RewrittenJpeg.{jpeg_rewriting_refusals, unless_cut}
use Rattle.exif_rewrite.proofs.SendingFiles.{then_known}

-- ---- all refusals are named

abbrev Named : {X : Type 0} → Result X Refusal → Type 0
Named x = (r : Refusal) → x ≡ Err r → Contains jpeg_rewriting_refusals r

refused_named : {X : Type 0} (e : Refusal) → Contains jpeg_rewriting_refusals e → let x : Result X Refusal = Err e in Named x
refused_named e h r is =
    let same : e ≡ r = cc in
    rw same at h

ok_named : {X : Type 0} (v : X) → let x : Result X Refusal = Ok v in Named x
ok_named v r is = absurd (cc)

cond_named : {X : Type 0} (b : Bool) (x y : Result X Refusal) → Named x → Named y → Named (cond b x y)
cond_named true x y h k = h
cond_named false x y h k = k

-- a piece is refused for the start of an image, or for its length
unflawed_named : (marker : Option ℕ) (body : List ℕ) (answer : Rewriting) → Named answer → Named (unless_flawed (marked_flaw marker body) answer)
unflawed_named None body answer h = h
unflawed_named (Some marker) body answer h = by (eqb marker 216) (not (stands_alone marker) && ltb (two_bytes body) 2)
  where
    by : (soi len : Bool) → Named (unless_flawed (cond soi (Some (codes "Unexpected SOI")) (cond len (Some (codes "Invalid segment length")) None)) answer)
    by true len = refused_named unexpected_soi (2, omega arith, refl)
    by false true = refused_named invalid_length (3, omega arith, refl)
    by false false = h

piece_named : (remove : Remove) (new out : List ℕ) (piece : Piece) (bytes rest : List ℕ) (next : Next)
    → ((scanned : Bool) (new stream out : List ℕ) → Named (next scanned new stream out)) → Named (with_piece remove new out piece bytes rest next)
piece_named remove new out piece bytes rest next h = cond_named (is_end (marker_of bytes)) _ _ (ok_named _) (h _ _ _ _)

len_named : (remove : Remove) (new stream out : List ℕ) (piece : Piece) (len : ℕ) (next : Next)
    → ((scanned : Bool) (new stream out : List ℕ) → Named (next scanned new stream out)) → Named (with_len remove new stream out piece len next)
len_named remove new stream out piece len next h =
    cond_named (is_broken piece.kind) _ _ (ok_named _)
    (unflawed_named (marker_of (take len stream)) (body_of (take len stream)) _ (piece_named remove new out piece (take len stream) (drop len stream) next h))

stream_named : (n : ℕ) (remove : Remove) (scanned : Bool) (new stream out : List ℕ) → Named (filtered n remove scanned new stream out)
unfolding filtered
stream_named zero remove scanned new [] out = ok_named _
stream_named (suc n) remove scanned new [] out = ok_named _
stream_named zero remove scanned new (b ∷ bytes) out = ok_named _
stream_named (suc n) remove scanned new (b ∷ bytes) out =
    let piece = stream_piece 0 scanned (b ∷ bytes) in
    len_named remove new (b ∷ bytes) out piece (piece.len + resources_len piece.next) (filtered n remove) (stream_named n remove)

segment_named : (remove : Remove) (file new : List ℕ) → Named (with_segment remove file new)
segment_named remove file new =
    cond_named (ltb (length file) 2) _ _ (refused_named broken_jpeg (0, omega arith, refl))
    (cond_named (is_jpeg file) _ _ (stream_named (length (drop 2 file)) remove false new (drop 2 file) (255 ∷ 216 ∷ [])) (refused_named not_jpeg (1, omega arith, refl)))

all_named : (remove : Remove) (put : Option (List ℕ)) (file : List ℕ) → Named (rewritten remove put file)
all_named remove None file = segment_named remove file []
all_named remove (Some payload) file = by (ltb 65527 (length payload))
  where
    by : (t : Bool) → Named (cond t (Err too_large) (Ok (exif_segment payload)) >>= λ new. with_segment remove file new)
    by true = refused_named too_large (4, omega arith, refl)
    by false = segment_named remove file (exif_segment payload)

-- an error of a file that is written again is one of the named refusals, or an interruption
pub gives_named : (result : Result Rewritten Failure) (remove : Remove) (put : Option (List ℕ)) (file : List ℕ) → Gives written_of result (rewritten remove put file) → IfErr result (IsNamed jpeg_rewriting_refusals)
gives_named (Ok new) remove put file h = tt
gives_named (Err e) remove put file h = by (refusal_of e) h
  where
    by : (o : Option Refusal) → MatchOption o (IsInterrupted e) (λ r. rewritten remove put file ≡ Err r) → MatchOption o (IsInterrupted e) (Contains jpeg_rewriting_refusals)
    by None h = h
    by (Some r) h = all_named remove put file r h

-- ---- files that are whole, and those that are cut off

-- a refusal of one step is the answer of all
then_fails : {X : Type 0} (e : Failure) (o : Rewriting) (f : Written → Result X Refusal) → Fails e o → Fails e (o >>= f)
then_fails {X = X} e o f = by (refusal_of e)
  where
    by : (r : Option Refusal) → MatchOption r (IsInterrupted e) (λ r. o ≡ Err r) → MatchOption r (IsInterrupted e) (λ r. (o >>= f) ≡ Err r)
    by None h = h
    by (Some r) h = ap (λ o. o >>= f) h

-- an error of the source's file is one of what is made of it
pub source_fails : {X : Type 0} (e : Failure) (a : Option (List ℕ)) (g : List ℕ → Rewriting) (f : Written → Result X Refusal) → IfSome a (λ xs. Fails e (g xs)) → IfSome a (λ xs. Fails e (g xs >>= f))
source_fails e a g f = then_known (λ xs. Fails e (g xs)) (λ xs. Fails e (g xs >>= f)) a (λ xs. then_fails e (g xs) f)

-- what the source's file becomes decides what is made of it
pub source_gives : {X : Type 0} (a : Option (List ℕ)) (g : List ℕ → Rewriting) (f : Written → Result X Refusal) (new : Written) (answer : Result X Refusal) → f new ≡ answer → IfSome a (λ xs. g xs ≡ Ok new) → IfSome a (λ xs. (g xs >>= f) ≡ answer)
source_gives a g f new answer is = then_known (λ xs. g xs ≡ Ok new) (λ xs. (g xs >>= f) ≡ answer) a (λ xs e. ap (λ o. o >>= f) e ∙ is)

-- a file that was sent as it stands is what the source's bytes become
pub standing_sent : (a p q : Option (List ℕ)) (text : List ℕ) (ended : Ended) (f : List ℕ → Rewriting) → IfSome a (λ xs. f xs ≡ Ok (record { bytes = text; ended = ended })) → Appends p q text
    → IfSome a (λ xs. (text : List ℕ) × (f xs ≡ Ok (record { bytes = text; ended = ended })) × Appends p q text)
standing_sent None p q text ended f is h = tt
standing_sent (Some xs) p q text ended f is h = (text, is, h)

-- a file that is not refused was whole
pub whole_made : (made : Rewriting) (out : List ℕ) → (made >>= λ new. unless_cut new.ended new.bytes) ≡ Ok out → made ≡ Ok (record { bytes = out; ended = Whole })
whole_made (Err r) out e = absurd (cc)
whole_made (Ok new) out e = by new.ended new.bytes e
  where
    by : (ended : Ended) (bytes : List ℕ) → unless_cut ended bytes ≡ Ok out → ◌≡◌ {A = Rewriting} (Ok (record { bytes = bytes; ended = ended })) (Ok (record { bytes = out; ended = Whole }))
    by Whole bytes e =
        let same : bytes ≡ out = cc in
        ap (λ (b : List ℕ). let made : Rewriting = Ok (record { bytes = b; ended = Whole }) in made) same
    by Cut bytes e = absurd (cc)
