-- WebP files that are written again: their refusals.
use Rattle.std.proofs.Common.{◌≡◌, ℕ, zero, suc, ◌-◌, not, Bool, true, false, cond, eqb, leb, ltb, List, [], ◌∷◌, ◌++◌, length, drop, Option, None, Some, IfErr, IfSome, MatchOption, Result, Ok, Err, refl, arith}
use Rattle.std.specs.List.{Contains}
use Rattle.std.specs.Str.{bytes_eq}
use Rattle.exif_types.specs.Failures.{Failure}
use Rattle.exif_types.specs.Refusals.{Refusal, refusal_of, IsInterrupted, Fails, Gives, ◌>>=◌}
use Rattle.exif_inventory.specs.WebpPieces.{chunk_piece, is_webp, number_at}
use Rattle.exif_segments.specs.Answer.{IsNamed}
use Rattle.exif_segments.specs.Removing.{too_large}
use Rattle.exif_segments.specs.Webp.{broken_webp, invalid_file_size, not_webp, overflowing}
use Rattle.exif_segments.specs.declared.remove.Remove.{Remove}
use Rattle.exif_parts.specs.Webp.{canvas_where, file_of, filtered, image_canvas, is_put, kept_chunk, new_chunks, no_canvas, or_none, webp_rewritten}
use Rattle.exif_parts.specs.WebpChunks.{body_space, cut_refusal, is_cut, name_in, space_behind, whole_chunk}
use Rattle.exif_rewrite.specs.RewrittenWebp.{webp_rewriting_refusals}
use Rattle.exif_rewrite.proofs.SendingFiles.{when_read}

abbrev Named : {X : Type 0} → Result X Refusal → Type 0
Named x = (r : Refusal) → x ≡ Err r → Contains webp_rewriting_refusals r

named_then : {X Y : Type 0} (x : Result X Refusal) (f : X → Result Y Refusal) → Named x → ((v : X) → Named (f v)) → Named (x >>= f)
named_then (Err e) f h k r is =
    let same : e ≡ r = cc in
    rw same at (h e refl)
named_then (Ok v) f h k r is = k v r is

refused_named : {X : Type 0} (e : Refusal) → Contains webp_rewriting_refusals e → let x : Result X Refusal = Err e in Named x
refused_named e h r is =
    let same : e ≡ r = cc in
    rw same at h

ok_named : {X : Type 0} (v : X) → let x : Result X Refusal = Ok v in Named x
ok_named v r is = absurd (cc)

cond_named : {X : Type 0} (b : Bool) (x y : Result X Refusal) → Named x → Named y → Named (cond b x y)
cond_named true x y h k = h
cond_named false x y h k = k

-- a chunk that is not whole
cut_named : (b : Bool) → Contains webp_rewriting_refusals (cond b overflowing broken_webp)
cut_named true = (3, omega arith, refl)
cut_named false = (0, omega arith, refl)

chunk_named : (space : ℕ) (bytes : List ℕ) → Named (whole_chunk space bytes)
chunk_named space bytes = cond_named (is_cut space (chunk_piece space bytes) bytes) _ _ (refused_named (cut_refusal space bytes) (cut_named _)) (ok_named _)

body_named : (n : ℕ) (remove : Remove) (put : Bool) (space : ℕ) (bytes out : List ℕ) → Named (filtered n remove put space bytes out)
unfolding filtered
body_named zero remove put space bytes out = ok_named _
body_named (suc n) remove put space bytes out =
    cond_named (eqb space 0) _ _ (ok_named _)
    (named_then (whole_chunk space bytes) _ (chunk_named space bytes)
    (λ piece. body_named n remove put (space_behind piece.next) (drop (space - space_behind piece.next) bytes) (out ++ kept_chunk remove put piece bytes)))

header_named : (file : List ℕ) → Named (body_space file)
header_named file =
    cond_named (ltb (length file) 12) _ _ (refused_named broken_webp (0, omega arith, refl))
    (cond_named (not (is_webp file)) _ _ (refused_named not_webp (1, omega arith, refl))
    (cond_named (ltb (number_at 4 file) 4) _ _ (refused_named invalid_file_size (2, omega arith, refl)) (ok_named _)))

canvas_named : (put : Option (List ℕ)) (chunks : List ℕ) → Named (canvas_where put chunks)
canvas_named None chunks = ok_named _
canvas_named (Some payload) chunks = cond_named (bytes_eq (name_in chunks) (86 ∷ 80 ∷ 56 ∷ 88 ∷ [])) _ _ (ok_named _) (either (image_canvas chunks))
  where
    either : (o : Option (List ℕ)) → Named (or_none o)
    either None = refused_named no_canvas (4, omega arith, refl)
    either (Some p) = ok_named _

file_named : (chunks : List ℕ) → Named (file_of chunks)
file_named chunks = cond_named (leb 4294967292 (length chunks)) _ _ (refused_named too_large (5, omega arith, refl)) (ok_named _)

all_named : (remove : Remove) (put : Option (List ℕ)) (file : List ℕ) → Named (webp_rewritten remove put file)
all_named remove put file =
    named_then (body_space file) _ (header_named file)
    (λ space. named_then (filtered space remove (is_put put) space (drop 12 file) []) _ (body_named space remove (is_put put) space (drop 12 file) [])
    (λ kept. named_then (canvas_where put kept.chunks) _ (canvas_named put kept.chunks)
    (λ made. named_then (file_of (new_chunks made kept.chunks put)) _ (file_named (new_chunks made kept.chunks put)) (λ text. ok_named _))))

-- an error of a file that is written again is one of the named refusals, or an interruption
pub gives_named : {X : Type 0} (view : X → List ℕ) (result : Result X Failure) (remove : Remove) (put : Option (List ℕ)) (file : List ℕ) → Gives view result (webp_rewritten remove put file)
    → IfErr result (IsNamed webp_rewriting_refusals)
gives_named view (Ok new) remove put file h = tt
gives_named view (Err e) remove put file h = by (refusal_of e) h
  where
    by : (o : Option Refusal) → MatchOption o (IsInterrupted e) (λ r. webp_rewritten remove put file ≡ Err r) → MatchOption o (IsInterrupted e) (Contains webp_rewriting_refusals)
    by None h = h
    by (Some r) h = all_named remove put file r h

-- and it is the error of what the source's bytes become, since those that were read are all of them
pub gives_refused : {X : Type 0} (view : X → List ℕ) (result : Result X Failure) (a : Option (List ℕ)) (bytes : List ℕ) (f : List ℕ → Result (List ℕ) Refusal) → IfSome a (λ xs. bytes ≡ xs)
    → Gives view result (f bytes) → IfErr result (λ e. IfSome a (λ xs. Fails e (f xs)))
gives_refused view (Ok new) a bytes f is h = tt
gives_refused view (Err e) a bytes f is h = when_read (λ xs. Fails e (f xs)) a bytes is h
