-- The chunks of the picture in a frame are read back from their bytes.
use Rattle.std.proofs.Common.{◌≡◌, ◌<◌, ◌≤◌, ◌+◌, ◌-◌, ◌%◌, ℕ, zero, suc, Bool, true, false, cond, eqb, ltb, ◌||◌, List, [], ◌∷◌, ◌++◌, length, take, drop, None, min, refl, ap, sym, ◌∙◌, arith, append_assoc, append-nil, length-append, length-drop}
use Rattle.std.proofs.lemmas.Bool.{le-ltb, eqb-true, eqb-false, ne_eqb}
use Rattle.std.proofs.lemmas.Bool.Decides.{nat_tests}
use Rattle.std.proofs.lemmas.List.{drop_at, length-take-le}
use Rattle.exif_inventory.specs.WebpPieces.{chunk_piece, frame_chunk, frame_given, frame_kind, frame_piece, frame_rest, number_at}
use Rattle.exif_inventory.specs.declared.piece.Piece.{Piece}
use Rattle.exif_segments.specs.declared.remove.Remove.TheVariants.{Metadata}
use Rattle.exif_parts.specs.Kept.{stays}
use Rattle.exif_parts.specs.WebpChunks.{chunk_bytes, frame_chunks, frame_kept, frame_within, payload_in}
use Rattle.exif_parts.proofs.WebpReads.{chosen, is_read, padded_is, payload_back, text_len}

-- ---- one piece

frame_step : (n : ℕ) (bytes : List ℕ) → 0 < length bytes
    → frame_within (suc n) bytes ≡ frame_kept (frame_piece (length bytes) 0 bytes).kind bytes ++ frame_within n (drop (frame_piece (length bytes) 0 bytes).len bytes)
unfolding frame_within
frame_step n [] some = absurd (omega arith)
frame_step n (b ∷ bytes) some = refl

-- what stays so far, and of what is left, is what stays of all
pub record FrameRuns (answer bytes out : List ℕ) : Type 0 where
  pub n : ℕ
  pub enough : length bytes ≤ n
  pub same : out ++ frame_within n bytes ≡ answer

frame_begun : (n : ℕ) (bytes out answer : List ℕ) → 0 < length bytes → length bytes ≤ n → out ++ frame_within n bytes ≡ answer
    → (m : ℕ) × (length bytes ≤ suc m) × (out ++ (frame_kept (frame_piece (length bytes) 0 bytes).kind bytes ++ frame_within m (drop (frame_piece (length bytes) 0 bytes).len bytes)) ≡ answer)
frame_begun zero bytes out answer some h e = absurd (omega arith)
frame_begun (suc n) bytes out answer some h e = (n, h, ap (λ (l : List ℕ). out ++ l) (sym (frame_step n bytes some)) ∙ e)

pub frame_more : (answer bytes out : List ℕ) (piece : Piece) (rest out' : List ℕ) → FrameRuns answer bytes out → 0 < length bytes → piece ≡ frame_piece (length bytes) 0 bytes → 0 < piece.len
    → rest ≡ drop piece.len bytes → out' ≡ out ++ frame_kept piece.kind bytes → FrameRuns answer rest out'
frame_more answer bytes out piece rest out' r some p len d o =
    let b = frame_begun r.n bytes out answer some r.enough r.same in
    let left : length (drop piece.len bytes) ≡ length bytes - piece.len = length-drop piece.len bytes in
    let rest_len : length rest ≡ length (drop piece.len bytes) = ap (λ (l : List ℕ). length l) d in
    let m : ℕ = b.0 in
    let h : length bytes ≤ suc m = b.1 in record {
      n = m;
      enough = omega arith;
      same = ap (λ (l : List ℕ). l ++ frame_within m rest) o
          ∙ append_assoc out (frame_kept piece.kind bytes) (frame_within m rest)
          ∙ ap (λ (l : List ℕ). out ++ (frame_kept piece.kind bytes ++ frame_within m l)) d
          ∙ ap (λ (q : Piece). out ++ (frame_kept q.kind bytes ++ frame_within m (drop q.len bytes))) p
          ∙ b.2;
    }

pub frame_over : (answer bytes out : List ℕ) → FrameRuns answer bytes out → length bytes ≡ 0 → out ≡ answer
unfolding frame_within
frame_over answer [] out r none = by r.n r.same
  where
    by : (n : ℕ) → out ++ frame_within n [] ≡ answer → out ≡ answer
    by zero e = sym (append-nil out) ∙ e
    by (suc n) e = sym (append-nil out) ∙ e
frame_over answer (b ∷ bytes) out r none = absurd (omega arith)

piece_back : (bytes : List ℕ) (size : ℕ) → number_at 4 bytes ≡ size → 8 + size ≤ length bytes → frame_piece (length bytes) 0 bytes ≡ frame_chunk (length bytes) 0 bytes size
unfolding frame_piece
piece_back bytes size e long =
    let all : ℕ = length bytes in
    ap (λ t. cond t (chunk_piece 0 bytes) (cond (ltb all 8 || ltb all 8) (frame_rest all 0 bytes) (frame_given all 0 bytes (number_at 4 bytes)))) (ne_eqb all 0 (λ z. omega (arith, z, long)))
    ∙ ap (λ t. cond (t || t) (frame_rest all 0 bytes) (frame_given all 0 bytes (number_at 4 bytes))) (le-ltb all 8 (omega (arith, long)))
    ∙ ap (frame_given all 0 bytes) e
    ∙ ap (λ t. cond (t || t) (frame_rest all 0 bytes) (frame_chunk all 0 bytes size)) (le-ltb (all - 8) size (omega (arith, long)))

-- a piece that stays begins with a name of four bytes, that of a chunk of the picture
pub record IsChunk (bytes : List ℕ) : Type 0 where
  pub named : length (take 4 bytes) ≡ 4
  pub picture : stays Metadata (frame_kind (take 4 bytes)) None ≡ true

kept_is : (bytes : List ℕ) → 0 < length bytes → stays Metadata (frame_piece (length bytes) 0 bytes).kind None ≡ true → IsChunk bytes
unfolding frame_piece
kept_is bytes some =
    chosen Q (eqb all 0) _ _ (λ e h. let none = eqb-true all 0 e in absurd (omega arith))
    (λ e. chosen Q (ltb all 8 || ltb all 8) _ _ (λ a h. absurd (cc))
    (λ a. chosen Q (ltb (all - 8) (number_at 4 bytes) || ltb (all - 8) (number_at 4 bytes)) _ _ (λ b h. absurd (cc))
    (λ b h. record { named = length-take-le 4 bytes (long (ltb all 8) a refl); picture = h })))
  where
    all : ℕ
    all = length bytes

    Q : Piece → Type 0
    Q p = stays Metadata p.kind None ≡ true → IsChunk bytes

    long : (t : Bool) → (t || t) ≡ false → ltb (length bytes) 8 ≡ t → 4 ≤ length bytes
    long true e i = absurd (cc)
    long false e i = grind (arith, nat_tests)

-- ---- a chunk of the picture is read back

frame_on : (n : ℕ) (name payload rest : List ℕ) → length name ≡ 4 → length payload < 4294967296 → stays Metadata (frame_kind name) None ≡ true
    → frame_within (suc n) (chunk_bytes name payload ++ rest) ≡ chunk_bytes name payload ++ frame_within n rest
frame_on n name payload rest four small kept =
    let bytes : List ℕ = chunk_bytes name payload ++ rest in
    let r = is_read name payload rest four small in
    let len = text_len name payload four in
    let all : length bytes ≡ length (chunk_bytes name payload) + length rest = length-append (chunk_bytes name payload) rest in
    let pad = padded_is (length payload) (length bytes - 8) (omega arith) in
    let piece = piece_back bytes (length payload) r.size_is (omega arith) in
    let long : (frame_chunk (length bytes) 0 bytes (length payload)).len ≡ length (chunk_bytes name payload) = ap (λ k. min (8 + k) (length bytes)) pad ∙ omega arith in
    frame_step n bytes (omega arith)
    ∙ ap (λ (p : Piece). frame_kept p.kind bytes ++ frame_within n (drop p.len bytes)) piece
    ∙ ap (λ k. frame_kept (frame_kind (take 4 bytes)) bytes ++ frame_within n (drop k bytes)) long
    ∙ ap (λ (l : List ℕ). frame_kept (frame_kind (take 4 bytes)) bytes ++ frame_within n l) (drop_at (chunk_bytes name payload) rest (length (chunk_bytes name payload)) refl)
    ∙ ap (λ (m : List ℕ). cond (stays Metadata (frame_kind m) None) (chunk_bytes m (payload_in bytes)) [] ++ frame_within n rest) r.name_is
    ∙ ap (λ t. cond t (chunk_bytes name (payload_in bytes)) [] ++ frame_within n rest) kept
    ∙ ap (λ (p : List ℕ). chunk_bytes name p ++ frame_within n rest) (payload_back name payload rest four small)

-- what stays of a frame is an even number of bytes
text_even : (name payload : List ℕ) → length name ≡ 4 → length (chunk_bytes name payload) % 2 ≡ 0
text_even name payload e = let len = text_len name payload e in by (eqb (length payload % 2) 1) refl len
  where
    pads : Bool → List ℕ
    pads t = cond t (0 ∷ []) []

    by : (t : Bool) → eqb (length payload % 2) 1 ≡ t → length (chunk_bytes name payload) ≡ 8 + (length payload + length (pads t)) → length (chunk_bytes name payload) % 2 ≡ 0
    by true is len = let k = eqb-true (length payload % 2) 1 is in omega (arith, k, len)
    by false is len = let k = eqb-false (length payload % 2) 1 is in omega (arith, k, len)

pub frame_even : (n : ℕ) (bytes : List ℕ) → length (frame_within n bytes) % 2 ≡ 0
unfolding frame_within
frame_even zero [] = omega arith
frame_even zero (b ∷ bytes) = omega arith
frame_even (suc n) [] = omega arith
frame_even (suc n) (b ∷ bytes) = by (stays Metadata piece.kind None) refl (frame_even n rest)
  where
    all : List ℕ
    all = b ∷ bytes

    piece : Piece
    piece = frame_piece (length (b ∷ bytes)) 0 (b ∷ bytes)

    rest : List ℕ
    rest = drop piece.len (b ∷ bytes)

    by : (t : Bool) → stays Metadata piece.kind None ≡ t → length (frame_within n rest) % 2 ≡ 0
        → length (cond t (chunk_bytes (take 4 all) (payload_in all)) [] ++ frame_within n rest) % 2 ≡ 0
    by true is ih =
        let k = kept_is all (omega arith) is in
        let a = text_even (take 4 all) (payload_in all) k.named in
        let b = length-append (chunk_bytes (take 4 all) (payload_in all)) (frame_within n rest) in
        omega (arith, a, b, ih)
    by false is ih = ih

-- and it is what stays of itself
fixed : (n m : ℕ) (bytes : List ℕ) → length (frame_within n bytes) ≤ m → length (frame_within n bytes) < 4294967296 → frame_within m (frame_within n bytes) ≡ frame_within n bytes
unfolding frame_within
fixed zero zero [] h small = refl
fixed zero (suc m) [] h small = refl
fixed zero zero (b ∷ bytes) h small = refl
fixed zero (suc m) (b ∷ bytes) h small = refl
fixed (suc n) zero [] h small = refl
fixed (suc n) (suc m) [] h small = refl
fixed (suc n) m (b ∷ bytes) h small = by (stays Metadata piece.kind None) refl m h small (λ m h small. fixed n m rest h small)
  where
    all : List ℕ
    all = b ∷ bytes

    piece : Piece
    piece = frame_piece (length (b ∷ bytes)) 0 (b ∷ bytes)

    rest : List ℕ
    rest = drop piece.len (b ∷ bytes)

    text : List ℕ
    text = chunk_bytes (take 4 all) (payload_in all)

    by : (t : Bool) → stays Metadata piece.kind None ≡ t → (m : ℕ) → length (cond t text [] ++ frame_within n rest) ≤ m → length (cond t text [] ++ frame_within n rest) < 4294967296
        → ((m : ℕ) → length (frame_within n rest) ≤ m → length (frame_within n rest) < 4294967296 → frame_within m (frame_within n rest) ≡ frame_within n rest)
        → frame_within m (cond t text [] ++ frame_within n rest) ≡ cond t text [] ++ frame_within n rest
    by false is m h small ih = ih m h small
    by true is zero h small ih =
        let k = kept_is all (omega arith) is in
        let a = text_len (take 4 all) (payload_in all) k.named in
        let b = length-append text (frame_within n rest) in
        absurd (omega (arith, a, b, h))
    by true is (suc m) h small ih =
        let k = kept_is all (omega arith) is in
        let a = text_len (take 4 all) (payload_in all) k.named in
        let b = length-append text (frame_within n rest) in
        frame_on m (take 4 all) (payload_in all) (frame_within n rest) k.named (omega (arith, a, b, small)) k.picture
        ∙ ap (λ (l : List ℕ). text ++ l) (ih m (omega (arith, a, b, h)) (omega (arith, a, b, small)))

-- what stays of the chunks of a frame stays
pub frame_again : (bytes : List ℕ) → length (frame_chunks bytes) < 4294967296 → frame_chunks (frame_chunks bytes) ≡ frame_chunks bytes
frame_again bytes small = fixed (length bytes) (length (frame_chunks bytes)) bytes (omega arith) small
