-- The chunks of a WebP file: what a whole one is read as, and that one that was written is read back.
use Rattle.std.proofs.Common.{◌≡◌, ◌<◌, ◌≤◌, ◌+◌, ◌-◌, ◌%◌, ℕ, Bool, true, false, cond, eqb, ltb, leb, ◌&&◌, ◌||◌, List, [], ◌∷◌, ◌++◌, length, take, drop, codes, Ok, Err, refl, ap, sym, ◌∙◌, arith, append_assoc, length-append}
use Rattle.std.specs.Int.{from_le_bytes, to_le_bytes, w32}
use Rattle.std.specs.Str.{bytes_eq}
use Rattle.std.proofs.lemmas.Bool.{le-ltb, ne_eqb}
use Rattle.std.proofs.lemmas.Bool.Decides.{nat_tests}
use Rattle.std.proofs.lemmas.List.{take_at}
use Rattle.exif_types.specs.Refusals.{Refusal}
use Rattle.exif_inventory.specs.WebpPieces.{chunk_kind, chunk_piece, frame_front, given_chunk, kind_chunk, number_at, padded, rest_of, sized_chunk, taken_len}
use Rattle.exif_inventory.specs.declared.kind.Kind.TheVariants as kind
use Rattle.exif_inventory.specs.declared.piece.Piece.{Piece}
use Rattle.exif_inventory.specs.declared.piece.State.TheVariants.{Chunks}
use Rattle.exif_parts.specs.Markers.{is_broken}
use Rattle.exif_parts.specs.WebpChunks.{chunk_bytes, cut_refusal, is_cut, pad_of, payload_in, space_behind, whole_chunk}

-- either way, what holds where a test holds, or does not
pub chosen : {A : Type 0} (Q : A → Type 0) (b : Bool) (x y : A) → (b ≡ true → Q x) → (b ≡ false → Q y) → Q (cond b x y)
chosen Q true x y f g = f refl
chosen Q false x y f g = g refl

-- ---- a whole chunk by its name and its size

-- a frame, or another chunk
abbrev pub of_test : Bool → ℕ → List ℕ → ℕ → Piece
of_test t space bytes size =
    cond t (frame_front (padded size (space - 8) - 16) (space - 8 - padded size (space - 8)))
    (kind_chunk (chunk_kind (take 4 bytes)) size (taken_len space size bytes) (Chunks (space - 8 - padded size (space - 8))))

-- whether a chunk of this name and size is a frame
abbrev pub is_frame : List ℕ → ℕ → Bool
is_frame name size = bytes_eq name (codes "ANMF") && leb 16 size

unbroken : (name : List ℕ) → is_broken (chunk_kind name) ≡ false
unbroken name =
    chosen (λ k. is_broken k ≡ false) (bytes_eq name (codes "VP8 ") || bytes_eq name (codes "VP8L") || bytes_eq name (codes "VP8X") || bytes_eq name (codes "ALPH") || bytes_eq name (codes "ANIM")) _ _ (λ e. refl)
    (λ e. chosen (λ k. is_broken k ≡ false) (bytes_eq name (codes "ICCP")) _ _ (λ e. refl)
    (λ e. chosen (λ k. is_broken k ≡ false) (bytes_eq name (codes "EXIF")) _ _ (λ e. refl)
    (λ e. chosen (λ k. is_broken k ≡ false) (bytes_eq name (codes "XMP ")) _ _ (λ e. refl) (λ e. refl))))

test_unbroken : (t : Bool) (space : ℕ) (bytes : List ℕ) (size : ℕ) → is_broken (of_test t space bytes size).kind ≡ false
test_unbroken true space bytes size = refl
test_unbroken false space bytes size = unbroken (take 4 bytes)

-- the space behind it
pub test_behind : (t : Bool) (space : ℕ) (bytes : List ℕ) (size : ℕ) → space_behind (of_test t space bytes size).next ≡ space - 8 - padded size (space - 8)
test_behind true space bytes size = refl
test_behind false space bytes size = refl

-- ---- the first chunk, if it is whole

-- its name, its size and its payload fit
pub record IsSized (space : ℕ) (bytes : List ℕ) : Type 0 where
  pub space_is : 8 ≤ space
  pub long : 8 ≤ length bytes
  pub fits : number_at 4 bytes ≤ space - 8
  pub within : number_at 4 bytes ≤ length bytes - 8

by_chunk : (Q : Piece → Type 0) (space : ℕ) (bytes : List ℕ) → 0 < space → Q (rest_of kind.Broken bytes)
    → (IsSized space bytes → Q (sized_chunk space bytes (number_at 4 bytes))) → Q (chunk_piece space bytes)
unfolding chunk_piece
by_chunk Q space bytes some cut sized =
    chosen Q (eqb space 0) _ _ (λ e. let no : 0 ≡ space = grind (arith, nat_tests) in absurd (omega arith))
    (λ e. chosen Q (ltb space 8 || ltb (length bytes) 8) _ _ (λ a. cut)
    (λ a. chosen Q (ltb (space - 8) (number_at 4 bytes) || ltb (length bytes - 8) (number_at 4 bytes)) _ _ (λ b. cut)
    (λ b. sized (fits (ltb space 8) (ltb (length bytes) 8) (ltb (space - 8) (number_at 4 bytes)) (ltb (length bytes - 8) (number_at 4 bytes)) a b refl refl refl refl))))
  where
    fits : (p q r s : Bool) → (p || q) ≡ false → (r || s) ≡ false → ltb space 8 ≡ p → ltb (length bytes) 8 ≡ q → ltb (space - 8) (number_at 4 bytes) ≡ r → ltb (length bytes - 8) (number_at 4 bytes) ≡ s → IsSized space bytes
    fits true q r s a b i j k l = absurd (cc)
    fits false true r s a b i j k l = absurd (cc)
    fits false false true s a b i j k l = absurd (cc)
    fits false false false true a b i j k l = absurd (cc)
    fits false false false false a b i j k l = record {
      space_is = grind (arith, nat_tests, i);
      long = grind (arith, nat_tests, j);
      fits = grind (arith, nat_tests, k);
      within = grind (arith, nat_tests, l);
    }

-- and it is a frame or another chunk, which ends within the bytes
pub record IsWhole (space : ℕ) (bytes : List ℕ) (piece : Piece) : Type 0 where
  pub sized : IsSized space bytes
  pub piece_is : piece ≡ of_test (is_frame (take 4 bytes) (number_at 4 bytes)) space bytes (number_at 4 bytes)
  pub ends : 8 + padded (number_at 4 bytes) (space - 8) ≤ length bytes

answered : (t : Bool) (r : Refusal) (p piece : Piece) → cond t (Err r) (Ok p) ≡ Ok piece → (t ≡ false) × (p ≡ piece)
answered true r p piece e = absurd (cc)
answered false r p piece e = (refl, cc)

padded_least : (size space : ℕ) → size ≤ space → (size ≤ padded size space) × (padded size space ≤ space)
padded_least size space h = by (eqb (size % 2) 1) (ltb size space) refl
  where
    by : (t u : Bool) → ltb size space ≡ u → (size ≤ cond (t && u) (size + 1) size) × (cond (t && u) (size + 1) size ≤ space)
    by true true e = (omega arith, grind (arith, nat_tests))
    by true false e = (omega arith, h)
    by false u e = (omega arith, h)

pub whole_is : (space : ℕ) (bytes : List ℕ) (piece : Piece) → 0 < space → whole_chunk space bytes ≡ Ok piece → IsWhole space bytes piece
whole_is space bytes piece some =
    by_chunk (λ p. cond (is_cut space p bytes) (Err (cut_refusal space bytes)) (Ok p) ≡ Ok piece → IsWhole space bytes piece) space bytes some
    (λ e. absurd (cc))
    (λ s e. let a = answered (is_cut space (sized_chunk space bytes (number_at 4 bytes)) bytes) (cut_refusal space bytes) (sized_chunk space bytes (number_at 4 bytes)) piece e in
    record { sized = s; piece_is = sym a.1; ends = ends s (is_frame (take 4 bytes) (number_at 4 bytes)) a.0 })
  where
    second : (a b : Bool) → (a || b) ≡ false → b ≡ false
    second true b e = absurd (cc)
    second false b e = e

    ends : IsSized space bytes → (t : Bool) → is_cut space (of_test t space bytes (number_at 4 bytes)) bytes ≡ false → 8 + padded (number_at 4 bytes) (space - 8) ≤ length bytes
    ends s t e =
        let behind = test_behind t space bytes (number_at 4 bytes) in
        let no : ltb (length bytes) (space - space_behind (of_test t space bytes (number_at 4 bytes)).next) ≡ false = second (is_broken (of_test t space bytes (number_at 4 bytes)).kind) _ e in
        let within : space - space_behind (of_test t space bytes (number_at 4 bytes)).next ≤ length bytes = grind (arith, nat_tests) in
        let p = padded_least (number_at 4 bytes) (space - 8) s.fits in
        let q = p.1 in
        let r = s.space_is in
        omega arith

-- it is the piece of the inventory
pub chunk_of_whole : (space : ℕ) (bytes : List ℕ) (piece : Piece) → whole_chunk space bytes ≡ Ok piece → chunk_piece space bytes ≡ piece
chunk_of_whole space bytes piece e = (answered (is_cut space (chunk_piece space bytes) bytes) (cut_refusal space bytes) (chunk_piece space bytes) piece e).1

-- no bytes are no whole chunk
pub empty_cut : (space : ℕ) (bytes : List ℕ) → 0 < space → length bytes ≡ 0 → whole_chunk space bytes ≡ Err (cut_refusal space bytes)
empty_cut space bytes some none =
    by_chunk (λ p. cond (is_cut space p bytes) (Err (cut_refusal space bytes)) (Ok p) ≡ Err (cut_refusal space bytes)) space bytes some
    refl (λ s. let long = s.long in absurd (omega arith))

-- a whole chunk leaves less space
pub less_behind : (space : ℕ) (bytes : List ℕ) (piece : Piece) → 0 < space → whole_chunk space bytes ≡ Ok piece → space_behind piece.next < space
less_behind space bytes piece some e =
    let w = whole_is space bytes piece some e in
    let behind = test_behind (is_frame (take 4 bytes) (number_at 4 bytes)) space bytes (number_at 4 bytes) in
    let same : space_behind piece.next ≡ space - 8 - padded (number_at 4 bytes) (space - 8) = ap (λ (p : Piece). space_behind p.next) w.piece_is ∙ behind in
    let r = w.sized.space_is in
    omega arith

pub less_whole : (space : ℕ) (bytes : List ℕ) (piece : Piece) → 0 < space → piece ≡ chunk_piece space bytes → is_cut space piece bytes ≡ false → space_behind piece.next < space
less_whole space bytes piece some p e =
    less_behind space bytes piece some
    (ap (λ (q : Piece). cond (is_cut space q bytes) (Err (cut_refusal space bytes)) (Ok q)) (sym p) ∙ ap (λ t. cond t (Err (cut_refusal space bytes)) (Ok piece)) e)

-- ---- a chunk that was written

-- a number below 2^32, spelled in four bytes, is read back from them, whatever follows
pub spelled : (n : ℕ) (rest : List ℕ) → n < 4294967296 → from_le_bytes w32 (take 4 (to_le_bytes w32 n ++ rest)) ≡ n
spelled n rest h = omega arith

-- what its bytes begin with
pub record IsRead (name payload rest : List ℕ) : Type 0 where
  pub name_is : take 4 (chunk_bytes name payload ++ rest) ≡ name
  pub size_is : number_at 4 (chunk_bytes name payload ++ rest) ≡ length payload
  pub behind : drop 8 (chunk_bytes name payload ++ rest) ≡ payload ++ (pad_of (length payload) ++ rest)

pub is_read : (name payload rest : List ℕ) → length name ≡ 4 → length payload < 4294967296 → IsRead name payload rest
is_read [] payload rest n small = absurd (omega arith)
is_read (i ∷ []) payload rest n small = absurd (omega arith)
is_read (i ∷ j ∷ []) payload rest n small = absurd (omega arith)
is_read (i ∷ j ∷ k ∷ []) payload rest n small = absurd (omega arith)
is_read (i ∷ j ∷ k ∷ l ∷ []) payload rest n small = record {
  name_is = refl;
  size_is = spelled (length payload) ((payload ++ pad_of (length payload)) ++ rest) small;
  behind = append_assoc payload (pad_of (length payload)) rest;
}
is_read (i ∷ j ∷ k ∷ l ∷ m ∷ name) payload rest n small = absurd (omega arith)

-- a chunk with a name of four bytes takes eight bytes more than its payload and its pad
pub text_len : (name payload : List ℕ) → length name ≡ 4 → length (chunk_bytes name payload) ≡ 8 + (length payload + length (pad_of (length payload)))
text_len name payload e =
    let a = length-append name (to_le_bytes w32 (length payload) ++ (payload ++ pad_of (length payload))) in
    let b = length-append (to_le_bytes w32 (length payload)) (payload ++ pad_of (length payload)) in
    let d = length-append payload (pad_of (length payload)) in
    omega (arith, a, b, d, e)

pub payload_back : (name payload rest : List ℕ) → length name ≡ 4 → length payload < 4294967296 → payload_in (chunk_bytes name payload ++ rest) ≡ payload
payload_back name payload rest n small =
    let r = is_read name payload rest n small in
    ap (λ k. take k (drop 8 (chunk_bytes name payload ++ rest))) r.size_is
    ∙ ap (λ (l : List ℕ). take (length payload) l) r.behind
    ∙ take_at payload (pad_of (length payload) ++ rest) (length payload) refl

pub padded_is : (n space : ℕ) → n + length (pad_of n) ≤ space → padded n space ≡ n + length (pad_of n)
padded_is n space = by (eqb (n % 2) 1)
  where
    pads : Bool → List ℕ
    pads t = cond t (0 ∷ []) []

    by : (t : Bool) → n + length (pads t) ≤ space → cond (t && ltb n space) (n + 1) n ≡ n + length (pads t)
    by true h = grind (arith, nat_tests)
    by false h = omega arith

piece_back : (space : ℕ) (bytes : List ℕ) (size : ℕ) → number_at 4 bytes ≡ size → 8 + size ≤ space → 8 + size ≤ length bytes
    → chunk_piece space bytes ≡ sized_chunk space bytes size
unfolding chunk_piece
piece_back space bytes size e fits long =
    ap (λ t. cond t (rest_of kind.Trailer bytes) (cond (ltb space 8 || ltb (length bytes) 8) (rest_of kind.Broken bytes) (given_chunk space bytes (number_at 4 bytes)))) (ne_eqb space 0 (λ z. omega (arith, z, fits)))
    ∙ ap (λ t. cond (t || ltb (length bytes) 8) (rest_of kind.Broken bytes) (given_chunk space bytes (number_at 4 bytes))) (le-ltb space 8 (omega (arith, fits)))
    ∙ ap (λ t. cond t (rest_of kind.Broken bytes) (given_chunk space bytes (number_at 4 bytes))) (le-ltb (length bytes) 8 (omega (arith, long)))
    ∙ ap (given_chunk space bytes) e
    ∙ ap (λ t. cond (t || ltb (length bytes - 8) size) (rest_of kind.Broken bytes) (sized_chunk space bytes size)) (le-ltb (space - 8) size (omega (arith, fits)))
    ∙ ap (λ t. cond t (rest_of kind.Broken bytes) (sized_chunk space bytes size)) (le-ltb (length bytes - 8) size (omega (arith, long)))

-- a chunk that was written is read as one piece
pub whole_back : (name payload rest : List ℕ) (space : ℕ) → length name ≡ 4 → length (chunk_bytes name payload) ≤ space → length payload < 4294967296
    → whole_chunk space (chunk_bytes name payload ++ rest) ≡ Ok (of_test (is_frame name (length payload)) space (chunk_bytes name payload ++ rest) (length payload))
whole_back name payload rest space n fits small =
    let bytes : List ℕ = chunk_bytes name payload ++ rest in
    let size : ℕ = length payload in
    let r = is_read name payload rest n small in
    let len = text_len name payload n in
    let all : length bytes ≡ length (chunk_bytes name payload) + length rest = length-append (chunk_bytes name payload) rest in
    let pad = padded_is size (space - 8) (omega arith) in
    let piece : Piece = of_test (is_frame name size) space bytes size in
    let behind = test_behind (is_frame name size) space bytes size in
    let within : space - space_behind piece.next ≤ length bytes = omega arith in
    ap (λ (p : Piece). cond (is_cut space p bytes) (Err (cut_refusal space bytes)) (Ok p))
    (piece_back space bytes size r.size_is (omega arith) (omega arith) ∙ ap (λ (m : List ℕ). of_test (is_frame m size) space bytes size) r.name_is)
    ∙ ap (λ t. cond (t || ltb (length bytes) (space - space_behind piece.next)) (Err (cut_refusal space bytes)) (Ok piece)) (test_unbroken (is_frame name size) space bytes size)
    ∙ ap (λ t. cond t (Err (cut_refusal space bytes)) (Ok piece)) (le-ltb (length bytes) (space - space_behind piece.next) within)

-- and leaves the space behind it
pub behind_back : (name payload rest : List ℕ) (space : ℕ) → length name ≡ 4 → length (chunk_bytes name payload) ≤ space
    → space_behind (of_test (is_frame name (length payload)) space (chunk_bytes name payload ++ rest) (length payload)).next ≡ space - length (chunk_bytes name payload)
behind_back name payload rest space n fits =
    let len = text_len name payload n in
    test_behind (is_frame name (length payload)) space (chunk_bytes name payload ++ rest) (length payload)
    ∙ ap (λ k. space - 8 - k) (padded_is (length payload) (space - 8) (omega arith)) ∙ omega arith
