-- Base64 has no markup.
use Rattle.std.proofs.Common.{◌≡◌, ℕ, zero, suc, ◌+◌, ◌*◌, ◌/◌, ◌%◌, List, [], ◌∷◌, ◌++◌, length, Bool, true, false, ◌&&◌, refl}
use Rattle.std.specs.Prelude.{replicate, slice_index}
use Rattle.std.proofs.lemmas.List.Folds.{list_all-append}
use Rattle.base64.specs.Rfc4648.{encode_symbols, padding_len}
use Rattle.base64.specs.Engines.{standard}
use Rattle.exif_page.specs.Escaping.{is_plain, is_plain_text}
use Rattle.exif_page.specs.Thumbnails.{base64}

both : (a b : Bool) → a ≡ true → b ≡ true → (a && b) ≡ true
both a b h k = rw (h, k) refl

front : (a b : Bool) → (a && b) ≡ true → a ≡ true
front true b h = refl
front false b h = h

back : (a b : Bool) → (a && b) ≡ true → b ≡ true
back true b h = h
back false b h = cc

-- a symbol of a plain alphabet, or the zero where there is none
at : (t : List ℕ) (i : ℕ) → is_plain_text t ≡ true → is_plain (slice_index t i) ≡ true
at [] i h = refl
at (x ∷ t) zero h = front (is_plain x) (is_plain_text t) h
at (x ∷ t) (suc i) h = at t i (back (is_plain x) (is_plain_text t) h)

next : (t : List ℕ) (i : ℕ) (rest : List ℕ) → is_plain_text t ≡ true
    → is_plain_text rest ≡ true → is_plain_text (slice_index t i ∷ rest) ≡ true
next t i rest h r = both (is_plain (slice_index t i)) (is_plain_text rest) (at t i h) r

two : (t : List ℕ) (i j : ℕ) (rest : List ℕ) → is_plain_text t ≡ true
    → is_plain_text rest ≡ true → is_plain_text (slice_index t i ∷ slice_index t j ∷ rest) ≡ true
two t i j rest h r = next t i (slice_index t j ∷ rest) h (next t j rest h r)

three : (t : List ℕ) (i j k : ℕ) (rest : List ℕ) → is_plain_text t ≡ true
    → is_plain_text rest ≡ true
    → is_plain_text (slice_index t i ∷ slice_index t j ∷ slice_index t k ∷ rest) ≡ true
three t i j k rest h r =
    next t i (slice_index t j ∷ slice_index t k ∷ rest) h (two t j k rest h r)

symbols : (t bytes : List ℕ) → is_plain_text t ≡ true
    → is_plain_text (encode_symbols t bytes) ≡ true
unfolding encode_symbols
symbols t [] h = refl
symbols t (a ∷ []) h = two t (a / 4) (a % 4 * 16) [] h refl
symbols t (a ∷ b ∷ []) h = three t (a / 4) (a % 4 * 16 + b / 16) (b % 16 * 4) [] h refl
symbols t (a ∷ b ∷ c ∷ rest) h =
    two t (a / 4) (a % 4 * 16 + b / 16)
    (slice_index t (b % 16 * 4 + c / 64) ∷ slice_index t (c % 64) ∷ encode_symbols t rest) h
    (two t (b % 16 * 4 + c / 64) (c % 64) (encode_symbols t rest) h (symbols t rest h))

padding : (n : ℕ) → is_plain_text (replicate n 61) ≡ true
padding zero = refl
padding (suc n) = padding n

joined : (xs ys : List ℕ) → is_plain_text xs ≡ true → is_plain_text ys ≡ true
    → is_plain_text (xs ++ ys) ≡ true
joined xs ys h k =
    rw (list_all-append is_plain xs ys) (both (is_plain_text xs) (is_plain_text ys) h k)

-- no byte of base64 is markup
pub plain_base64 : (bytes : List ℕ) → is_plain_text (base64 bytes) ≡ true
unfolding base64
plain_base64 bytes =
    joined (encode_symbols standard.encode_table bytes) (replicate (padding_len (length bytes)) 61)
    (symbols standard.encode_table bytes refl) (padding (padding_len (length bytes)))
