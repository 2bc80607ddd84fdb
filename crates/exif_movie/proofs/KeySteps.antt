-- Keys one after the other.
use Rattle.std.proofs.Common.{◌≡◌, ◌<◌, ◌-◌, ◌||◌, ℕ, zero, suc, true, List, [], ◌∷◌, length, take, drop, Option, Some, None, refl, ap, sym, ◌∙◌, arith}
use Rattle.exif_movie.specs.Bytes.{begins}
use Rattle.exif_movie.specs.Keys.{by_size, has_bytes, key_size, key_subject, subject_at}
use Rattle.exif_movie.specs.declared.kind.Subject.{Subject}
use Rattle.exif_movie.specs.declared.kind.Subject.TheVariants as subject

-- a key that is not asked for
pub key_on : (n size : ℕ) (keys : List ℕ) → 0 < n → Some size ≡ key_size keys
    → subject_at n keys ≡ subject_at (n - 1) (drop size keys)
unfolding subject_at
key_on zero size keys h e = absurd (omega arith)
key_on (suc n) size keys h e =
    let less : n ≡ suc n - 1 = omega arith in
    ap (λ o. by_size o (λ size. subject_at n (drop size keys))) (sym e) ∙ ap (λ k. subject_at k (drop size keys)) less

-- the one that is
pub key_found : (n size : ℕ) (keys : List ℕ) → n ≡ 0 → Some size ≡ key_size keys
    → subject_at n keys ≡ key_subject (take (size - 8) (drop 8 keys))
unfolding subject_at
key_found zero size keys h e = ap (λ o. by_size o (λ size. key_subject (take (size - 8) (drop 8 keys)))) (sym e)
key_found (suc n) size keys h e = absurd (omega arith)

-- no more keys
pub key_missing : (n : ℕ) (keys : List ℕ) → None ≡ key_size keys → subject_at n keys ≡ subject.Location
unfolding subject_at
key_missing zero keys e = ap (λ o. by_size o (λ size. key_subject (take (size - 8) (drop 8 keys)))) (sym e)
key_missing (suc n) keys e = ap (λ o. by_size o (λ size. subject_at n (drop size keys))) (sym e)

-- a word at the front
pub bytes_found : (word bytes : List ℕ) → 0 < length bytes → begins word bytes ≡ true → has_bytes word bytes ≡ true
bytes_found word [] h e = absurd (omega arith)
bytes_found word (b ∷ bytes) h e = ap (λ t. t || has_bytes word bytes) e
