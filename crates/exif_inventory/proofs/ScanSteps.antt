-- Scans for the next marker, and for the next JPEG stream.
use Rattle.std.proofs.Common.{◌≡◌, ◌≢◌, ◌<◌, ◌≤◌, ◌+◌, ℕ, zero, suc, false, cond, List, [], ◌∷◌, length, drop, slice_index, ap, sym, ◌∙◌, arith}
use Rattle.std.proofs.lemmas.Bool.{eq-eqb, ne_eqb}
use Rattle.exif_inventory.specs.JpegPieces.{free_len, gap_len, is_stream}

-- the index of the first ff
pub free_is : (bytes : List ℕ) (n : ℕ) → n ≤ length bytes → ((k : ℕ) → k < n → slice_index bytes k ≢ 255)
    → (n < length bytes → slice_index bytes n ≡ 255) → n ≡ free_len bytes
free_is [] n h before at = omega arith
free_is (b ∷ bytes) zero h before at = sym (ap (λ t. cond t 0 (suc (free_len bytes))) (eq-eqb b 255 (at (omega arith))))
free_is (b ∷ bytes) (suc n) h before at =
    ap suc (free_is bytes n (omega arith) (λ k l. before (suc k) (omega arith)) (λ l. at (omega arith)))
    ∙ sym (ap (λ t. cond t 0 (suc (free_len bytes))) (ne_eqb b 255 (before 0 (omega arith))))

-- a byte where no stream begins
pub gap_step : (n : ℕ) (bytes : List ℕ) → n < length bytes → is_stream (drop n bytes) ≡ false
    → gap_len (drop n bytes) ≡ suc (gap_len (drop (suc n) bytes))
gap_step n [] h e = absurd (omega arith)
gap_step zero (b ∷ bytes) h e = ap (λ t. cond t 0 (suc (gap_len bytes))) e
gap_step (suc n) (b ∷ bytes) h e = gap_step n bytes (omega arith) e

-- the same where as many came before
pub gap_on : (n : ℕ) (bytes : List ℕ) → n < length bytes → is_stream (drop n bytes) ≡ false
    → gap_len bytes ≡ n + gap_len (drop n bytes) → gap_len bytes ≡ n + 1 + gap_len (drop (n + 1) bytes)
gap_on n bytes h e before =
    let next : drop (suc n) bytes ≡ drop (n + 1) bytes = ap (λ k. drop k bytes) (suc_is n) in
    let one : gap_len (drop n bytes) ≡ suc (gap_len (drop (n + 1) bytes)) = gap_step n bytes h e ∙ ap (λ bs. suc (gap_len bs)) next in
    omega arith
  where
    suc_is : (n : ℕ) → suc n ≡ n + 1
    suc_is n = omega arith

-- where nothing comes before a stream, it is there
pub stream_long : (bytes : List ℕ) → 0 < length bytes → gap_len bytes ≡ 0 → 2 ≤ length bytes
stream_long [] h e = absurd (omega arith)
stream_long (a ∷ []) h e = absurd (omega arith)
stream_long (a ∷ b ∷ bytes) h e = omega arith
