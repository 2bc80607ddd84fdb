-- Depths as numbers.
use Rattle.std.proofs.Common.{◌≡◌, ℕ, zero, suc, ◌-◌, ltb, refl, arith, sym}
use Rattle.std.proofs.lemmas.Bool.{lt-ltb}
use Rattle.exif_locations.specs.XmpErasing.{is_deep, less}

pub deep_is : (depth : ℕ) → is_deep depth ≡ ltb 0 depth
deep_is zero = refl
deep_is (suc depth) = sym (lt-ltb 0 (suc depth) (omega arith))

pub less_is : (depth : ℕ) → less depth ≡ depth - 1
less_is zero = refl
less_is (suc depth) = omega arith
