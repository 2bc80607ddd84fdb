-- Bounds of numbers in big-endian order.
use Rattle.std.proofs.Common.{◌≡◌, ℕ, zero, suc, ◌+◌, ◌*◌, ◌<◌, ◌^◌, add-one, arith}
use Rattle.std.proofs.Math.Nat.{pow-suc}

-- one more byte
pub one_more : (n b i : ℕ) → n < 256 ^ i → b < 256 → n * 256 + b < 256 ^ (i + 1)
one_more n b i h k =
    let e : 256 ^ (i + 1) ≡ 256 ^ i * 256 = rw add-one (pow-suc 256 i) in
    omega arith

-- up to eight bytes
pub eight_fit : (n b i : ℕ) → i < 8 → n < 256 ^ i → b < 256 → n * 256 + b < 2 ^ 64
eight_fit n b zero l h k = omega arith
eight_fit n b (suc zero) l h k = omega arith
eight_fit n b (suc (suc zero)) l h k = omega arith
eight_fit n b (suc (suc (suc zero))) l h k = omega arith
eight_fit n b (suc (suc (suc (suc zero)))) l h k = omega arith
eight_fit n b (suc (suc (suc (suc (suc zero))))) l h k = omega arith
eight_fit n b (suc (suc (suc (suc (suc (suc zero)))))) l h k = omega arith
eight_fit n b (suc (suc (suc (suc (suc (suc (suc zero))))))) l h k = omega arith
eight_fit n b (suc (suc (suc (suc (suc (suc (suc (suc i)))))))) l h k = absurd (omega arith)
