-- Powers of ten.
use Rattle.std.proofs.Common.{◌≡◌, ◌<◌, ◌≤◌, ◌^◌, ℕ, zero, suc, [], ◌∷◌, get_or, refl, arith}

-- those of at most nine digits
pub powers : (n : ℕ) → n < 10 → get_or (1 ∷ 10 ∷ 100 ∷ 1000 ∷ 10000 ∷ 100000 ∷ 1000000 ∷ 10000000 ∷ 100000000 ∷ 1000000000 ∷ []) n 0 ≡ 10 ^ n
powers zero h = refl
powers (suc zero) h = refl
powers (suc (suc zero)) h = refl
powers (suc (suc (suc zero))) h = refl
powers (suc (suc (suc (suc zero)))) h = refl
powers (suc (suc (suc (suc (suc zero))))) h = refl
powers (suc (suc (suc (suc (suc (suc zero)))))) h = refl
powers (suc (suc (suc (suc (suc (suc (suc zero))))))) h = refl
powers (suc (suc (suc (suc (suc (suc (suc (suc zero)))))))) h = refl
powers (suc (suc (suc (suc (suc (suc (suc (suc (suc zero))))))))) h = refl
powers (suc (suc (suc (suc (suc (suc (suc (suc (suc (suc n)))))))))) h = absurd (omega (arith, h))

-- each is above zero, and the last is the greatest
pub powers_small : (n : ℕ) → n < 10 → (0 < 10 ^ n) × (10 ^ n ≤ 1000000000)
powers_small zero h = (omega arith, omega arith)
powers_small (suc zero) h = (omega arith, omega arith)
powers_small (suc (suc zero)) h = (omega arith, omega arith)
powers_small (suc (suc (suc zero))) h = (omega arith, omega arith)
powers_small (suc (suc (suc (suc zero)))) h = (omega arith, omega arith)
powers_small (suc (suc (suc (suc (suc zero))))) h = (omega arith, omega arith)
powers_small (suc (suc (suc (suc (suc (suc zero)))))) h = (omega arith, omega arith)
powers_small (suc (suc (suc (suc (suc (suc (suc zero))))))) h = (omega arith, omega arith)
powers_small (suc (suc (suc (suc (suc (suc (suc (suc zero)))))))) h = (omega arith, omega arith)
powers_small (suc (suc (suc (suc (suc (suc (suc (suc (suc zero))))))))) h = (omega arith, omega arith)
powers_small (suc (suc (suc (suc (suc (suc (suc (suc (suc (suc n)))))))))) h = absurd (omega (arith, h))

-- those of at most seven digits
pub powers_of_seven : (n : ℕ) → n < 10 → n ≤ 7 → 10 ^ n ≤ 10000000
powers_of_seven zero h k = omega arith
powers_of_seven (suc zero) h k = omega arith
powers_of_seven (suc (suc zero)) h k = omega arith
powers_of_seven (suc (suc (suc zero))) h k = omega arith
powers_of_seven (suc (suc (suc (suc zero)))) h k = omega arith
powers_of_seven (suc (suc (suc (suc (suc zero))))) h k = omega arith
powers_of_seven (suc (suc (suc (suc (suc (suc zero)))))) h k = omega arith
powers_of_seven (suc (suc (suc (suc (suc (suc (suc zero))))))) h k = omega arith
powers_of_seven (suc (suc (suc (suc (suc (suc (suc (suc n)))))))) h k = absurd (omega (arith, k))
