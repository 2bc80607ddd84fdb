-- A quotient in steps whose products stay small.
use Rattle.std.proofs.Common.{◌≡◌, ℕ, ◌+◌, ◌*◌, ◌/◌, ◌%◌, ◌^◌, ◌<◌, ◌≤◌, sym, ap, ◌∙◌, arith}
use Rattle.std.proofs.Math.Nat.{add-mul-div_left, div-add-mod, mod-lt}
use Rattle.std.proofs.lemmas.Nat.{div_below}

-- twice a number, and a product with a sum
spread : (u q f : ℕ) → 2 * u * (q * 10000000 + f * 10000) ≡ 20000000 * (u * q) + 20000 * (u * f)
spread u q f = grind arith

-- ten million times a fraction, rounded to a whole number, is a sum of parts with small products
pub units_by_parts : (o u : ℕ) → 0 < u
    → o / u * 10000000 + o % u * 1000 / u * 10000 + (o % u * 1000 % u * 20000 + u) / (2 * u) ≡ (2 * (o * 10 ^ 7) + u) / (2 * u)
units_by_parts o u some =
    let q : ℕ = o / u in
    let f : ℕ = o % u * 1000 / u in
    let t : ℕ = o % u * 1000 % u in
    let whole : u * q + o % u ≡ o = div-add-mod o u in
    let part : u * f + t ≡ o % u * 1000 = div-add-mod (o % u * 1000) u in
    let shape : 2 * (o * 10 ^ 7) + u ≡ t * 20000 + u + 2 * u * (q * 10000000 + f * 10000) = omega (arith, spread u q f, whole, part) in
    sym (ap (λ n. n / (2 * u)) shape ∙ (add-mul-div_left (t * 20000 + u) (q * 10000000 + f * 10000) (omega arith) ∙ omega arith))

-- the parts are small
pub units_small : (o u : ℕ) → 0 < u → o ≤ 255 * u
    → o / u * 10000000 + o % u * 1000 / u * 10000 + (o % u * 1000 % u * 20000 + u) / (2 * u) ≤ 4000000000
units_small o u some within =
    let q = div_below o u 256 some (omega arith) in
    let r : o % u < u = mod-lt o some in
    let t : o % u * 1000 % u < u = mod-lt (o % u * 1000) some in
    let f = div_below (o % u * 1000) u 1000 some (omega arith) in
    let l = div_below (o % u * 1000 % u * 20000 + u) (2 * u) 10001 (omega arith) (omega arith) in
    omega arith
