-- Data with a good header begin as TIFF data do.
use Rattle.std.proofs.Common.{◌≡◌, ◌≤◌, ◌-◌, ◌==◌, ◌⊎◌, inl, inr, ℕ, Bool, true, false, List, [], ◌∷◌, length, take, Option, Some, None, Result, Ok, Err, refl, sym, subst, arith}
use Rattle.std.specs.Prelude.{◌&&◌, ◌^◌, codes, if◌then◌else◌, nat_lt}
use Rattle.std.proofs.lemmas.Bool.{and_parts}
use Rattle.std.proofs.lemmas.Bool.Decides.{nat_tests}
use Rattle.exif_base.specs.Bytes.{number_at}
use Rattle.exif_base.specs.Orders.{number_of}
use Rattle.exif_base.specs.declared.endian.Order.{Order}
use Rattle.exif_base.specs.declared.endian.Order.TheVariants.{Big, Little}
use Rattle.exif_tiff.specs.Trace.{header, order_of}
use Rattle.exif_tiff.specs.declared.fault.Fault.{Fault}
use Rattle.exif_tiff.specs.declared.fault.Fault.TheVariants.{DataTooLarge, TruncatedHeader, InvalidByteOrder, InvalidFortyTwo}
use Rattle.exif_edit_base.specs.Readings.{Read, reading}
use Rattle.exif_edit_base.proofs.FindSteps.{header_named}

-- the order and the number 42 in it
abbrev pub IsMarked : List ℕ → Type 0
IsMarked bytes = (take 4 bytes ≡ codes "MM\0*") ⊎ (take 4 bytes ≡ codes "II*\0")

encoded_of_order : (a b c d : ℕ) (rest : List ℕ) (x : Order)
    → order_of (a ∷ b ∷ c ∷ d ∷ rest) ≡ Some x
    → number_at (number_of x) 2 (a ∷ b ∷ c ∷ d ∷ rest) 2 ≡ 42
    → IsMarked (a ∷ b ∷ c ∷ d ∷ rest)
encoded_of_order a b c d rest x o n = by_big ((a == 77) && (b == 77)) refl o
  where
    bytes : List ℕ
    bytes = a ∷ b ∷ c ∷ d ∷ rest

    by_little : (t : Bool) → ((a == 73) && (b == 73)) ≡ t
        → (if t then Some Little else None) ≡ Some x → IsMarked bytes
    by_little true e k =
        let s : Little ≡ x = cc in
        let p = and_parts (a == 73) (b == 73) e in
        let p0 = p.0 in
        let p1 = p.1 in
        let q : a ≡ 73 = grind (arith, nat_tests) in
        let r : b ≡ 73 = grind (arith, nat_tests) in
        let m : number_at (number_of Little) 2 bytes 2 ≡ 42 =
        subst (λ y. number_at (number_of y) 2 bytes 2 ≡ 42) (sym s) n in
        let u : c ≡ 42 = omega (arith, m) in
        let v : d ≡ 0 = omega (arith, m) in
        inr (rw (q, r, u, v) refl)
    by_little false e k = absurd (none_some k)
      where
        none_some : ◌≡◌ {A = Option Order} None (Some x) → ⊥
        none_some k = cc

    by_big : (t : Bool) → ((a == 77) && (b == 77)) ≡ t
        → (if t then Some Big else
        (if (a == 73) && (b == 73) then Some Little else None)) ≡ Some x
        → IsMarked bytes
    by_big true e k =
        let s : Big ≡ x = cc in
        let p = and_parts (a == 77) (b == 77) e in
        let p0 = p.0 in
        let p1 = p.1 in
        let q : a ≡ 77 = grind (arith, nat_tests) in
        let r : b ≡ 77 = grind (arith, nat_tests) in
        let m : number_at (number_of Big) 2 bytes 2 ≡ 42 =
        subst (λ y. number_at (number_of y) 2 bytes 2 ≡ 42) (sym s) n in
        let u : c ≡ 0 = omega (arith, m) in
        let v : d ≡ 42 = omega (arith, m) in
        inl (rw (q, r, u, v) refl)
    by_big false e k = by_little ((a == 73) && (b == 73)) refl k

marked : (bytes : List ℕ) (order : Order) → 8 ≤ length bytes → order_of bytes ≡ Some order
    → number_at (number_of order) 2 bytes 2 ≡ 42 → IsMarked bytes
marked (a ∷ b ∷ c ∷ d ∷ rest) order h o n = encoded_of_order a b c d rest order o n
marked [] order h o n = absurd (omega arith)
marked (a ∷ []) order h o n = absurd (omega arith)
marked (a ∷ b ∷ []) order h o n = absurd (omega arith)
marked (a ∷ b ∷ c ∷ []) order h o n = absurd (omega arith)

-- data with a good header begin with a byte order and the number 42 in it
pub header_marked : (bytes : List ℕ) (order : Order) → header bytes ≡ Ok order
    → IsMarked bytes
header_marked bytes order e = by_large (nat_lt (2 ^ 32 - 1) (length bytes)) e
  where
    err_ok : (fault : Fault) → ◌≡◌ {A = Result Order Fault} (Err fault) (Ok order) → ⊥
    err_ok fault k = cc

    by_mark : (x : Order) (t : Bool) → (number_at (number_of x) 2 bytes 2 == 42) ≡ t
        → order_of bytes ≡ Some x → 8 ≤ length bytes
        → (if t then Ok x else Err InvalidFortyTwo) ≡ Ok order → IsMarked bytes
    by_mark x true t o h k = marked bytes x h o (grind (arith, nat_tests))
    by_mark x false t o h k = absurd (err_ok InvalidFortyTwo k)

    by_order : (o : Option Order) → order_of bytes ≡ o → 8 ≤ length bytes
        → (elim o as (λ _. Result Order Fault) [
          | None ↦ Err InvalidByteOrder
          | Some x ↦ if number_at (number_of x) 2 bytes 2 == 42 then Ok x else Err InvalidFortyTwo
        ]) ≡ Ok order → IsMarked bytes
    by_order None o h k = absurd (err_ok InvalidByteOrder k)
    by_order (Some x) o h k = by_mark x (number_at (number_of x) 2 bytes 2 == 42) refl o h k

    by_short : (t : Bool) → nat_lt (length bytes) 8 ≡ t
        → (if t then Err TruncatedHeader else
        (elim (order_of bytes) as (λ _. Result Order Fault) [
          | None ↦ Err InvalidByteOrder
          | Some x ↦ if number_at (number_of x) 2 bytes 2 == 42 then Ok x else Err InvalidFortyTwo
        ])) ≡ Ok order → IsMarked bytes
    by_short true t k = absurd (err_ok TruncatedHeader k)
    by_short false t k = by_order (order_of bytes) refl (grind (arith, nat_tests)) k

    by_large : (t : Bool)
        → (if t then Err DataTooLarge else
        (if nat_lt (length bytes) 8 then Err TruncatedHeader else
        (elim (order_of bytes) as (λ _. Result Order Fault) [
          | None ↦ Err InvalidByteOrder
          | Some x ↦ if number_at (number_of x) 2 bytes 2 == 42 then Ok x else Err InvalidFortyTwo
        ]))) ≡ Ok order → IsMarked bytes
    by_large true k = absurd (err_ok DataTooLarge k)
    by_large false k = by_short (nat_lt (length bytes) 8) refl k

-- data that were read begin with a byte order and the number 42 in it
pub reading_marked : (bytes : List ℕ) (read : Read) → reading bytes ≡ Ok read
    → IsMarked bytes
reading_marked bytes read e = header_marked bytes _ (header_named bytes read e)
