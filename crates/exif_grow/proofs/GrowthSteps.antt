-- What is added to data, and what grown data keep.
use Rattle.std.proofs.Common.{◌≡◌, ◌<◌, ℕ, Bool, true, false, if◌then◌else◌, List, [], ◌∷◌, ◌++◌, length, All, get_or, ◌⊎◌, inl, inr, Result, Ok, Err, refl, sym, subst, ◌∙◌, arith}
use Rattle.std.specs.Prelude.{IfOk, ◌^◌, ◌-◌, nat_lt}
use Rattle.std.proofs.lemmas.Bool.Decides.{nat_tests}
use Rattle.std.proofs.lemmas.List.Elements.{All-nil, All-cons, All-append}
use Rattle.exif_base.specs.declared.endian.Order.{Order}
use Rattle.exif_tiff.specs.Trace.{header}
use Rattle.exif_tiff.specs.declared.fault.Fault.{Fault}
use Rattle.exif_tiff.specs.declared.fault.Fault.TheVariants.{DataTooLarge}
use Rattle.std.proofs.lemmas.Grind.{common_steps}
use Rattle.exif_edit_base.specs.Causes.{Cause, Makes, shared}
use Rattle.exif_edit_base.specs.Patches.{FitsIn, patched, zeros_over}
use Rattle.exif_edit_base.specs.Readings.{Read, reads_as}
use Rattle.exif_edit_base.specs.declared.error.Error.{Error}
use Rattle.exif_edit_base.specs.declared.patch.Patch.{Patch}
use Rattle.exif_edit_base.specs.declared.patch.Span.{Span}
use Rattle.exif_grow.specs.Appending.{span_cleared}
use Rattle.exif_edit_base.proofs.CauseSteps.{ok_same, tested}
use Rattle.exif_edit_base.proofs.PatchSteps.{Misses, length-patched, patched_outside}
use Rattle.exif_grow.specs.Growing.{Added, added_of, checked_growth, first_read, grown}
use Rattle.exif_grow.specs.declared.growth.Growth.{Growth}

-- what holds of what an answer adds holds of what the program adds
pub on_ok : (P : Growth → Type 0) (x : Result Growth Error) (answer : Result Added Cause)
    → Makes added_of x answer → ((g : Growth) → answer ≡ Ok (added_of g) → P g) → IfOk x P
on_ok P (Ok g) answer h k = k g h
on_ok P (Err e) answer h k = tt

-- the first of two that is read so is read so, and is one of them
pub first_parts : (read : Read) (bytes : List ℕ) (a b c : Added) → first_read read bytes a b ≡ Ok c
    → (reads_as (grown c bytes) read ≡ true) × ((a ≡ c) ⊎ (b ≡ c))
first_parts read bytes a b c h = by_test (reads_as (grown a bytes) read) refl h
  where
    by_test : (t : Bool) → reads_as (grown a bytes) read ≡ t
        → (if t then Ok a else checked_growth read bytes b) ≡ Ok c
        → (reads_as (grown c bytes) read ≡ true) × ((a ≡ c) ⊎ (b ≡ c))
    by_test true e h =
        let s = ok_same a c h in (subst (λ x. reads_as (grown x bytes) read ≡ true) s e, inl s)
    by_test false e h =
        let p = tested (reads_as (grown b bytes) read) b c shared h in (
          subst (λ x. reads_as (grown x bytes) read ≡ true) p.1 p.0,
          inr p.1,
        )

before : (xs ys : List ℕ) (i : ℕ) → i < length xs → get_or (xs ++ ys) i 0 ≡ get_or xs i 0
before xs ys i h = grind (arith, common_steps)

-- a byte that no patch touches stays where data grow
pub grown_outside : (a : Added) (bytes : List ℕ) (i : ℕ) → All (FitsIn (length bytes)) a.patches
    → i < length bytes → All (Misses i) a.patches → get_or (grown a bytes) i 0 ≡ get_or bytes i 0
grown_outside a bytes i fit h m =
    let l = length-patched a.patches bytes fit in
    before (patched a.patches bytes) a.tail i (omega (arith, l))
    ∙ patched_outside a.patches bytes i fit m

-- what holds of both patches holds of all
pub both_patches : (P : Patch → Type 0) (clear : Bool) (span : Span) (p : Patch)
    → P (zeros_over span) → P p → All P (span_cleared clear span ++ p ∷ [])
both_patches P clear span p a b =
    All-append P (span_cleared clear span) _ (by_test clear) (All-cons P _ [] b (All-nil P))
  where
    by_test : (c : Bool) → All P (span_cleared c span)
    by_test true = All-cons P _ [] a (All-nil P)
    by_test false = All-nil P

too_large : (bytes : List ℕ) → 4294967295 < length bytes → header bytes ≡ Err DataTooLarge
too_large bytes h =
    let t : nat_lt (2 ^ 32 - 1) (length bytes) ≡ true = grind (arith, nat_tests) in rw t refl

-- data with a right header have fewer than 2^32 bytes
pub header_small : (bytes : List ℕ) (order : Order) → header bytes ≡ Ok order
    → length bytes < 2 ^ 32
header_small bytes order h = by_test (nat_lt (2 ^ 32 - 1) (length bytes)) refl
  where
    err_ok : ◌≡◌ {A = Result Order Fault} (Err DataTooLarge) (Ok order) → ⊥
    err_ok e = cc

    by_test : (b : Bool) → nat_lt (2 ^ 32 - 1) (length bytes) ≡ b → length bytes < 2 ^ 32
    by_test true e =
        let l : 4294967295 < length bytes = grind (arith, nat_tests) in
        absurd (err_ok (sym (too_large bytes l) ∙ h))
    by_test false e = grind (arith, nat_tests)
