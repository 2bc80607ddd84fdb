-- The greatest limit limits nothing.
use Rattle.std.proofs.Common.{◌≡◌, ◌≤◌, ◌+◌, ◌*◌, ℕ, Bool, List, Option, Some, None, ap, sym, arith, unwrap_or}
use Rattle.std.proofs.Math.Nat.{mul-le-mul_right}
use Rattle.exif_tiff.specs.Answers.{raw_answer}
use Rattle.exif_tiff.specs.Trace.{trace, visits_of}
use Rattle.exif_tiff.specs.Visits.{visits_at_most, entries_at_most}
use Rattle.exif_tiff.specs.Limits.{AnswersWithin}

-- eight directories of 65,535 entries, each with children and grandchildren, have fewer entries than 2^64
few_visits : (n : ℕ) → n ≤ 65535 → 8 * (n + n * n + n * n * n) ≤ 18446744073709551615
few_visits n h =
    let a : n * n ≤ 65535 * n = mul-le-mul_right n h in
    let b : n * n ≤ 4294836225 = omega arith in
    let d : n * n * n ≤ 4294836225 * n = mul-le-mul_right n b in
    omega arith

-- the greatest limit lets all entries of data be visited
pub all_fit : (bytes : List ℕ) → visits_of (trace bytes) ≤ visits_at_most bytes
    → visits_of (trace bytes) ≤ 18446744073709551615
all_fit bytes v =
    let few : entries_at_most bytes ≤ 65535 = omega arith in
    omega (arith, few_visits (entries_at_most bytes) few)

-- reading up to the greatest limit is reading without one
pub unlimited : (lenient : Bool) (limit : Option ℕ) (bytes : List ℕ) (most : ℕ) → most ≡ unwrap_or limit 18446744073709551615
    → visits_of (trace bytes) ≤ visits_at_most bytes → ((n : ℕ) → AnswersWithin n bytes) → raw_answer lenient limit bytes ≡ raw_answer lenient (Some most) bytes
unlimited lenient (Some n) bytes most e v same = ap (λ k. raw_answer lenient (Some k) bytes) (sym e)
unlimited lenient None bytes most e v same =
    let fits : visits_of (trace bytes) ≤ most = omega (arith, all_fit bytes v) in
    sym (same most lenient fits)
