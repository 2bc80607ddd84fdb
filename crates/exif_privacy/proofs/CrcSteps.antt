-- The CRCs of chunks that were changed: what stays.
use Rattle.std.proofs.Common.{◌≡◌, ◌≤◌, ◌<◌, ◌+◌, ◌-◌, ◌⊎◌, inl, inr, ℕ, Bool, true, false, ◌||◌, ◌&&◌, not, cond, nat_le, nat_lt, List, [], ◌∷◌, ◌++◌, length, take, drop, get_or, refl, ap, sym, ◌∙◌, subst, arith}
use Rattle.std.proofs.lemmas.Grind.{common_steps}
use Rattle.std.proofs.lemmas.Bool.Decides.{nat_tests}
use Rattle.std.specs.Int.{to_be_bytes, w32}
use Rattle.std.specs.List.{list_any}
use Rattle.std.specs.Str.{bytes_eq}
use Rattle.exif_inventory.specs.Crc.{crc32}
use Rattle.exif_inventory.specs.declared.part.Part.{Part}
use Rattle.exif_containers.specs.Png.{begins_png}
use Rattle.exif_privacy.specs.Chunks.{in_crc, is_chunk, part_bytes, part_mended, parts_mended, with_crc}
use Rattle.exif_privacy.specs.Promises.{AllElseStays, OthersStay, may_be_new, may_change}
use Rattle.exif_privacy.proofs.OtherSteps.{neither, outside, span_long, span_stays}

-- ---- what stays

either_none : (P Q : Part → Bool) (parts : List Part) → list_any (λ p. P p || Q p) parts ≡ false → (list_any P parts ≡ false) × (list_any Q parts ≡ false)
either_none P Q [] e = (refl, refl)
either_none P Q (p ∷ ps) e =
    let both = neither (P p || Q p) (list_any (λ p. P p || Q p) ps) e in
    let here = neither (P p) (Q p) both.0 in
    let rest = either_none P Q ps both.1 in
    (ap (λ b. b || list_any P ps) here.0 ∙ rest.0, ap (λ b. b || list_any Q ps) here.1 ∙ rest.1)

-- the same where a file is no PNG file
pub of_others : (parts : List Part) (old new : List ℕ) → OthersStay parts old new → AllElseStays parts old new
of_others parts old new s = record {
  long = s.long;
  bytes = λ k e. s.bytes k (either_none (may_change k) (λ p. begins_png old && in_crc k p) parts e).0;
}

crc_long : (crc : ℕ) → length (to_be_bytes w32 crc) ≡ 4
crc_long crc = refl

-- one CRC
record Mends (k : ℕ) (part : Part) (file new : List ℕ) : Type 0 where
  long : length new ≡ length file
  bytes : in_crc k part ≡ false → get_or new k 0 ≡ get_or file k 0

with_mends : (k : ℕ) (part : Part) (file : List ℕ) → 12 ≤ part.len → part.offset + part.len ≤ length file → Mends k part file (with_crc part file)
with_mends k part file l h =
    let at : ℕ = part.offset + part.len - 4 in
    let sum : ℕ = crc32 (take (part.len - 8) (drop (part.offset + 4) file)) in
    let crc : List ℕ = to_be_bytes w32 sum in
    let end : part.offset + part.len ≡ part.offset + part.len - 4 + 4 = omega arith in
    let fits : part.offset + part.len - 4 + 4 ≤ length file = omega arith in
    let n : length crc ≡ 4 = crc_long sum in
    subst (λ (m : ℕ). Mends k part file (take at file ++ (crc ++ drop m file))) (sym end) (record {
      long = span_long at 4 file crc fits n;
      bytes = λ e. span_stays at 4 k file crc fits n
          (outside at (at + 4) k (subst (λ (m : ℕ). (nat_le at k && nat_lt k m) ≡ false) end e));
    })

mends_by : (b c : Bool) (k : ℕ) (old : List ℕ) (part : Part) (new : List ℕ) → is_chunk part new ≡ b → Mends k part new (cond (b && c) (with_crc part new) new)
mends_by true true k old part new e = with_mends k part new (grind (arith, nat_tests)) (grind (arith, nat_tests))
mends_by true false k old part new e = record { long = refl; bytes = λ h. refl }
mends_by false c k old part new e = record { long = refl; bytes = λ h. refl }

part_mends : (k : ℕ) (old : List ℕ) (part : Part) (new : List ℕ) → Mends k part new (part_mended old part new)
part_mends k old part new =
    subst (λ (b : Bool). Mends k part new (cond (b && not (bytes_eq (part_bytes part new) (part_bytes part old))) (with_crc part new) new)) refl
    (mends_by (is_chunk part new) (not (bytes_eq (part_bytes part new) (part_bytes part old))) k old part new refl)

pub parts_long : (old : List ℕ) (parts : List Part) (new : List ℕ) → length (parts_mended old parts new) ≡ length new
parts_long old [] new = refl
parts_long old (part ∷ parts) new = parts_long old parts (part_mended old part new) ∙ (part_mends 0 old part new).long

parts_stay : (k : ℕ) (old : List ℕ) (parts : List Part) (new : List ℕ) → list_any (in_crc k) parts ≡ false → get_or (parts_mended old parts new) k 0 ≡ get_or new k 0
parts_stay k old [] new e = refl
parts_stay k old (part ∷ parts) new e =
    let both = neither (in_crc k part) (list_any (in_crc k) parts) e in
    parts_stay k old parts (part_mended old part new) both.1 ∙ (part_mends k old part new).bytes both.0

-- a PNG file whose parts were changed, and their CRCs
pub of_mended : (parts : List Part) (old new : List ℕ) → begins_png old ≡ true → OthersStay parts old new → AllElseStays parts old (parts_mended old parts new)
of_mended parts old new png s = record {
  long = parts_long old parts new ∙ s.long;
  bytes = λ k e.
      let both = either_none (may_change k) (λ p. begins_png old && in_crc k p) parts e in
      let crcs : list_any (in_crc k) parts ≡ false = ap (λ (b : Bool). list_any (λ p. b && in_crc k p) parts) (sym png) ∙ both.1 in
      parts_stay k old parts new crcs ∙ s.bytes k both.0;
}
