-- The location at a time, from how many points it has reached.
use Rattle.std.proofs.Common.{◌≡◌, ℕ, zero, suc, ◌<◌, ◌≤◌, true, false, List, [], ◌∷◌, length, get_or, None, refl, arith}
use Rattle.std.specs.Prelude.{nat_le}
use Rattle.std.proofs.lemmas.Bool.{le-leb, lt-leb}
use Rattle.exif_geotag.specs.declared.point.Point.{Point}
use Rattle.exif_geotag.specs.Between.{fix_at, fix_at_last, fix_before, fix_from}
use Rattle.exif_geotag.specs.Reached.{Reaches}

-- behind the first point
rest_reached : (time n : ℕ) (p : Point) (ps : List Point) → Reaches time (p ∷ ps) (suc n) → Reaches time ps n
rest_reached time n p ps r = record {
  within = (let w = r.within in omega arith);
  before = λ k d h. r.before (suc k) d (omega arith);
  after = λ k d l h. r.after (suc k) d (omega arith) (omega arith);
}

first_reached : (time n : ℕ) (p : Point) (ps : List Point) → Reaches time (p ∷ ps) (suc n) → nat_le p.time time ≡ true
first_reached time n p ps r = let h : p.time ≤ time = r.before 0 p (omega arith) in le-leb p.time time h

none_reached : (time : ℕ) (p : Point) (ps : List Point) → Reaches time (p ∷ ps) zero → nat_le p.time time ≡ false
none_reached time p ps r = let h : time < p.time = r.after 0 p (omega arith) (omega arith) in lt-leb p.time time h

-- between two points
from_between : (gap time n : ℕ) (last : Point) (ps : List Point) (d e : Point) → Reaches time ps n → n < length ps
    → fix_from gap time last ps ≡ fix_before gap time (get_or (last ∷ ps) n d) (get_or ps n e)
from_between gap time n last [] d e r h = absurd (omega arith)
from_between gap time zero last (p ∷ ps) d e r h = rw (none_reached time p ps r) refl
from_between gap time (suc n) last (p ∷ ps) d e r h =
    rw (first_reached time n p ps r) (from_between gap time n p ps d e (rest_reached time n p ps r) (omega arith))

-- behind all points
from_last : (gap time n : ℕ) (last : Point) (ps : List Point) (d : Point) → Reaches time ps n → length ps ≤ n
    → fix_from gap time last ps ≡ fix_at_last time (get_or (last ∷ ps) n d)
from_last gap time zero last [] d r h = refl
from_last gap time (suc n) last [] d r h = absurd (let w = r.within in omega arith)
from_last gap time zero last (p ∷ ps) d r h = absurd (omega arith)
from_last gap time (suc n) last (p ∷ ps) d r h =
    rw (first_reached time n p ps r) (from_last gap time n p ps d (rest_reached time n p ps r) (omega arith))

-- before all points
pub at_none : (gap time n : ℕ) (ps : List Point) → n ≡ 0 → Reaches time ps n → fix_at gap time ps ≡ None
at_none gap time zero [] e r = refl
at_none gap time (suc n) ps e r = absurd (omega arith)
at_none gap time zero (p ∷ ps) e r = rw (none_reached time p ps r) refl

-- between two points
pub at_between : (gap time n m : ℕ) (ps : List Point) (d e : Point) → n ≡ suc m → Reaches time ps n → n < length ps
    → fix_at gap time ps ≡ fix_before gap time (get_or ps m d) (get_or ps n e)
at_between gap time zero m ps d e q r h = absurd (omega arith)
at_between gap time (suc n) m [] d e q r h = absurd (omega arith)
at_between gap time (suc n) m (p ∷ ps) d e q r h =
    let s : m ≡ n = omega arith in
    rw (first_reached time n p ps r, s) (from_between gap time n p ps d e (rest_reached time n p ps r) (omega arith))

-- behind all points
pub at_last : (gap time n m : ℕ) (ps : List Point) (d : Point) → n ≡ suc m → Reaches time ps n → length ps ≤ n
    → fix_at gap time ps ≡ fix_at_last time (get_or ps m d)
at_last gap time zero m ps d q r h = absurd (omega arith)
at_last gap time (suc n) m [] d q r h = absurd (let w = r.within in omega arith)
at_last gap time (suc n) m (p ∷ ps) d q r h =
    let s : m ≡ n = omega arith in
    rw (first_reached time n p ps r, s) (from_last gap time n p ps d (rest_reached time n p ps r) (omega arith))
