-- What the location at a time promises.
use Rattle.std.proofs.Common.{◌≡◌, ℕ, suc, ◌+◌, ◌-◌, ◌*◌, ◌/◌, ◌<◌, ◌≤◌, Bool, true, false, List, [], ◌∷◌, length, get_or, None, Some, eqb, refl, ap, subst, ◌∙◌, arith}
use Rattle.std.specs.Prelude.{nat_le}
use Rattle.std.proofs.lemmas.Bool.{eq-eqb, le-leb, leb-false, leb-true, ne_eqb}
use Rattle.std.proofs.lemmas.List.{get_or_default}
use Rattle.std.proofs.Math.Nat.{div-le_of_le-mul, mul-le-mul_left, mul_comm}
use Rattle.exif_geotag.specs.declared.point.Point.{Point}
use Rattle.exif_geotag.specs.Between.{between, fix_at, fix_at_last, fix_before, fix_of, interpolated}
use Rattle.exif_geotag.specs.Reached.{Reaches}
use Rattle.exif_geotag.specs.Sorting.{AreInOrder}
use Rattle.exif_geotag.proofs.AtSteps.{at_between, at_last, at_none}

-- ---- at a point

at_time : (gap time : ℕ) (last next : Point) → last.time ≡ time → fix_before gap time last next ≡ Some (fix_of last)
at_time gap time last next e = rw (eq-eqb last.time time e) refl

last_at_time : (time : ℕ) (last : Point) → last.time ≡ time → fix_at_last time last ≡ Some (fix_of last)
last_at_time time last e = rw (eq-eqb last.time time e) refl

same_at : (ps : List Point) (i : ℕ) (d e : Point) → i < length ps → (get_or ps i d).time ≡ (get_or ps i e).time
same_at ps i d e h = ap (λ (p : Point). p.time) (get_or_default ps i d e h)

-- a point is the last one that its time has reached
reached_point : (ps : List Point) (k : ℕ) (d : Point) → AreInOrder ps → k < length ps
    → (k + 1 < length ps → (get_or ps k d).time < (get_or ps (k + 1) d).time) → Reaches (get_or ps k d).time ps (suc k)
reached_point ps k d up h last = record {
  within = omega arith;
  before = λ i e low.
      let s : (get_or ps i e).time ≡ (get_or ps i d).time = same_at ps i e d (omega arith) in
      let u : (get_or ps i d).time ≤ (get_or ps k d).time = up i k d (omega arith) h in
      omega arith;
  after = λ i e low high.
      let s : (get_or ps i e).time ≡ (get_or ps i d).time = same_at ps i e d high in
      let u : (get_or ps (k + 1) d).time ≤ (get_or ps i d).time = up (k + 1) i d (omega arith) high in
      let l : (get_or ps k d).time < (get_or ps (k + 1) d).time = last (omega arith) in
      omega arith;
}

-- at the time of a point a track is at that point
pub point_is_there : (gap : ℕ) (ps : List Point) (k : ℕ) (d : Point) → AreInOrder ps → k < length ps
    → (k + 1 < length ps → (get_or ps k d).time < (get_or ps (k + 1) d).time)
    → fix_at gap (get_or ps k d).time ps ≡ Some (fix_of (get_or ps k d))
point_is_there gap ps k d up h last = go (nat_le (length ps) (suc k)) refl
  where
    go : (b : Bool) → nat_le (length ps) (suc k) ≡ b → fix_at gap (get_or ps k d).time ps ≡ Some (fix_of (get_or ps k d))
    go true e =
        at_last gap (get_or ps k d).time (suc k) k ps d refl (reached_point ps k d up h last) (leb-true (length ps) (suc k) e)
        ∙ last_at_time (get_or ps k d).time (get_or ps k d) refl
    go false e =
        at_between gap (get_or ps k d).time (suc k) k ps d d refl (reached_point ps k d up h last) (leb-false (length ps) (suc k) e)
        ∙ at_time gap (get_or ps k d).time (get_or ps k d) (get_or ps (suc k) d) refl

-- ---- outside

-- before all of its points a track is nowhere
pub nothing_before : (gap : ℕ) (ps : List Point) (time : ℕ) → ((k : ℕ) (d : Point) → k < length ps → time < (get_or ps k d).time) → fix_at gap time ps ≡ None
nothing_before gap ps time h = at_none gap time 0 ps refl (record {
  within = omega arith;
  before = λ k d low. absurd (omega arith);
  after = λ k d low high. h k d high;
})

-- and behind all of them
pub nothing_behind : (gap : ℕ) (ps : List Point) (time : ℕ) → ((k : ℕ) (d : Point) → k < length ps → (get_or ps k d).time < time) → fix_at gap time ps ≡ None
nothing_behind gap [] time h = refl
nothing_behind gap (p ∷ ps) time h =
    let n : ℕ = length ps in
    let low : (get_or (p ∷ ps) n p).time < time = h n p (omega arith) in
    let other : eqb (get_or (p ∷ ps) n p).time time ≡ false = ne_eqb (get_or (p ∷ ps) n p).time time (λ e. omega arith) in
    at_last gap time (suc n) n (p ∷ ps) p refl (record {
      within = omega arith;
      before = λ k d l. let t : (get_or (p ∷ ps) k d).time < time = h k d (omega arith) in omega arith;
      after = λ k d l m. absurd (omega arith);
    }) (omega arith)
    ∙ rw other refl

-- ---- between

-- a part of a number is no more than all of it
part_within : (units part all : ℕ) → part ≤ all → units * part / all ≤ units
part_within units part all h =
    let m : units * part ≤ units * all = mul-le-mul_left units h in
    let c : units * all ≡ all * units = mul_comm units all in
    div-le_of_le-mul all (subst (λ n. units * part ≤ n) c m)

up_between : (from to part all : ℕ) → part ≤ all → from ≤ to → (from ≤ between from to part all) × (between from to part all ≤ to)
up_between from to part all h up =
    let w : (to - from) * part / all ≤ to - from = part_within (to - from) part all h in
    rw (le-leb from to up) (omega arith, omega arith)

down_between : (from to part all : ℕ) → part ≤ all → to ≤ from → (to ≤ between from to part all) × (between from to part all ≤ from)
down_between from to part all h down = go (nat_le from to) refl
  where
    go : (b : Bool) → nat_le from to ≡ b → (to ≤ between from to part all) × (between from to part all ≤ from)
    go true e =
        let up : from ≤ to = leb-true from to e in
        let w : (to - from) * part / all ≤ to - from = part_within (to - from) part all h in
        rw e (omega arith, omega arith)
    go false e =
        let w : (from - to) * part / all ≤ from - to = part_within (from - to) part all h in
        rw e (omega arith, omega arith)

-- between two points the latitude is between theirs
pub north_between : (time : ℕ) (from to : Point) → from.time < to.time → time ≤ to.time → from.latitude ≤ to.latitude
    → (from.latitude ≤ (interpolated time from to).latitude) × ((interpolated time from to).latitude ≤ to.latitude)
north_between time from to order before up =
    up_between from.latitude to.latitude (time - from.time) (to.time - from.time) (omega arith) up

pub south_between : (time : ℕ) (from to : Point) → from.time < to.time → time ≤ to.time → to.latitude ≤ from.latitude
    → (to.latitude ≤ (interpolated time from to).latitude) × ((interpolated time from to).latitude ≤ from.latitude)
south_between time from to order before down =
    down_between from.latitude to.latitude (time - from.time) (to.time - from.time) (omega arith) down
