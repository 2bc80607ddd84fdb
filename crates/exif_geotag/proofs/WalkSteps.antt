-- A walk over a file, token after token.
use Rattle.std.proofs.Common.{◌≡◌, ℕ, zero, suc, ◌+◌, ◌-◌, ◌<◌, ◌≤◌, List, [], ◌∷◌, ◌++◌, length, take, drop, Bool, Result, Ok, Err, refl, ap, sym, ◌∙◌, arith, length-drop, append_assoc, append-nil, add_assoc, add-zero}
use Rattle.std.proofs.lemmas.List.{drop-drop, take_rest}
use Rattle.std.proofs.Math.ListN.{drop_of_length-le}
use Rattle.exif_geotag.specs.declared.error.TrackError.{TrackError}
use Rattle.exif_geotag.specs.declared.point.Point.{Point}
use Rattle.exif_geotag.specs.declared.state.Found.{Found}
use Rattle.exif_geotag.specs.declared.state.Found.TheVariants.{Nothing, Skipped, Kept}
use Rattle.exif_geotag.specs.declared.state.State.{State}
use Rattle.exif_geotag.specs.declared.step.Step.{Step}
use Rattle.exif_geotag.specs.Read.{walked}
use Rattle.exif_geotag.specs.Steps.{step_at}
use Rattle.exif_geotag.specs.Walks.{TrackView, behind, ended_at, kept_of, no_more, points_from, refused_at, skipped_of, stepped}

-- bytes that are left of a token are skipped
left_over : (xs : List ℕ) (s : State) (k : ℕ) → points_from xs s k ≡ points_from (drop k xs) s 0
unfolding points_from
left_over [] s zero = refl
left_over [] s (suc k) = refl
left_over (x ∷ xs) s zero = refl
left_over (x ∷ xs) s (suc k) = left_over xs s k

-- one token
one_step : (xs : List ℕ) (s : State) (t : Step) → 0 < length xs → 0 < t.len → step_at s xs ≡ Ok t
    → points_from xs s 0 ≡ behind (kept_of t.found) (skipped_of t.found) (points_from (drop t.len xs) t.state 0)
unfolding points_from
one_step [] s t h l e = absurd (omega arith)
one_step (x ∷ xs) s t h l e =
    let n : suc (t.len - 1) ≡ t.len = omega arith in
    ap (stepped (λ t. behind (kept_of t.found) (skipped_of t.found) (points_from xs t.state (t.len - 1))) (λ r. no_more (refused_at s (x ∷ xs) r))) e
    ∙ ap (behind (kept_of t.found) (skipped_of t.found))
    (left_over xs t.state (t.len - 1) ∙ ap (λ k. points_from (drop k (x ∷ xs)) t.state 0) n)

-- a token that is refused
one_refused : (xs : List ℕ) (s : State) (error : TrackError) → 0 < length xs → step_at s xs ≡ Err error → points_from xs s 0 ≡ no_more (refused_at s xs error)
unfolding points_from
one_refused [] s error h e = absurd (omega arith)
one_refused (x ∷ xs) s error h e =
    ap (stepped (λ t. behind (kept_of t.found) (skipped_of t.found) (points_from xs t.state (t.len - 1))) (λ r. no_more (refused_at s (x ∷ xs) r))) e

behind_both : (ps qs : List Point) (k j : ℕ) (x : Result TrackView TrackError) → behind ps k (behind qs j x) ≡ behind (ps ++ qs) (k + j) x
behind_both ps qs k j (Ok x) = rw (append_assoc ps qs x.points, add_assoc k j x.skipped) refl
behind_both ps qs k j (Err e) = refl

some_left : (g : List ℕ) (at : ℕ) → at < length g → 0 < length (drop at g)
some_left g at h = let d : length (drop at g) ≡ length g - at = length-drop at g in omega arith

-- ---- the loop

-- at most one point is skipped with a token
pub skipped_few : (f : Found) → skipped_of f ≤ 1
skipped_few Nothing = omega arith
skipped_few Skipped = omega arith
skipped_few (Kept point) = omega arith

-- the bytes from an offset on
pub from_here : (g : List ℕ) (at : ℕ) (s : State) (r : Result Step TrackError) → step_at s (take (length g - at) (drop at g)) ≡ r → step_at s (drop at g) ≡ r
from_here g at s r e = ap (step_at s) (sym (take_rest g at)) ∙ e

-- a token, and what it completes
pub walk_next : (g : List ℕ) (at : ℕ) (s : State) (t : Step) (ps qs : List Point) (k j : ℕ) (x : Result TrackView TrackError)
    → at < length g → 0 < t.len → step_at s (drop at g) ≡ Ok t → qs ≡ ps ++ kept_of t.found → j ≡ k + skipped_of t.found
    → x ≡ behind ps k (points_from (drop at g) s 0) → x ≡ behind qs j (points_from (drop (at + t.len) g) t.state 0)
walk_next g at s t ps qs k j x h l e p q o =
    o ∙ ap (behind ps k) (one_step (drop at g) s t (some_left g at h) l e)
    ∙ behind_both ps (kept_of t.found) k (skipped_of t.found) (points_from (drop t.len (drop at g)) t.state 0)
    ∙ ap (λ a. behind (ps ++ kept_of t.found) (k + skipped_of t.found) (points_from a t.state 0)) (drop-drop t.len at g)
    ∙ ap (λ a. behind a (k + skipped_of t.found) (points_from (drop (at + t.len) g) t.state 0)) (sym p)
    ∙ ap (λ n. behind qs n (points_from (drop (at + t.len) g) t.state 0)) (sym q)

-- an end
ended_behind : (ps : List Point) (k : ℕ) (r : Result Bool TrackError) → behind ps k (no_more r) ≡ walked ps k r
ended_behind ps k (Ok cut_off) = rw (append-nil ps, add-zero k) refl
ended_behind ps k (Err error) = refl

-- a token that is refused
pub walk_refused : (g : List ℕ) (at : ℕ) (s : State) (error : TrackError) (ps : List Point) (k : ℕ) (x : Result TrackView TrackError)
    → at < length g → step_at s (drop at g) ≡ Err error → x ≡ behind ps k (points_from (drop at g) s 0)
    → x ≡ walked ps k (refused_at s (drop at g) error)
walk_refused g at s error ps k x h e o =
    o ∙ ap (behind ps k) (one_refused (drop at g) s error (some_left g at h) e) ∙ ended_behind ps k (refused_at s (drop at g) error)

-- the end of a file
pub walk_end : (g : List ℕ) (at : ℕ) (s : State) (ps : List Point) (k : ℕ) (x : Result TrackView TrackError)
    → length g ≤ at → x ≡ behind ps k (points_from (drop at g) s 0) → x ≡ walked ps k (ended_at s)
unfolding points_from
walk_end g at s ps k x h o =
    o ∙ ap (λ a. behind ps k (points_from a s 0)) (drop_of_length-le g h) ∙ ended_behind ps k (ended_at s)
