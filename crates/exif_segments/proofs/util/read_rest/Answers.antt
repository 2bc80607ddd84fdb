use Rattle.std.proofs.Common.{◌≡◌, ℕ, ◌<◌, ◌-◌, ◌^◌, List, ◌++◌, length, Option, None, Some, ap, sym, ◌∙◌, append-nil, length-append, arith}
use Rattle.std.specs.Io.KnownBytes.{IsAtEnd}
use Rattle.exif_base.specs.Told.{IsFetchedOnto, TakesAll}
use Rattle.exif_segments.proofs.util.read_rest.Goals as goal

taken_all : (a b : Option (List ℕ)) (old new : List ℕ) (n : ℕ) → IsFetchedOnto a b old new n → IsAtEnd b
    → TakesAll a old new
taken_all None b old new n h e = tt
taken_all (Some xs) None old new n h e = absurd h.1
taken_all (Some xs) (Some ys) old new n h e = h.3
    ∙ ap (λ t. old ++ t) (sym (h.1 ∙ ap (λ t. h.0 ++ t) e ∙ append-nil h.0))

-- a list is shorter than the most that is requested
few : (old new bytes : List ℕ) (n : ℕ) → length bytes ≡ n → new ≡ old ++ bytes → length new < 2 ^ 63 → n < 2 ^ 64 - 1
few old new bytes n l e h = omega (arith, ap length e, length-append old bytes)

pub returns-clause-at_end : goal.returns-clause-at_end
returns-clause-at_end g c =
    let r = c.in_ok-read_at_most.ensures in
    r.end (few c.args.list.now.items c.read_at_most.new.list.items r.taken.0 c.in_ok-read_at_most.field-0 r.taken.2
    r.taken.3 (omega arith))

pub returns-clause-taken : goal.returns-clause-taken
returns-clause-taken g c =
    let r = c.in_ok-read_at_most.ensures in
    taken_all (g.R.Source.left c.args.source.now) (g.R.Source.left c.read_at_most.new.source) c.args.list.now.items
    c.read_at_most.new.list.items c.in_ok-read_at_most.field-0 r.taken
    (r.end (few c.args.list.now.items c.read_at_most.new.list.items r.taken.0 c.in_ok-read_at_most.field-0 r.taken.2
    r.taken.3 (omega arith)))
