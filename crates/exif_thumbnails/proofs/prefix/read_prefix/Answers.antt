use Rattle.std.proofs.Common.{◌≡◌, ℕ, ◌<◌, ◌≤◌, ◌⊎◌, inl, inr, List, [], ◌++◌, length, take, Option, None, Some, IfSome, sym, ap, ◌∙◌, arith, append-nil}
use Rattle.std.proofs.lemmas.Bool.{cases_lt}
use Rattle.std.proofs.lemmas.List.{take_at, take_all}
use Rattle.std.specs.Io.KnownBytes.{IsAtEnd}
use Rattle.exif_base.specs.Told.{IsFetchedOnto}
use Rattle.exif_thumbnails.proofs.prefix.read_prefix.Goals as goal

-- the first bytes of some with others behind them, which there are only where the first are so many
front_first : (most : ℕ) (front rest : List ℕ) → length front ≤ most → (length front < most → rest ≡ []) → take most (front ++ rest) ≡ front
front_first most front rest bound end = by (cases_lt (length front) most)
  where
    by : (length front < most) ⊎ (most ≤ length front) → take most (front ++ rest) ≡ front
    by (inl lt) = ap (λ (t : List ℕ). take most (front ++ t)) (end lt) ∙ ap (take most) (append-nil front) ∙ take_all most front bound
    by (inr le) = take_at front rest most (omega arith)

-- what was read up to a length is the prefix of that length
prefix_read : (most n : ℕ) (before after : Option (List ℕ)) (old prefix : List ℕ) → old ≡ [] → IsFetchedOnto before after old prefix n → n ≤ most → (n < most → IsAtEnd after)
    → IfSome before (λ bytes. prefix ≡ take most bytes)
prefix_read most n None after old prefix none read bound end = tt
prefix_read most n (Some xs) None old prefix none read bound end = absurd read.1
prefix_read most n (Some xs) (Some ys) old prefix none read bound end =
    let len : length read.0 ≡ n = read.2 in
    let first = front_first most read.0 ys (omega arith) (λ lt. end (omega arith)) in
    read.3 ∙ ap (λ (o : List ℕ). o ++ read.0) none ∙ sym first ∙ sym (ap (take most) read.1)

pub returns-clause-reads : goal.returns-clause-reads
returns-clause-reads g c =
    prefix_read c.args.most c.in_ok-read_at_most.field-0 (g.R.Source.left c.args.source.now)
    (g.R.Source.left c.read_at_most.new.source) c.new-prefix.result.items
    c.read_at_most.new.list.items c.new-prefix.ensures.items c.in_ok-read_at_most.ensures.taken
    c.in_ok-read_at_most.ensures.bound c.in_ok-read_at_most.ensures.end
