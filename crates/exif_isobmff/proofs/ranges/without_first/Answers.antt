use Rattle.std.proofs.Common.{◌≡◌, ◌∷◌, ◌-◌, ap, sym, ◌∙◌, cond, rules}
use Rattle.std.proofs.lemmas.Bool.{lt-ltb}
use Rattle.exif_isobmff.specs.Extents.{without_first, without_front}
use Rattle.exif_isobmff.proofs.ranges.without_first.Goals as goal

pub returns-then-left-first : goal.returns-then-left-first
returns-then-left-first c =
    let split : c.loop-first.rest.now ≡ c.in-Some.first.now ∷ c.in-Some.others.now = search rules in
    let kept : c.extend_from_slice.new.self.items ≡ without_front c.loop-first.left c.in-Some.first.now ∷ c.in-Some.others.now = search rules in
    kept
    ∙ sym (ap (λ t. cond t (without_front c.loop-first.left c.in-Some.first.now ∷ c.in-Some.others.now) (without_first (c.loop-first.left - c.in-Some.first.now.len) c.in-Some.others.now)) (lt-ltb c.loop-first.left c.in-Some.first.now.len c.if-left-first.true))
    ∙ sym (ap (without_first c.loop-first.left) split) ∙ c.loop-first.invariant
