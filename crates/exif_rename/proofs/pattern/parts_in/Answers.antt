use Rattle.exif_rename.proofs.Parsed.{parts_next, with_parts}
use Rattle.std.proofs.Common.{◌≡◌, ◌+◌, ◌++◌, ◌<◌, ◌∷◌, [], Ok, ℕ, length, drop, arith, rules, refl, subst}
use Rattle.std.proofs.lemmas.Grind.{common_steps}
use Rattle.exif_rename.specs.Patterns.{part_at, parts_in}
use Rattle.exif_rename.proofs.pattern.parts_in.Goals as goal

pub loop-at-preserved : goal.loop-at-preserved
loop-at-preserved c =
    let within : c.loop-at.at < length c.args.all.now = omega arith in
    let none : c.loop-at.taken ≡ 0 = omega arith in
    let found : part_at c.index-all-at.result (drop (c.loop-at.at + 1) c.args.all.now) ≡ Ok (c.in-Ok.part, c.in-Ok.more) = grind (arith, common_steps) in
    let grown : c.push.new.self.items ≡ c.loop-at.parts.items ++ c.in-Ok.part ∷ [] = search rules in
    let P : ℕ → Type 0 = λ taken. parts_in 0 0 c.args.all.now ≡ with_parts c.loop-at.parts.items (parts_in taken c.loop-at.at (drop c.loop-at.at c.args.all.now)) in
    parts_next c.args.all.now (drop (c.loop-at.at + 1) c.args.all.now) c.loop-at.parts.items c.push.new.self.items c.loop-at.at c.index-all-at.result c.in-Ok.part c.in-Ok.more
    within c.index-all-at.is refl found grown (subst P none c.loop-at.invariant)
