use Rattle.std.proofs.Common.{◌≡◌, ◌∙◌, ℕ, ap, drop, false, rules, subst, sym, true}
use Rattle.std.specs.Prelude.{nat_eq}
use Rattle.std.specs.List.{starts_with}
use Rattle.std.specs.Str.{IsCharBoundary}
use Rattle.std.proofs.lemmas.Str.Pattern.{starts_text}
use Rattle.exif_inputs.proofs.requests.ending_behind.Goals as goal

pub returns-in-Some : goal.returns-in-Some
returns-in-Some c =
    let path = c.args.path.now in
    let stem = c.args.stem.now in
    let cut = c.in-Some.ensures.cases in
    let P : ℕ → Type 0 = λ n. IsCharBoundary path n in
    let begins : starts_with nat_eq path stem ≡ true = sym (starts_text true stem path (cut.0, cut.1, subst P (sym cut.1.0) cut.1.2)) in
    rw begins (cut.2 ∙ ap (λ (n : ℕ). drop n path) cut.1.0)

pub returns-in-None : goal.returns-in-None
returns-in-None c =
    let path = c.args.path.now in
    let stem = c.args.stem.now in
    let other : starts_with nat_eq path stem ≡ false = sym (starts_text false stem path c.in-None.ensures.cases) in
    rw other (search rules)
