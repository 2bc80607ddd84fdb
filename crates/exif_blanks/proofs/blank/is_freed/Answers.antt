use Rattle.std.proofs.Common.{◌≡◌, take, drop, true, false, ap, sym, ◌∙◌, ◌&&◌, Bool, arith}
use Rattle.std.proofs.lemmas.Bool.Decides.{nat_tests}
use Rattle.std.proofs.lemmas.List.{take_rest}
use Rattle.std.specs.Prelude.{codes}
use Rattle.std.specs.Str.{bytes_eq}
use Rattle.exif_blanks.specs.HeifBlanks.{all_are}
use Rattle.exif_blanks.proofs.SameSteps.{freed_same}
use Rattle.exif_blanks.proofs.blank.is_freed.Goals as goal

pub returns-then-eq : goal.returns-then-eq
returns-then-eq c =
    let bytes = c.args.bytes.now in
    let named : bytes_eq (take 4 (drop 4 bytes)) (codes "free") ≡ true = sym c.eq.ensures ∙ c.if-eq.true in
    c.all_are.ensures ∙ ap (all_are 0) (take_rest bytes c.args.front)
    ∙ ap (λ (r : Bool). r && all_are 0 (drop c.args.front bytes)) (sym named)
    ∙ freed_same c.args.front bytes c.requires (grind (arith, nat_tests))

pub returns-else-eq : goal.returns-else-eq
returns-else-eq c =
    let bytes = c.args.bytes.now in
    let named : bytes_eq (take 4 (drop 4 bytes)) (codes "free") ≡ false = sym c.eq.ensures ∙ c.if-eq.false in
    c.if-eq.false
    ∙ ap (λ (r : Bool). r && all_are 0 (drop c.args.front bytes)) (sym named)
    ∙ freed_same c.args.front bytes c.requires (grind (arith, nat_tests))
