use Rattle.std.proofs.Common.{◌≡◌, ◌+◌, ◌/◌, ◌^◌, [], ◌∷◌, ◌++◌, refl, sym, ap, ◌∙◌, rules, arith, append_assoc, ne_eqb}
use Rattle.std.proofs.lemmas.Grind.{common_steps}
use Rattle.std.proofs.lemmas.Bool.Decides.{nat_tests}
use Rattle.std.proofs.Output.{has_written_append, has_written_of_eq}
use Rattle.exif_text.specs.Decimal.{fraction_text, in_digits, without_last_zeros}
use Rattle.exif_text.proofs.DecimalLemmas.{fraction_last, fraction_more}
use Rattle.exif_text.proofs.decimal.write_fraction.Goals as goal

pub returns-then-billionths-eq0 : goal.returns-then-billionths-eq0
unfolding fraction_text
returns-then-billionths-eq0 g c = grind (arith, nat_tests, common_steps)

pub digits-init : goal.digits-init
digits-init g c = (8, refl, omega arith, omega arith, omega arith, [], refl, search rules)

pub returns-then-left-eq0 : goal.returns-then-left-eq0
unfolding fraction_text
returns-then-left-eq0 g c plain ok =
    let (k, place, _, _, some, done, whole, wrote) = c.digits.invariant in
    let last = fraction_last k c.digits.left c.digits.place place some c.if-left-eq0.true in
    let digits : done ++ (48 + c.digits.left / c.digits.place) ∷ [] ≡ without_last_zeros (in_digits 9 c.args.billionths) = ap (λ t. done ++ t) (sym last) ∙ whole in
    let point = c.in_ok-write_str.ensures.writes plain (search rules) in
    let text : 46 ∷ (done ++ (48 + c.digits.left / c.digits.place) ∷ []) ≡ fraction_text c.args.billionths =
    rw (ne_eqb _ _ c.if-billionths-eq0.false) (ap (λ t. 46 ∷ t) digits) in
    has_written_of_eq _ _ _ _ _ text (has_written_append _ _ _ _ _ _ point (has_written_append _ _ _ _ _ _ (wrote point.plain) (search rules)))

pub digits-preserved : goal.digits-preserved
digits-preserved g c =
    let (k, place, _, _, some, done, whole, wrote) = c.digits.invariant in
    let (j, tenfold, more) = fraction_more k c.digits.left c.digits.place place c.if-left-eq0.false in
    let power = 10 ^ j in (
      j,
      omega arith,
      omega arith,
      omega arith,
      omega arith,
      done ++ (48 + c.digits.left / c.digits.place) ∷ [],
      append_assoc done _ _ ∙ ap (λ t. done ++ t) (sym more) ∙ whole,
      λ plain. has_written_append _ _ _ _ _ _ (wrote plain) (search rules),
    )
