use Rattle.std.proofs.Common.{◌≡◌, length, take, drop, true, false, ap, sym, ◌∙◌, ◌&&◌, Bool, arith}
use Rattle.std.proofs.lemmas.Bool.Decides.{nat_tests}
use Rattle.std.proofs.lemmas.List.{take_rest}
use Rattle.std.specs.Str.{bytes_eq}
use Rattle.exif_blanks.specs.HeifBlanks.{all_are}
use Rattle.exif_blanks.proofs.SameSteps.{padded_same, short_same}
use Rattle.exif_blanks.proofs.blank.is_padded.Goals as goal

pub returns-then-eq : goal.returns-then-eq
returns-then-eq c =
    let text = c.args.text.now in
    let bytes = c.args.bytes.now in
    let begins : bytes_eq text (take (length text) bytes) ≡ true = sym c.eq.ensures ∙ c.if-eq.true in
    c.all_are.ensures ∙ ap (all_are c.args.b) (take_rest bytes (length text))
    ∙ ap (λ (r : Bool). r && all_are c.args.b (drop (length text) bytes)) (sym begins)
    ∙ sym (padded_same text c.args.b bytes (grind (arith, nat_tests)))

pub returns-else-eq : goal.returns-else-eq
returns-else-eq c =
    let text = c.args.text.now in
    let bytes = c.args.bytes.now in
    let begins : bytes_eq text (take (length text) bytes) ≡ false = sym c.eq.ensures ∙ c.if-eq.false in
    c.if-eq.false
    ∙ ap (λ (r : Bool). r && all_are c.args.b (drop (length text) bytes)) (sym begins)
    ∙ sym (padded_same text c.args.b bytes (grind (arith, nat_tests)))

pub returns-else-text-bytes : goal.returns-else-text-bytes
returns-else-text-bytes c =
    c.all_are-else-text-bytes.ensures
    ∙ sym (short_same c.args.text.now c.args.b c.args.bytes.now (grind (arith, nat_tests)))
