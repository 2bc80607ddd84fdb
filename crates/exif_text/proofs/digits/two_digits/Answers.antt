use Rattle.std.proofs.Common.{◌≡◌, ◌∙◌, sym, ap, ℕ, ◌+◌, ◌-◌, take, drop, arith}
use Rattle.exif_text.specs.Digits.{are_two_at, number_in, two_at}
use Rattle.exif_text.proofs.DigitsLemmas.{two_read, some_read, none_read}
use Rattle.exif_text.proofs.digits.two_digits.Goals as goal

-- two bytes are borrowed
two_long : (from : ℕ) → from + 2 - from ≡ 2
two_long from = omega arith

pub returns-in-Ok : goal.returns-in-Ok
returns-in-Ok c =
    let read = two_read c.args.bytes.now c.args.from c.requires in
    some_read (are_two_at c.args.bytes.now c.args.from) (two_at c.args.bytes.now c.args.from) c.in-Ok.number
    (sym read ∙ ap (λ (n : ℕ). number_in (take n (drop c.args.from c.args.bytes.now))) (sym (two_long c.args.from)) ∙ sym c.atou16.ensures ∙ c.in-Ok.is)

pub returns-in-Err : goal.returns-in-Err
returns-in-Err c =
    let read = two_read c.args.bytes.now c.args.from c.requires in
    none_read (are_two_at c.args.bytes.now c.args.from) (two_at c.args.bytes.now c.args.from) c.in-Err.field-0
    (sym read ∙ ap (λ (n : ℕ). number_in (take n (drop c.args.from c.args.bytes.now))) (sym (two_long c.args.from)) ∙ sym c.atou16.ensures ∙ c.in-Err.is)
