use Rattle.std.proofs.Common.{ℕ, List, ap, length, arith, ◌<◌, ◌≤◌}
use Rattle.std.specs.Prelude.{max}
use Rattle.exif_types.specs.ValueTypes.{count_of}
use Rattle.exif_layout.specs.Encoding.{encode}
use Rattle.exif_edit.proofs.SetSteps.{edit_outside, edit_far, edit_long, edit_many, edit_fits}
use Rattle.exif_edit.proofs.SetSound.{edit_fits_in, value_fits}
use Rattle.exif_edit.proofs.set.make_edit.Goals as goal

pub returns-then-bytes-entry-clause-answer : goal.returns-then-bytes-entry-clause-answer
returns-then-bytes-entry-clause-answer c =
    edit_outside c.args.order c.args.value.now c.args.entry c.args.bytes.now c.if-bytes-entry.true

pub returns-then-bytes-space-clause-answer : goal.returns-then-bytes-space-clause-answer
returns-then-bytes-space-clause-answer c =
    edit_far c.args.order c.args.value.now c.args.entry c.args.bytes.now c.value_space-space.result
    c.if-bytes-entry.false c.value_space-space.ensures.value c.if-bytes-space.true

pub returns-in_default-clause-answer : goal.returns-in_default-clause-answer
returns-in_default-clause-answer c =
    let h : 4294967295 < count_of c.args.value.now = omega (arith, c.in_default.ensures) in
    edit_many c.args.order c.args.value.now c.args.entry c.args.bytes.now c.value_space-space.result
    c.if-bytes-entry.false c.value_space-space.ensures.value c.if-bytes-space.false h

pub returns-then-max-len-clause-answer : goal.returns-then-max-len-clause-answer
returns-then-max-len-clause-answer c =
    let t = ap (λ (xs : List ℕ). length xs) c.in_ok-encoded.ensures in
    let few : count_of c.args.value.now ≤ 4294967295 = omega (arith, c.in-Some.ensures.0) in
    let long : max 4 c.value_space-space.result.len < length (encode c.args.order c.args.value.now) =
    omega (arith, t, c.max.ensures, c.len.ensures, c.if-max-len.true) in
    edit_long c.args.order c.args.value.now c.args.entry c.args.bytes.now c.value_space-space.result
    c.if-bytes-entry.false c.value_space-space.ensures.value c.if-bytes-space.false few long

pub returns-clause-answer : goal.returns-clause-answer
returns-clause-answer c =
    let t = ap (λ (xs : List ℕ). length xs) c.in_ok-encoded.ensures in
    let few : count_of c.args.value.now ≤ 4294967295 = omega (arith, c.in-Some.ensures.0) in
    let fits : length (encode c.args.order c.args.value.now) ≤ max 4 c.value_space-space.result.len =
    omega (arith, t, c.max.ensures, c.len.ensures, c.if-max-len.false) in
    edit_fits c.args.order c.args.value.now c.args.entry c.args.bytes.now
    c.in_ok-patches.patches.items c.value_space-space.result c.if-bytes-entry.false
    c.value_space-space.ensures.value c.if-bytes-space.false few fits c.in_ok-patches.ensures

pub returns-clause-within : goal.returns-clause-within
returns-clause-within c =
    let answer = returns-clause-answer c in
    value_fits c.args.order c.args.value.now c.args.entry c.args.bytes.now
    c.in_ok-patches.patches.items
    (edit_fits_in c.args.order c.args.value.now c.args.entry c.args.bytes.now
    c.in_ok-patches.patches.items answer)
