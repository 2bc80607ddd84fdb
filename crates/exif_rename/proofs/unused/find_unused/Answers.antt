use Rattle.exif_rename.proofs.Chosen.{unused_hit, unused_miss, unused_none}
use Rattle.exif_rename.specs.RenameRequests.{candidate}
use Rattle.std.proofs.Common.{◌≡◌, ◌++◌, ◌<◌, ◌≤◌, ◌∙◌, Some, true, false, ap, arith, rules, subst, sym}
use Rattle.std.specs.BTreeSet.{contains_text}
use Rattle.std.specs.String.{string_bytes}
use Rattle.exif_rename.proofs.unused.find_unused.Goals as goal

pub returns-then-not-is_given : goal.returns-then-not-is_given
returns-then-not-is_given c =
    let within : c.loop-number.number < 100000 = omega arith in
    let text : string_bytes c.in_ok-path.path ≡ candidate c.args.base.now c.loop-number.number ++ c.args.ending.now = search rules in
    let path : c.as_str-in-loop-number.result.now ≡ candidate c.args.base.now c.loop-number.number ++ c.args.ending.now = search rules in
    let off : c.is_given.result ≡ false = search rules in
    ap Some text
    ∙ sym (unused_hit (contains_text c.args.given.now) c.args.base.now c.args.ending.now c.loop-number.number within c.loop-number.invariant
    (subst (λ q. contains_text c.args.given.now q ≡ false) path (sym c.is_given.ensures ∙ off)))

pub loop-number-preserved : goal.loop-number-preserved
loop-number-preserved c =
    let within : c.loop-number.number < 100000 = omega arith in
    let path : c.as_str-in-loop-number.result.now ≡ candidate c.args.base.now c.loop-number.number ++ c.args.ending.now = search rules in
    let on_ : c.is_given.result ≡ true = search rules in
    unused_miss (contains_text c.args.given.now) c.args.base.now c.args.ending.now c.loop-number.number within c.loop-number.invariant
    (subst (λ q. contains_text c.args.given.now q ≡ true) path (sym c.is_given.ensures ∙ on_))

pub returns : goal.returns
returns c =
    let all : 100000 ≤ c.loop-number.number = omega arith in
    sym (unused_none (contains_text c.args.given.now) c.args.base.now c.args.ending.now c.loop-number.number all c.loop-number.invariant)
