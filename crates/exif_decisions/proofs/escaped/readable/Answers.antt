use Rattle.std.proofs.Common.{◌≡◌, ◌∙◌, ◌++◌, arith, drop, length, rules, string_bytes, tests}
use Rattle.std.proofs.lemmas.Bool.Decides.{nat_tests}
use Rattle.exif_decisions.specs.Escaping.{marked_first, readable}
use Rattle.exif_decisions.proofs.ReadableLemmas.{all_read, one_front, readable_utf8}
use Rattle.exif_decisions.proofs.escaped.readable.Goals as goal

pub loop-rest-preserved : goal.loop-rest-preserved
loop-rest-preserved c =
    let front = c.front_of.result.0.now in
    let behind = c.front_of.result.1.now in
    let step : ((string_bytes c.loop-rest.text ++ front) ++ marked_first behind) ++ readable (drop 1 behind) ≡ readable c.args.name.now =
    one_front (string_bytes c.loop-rest.text) c.loop-rest.rest.now c.args.name.now front behind c.front_of.ensures.front c.front_of.ensures.behind c.loop-rest.invariant in
    cc (c.in_ok-push_str-2.ensures.bytes, c.in_ok-push_str.ensures.bytes, c.as_str.ensures.value, c.in_ok-marked_first.ensures, c.without_first-rest.ensures)

pub returns-clause-text : goal.returns-clause-text
returns-clause-text c =
    let none : length c.loop-rest.rest.now ≡ 0 = first_of (search (rules, tests), grind (arith, nat_tests)) in
    all_read (string_bytes c.loop-rest.text) c.loop-rest.rest.now c.args.name.now none c.loop-rest.invariant

pub returns-clause-utf8 : goal.returns-clause-utf8
returns-clause-utf8 c = λ utf8.
    let none : length c.loop-rest.rest.now ≡ 0 = first_of (search (rules, tests), grind (arith, nat_tests)) in
    all_read (string_bytes c.loop-rest.text) c.loop-rest.rest.now c.args.name.now none c.loop-rest.invariant
    ∙ readable_utf8 c.args.name.now utf8
