use Rattle.std.proofs.Common.{◌≡◌, ◌<◌, ◌-◌, ◌∙◌, sym, ap, true, false, length, length-drop, drop, arith}
use Rattle.std.proofs.lemmas.List.{drop-drop, take_rest}
use Rattle.exif_locations.specs.XmpNames.{begins}
use Rattle.exif_geotag.specs.Formats.{holds}
use Rattle.exif_geotag.proofs.FormatSteps.{holds_here, holds_later}
use Rattle.exif_geotag.proofs.format.holds.Goals as goal

pub returns-then-begins : goal.returns-then-begins
returns-then-begins c =
    let g = c.args.bytes.now in
    let at = c.loop-at.at in
    let left : length (drop at g) ≡ length g - at = length-drop at g in
    let some : 0 < length (drop at g) = omega arith in
    let yes : begins (drop at g) c.args.word.now ≡ true = ap (λ rest. begins rest c.args.word.now) (sym (take_rest g at)) ∙ (sym c.begins.ensures ∙ c.if-begins.true) in
    sym (c.loop-at.invariant ∙ holds_here c.args.word.now (drop at g) some yes)

pub loop-at-preserved : goal.loop-at-preserved
loop-at-preserved c =
    let g = c.args.bytes.now in
    let at = c.loop-at.at in
    let left : length (drop at g) ≡ length g - at = length-drop at g in
    let some : 0 < length (drop at g) = omega arith in
    let no : begins (drop at g) c.args.word.now ≡ false = ap (λ rest. begins rest c.args.word.now) (sym (take_rest g at)) ∙ (sym c.begins.ensures ∙ c.if-begins.false) in
    c.loop-at.invariant ∙ (holds_later c.args.word.now (drop at g) some no ∙ ap (λ rest. holds c.args.word.now rest) (drop-drop 1 at g))
