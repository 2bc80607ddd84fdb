use Rattle.std.proofs.Common.{◌≡◌, ◌∙◌, ℕ, List, false, subst, sym}
use Rattle.exif_change.specs.Profiles.{begins_color}
use Rattle.exif_change.proofs.ColorBoxes.{not_here}
use Rattle.exif_change.proofs.profile.has_color_box.Goals as goal

pub loop-at-preserved : goal.loop-at-preserved
loop-at-preserved c =
    c.loop-at.invariant
    ∙ not_here c.args.file.now c.loop-at.at c.loop-at-test.true
    (subst (λ (t : List ℕ). begins_color t ≡ false) c.bytes_from.ensures
    (sym c.begins_color.ensures ∙ c.if-begins_color.false))
