use Rattle.std.proofs.Common.{◌++◌, ap, ◌∙◌}
use Rattle.std.proofs.Math.Utf8.{encode}
use Rattle.std.specs.Prelude.{string_bytes}
use Rattle.exif_iptc.proofs.TextSteps.{one_more_char}
use Rattle.exif_iptc.proofs.text.latin_text.Goals as goal

pub loop-i-preserved : goal.loop-i-preserved
loop-i-preserved c =
    c.in_ok-push.ensures.bytes ∙ (ap (λ ch. string_bytes c.loop-i.text ++ encode ch) c.latin_char.ensures
    ∙ one_more_char c.args.bytes.now c.loop-i.i (string_bytes c.loop-i.text) c.loop-i-test.true c.loop-i.invariant)
