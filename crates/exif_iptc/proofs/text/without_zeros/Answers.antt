use Rattle.std.proofs.Common.{◌≡◌, sym, refl, ◌∙◌, arith}
use Rattle.exif_iptc.proofs.TextSteps.{other_before, zero_before}
use Rattle.exif_iptc.proofs.text.without_zeros.Goals as goal
use Rattle.exif_iptc.proofs.text.without_zeros.Goals.{then-loop-end-test+else-bytes-end-eq0, else-loop-end-test}

pub loop-end-preserved : goal.loop-end-preserved
loop-end-preserved c = record {
  same = c.loop-end.invariant.same ∙ zero_before c.args.bytes.now c.loop-end.end c.loop-end-test.true c.loop-end.invariant.within c.if-bytes-end-eq0.true;
  within = omega arith;
}

pub returns : goal.returns
returns c =
    elim c.loop-end-test.branch [
      | then-loop-end-test+else-bytes-end-eq0 w ↦ sym (c.loop-end.invariant.same ∙ other_before c.args.bytes.now c.loop-end.end w.loop-end-test.true c.loop-end.invariant.within w.if-bytes-end-eq0.false)
      | else-loop-end-test w ↦ sym (c.loop-end.invariant.same ∙ (let e : c.loop-end.end ≡ 0 = omega arith in rw e refl))
    ]
