use Rattle.std.proofs.Common.{◌≡◌, ◌∙◌, List, None, ap, map, subst, sym}
use Rattle.exif_layout.specs.Groups.{Group}
use Rattle.exif_layout.specs.Refused.{write_fault}
use Rattle.exif_layout.specs.Slots.{draft_of}
use Rattle.exif_writer.specs.Drafts.{ArePlans}
use Rattle.exif_writer.proofs.Ready.{ready_plans, sent_is}
use Rattle.exif_writer.proofs.SendRunning.{on_err}
use Rattle.exif_writer.proofs.writer.Writer.write.Goals as goal

pub send_image-requires : goal.send_image-requires
send_image-requires g c =
    let none : write_fault c.args.self.now ≡ None = sym (c.write_fault.ensures ∙ ap write_fault c.ifds.ensures) ∙ c.in_default.is in
    let P : List Group → Type 0 = λ groups. ArePlans 8 (map draft_of groups) c.in_ok-plans.plans.items in
    rw c.as_slice.ensures.value (ready_plans c.args.self.now c.in_ok-plans.plans.items none (subst P c.ifds-2.ensures c.in_ok-plans.ensures))

pub returns-in_err-send_image-clause-front : goal.returns-in_err-send_image-clause-front
returns-in_err-send_image-clause-front g c =
    let none : write_fault c.args.self.now ≡ None = sym (c.write_fault.ensures ∙ ap write_fault c.ifds.ensures) ∙ c.in_default.is in
    let P : List Group → Type 0 = λ groups. ArePlans 8 (map draft_of groups) c.in_ok-plans.plans.items in
    let same = sent_is c.order_of.result c.args.self.now c.in_ok-plans.plans.items none (subst P c.ifds-2.ensures c.in_ok-plans.ensures) in
    on_err _ _ (rw (c.as_slice.ensures.value, same, c.order_of.ensures) at (c.in_err-send_image.ensures.sends.front))

pub returns-clause-sent : goal.returns-clause-sent
returns-clause-sent g c =
    let none : write_fault c.args.self.now ≡ None = sym (c.write_fault.ensures ∙ ap write_fault c.ifds.ensures) ∙ c.in_default.is in
    let P : List Group → Type 0 = λ groups. ArePlans 8 (map draft_of groups) c.in_ok-plans.plans.items in
    let same = sent_is c.order_of.result c.args.self.now c.in_ok-plans.plans.items none (subst P c.ifds-2.ensures c.in_ok-plans.ensures) in
    rw (c.as_slice.ensures.value, same, c.order_of.ensures) at (c.in_ok-send_image.ensures.sends.sent)
