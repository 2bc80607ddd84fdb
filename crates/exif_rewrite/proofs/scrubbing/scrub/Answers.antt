use Rattle.std.proofs.Common.{◌≡◌, ◌∙◌, List, None, Result, Ok, Err, OnOk, ap, subst}
use Rattle.exif_types.specs.Failures.{Failure}
use Rattle.exif_layout.specs.Groups.{Group}
use Rattle.exif_layout.specs.Ranged.{AreRanged}
use Rattle.exif_layout.specs.Refused.{write_fault}
use Rattle.exif_layout.specs.Rewriting.{pushed_all}
use Rattle.exif_layout.specs.Scrubbing.{kept, scrubbed, IsScrubbed}
use Rattle.exif_base.specs.Orders.{order_named}
use Rattle.exif_base.proofs.Sent.{keeps_same, front_none}
use Rattle.exif_rewrite.proofs.scrubbing.scrub.Goals as goal
use Rattle.exif_writer.proofs.SendRunning.{on_err}

-- what follows where a call succeeded
on_ok : (r : Result (Unit {0}) Failure) (P Q : Type 0) → OnOk r P → (P → Q) → OnOk r Q
on_ok (Ok u) P Q h f = f h
on_ok (Err e) P Q h f = tt

pub returns-in_err-push_kept-clause-front : goal.returns-in_err-push_kept-clause-front
returns-in_err-push_kept-clause-front g c = on_err _ _ (front_none _ _ _ (keeps_same _))

pub returns-clause-scrubbed : goal.returns-clause-scrubbed
returns-clause-scrubbed g c =
    let fields = c.args.exif.now.fields in
    let same : c.push_kept.new.writer ≡ scrubbed fields = c.in_ok-push_kept.ensures.pushed ∙ ap (pushed_all (kept fields)) c.new-writer.ensures in
    let R : List Group → Type 0 = AreRanged in
    let F : List Group → Type 0 = λ groups. write_fault groups ≡ None in
    on_ok c.write.result (write_fault c.push_kept.new.writer ≡ None) (IsScrubbed (order_named c.args.little_endian) fields) c.write.ensures.accepted
    (λ accepted. c.scrubbing_twice_is_once.ensures.images (order_named c.args.little_endian) fields c.fields.ensures.read (subst R same c.write.ensures.ranged) (subst F same accepted))
