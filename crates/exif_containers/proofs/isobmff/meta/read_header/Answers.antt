use Rattle.std.proofs.Common.{◌≡◌, ◌≤◌, ◌+◌, Some, length, take, arith, rules}
use borrow.Rule.Slice.PartMut.{post_of}
use Rattle.exif_base.specs.Told.{left_behind}
use Rattle.exif_containers.proofs.IsobmffAt.{moved}
use Rattle.exif_containers.proofs.IsobmffMeta.{header_taken}
use Rattle.exif_containers.proofs.isobmff.meta.read_header.Goals as goal

pub returns-clause-taken : goal.returns-clause-taken
returns-clause-taken g c =
    let size = c.read_front_at.auto.buf in
    let stream = g.R.Source.stream c.args.source.now in
    let bound : c.in-Some.n ≤ length c.read_front_at.new.buf = rw c.in-Some.is at c.in_ok-n.ensures.bound in
    let more : c.in-Some-2.more ≤ length c.read_front_at-2.new.buf = rw c.in-Some-2.is at c.in_ok-more.ensures.bound in
    let eight : c.in-Some.n ≡ 8 = search rules in
    header_taken (left_behind (Some c.args.at) stream) (left_behind (Some (c.args.at + c.in-Some.n)) stream) _ c.in-Some.n c.in-Some-2.more c.read_front_at.new.buf (post_of 0 8 c.args.buf.now) c.read_front_at-2.new.buf
    eight bound more (rw c.in-Some.is at c.in_ok-n.ensures.taken)
    (moved stream (g.R.Source.stream c.read_front_at.new.source) (c.args.at + c.in-Some.n) c.in-Some-checked_add.next c.in-Some-2.more _ (take c.in-Some-2.more c.read_front_at-2.new.buf) c.in_ok-n.ensures.stream
    (omega (arith, eight, c.in-Some-checked_add.ensures.1)) (omega arith) (rw c.in-Some-2.is at c.in_ok-more.ensures.taken))
