use Rattle.std.proofs.Common.{◌≤◌, ◌-◌, ◌∙◌, length, rules}
use Rattle.exif_containers.proofs.IsobmffAt.{front_more, keeps_more}
use Rattle.exif_containers.proofs.isobmff.at.read_front_at.Goals as goal

pub loop-at-preserved : goal.loop-at-preserved
loop-at-preserved g c =
    let was = c.loop-at.invariant in
    let read = c.in_ok-n.ensures in
    let bound : c.in-Some-2.n ≤ length c.fetch_at.new.buf = rw c.in-Some-2.is at read.bound in record {
      in_range = search rules;
      taken = front_more (g.R.Source.stream c.args.source.now) (g.R.Source.stream c.loop-at.source) c.args.offset c.loop-at.at c.in-Some.next c.in-Some-2.n (length c.loop-at.buf - c.loop-at.at) c.loop-at.buf c.fetch_at.new.buf
          was.stream c.in-Some.ensures.1 was.in_range bound was.taken (rw c.in-Some-2.is at read.bytes);
      kept = keeps_more _ _ _ was.kept read.kept;
      count = read.count ∙ was.count;
      stream = read.stream ∙ was.stream;
      same = read.same ∙ was.same;
    }
