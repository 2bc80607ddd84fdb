use Rattle.std.proofs.Common.{◌≤◌, ◌-◌, ◌∙◌, [], drop, refl, arith, rules}
use Rattle.exif_containers.proofs.IsobmffAt.{keeps_all, keeps_more, list_more, list_none, moved_end}
use Rattle.exif_containers.proofs.IsobmffMeta.{body_at}
use Rattle.exif_containers.proofs.isobmff.at.read_at.Goals as goal

pub loop-missing-init : goal.loop-missing-init
loop-missing-init g c = record {
  in_range = omega arith;
  taken = list_none _ _ _ _ (omega arith) (search rules);
  kept = keeps_all _;
  count = refl;
  stream = refl;
  same = refl;
}

pub returns-then-n-eq0-clause-taken : goal.returns-then-n-eq0-clause-taken
returns-then-n-eq0-clause-taken g c =
    let was = c.loop-missing.invariant in
    let read = c.in_ok-n.ensures in
    let ends = rw c.in-Some-2.is at read.end in
    let within = was.in_range in
    body_at _ c.args.offset (c.args.len - c.loop-missing.missing) c.args.len [] c.loop-missing.bytes.items refl was.taken (omega arith)
    (λ less. moved_end _ _ _ c.in-Some.next was.stream c.in-Some.ensures.1 (ends c.if-n-eq0.true (search rules)))

pub loop-missing-preserved : goal.loop-missing-preserved
loop-missing-preserved g c =
    let was = c.loop-missing.invariant in
    let read = c.in_ok-n.ensures in
    let bound = rw c.in-Some-2.is at read.bound in
    let within : c.in-Some-2.n ≤ c.min-space.result = search rules in
    let start = was.in_range in record {
      in_range = omega arith;
      taken = list_more _ (g.R.Source.stream c.loop-missing.source) c.args.offset (c.args.len - c.loop-missing.missing) c.in-Some.next c.in-Some-2.n _ [] c.loop-missing.bytes.items _ c.fetch_at.new.buf
          (drop c.min-space.result c.loop-missing.block) was.stream c.in-Some.ensures.1 was.taken (rw c.in-Some-2.is at read.bytes) bound c.in_ok-extend_from_slice.ensures.items (omega arith);
      kept = keeps_more _ _ _ was.kept read.kept;
      count = read.count ∙ was.count;
      stream = read.stream ∙ was.stream;
      same = read.same ∙ was.same;
    }

pub returns-clause-taken : goal.returns-clause-taken
returns-clause-taken g c =
    let was = c.loop-missing.invariant in
    let within = was.in_range in
    body_at _ c.args.offset (c.args.len - c.loop-missing.missing) c.args.len [] c.loop-missing.bytes.items refl was.taken (omega arith) (λ less. absurd (omega arith))
