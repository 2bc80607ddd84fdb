use Rattle.std.proofs.Common.{◌∙◌, refl, arith, rules}
use Rattle.exif_containers.proofs.IsobmffAt.{keeps_all, keeps_more}
use Rattle.exif_containers.proofs.IsobmffMeta.{body_of, finds_at, passed_of, taken_of, walks_at, walks_from}
use Rattle.exif_containers.proofs.isobmff.meta.find_meta.Goals as goal

pub loop-n-init : goal.loop-n-init
loop-n-init g c = record {
  in_range = omega arith;
  walked = walks_from _ _ (omega arith);
  kept = keeps_all _;
  stream = refl;
  count = refl;
  same = refl;
}

pub returns-in-Meta-clause-found : goal.returns-in-Meta-clause-found
returns-in-Meta-clause-found g c =
    let was = c.loop-n.invariant in
    let bound = rw c.in-Some.is at c.in_ok-n.ensures.bound in
    finds_at (λ v. v.items) c.in_ok-found.found c.loop-n.seen (g.R.Source.stream c.args.source.now) c.args.origin c.loop-n.at c.in-Some.n c.in-Some-checked_add.body c.in-Some-header_of.header c.read_header.new.buf was.walked
    (taken_of _ _ c.loop-n.at c.in-Some.n _ was.stream (rw c.in-Some.is at c.in_ok-n.ensures.taken)) bound c.in-Some-header_of.ensures.header c.in-Some-header_of.ensures.len c.in-Meta.is (search rules)
    (body_of (λ v. v.items) _ _ c.in_ok-found.found c.in-Some-header_of.header.len c.in-Some-checked_add.body (c.in_ok-n.ensures.stream ∙ was.stream) c.in_ok-found.ensures.taken) c.in_ok-found.ensures.whole c.in-Some-checked_add.ensures.1

pub loop-n-preserved : goal.loop-n-preserved
loop-n-preserved g c =
    let was = c.loop-n.invariant in
    let bound = rw c.in-Some.is at c.in_ok-n.ensures.bound in
    let within = was.in_range in record {
      in_range = omega (arith, c.in-Some-checked_add.ensures.1, c.in-Some-checked_add-2.ensures.1);
      walked = walks_at c.loop-n.seen c.in-Some-2.now (g.R.Source.stream c.args.source.now) c.args.origin c.loop-n.at c.in-Some.n c.in-Some-checked_add.body c.in-Some-checked_add-2.end c.in-Some-header_of.header c.read_header.new.buf
          was.in_range was.walked (taken_of _ _ c.loop-n.at c.in-Some.n _ was.stream (rw c.in-Some.is at c.in_ok-n.ensures.taken)) bound c.in-Some-header_of.ensures.header c.in-Some-header_of.ensures.len c.in_default-kind.not-Meta
          (passed_of _ _ c.in-Some-header_of.header c.loop-n.seen c.in-Some-2.now c.in-Some-checked_add.body (c.in_ok-n.ensures.stream ∙ was.stream) (rw c.in-Some-2.is at c.in_ok-now.ensures.passed)) c.in-Some-checked_add.ensures.1 c.in-Some-checked_add-2.ensures.1;
      kept = keeps_more _ _ _ was.kept (keeps_more _ _ _ c.in_ok-n.ensures.kept c.in_ok-now.ensures.kept);
      stream = search rules;
      count = search rules;
      same = search rules;
    }
