use Rattle.std.proofs.Common.{◌≡◌, arith, rules, leb, leb-true, leb-false, true, false}
use Rattle.std.specs.List.Sorted.{IsPartitionPoint}
use Rattle.std.proofs.lemmas.List.Sorted.{IsPartitionPoint-from_clause, IsPartitionedBy-leb}
use Rattle.exif_geotag.specs.declared.point.Point.{Point}
use Rattle.exif_geotag.proofs.search.reached.Goals as goal

pub returns : goal.returns
returns c =
    let xs = c.args.points.now in
    let most = c.args.time in
    let point : IsPartitionPoint (λ y. leb y.time most ≡ true) (λ y. leb y.time most ≡ false) xs c.partition_point.result =
    IsPartitionPoint-from_clause (λ (y : Point). leb y.time most) xs _ c.partition_point.ensures.partitioned
    (IsPartitionedBy-leb (λ (y : Point). y.time) xs most c.requires) (λ a r q k. search rules) in
    record {
      within = c.partition_point.ensures.bound;
      before = λ k d h. leb-true _ most (point.0 k d (omega arith) h);
      after = λ k d l h. leb-false _ most (point.1 k d l h);
    }
