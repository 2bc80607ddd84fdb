use Rattle.std.proofs.Common.{◌≡◌, subst, rules, leb, leb-true, leb-false, true, false}
use Rattle.std.specs.List.Sorted.{IsPartitionPoint}
use Rattle.std.proofs.lemmas.List.Sorted.{IsPartitionPoint-from_clause, IsPartitionedBy-leb}
use Rattle.exif_types.specs.Located.{EndsUpTo, greatest_of}
use Rattle.exif_types.proofs.index.FieldIndex.count_up_to.Goals as goal

pub returns-clause-parted : goal.returns-clause-parted
returns-clause-parted c =
    let xs = c.args.self.now.entries.items in
    let most = c.entry_of-greatest.result in
    let same : most ≡ greatest_of c.args.key = c.entry_of-greatest.ensures in
    let point : IsPartitionPoint (λ y. leb y most ≡ true) (λ y. leb y most ≡ false) xs c.partition_point.result =
    IsPartitionPoint-from_clause (λ y. leb y most) xs _ (rw c.deref.ensures.value at c.partition_point.ensures.partitioned)
    (IsPartitionedBy-leb (λ y. y) xs most c.requires.ascending) (λ a r q k. search rules) in
    subst (λ n. EndsUpTo n xs c.partition_point.result) same
    (λ k d a b. leb-true _ most (point.0 k d a b), λ k d a b. leb-false _ most (point.1 k d a b))
