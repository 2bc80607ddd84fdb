use Rattle.exif_formats.proofs.Cr3Found.{none_behind}
use Rattle.exif_formats.proofs.raw.cr3.walk.find_box.Goals as goal

pub returns-then-not-branch-clause-found : goal.returns-then-not-branch-clause-found
returns-then-not-branch-clause-found g c =
    let h = c.if-not-branch.true in
    none_behind c.args.name.now c.args.usertype.now (g.R.Source.left c.args.source.now) (g.R.Source.left c.skip_brand.new.source) (g.R.Source.left c.skip_brand.new.source)
    (rw c.if-not-branch.true at c.in_ok-skip_brand.ensures.skipped)
