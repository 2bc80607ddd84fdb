use Rattle.std.proofs.Common.{rules}
use Rattle.exif_catalog_file.specs.Shown.{row_texts}
use Rattle.exif_gathering.proofs.PageLemmas.{adds_picture}
use Rattle.exif_gathering.proofs.page.PageVisitor.visit.Goals as goal

pub returns : goal.returns
returns g c = record {
  visited = adds_picture c.add.result c.args.self.now.parts c.thumbnail_in.new.self.parts c.add.new.self (row_texts c.args.picture.now)
      c.entry_of-entry.result c.thumbnail_in.ensures.parts c.thumbnail_in.ensures.worst (search rules) c.add.ensures;
}
