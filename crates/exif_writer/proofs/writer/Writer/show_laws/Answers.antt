use Rattle.std.proofs.Common.{List, subst}
use Rattle.exif_layout.specs.Groups.{Group}
use Rattle.exif_layout.specs.Image.{image}
use Rattle.exif_layout.specs.Ranged.{AreRanged}
use Rattle.exif_base.specs.Orders.{order_named}
use Rattle.exif_writer.proofs.Marks.{begins_image}
use Rattle.exif_writer.proofs.writer.Writer.show_laws.Goals as goal

ranged : (c : goal.After-tiff_data_stand_alone) → AreRanged c.args.self.now
ranged c = let P : List Group → Type 0 = AreRanged in subst P c.self.view_is c.self.invariant

pub returns-clause-blocks : goal.returns-clause-blocks
returns-clause-blocks c = c.images_are_laid_out.ensures.blocks (order_named c.args.little_endian) c.args.self.now (ranged c) c.requires

pub returns-clause-read_back : goal.returns-clause-read_back
returns-clause-read_back c = λ plain few.
    c.images_read_back.ensures.whole (order_named c.args.little_endian) c.args.self.now (record { ranged = ranged c; plain = plain; few = few; written = c.requires })

pub returns-clause-first_eight : goal.returns-clause-first_eight
returns-clause-first_eight c = λ plain. c.images_read_back.ensures.eight (order_named c.args.little_endian) c.args.self.now (ranged c) plain c.requires

pub returns-clause-rewriting : goal.returns-clause-rewriting
returns-clause-rewriting c = c.images_are_canonical.ensures.rewriting (order_named c.args.little_endian) c.args.self.now (ranged c) c.requires

pub returns-clause-equality : goal.returns-clause-equality
returns-clause-equality c = λ plain few.
    c.images_are_canonical.ensures.equality (order_named c.args.little_endian) c.args.self.now (record { ranged = ranged c; plain = plain; few = few; written = c.requires })

pub returns-clause-orders : goal.returns-clause-orders
returns-clause-orders c = λ plain. c.images_are_canonical.ensures.orders c.args.self.now (ranged c) plain c.requires

pub returns-clause-each_order : goal.returns-clause-each_order
returns-clause-each_order c = λ plain few.
    c.images_are_canonical.ensures.each_order (order_named c.args.little_endian) c.args.self.now (record { ranged = ranged c; plain = plain; few = few; written = c.requires })

pub returns-clause-contained : goal.returns-clause-contained
returns-clause-contained c =
    c.tiff_data_stand_alone.ensures.whole (image (order_named c.args.little_endian) c.args.self.now) (begins_image (order_named c.args.little_endian) c.args.self.now)
