use Rattle.std.proofs.Common.{Ok, ap, ◌∙◌, sym}
use Rattle.exif_base.specs.Orders.{order_named}
use Rattle.exif_tiff.specs.Answers.{raw_answer, shown}
use Rattle.exif_tiff.specs.Trace.{header}
use Rattle.exif_formats.specs.Cr3Steps.{parts_view}
use Rattle.exif_formats.proofs.Joined.{all_say}
use Rattle.exif_formats.proofs.cr3.parse_all.Goals as goal

pub returns : goal.returns
returns c =
    let first = c.in_ok-primary.primary in
    let next = c.in_ok-with_exif.with_exif in
    let all = c.in_ok-all.all in record {
      says = all_say (raw_answer c.args.options.lenient c.args.options.limit) (parts_view c.args.found.now)
          (shown first.fields.items first.faults.items) (shown next.fields.items next.faults.items) (shown all.fields.items all.faults.items)
          (ap (raw_answer c.args.options.lenient c.args.options.limit) (sym c.as_slice.ensures.value) ∙ c.in_ok-primary.ensures.says)
          c.in_ok-with_exif.ensures.says c.in_ok-all.ensures.says;
      read = c.in_ok-all.ensures.read;
      order = ap header (sym c.as_slice.ensures.value) ∙ c.in_ok-primary.ensures.order
          ∙ ap (λ b. Ok (order_named b)) (sym (c.in_ok-all.ensures.order ∙ c.in_ok-with_exif.ensures.order));
    }
