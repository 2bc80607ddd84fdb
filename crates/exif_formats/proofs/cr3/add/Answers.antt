use Rattle.std.proofs.Common.{Some, ap, sym, ◌∙◌}
use Rattle.std.specs.Option.{option_map}
use Rattle.exif_tiff.specs.Answers.{raw_answer, shown}
use Rattle.exif_formats.proofs.DataGiven.{items_of}
use Rattle.exif_formats.proofs.Joined.{add_says}
use Rattle.exif_formats.proofs.cr3.add.Goals as goal

pub returns : goal.returns
returns c =
    let first = c.args.first in
    let second = c.in_ok-second.second in
    let all = c.in_ok-all.all in record {
      says = add_says (raw_answer c.args.options.lenient c.args.options.limit) c.args.context _ c.as_slice.result.now
          (shown first.fields.items first.faults.items) (shown second.fields.items second.faults.items) (shown all.fields.items all.faults.items)
          (ap (option_map items_of) c.in-Some.is ∙ ap Some (sym c.as_slice.ensures.value))
          c.in_ok-second.ensures.says c.in_ok-all.ensures.joined;
      read = c.in_ok-all.ensures.read;
      order = c.in_ok-all.ensures.order;
    }
