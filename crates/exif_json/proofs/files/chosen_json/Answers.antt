use Rattle.std.proofs.Common.{option_map}
use Rattle.exif_json.specs.Files.{chosen_answer}
use Rattle.exif_json.proofs.Depths.{answer_shallow, finished}
use Rattle.exif_json.proofs.files.chosen_json.Goals as goal

pub returns-clause-reads_back : goal.returns-clause-reads_back
returns-clause-reads_back c =
    let tags = option_map (λ t. t.now) c.args.tags in
    finished _ _ _ (chosen_answer tags c.args.path.now c.args.format c.args.exif.now c.args.faults.now) c.new-printer.ensures.before c.new-printer.ensures.tokens c.in_ok-write_read.ensures c.finish.ensures.text c.finish.ensures.tokens
    (answer_shallow tags c.args.path.now c.args.format c.args.exif.now c.args.faults.now)
