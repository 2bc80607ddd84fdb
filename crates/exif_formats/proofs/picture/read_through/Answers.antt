use Rattle.std.proofs.Common.{rules, drop, ap, ◌∙◌}
use Rattle.std.specs.Io.KnownBytes.{prepend_known}
use Rattle.exif_base.specs.Blocks.{at_hand}
use Rattle.exif_tiff.specs.Answers.{raw_answer}
use Rattle.exif_formats.proofs.Begins.{front_made, picture_begins, sniffed}
use Rattle.exif_formats.proofs.picture.read_through.Goals as goal

pub returns-clause-reads : goal.returns-clause-reads
returns-clause-reads g c =
    let f = c.in_ok-filled.ensures in
    picture_begins (raw_answer c.args.options.lenient c.args.options.limit)
    c.in_ok-filled.filled c.read_signature.new.block c.make_read.new.front c.format_of-format.result c.args.origin c.origin_for.result
    (g.R.Source.stream c.args.source.now) _ (g.R.Source.left c.args.source.now) (g.R.Source.left c.read_signature.new.source) _
    c.read_as-answer.result
    (record {
      taken = f.taken;
      bound = f.bound;
      most = f.most;
      space = search rules;
      end = f.end;
      chosen = c.format_of-format.ensures;
      made_is = c.make_read.ensures;
      left_is =
          ap (λ from. prepend_known (at_hand c.new-blocks.result) (g.R.Source.left from)) c.new-blocks.ensures.source
          ∙ ap (λ hand. prepend_known hand (g.R.Source.left c.read_signature.new.source))
          (c.new-blocks.ensures.at_hand
          ∙ front_made c.in_ok-filled.filled c.read_signature.new.block c.make_read.new.front
          (drop c.in_ok-filled.filled c.read_signature.new.block) c.format_of-format.result
          f.bound c.format_of-format.ensures c.make_read.ensures);
      same = search rules;
      goes_back = c.origin_for.ensures;
    })
    c.read_as-answer.ensures.reads

pub returns-clause-format : goal.returns-clause-format
returns-clause-format g c =
    let f = c.in_ok-filled.ensures in
    sniffed c.in_ok-filled.filled c.read_signature.new.block c.format_of-format.result
    (g.R.Source.left c.args.source.now) (g.R.Source.left c.read_signature.new.source)
    f.taken f.bound f.most (search rules) f.end c.format_of-format.ensures
