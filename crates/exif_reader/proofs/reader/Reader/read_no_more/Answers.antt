use Rattle.std.proofs.Common.{false, [], Ok, rules, ap, arith}
use Rattle.std.proofs.lemmas.Option.{IfSome_then}
use Rattle.exif_tiff.specs.Answers.{raw_answer}
use Rattle.exif_tiff.proofs.ReadingBounds.{is_bounded, reads_bounded}
use Rattle.exif_reader.proofs.ReaderFronts.{own_too_large, reads_front, reads_own, reads_too_large}
use Rattle.exif_reader.proofs.ReaderOwnData.{answers_own_data}
use Rattle.exif_reader.proofs.reader.Reader.read_no_more.Goals as goal

pub returns-then-not-branch-clause-reads : goal.returns-then-not-branch-clause-reads
returns-then-not-branch-clause-reads g c =
    let laws = c.a_front_may_say_all.ensures in
    IfSome_then (g.R.Source.left c.args.source.now) c.in_ok-pass_rest.ensures.too_many
    (λ rest large. reads_too_large c.args.self.now.lenient c.args.self.now.limit c.args.front.items laws.answer laws.header laws.too_large
    c.message.result rest c.message.ensures (omega (arith, large (search rules), c.len.ensures)))

pub returns-then-not-branch-clause-own : goal.returns-then-not-branch-clause-own
returns-then-not-branch-clause-own g c =
    let laws = c.a_front_may_say_all.ensures in
    own_too_large c.args.self.now.lenient c.args.self.now.limit c.args.front.items laws.answer laws.header laws.too_large c.message.result c.message.ensures

pub exif_from_parts-requires : goal.exif_from_parts-requires
exif_from_parts-requires g c =
    c.answers_show_what_was_read.ensures.fields false c.args.self.now.limit c.args.front.items c.args.parsed.fields.items [] c.requires.whole

pub returns-clause-reads : goal.returns-clause-reads
returns-clause-reads g c =
    let laws = c.a_front_may_say_all.ensures in
    IfSome_then (g.R.Source.left c.args.source.now) c.in_ok-pass_rest.ensures.reached
    (λ rest small. reads_front c.args.self.now.lenient c.args.self.now.limit c.args.front.items laws.answer laws.header laws.too_large
    c.in_ok-exif.exif rest (ap (λ exif. exif.buf) c.in_ok-exif.ensures) (rw c.in_ok-exif.ensures c.requires.whole)
    (rw c.in_ok-exif.ensures c.requires.order) (omega (arith, small (search rules), c.len.ensures)))

pub returns-clause-own : goal.returns-clause-own
returns-clause-own g c =
    let laws = c.a_front_may_say_all.ensures in
    answers_own_data (raw_answer c.args.self.now.lenient c.args.self.now.limit) c.args.front.items (Ok c.in_ok-exif.exif)
    (reads_own c.args.self.now.lenient c.args.self.now.limit c.args.front.items laws.answer laws.header laws.too_large
    c.in_ok-exif.exif (ap (λ exif. exif.buf) c.in_ok-exif.ensures) (rw c.in_ok-exif.ensures c.requires.whole)
    (rw c.in_ok-exif.ensures c.requires.order))

pub returns-clause-bounded : goal.returns-clause-bounded
returns-clause-bounded g c =
    let laws = c.a_front_may_say_all.ensures in
    let bounds = c.reading_is_bounded.ensures in
    reads_bounded c.args.self.now.lenient c.args.self.now.limit c.args.front.items (Ok c.in_ok-exif.exif)
    (is_bounded c.args.self.now.limit c.args.front.items (rw (c.as_slice.ensures.value) at (c.show_bytes.ensures)) bounds.visits bounds.any_limit bounds.least)
    (reads_own c.args.self.now.lenient c.args.self.now.limit c.args.front.items laws.answer laws.header laws.too_large
    c.in_ok-exif.exif (ap (λ exif. exif.buf) c.in_ok-exif.ensures) (rw c.in_ok-exif.ensures c.requires.whole)
    (rw c.in_ok-exif.ensures c.requires.order))
