use Rattle.std.proofs.Common.{sym, ◌∙◌}
use Rattle.std.proofs.lemmas.Result.{err_from_is_err_and}
use Rattle.exif_tiff.proofs.ParserFollows.{chain_on, chain_stop, chain_fault}
use Rattle.exif_tiff.proofs.parser.Parser.directories.Goals as goal

pub returns-in_err-directory : goal.returns-in_err-directory
returns-in_err-directory g c =
    let p = err_from_is_err_and c.from_residual.result c.from_residual.ensures.1 in
    rw (p.1, p.2) (chain_stop c.args.limit c.loop-number.number g.E.Endian.number_of c.args.bytes.now c.loop-number.offset _ c.loop-number.self c.directory.new.self _ c.loop-number-test.true c.if-offset-eq0.false c.loop-number.invariant c.in_err-directory.ensures)

pub returns-in-Err : goal.returns-in-Err
returns-in-Err g c =
    chain_fault c.args.limit c.loop-number.number g.E.Endian.number_of c.args.bytes.now c.loop-number.offset c.in-Err.fault c.met.result c.loop-number.self c.directory.new.self c.met.new.self _ c.loop-number-test.true c.if-offset-eq0.false (sym c.directory_end.ensures ∙ c.in-Err.is) c.loop-number.invariant c.in_ok-directory.ensures c.met.ensures

pub loop-number-preserved : goal.loop-number-preserved
loop-number-preserved g c =
    chain_on c.args.limit c.loop-number.number g.E.Endian.number_of c.args.bytes.now c.loop-number.offset c.in-Ok.next c.loop-number.self c.directory.new.self _ c.loop-number-test.true c.if-offset-eq0.false (sym c.directory_end.ensures ∙ c.in-Ok.is) c.in_ok-directory.ensures c.loop-number.invariant
