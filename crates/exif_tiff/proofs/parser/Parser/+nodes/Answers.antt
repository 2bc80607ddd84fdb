use Rattle.std.proofs.Common.{ℕ, List, arith, sym, ◌∙◌, ◌-◌, ap, Option}
use Rattle.std.proofs.Math.Nat.{sub-zero}
use Rattle.std.proofs.lemmas.Result.{err_from_is_err_and}
use Rattle.exif_tiff.specs.Trace.{Node, directory_nodes, entry_nodes, depth_of}
use Rattle.exif_tiff.specs.declared.fault.Fault.{Fault}
use Rattle.exif_tiff.specs.Running.{Progress, run}
use Rattle.exif_tiff.proofs.ParserRuns.{directory_unfold}
use Rattle.exif_tiff.proofs.ParserFollows.{loop_on, loop_stop, pointer_stop, pointer_fault, end_next, end_fault}
use Rattle.exif_tiff.proofs.parser.Parser.+nodes.Goals as goal

pub directory-loop-init : goal.directory-loop-init
directory-loop-init g t c = record {
  room = λ h. omega (arith, c.whole_entries-entries.ensures.room);
  follows = rw (sub-zero, c.whole_entries-entries.ensures.value, c.in_ok-make_room.ensures, sym (ap (λ (x : Progress × Option Fault). x.0) c.in_ok-opens.ensures)) (ap (λ nodes. run nodes c.args.self.now) (directory_unfold g.E.Endian.number_of c.args.bytes.now c.args.ifd_num.0 c.args.context c.args.offset));
}

pub directory-returns-in_err-entry : goal.directory-returns-in_err-entry
directory-returns-in_err-entry g t c =
    let p = err_from_is_err_and c.from_residual-in_err-entry.result c.from_residual-in_err-entry.ensures.1 in
    let entry : ℕ → List Node = entry_nodes (directory_nodes (depth_of c.args.context - 1) g.E.Endian.number_of c.args.bytes.now c.args.ifd_num.0) g.E.Endian.number_of c.args.bytes.now c.args.context c.args.ifd_num.0 c.args.offset in
    rw (p.1, p.2) (loop_stop entry 12 c.loop.at c.whole_entries-entries.result c.loop.counter _ c.loop.self c.entry.new.self _ c.loop-test.true c.loop.invariant.follows c.in_err-entry.ensures)

pub directory-loop-preserved : goal.directory-loop-preserved
directory-loop-preserved g t c =
    let entry : ℕ → List Node = entry_nodes (directory_nodes (depth_of c.args.context - 1) g.E.Endian.number_of c.args.bytes.now c.args.ifd_num.0) g.E.Endian.number_of c.args.bytes.now c.args.context c.args.ifd_num.0 c.args.offset in
    record {
      room = λ h. omega (arith, c.loop.invariant.room);
      follows = loop_on entry 12 c.loop.at c.whole_entries-entries.result c.loop.counter c.loop.self c.entry.new.self _ c.loop-test.true c.in_ok-entry.ensures c.loop.invariant.follows;
    }

pub pointer-returns-in_err-directory : goal.pointer-returns-in_err-directory
pointer-returns-in_err-directory g t c =
    let p = err_from_is_err_and c.from_residual.result c.from_residual.ensures.1 in
    rw (p.1, p.2) (pointer_stop (directory_nodes (depth_of c.args.child) g.E.Endian.number_of c.args.bytes.now c.args.ifd_num.0) g.E.Endian.number_of c.args.bytes.now c.args.child c.args.offset c.in-Some.offset _ c.args.self.now c.directory.new.self c.in-Some.is c.in_err-directory.ensures)

pub pointer-returns-in-Ok : goal.pointer-returns-in-Ok
pointer-returns-in-Ok g t c =
    pointer_fault (directory_nodes (depth_of c.args.child) g.E.Endian.number_of c.args.bytes.now c.args.ifd_num.0) g.E.Endian.number_of c.args.bytes.now c.args.child c.args.offset c.in-Some.offset _ c.met-in-Ok.result c.args.self.now c.directory.new.self c.met-in-Ok.new.self c.in-Some.is c.in_ok-directory.ensures
    (end_next _ c.in-Ok.field-0 (sym c.directory_end.ensures ∙ c.in-Ok.is) c.in-Ok.field-0-test.1) c.met-in-Ok.ensures

pub pointer-returns-in-Err : goal.pointer-returns-in-Err
pointer-returns-in-Err g t c =
    pointer_fault (directory_nodes (depth_of c.args.child) g.E.Endian.number_of c.args.bytes.now c.args.ifd_num.0) g.E.Endian.number_of c.args.bytes.now c.args.child c.args.offset c.in-Some.offset c.in-Err.fault c.met-in-Err.result c.args.self.now c.directory.new.self c.met-in-Err.new.self c.in-Some.is c.in_ok-directory.ensures
    (end_fault _ c.in-Err.fault (sym c.directory_end.ensures ∙ c.in-Err.is)) c.met-in-Err.ensures
