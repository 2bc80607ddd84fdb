use Rattle.std.proofs.Common.{◌≡◌, ◌<◌, inl, refl, rules, arith, length, Ok, Err, subst}
use Rattle.std.proofs.lemmas.List.{take_all}
use Rattle.exif_catalog.specs.Reading.{Deletes}
use Rattle.exif_catalog_file.specs.Handing.{Steps}
use Rattle.exif_catalog.proofs.Reading.{deleted_more, deleted_not}
use Rattle.exif_catalog.proofs.catalog.delete_rows.Goals as goal

pub returns-in_err-delete-clause-refused : goal.returns-in_err-delete-clause-refused
returns-in_err-delete-clause-refused g c clean =
    let e : c.from_residual.result ≡ Err c.in_err-delete.field-0.0 = search rules in
    let why = c.in_err-delete.ensures.refused clean in
    rw e (inl (why.0, why.2 _, why.1))

pub loop-moved-init : goal.loop-moved-init
loop-moved-init g c = (λ clean. clean, λ clean. refl)

pub loop-moved-preserved : goal.loop-moved-preserved
loop-moved-preserved g c =
    let within : c.loop-moved.moved-index < length c.args.moves.now = omega arith in (
      λ clean. c.loop-moved.invariant.0 (c.delete_row.ensures.clean clean),
      λ clean.
          let before = c.delete_row.ensures.clean clean in
          deleted_more g.S.Store c.in_ok-delete.delete.text c.as_str.result.now c.args.moves.now
          c.loop-moved.moved-index c.moved-item.result c.prepare.new.database c.loop-moved.database
          c.delete_row.new.database
          (c.in_ok-delete.ensures.text (c.loop-moved.invariant.0 before))
          (search rules) within c.moved-item.is (c.loop-moved.invariant.1 before)
          (c.in_ok-delete_row.ensures.runs clean),
    )

pub returns-clause-deletes : goal.returns-clause-deletes
returns-clause-deletes g c clean =
    let begun = c.loop-moved.invariant.0 clean in (
      c.prepare.new.database,
      c.in_ok-delete.ensures.same begun,
      subst (λ all. Steps (λ was move is. Deletes g.S.Store was move is (Ok tt))
          c.prepare.new.database all c.loop-moved.database)
          (take_all c.loop-moved.moved-index c.args.moves.now c.loop-moved-test.false)
          (c.loop-moved.invariant.1 clean),
    )

pub returns-in_err-delete_row-clause-refused : goal.returns-in_err-delete_row-clause-refused
returns-in_err-delete_row-clause-refused g c clean =
    let within : c.loop-moved.moved-index < length c.args.moves.now = omega arith in
    let before = c.delete_row.ensures.clean clean in
    let first = c.loop-moved.invariant.0 before in
    let e : c.from_residual-in_err-delete_row.result ≡ Err c.in_err-delete_row.field-0.0 = search rules in
    rw e (deleted_not g.S.Store c.in_ok-delete.delete.text c.as_str.result.now c.args.moves.now
    c.loop-moved.moved-index c.moved-item.result c.args.database.now c.prepare.new.database
    c.loop-moved.database c.delete_row.new.database c.in_err-delete_row.field-0.0
    (c.in_ok-delete.ensures.text first) (search rules) within c.moved-item.is
    (c.in_ok-delete.ensures.same first) (c.loop-moved.invariant.1 before)
    (c.in_err-delete_row.ensures.runs clean))
