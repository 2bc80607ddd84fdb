use Rattle.std.proofs.Common.{List, ℕ, Ok, ap, sym, ◌∙◌}
use Rattle.std.proofs.lemmas.Result.{err_from_is_err_and}
use Rattle.exif_edit_base.specs.Readings.{read_of}
use Rattle.exif_edit_base.proofs.CauseSteps.{refused_on}
use Rattle.exif_grow.specs.Alike.{entries_alike}
use Rattle.exif_grow.specs.Growing.{added_of, first_read}
use Rattle.exif_grow.proofs.AlikeSteps.{entries_made, entries_refused}
use Rattle.exif_grow.proofs.alike.entries_alike.Goals as goal

pub returns-in_err-growth : goal.returns-in_err-growth
returns-in_err-growth c =
    let p = err_from_is_err_and c.from_residual-in_err-growth.result
    c.from_residual-in_err-growth.ensures.1 in
    let wanted = read_of c.args.wanted.now in
    let bytes = c.args.bytes.now in
    let a = added_of c.in_ok-cleared.cleared in
    let b = added_of c.in_ok-kept.kept in
    record {
      answer = rw (p.1, p.2)
          (refused_on c.in_err-growth.field-0.0 (first_read wanted bytes a b)
          (entries_alike wanted c.args.entry c.args.entries.now bytes)
          c.in_err-growth.ensures.answer
          (λ r h. entries_refused wanted c.order_named-order.result c.args.entry
          c.args.entries.now bytes a b r c.order_named-order.ensures
          c.in_ok-cleared.ensures.added c.in_ok-kept.ensures.added h));
    }

pub returns : goal.returns
returns c = record {
  answer = entries_made (read_of c.args.wanted.now) c.order_named-order.result c.args.entry
      c.args.entries.now c.args.bytes.now (added_of c.in_ok-cleared.cleared)
      (added_of c.in_ok-kept.kept) (added_of c.in_ok-growth.growth) c.order_named-order.ensures
      c.in_ok-cleared.ensures.added c.in_ok-kept.ensures.added c.in_ok-growth.ensures.answer
      ∙ ap (λ (xs : List ℕ). Ok xs) (sym c.in_ok-grown.ensures);
}
