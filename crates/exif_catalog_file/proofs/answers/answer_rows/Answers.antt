use Rattle.std.proofs.Common.{◌≡◌, ◌∙◌, inl, inr, ap, refl, rules, arith, Ok, Err}
use Rattle.sqlite.specs.Held.{state}
use Rattle.sqlite.specs.State.{HasCleanDisk}
use Rattle.exif_catalog_file.specs.Errors.{database_error}
use Rattle.exif_catalog_file.specs.Handing.{HandsEach}
use Rattle.exif_catalog_file.specs.Shown.{HandsLine}
use Rattle.exif_catalog_file.specs.declared.errors.RunError.TheVariants as run
use Rattle.exif_catalog_file.proofs.Streaming.{hand_fails, handed_all, handed_none, handed_on, handed_too_many}
use Rattle.exif_catalog_file.proofs.answers.answer_rows.Goals as goal

pub returns-in_err-answer-clause-refused : goal.returns-in_err-answer-clause-refused
returns-in_err-answer-clause-refused g c clean =
    let none = rw c.in_err-answer.was at c.query_prepared.follows.holds-at-none in
    let e : c.from_residual.result ≡ Err (run.Catalog (database_error c.in_err-answer.field-0.0)) = search rules in
    rw e (inr (_, refl, inl (c.in_err-answer.field-0.0, inl (none.err clean), refl)))

pub rows-init : goal.rows-init
rows-init g c = (
  refl,
  c.in_ok-answer.ensures.survives,
  c.new-line.ensures.items,
  λ clean. handed_none g.S.Store (HandsLine g.L.Lines.takes) c.args.statement.now.text
      c.args.database.now c.args.lines.now _ (c.in_ok-answer.ensures.begun clean),
)

pub rows-preserved : goal.rows-preserved
rows-preserved g c = (
  search rules,
  search rules,
  search rules,
  λ clean. handed_on g.S.Store (HandsLine g.L.Lines.takes) c.args.statement.now.text
      c.args.database.now c.args.lines.now c.rows.answer c.next.follows.lender-at-none c.next.result
      c.next.follows.holds-at-none c.rows.lines c.rows.count c.rows.invariant.3 _ refl clean
      c.in-Some.row c.hand_on.new.lines (c.in_ok-row.was ∙ ap (λ it. Ok it) c.in-Some.is)
      (c.push_row.new.line.items, rw c.rows.invariant.2 at c.in_ok-push_row.ensures.row, c.in_ok-hand_on.ensures.taken),
)

pub returns-in_default-clause-rows : goal.returns-in_default-clause-rows
returns-in_default-clause-rows g c clean =
    let now = c.next.follows.lender-at-none.conn.now in
    let late : HasCleanDisk (state g.S.Store now) = search rules in
    let all : HandsEach g.S.Store (HandsLine g.L.Lines.takes) c.args.statement.now.text
    c.args.database.now now c.args.lines.now c.rows.lines c.rows.count =
    handed_all g.S.Store (HandsLine g.L.Lines.takes) c.args.statement.now.text
    c.args.database.now c.args.lines.now c.rows.answer c.next.follows.lender-at-none c.next.result
    c.next.follows.holds-at-none c.rows.lines c.rows.count c.rows.invariant.3 now refl late
    (c.in_ok-row.was ∙ ap (λ it. Ok it) c.in_default.is) in
    search (rules, all)

pub returns-in_err-row-clause-refused : goal.returns-in_err-row-clause-refused
returns-in_err-row-clause-refused g c clean =
    let e : c.from_residual-in_err-row.result ≡ Err (run.Catalog (database_error c.in_err-row.field-0.0)) = search rules in
    rw e (inr (
      _,
      refl,
      hand_fails g.S.Store (HandsLine g.L.Lines.takes) c.args.statement.now.text
          c.args.database.now c.args.lines.now c.rows.answer c.next.follows.lender-at-none c.next.result
          c.next.follows.holds-at-none c.rows.lines c.rows.count c.rows.invariant.3 _ (search rules) clean
          _ _ c.rows.invariant.1 c.in_err-row.was,
    ))

pub returns-clause-refused : goal.returns-clause-refused
returns-clause-refused g c clean = inr (
  c.too_many.result,
  refl,
  rw c.too_many.ensures (handed_too_many g.S.Store (HandsLine g.L.Lines.takes) c.args.statement.now.text
      c.args.database.now c.args.lines.now c.rows.answer.conn.now _ c.rows.lines c.rows.count
      c.rows.invariant.3 (search rules) clean (omega arith)),
)
