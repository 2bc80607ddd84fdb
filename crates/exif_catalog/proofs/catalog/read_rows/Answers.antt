use Rattle.std.proofs.Common.{◌≡◌, ◌∙◌, inl, inr, ap, refl, rules, List, ℕ, Ok, Err, None}
use Rattle.std.specs.BTreeMap.{get_by_text}
use Rattle.sqlite.specs.Held.{state}
use Rattle.sqlite.specs.State.{HasCleanDisk}
use Rattle.exif_catalog_file.specs.Errors.{database_error}
use Rattle.exif_catalog.specs.Reading.{ReadsRows}
use Rattle.exif_catalog.specs.Statements.{entry_at, read_rows}
use Rattle.exif_catalog.proofs.Reading.{put_more}
use Rattle.exif_catalog.proofs.ReadingRows.{read_all, read_fails, read_none, read_on, read_refused}
use Rattle.exif_catalog.proofs.catalog.read_rows.Goals as goal

pub returns-in_err-answer-clause-refused : goal.returns-in_err-answer-clause-refused
returns-in_err-answer-clause-refused g c clean =
    let none = rw c.in_err-answer.was at c.query.follows.holds-at-none in
    let e : c.from_residual.result ≡ Err (database_error c.in_err-answer.field-0.0) = search rules in
    rw e (inr (inl (c.in_err-answer.field-0.0, inl (none.err clean), refl)))

pub rows-init : goal.rows-init
rows-init g c =
    let none : (path : List ℕ) → get_by_text c.new-rows.result path ≡ None = search rules in (
      refl,
      c.in_ok-answer.ensures.survives,
      λ clean. read_none g.S.Store read_rows (λ cells. entry_at cells c.args.needs_hash)
          c.args.database.now _ _ (c.in_ok-answer.ensures.begun clean) none,
    )

pub rows-preserved : goal.rows-preserved
rows-preserved g c = (
  search rules,
  search rules,
  λ clean. read_on g.S.Store read_rows (λ cells. entry_at cells c.args.needs_hash)
      c.args.database.now c.rows.answer c.next.follows.lender-at-none c.next.result
      c.next.follows.holds-at-none _ c.rows.invariant.2 _ refl clean
      c.in-Some.row _ _ (c.in_ok-row.was ∙ ap (λ it. Ok it) c.in-Some.is)
      (search rules) (λ entries had. put_more c.rows.rows c.insert.new.self c.in_ok-path.path
      c.in_ok-path.known entries had (search rules)),
)

pub returns-in_default-clause-rows : goal.returns-in_default-clause-rows
returns-in_default-clause-rows g c clean =
    let now = c.next.follows.lender-at-none.conn.now in
    let late : HasCleanDisk (state g.S.Store now) = search rules in
    let all : ReadsRows g.S.Store c.args.needs_hash c.args.database.now now c.rows.rows =
    read_all g.S.Store read_rows (λ cells. entry_at cells c.args.needs_hash)
    c.args.database.now c.rows.answer c.next.follows.lender-at-none c.next.result
    c.next.follows.holds-at-none _ c.rows.invariant.2 now refl late
    (c.in_ok-row.was ∙ ap (λ it. Ok it) c.in_default.is) in
    search (rules, all)

pub returns-in_err-row-clause-refused : goal.returns-in_err-row-clause-refused
returns-in_err-row-clause-refused g c clean =
    let e : c.from_residual-in_err-row.result ≡ Err (database_error c.in_err-row.field-0.0) = search rules in
    rw e (inr (read_fails g.S.Store read_rows (λ cells. entry_at cells c.args.needs_hash)
    c.args.database.now c.rows.answer c.next.follows.lender-at-none c.next.result
    c.next.follows.holds-at-none _ c.rows.invariant.2 _ (search rules) clean
    _ _ c.rows.invariant.1 c.in_err-row.was))

pub returns-in_err-path-clause-refused : goal.returns-in_err-path-clause-refused
returns-in_err-path-clause-refused g c clean =
    let e : c.from_residual-in_err-path.result ≡ Err c.in_err-path.field-0.0 = search rules in
    rw e (read_refused g.S.Store read_rows (λ cells. entry_at cells c.args.needs_hash)
    c.args.database.now c.rows.answer c.next.follows.lender-at-none c.next.result
    c.next.follows.holds-at-none _ c.rows.invariant.2 _ (search rules) clean
    c.in-Some.row _ (c.in_ok-row.was ∙ ap (λ it. Ok it) c.in-Some.is) c.in_err-path.ensures.refused)
