use Rattle.std.proofs.Common.{◌≡◌, ◌∙◌, inl, inr, ap, refl, rules, Ok, Err}
use Rattle.std.specs.BTreeMap.{get_by_text}
use Rattle.sqlite.specs.Held.{state}
use Rattle.sqlite.specs.State.{HasCleanDisk}
use Rattle.exif_catalog_file.specs.Errors.{database_error}
use Rattle.exif_catalog.specs.Reading.{ReadsSides, gone_in, new_in}
use Rattle.exif_catalog.specs.Statements.{hashed_at, read_hashes}
use Rattle.exif_catalog.proofs.Reading.{flat_more}
use Rattle.exif_catalog.proofs.ReadingRows.{read_all, read_fails, read_none, read_on, read_refused}
use Rattle.exif_catalog.proofs.hashes.read_sides.Goals as goal

pub returns-in_err-answer-clause-refused : goal.returns-in_err-answer-clause-refused
returns-in_err-answer-clause-refused g c clean =
    let none = rw c.in_err-answer.was at c.query.follows.holds-at-none in
    let e : c.from_residual.result ≡ Err (database_error c.in_err-answer.field-0.0) = search rules in
    rw e (inr (inl (c.in_err-answer.field-0.0, inl (none.err clean), refl)))

pub rows-init : goal.rows-init
rows-init g c = (
  refl,
  c.in_ok-answer.ensures.survives,
  λ clean. read_none g.S.Store read_hashes (hashed_at (get_by_text c.args.rows.now) c.args.roots.now)
      c.args.database.now _ _ (c.in_ok-answer.ensures.begun clean) (search rules, search rules),
)

pub rows-preserved : goal.rows-preserved
rows-preserved g c = (
  search rules,
  search rules,
  λ clean. read_on g.S.Store read_hashes (hashed_at (get_by_text c.args.rows.now) c.args.roots.now)
      c.args.database.now c.rows.answer c.next.follows.lender-at-none c.next.result
      c.next.follows.holds-at-none _ c.rows.invariant.2 _ refl clean
      c.in-Some.row _ _ (c.in_ok-row.was ∙ ap (λ it. Ok it) c.in-Some.is)
      c.in_ok-hashed_of.ensures.hashed
      (λ found had. (
        flat_more gone_in found _ _ _ had.0 c.in_ok-add.ensures.gone,
        flat_more new_in found _ _ _ had.1 c.in_ok-add.ensures.fresh,
      )),
)

pub returns-in_default-clause-sides : goal.returns-in_default-clause-sides
returns-in_default-clause-sides g c clean =
    let now = c.next.follows.lender-at-none.conn.now in
    let late : HasCleanDisk (state g.S.Store now) = search rules in
    let it = read_all g.S.Store read_hashes (hashed_at (get_by_text c.args.rows.now) c.args.roots.now)
    c.args.database.now c.rows.answer c.next.follows.lender-at-none c.next.result
    c.next.follows.holds-at-none _ c.rows.invariant.2 now refl late
    (c.in_ok-row.was ∙ ap (λ it. Ok it) c.in_default.is) in
    let all : ReadsSides g.S.Store (get_by_text c.args.rows.now) c.args.roots.now c.args.database.now now
    c.rows.sides.gone.items c.rows.sides.fresh.items = (it.0, it.1, it.2.0, it.2.1) in
    search (rules, all)

pub returns-in_err-row-clause-refused : goal.returns-in_err-row-clause-refused
returns-in_err-row-clause-refused g c clean =
    let e : c.from_residual-in_err-row.result ≡ Err (database_error c.in_err-row.field-0.0) = search rules in
    rw e (inr (read_fails g.S.Store read_hashes (hashed_at (get_by_text c.args.rows.now) c.args.roots.now)
    c.args.database.now c.rows.answer c.next.follows.lender-at-none c.next.result
    c.next.follows.holds-at-none _ c.rows.invariant.2 _ (search rules) clean
    _ _ c.rows.invariant.1 c.in_err-row.was))

pub returns-in_err-hashed_of-clause-refused : goal.returns-in_err-hashed_of-clause-refused
returns-in_err-hashed_of-clause-refused g c clean =
    let e : c.from_residual-in_err-hashed_of.result ≡ Err c.in_err-hashed_of.field-0.0 = search rules in
    rw e (read_refused g.S.Store read_hashes (hashed_at (get_by_text c.args.rows.now) c.args.roots.now)
    c.args.database.now c.rows.answer c.next.follows.lender-at-none c.next.result
    c.next.follows.holds-at-none _ c.rows.invariant.2 _ (search rules) clean
    c.in-Some.row _ (c.in_ok-row.was ∙ ap (λ it. Ok it) c.in-Some.is) c.in_err-hashed_of.ensures.refused)
