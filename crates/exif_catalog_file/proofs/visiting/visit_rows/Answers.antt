use Rattle.std.proofs.Common.{◌≡◌, ◌∙◌, [], inl, inr, ap, refl, rules, arith, Ok, Err}
use Rattle.sqlite.specs.Held.{state}
use Rattle.sqlite.specs.State.{CommitsShowing, HasCleanDisk, Survives}
use Rattle.exif_catalog_file.specs.Errors.{database_error}
use Rattle.exif_catalog_file.specs.Handing.{HandsEach}
use Rattle.exif_catalog_file.specs.Schema.{pictures_text, shown_columns}
use Rattle.exif_catalog_file.specs.Shown.{HandsPicture, texts_of_row}
use Rattle.exif_catalog_file.specs.declared.errors.RunError.TheVariants as run
use Rattle.exif_catalog_file.proofs.Showing.{shown_more}
use Rattle.exif_catalog_file.proofs.Streaming.{hand_fails, handed_all, handed_none, handed_on, handed_too_many}
use Rattle.exif_catalog_file.proofs.visiting.visit_rows.Goals as goal

pub returns-in_err-answer-clause-refused : goal.returns-in_err-answer-clause-refused
returns-in_err-answer-clause-refused g c clean =
    let none = rw c.in_err-answer.was at c.query.follows.holds-at-none in
    let e : c.from_residual.result ≡ Err (run.Catalog (database_error c.in_err-answer.field-0.0)) = search rules in
    rw e (inr (_, refl, inl (c.in_err-answer.field-0.0, inl (rw c.pictures_text.ensures at (none.err clean)), refl)))

pub returns-in_err-answer-clause-survives : goal.returns-in_err-answer-clause-survives
returns-in_err-answer-clause-survives g c =
    let none = rw c.in_err-answer.was at c.query.follows.holds-at-none in
    let kept : Survives (state g.S.Store c.args.database.now)
    (state g.S.Store c.query.follows.lender-at-none)
    (CommitsShowing (pictures_text shown_columns) [] (state g.S.Store c.args.database.now)) =
    rw c.pictures_text.ensures at none.survives in
    search (rules, kept)

pub rows-init : goal.rows-init
rows-init g c = (
  refl,
  rw c.pictures_text.ensures at c.in_ok-answer.ensures.survives,
  λ clean. handed_none g.S.Store (HandsPicture g.V.Visitor.visits) (pictures_text shown_columns)
      c.args.database.now c.args.visitor.now _ (rw c.pictures_text.ensures at (c.in_ok-answer.ensures.begun clean)),
  ([], refl, refl),
)

pub rows-preserved : goal.rows-preserved
rows-preserved g c = (
  search rules,
  search rules,
  λ clean. handed_on g.S.Store (HandsPicture g.V.Visitor.visits) (pictures_text shown_columns)
      c.args.database.now c.args.visitor.now c.rows.answer c.next.follows.lender-at-none c.next.result
      c.next.follows.holds-at-none c.rows.visitor c.rows.count c.rows.invariant.2 _ refl clean
      c.in-Some.row c.show.new.visitor (c.in_ok-row.was ∙ ap (λ it. Ok it) c.in-Some.is)
      (c.in_ok-texts_of.field-0, c.in_ok-texts_of.ensures.shown, c.in_ok-show.ensures.shown),
  shown_more g.V.Visitor.visits c.args.visitor.now c.rows.visitor c.show.new.visitor c.rows.count
      (texts_of_row c.in_ok-texts_of.field-0) c.rows.invariant.3 c.in_ok-show.ensures.shown,
)

pub returns-in_default-clause-rows : goal.returns-in_default-clause-rows
returns-in_default-clause-rows g c clean =
    let now = c.next.follows.lender-at-none.conn.now in
    let late : HasCleanDisk (state g.S.Store now) = search rules in
    let all : HandsEach g.S.Store (HandsPicture g.V.Visitor.visits) (pictures_text shown_columns)
    c.args.database.now now c.args.visitor.now c.rows.visitor c.rows.count =
    handed_all g.S.Store (HandsPicture g.V.Visitor.visits) (pictures_text shown_columns)
    c.args.database.now c.args.visitor.now c.rows.answer c.next.follows.lender-at-none c.next.result
    c.next.follows.holds-at-none c.rows.visitor c.rows.count c.rows.invariant.2 now refl late
    (c.in_ok-row.was ∙ ap (λ it. Ok it) c.in_default.is) in
    search (rules, all)

pub returns-in_err-row-clause-refused : goal.returns-in_err-row-clause-refused
returns-in_err-row-clause-refused g c clean =
    let e : c.from_residual-in_err-row.result ≡ Err (run.Catalog (database_error c.in_err-row.field-0.0)) = search rules in
    rw e (inr (
      _,
      refl,
      hand_fails g.S.Store (HandsPicture g.V.Visitor.visits) (pictures_text shown_columns)
          c.args.database.now c.args.visitor.now c.rows.answer c.next.follows.lender-at-none c.next.result
          c.next.follows.holds-at-none c.rows.visitor c.rows.count c.rows.invariant.2 _ (search rules) clean
          _ _ c.rows.invariant.1 c.in_err-row.was,
    ))

pub returns-clause-refused : goal.returns-clause-refused
returns-clause-refused g c clean = inr (
  c.too_many.result,
  refl,
  rw c.too_many.ensures (handed_too_many g.S.Store (HandsPicture g.V.Visitor.visits) (pictures_text shown_columns)
      c.args.database.now c.args.visitor.now c.rows.answer.conn.now _ c.rows.visitor c.rows.count
      c.rows.invariant.2 (search rules) clean (omega arith)),
)
