use Rattle.std.proofs.Common.{rules, ap, sym, ◌∙◌, ◌==◌, refl}
use Rattle.std.proofs.lemmas.List.Sorted.{answers_always}
use Rattle.std.specs.Option.{option_map}
use Rattle.std.specs.List.{find}
use Rattle.exif_table.specs.Table.{TagRow}
use Rattle.exif_table.specs.View.{row_view}
use Rattle.exif_table.proofs.LookupLemmas.{searched_ok, searched_err, find-map}
use Rattle.exif_table.proofs.lookup.find_row.Goals as goal

pub returns-in-Ok : goal.returns-in-Ok
returns-in-Ok c =
    let by_key = c.in-Ok.ensures.position (λ r. r.number) (answers_always _ _ _ (λ f a r g called. search rules)) in
    let rows = c.rows-rows.result.now in
    let n = c.args.number in
    let there = searched_ok (λ r. r.number) rows c.rows-rows.ensures.rising n c.in-Ok.place c.in-Ok.ensures.bound by_key _ in
    ap (option_map row_view) (sym there) ∙ sym (find-map row_view (λ r. r.number) (λ r. r.number) (λ _. refl) n rows)
    ∙ ap (find (λ (r : TagRow). r.number == n)) c.rows-rows.ensures.rows

pub returns-in-Err : goal.returns-in-Err
returns-in-Err c =
    let by_key = c.in-Err.ensures.position (λ r. r.number) (answers_always _ _ _ (λ f a r g called. search rules)) in
    let rows = c.rows-rows.result.now in
    let n = c.args.number in
    let absent = searched_err (λ r. r.number) rows c.rows-rows.ensures.rising n c.in-Err.field-0 by_key in
    ap (option_map row_view) (sym absent) ∙ sym (find-map row_view (λ r. r.number) (λ r. r.number) (λ _. refl) n rows)
    ∙ ap (find (λ (r : TagRow). r.number == n)) c.rows-rows.ensures.rows
