use Rattle.std.proofs.Common.{◌≡◌, ◌≤◌, ◌<◌, ◌+◌, ℕ, List, length, ◌++◌, Ok, true, false, sym, ap, subst, ◌∙◌, arith, rules, length-append}
use Rattle.std.specs.Prelude.{◌^◌}
use Rattle.std.proofs.lemmas.Result.{err_from_is_err_and}
use Rattle.exif_edit_base.specs.Causes.{Fails, Makes, ◌>>=◌}
use Rattle.exif_edit_base.proofs.CauseSteps.{refused_on}
use Rattle.exif_grow.specs.Growing.{added_of}
use Rattle.exif_grow.specs.Entries.{moved_entry, number_len}
use Rattle.exif_grow.specs.ItemFields.{ItemFields, fields_view}
use Rattle.exif_grow.specs.Items.{item_moved}
use Rattle.exif_grow.proofs.ItemSteps.{added_is, moved_large, moved_on, moved_text, placed, placed_on, placed_past, ranged_on, ranged_past, same_entry, same_first}
use Rattle.exif_grow.proofs.item.item_moved.Goals as goal

pub returns-then-header-new : goal.returns-then-header-new
returns-then-header-new c =
    let f : ItemFields = fields_view c.args.fields.now in
    let s : length c.as_slice-header.result.now ≡ length f.header = ap (λ (t : List ℕ). length t) c.as_slice-header.ensures.value in
    let far : length c.args.file.now + 8 < 2 ^ 64 = search rules in
    let n : length (f.header ++ c.args.new.now) ≡ length f.header + length c.args.new.now = length-append f.header c.args.new.now in
    let big : 65535 < length c.as_slice-header.result.now + length c.args.new.now = search rules in
    moved_large c.args.file.now c.args.new.now f c.args.range far (omega arith)

pub returns-in_err-text : goal.returns-in_err-text
returns-in_err-text c =
    let f : ItemFields = fields_view c.args.fields.now in
    let s : length c.as_slice-header.result.now ≡ length f.header = ap (λ (t : List ℕ). length t) c.as_slice-header.ensures.value in
    let far : length c.args.file.now + 8 < 2 ^ 64 = search rules in
    let n : length (f.header ++ c.args.new.now) ≡ length f.header + length c.args.new.now = length-append f.header c.args.new.now in
    let small : length c.as_slice-header.result.now + length c.args.new.now ≤ 65535 = search rules in
    let from : c.in-Some.from ≡ length c.args.file.now + 8 = search rules in
    let few : length (f.header ++ c.args.new.now) ≤ 65535 = omega arith in
    let len : length c.as_slice-header.result.now + length c.args.new.now ≡ length (f.header ++ c.args.new.now) = omega arith in
    let p = err_from_is_err_and c.from_residual.result c.from_residual.ensures.1 in
    rw (p.1, p.2)
    (refused_on c.in_err-text.field-0.0
    (moved_entry f.entry (length c.args.file.now + 8) (length (f.header ++ c.args.new.now)))
    (item_moved c.args.file.now c.args.new.now f c.args.range)
    (subst (Fails c.in_err-text.field-0.0)
    (same_entry f.entry c.in-Some.from (length c.args.file.now + 8) _ (length (f.header ++ c.args.new.now)) from len)
    c.in_err-text.ensures)
    (λ r h. moved_on c.args.file.now c.args.new.now f c.args.range far few
    ∙ ap (λ x. x >>= placed c.args.file.now c.args.new.now f c.args.range) h))

pub returns-then-file-fields : goal.returns-then-file-fields
returns-then-file-fields c =
    let f : ItemFields = fields_view c.args.fields.now in
    let s : length c.as_slice-header.result.now ≡ length f.header = ap (λ (t : List ℕ). length t) c.as_slice-header.ensures.value in
    let far : length c.args.file.now + 8 < 2 ^ 64 = search rules in
    let n : length (f.header ++ c.args.new.now) ≡ length f.header + length c.args.new.now = length-append f.header c.args.new.now in
    let small : length c.as_slice-header.result.now + length c.args.new.now ≤ 65535 = search rules in
    let from : c.in-Some.from ≡ length c.args.file.now + 8 = search rules in
    let few : length (f.header ++ c.args.new.now) ≤ 65535 = omega arith in
    let len : length c.as_slice-header.result.now + length c.args.new.now ≡ length (f.header ++ c.args.new.now) = omega arith in
    let e : moved_entry f.entry (length c.args.file.now + 8) (length (f.header ++ c.args.new.now)) ≡ Ok c.in_ok-text.text.items =
    sym (same_entry f.entry c.in-Some.from (length c.args.file.now + 8) _ (length (f.header ++ c.args.new.now)) from len) ∙ c.in_ok-text.ensures in
    let b : c.number_len-before.result ≡ number_len f.entry.version = c.number_len-before.ensures in
    let past : length c.args.file.now < f.offset + c.number_len-before.result + length c.in_ok-text.text.items = search rules in
    moved_text c.args.file.now c.args.new.now f c.args.range c.in_ok-text.text.items far few e
    ∙ placed_past c.args.file.now c.args.new.now f c.args.range c.in_ok-text.text.items (rw b at past)

pub returns-then-file-range : goal.returns-then-file-range
returns-then-file-range c =
    let f : ItemFields = fields_view c.args.fields.now in
    let s : length c.as_slice-header.result.now ≡ length f.header = ap (λ (t : List ℕ). length t) c.as_slice-header.ensures.value in
    let far : length c.args.file.now + 8 < 2 ^ 64 = search rules in
    let n : length (f.header ++ c.args.new.now) ≡ length f.header + length c.args.new.now = length-append f.header c.args.new.now in
    let small : length c.as_slice-header.result.now + length c.args.new.now ≤ 65535 = search rules in
    let from : c.in-Some.from ≡ length c.args.file.now + 8 = search rules in
    let few : length (f.header ++ c.args.new.now) ≤ 65535 = omega arith in
    let len : length c.as_slice-header.result.now + length c.args.new.now ≡ length (f.header ++ c.args.new.now) = omega arith in
    let e : moved_entry f.entry (length c.args.file.now + 8) (length (f.header ++ c.args.new.now)) ≡ Ok c.in_ok-text.text.items =
    sym (same_entry f.entry c.in-Some.from (length c.args.file.now + 8) _ (length (f.header ++ c.args.new.now)) from len) ∙ c.in_ok-text.ensures in
    let b : c.number_len-before.result ≡ number_len f.entry.version = c.number_len-before.ensures in
    let in-file : f.offset + c.number_len-before.result + length c.in_ok-text.text.items ≤ length c.args.file.now = search rules in
    let past : length c.args.file.now < c.args.range.offset + c.args.range.len = search rules in
    moved_text c.args.file.now c.args.new.now f c.args.range c.in_ok-text.text.items far few e
    ∙ (placed_on c.args.file.now c.args.new.now f c.args.range c.in_ok-text.text.items (rw b at in-file)
    ∙ ranged_past c.args.file.now c.args.new.now f c.args.range c.in_ok-text.text.items past)

pub returns : goal.returns
returns c =
    let f : ItemFields = fields_view c.args.fields.now in
    let s : length c.as_slice-header.result.now ≡ length f.header = ap (λ (t : List ℕ). length t) c.as_slice-header.ensures.value in
    let far : length c.args.file.now + 8 < 2 ^ 64 = search rules in
    let n : length (f.header ++ c.args.new.now) ≡ length f.header + length c.args.new.now = length-append f.header c.args.new.now in
    let small : length c.as_slice-header.result.now + length c.args.new.now ≤ 65535 = search rules in
    let from : c.in-Some.from ≡ length c.args.file.now + 8 = search rules in
    let few : length (f.header ++ c.args.new.now) ≤ 65535 = omega arith in
    let len : length c.as_slice-header.result.now + length c.args.new.now ≡ length (f.header ++ c.args.new.now) = omega arith in
    let e : moved_entry f.entry (length c.args.file.now + 8) (length (f.header ++ c.args.new.now)) ≡ Ok c.in_ok-text.text.items =
    sym (same_entry f.entry c.in-Some.from (length c.args.file.now + 8) _ (length (f.header ++ c.args.new.now)) from len) ∙ c.in_ok-text.ensures in
    let b : c.number_len-before.result ≡ number_len f.entry.version = c.number_len-before.ensures in
    let in-file : f.offset + c.number_len-before.result + length c.in_ok-text.text.items ≤ length c.args.file.now = search rules in
    let whole : c.args.range.offset + c.args.range.len ≤ length c.args.file.now = search rules in
    let at : f.offset + c.number_len-before.result ≡ f.offset + number_len f.entry.version = ap (λ x. f.offset + x) b in
    let first = added_is true c.args.new.now f c.args.range c.in_ok-text.text.items c.as_slice.result.now c.as_slice-header.result.now c.in_ok-media_box.field-0.items (f.offset + c.number_len-before.result) c.in_ok-item_patches.field-0.items c.in_ok-item_patches.ensures at c.as_slice.ensures.value c.in_ok-media_box.ensures c.as_slice-header.ensures.value in
    let second = added_is false c.args.new.now f c.args.range c.in_ok-text.text.items c.as_slice-2.result.now c.as_slice-header.result.now c.in_ok-media_box-2.field-0.items (f.offset + c.number_len-before.result) c.in_ok-item_patches-2.field-0.items c.in_ok-item_patches-2.ensures at c.as_slice-2.ensures.value c.in_ok-media_box-2.ensures c.as_slice-header.ensures.value in
    let is = moved_text c.args.file.now c.args.new.now f c.args.range c.in_ok-text.text.items far few e
    ∙ (placed_on c.args.file.now c.args.new.now f c.args.range c.in_ok-text.text.items (rw b at in-file)
    ∙ (ranged_on c.args.file.now c.args.new.now f c.args.range c.in_ok-text.text.items whole
    ∙ same_first c.args.file.now c.args.new.now _ _ _ _ first second)) in
    subst (Makes added_of c.first_held.result) (sym is) c.first_held.ensures
