use Rattle.std.proofs.Common.{◌≡◌, ◌∙◌, Some, ap, sym}
use Rattle.std.specs.BTreeMap.{get_by_text}
use Rattle.std.specs.Option.{option_map}
use Rattle.exif_rename_commands.proofs.Finding.{again_by, kept_by}
use Rattle.exif_rename_commands.specs.Present.{found_by}
use Rattle.exif_rename_commands.proofs.present.Numbered.of.Goals as goal

pub returns-in-Some-clause-again : goal.returns-in-Some-clause-again
returns-in-Some-clause-again c = λ is_known.
    let known = c.args.self.now.known in
    let same : found_by known c.args.base.now c.args.ending.now ≡ Some c.as_slice.result.now =
    ap (λ bytes. option_map (λ found. found.items) (get_by_text known bytes)) (sym c.in_ok-key.ensures ∙ sym c.as_str.ensures.value)
    ∙ ap (λ found. option_map (λ found. found.items) found) (sym c.in-Some.ensures.value) ∙ ap (λ t. Some t) (sym c.as_slice.ensures.value) in
    again_by c.from_slice.result c.as_slice.result.now _ same c.from_slice.ensures.items

pub returns-in-Some-clause-kept : goal.returns-in-Some-clause-kept
returns-in-Some-clause-kept c =
    let known = c.args.self.now.known in
    let same : found_by known c.args.base.now c.args.ending.now ≡ Some c.as_slice.result.now =
    ap (λ bytes. option_map (λ found. found.items) (get_by_text known bytes)) (sym c.in_ok-key.ensures ∙ sym c.as_str.ensures.value)
    ∙ ap (λ found. option_map (λ found. found.items) found) (sym c.in-Some.ensures.value) ∙ ap (λ t. Some t) (sym c.as_slice.ensures.value) in
    kept_by c.from_slice.result c.as_slice.result.now _ same c.from_slice.ensures.items
