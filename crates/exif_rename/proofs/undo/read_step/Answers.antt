use Rattle.std.proofs.Common.{rules, ◌≡◌, ℕ, Bool, List, Option, Some, ap, sym, ◌∙◌, drop}
use Rattle.std.specs.Str.{chars}
use Rattle.std.specs.String.{string_bytes}
use Rattle.exif_rename.specs.Undo.{read}
use Rattle.exif_rename.proofs.Undone.{line_back}
use Rattle.exif_rename.proofs.undo.read_step.Goals as goal

same_step : (a a' : Bool) (b b' d d' : List ℕ) → a ≡ a' → b ≡ b' → d ≡ d' → (let x : Option (Bool × (List ℕ × List ℕ)) = Some (a, (b, d)) in x ≡ Some (a', (b', d')))
same_step a a' b b' d d' e f g = cc

pub returns-in_default : goal.returns-in_default
returns-in_default c = λ copied from to utf8 utf8' is.
    let items : c.as_slice.result.now ≡ chars c.args.line.now = search rules in
    let again : c.as_slice-2.result.now ≡ c.as_slice.result.now = search rules in
    let back = line_back copied from to c.args.line.now (string_bytes c.in_ok-front.front) (string_bytes c.in_ok-to.to)
    (drop c.in_ok-front.end c.as_slice.result.now) (drop c.in_ok-to.field-0-1 c.tail-rest.result.now) c.tail-rest.result.now utf8 utf8' is
    (ap (read 0) (sym items) ∙ c.in_ok-front.ensures.path) (c.tail-rest.ensures ∙ ap (drop 2) (c.tail.ensures ∙ ap (drop c.in_ok-front.end) again)) c.in_ok-to.ensures.path in
    absurd (c.in_default.ensures copied from (c.as_str.ensures.value ∙ back.0))

pub returns : goal.returns
returns c = λ copied from to utf8 utf8' is.
    let items : c.as_slice.result.now ≡ chars c.args.line.now = search rules in
    let again : c.as_slice-2.result.now ≡ c.as_slice.result.now = search rules in
    let back = line_back copied from to c.args.line.now (string_bytes c.in_ok-front.front) (string_bytes c.in_ok-to.to)
    (drop c.in_ok-front.end c.as_slice.result.now) (drop c.in_ok-to.field-0-1 c.tail-rest.result.now) c.tail-rest.result.now utf8 utf8' is
    (ap (read 0) (sym items) ∙ c.in_ok-front.ensures.path) (c.tail-rest.ensures ∙ ap (drop 2) (c.tail.ensures ∙ ap (drop c.in_ok-front.end) again)) c.in_ok-to.ensures.path in
    let found = c.in-Some.ensures copied from (c.as_str.ensures.value ∙ back.0) in
    same_step c.in-Some.copied copied (string_bytes c.in_ok-from.from) from (string_bytes c.in_ok-to.to) to found.1 (c.in_ok-from.ensures.ok ∙ found.0) back.1
