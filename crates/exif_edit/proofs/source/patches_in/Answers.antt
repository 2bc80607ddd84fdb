use Rattle.std.proofs.Common.{rules, ◌≡◌, Ok}
use Rattle.std.proofs.lemmas.Result.{err_from_is_err_and}
use Rattle.exif_edit.specs.InFiles.{file_patches}
use Rattle.exif_edit.specs.Sources.{FailsOrStops}
use Rattle.exif_edit.proofs.SourceSteps.{has_head, known_edited, known_fits, whole_file_of}
use Rattle.exif_edit.proofs.source.patches_in.Goals as goal

pub returns-then-is_item-clause-edited : goal.returns-then-is_item-clause-edited
returns-then-is_item-clause-edited g c =
    known_edited c.args.limit c.args.edit.now (g.R.Source.left c.args.source.now)
    c.in_ok-patches.patches.items (search rules)

pub returns-then-is_item-clause-within : goal.returns-then-is_item-clause-within
returns-then-is_item-clause-within g c =
    known_fits c.args.limit c.args.edit.now (g.R.Source.left c.args.source.now)
    c.in_ok-patches.patches.items (search rules)

pub returns-in_err-patches-2-clause-answer : goal.returns-in_err-patches-2-clause-answer
returns-in_err-patches-2-clause-answer g c =
    let p = err_from_is_err_and c.from_residual-in_err-patches-2.result
    c.from_residual-in_err-patches-2.ensures.1 in
    let head = c.in-Ok.ensures in
    rw (p.1, p.2)
    (whole_file_of
    (λ file. FailsOrStops c.in_err-patches-2.field-0.0
    (file_patches c.args.limit c.args.edit.now file)) c.in-Ok.filled c.read_signature.new.block _
    (g.R.Source.left c.args.source.now) (g.R.Source.left c.read_signature.new.source) _
    (has_head _ _ _ _ _ _ head.taken head.bound head.most (search rules) head.end
    (search rules) (search rules)) c.in_err-patches-2.ensures.answer)

pub returns-clause-answer : goal.returns-clause-answer
returns-clause-answer g c =
    let head = c.in-Ok.ensures in
    whole_file_of
    (λ file. file_patches c.args.limit c.args.edit.now file ≡ Ok c.in_ok-patches-2.patches.items)
    c.in-Ok.filled c.read_signature.new.block _
    (g.R.Source.left c.args.source.now) (g.R.Source.left c.read_signature.new.source) _
    (has_head _ _ _ _ _ _ head.taken head.bound head.most (search rules) head.end
    (search rules) (search rules)) c.in_ok-patches-2.ensures.answer

pub returns-clause-edited : goal.returns-clause-edited
returns-clause-edited g c =
    known_edited c.args.limit c.args.edit.now (g.R.Source.left c.args.source.now)
    c.in_ok-patches-2.patches.items (returns-clause-answer g c)

pub returns-clause-within : goal.returns-clause-within
returns-clause-within g c =
    known_fits c.args.limit c.args.edit.now (g.R.Source.left c.args.source.now)
    c.in_ok-patches-2.patches.items (returns-clause-answer g c)
