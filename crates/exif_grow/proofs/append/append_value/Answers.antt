use Rattle.std.proofs.Common.{All, length, sym, ◌∙◌}
use Rattle.std.proofs.lemmas.Result.{err_from_is_err_and}
use Rattle.exif_edit_base.specs.Finding.{find_answer}
use Rattle.exif_edit_base.specs.Readings.{read_of}
use Rattle.exif_edit_base.proofs.CauseSteps.{refused_on}
use Rattle.exif_grow.specs.Appending.{append_answer}
use Rattle.exif_grow.proofs.AppendSteps.{append_found, append_known, append_missing, append_named, append_unknown}
use Rattle.exif_edit_base.specs.Patches.{FitsIn}
use Rattle.exif_grow.specs.Growing.{added_of, grown}
use Rattle.exif_grow.specs.Promises.{IsAppended}
use Rattle.exif_grow.proofs.AppendSound.{append_fits, append_sound}
use Rattle.exif_edit.specs.Promises.{FindsValue}
use Rattle.exif_grow.proofs.Found.{appended_found}
use Rattle.exif_grow.proofs.GrowthSteps.{on_ok}
use Rattle.exif_grow.proofs.append.append_value.Goals as goal

pub returns-then-names_offsets-clause-answer : goal.returns-then-names_offsets-clause-answer
returns-then-names_offsets-clause-answer c =
    append_named c.args.bytes.now c.args.tag c.args.ifd_num c.args.value.now
    (sym c.names_offsets.ensures ∙ c.if-names_offsets.true)

pub returns-then-is_unknown-clause-answer : goal.returns-then-is_unknown-clause-answer
returns-then-is_unknown-clause-answer c =
    append_unknown c.args.bytes.now c.args.tag c.args.ifd_num c.args.value.now
    (sym c.names_offsets.ensures ∙ c.if-names_offsets.false)
    (sym c.is_unknown.ensures ∙ c.if-is_unknown.true)

pub returns-in_err-found-clause-answer : goal.returns-in_err-found-clause-answer
returns-in_err-found-clause-answer c =
    let p = err_from_is_err_and c.from_residual.result c.from_residual.ensures.1 in
    rw (p.1, p.2)
    (refused_on c.in_err-found.field-0.0
    (find_answer c.args.bytes.now c.args.tag c.args.ifd_num)
    (append_answer c.args.bytes.now c.args.tag c.args.ifd_num c.args.value.now)
    c.in_err-found.ensures.answer
    (λ r h. append_known c.args.bytes.now c.args.tag c.args.ifd_num c.args.value.now
    (sym c.names_offsets.ensures ∙ c.if-names_offsets.false)
    (sym c.is_unknown.ensures ∙ c.if-is_unknown.false)
    ∙ append_missing c.args.bytes.now c.args.tag c.args.ifd_num c.args.value.now r h))

pub returns-clause-answer : goal.returns-clause-answer
returns-clause-answer c =
    rw (append_known c.args.bytes.now c.args.tag c.args.ifd_num c.args.value.now
    (sym c.names_offsets.ensures ∙ c.if-names_offsets.false)
    (sym c.is_unknown.ensures ∙ c.if-is_unknown.false)
    ∙ append_found c.args.bytes.now c.args.tag c.args.ifd_num c.args.value.now
    (read_of c.in_ok-found.found.parsed) c.in_ok-found.found.entry c.in_ok-found.ensures.answer)
    c.append_at.ensures.answer

pub returns-clause-within : goal.returns-clause-within
returns-clause-within c =
    let bytes = c.args.bytes.now in
    let tag = c.args.tag in
    let k = c.args.ifd_num in
    let value = c.args.value.now in
    on_ok (λ g. All (FitsIn (length bytes)) g.patches.items) c.append_at.result
    (append_answer bytes tag k value) (returns-clause-answer c)
    (λ g h. append_fits bytes (added_of g) tag k value h)

pub returns-clause-appended : goal.returns-clause-appended
returns-clause-appended c =
    let bytes = c.args.bytes.now in
    let tag = c.args.tag in
    let k = c.args.ifd_num in
    let value = c.args.value.now in
    on_ok (λ g. IsAppended bytes tag k value (grown (added_of g) bytes)) c.append_at.result
    (append_answer bytes tag k value) (returns-clause-answer c)
    (λ g h. append_sound bytes (added_of g) tag k value c.in_ok-found.ensures.small h)

pub returns-clause-found : goal.returns-clause-found
returns-clause-found c =
    let bytes = c.args.bytes.now in
    let tag = c.args.tag in
    let k = c.args.ifd_num in
    let value = c.args.value.now in
    on_ok (λ g. FindsValue tag k value (grown (added_of g) bytes)) c.append_at.result
    (append_answer bytes tag k value) (returns-clause-answer c)
    (λ g h. appended_found bytes (grown (added_of g) bytes) tag k value
    (append_sound bytes (added_of g) tag k value c.in_ok-found.ensures.small h))
