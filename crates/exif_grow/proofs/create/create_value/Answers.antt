use Rattle.std.proofs.Common.{All, length, sym, ◌∙◌}
use Rattle.exif_edit_base.specs.Patches.{FitsIn}
use Rattle.exif_grow.specs.Growing.{added_of, grown}
use Rattle.exif_grow.specs.Creating.{create_answer}
use Rattle.exif_grow.specs.Promises.{IsCreated}
use Rattle.exif_edit.specs.Promises.{FindsValue}
use Rattle.exif_grow.proofs.Found.{created_found}
use Rattle.exif_grow.proofs.GrowthSteps.{on_ok}
use Rattle.exif_grow.proofs.CreateSound.{create_fits, create_sound}
use Rattle.exif_grow.proofs.CreateSteps.{create_known, create_named, create_unknown}
use Rattle.exif_grow.proofs.create.create_value.Goals as goal

pub returns-then-names_offsets-clause-answer : goal.returns-then-names_offsets-clause-answer
returns-then-names_offsets-clause-answer c =
    create_named c.args.bytes.now c.args.tag c.args.ifd_num c.args.value.now
    (sym c.names_offsets.ensures ∙ c.if-names_offsets.true)

pub returns-then-is_unknown-clause-answer : goal.returns-then-is_unknown-clause-answer
returns-then-is_unknown-clause-answer c =
    create_unknown c.args.bytes.now c.args.tag c.args.ifd_num c.args.value.now
    (sym c.names_offsets.ensures ∙ c.if-names_offsets.false)
    (sym c.is_unknown.ensures ∙ c.if-is_unknown.true)

pub returns-clause-answer : goal.returns-clause-answer
returns-clause-answer c =
    rw (create_known c.args.bytes.now c.args.tag c.args.ifd_num c.args.value.now
    (sym c.names_offsets.ensures ∙ c.if-names_offsets.false)
    (sym c.is_unknown.ensures ∙ c.if-is_unknown.false)) c.create.ensures.answer

pub returns-clause-within : goal.returns-clause-within
returns-clause-within c =
    let bytes = c.args.bytes.now in
    let tag = c.args.tag in
    let k = c.args.ifd_num in
    let value = c.args.value.now in
    on_ok (λ g. All (FitsIn (length bytes)) g.patches.items) c.create.result
    (create_answer bytes tag k value) (returns-clause-answer c)
    (λ g h. create_fits bytes (added_of g) tag k value h)

pub returns-clause-created : goal.returns-clause-created
returns-clause-created c =
    let bytes = c.args.bytes.now in
    let tag = c.args.tag in
    let k = c.args.ifd_num in
    let value = c.args.value.now in
    on_ok (λ g. IsCreated bytes tag k value (grown (added_of g) bytes)) c.create.result
    (create_answer bytes tag k value) (returns-clause-answer c)
    (λ g h. create_sound bytes (added_of g) tag k value h)

pub returns-clause-found : goal.returns-clause-found
returns-clause-found c =
    let bytes = c.args.bytes.now in
    let tag = c.args.tag in
    let k = c.args.ifd_num in
    let value = c.args.value.now in
    on_ok (λ g. FindsValue tag k value (grown (added_of g) bytes)) c.create.result
    (create_answer bytes tag k value) (returns-clause-answer c)
    (λ g h. created_found bytes (grown (added_of g) bytes) tag k value
    (create_sound bytes (added_of g) tag k value h))
