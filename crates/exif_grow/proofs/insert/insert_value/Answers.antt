use Rattle.std.proofs.Common.{All, length, sym, ◌∙◌}
use Rattle.exif_edit_base.specs.Patches.{FitsIn}
use Rattle.exif_grow.specs.Growing.{added_of, grown}
use Rattle.exif_grow.specs.Inserting.{insert_answer}
use Rattle.exif_grow.specs.Promises.{IsInserted}
use Rattle.exif_edit.specs.Promises.{FindsValue}
use Rattle.exif_grow.proofs.Found.{inserted_found}
use Rattle.exif_grow.proofs.GrowthSteps.{on_ok}
use Rattle.exif_grow.proofs.InsertSound.{insert_fits, insert_sound}
use Rattle.exif_grow.proofs.InsertSteps.{insert_known, insert_named, insert_unknown}
use Rattle.exif_grow.proofs.insert.insert_value.Goals as goal

pub returns-then-names_offsets-clause-answer : goal.returns-then-names_offsets-clause-answer
returns-then-names_offsets-clause-answer c =
    insert_named c.args.bytes.now c.args.tag c.args.ifd_num c.args.value.now
    (sym c.names_offsets.ensures ∙ c.if-names_offsets.true)

pub returns-then-is_unknown-clause-answer : goal.returns-then-is_unknown-clause-answer
returns-then-is_unknown-clause-answer c =
    insert_unknown c.args.bytes.now c.args.tag c.args.ifd_num c.args.value.now
    (sym c.names_offsets.ensures ∙ c.if-names_offsets.false)
    (sym c.is_unknown.ensures ∙ c.if-is_unknown.true)

pub returns-clause-answer : goal.returns-clause-answer
returns-clause-answer c =
    rw (insert_known c.args.bytes.now c.args.tag c.args.ifd_num c.args.value.now
    (sym c.names_offsets.ensures ∙ c.if-names_offsets.false)
    (sym c.is_unknown.ensures ∙ c.if-is_unknown.false)) c.insert.ensures.answer

pub returns-clause-within : goal.returns-clause-within
returns-clause-within c =
    let bytes = c.args.bytes.now in
    let tag = c.args.tag in
    let k = c.args.ifd_num in
    let value = c.args.value.now in
    on_ok (λ g. All (FitsIn (length bytes)) g.patches.items) c.insert.result
    (insert_answer bytes tag k value) (returns-clause-answer c)
    (λ g h. insert_fits bytes (added_of g) tag k value h)

pub returns-clause-inserted : goal.returns-clause-inserted
returns-clause-inserted c =
    let bytes = c.args.bytes.now in
    let tag = c.args.tag in
    let k = c.args.ifd_num in
    let value = c.args.value.now in
    on_ok (λ g. IsInserted bytes tag k value (grown (added_of g) bytes)) c.insert.result
    (insert_answer bytes tag k value) (returns-clause-answer c)
    (λ g h. insert_sound bytes (added_of g) tag k value h)

pub returns-clause-found : goal.returns-clause-found
returns-clause-found c =
    let bytes = c.args.bytes.now in
    let tag = c.args.tag in
    let k = c.args.ifd_num in
    let value = c.args.value.now in
    on_ok (λ g. FindsValue tag k value (grown (added_of g) bytes)) c.insert.result
    (insert_answer bytes tag k value) (returns-clause-answer c)
    (λ g h. inserted_found bytes (grown (added_of g) bytes) tag k value
    (insert_sound bytes (added_of g) tag k value h))
