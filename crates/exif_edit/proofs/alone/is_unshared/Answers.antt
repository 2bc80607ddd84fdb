use Rattle.std.proofs.Common.{sym, ◌∙◌}
use Rattle.exif_edit.proofs.AloneSound.{alone_parts, first_met, none_met, second_met, third_met}
use Rattle.exif_edit.proofs.alone.is_unshared.Goals as goal

pub returns-then-changes : goal.returns-then-changes
returns-then-changes c =
    first_met _ _ _ _ (sym c.changes.ensures ∙ c.if-changes.true)
    (alone_parts c.args.bytes.now c.args.order c.args.patches.now c.args.entry c.args.walk.now
    c.requires.header c.requires.found c.requires.set)

pub returns-then-changes_any_beside : goal.returns-then-changes_any_beside
returns-then-changes_any_beside c =
    let any = rw c.directories.ensures at c.changes_any_beside.ensures in
    second_met _ _ _ _ (sym c.changes.ensures ∙ c.if-changes.false)
    (sym any ∙ c.if-changes_any_beside.true)
    (alone_parts c.args.bytes.now c.args.order c.args.patches.now c.args.entry c.args.walk.now
    c.requires.header c.requires.found c.requires.set)

pub returns-then-overlaps : goal.returns-then-overlaps
returns-then-overlaps c =
    let any = rw c.directories.ensures at c.changes_any_beside.ensures in
    let near = rw c.value_space-space.ensures.value at c.overlaps.ensures in
    third_met _ _ _ _ _ (sym c.changes.ensures ∙ c.if-changes.false)
    (sym any ∙ c.if-changes_any_beside.false) (sym near ∙ c.if-overlaps.true)
    (alone_parts c.args.bytes.now c.args.order c.args.patches.now c.args.entry c.args.walk.now
    c.requires.header c.requires.found c.requires.set)

pub returns : goal.returns
returns c =
    let any = rw c.directories.ensures at c.changes_any_beside.ensures in
    let near = rw c.value_space-space.ensures.value at c.overlaps.ensures in
    (rw c.entries.ensures at c.occurs_once.ensures)
    ∙ none_met _ _ _ _ _ (sym c.changes.ensures ∙ c.if-changes.false)
    (sym any ∙ c.if-changes_any_beside.false) (sym near ∙ c.if-overlaps.false)
    (alone_parts c.args.bytes.now c.args.order c.args.patches.now c.args.entry c.args.walk.now
    c.requires.header c.requires.found c.requires.set)
