use Rattle.std.proofs.Common.{◌≡◌, ◌+◌, ◌∙◌, ap, sym, length, Ok}
use Rattle.std.proofs.lemmas.List.{length-map}
use Rattle.exif_change.specs.Changed.{undone_of}
use Rattle.exif_geotag.specs.Relocating.{file_of, relocated, relocation_of, undone_by}
use Rattle.exif_geotag.proofs.relocating.RelocationEdit.apply.Goals as goal

pub returns-in-Ok-edited-clause-answered : goal.returns-in-Ok-edited-clause-answered
returns-in-Ok-edited-clause-answered c =
    let fs = c.args.self.now.fields.now in
    let st = c.args.self.now.stale.now in
    let made = c.in-Ok-relocate.relocated in
    let e : relocated fs st c.args.old.now ≡ Ok (relocation_of made) = ap (relocated fs st) (sym c.in-Ok.ensures.items) ∙ c.in-Ok-relocate.ensures in
    ap file_of e ∙ ap Ok (sym c.in-Ok-edited.ensures.file)

pub returns-in-Ok-edited-clause-left : goal.returns-in-Ok-edited-clause-left
returns-in-Ok-edited-clause-left c =
    let fs = c.args.self.now.fields.now in
    let st = c.args.self.now.stale.now in
    let made = c.in-Ok-relocate.relocated in
    let e : relocated fs st c.args.old.now ≡ Ok (relocation_of made) = ap (relocated fs st) (sym c.in-Ok.ensures.items) ∙ c.in-Ok-relocate.ensures in
    c.in-Ok-edited.ensures.left
    ∙ sym (ap undone_by e ∙ ap (λ n. n + length made.kept.items) (length-map made.left.items undone_of))
