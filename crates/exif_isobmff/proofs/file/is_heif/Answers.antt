use Rattle.std.proofs.Common.{sym, ◌∙◌, ap}
use Rattle.exif_isobmff.specs.Boxes.{children, whole_part}
use Rattle.exif_isobmff.specs.HeifFile.{begins_heif, has_heif_brand}
use Rattle.exif_isobmff.proofs.SplitterBoxes.{box_shorter}
use Rattle.exif_isobmff.proofs.FileBoxes.{heif_of, heif_cut, heif_went_on, heif_found}
use Rattle.exif_isobmff.proofs.file.is_heif.Goals as goal

pub loop-kind-init : goal.loop-kind-init
unfolding begins_heif
loop-kind-init c = ap (λ t. heif_of (children t)) c.new-boxes.ensures

pub returns-in-FileType : goal.returns-in-FileType
returns-in-FileType c =
    c.has_heif_brand.ensures ∙ ap has_heif_brand c.into_rest.ensures
    ∙ sym (heif_found c.in-Ok.kind c.in-Ok.body c.loop-kind.boxes c.child_box.new.self c.in-Ok.ensures c.in-FileType.is) ∙ c.loop-kind.invariant

pub loop-kind-smaller : goal.loop-kind-smaller
loop-kind-smaller c = box_shorter c.loop-kind.boxes (whole_part c.in-Ok.kind c.in-Ok.body) c.child_box.new.self c.in-Ok.ensures

pub loop-kind-preserved : goal.loop-kind-preserved
loop-kind-preserved c = heif_went_on c.in-Ok.kind c.in-Ok.body c.loop-kind.boxes c.child_box.new.self _ c.in-Ok.ensures c.in_default-kind.not-FileType c.loop-kind.invariant

pub returns : goal.returns
returns c = sym (heif_cut c.in_default.field-0 c.loop-kind.boxes c.in_default.ensures) ∙ c.loop-kind.invariant
