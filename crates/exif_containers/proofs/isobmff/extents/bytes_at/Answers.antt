use Rattle.std.proofs.Common.{◌≡◌, ◌≤◌, ◌+◌, ◌^◌, [], ◌∷◌, length, sym, ap, ◌∙◌, arith, refl, rules}
use Rattle.exif_isobmff.specs.ItemLocations.{location_view}
use Rattle.exif_containers.specs.GoingBack.{MayGive}
use Rattle.exif_containers.proofs.IsobmffExtents.{only_one}
use Rattle.exif_containers.proofs.IsobmffMeta.{too_large, read_there}
use Rattle.exif_containers.proofs.isobmff.extents.bytes_at.Goals as goal

pub returns-in_default-clause-named : goal.returns-in_default-clause-named
returns-in_default-clause-named g c = (17, omega arith, refl)

pub returns-in_default-clause-gives : goal.returns-in_default-clause-gives
returns-in_default-clause-gives g c =
    let one : length c.args.location.now.extents.items ≡ 1 = search rules in
    let only : c.args.location.now.extents.items ≡ c.index-extent.result.now ∷ [] = only_one c.args.location.now.extents.items c.index-extent.result.now one ∙ ap (λ x. x ∷ []) (sym c.index-extent.ensures) in
    let large : 2 ^ 64 ≤ c.args.location.now.base + c.index-extent.result.now.offset = omega (arith, c.in_default.ensures) in
    too_large _ (location_view c.args.location.now) c.index-extent.result.now c.requires only large

pub returns-clause-gives : goal.returns-clause-gives
returns-clause-gives g c =
    let one : length c.args.location.now.extents.items ≡ 1 = search rules in
    let only : c.args.location.now.extents.items ≡ c.index-extent.result.now ∷ [] = only_one c.args.location.now.extents.items c.index-extent.result.now one ∙ ap (λ x. x ∷ []) (sym c.index-extent.ensures) in
    let fits = c.in-Some.ensures in
    read_there (λ t. MayGive (λ v. v.items) c.extent_at.result t) (g.R.Source.stream c.args.source.now) c.args.origin c.in-Some-checked_add.at (location_view c.args.location.now) c.index-extent.result.now c.in-Some.offset
    c.requires only fits.0 fits.1 c.in-Some-checked_add.ensures.1 c.extent_at.ensures.gives
