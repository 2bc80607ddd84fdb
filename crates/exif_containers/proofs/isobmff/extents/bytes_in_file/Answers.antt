use Rattle.std.proofs.Common.{◌≡◌, ◌≤◌, ◌+◌, ◌^◌, [], ◌∷◌, length, sym, ap, ◌∙◌, rules, arith, refl}
use Rattle.std.proofs.lemmas.Result.{err_from_is_err_and}
use Rattle.exif_isobmff.proofs.ExifNames.{item_bytes_only}
use Rattle.exif_types.specs.Refusals.{Gives}
use Rattle.exif_isobmff.specs.ItemLocations.{location_view}
use Rattle.exif_containers.proofs.IsobmffExtents.{only_one, overflows, one_gives}
use Rattle.exif_containers.proofs.IsobmffNames.{fails_named}
use Rattle.exif_containers.proofs.isobmff.extents.bytes_in_file.Goals as goal

pub returns-in_err-found-clause-named : goal.returns-in_err-found-clause-named
returns-in_err-found-clause-named g c =
    let p = err_from_is_err_and c.from_residual-in_err-found.result c.from_residual-in_err-found.ensures.1 in
    rw (p.1, p.2) (fails_named c.in_err-found.field-0.0 _ (item_bytes_only _ _ _) c.in_err-found.ensures.gives)

pub returns-in_default-clause-named : goal.returns-in_default-clause-named
returns-in_default-clause-named g c = (17, omega arith, refl)

pub returns-in_default-clause-gives : goal.returns-in_default-clause-gives
returns-in_default-clause-gives g c =
    let one : length c.args.location.now.extents.items ≡ 1 = search rules in
    let only : c.args.location.now.extents.items ≡ c.index-extent.result.now ∷ [] = only_one c.args.location.now.extents.items c.index-extent.result.now one ∙ ap (λ x. x ∷ []) (sym c.index-extent.ensures) in
    let large : 2 ^ 64 ≤ c.args.location.now.base + c.index-extent.result.now.offset = omega (arith, c.in_default.ensures) in
    overflows (g.R.Source.left c.args.source.now) c.args.front.items (location_view c.args.location.now) c.index-extent.result.now c.requires only large

pub returns-clause-gives : goal.returns-clause-gives
returns-clause-gives g c =
    let one : length c.args.location.now.extents.items ≡ 1 = search rules in
    let only : c.args.location.now.extents.items ≡ c.index-extent.result.now ∷ [] = only_one c.args.location.now.extents.items c.index-extent.result.now one ∙ ap (λ x. x ∷ []) (sym c.index-extent.ensures) in
    let fits = c.in-Some.ensures in
    one_gives (λ t. Gives (λ v. v.items) c.one_extent.result t) (g.R.Source.left c.args.source.now) c.args.front.items (location_view c.args.location.now) c.index-extent.result.now c.in-Some.offset c.requires only fits.0 fits.1
    c.one_extent.ensures.gives
