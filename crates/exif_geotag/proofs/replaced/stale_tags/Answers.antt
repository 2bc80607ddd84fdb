use Rattle.std.proofs.Common.{◌≡◌, ◌∙◌, sym, ap, true, [], if◌then◌else◌}
use Rattle.exif_geotag.specs.Replaced.{found_in, is_located, old_altitude, old_tags}
use Rattle.exif_geotag.proofs.replaced.stale_tags.Goals as goal

pub returns : goal.returns
returns c =
    let fields = c.args.exif.now.fields in
    let yes : is_located fields ≡ true = sym c.is_located.ensures ∙ c.if-not-is_located.false in
    c.in_ok-add_found.ensures ∙ ap (λ tags. found_in fields tags c.in_ok-found.found.items) c.old_tags.ensures
    ∙ ap (found_in fields old_tags) c.in_ok-found.ensures
    ∙ sym (ap (λ b. if b then found_in fields old_tags (old_altitude fields c.args.has_altitude) else []) yes)
