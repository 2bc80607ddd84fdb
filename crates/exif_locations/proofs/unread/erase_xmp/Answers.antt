use Rattle.std.proofs.Common.{ap, sym, ◌∙◌}
use Rattle.exif_locations.specs.Unread.{blank_packet}
use Rattle.exif_locations.proofs.Refused.{xmp_refused}
use Rattle.exif_locations.proofs.UnreadSteps.{blanked, kept}
use Rattle.exif_locations.proofs.unread.erase_xmp.Goals as goal

pub returns-in-Keep : goal.returns-in-Keep
returns-in-Keep c =
    let old = c.args.packet.now in
    kept (blank_packet old) old _ _ c.in-Err.fault c.args.unread c.in-Keep.is
    c.in-Err.ensures.err (xmp_refused old c.in-Err.fault (sym c.in-Err.ensures.answer))

pub returns-in-Blank : goal.returns-in-Blank
returns-in-Blank c =
    let old = c.args.packet.now in
    blanked (blank_packet old) old _ _ c.in-Err.fault c.args.unread c.in-Blank.is
    (c.blank_packet.ensures ∙ ap blank_packet c.in-Err.ensures.err)
    (xmp_refused old c.in-Err.fault (sym c.in-Err.ensures.answer))
