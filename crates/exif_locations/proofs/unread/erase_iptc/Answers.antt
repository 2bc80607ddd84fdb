use Rattle.std.proofs.Common.{ap, sym, ◌∙◌}
use Rattle.exif_locations.specs.Unread.{zeros}
use Rattle.exif_locations.proofs.Refused.{iptc_refused}
use Rattle.exif_locations.proofs.UnreadSteps.{blanked, kept}
use Rattle.exif_locations.proofs.unread.erase_iptc.Goals as goal

pub returns-in-Keep : goal.returns-in-Keep
returns-in-Keep c =
    let old = c.args.bytes.now in
    kept (zeros old) old _ _ c.in-Err.fault c.args.unread c.in-Keep.is
    c.in-Err.ensures.err (iptc_refused old c.in-Err.fault (sym c.in-Err.ensures.answer))

pub returns-in-Blank : goal.returns-in-Blank
returns-in-Blank c =
    let old = c.args.bytes.now in
    blanked (zeros old) old _ _ c.in-Err.fault c.args.unread c.in-Blank.is
    (c.clear.ensures ∙ ap zeros c.in-Err.ensures.err)
    (iptc_refused old c.in-Err.fault (sym c.in-Err.ensures.answer))
