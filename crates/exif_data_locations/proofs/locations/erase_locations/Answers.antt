use Rattle.std.proofs.Common.{List, ap, sym, ◌∙◌}
use Rattle.exif_data_locations.proofs.Refused.{data_refused}
use Rattle.exif_data_locations.specs.declared.reason.Reason.{Reason}
use Rattle.exif_data_locations.proofs.locations.erase_locations.Goals as goal

pub returns-in-Err-Header : goal.returns-in-Err-Header
returns-in-Err-Header c =
    ap (λ (whys : List Reason). (c.args.bytes.now, whys)) c.in_ok-unchanged-in-Err-Header.ensures
    ∙ sym (data_refused c.args.unread c.args.bytes.now c.in-Err-Header.field-0-0
    (rw c.in-Err-Header.field-0-is at c.in-Err-Header.ensures.reads))
