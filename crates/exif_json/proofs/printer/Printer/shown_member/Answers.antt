use Rattle.json.specs.Json as J
use Rattle.std.proofs.Common.{[], ◌∷◌}
use Rattle.json.specs.Token as T
use Rattle.json.specs.Tree.{json_tokens}
use Rattle.exif_json.proofs.Prints.{prints_after}
use Rattle.exif_json.proofs.printer.Printer.shown_member.Goals as goal

pub returns-clause-prints : goal.returns-clause-prints
returns-clause-prints g c text same =
    prints_after c.shown.result _ c.key.new.self _ (T.key c.args.name.now ∷ []) (json_tokens (J.string text)) c.in_ok-key.ensures.ok c.in_ok-key.ensures.room.0 (c.shown.ensures.prints text same)
