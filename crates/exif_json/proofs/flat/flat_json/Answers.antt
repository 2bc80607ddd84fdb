use Rattle.std.proofs.Common.{option_map}
use Rattle.exif_json.specs.Flat.{flat_json}
use Rattle.exif_json.proofs.Depths.{finished, flat_shallow}
use Rattle.exif_json.proofs.flat.flat_json.Goals as goal

pub returns-clause-reads_back : goal.returns-clause-reads_back
returns-clause-reads_back c =
    let exif = option_map (λ e. e.now.fields) c.args.exif in
    finished _ _ _ (flat_json c.args.facts.now exif) c.new-printer.ensures.before c.new-printer.ensures.tokens c.in_ok-write_flat.ensures c.finish.ensures.text c.finish.ensures.tokens
    (flat_shallow c.args.facts.now exif)
