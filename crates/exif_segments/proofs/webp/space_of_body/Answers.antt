use Rattle.std.proofs.Common.{rules, arith, refl}
use Rattle.exif_segments.proofs.WebpChunks.{webp_other, webp_small, webp_body}
use Rattle.exif_segments.proofs.webp.space_of_body.Goals as goal

pub returns-then-not-is_webp-clause-refused : goal.returns-then-not-is_webp-clause-refused
returns-then-not-is_webp-clause-refused g c =
    webp_other _ (g.R.Source.left c.fill.new.source) c.fill.new.buf (search rules) (search rules) c.in_ok-fill.ensures.taken

pub returns-then-size-lt4-clause-refused : goal.returns-then-size-lt4-clause-refused
returns-then-size-lt4-clause-refused g c =
    webp_small _ (g.R.Source.left c.fill.new.source) c.fill.new.buf c.loadu32-size.result (search rules) (search rules) c.loadu32-size.ensures c.if-size-lt4.true c.in_ok-fill.ensures.taken

pub returns-clause-space : goal.returns-clause-space
returns-clause-space g c = rw c.from.ensures
    (webp_body _ _ c.fill.new.buf c.loadu32-size.result (search rules) (search rules) c.loadu32-size.ensures c.if-size-lt4.false c.in_ok-fill.ensures.taken)

pub returns-then-not-is_webp-clause-named : goal.returns-then-not-is_webp-clause-named
returns-then-not-is_webp-clause-named g c = (1, omega arith, refl)

pub returns-then-size-lt4-clause-named : goal.returns-then-size-lt4-clause-named
returns-then-size-lt4-clause-named g c = (2, omega arith, refl)
