use Rattle.std.proofs.Common.{drop, sym}
use Rattle.exif_page.proofs.SharedPaths.{shared_so_far}
use Rattle.exif_page.proofs.links.common_len.Goals as goal

pub returns-then-at-path-clause-value : goal.returns-then-at-path-clause-value
returns-then-at-path-clause-value c =
    rw (sym (shared_so_far c.loop-at.last c.loop-at.at (drop c.loop-at.at c.args.folder.now) c.args.path.now c.if-at-path.true)) c.loop-at.invariant.found
