use Rattle.std.proofs.Common.{List, ℕ, ap, ◌∙◌}
use Rattle.exif_thumbnails.specs.Heif.{heif_thumbnail}
use Rattle.exif_thumbnails.proofs.PrefixSteps.{along}
use Rattle.exif_thumbnails.proofs.heif.read_heif_thumbnail.Goals as goal

pub returns-clause-reads : goal.returns-clause-reads
returns-clause-reads g c =
    along (g.R.Source.left c.args.source.now) _ _
    (λ (xs : List ℕ) e. c.in_ok-found.ensures.found
    ∙ ap (λ (b : List ℕ). heif_thumbnail b) (c.deref.ensures.value ∙ e))
    c.in_ok-prefix.ensures.reads
