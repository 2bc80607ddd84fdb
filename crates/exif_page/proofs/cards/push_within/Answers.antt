use Rattle.exif_page.specs.Cards.{within}
use Rattle.exif_page.proofs.Pieces.{three_pieces}
use Rattle.exif_page.proofs.cards.push_within.Goals as goal

pub returns : goal.returns
unfolding within
returns c =
    three_pieces c.push_markup.result _ _ _ _ _ _ _ c.in_ok-push_between.ensures
    c.in_ok-push_picture.ensures c.push_markup.ensures
