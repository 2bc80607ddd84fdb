use Rattle.exif_page.specs.Cards.{link}
use Rattle.exif_page.proofs.Pieces.{four_pieces}
use Rattle.exif_page.proofs.cards.push_link.Goals as goal

pub returns : goal.returns
unfolding link
returns c =
    four_pieces c.push_between-4.result _ _ _ _ _ _ _ _ _ c.in_ok-push_between.ensures
    c.in_ok-push_between-2.ensures c.in_ok-push_between-3.ensures c.push_between-4.ensures
