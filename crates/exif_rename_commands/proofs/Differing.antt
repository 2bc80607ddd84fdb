-- The files that are named where their picture is there already.
use Rattle.std.proofs.Common.{◌≡◌, ◌∙◌, List, [], ◌∷◌, ◌++◌, Option, None, ap, length, refl, subst, sym}
use Rattle.std.specs.Option.{MatchOption}
use Rattle.std.proofs.lemmas.List.{append-nil}
use Rattle.exif_rename.specs.declared.present.Presence.{Presence}
use Rattle.exif_rename.specs.declared.request.Move.{Move}
use Rattle.exif_rename_commands.specs.Present.{differing_of}

none_found : (moves : List Move) → differing_of moves [] ≡ []
none_found [] = refl
none_found (wanted ∷ moves) = refl

all_named : (differing all : List Move) (left : List Move) (found : List Presence) → differing_of left found ≡ []
    → differing ++ differing_of left found ≡ all → differing ≡ all
all_named differing all left found none e = sym (append-nil differing) ∙ ap (λ t. differing ++ t) (sym none) ∙ e

-- nothing more was found
pub named_by_found : (differing all left : List Move) (found : List Presence) → found ≡ [] → differing ++ differing_of left found ≡ all → differing ≡ all
named_by_found differing all left found none e =
    all_named differing all left found (ap (λ t. differing_of left t) none ∙ none_found left) e

-- no file is left
pub named_by_left : (differing all left : List Move) (found : List Presence) → left ≡ [] → differing ++ differing_of left found ≡ all → differing ≡ all
named_by_left differing all left found none e = all_named differing all left found (ap (λ t. differing_of t found) none) e

pub empty : (moves : List Move) → length moves ≡ 0 → moves ≡ []
empty [] e = refl
empty (wanted ∷ moves) e = cc

-- where no file came, none was left
pub first_of_none : (r : Option Move) (P P' : Type 0) (Q : Move → Type 0) → r ≡ None → MatchOption r (P × P') Q → P
first_of_none r P P' Q e h = let both : P × P' = subst (λ o. MatchOption o (P × P') Q) e h in both.0
