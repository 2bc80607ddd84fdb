-- What was left undone, where parts of one kind follow one another.
use Rattle.std.specs.Prelude.{ℕ, suc, ◌+◌, ◌==◌, ◌&&◌, Bool, true, false, if◌then◌else◌, List, [], ◌∷◌, ◌++◌, codes, Option, Some}
use Rattle.std.specs.Fmt.{decimal}
use Rattle.std.specs.Option.{option_map}
use Rattle.exif_inventory.specs.declared.kind.Kind.{Kind}
use Rattle.exif_inventory.specs.declared.kind.Kind.TheVariants as kind
use Rattle.exif_inventory.specs.declared.part.Part.{Part}
use Rattle.exif_privacy.specs.declared.remaining.Reason.{Reason}
use Rattle.exif_privacy.specs.declared.remaining.Reason.TheVariants.{NotJudged}
use Rattle.exif_change.specs.declared.together.Together.{Together}
use Rattle.exif_change.specs.Changed.{Undone, stays, still_there}
use Rattle.exif_change.specs.Texts.{left_text}

-- two parts are both comments, or both not known
abbrev pub are_open : Kind → Kind → Bool
are_open kind.Comment kind.Comment = true
are_open kind.Comment b = false
are_open kind.Unknown kind.Unknown = true
are_open kind.Unknown b = false
are_open a b = false

-- a part follows another one of its kind
abbrev pub goes_on : Part → Part → Bool
goes_on a b = (a.offset + a.len == b.offset) && are_open a.kind b.kind

-- a part is not looked at
abbrev pub is_unjudged : Reason → Bool
is_unjudged NotJudged = true
is_unjudged why = false

-- what was left undone is a part that follows another one, for the same reason
abbrev pub follows : Option Undone → Option Undone → Bool
follows (Some (stays a)) (Some (stays b)) =
    is_unjudged a.why && is_unjudged b.why && goes_on a.part b.part
follows (Some (still_there a)) (Some (still_there b)) = goes_on a b
follows a b = false

-- how many belong to the one in front of them
abbrev pub more_len : Option Undone → List (Option Undone) → ℕ
more_len a [] = 0
more_len a (b ∷ left) = if follows a b then suc (more_len b left) else 0

-- how many at the front belong together
abbrev pub together_len : List (Option Undone) → ℕ
together_len [] = 0
together_len (a ∷ left) = suc (more_len a left)

-- what is said of those that follow
abbrev pub more_text : ℕ → List ℕ
more_text more =
    if more == 0 then [] else
    if more == 1 then codes ", and one more behind it"
    else codes ", and " ++ (decimal more ++ codes " more behind it")

abbrev pub together_text : Together → Option (List ℕ)
together_text together =
    option_map (λ text. text ++ more_text together.more) (left_text together.first.now)
