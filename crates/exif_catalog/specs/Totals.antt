-- What a run did with the rows.
use Rattle.std.specs.Prelude.{ℕ, ◌+◌, ◌-◌, ◌^◌, min, Bool, true, false, List, [], ◌∷◌, Option, Some, None}
use Rattle.exif_catalog.specs.declared.totals.Outcome.{Outcome}
use Rattle.exif_catalog.specs.declared.totals.Outcome.TheVariants as outcome
use Rattle.exif_catalog.specs.declared.totals.Totals.{Totals}

-- what becomes of a row that is written, by whether there was one
abbrev pub outcome_of : Bool → Outcome
outcome_of true = outcome.Changed
outcome_of false = outcome.Added

-- whether a row stayed since its file had its stamp
abbrev pub is_unchanged : Outcome → Bool
is_unchanged outcome.Unchanged = true
is_unchanged outcome.Added = false
is_unchanged outcome.Changed = false
is_unchanged outcome.Refused = false

-- the same of a file that may be no picture
abbrev pub is_kept : Option Outcome → Bool
is_kept None = false
is_kept (Some it) = is_unchanged it

-- one more, up to the greatest number of 64 bits
abbrev pub more : ℕ → ℕ
more n = min (n + 1) (2 ^ 64 - 1)

-- a picture more
abbrev pub counted : Totals → Outcome → Totals
counted totals outcome.Added = record totals { added = more totals.added }
counted totals outcome.Changed = record totals { changed = more totals.changed }
counted totals outcome.Unchanged = record totals { unchanged = more totals.unchanged }
counted totals outcome.Refused = record totals { refused = more totals.refused }

-- what became of a file, if it is a picture
abbrev pub counted_if : Totals → Option Outcome → Totals
counted_if totals None = totals
counted_if totals (Some it) = counted totals it

-- nothing yet
abbrev pub no_totals : Totals
no_totals = record {
  added = 0;
  moved = 0;
  changed = 0;
  unchanged = 0;
  refused = 0;
  removed = 0;
  restored = 0;
}

-- what became of files, one after the other
abbrev pub counted_all : Totals → List (Option Outcome) → Totals
counted_all totals [] = totals
counted_all totals (it ∷ outcomes) = counted_all (counted_if totals it) outcomes

-- a row more that is marked as removed, or whose mark is taken off
abbrev pub marked : Totals → Bool → Totals
marked totals true = record totals { removed = more totals.removed }
marked totals false = record totals { restored = more totals.restored }

-- a picture that counts as added was moved
abbrev pub moved : Totals → Totals
moved totals = record totals { added = totals.added - 1; moved = more totals.moved }
