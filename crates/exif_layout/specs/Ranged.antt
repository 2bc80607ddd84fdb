-- Groups of numbers that fit their types, and of plain texts.
use Rattle.std.specs.Prelude.{◌≡◌, ◌<◌, ◌≤◌, ◌^◌, false, List, length, None, ⊤, FitsSigned}
use Rattle.std.specs.List.{All, AllByRecursion}
use Rattle.std.specs.Int.{w8, w16, w32}
use Rattle.exif_types.specs.Sound.{HasPlainTexts}
use Rattle.exif_types.specs.declared.value.Value.{Value}
use Rattle.exif_types.specs.declared.value.Value.TheVariants.{Short, Long, Rational, SByte, SShort, SLong, SRational, Float, Double}
use Rattle.exif_table.specs.declared.context.Context.{Context}
use Rattle.exif_layout.specs.Groups.{Group, Entry, is_ignored, pushed_in}
use Rattle.exif_layout.specs.Refused.{write_fault}

-- each number of the value fits its type, as in any value of a program; bytes are written as they
-- are, and nothing is required of them
abbrev pub IsRanged : Value → Type 0
IsRanged (Short xs) = All (λ x. x < 2 ^ 16) xs
IsRanged (Long xs) = All (λ x. x < 2 ^ 32) xs
IsRanged (Rational xs) = All (λ x. (x.num < 2 ^ 32) × (x.denom < 2 ^ 32)) xs
IsRanged (SByte xs) = All (FitsSigned w8) xs
IsRanged (SShort xs) = All (FitsSigned w16) xs
IsRanged (SLong xs) = All (FitsSigned w32) xs
IsRanged (SRational xs) = All (λ x. FitsSigned w32 x.num × FitsSigned w32 x.denom) xs
IsRanged (Float xs) = All (λ x. x < 2 ^ 32) xs
IsRanged (Double xs) = All (λ x. x < 2 ^ 64) xs
IsRanged value = ⊤

-- an entry as a writer may hold it: of numbers that fit, under a tag that is none of the writer's
-- own
pub record IsEntry (context : Context) (entry : Entry) : Type 0 where
  pub tag : entry.tag < 2 ^ 16
  pub value : IsRanged entry.value
  pub pushed : is_ignored context entry.tag ≡ false

-- all pushed entries are such
abbrev pub AreRanged : List Group → Type 0
AreRanged groups =
    AllByRecursion
    (λ group. (context : Context) → AllByRecursion (IsEntry context) (pushed_in group context))
    groups

-- no pushed text holds a zero byte
abbrev pub HavePlainTexts : List Group → Type 0
HavePlainTexts groups =
    AllByRecursion
    (λ group. (context : Context)
    → AllByRecursion (λ entry. HasPlainTexts entry.value) (pushed_in group context))
    groups

-- groups that are written, and read back as they were
pub record AreReadable (groups : List Group) : Type 0 where
  pub ranged : AreRanged groups
  pub plain : HavePlainTexts groups
  pub few : length groups ≤ 8
  pub written : write_fault groups ≡ None
