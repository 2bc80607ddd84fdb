-- What is missing for a name, and why there is no pattern or no plan, in words.
use Rattle.std.specs.Prelude.{ℕ, List, ◌++◌, ◌+◌, ◌-◌, ◌^◌, min, codes, Option, Some, None}
use Rattle.std.specs.Fmt.{decimal}
use Rattle.exif_rename.specs.declared.naming.Missing.{Missing}
use Rattle.exif_rename.specs.declared.naming.Missing.TheVariants as missing
use Rattle.exif_rename.specs.declared.pattern.Fault.{Fault}
use Rattle.exif_rename.specs.declared.pattern.Fault.TheVariants as fault
use Rattle.exif_rename.specs.declared.pattern.PatternError.{PatternError}
use Rattle.exif_rename.specs.declared.plan.PlanError.{PlanError}
use Rattle.exif_rename.specs.declared.plan.PlanError.TheVariants as plan

-- which part of a name is not known
abbrev pub missing_text : Missing → List ℕ
missing_text missing.Date = codes "no date"
missing_text missing.Make = codes "no make of a camera"
missing_text missing.Model = codes "no model of a camera"
missing_text missing.Name = codes "no name to keep"

-- a text about a character by its number: the first one is 1
abbrev pub at_character : ℕ → List ℕ → List ℕ
at_character at text = codes "character " ++ (decimal (min (at + 1) (2 ^ 64 - 1)) ++ text)

-- what is wrong in a pattern, behind so many characters
abbrev pub fault_text : Fault → ℕ → List ℕ
fault_text fault.Empty at = codes "the pattern is empty"
fault_text fault.PercentAtEnd at = codes "% at the end; write %% for a percent sign"
fault_text fault.UnknownLetter at =
    at_character at (codes ": unknown % letter; expected %Y %y %m %d %H %M %S or %%")
fault_text fault.UnknownName at =
    at_character at (codes ": unknown name in braces; use {Make}, {Model} or {Name}")
fault_text fault.UnclosedBrace at = at_character at (codes ": this brace is not closed")
fault_text fault.LoneBrace at = at_character at (codes ": write }} for a brace")
fault_text fault.NoName at =
    at_character at (codes ": a name between slashes is empty, '.' or '..'")

-- why a text is no pattern
abbrev pub pattern_text : PatternError → List ℕ
pattern_text error = fault_text error.fault error.at

-- why there is no plan; the text of the system's own error is not known
abbrev pub plan_text : PlanError → Option (List ℕ)
plan_text (plan.Io cause) = None
plan_text (plan.Crowded request) = Some (codes "all names with a number up to 99999 are taken")
plan_text plan.OutOfMemory = Some (codes "out of memory")
