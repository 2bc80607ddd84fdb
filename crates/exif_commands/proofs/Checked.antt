-- Files that are refused.
use Rattle.std.proofs.Common.{◌≡◌, ℕ, Bool, List, Option, Some, None, Result, Ok, Err, ap}
use Rattle.std.specs.Prelude.{MatchOption}
use Rattle.exif_check.specs.declared.checked.Checked.{Checked}
use Rattle.exif_session.specs.declared.request.Form.{Form}
use Rattle.exif_types.specs.Failures.{Failure}
use Rattle.exif_types.specs.Refusals.{Refusal, Refuses, refusal_of}
use Rattle.exif_commands.specs.Checks.{checked_if}

refused_by : (form : Form) (strict : Bool) (path file : List ℕ) (o : Option Refusal) (answer : Result (List Checked) Refusal)
    → MatchOption o ⊥ (λ r. answer ≡ Err r)
    → MatchOption o ⊥ (λ r. checked_if form strict path file answer ≡ Err r)
refused_by form strict path file None answer h = h
refused_by form strict path file (Some r) answer h = ap (checked_if form strict path file) h

-- a file whose parts are refused is refused as they are
pub refused_if : (form : Form) (strict : Bool) (path file : List ℕ) (e : Failure) (answer : Result (List Checked) Refusal)
    → Refuses e answer → Refuses e (checked_if form strict path file answer)
refused_if form strict path file e answer h = refused_by form strict path file (refusal_of e) answer h
