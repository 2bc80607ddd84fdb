-- What a function that writes tokens does.
use Rattle.std.specs.Prelude.{◌≡◌, List, ◌++◌, Result, OnOk}
use Rattle.json.specs.Token.{Token}
use Rattle.json.specs.Written.{Written}

-- all of the tokens were written, and what was before them stays; an error says nothing
pub record Prints {A E : Type 0} (result : Result A E) (old new : Written) (tokens : List Token)
    : Type 0 where
  pub written : OnOk result (new.tokens ≡ old.tokens ++ tokens)
  pub before : OnOk result (new.before ≡ old.before)
