-- What stands out of an error's line.
use Rattle.std.proofs.Common.{◌≡◌, ℕ, List, codes, Option, None, Some, subst}
use Rattle.std.specs.Prelude.{IfSome}
use Rattle.std.specs.Fmt.{◌++?◌}
use Rattle.std.specs.Io.KnownBytes.{Appends, Keeps}
use Rattle.exif_base.specs.Sent.{SendsFront}
use Rattle.exif_types.specs.Failures.{Failure, error_text}
use Rattle.exif_show.specs.Program.{said_line, Says, SaysWhole}
use Rattle.exif_base.proofs.Sent.{front_none}

-- a line was written for a text, where that is known
abbrev pub Told : Option (List ℕ) → List ℕ → Type 0
Told told line = IfSome (Some (codes "exif_show: ") ++? (told ++? Some (codes "\n"))) (λ bytes. line ≡ bytes)

-- hence what holds of the bytes written holds of the line
of_line : (told : Option (List ℕ)) (line : List ℕ) (P : List ℕ → Type 0) → Told told line → P line → IfSome told (λ text. P (said_line text))
unfolding said_line
of_line None line P is h = tt
of_line (Some text) line P is h = subst P is h

-- where the line of an error was added to what was written, the error is reported whole
pub says_whole : (e : Failure) (a b : Option (List ℕ)) (line : List ℕ) → Told (error_text e) line → Appends a b line → SaysWhole e a b
says_whole e a b line is sent = of_line (error_text e) line (λ bytes. Appends a b bytes) is sent

-- where a front of the line of an error was sent, the error is reported as far as that
pub says_front : (e : Failure) (a b : Option (List ℕ)) (line : List ℕ) → Told (error_text e) line → SendsFront a b line → Says e a b
says_front e a b line is front = of_line (error_text e) line (λ bytes. SendsFront a b bytes) is front

none_of : (told a b : Option (List ℕ)) → Keeps a b → IfSome told (λ text. SendsFront a b (said_line text))
none_of None a b h = tt
none_of (Some text) a b h = front_none a b (said_line text) h

-- nothing
pub says_none : (e : Failure) (a b : Option (List ℕ)) → Keeps a b → Says e a b
says_none e a b h = none_of (error_text e) a b h
