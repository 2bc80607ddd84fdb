use Rattle.std.proofs.Common.{◌≡◌, ℕ, ◌<◌, true, arith}
use Rattle.std.proofs.lemmas.Grind.{common_steps}
use Rattle.std.specs.Char.{is_control}
use Rattle.std.proofs.lemmas.Fmt.{hex_byte}
use Rattle.exif_decisions.proofs.escaped.write_other.Goals as goal

-- two digits hold the number of a control character
control_small : (c : ℕ) → is_control c ≡ true → c < 256
control_small c control = grind (arith, common_steps)

pub returns : goal.returns
returns g c = grind (arith, common_steps, hex_byte, control_small)
