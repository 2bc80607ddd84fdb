use Rattle.std.proofs.Common.{◌≡◌, ℕ, suc, ◌*◌, ◌^◌, ◌<◌, List, ◌++◌}
use Rattle.std.specs.Fmt.{HasWritten, IsPlainFormatter}
use Rattle.exif_text.specs.Decimal.{in_digits, without_last_zeros}
use Rattle.exif_text.proofs.decimal.write_fraction.Given as goal

-- the places above `place` are written, and those from it on are still left
abbrev pub invariant-digits : goal.invariant-digits
invariant-digits g l =
    (k : ℕ) × (l.place ≡ 10 ^ k) × (l.left < 10 * l.place) × (0 < l.place) × (0 < l.left) × (done : List ℕ)
    × (done ++ without_last_zeros (in_digits (suc k) l.left) ≡ without_last_zeros (in_digits 9 l.fn.billionths))
    × (IsPlainFormatter l.initial.f → HasWritten g.W.Write.write_str_gives l.initial.f done l.f)

abbrev pub decreases-digits : goal.decreases-digits
decreases-digits g l = l.place
