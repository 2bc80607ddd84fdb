-- What `{:08x}` and the like write.
use Rattle.std.proofs.Common.{◌≡◌, ℕ, ◌-◌, ◌^◌, List, [], false, append-nil}
use Rattle.std.proofs.Math.Nat.{sub-zero}
use Rattle.std.specs.Fmt.{padded_integral, format_spec, char_count}
use Rattle.exif_text.specs.Plain.{zero_filled}

-- a hole with zeros before the digits
pub zero_padded : (k : ℕ) (text : List ℕ) → padded_integral (format_spec 32 0 4 k (2 ^ 64 - 1)) false [] text ≡ zero_filled k text
unfolding padded_integral zero_filled char_count
zero_padded k text = simp (sub-zero, append-nil)
