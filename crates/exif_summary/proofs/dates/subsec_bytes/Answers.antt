use Rattle.std.proofs.Common.{◌≡◌, ℕ, take, length, ap, ◌∙◌, refl}
use Rattle.std.proofs.Math.Nat.{min_comm}
use Rattle.std.proofs.lemmas.List.{take_min}
use Rattle.exif_summary.proofs.dates.subsec_bytes.Goals as goal

pub returns : goal.returns
returns c =
    let bytes = c.args.text.now in
    let cut : take c.min.result bytes ≡ take 9 bytes = ap (λ (n : ℕ). take n bytes) (c.min.ensures ∙ min_comm (length bytes) 9) ∙ take_min 9 bytes in
    rw (c.length_before_space.ensures.len, cut) refl
