-- Texts under the options of a format.
use Rattle.std.proofs.Common.{◌≡◌, ℕ, zero, suc, List, [], ◌∷◌, replicate, refl, ap, sym, subst, ◌∙◌, append-nil, unwrap_or}
use Rattle.std.proofs.Math.Nat.{zero-sub}
use Rattle.std.specs.List.{repeat}
use Rattle.std.specs.Fmt.{HasWritten, HasWrittenStyled, IsPlainFormatter, IsDefaultSpec, formatter_spec, spec_width}
use Rattle.std.specs.declared.fmt.Formatter.{Formatter}
use Rattle.std.specs.declared.fmt.Alignment.{Alignment}
use Rattle.std.specs.declared.fmt.Alignment.TheVariants.{Left, Right, Center}
use Rattle.exif_text.specs.Pad.{pad}

-- a space over and over is so many spaces
pub repeated_spaces : (n : ℕ) → repeat {A = ℕ} n (32 ∷ []) ≡ replicate n 32
repeated_spaces zero = refl
repeated_spaces (suc n) = ap (λ t. 32 ∷ t) (repeated_spaces n)

-- no width adds nothing
pub pad_none : (text : List ℕ) (align : Alignment) → pad text 0 align ≡ text
pad_none text Left = rw zero-sub (append-nil text)
pad_none text Center = rw zero-sub (append-nil text)
pad_none text Right = rw zero-sub (append-nil text)

module _ {W : Type 0} (took : W → List ℕ → W → Type 0) where
  -- what is written whatever the options are is written by a plain formatter
  pub has_written_from_styled : (f : Formatter W) (text : List ℕ) (g : Formatter W) → IsPlainFormatter f → HasWrittenStyled took f text g → HasWritten took f text g
  has_written_from_styled f text g plain styled = record {
    wrote = styled.wrote;
    plain = record { bare = subst IsDefaultSpec (sym styled.spec) plain.bare; flush = styled.flush };
  }

  -- a plain formatter pads nothing
  pub has_written_from_padded : (f : Formatter W) (shown text : List ℕ) (side : Alignment) (g : Formatter W) → shown ≡ text → IsPlainFormatter f
      → HasWrittenStyled took f (pad shown (unwrap_or (spec_width (formatter_spec f)) 0) side) g → HasWritten took f text g
  has_written_from_padded f shown text side g same plain styled = has_written_from_styled f text g plain
      (subst (λ t. HasWrittenStyled took f t g) (rw plain.bare.width (pad_none shown side) ∙ same) styled)
