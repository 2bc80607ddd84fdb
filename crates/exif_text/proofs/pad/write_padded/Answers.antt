use Rattle.std.proofs.Common.{◌≡◌, unwrap_or, refl}
use Rattle.std.specs.Fmt.{formatter_spec, spec_width, spec_align}
use Rattle.std.proofs.Output.{has_written_styled_append, has_written_styled_of_eq}
use Rattle.exif_text.proofs.PadLemmas.{repeated_spaces, has_written_from_padded}
use Rattle.exif_text.proofs.pad.write_padded.Goals as goal

pub returns-clause-styled : goal.returns-clause-styled
returns-clause-styled g c flush ok =
    let first = c.in_ok-write_repeated.ensures.styled flush refl in
    let middle = c.in_ok-write_str.ensures.styled first.flush refl in
    let last = c.write_repeated-2.ensures.styled middle.flush ok in
    let width : c.unwrap_or-width.result ≡ unwrap_or (spec_width (formatter_spec c.args.f.now)) 0 = cc in
    let align : c.unwrap_or-align.result ≡ unwrap_or (spec_align (formatter_spec c.args.f.now)) c.args.side = cc in
    has_written_styled_of_eq _ _ _ _ _
    (rw (repeated_spaces, repeated_spaces, c.saturating_sub.ensures, c.places_before-before.ensures, c.saturating_sub-missing.ensures, width, align) refl)
    (has_written_styled_append _ _ _ _ _ _ first (has_written_styled_append _ _ _ _ _ _ middle last))

-- a plain formatter requests no width
pub returns-clause-writes : goal.returns-clause-writes
returns-clause-writes g c plain ok =
    has_written_from_padded _ _ _ _ _ _ refl plain (returns-clause-styled g c plain.flush ok)
