use Rattle.std.proofs.Common.{◌≡◌, inl, inr, map, sym, ap}
use Rattle.std.proofs.Math.Utf8.{encodes}
use Rattle.std.specs.Prelude.{string_bytes}
use Rattle.std.specs.Str.Lossy.{utf8_lossy}
use Rattle.exif_iptc.specs.Texts.{decoded, latin_char}
use Rattle.exif_iptc.proofs.TextSteps.{text_is}
use Rattle.exif_iptc.proofs.text.decoded.Goals as goal

pub returns-in-Utf8 : goal.returns-in-Utf8
returns-in-Utf8 c =
    let bytes = c.args.bytes.now in
    text_is string_bytes c.from_utf8_lossy.result (utf8_lossy bytes) (decoded c.args.charset bytes)
    (ap (λ k. decoded k bytes) (sym c.in-Utf8.is)) c.from_utf8_lossy.ensures.lossy

pub returns-in-Latin1 : goal.returns-in-Latin1
returns-in-Latin1 c =
    let bytes = c.args.bytes.now in
    let same : encodes (map latin_char bytes) ≡ decoded c.args.charset bytes =
    elim c.in-Latin1.is [
      | inl e ↦ ap (λ k. decoded k bytes) (sym e)
      | inr e ↦ ap (λ k. decoded k bytes) (sym e)
    ] in
    text_is string_bytes c.latin_text.result (encodes (map latin_char bytes)) (decoded c.args.charset bytes) same c.latin_text.ensures
