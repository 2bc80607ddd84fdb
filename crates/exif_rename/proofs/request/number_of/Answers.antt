use Rattle.exif_rename.proofs.Numbered.{middle_is}
use Rattle.std.proofs.Common.{◌≡◌, ℕ, List, ◌++◌, inl, inr, ◌∙◌, ap, sym, Ok, length, drop, true, false, arith}
use Rattle.std.specs.Prelude.{◌==◌}
use Rattle.std.specs.Char.{encode_utf8}
use Rattle.std.specs.Result.{result_ok}
use Rattle.std.proofs.lemmas.Fmt.{parse-decimal}
use Rattle.std.proofs.lemmas.List.{append_cancel_left}
use Rattle.std.specs.Fmt.{decimal}
use Rattle.exif_rename.proofs.request.number_of.Goals as goal

pub returns-in_err-strip_prefix-2 : goal.returns-in_err-strip_prefix-2
returns-in_err-strip_prefix-2 c = λ number small e.
    let at_front = c.in_ok-strip_prefix.ensures.cases in
    let at_end = c.in_ok-middle.ensures.cases in
    let front : c.args.path.now ≡ c.args.base.now ++ c.in_ok-strip_prefix.field-0.now = at_front.1.1 ∙ ap (λ (r : List ℕ). c.args.base.now ++ r) (sym at_front.2) in
    let back : c.in_ok-strip_prefix.field-0.now ≡ c.in_ok-middle.middle.now ++ c.args.ending.now = at_end.1.1 ∙ ap (λ (m : List ℕ). m ++ c.args.ending.now) (sym at_end.2) in
    elim (middle_is c.args.path.now c.args.base.now c.in_ok-strip_prefix.field-0.now c.in_ok-middle.middle.now c.args.ending.now number front back e) [
      | inl none ↦ let no : (length c.in_ok-middle.middle.now == 0) ≡ true = ap (λ (m : List ℕ). length m == 0) none in let f : false ≡ true = c.if-is_empty.ensures ∙ no in cc
      | inr some ↦ absurd (c.in_err-strip_prefix-2.ensures.cases (decimal number) some)
    ]

pub returns : goal.returns
returns c = λ number small e.
    let at_front = c.in_ok-strip_prefix.ensures.cases in
    let at_end = c.in_ok-middle.ensures.cases in
    let front : c.args.path.now ≡ c.args.base.now ++ c.in_ok-strip_prefix.field-0.now = at_front.1.1 ∙ ap (λ (r : List ℕ). c.args.base.now ++ r) (sym at_front.2) in
    let back : c.in_ok-strip_prefix.field-0.now ≡ c.in_ok-middle.middle.now ++ c.args.ending.now = at_end.1.1 ∙ ap (λ (m : List ℕ). m ++ c.args.ending.now) (sym at_end.2) in
    elim (middle_is c.args.path.now c.args.base.now c.in_ok-strip_prefix.field-0.now c.in_ok-middle.middle.now c.args.ending.now number front back e) [
      | inl none ↦ let no : (length c.in_ok-middle.middle.now == 0) ≡ true = ap (λ (m : List ℕ). length m == 0) none in let f : false ≡ true = c.if-is_empty.ensures ∙ no in cc
      | inr some ↦
          let mark = c.in_ok-strip_prefix-2.ensures.cases in
          let same : encode_utf8 95 ++ drop mark.0 c.in_ok-middle.middle.now ≡ encode_utf8 95 ++ decimal number = sym mark.1.split ∙ some in
          let digits : c.in_ok-strip_prefix-2.field-0.now ≡ decimal number = mark.2 ∙ append_cancel_left (encode_utf8 95) (drop mark.0 c.in_ok-middle.middle.now) (decimal number) same in
          let parsed : c.parse.result ≡ Ok number = parse-decimal 32 number c.in_ok-strip_prefix-2.field-0.now c.parse.result small (omega arith) digits (c.parse.ensures.value.0) in
          c.ok.ensures.value ∙ ap result_ok parsed
    ]
