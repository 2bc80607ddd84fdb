-- Escaped texts: what they have not, and that they read back.
use Rattle.std.proofs.Common.{◌≡◌, ℕ, List, [], ◌∷◌, ◌++◌, get_or, drop, true, ◌==◌, if◌then◌else◌, refl, ap, sym, ◌∙◌, arith}
use Rattle.std.proofs.lemmas.Grind.{common_steps}
use Rattle.std.proofs.lemmas.List.Folds.{list_all-append}
use Rattle.std.specs.List.{list_all}
use Rattle.exif_page.specs.Escaping.{escaped, escaped_byte, is_plain, is_plain_text}

plain_byte : (byte : ℕ) → list_all is_plain (escaped_byte byte) ≡ true
plain_byte byte = grind (arith, common_steps)

-- no byte of an escaped text is markup
pub plain_text : (text : List ℕ) → is_plain_text (escaped text) ≡ true
unfolding escaped
plain_text [] = refl
plain_text (byte ∷ text) =
    rw (list_all-append is_plain (escaped_byte byte) (escaped text), plain_byte byte)
    (plain_text text)

-- the first byte of an escaped text, and what is behind it
abbrev first : List ℕ → ℕ × List ℕ
first text =
    if get_or text 0 0 == 38 then
    (if get_or text 1 0 == 97 then (38, drop 5 text)
    else (if get_or text 1 0 == 108 then (60, drop 4 text)
    else (if get_or text 1 0 == 103 then (62, drop 4 text)
    else (if get_or text 1 0 == 113 then (34, drop 6 text)
    else (39, drop 5 text)))))
    else (get_or text 0 0, drop 1 text)

first_byte : (byte : ℕ) (rest : List ℕ) → first (escaped_byte byte ++ rest) ≡ (byte, rest)
first_byte byte rest = grind (arith, common_steps)

not_empty : (byte : ℕ) (rest : List ℕ) → [] ≡ escaped_byte byte ++ rest → ⊥
not_empty byte rest h = grind (arith, common_steps)

-- the first bytes of equal texts, and what is behind them, are equal
both_first : (one other : ℕ) (rest more : List ℕ)
    → escaped_byte one ++ rest ≡ escaped_byte other ++ more
    → ◌≡◌ {A = ℕ × List ℕ} (one, rest) (other, more)
both_first one other rest more h =
    sym (first_byte one rest) ∙ ap first h ∙ first_byte other more

-- equal texts are of equal ones
pub read_back : (one other : List ℕ) → escaped one ≡ escaped other → one ≡ other
unfolding escaped
read_back [] [] h = refl
read_back [] (byte ∷ other) h = absurd (not_empty byte (escaped other) h)
read_back (byte ∷ one) [] h = absurd (not_empty byte (escaped one) (sym h))
read_back (byte ∷ one) (next ∷ other) h =
    let e = both_first byte next (escaped one) (escaped other) h in
    let same : byte ≡ next = ap (λ (p : ℕ × List ℕ). p.0) e in
    let rest : escaped one ≡ escaped other = ap (λ (p : ℕ × List ℕ). p.1) e in
    let more : one ≡ other = read_back one other rest in
    cc
