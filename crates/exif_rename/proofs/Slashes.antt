-- Why no text that a pattern brings in has a slash.
use Rattle.std.proofs.Common.{◌≡◌, ◌≢◌, ◌==◌, ◌||◌, ◌<◌, ℕ, List, [], ◌∷◌, Bool, true, false, cond, sym, refl, subst, length, get_or, map, arith}
use Rattle.std.proofs.lemmas.Bool.{eqb-true, eq-eqb}
use Rattle.std.proofs.lemmas.Str.{NoCharPasses-byte}
use Rattle.std.specs.Char.{encode_utf8}
use Rattle.std.specs.Prelude.{codes, nat_lt}
use Rattle.std.specs.Str.{NoCharPasses, NonePass, bytes_eq, chars, encode_utf8_all, trim}
use Rattle.exif_rename.specs.Naming.{is_reserved, safe, safe_char, undotted}

char_no_slash : (c : ℕ) → (safe_char c == 47) ≡ false
char_no_slash c = at (c == 47) refl
  where
    branch : (test : Bool) → (c == 47) ≡ false → (cond test 95 c == 47) ≡ false
    branch true other = refl
    branch false other = other

    at : (slash : Bool) → (c == 47) ≡ slash → (safe_char c == 47) ≡ false
    at true is = let e : c ≡ 47 = eqb-true c 47 is in subst (λ (n : ℕ). (safe_char n == 47) ≡ false) (sym e) refl
    at false is = branch (nat_lt c 32 || ((c == 127) || is_reserved c)) is

none_pass : (cs : List ℕ) → NonePass (λ c. c == 47) (map safe_char cs)
none_pass [] = tt
none_pass (c ∷ cs) = (char_no_slash c, none_pass cs)

no_slash_byte : (bs : List ℕ) → NoCharPasses (λ c. c == 47) bs → (i : ℕ) → i < length bs → get_or bs i 0 ≢ 47
no_slash_byte bs none i h is =
    let small : get_or bs i 0 < 128 = omega (arith, is) in
    let off = NoCharPasses-byte (λ c. c == 47) bs i none h small in
    let on_ : (get_or bs i 0 == 47) ≡ true = eq-eqb (get_or bs i 0) 47 is in
    cc

one_mark : NoCharPasses (λ c. c == 47) (codes "_")
unfolding encode_utf8
one_mark = (codes "_", refl, (refl, tt))

two_marks : NoCharPasses (λ c. c == 47) (codes "__")
unfolding encode_utf8
two_marks = (codes "__", refl, (refl, (refl, tt)))

undotted_none : (text : List ℕ) → NoCharPasses (λ c. c == 47) text → NoCharPasses (λ c. c == 47) (undotted text)
undotted_none text none = pick (bytes_eq text (codes ".")) (codes "_") _ one_mark (pick (bytes_eq text (codes "..")) (codes "__") text two_marks none)
  where
    pick : (test : Bool) (x y : List ℕ) → NoCharPasses (λ c. c == 47) x → NoCharPasses (λ c. c == 47) y → NoCharPasses (λ c. c == 47) (cond test x y)
    pick true x y a b = a
    pick false x y a b = b

pub safe_no_slash : (text : List ℕ) (i : ℕ) → i < length (safe text) → get_or (safe text) i 0 ≢ 47
safe_no_slash text =
    let cs = map safe_char (chars (trim text)) in
    no_slash_byte (safe text) (undotted_none (encode_utf8_all cs) (cs, refl, none_pass (chars (trim text))))
