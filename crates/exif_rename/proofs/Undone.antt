-- What is read of a line that a run writes.
use Rattle.std.proofs.Common.{◌≡◌, ℕ, ◌+◌, ◌*◌, ◌/◌, ◌%◌, ◌<◌, ◌==◌, ◌&&◌, Bool, true, false, cond, List, [], ◌∷◌, ◌++◌, Option, Some, None, ap, sym, refl, ◌∙◌, append_assoc, append-nil, drop, arith}
use Rattle.std.specs.Prelude.{codes, nat_lt}
use Rattle.std.specs.Char.{digit_char, digit_value, encode_utf8, IsScalar}
use Rattle.std.specs.List.{flat_map}
use Rattle.std.specs.Str.{IsUtf8, chars, encode_utf8_all}
use Rattle.std.proofs.Math.Utf8.{scalar, scalars}
use Rattle.std.proofs.lemmas.Bool.Decides.{nat_tests}
use Rattle.std.proofs.lemmas.Str.{IsUtf8-encode, chars-append, chars-encodes, chars-nil, encodes-chars, scalars-chars, digit_value-digit_char}
use Rattle.exif_rename.specs.Undo.{char_at, coded, escape, is_coded, line_of, mark, read, with_text, written}

if_as : {A : Type 0} (b v : Bool) (x y : A) → b ≡ v → cond b x y ≡ cond v x y
if_as b v x y e = ap (λ (b : Bool). cond b x y) e

split_and : (a b : Bool) → (a && b) ≡ true → (a ≡ true) × (b ≡ true)
split_and true b e = (refl, e)
split_and false b e = cc

-- an ASCII byte is a character
chars_ascii : (b : ℕ) (bs : List ℕ) → nat_lt b 128 ≡ true → chars (b ∷ bs) ≡ b ∷ chars bs
unfolding chars
chars_ascii b [] e = rw e refl
chars_ascii b (x ∷ xs) e = rw e refl

-- a character before others
chars_scalar : (c : ℕ) (rest : List ℕ) → IsScalar c → chars (encode_utf8 c ++ rest) ≡ c ∷ chars rest
chars_scalar c rest is =
    let one : scalars (c ∷ []) ≡ true = rw is refl in
    let alone : chars (encode_utf8 c) ≡ c ∷ [] = ap chars (sym (append-nil (encode_utf8 c))) ∙ chars-encodes (c ∷ []) one in
    chars-append (encode_utf8 c) rest (IsUtf8-encode c is) ∙ ap (λ (cs : List ℕ). cs ++ chars rest) alone

digit_ascii : (d : ℕ) → d < 16 → nat_lt (digit_char d) 128 ≡ true
digit_ascii d h = grind (arith, nat_tests)

digit_small : (d : ℕ) → d < 16 → nat_lt (digit_value (digit_char d)) 16 ≡ true
digit_small d h =
    let e : digit_value (digit_char d) ≡ d = digit_value-digit_char d (omega arith) in
    rw e (grind (arith, nat_tests))

coded_small : (c : ℕ) → is_coded c ≡ true → c < 256
coded_small c e = grind (arith, nat_tests)

-- the character whose code is written
escaped_back : (c : ℕ) (rest : List ℕ) → is_coded c ≡ true
    → escape (120 ∷ digit_char (c / 16) ∷ digit_char (c % 16) ∷ rest) ≡ Some (c, 3)
escaped_back c rest e =
    let small : c < 256 = coded_small c e in
    let high : digit_value (digit_char (c / 16)) ≡ c / 16 = digit_value-digit_char (c / 16) (omega arith) in
    let low : digit_value (digit_char (c % 16)) ≡ c % 16 = digit_value-digit_char (c % 16) (omega arith) in
    let high_small = digit_small (c / 16) (omega arith) in
    let low_small = digit_small (c % 16) (omega arith) in
    let sum : c / 16 * 16 + c % 16 ≡ c = omega arith in
    if_as (nat_lt (digit_value (digit_char (c / 16))) 16 && nat_lt (digit_value (digit_char (c % 16))) 16) true
    (Some (digit_value (digit_char (c / 16)) * 16 + digit_value (digit_char (c % 16)), 3)) None (rw high_small low_small)
    ∙ ap (λ (n : ℕ). Some (n, 3)) (rw (high, low) sum)

at_char : (first : ℕ) (rest : List ℕ) (found : ℕ × ℕ) → char_at first rest ≡ Some found → read 0 (first ∷ rest) ≡ with_text (encode_utf8 found.0) (read found.1 rest)
at_char first rest found is =
    ap (λ (r : Option (ℕ × ℕ)). elim r [ None ↦ ([], first ∷ rest) | Some found ↦ with_text (encode_utf8 found.0) (read found.1 rest) ]) is

plain_char : (c : ℕ) (rest : List ℕ) → is_coded c ≡ false → char_at c rest ≡ Some (c, 0)
plain_char c rest e =
    let mark : (c == 62) ≡ false = grind (arith, nat_tests) in
    let slash : (c == 92) ≡ false = grind (arith, nat_tests) in
    if_as (c == 62) false None (cond (c == 92) (escape rest) (Some (c, 0))) mark ∙ if_as (c == 92) false (escape rest) (Some (c, 0)) slash

coded_chars : (c : ℕ) (rest : List ℕ) → is_coded c ≡ true
    → chars (92 ∷ 120 ∷ digit_char (c / 16) ∷ digit_char (c % 16) ∷ rest) ≡ 92 ∷ 120 ∷ digit_char (c / 16) ∷ digit_char (c % 16) ∷ chars rest
coded_chars c rest e =
    let small : c < 256 = coded_small c e in
    chars_ascii 92 (120 ∷ digit_char (c / 16) ∷ digit_char (c % 16) ∷ rest) refl
    ∙ ap (λ cs. 92 ∷ cs) (chars_ascii 120 (digit_char (c / 16) ∷ digit_char (c % 16) ∷ rest) refl
    ∙ ap (λ cs. 120 ∷ cs) (chars_ascii (digit_char (c / 16)) (digit_char (c % 16) ∷ rest) (digit_ascii (c / 16) (omega arith))
    ∙ ap (λ cs. digit_char (c / 16) ∷ cs) (chars_ascii (digit_char (c % 16)) rest (digit_ascii (c % 16) (omega arith)))))

-- one character of a path
read_coded : (c : ℕ) (rest : List ℕ) → IsScalar c → read 0 (chars (coded c ++ rest)) ≡ with_text (encode_utf8 c) (read 0 (chars rest))
read_coded c rest is = at (is_coded c) refl
  where
    at : (b : Bool) → is_coded c ≡ b → read 0 (chars (coded c ++ rest)) ≡ with_text (encode_utf8 c) (read 0 (chars rest))
    at true e =
        let form : coded c ≡ 92 ∷ 120 ∷ digit_char (c / 16) ∷ digit_char (c % 16) ∷ [] = if_as (is_coded c) true (92 ∷ 120 ∷ digit_char (c / 16) ∷ digit_char (c % 16) ∷ []) (encode_utf8 c) e in
        let more = 120 ∷ digit_char (c / 16) ∷ digit_char (c % 16) ∷ chars rest in
        ap (λ (bs : List ℕ). read 0 (chars (bs ++ rest))) form ∙ ap (read 0) (coded_chars c rest e) ∙ at_char 92 more (c, 3) (escaped_back c (chars rest) e)
    at false e =
        let form : coded c ≡ encode_utf8 c = if_as (is_coded c) false (92 ∷ 120 ∷ digit_char (c / 16) ∷ digit_char (c % 16) ∷ []) (encode_utf8 c) e in
        ap (λ (bs : List ℕ). read 0 (chars (bs ++ rest))) form ∙ ap (read 0) (chars_scalar c rest is) ∙ at_char c (chars rest) (c, 0) (plain_char c (chars rest) e)

with_text_more : (a b : List ℕ) (r : List ℕ × List ℕ) → with_text a (with_text b r) ≡ with_text (a ++ b) r
with_text_more a b r = ap (λ (x : List ℕ). (x, r.1)) (sym (append_assoc a b r.0))

-- a path, and what follows it
read_all : (cs rest : List ℕ) → scalars cs ≡ true → read 0 (chars (flat_map coded cs ++ rest)) ≡ with_text (encode_utf8_all cs) (read 0 (chars rest))
read_all [] rest is = refl
read_all (c ∷ cs) rest is =
    let both = split_and (scalar c) (scalars cs) is in
    ap (λ (bs : List ℕ). read 0 (chars bs)) (append_assoc (coded c) (flat_map coded cs) rest)
    ∙ read_coded c (flat_map coded cs ++ rest) both.0
    ∙ ap (with_text (encode_utf8 c)) (read_all cs rest both.1)
    ∙ with_text_more (encode_utf8 c) (encode_utf8_all cs) (read 0 (chars rest))

pub read_written : (path rest : List ℕ) → IsUtf8 path → read 0 (chars (written path ++ rest)) ≡ with_text path (read 0 (chars rest))
read_written path rest utf8 =
    read_all (chars path) rest (scalars-chars path utf8) ∙ ap (λ (bs : List ℕ). with_text bs (read 0 (chars rest))) (encodes-chars path utf8)

pub read_last : (path : List ℕ) → IsUtf8 path → read 0 (chars (written path)) ≡ (path, [])
read_last path utf8 =
    ap (λ (bs : List ℕ). read 0 (chars bs)) (sym (append-nil (written path))) ∙ read_written path [] utf8
    ∙ ap (λ (cs : List ℕ). with_text path (read 0 cs)) chars-nil ∙ ap (λ (bs : List ℕ). (bs, [])) (append-nil path)

marked : (copied : Bool) (rest : List ℕ) → read 0 (chars (mark copied ++ (codes "> " ++ rest))) ≡ (mark copied, 62 ∷ 32 ∷ chars rest)
unfolding encode_utf8
marked true rest = ap (read 0) (ascii 61 refl rest)
  where
    ascii : (m : ℕ) → nat_lt m 128 ≡ true → (rest : List ℕ) → chars (32 ∷ m ∷ 62 ∷ 32 ∷ rest) ≡ 32 ∷ m ∷ 62 ∷ 32 ∷ chars rest
    ascii m e rest = chars_ascii 32 (m ∷ 62 ∷ 32 ∷ rest) refl ∙ ap (λ cs. 32 ∷ cs) (chars_ascii m (62 ∷ 32 ∷ rest) e
        ∙ ap (λ cs. m ∷ cs) (chars_ascii 62 (32 ∷ rest) refl ∙ ap (λ cs. 62 ∷ cs) (chars_ascii 32 rest refl)))
marked false rest = ap (read 0) (ascii 45 refl rest)
  where
    ascii : (m : ℕ) → nat_lt m 128 ≡ true → (rest : List ℕ) → chars (32 ∷ m ∷ 62 ∷ 32 ∷ rest) ≡ 32 ∷ m ∷ 62 ∷ 32 ∷ chars rest
    ascii m e rest = chars_ascii 32 (m ∷ 62 ∷ 32 ∷ rest) refl ∙ ap (λ cs. 32 ∷ cs) (chars_ascii m (62 ∷ 32 ∷ rest) e
        ∙ ap (λ cs. m ∷ cs) (chars_ascii 62 (32 ∷ rest) refl ∙ ap (λ cs. 62 ∷ cs) (chars_ascii 32 rest refl)))

-- the first path of a line, with the mark behind it, and what follows
pub read_line : (copied : Bool) (from to : List ℕ) → IsUtf8 from
    → read 0 (chars (line_of copied from to)) ≡ (from ++ mark copied, 62 ∷ 32 ∷ chars (written to))
read_line copied from to utf8 =
    read_written from (mark copied ++ (codes "> " ++ written to)) utf8 ∙ ap (with_text from) (marked copied (written to))

-- what is read of a line: the first path with the mark, and the second path
pub line_back : (copied : Bool) (from to line front to' after after' rest : List ℕ) → IsUtf8 from → IsUtf8 to → line ≡ line_of copied from to
    → read 0 (chars line) ≡ (front, after) → rest ≡ drop 2 after → read 0 rest ≡ (to', after') → (front ≡ from ++ mark copied) × (to' ≡ to)
line_back copied from to line front to' after after' rest utf8 utf8' is first tail second =
    let whole = sym first ∙ ap (λ (bs : List ℕ). read 0 (chars bs)) is ∙ read_line copied from to utf8 in
    let same : rest ≡ chars (written to) = tail ∙ ap (drop 2) (ap (λ (r : List ℕ × List ℕ). r.1) whole) in
    (ap (λ (r : List ℕ × List ℕ). r.0) whole, ap (λ (r : List ℕ × List ℕ). r.0) (sym second ∙ ap (read 0) same ∙ read_last to utf8'))
