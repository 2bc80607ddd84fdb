-- Lines that runs write: they are UTF-8; what is read of one line after the other.
use Rattle.std.proofs.Common.{◌≡◌, ℕ, suc, zero, add-one, append-nil, filter, get_or, inl, inr, length, map, rules, take, ◌+◌, ◌-◌, ◌/◌, ◌%◌, ◌<◌, ◌≤◌, ◌==◌, ◌&&◌, Bool, true, false, cond, List, [], ◌∷◌, ◌++◌, Option, Some, None, ap, sym, refl, subst, ◌∙◌, arith, lit<}
use Rattle.std.specs.Prelude.{codes, nat_lt, IfOk, Result, Ok, Err}
use Rattle.std.specs.declared.alloc.AllocError.{AllocError}
use Rattle.std.specs.Char.{digit_char, encode_utf8, IsScalar}
use Rattle.std.specs.List.{flat_map}
use Rattle.std.specs.Option.{option_map}
use Rattle.std.specs.Borrow.{Bor}
use Rattle.std.specs.Prelude.{All}
use Rattle.std.proofs.Math.Seq.{take-suc}
use Rattle.std.proofs.lemmas.List.{get_or-map, length-map, map-append, take-map, take_all}
use Rattle.std.proofs.lemmas.List.Elements.{All-append, filter-append}
use Rattle.std.specs.Str.{IsAscii, IsUtf8, chars}
use Rattle.std.proofs.Math.Utf8.{scalar, scalars}
use Rattle.std.proofs.lemmas.Bool.Decides.{nat_tests}
use Rattle.std.proofs.lemmas.Str.{IsUtf8-append, IsUtf8-encode, IsUtf8-from_ascii, IsUtf8-nil, IsUtf8-string_bytes, scalars-chars}
use Rattle.std.specs.String.{string_bytes}
use Rattle.exif_rename.specs.Lines.{IsFirstWrong, IsRight, IsStepOf, IsWrong, is_filled, step_line}
use Rattle.exif_rename.specs.Undo.{IsOfLine, coded, is_coded, line_of, mark, step_of, written}
use Rattle.exif_rename.specs.declared.undo.Step.{Step}

if_as : {A : Type 0} (b v : Bool) (x y : A) → b ≡ v → cond b x y ≡ cond v x y
if_as b v x y e = ap (λ (b : Bool). cond b x y) e

split_and : (a b : Bool) → (a && b) ≡ true → (a ≡ true) × (b ≡ true)
split_and true b e = (refl, e)
split_and false b e = cc

ascii_nil : IsAscii []
ascii_nil i = lit< tt

ascii_cons : (d : ℕ) (bs : List ℕ) → d < 128 → IsAscii bs → IsAscii (d ∷ bs)
ascii_cons d bs h rest zero = h
ascii_cons d bs h rest (suc k) = rest k

digit_below : (d : ℕ) → d < 16 → digit_char d < 128
digit_below d h = grind (arith, nat_tests)

coded_small : (c : ℕ) → is_coded c ≡ true → c < 256
coded_small c e = grind (arith, nat_tests)

-- the code of a character
code_utf8 : (c : ℕ) → c < 256 → IsUtf8 (92 ∷ 120 ∷ digit_char (c / 16) ∷ digit_char (c % 16) ∷ [])
code_utf8 c small = IsUtf8-from_ascii (92 ∷ 120 ∷ digit_char (c / 16) ∷ digit_char (c % 16) ∷ [])
    (ascii_cons 92 (120 ∷ digit_char (c / 16) ∷ digit_char (c % 16) ∷ []) (lit< tt)
    (ascii_cons 120 (digit_char (c / 16) ∷ digit_char (c % 16) ∷ []) (lit< tt)
    (ascii_cons (digit_char (c / 16)) (digit_char (c % 16) ∷ []) (digit_below (c / 16) (omega arith))
    (ascii_cons (digit_char (c % 16)) [] (digit_below (c % 16) (omega arith)) ascii_nil))))

coded_utf8 : (c : ℕ) → IsScalar c → IsUtf8 (coded c)
coded_utf8 c is = at (is_coded c) refl
  where
    code : List ℕ
    code = 92 ∷ 120 ∷ digit_char (c / 16) ∷ digit_char (c % 16) ∷ []

    at : (b : Bool) → is_coded c ≡ b → IsUtf8 (coded c)
    at true e =
        let form : coded c ≡ 92 ∷ 120 ∷ digit_char (c / 16) ∷ digit_char (c % 16) ∷ [] = if_as (is_coded c) true (92 ∷ 120 ∷ digit_char (c / 16) ∷ digit_char (c % 16) ∷ []) (encode_utf8 c) e in
        subst IsUtf8 (sym form) (code_utf8 c (coded_small c e))
    at false e =
        let form : coded c ≡ encode_utf8 c = if_as (is_coded c) false (92 ∷ 120 ∷ digit_char (c / 16) ∷ digit_char (c % 16) ∷ []) (encode_utf8 c) e in
        subst IsUtf8 (sym form) (IsUtf8-encode c is)

all_utf8 : (cs : List ℕ) → scalars cs ≡ true → IsUtf8 (flat_map coded cs)
all_utf8 [] is = IsUtf8-nil
all_utf8 (c ∷ cs) is =
    let both = split_and (scalar c) (scalars cs) is in
    IsUtf8-append (coded c) (flat_map coded cs) (coded_utf8 c both.0) (all_utf8 cs both.1)

written_utf8 : (path : List ℕ) → IsUtf8 path → IsUtf8 (written path)
written_utf8 path utf8 = all_utf8 (chars path) (scalars-chars path utf8)

mark_utf8 : (copied : Bool) → IsUtf8 (mark copied)
mark_utf8 true = IsUtf8-from_ascii (32 ∷ 61 ∷ []) (ascii_cons 32 (61 ∷ []) (lit< tt) (ascii_cons 61 [] (lit< tt) ascii_nil))
mark_utf8 false = IsUtf8-from_ascii (32 ∷ 45 ∷ []) (ascii_cons 32 (45 ∷ []) (lit< tt) (ascii_cons 45 [] (lit< tt) ascii_nil))

-- a line that a run writes is UTF-8
pub line_utf8 : (step : Step) → IsUtf8 (step_line step)
line_utf8 step =
    let arrow : IsUtf8 (codes "> ") = IsUtf8-from_ascii (62 ∷ 32 ∷ []) (ascii_cons 62 (32 ∷ []) (lit< tt) (ascii_cons 32 [] (lit< tt) ascii_nil)) in
    IsUtf8-append (written (string_bytes step.from)) (mark step.copied ++ (codes "> " ++ written (string_bytes step.to))) (written_utf8 (string_bytes step.from) (IsUtf8-string_bytes step.from))
    (IsUtf8-append (mark step.copied) (codes "> " ++ written (string_bytes step.to)) (mark_utf8 step.copied)
    (IsUtf8-append (codes "> ") (written (string_bytes step.to)) arrow (written_utf8 (string_bytes step.to) (IsUtf8-string_bytes step.to))))

-- what is read of a line that is UTF-8
pub read_utf8 : (line : List ℕ) (step : Option Step)
    → ((copied : Bool) (from to : List ℕ) → IsUtf8 from → IsUtf8 to → line ≡ line_of copied from to → option_map step_of step ≡ Some (copied, (from, to)))
    → IsOfLine line step → IsStepOf line step
read_utf8 line None back only = λ step e.
    let found : option_map step_of None ≡ Some (step.copied, (string_bytes step.from, string_bytes step.to)) =
    back step.copied (string_bytes step.from) (string_bytes step.to) (IsUtf8-string_bytes step.from) (IsUtf8-string_bytes step.to) e in
    cc
read_utf8 line (Some found) back only = only

-- the same of bytes that are this line
pub if_read : (bytes line : List ℕ) (read : Result (Option Step) AllocError) → line ≡ bytes
    → IfOk read (λ step. (copied : Bool) (from to : List ℕ) → IsUtf8 from → IsUtf8 to → line ≡ line_of copied from to → option_map step_of step ≡ Some (copied, (from, to)))
    → IfOk read (IsOfLine line) → IfOk read (IsStepOf bytes)
if_read bytes line (Ok step) e back only = subst (λ (bs : List ℕ). IsStepOf bs step) e (read_utf8 line step back only)
if_read bytes line (Err why) e back only = tt

-- the bytes of a line
abbrev pub now_of : Bor (List ℕ) → List ℕ
now_of line = line.now

-- the steps of these lines, each of which is right
pub record AreOf (lines : List (Bor (List ℕ))) (found : List Step) : Type 0 where
  pub steps : map step_line found ≡ filter is_filled (map now_of lines)
  pub right : All IsRight (map now_of lines)

none_yet : AreOf [] []
none_yet = record { steps = refl; right = search rules }

pub begun : (found : List Step) → found ≡ [] → AreOf [] found
begun found e = subst (AreOf []) (sym e) none_yet

pub empty_from : (line : List ℕ) (b : Bool) → b ≡ (length line == 0) → b ≡ true → line ≡ []
empty_from [] b e is = refl
empty_from (x ∷ xs) b e is = absurd (grind (arith, nat_tests))

pub filled_from : (line : List ℕ) (b : Bool) → b ≡ (length line == 0) → b ≡ false → is_filled line ≡ true
filled_from line b e is = grind (arith, nat_tests)

one_more : (lines : List (Bor (List ℕ))) (i : ℕ) (line : Bor (List ℕ)) → i < length lines
    → map now_of (take (i + 1) lines) ≡ map now_of (take i lines) ++ (get_or lines i line).now ∷ []
one_more lines i line h = rw (add-one, take-suc lines i line h) (map-append now_of (take i lines) (get_or lines i line ∷ []))

right_more : (lines : List (List ℕ)) (line : List ℕ) → All IsRight lines → IsRight line → All IsRight (lines ++ line ∷ [])
right_more lines line all one = All-append IsRight lines (line ∷ []) all (All-one line one)
  where
    All-one : (line : List ℕ) → IsRight line → All IsRight (line ∷ [])
    All-one line one zero d h = one
    All-one line one (suc k) d h = absurd (omega arith)

filled_at : (line : List ℕ) → is_filled line ≡ true → filter is_filled (line ∷ []) ≡ line ∷ []
filled_at line e = rw e refl

-- a line without a byte
pub empty_more : (lines : List (Bor (List ℕ))) (steps : List Step) (i : ℕ) (line : Bor (List ℕ)) → i < length lines
    → (get_or lines i line).now ≡ [] → AreOf (take i lines) steps → AreOf (take (i + 1) lines) steps
empty_more lines steps i line h e so_far = record {
  steps = so_far.steps ∙ (sym (append-nil (filter is_filled (map now_of (take i lines))))
      ∙ (ap (λ (l : List ℕ). filter is_filled (map now_of (take i lines)) ++ filter is_filled (l ∷ [])) (sym e)
      ∙ (sym (filter-append is_filled (map now_of (take i lines)) ((get_or lines i line).now ∷ []))
      ∙ ap (filter is_filled) (sym (one_more lines i line h)))));
  right = subst (All IsRight) (sym (one_more lines i line h)) (right_more (map now_of (take i lines)) (get_or lines i line).now so_far.right (inl e));
}

-- a line that a run writes
pub step_more : (lines : List (Bor (List ℕ))) (steps : List Step) (i : ℕ) (line : Bor (List ℕ)) (step : Step) → i < length lines
    → is_filled (get_or lines i line).now ≡ true → (get_or lines i line).now ≡ step_line step
    → AreOf (take i lines) steps → AreOf (take (i + 1) lines) (steps ++ step ∷ [])
step_more lines steps i line step h filled is so_far = record {
  steps = map-append step_line steps (step ∷ [])
      ∙ (ap (λ (ls : List (List ℕ)). ls ++ step_line step ∷ []) so_far.steps
      ∙ (ap (λ (l : List ℕ). filter is_filled (map now_of (take i lines)) ++ l ∷ []) (sym is)
      ∙ (ap (λ (ls : List (List ℕ)). filter is_filled (map now_of (take i lines)) ++ ls) (sym (filled_at (get_or lines i line).now filled))
      ∙ (sym (filter-append is_filled (map now_of (take i lines)) ((get_or lines i line).now ∷ []))
      ∙ ap (filter is_filled) (sym (one_more lines i line h))))));
  right = subst (All IsRight) (sym (one_more lines i line h)) (right_more (map now_of (take i lines)) (get_or lines i line).now so_far.right (inr (step, is)));
}

-- all lines
pub all_lines : (text : List (List ℕ)) (lines : List (Bor (List ℕ))) (n : ℕ) (found : List Step) → map now_of lines ≡ text → length lines ≤ n
    → AreOf (take n lines) found → map step_line found ≡ filter is_filled text
all_lines text lines n found e h so_far =
    so_far.steps ∙ (ap (λ (ls : List (Bor (List ℕ))). filter is_filled (map now_of ls)) (take_all n lines h) ∙ ap (filter is_filled) e)

-- the first line that no run writes
pub first_wrong : (text : List (List ℕ)) (lines : List (Bor (List ℕ))) (i : ℕ) (line : Bor (List ℕ)) (found : List Step) (read : Option Step)
    → map now_of lines ≡ text → i < length lines → AreOf (take i lines) found → is_filled (get_or lines i line).now ≡ true
    → IsStepOf (get_or lines i line).now read → read ≡ None → IsFirstWrong text (i + 1)
first_wrong text lines i line found read e h so_far filled is none =
    let n : length (map now_of lines) ≡ length lines = length-map lines now_of in
    let back : i + 1 - 1 ≡ i = omega arith in
    let here : get_or (map now_of lines) i [] ≡ (get_or lines i line).now = get_or-map now_of lines i line [] h in
    let wrong : IsWrong (get_or lines i line).now = subst (IsStepOf (get_or lines i line).now) none is in
    let front : All IsRight (take i (map now_of lines)) = subst (All IsRight) (sym (take-map now_of i lines)) so_far.right in
    let all : IsFirstWrong (map now_of lines) (i + 1) =
    (omega arith, omega arith, rw back front, rw (back, here) filled, rw (back, here) wrong) in
    subst (λ (ls : List (List ℕ)). IsFirstWrong ls (i + 1)) e all
