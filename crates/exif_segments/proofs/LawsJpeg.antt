-- The answer of a JPEG stream is that of its tree, and all bytes have a tree.
use Rattle.std.proofs.Common.{◌≡◌, ◌≢◌, ℕ, zero, suc, ◌+◌, ◌-◌, ◌*◌, ◌<◌, ◌≤◌, max, ◌⊎◌, inl, inr, Bool, true, false, cond, eqb, ltb, leb, ◌&&◌, List, [], ◌∷◌, ◌++◌, length, take, drop, replicate, codes, subst, Option, None, Some, Result, Err, unwrap_or, ap, sym, ◌∙◌, refl, arith, append_assoc}
use Rattle.std.specs.List.{All, flat_map}
use Rattle.std.specs.Option.{option_map}
use Rattle.std.proofs.lemmas.Bool.{ne_eqb, eqb-true, eqb-false, leb-true, le-ltb}
use Rattle.std.proofs.lemmas.List.{take-append-drop, length-take-le}
use Rattle.std.proofs.lemmas.Slice.Eq.{bytes_eq-Decides}
use Rattle.std.proofs.lemmas.List.Elements.{All-nil, All-cons, All-head, All-tail}
use Rattle.exif_types.specs.Refusals.{Refusal}
use Rattle.exif_segments.specs.Answer.{Answer, found, refused}
use Rattle.exif_segments.specs.Jpeg.{JpegUnit, broken_jpeg, not_jpeg, unexpected_soi, invalid_length, no_exif_in_jpeg, two_bytes, from_mark, after_marks, stands_alone, begins_exif, exif_payload, unit_with_body, unit_from_code, first_unit, unit_answer, with_units, units_of, first_answer, answer_from}
use Rattle.exif_segments.specs.JpegGrammar.{Brought, nothing, sized, exif, exif_id, HasNoId, UnitTree, print_brought, print_unit, IsBrought, IsUnit, unit_says, IsSilent, HasNoUnit, Ending, speaking, cut, print_ending, IsEnding, answer_said, ending_answer, Stream, short, foreign, units, StreamIsAnswered, IsAStream}
use Rattle.exif_segments.proofs.LimitedMoves.{from_mark-others}
use Rattle.exif_segments.proofs.JpegUnits.{unit-alone, unit-segment, answer-first_unit, rest-first_unit}
use Rattle.exif_segments.proofs.JpegMoves.{jpeg-fewer}

-- ---- a unit is read back

-- fill bytes before a code are skipped
pub after_marks-fill : (n code : ℕ) (ys : List ℕ) → code ≢ 255 → after_marks (replicate n 255 ++ (code ∷ ys)) ≡ code ∷ ys
after_marks-fill zero code ys h = ap (λ t. cond t (after_marks ys) (code ∷ ys)) (ne_eqb code 255 h)
after_marks-fill (suc n) code ys h = after_marks-fill n code ys h

-- a code and what its unit brings, printed, are read back as that unit
pub from_code-brought : (code : ℕ) (b : Brought) (rest : List ℕ) → IsBrought code b
    → unit_from_code (code ∷ (print_brought b ++ rest)) ≡ Some (record { code = code; body = print_brought b; rest = rest })
from_code-brought code nothing rest h = unit-alone code rest h
from_code-brought code (sized high low content) rest h = unit-segment code high low content rest h.0 (omega (arith, h.1))
from_code-brought code (exif high low payload) rest h = unit-segment code high low (exif_id ++ payload) rest (ap stands_alone h.0) (omega (arith, h.1))

-- a printed unit is read back as it was, with what follows it
pub first_unit-print : (u : UnitTree) (rest : List ℕ) → IsUnit u
    → first_unit (print_unit u ++ rest) ≡ Some (record { code = u.code; body = print_brought u.brought; rest = rest })
first_unit-print u rest h =
    ap first_unit (append_assoc u.passed (255 ∷ (replicate u.fill 255 ++ (u.code ∷ print_brought u.brought))) rest)
    ∙ ap (λ t. first_unit (u.passed ++ (255 ∷ t))) (append_assoc (replicate u.fill 255) (u.code ∷ print_brought u.brought) rest)
    ∙ ap (λ t. unit_from_code (after_marks t)) (from_mark-others u.passed (255 ∷ (replicate u.fill 255 ++ (u.code ∷ (print_brought u.brought ++ rest)))) h.passed)
    ∙ ap unit_from_code (after_marks-fill u.fill u.code (print_brought u.brought ++ rest) h.code)
    ∙ from_code-brought u.code u.brought rest h.brought

-- ---- what is read is a unit

-- bytes as a front that passes a test, and what follows it
pub record Split (test : List ℕ → Type 0) (bytes after : List ℕ) : Type 0 where
  front : List ℕ
  is : test front
  whole : bytes ≡ front ++ after

split_more : (t : Bool) (b : ℕ) (bytes : List ℕ) → eqb b 255 ≡ t → Split (All (λ b. b ≢ 255)) bytes (from_mark bytes)
    → Split (All (λ b. b ≢ 255)) (b ∷ bytes) (cond t (b ∷ bytes) (from_mark bytes))
split_more true b bytes e s = record { front = []; is = All-nil (λ b. b ≢ 255); whole = refl }
split_more false b bytes e s =
    record { front = b ∷ s.front; is = All-cons (λ b. b ≢ 255) b s.front (eqb-false b 255 e) s.is; whole = ap (λ t. b ∷ t) s.whole }

from_mark-split : (bytes : List ℕ) → Split (All (λ b. b ≢ 255)) bytes (from_mark bytes)
from_mark-split [] = record { front = []; is = All-nil (λ b. b ≢ 255); whole = refl }
from_mark-split (b ∷ bytes) = split_more (eqb b 255) b bytes refl (from_mark-split bytes)

abbrev Begins : List ℕ → Type 0
Begins bytes = (bytes ≡ []) ⊎ ((rest : List ℕ) × (bytes ≡ 255 ∷ rest))

begins_more : (t : Bool) (b : ℕ) (bytes : List ℕ) → eqb b 255 ≡ t → Begins (from_mark bytes) → Begins (cond t (b ∷ bytes) (from_mark bytes))
begins_more true b bytes e h = inr (bytes, ap (λ t. t ∷ bytes) (eqb-true b 255 e))
begins_more false b bytes e h = h

from_mark-begins : (bytes : List ℕ) → Begins (from_mark bytes)
from_mark-begins [] = inl refl
from_mark-begins (b ∷ bytes) = begins_more (eqb b 255) b bytes refl (from_mark-begins bytes)

-- ffs, and then nothing or a code
pub record Filled (bytes : List ℕ) (code : ℕ) (rest : List ℕ) : Type 0 where
  count : ℕ
  whole : bytes ≡ replicate count 255 ++ (code ∷ rest)
  other : code ≢ 255

filled_more : (t : Bool) (b : ℕ) (bytes : List ℕ) (code : ℕ) (rest : List ℕ) → eqb b 255 ≡ t
    → (after_marks bytes ≡ code ∷ rest → Filled bytes code rest)
    → cond t (after_marks bytes) (b ∷ bytes) ≡ code ∷ rest → Filled (b ∷ bytes) code rest
filled_more true b bytes code rest is ih e =
    let s = ih e in
    record { count = suc s.count; whole = ap (λ t. t ∷ bytes) (eqb-true b 255 is) ∙ ap (λ t. 255 ∷ t) s.whole; other = s.other }
filled_more false b bytes code rest is ih e =
    let same : b ≡ code = cc in
    record { count = 0; whole = e; other = λ h. eqb-false b 255 is (same ∙ h) }

after_marks-split : (bytes : List ℕ) (code : ℕ) (rest : List ℕ) → after_marks bytes ≡ code ∷ rest → Filled bytes code rest
after_marks-split [] code rest e = absurd (cc)
after_marks-split (b ∷ bytes) code rest e = filled_more (eqb b 255) b bytes code rest refl (after_marks-split bytes code rest) e

-- what a whole unit brings
pub record Brings (code : ℕ) (bytes : List ℕ) (v : JpegUnit) : Type 0 where
  brought : Brought
  is : IsBrought code brought
  whole : bytes ≡ print_brought brought ++ v.rest
  code_is : v.code ≡ code
  body_is : v.body ≡ print_brought brought

with_body-some : (code len : ℕ) (bytes : List ℕ) (v : JpegUnit) → unit_with_body code bytes len ≡ Some v
    → (len ≤ length bytes) × (v ≡ record { code = code; body = take len bytes; rest = drop len bytes })
with_body-some code len bytes v = by (leb len (length bytes)) refl
  where
    by : (t : Bool) → leb len (length bytes) ≡ t → cond t (Some (record { code = code; body = take len bytes; rest = drop len bytes })) None ≡ Some v
        → (len ≤ length bytes) × (v ≡ record { code = code; body = take len bytes; rest = drop len bytes })
    by true is e = (leb-true len (length bytes) is, cc)
    by false is e = absurd (cc)

-- the identifier is in front, or it does not
id-there : (content : List ℕ) → begins_exif content ≡ true → exif_id ++ drop 6 content ≡ content
id-there content e = ap (λ t. t ++ drop 6 content) (sym ((bytes_eq-Decides (take 6 content) (codes "Exif\0\0")).0 e)) ∙ take-append-drop 6 content

id-absent : (content : List ℕ) → begins_exif content ≡ false → HasNoId content
id-absent content e payload h = let k : true ≡ false = sym (ap begins_exif h) ∙ e in cc

absent-id : (content : List ℕ) → HasNoId content → exif_payload content ≡ None
absent-id content h = by (begins_exif content) refl
  where
    by : (t : Bool) → begins_exif content ≡ t → cond t (Some (drop 6 content)) None ≡ None
    by true e = absurd (h (drop 6 content) (sym (id-there content e)))
    by false e = refl

content-brings : (code h l : ℕ) (content bytes : List ℕ) (v : JpegUnit) → stands_alone code ≡ false → length content ≡ 256 * h + l - 2
    → bytes ≡ h ∷ l ∷ (content ++ v.rest) → v.code ≡ code → v.body ≡ h ∷ l ∷ content → Brings code bytes v
content-brings code h l content bytes v alone len whole code_is body_is = by (eqb code 225) (begins_exif content) refl refl
  where
    plain : (code ≡ 225 → HasNoId content) → Brings code bytes v
    plain absent = record { brought = sized h l content; is = (alone, len, absent); whole = whole; code_is = code_is; body_is = body_is }

    by : (t u : Bool) → eqb code 225 ≡ t → begins_exif content ≡ u → Brings code bytes v
    by true true p q =
        let same = id-there content q in
        let six : length (exif_id ++ drop 6 content) ≡ length content = ap (λ (t : List ℕ). length t) same in
        record {
          brought = exif h l (drop 6 content);
          is = (eqb-true code 225 p, omega arith);
          whole = whole ∙ ap (λ t. h ∷ l ∷ (t ++ v.rest)) (sym same);
          code_is = code_is;
          body_is = body_is ∙ ap (λ t. h ∷ l ∷ t) (sym same);
        }
    by true false p q = plain (λ c. id-absent content q)
    by false u p q = plain (λ c. absurd (eqb-false code 225 p c))

sized-brings : (code : ℕ) (bytes : List ℕ) (v : JpegUnit) → stands_alone code ≡ false → unit_with_body code bytes (max 2 (two_bytes bytes)) ≡ Some v → Brings code bytes v
sized-brings code [] v alone e = let s = with_body-some code 2 [] v e in absurd (omega (arith, s.0))
sized-brings code (h ∷ []) v alone e = let s = with_body-some code 2 (h ∷ []) v e in absurd (omega (arith, s.0))
sized-brings code (h ∷ l ∷ bytes) v alone e =
    let k = 256 * h + l - 2 in
    let len : max 2 (256 * h + l) ≡ suc (suc k) = omega arith in
    let s = with_body-some code (suc (suc k)) (h ∷ l ∷ bytes) v (ap (unit_with_body code (h ∷ l ∷ bytes)) (sym len) ∙ e) in
    let space : k ≤ length bytes = omega (arith, s.0) in
    content-brings code h l (take k bytes) (h ∷ l ∷ bytes) v alone (length-take-le k bytes space)
    (ap (λ t. h ∷ l ∷ t) (sym (take-append-drop k bytes)) ∙ ap (λ (w : JpegUnit). h ∷ l ∷ (take k bytes ++ w.rest)) (sym s.1))
    (ap (λ (w : JpegUnit). w.code) s.1) (ap (λ (w : JpegUnit). w.body) s.1)

from_code-brings : (code : ℕ) (bytes : List ℕ) (v : JpegUnit) → unit_from_code (code ∷ bytes) ≡ Some v → Brings code bytes v
from_code-brings code bytes v = by (stands_alone code) refl
  where
    by : (t : Bool) → stands_alone code ≡ t → unit_with_body code bytes (cond t 0 (max 2 (two_bytes bytes))) ≡ Some v → Brings code bytes v
    by true is e =
        let s = with_body-some code 0 bytes v e in
        record { brought = nothing; is = is; whole = ap (λ (w : JpegUnit). w.rest) (sym s.1); code_is = ap (λ (w : JpegUnit). w.code) s.1; body_is = ap (λ (w : JpegUnit). w.body) s.1 }
    by false is e = sized-brings code bytes v is e

-- a whole unit, as a tree
pub record Tree (bytes : List ℕ) (v : JpegUnit) : Type 0 where
  pub tree : UnitTree
  pub is : IsUnit tree
  pub whole : bytes ≡ print_unit tree ++ v.rest
  pub unit_is : v ≡ record { code = tree.code; body = print_brought tree.brought; rest = v.rest }

none-no_unit : (bytes : List ℕ) (v : JpegUnit) → from_mark bytes ≡ [] → first_unit bytes ≡ Some v → ⊥
none-no_unit bytes v e h = let k : unit_from_code (after_marks []) ≡ Some v = ap (λ t. unit_from_code (after_marks t)) (sym e) ∙ h in cc

abbrev unit_of : ℕ → List ℕ → List ℕ → JpegUnit
unit_of code body rest = record { code = code; body = body; rest = rest }

tree-at_code : (bytes rest behind : List ℕ) (code : ℕ) (v : JpegUnit) → from_mark bytes ≡ 255 ∷ rest → after_marks rest ≡ code ∷ behind
    → unit_from_code (code ∷ behind) ≡ Some v → Tree bytes v
tree-at_code bytes rest behind code v e is h =
    let passed = from_mark-split bytes in
    let fill = after_marks-split rest code behind is in
    let brings = from_code-brings code behind v h in
    let b = brings.brought in
    record {
      tree = record { passed = passed.front; fill = fill.count; code = code; brought = b };
      is = record { passed = passed.is; code = fill.other; brought = brings.is };
      whole = passed.whole ∙ ap (λ t. passed.front ++ t) (e ∙ ap (λ t. 255 ∷ t) (fill.whole ∙ ap (λ t. replicate fill.count 255 ++ (code ∷ t)) brings.whole
          ∙ sym (append_assoc (replicate fill.count 255) (code ∷ print_brought b) v.rest)))
          ∙ sym (append_assoc passed.front (255 ∷ (replicate fill.count 255 ++ (code ∷ print_brought b))) v.rest);
      unit_is = ap (λ c. unit_of c v.body v.rest) brings.code_is ∙ ap (λ t. unit_of code t v.rest) brings.body_is;
    }

tree-at_mark : (bytes rest : List ℕ) (v : JpegUnit) → from_mark bytes ≡ 255 ∷ rest → first_unit bytes ≡ Some v → Tree bytes v
tree-at_mark bytes rest v e h = at (after_marks rest) refl
  where
    here : unit_from_code (after_marks rest) ≡ Some v
    here = ap (λ t. unit_from_code (after_marks t)) (sym e) ∙ h

    at : (codes : List ℕ) → after_marks rest ≡ codes → Tree bytes v
    at [] is = let k : unit_from_code [] ≡ Some v = ap unit_from_code (sym is) ∙ here in absurd (cc)
    at (code ∷ behind) is = tree-at_code bytes rest behind code v e is (ap unit_from_code (sym is) ∙ here)

-- the first unit that is read of bytes is a tree at their front
pub tree-of_unit : (bytes : List ℕ) (v : JpegUnit) → first_unit bytes ≡ Some v → Tree bytes v
tree-of_unit bytes v h = elim (from_mark-begins bytes) [
  | inl none ↦ absurd (none-no_unit bytes v none h)
  | inr some ↦ tree-at_mark bytes some.0 v some.1 h
]

-- ---- what a unit says

abbrev answer_of : List ℕ → Option (Result (List ℕ) Refusal) → Option Answer
answer_of rest says = option_map (answer_said rest) says

alone-says : (soi eoi : Bool) (rest : List ℕ)
    → cond soi (Some (refused unexpected_soi)) (cond eoi (Some (refused no_exif_in_jpeg)) None)
    ≡ answer_of rest (cond soi (Some (Err unexpected_soi)) (cond eoi (Some (Err no_exif_in_jpeg)) None))
alone-says true eoi rest = refl
alone-says false true rest = refl
alone-says false false rest = refl

sized-says : (soi eoi small : Bool) (rest : List ℕ)
    → cond soi (Some (refused unexpected_soi)) (cond eoi (Some (refused no_exif_in_jpeg)) (cond small (Some (refused invalid_length)) None))
    ≡ answer_of rest (cond soi (Some (Err unexpected_soi)) (cond eoi (Some (Err no_exif_in_jpeg)) (cond small (Some (Err invalid_length)) None)))
sized-says true eoi small rest = refl
sized-says false true small rest = refl
sized-says false false true rest = refl
sized-says false false false rest = refl

plain-answers : (code : ℕ) (content rest : List ℕ) → (code ≡ 225 → HasNoId content)
    → cond (eqb code 225) (option_map (λ p. found p rest) (exif_payload content)) None ≡ None
plain-answers code content rest h = by (eqb code 225) refl
  where
    by : (t : Bool) → eqb code 225 ≡ t → cond t (option_map (λ p. found p rest) (exif_payload content)) None ≡ None
    by true e = ap (λ o. option_map (λ p. found p rest) o) (absent-id content (h (eqb-true code 225 e)))
    by false e = refl

exif-answers : (high low : ℕ) (payload rest : List ℕ) → 256 * high + low ≡ 8 + length payload
    → unit_answer (record { code = 225; body = high ∷ low ∷ (exif_id ++ payload); rest = rest }) ≡ Some (found payload rest)
exif-answers high low payload rest e =
    ap (λ t. cond t (Some (refused invalid_length)) (Some (found payload rest))) (le-ltb (256 * high + low) 2 (omega arith))

unit_answer-says : (passed : List ℕ) (fill code : ℕ) (b : Brought) (rest : List ℕ) → IsBrought code b
    → unit_answer (record { code = code; body = print_brought b; rest = rest })
    ≡ answer_of rest (unit_says (record { passed = passed; fill = fill; code = code; brought = b }))
unit_answer-says passed fill code nothing rest h =
    ap (λ t. cond (eqb code 216) (Some (refused unexpected_soi)) (cond (eqb code 217) (Some (refused no_exif_in_jpeg)) (cond t None (unsized code rest)))) h
    ∙ alone-says (eqb code 216) (eqb code 217) rest
  where
    unsized : ℕ → List ℕ → Option Answer
    unsized code rest = cond (ltb 0 2) (Some (refused invalid_length)) (cond (eqb code 225) (option_map (λ payload. found payload rest) (exif_payload [])) None)
unit_answer-says passed fill code (sized high low content) rest h =
    ap (λ t. cond (eqb code 216) (Some (refused unexpected_soi)) (cond (eqb code 217) (Some (refused no_exif_in_jpeg)) (cond t None
    (cond (ltb (256 * high + low) 2) (Some (refused invalid_length)) (cond (eqb code 225) (option_map (λ payload. found payload rest) (exif_payload content)) None))))) h.0
    ∙ ap (λ o. cond (eqb code 216) (Some (refused unexpected_soi)) (cond (eqb code 217) (Some (refused no_exif_in_jpeg)) (cond (ltb (256 * high + low) 2) (Some (refused invalid_length)) o)))
    (plain-answers code content rest h.2)
    ∙ sized-says (eqb code 216) (eqb code 217) (ltb (256 * high + low) 2) rest
unit_answer-says passed fill code (exif high low payload) rest h =
    let P : ℕ → Type 0 = λ c. unit_answer (record { code = c; body = high ∷ low ∷ (exif_id ++ payload); rest = rest })
    ≡ answer_of rest (unit_says (record { passed = passed; fill = fill; code = c; brought = exif high low payload })) in
    subst P (sym h.0) (exif-answers high low payload rest h.1)

-- the answer of a unit and what follows it
answer-unit : (u : UnitTree) (rest : List ℕ) → IsUnit u → answer_from (print_unit u ++ rest) ≡ unwrap_or (answer_of rest (unit_says u)) (answer_from rest)
answer-unit u rest h =
    answer-first_unit (print_unit u ++ rest)
    ∙ ap (λ o. first_answer (with_units o units_of)) (first_unit-print u rest h)
    ∙ ap (λ o. unwrap_or o (answer_from rest)) (unit_answer-says u.passed u.fill u.code u.brought rest h.brought)

answer-no_unit : (bytes : List ℕ) → HasNoUnit bytes → answer_from bytes ≡ refused broken_jpeg
answer-no_unit bytes h = answer-first_unit bytes ∙ by (first_unit bytes) refl
  where
    by : (o : Option JpegUnit) → first_unit bytes ≡ o → first_answer (with_units o units_of) ≡ refused broken_jpeg
    by None e = refl
    by (Some v) e = let t = tree-of_unit bytes v e in absurd (h t.tree v.rest t.is t.whole)

answer-ending : (end : Ending) → IsEnding end → answer_from (print_ending end) ≡ ending_answer end
answer-ending (speaking u said rest) h =
    answer-unit u rest h.0 ∙ ap (λ o. unwrap_or (answer_of rest o) (answer_from rest)) h.1
answer-ending (cut bytes) h = answer-no_unit bytes h

answer-silent : (us : List UnitTree) (rest : List ℕ) → All IsSilent us → answer_from (flat_map print_unit us ++ rest) ≡ answer_from rest
answer-silent [] rest h = refl
answer-silent (u ∷ us) rest h =
    let silent = All-head IsSilent u us h in
    ap answer_from (append_assoc (print_unit u) (flat_map print_unit us) rest)
    ∙ answer-unit u (flat_map print_unit us ++ rest) silent.0
    ∙ ap (λ o. unwrap_or (answer_of (flat_map print_unit us ++ rest) o) (answer_from (flat_map print_unit us ++ rest))) silent.1
    ∙ answer-silent us rest (All-tail IsSilent u us h)

-- ---- the laws

begins-foreign : (a b : ℕ) → ((a ≡ 255) × (b ≡ 216) → ⊥) → (s t : Bool) → eqb a 255 ≡ s → eqb b 216 ≡ t → (s && t) ≡ false
begins-foreign a b h true true p q = absurd (h (eqb-true a 255 p, eqb-true b 216 q))
begins-foreign a b h true false p q = refl
begins-foreign a b h false t p q = refl

-- a stream is answered as its tree says
pub stream_is_answered : (s : Stream) → StreamIsAnswered s
stream_is_answered (short bytes) h = jpeg-fewer bytes h
stream_is_answered (foreign a b rest) h =
    ap (λ t. cond t (answer_from rest) (refused not_jpeg)) (begins-foreign a b h (eqb a 255) (eqb b 216) refl refl)
stream_is_answered (units us end) h = answer-silent us (print_ending end) h.0 ∙ answer-ending end h.1

-- silent units, and what ends them
pub record Cut (bytes : List ℕ) : Type 0 where
  before : List UnitTree
  end : Ending
  silent : All IsSilent before
  ends : IsEnding end
  whole : flat_map print_unit before ++ print_ending end ≡ bytes

cut-none : (bytes : List ℕ) → first_unit bytes ≡ None → Cut bytes
cut-none bytes e = record {
  before = [];
  end = cut bytes;
  silent = All-nil IsSilent;
  ends = λ u rest h is. let k : Some (record { code = u.code; body = print_brought u.brought; rest = rest }) ≡ None = sym (first_unit-print u rest h) ∙ ap first_unit (sym is) ∙ e in cc;
  whole = refl;
}

cut-unit : (bytes : List ℕ) (v : JpegUnit) (t : Tree bytes v) (says : Option (Result (List ℕ) Refusal)) → unit_says t.tree ≡ says → Cut v.rest → Cut bytes
cut-unit bytes v t (Some said) e c = record {
  before = [];
  end = speaking t.tree said v.rest;
  silent = All-nil IsSilent;
  ends = (t.is, e);
  whole = sym t.whole;
}
cut-unit bytes v t None e c = record {
  before = t.tree ∷ c.before;
  end = c.end;
  silent = All-cons IsSilent t.tree c.before (t.is, e) c.silent;
  ends = c.ends;
  whole = append_assoc (print_unit t.tree) (flat_map print_unit c.before) (print_ending c.end) ∙ ap (λ r. print_unit t.tree ++ r) c.whole ∙ sym t.whole;
}

cut-within : (n : ℕ) (bytes : List ℕ) → length bytes < n → Cut bytes
cut-within zero bytes h = absurd (omega arith)
cut-within (suc n) bytes h = cut-first n bytes h (first_unit bytes) refl (cut-within n)
  where
    cut-first : (n : ℕ) (bytes : List ℕ) → length bytes < suc n → (o : Option JpegUnit) → first_unit bytes ≡ o → ((rest : List ℕ) → length rest < n → Cut rest) → Cut bytes
    cut-first n bytes h None e ih = cut-none bytes e
    cut-first n bytes h (Some v) e ih =
        let t = tree-of_unit bytes v e in
        cut-unit bytes v t (unit_says t.tree) refl (ih v.rest (omega (arith, rest-first_unit bytes v e)))

is_a_stream_from : (a b : ℕ) (rest : List ℕ) (s t : Bool) → eqb a 255 ≡ s → eqb b 216 ≡ t → IsAStream (a ∷ b ∷ rest)
is_a_stream_from a b rest true true p q =
    let c = cut-within (suc (length rest)) rest (omega arith) in
    (units c.before c.end, (c.silent, c.ends), ap (λ t. 255 ∷ 216 ∷ t) c.whole ∙ ap (λ t. t ∷ 216 ∷ rest) (sym (eqb-true a 255 p)) ∙ ap (λ t. a ∷ t ∷ rest) (sym (eqb-true b 216 q)))
is_a_stream_from a b rest true false p q = (foreign a b rest, λ h. eqb-false b 216 q h.1, refl)
is_a_stream_from a b rest false t p q = (foreign a b rest, λ h. eqb-false a 255 p h.0, refl)

-- all bytes are those of a stream
pub is_a_stream : (bytes : List ℕ) → IsAStream bytes
is_a_stream [] = (short [], omega arith, refl)
is_a_stream (a ∷ []) = (short (a ∷ []), omega arith, refl)
is_a_stream (a ∷ b ∷ rest) = is_a_stream_from a b rest (eqb a 255) (eqb b 216) refl refl
