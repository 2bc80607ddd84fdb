-- The boxes of a file one after the other, up to the one that is sought.
use Rattle.std.proofs.Common.{◌≡◌, ℕ, zero, suc, ◌+◌, ◌-◌, ◌<◌, ◌≤◌, ◌⊎◌, inl, inr, Bool, true, false, cond, ◌&&◌, eqb, ltb, List, [], ◌++◌, length, take, drop, Option, Some, None, IfSome, Result, Ok, Err, MatchOption, refl, sym, ap, ◌∙◌, subst, arith, length-append, length-take}
use Rattle.std.specs.Cmp.Lexicographic.{pointwise}
use Rattle.std.specs.Option.{option_map}
use Rattle.std.specs.Str.{bytes_eq}
use Rattle.std.proofs.Math.Seq.{drop-append-add, take-append-add}
use Rattle.std.proofs.lemmas.Bool.{cases_lt, le-ltb, lt-ltb, ltb-true}
use Rattle.std.proofs.lemmas.List.{drop_at, length-take-le, take_all, take_at, take-append-le}
use Rattle.std.proofs.lemmas.Slice.Eq.{bytes_eq-Decides}
use Rattle.std.specs.Io.KnownBytes.{Consumes, IsAtEnd}
use Rattle.exif_base.specs.Told.{WhereTold, Skips}
use Rattle.exif_types.specs.Failures.{Failure}
use Rattle.exif_types.specs.Refusals.{Refusal, refusal_of, IsInterrupted, Fails}
use Rattle.exif_isobmff.specs.Boxes.{header_len}
use Rattle.exif_segments.specs.Answer.{IsShort}
use Rattle.exif_segments.proofs.Interruptions.{interrupted_none}
use Rattle.exif_formats.specs.Cr3.{broken_cr3, first_box, held_by, held_or, follow}
use Rattle.exif_formats.specs.Cr3Steps.{Comes, Goes, IsHeaded, IsTaken, Next, behind_type, box_behind, held_from, passing, type_len, typed, within}
use Rattle.exif_formats.specs.declared.raw.cr3.walk.Coming.{Coming}
use Rattle.exif_formats.specs.declared.raw.cr3.walk.Coming.TheVariants.{Sought, Other, End}
use Rattle.exif_formats.specs.declared.headers.FileHeader.{FileHeader}
use Rattle.exif_formats.specs.declared.raw.cr3.walk.Held.{Held}
use Rattle.exif_formats.specs.declared.raw.cr3.walk.Step.TheVariants as step
use Rattle.exif_formats.proofs.Cr3Boxes.{within-more}
use Rattle.exif_formats.proofs.Cr3Headers.{first-cut}

-- ---- headers

-- an error that is this refusal, or an interruption
pub fails_with : {Y : Type 0} (e : Failure) (r : Refusal) (answer : Result Y Refusal) (P : Type 0) → MatchOption (refusal_of e) (IsInterrupted e) (λ s. (s ≡ r) × P) → (P → answer ≡ Err r)
    → Fails e answer
fails_with {Y = Y} e r answer P h k = by (refusal_of e) h
  where
    by : (o : Option Refusal) → MatchOption o (IsInterrupted e) (λ s. (s ≡ r) × P) → MatchOption o (IsInterrupted e) (λ s. answer ≡ Err s)
    by None h = h
    by (Some s) h = k h.1 ∙ ap (λ t. Err t) (sym h.0)

-- an error of which more is known
short-along : (e : Failure) (P Q : Type 0) → (P → Q) → MatchOption (refusal_of e) (IsInterrupted e) (λ r. (r ≡ broken_cr3) × P)
    → MatchOption (refusal_of e) (IsInterrupted e) (λ r. (r ≡ broken_cr3) × Q)
short-along e P Q f h = by (refusal_of e) h
  where
    by : (o : Option Refusal) → MatchOption o (IsInterrupted e) (λ r. (r ≡ broken_cr3) × P) → MatchOption o (IsInterrupted e) (λ r. (r ≡ broken_cr3) × Q)
    by None h = h
    by (Some r) h = (h.0, f h.1)

-- a header that is cut
pub header_cut : (e : Failure) (a : Option (List ℕ)) → IsShort broken_cr3 e a (λ xs. (0 < length xs) × (length xs < header_len xs))
    → IsShort broken_cr3 e a (λ xs. (0 < length xs) × (first_box xs ≡ Err broken_cr3))
header_cut e None h = h
header_cut e (Some xs) h = short-along e _ _ (λ p. (p.0, first-cut xs p.1)) h

-- a header that is refused
pub header_refused : (e : Failure) (a b : Option (List ℕ)) (head : List ℕ) → Consumes a b head → 0 < length head → refusal_of e ≡ Some broken_cr3
    → ((rest : List ℕ) → first_box (head ++ rest) ≡ Err broken_cr3) → IsShort broken_cr3 e a (λ xs. (0 < length xs) × (first_box xs ≡ Err broken_cr3))
header_refused e a b head k some r f = by (refusal_of e) r
  where
    told : (o p : Option (List ℕ)) → Consumes o p head → IfSome o (λ xs. (0 < length xs) × (first_box xs ≡ Err broken_cr3))
    told None p k = tt
    told (Some xs) None k = absurd k
    told (Some xs) (Some ys) k = (omega (arith, ap (λ (t : List ℕ). length t) k, length-append head ys), ap first_box k ∙ f ys)

    by : (o : Option Refusal) → o ≡ Some broken_cr3 → MatchOption o (IsInterrupted e) (λ s. (s ≡ broken_cr3) × IfSome a (λ xs. (0 < length xs) × (first_box xs ≡ Err broken_cr3)))
    by None r = absurd cc
    by (Some s) r = let same : s ≡ broken_cr3 = cc in (same, told a b k)

-- no header is left
pub no_header : (a b : Option (List ℕ)) (bytes : List ℕ) (n : ℕ) → n ≡ 0 → IfSome a (λ xs. xs ≡ []) → Consumes a b (take n bytes) → WhereTold a b (IsHeaded None)
no_header None b bytes n z h k = tt
no_header (Some xs) None bytes n z h k = absurd k
no_header (Some xs) (Some ys) bytes n z h k = h

-- a header was taken
pub header_is : (a b : Option (List ℕ)) (head : List ℕ) (h : FileHeader) → Consumes a b head → 0 < length head
    → ((rest : List ℕ) → first_box (head ++ rest) ≡ box_behind h.name h.len rest) → WhereTold a b (IsHeaded (Some h))
header_is None b head h k some f = tt
header_is (Some xs) None head h k some f = absurd k
header_is (Some xs) (Some ys) head h k some f = (omega (arith, ap (λ (t : List ℕ). length t) k, length-append head ys), ap first_box k ∙ f ys)

-- ---- the type behind a header

behind-self : (usertype rest : List ℕ) → behind_type usertype (usertype ++ rest) ≡ Some rest
behind-self usertype rest =
    ap (λ t. cond t (Some (drop (length usertype) (usertype ++ rest))) None)
    ((bytes_eq-Decides (take (length usertype) (usertype ++ rest)) usertype).1 (take_at usertype rest (length usertype) refl))
    ∙ ap (λ t. Some t) (drop_at usertype rest (length usertype) refl)

behind-other : (usertype payload : List ℕ) → (take (length usertype) payload ≡ usertype → ⊥) → behind_type usertype payload ≡ None
behind-other usertype payload h = by (bytes_eq (take (length usertype) payload) usertype) refl
  where
    by : (t : Bool) → bytes_eq (take (length usertype) payload) usertype ≡ t → cond t (Some (drop (length usertype) payload)) None ≡ None
    by true e = absurd (h ((bytes_eq-Decides (take (length usertype) payload) usertype).0 e))
    by false e = refl

-- bytes that are not the type are not that of a payload, which begins with them
other-type : (usertype front rest : List ℕ) → (front ≡ usertype → ⊥) → length front ≤ length usertype → (length front < length usertype → rest ≡ [])
    → take (length usertype) (front ++ rest) ≡ usertype → ⊥
other-type usertype front rest differs bound end h = by (cases_lt (length front) (length usertype))
  where
    by : (length front < length usertype) ⊎ (length usertype ≤ length front) → ⊥
    by (inl lt) =
        let none = end lt in
        let len : length (take (length usertype) (front ++ rest)) ≡ length usertype = ap (λ (t : List ℕ). length t) h in
        let few : length rest ≡ 0 = ap (λ (t : List ℕ). length t) none in
        omega (arith, length-take (length usertype) (front ++ rest), length-append front rest)
    by (inr le) = differs (sym (take_at front rest (length usertype) (omega arith)) ∙ h)

-- a payload behind bytes that were taken
taken-front : (front ys : List ℕ) (len n : ℕ) → length front ≡ n → n ≤ len → take len (front ++ ys) ≡ front ++ take (len - n) ys
taken-front front ys len n e h =
    let split : len ≡ length front + (len - n) = omega arith in
    ap (λ k. take k (front ++ ys)) split ∙ take-append-add front ys (len - n)

dropped-front : (front ys : List ℕ) (len n : ℕ) → length front ≡ n → n ≤ len → drop len (front ++ ys) ≡ drop (len - n) ys
dropped-front front ys len n e h =
    let split : len ≡ length front + (len - n) = omega arith in
    ap (λ k. drop k (front ++ ys)) split ∙ drop-append-add front ys (len - n)

-- the type that is sought was taken
type-sought : (usertype ys : List ℕ) (len : Option ℕ) (next : Next) → IfSome len (λ l. length usertype ≤ l)
    → typed usertype len next (usertype ++ ys) ≡ held_from (option_map (λ l. l - length usertype) len) ys
type-sought usertype ys None next h = ap (λ o. held_or o next []) (behind-self usertype ys)
type-sought usertype ys (Some l) next h = by (cases_lt (length ys) (l - length usertype))
  where
    by : (length ys < l - length usertype) ⊎ (l - length usertype ≤ length ys)
        → typed usertype (Some l) next (usertype ++ ys) ≡ held_from (Some (l - length usertype)) ys
    by (inl lt) =
        ap (λ t. cond t (Err broken_cr3) (held_or (behind_type usertype (take l (usertype ++ ys))) next (drop l (usertype ++ ys))))
        (lt-ltb (length (usertype ++ ys)) l (omega (arith, length-append usertype ys)))
        ∙ sym (ap (λ t. cond t (Err broken_cr3) (Ok (Some (take (l - length usertype) ys)))) (lt-ltb (length ys) (l - length usertype) lt))
    by (inr le) =
        ap (λ t. cond t (Err broken_cr3) (held_or (behind_type usertype (take l (usertype ++ ys))) next (drop l (usertype ++ ys))))
        (le-ltb (length (usertype ++ ys)) l (omega (arith, length-append usertype ys)))
        ∙ ap (λ p. held_or (behind_type usertype p) next (drop l (usertype ++ ys))) (taken-front usertype ys l (length usertype) refl h)
        ∙ ap (λ o. held_or o next (drop l (usertype ++ ys))) (behind-self usertype (take (l - length usertype) ys))
        ∙ sym (ap (λ t. cond t (Err broken_cr3) (Ok (Some (take (l - length usertype) ys)))) (le-ltb (length ys) (l - length usertype) le))

-- another type was taken
type-other : (usertype front ys : List ℕ) (len : Option ℕ) (next : Next) → (front ≡ usertype → ⊥) → length front ≤ type_len len (length usertype)
    → IfSome len (λ l. length front ≤ l) → (length front < type_len len (length usertype) → ys ≡ [])
    → typed usertype len next (front ++ ys) ≡ passing next (option_map (λ l. l - length front) len) ys
type-other usertype front ys None next differs bound h end =
    ap (λ o. held_or o next []) (behind-other usertype (front ++ ys) (other-type usertype front ys differs bound end))
type-other usertype front ys (Some l) next differs bound h end = by (cases_lt (length ys) (l - length front))
  where
    least : type_len (Some l) (length usertype) ≤ length usertype
    least = least-of (ltb l (length usertype)) refl
      where
        least-of : (t : Bool) → ltb l (length usertype) ≡ t → cond t l (length usertype) ≤ length usertype
        least-of true e = let lt = ltb-true l (length usertype) e in omega arith
        least-of false e = omega arith

    none-left : l ≤ length (front ++ ys) → length front < length usertype → take (l - length front) ys ≡ []
    none-left whole few = by-len (cases_lt l (length usertype))
      where
        by-len : (l < length usertype) ⊎ (length usertype ≤ l) → take (l - length front) ys ≡ []
        by-len (inl lt) =
            let same : type_len (Some l) (length usertype) ≡ l = ap (λ t. cond t l (length usertype)) (lt-ltb l (length usertype) lt) in
            let all : length front ≡ l = all-of (cases_lt (length front) l) same in
            ap (λ k. take k ys) (let z : l - length front ≡ 0 = omega arith in z)
          where
            all-of : (length front < l) ⊎ (l ≤ length front) → type_len (Some l) (length usertype) ≡ l → length front ≡ l
            all-of (inl less) same =
                let none = end (subst (λ k. length front < k) (sym same) less) in
                let few : length ys ≡ 0 = ap (λ (t : List ℕ). length t) none in
                absurd (omega (arith, length-append front ys))
            all-of (inr more) same = omega arith
        by-len (inr le) =
            let same : type_len (Some l) (length usertype) ≡ length usertype = ap (λ t. cond t l (length usertype)) (le-ltb l (length usertype) le) in
            ap (take (l - length front)) (end (subst (λ k. length front < k) (sym same) few)) ∙ take_all (l - length front) [] (omega arith)

    by : (length ys < l - length front) ⊎ (l - length front ≤ length ys)
        → typed usertype (Some l) next (front ++ ys) ≡ passing next (Some (l - length front)) ys
    by (inl lt) =
        ap (λ t. cond t (Err broken_cr3) (held_or (behind_type usertype (take l (front ++ ys))) next (drop l (front ++ ys))))
        (lt-ltb (length (front ++ ys)) l (omega (arith, length-append front ys)))
        ∙ sym (ap (λ t. cond t (Err broken_cr3) (next (drop (l - length front) ys))) (lt-ltb (length ys) (l - length front) lt))
    by (inr le) =
        let whole : l ≤ length (front ++ ys) = omega (arith, length-append front ys) in
        ap (λ t. cond t (Err broken_cr3) (held_or (behind_type usertype (take l (front ++ ys))) next (drop l (front ++ ys))))
        (le-ltb (length (front ++ ys)) l whole)
        ∙ ap (λ p. held_or (behind_type usertype p) next (drop l (front ++ ys))) (taken-front front ys l (length front) refl h)
        ∙ ap (λ o. held_or o next (drop l (front ++ ys)))
        (behind-other usertype (front ++ take (l - length front) ys)
        (other-type usertype front (take (l - length front) ys) differs (omega (arith, least)) (none-left whole)))
        ∙ ap next (dropped-front front ys l (length front) refl h)
        ∙ sym (ap (λ t. cond t (Err broken_cr3) (next (drop (l - length front) ys))) (le-ltb (length ys) (l - length front) le))

-- the first bytes of a payload are the type that is sought
pub taken_sought : (a b : Option (List ℕ)) (usertype front : List ℕ) (len : Option ℕ) (held : Held) → Consumes a b front → front ≡ usertype
    → IfSome len (λ l. length front ≤ l) → held.len ≡ option_map (λ l. l - length front) len → IsTaken usertype len (Sought held) a b
taken_sought None b usertype front len held k e h l = tt
taken_sought (Some xs) None usertype front len held k e h l = absurd k
taken_sought (Some xs) (Some ys) usertype front len held k e h l = λ next.
    let same = ap (λ (t : List ℕ). length t) e in
    ap (typed usertype len next) (k ∙ ap (λ f. f ++ ys) e)
    ∙ type-sought usertype ys len next (subst (λ n. IfSome len (λ l. n ≤ l)) same h)
    ∙ sym (ap (λ o. held_from o ys) (l ∙ ap (λ n. option_map (λ l. l - n) len) same))

-- they are another type, or a part of one
pub taken_other : (a b : Option (List ℕ)) (usertype front : List ℕ) (len : Option ℕ) (held : Held) → Consumes a b front → (front ≡ usertype → ⊥)
    → length front ≤ type_len len (length usertype) → IfSome len (λ l. length front ≤ l) → (length front < type_len len (length usertype) → IsAtEnd b)
    → held.len ≡ option_map (λ l. l - length front) len → IsTaken usertype len (Other held) a b
taken_other None b usertype front len held k differs bound h end l = tt
taken_other (Some xs) None usertype front len held k differs bound h end l = absurd k
taken_other (Some xs) (Some ys) usertype front len held k differs bound h end l = λ next.
    ap (typed usertype len next) k ∙ type-other usertype front ys len next differs bound h end ∙ sym (ap (λ o. passing next o ys) l)

-- the same of the front of a buffer
pub type_taken : (a b : Option (List ℕ)) (usertype buf rest : List ℕ) (n most : ℕ) (len : Option ℕ) (held : Held) → Consumes a b (take n buf) → n ≤ length buf → length buf ≡ most
    → true ≡ pointwise eqb (take n (buf ++ rest)) usertype → IfSome len (λ l. most ≤ l) → held.len ≡ option_map (λ l. l - n) len → IsTaken usertype len (Sought held) a b
type_taken a b usertype buf rest n most len held k bound size e h l =
    let same : take n buf ≡ usertype = sym (take-append-le n buf rest bound) ∙ (bytes_eq-Decides (take n (buf ++ rest)) usertype).0 (sym e) in
    let count : length (take n buf) ≡ n = length-take-le n buf bound in
    taken_sought a b usertype (take n buf) len held k same (within-len len h) (l ∙ ap (λ m. option_map (λ l. l - m) len) (sym count))
  where
    within-len : (o : Option ℕ) → IfSome o (λ l. most ≤ l) → IfSome o (λ l. length (take n buf) ≤ l)
    within-len None h = tt
    within-len (Some l) h = omega (arith, length-take-le n buf bound)

pub type_passed : (a b : Option (List ℕ)) (usertype buf rest : List ℕ) (n most : ℕ) (len : Option ℕ) (held : Held) → Consumes a b (take n buf) → n ≤ length buf → length buf ≡ most
    → false ≡ pointwise eqb (take n (buf ++ rest)) usertype → most ≡ type_len len (length usertype) → IfSome len (λ l. most ≤ l) → (n < length buf → IsAtEnd b)
    → held.len ≡ option_map (λ l. l - n) len → IsTaken usertype len (Other held) a b
type_passed a b usertype buf rest n most len held k bound size e m h end l =
    let count : length (take n buf) ≡ n = length-take-le n buf bound in
    taken_other a b usertype (take n buf) len held k
    (λ same. absurd (let is : pointwise eqb (take n (buf ++ rest)) usertype ≡ true = (bytes_eq-Decides (take n (buf ++ rest)) usertype).1 (take-append-le n buf rest bound ∙ same) in cc))
    (omega arith) (within-len len h) (λ less. end (omega arith)) (l ∙ ap (λ m. option_map (λ l. l - m) len) (sym count))
  where
    within-len : (o : Option ℕ) → IfSome o (λ l. most ≤ l) → IfSome o (λ l. length (take n buf) ≤ l)
    within-len None h = tt
    within-len (Some l) h = omega (arith, length-take-le n buf bound)

-- ---- what the next box says

-- the boxes from one that was headed on
headed-more : (name usertype head : List ℕ) (n : ℕ) (len : Option ℕ) (xs ys : List ℕ) → (0 < length xs) × (first_box xs ≡ box_behind head len ys)
    → within name usertype (suc n) xs ≡ follow (held_by name usertype) (box_behind head len ys) (within name usertype n)
headed-more name usertype head n len xs ys h =
    within-more (held_by name usertype) n xs h.0 ∙ ap (λ r. follow (held_by name usertype) r (within name usertype n)) h.1

-- what a whole box behind a header holds, by its name
abbrev by_name : Bool → List ℕ → List ℕ → Next → List ℕ → Result (Option (List ℕ)) Refusal
by_name t usertype payload next rest =
    held_or (cond (t && bytes_eq (take (length usertype) payload) usertype) (Some (drop (length usertype) payload)) None) next rest

whole-box : (t : Bool) (head name usertype payload rest : List ℕ) (next : Next) → t ≡ pointwise eqb head name
    → follow (held_by name usertype) (Ok (record { name = head; payload = payload; rest = rest })) next ≡ by_name t usertype payload next rest
whole-box t head name usertype payload rest next e = ap (λ s. by_name s usertype payload next rest) (sym e)

same-name : (head name usertype : List ℕ) (len : Option ℕ) (next : Next) (ys : List ℕ) → true ≡ pointwise eqb head name
    → follow (held_by name usertype) (box_behind head len ys) next ≡ typed usertype len next ys
same-name head name usertype None next ys e = whole-box true head name usertype ys [] next e
same-name head name usertype (Some len) next ys e = by (ltb (length ys) len)
  where
    by : (t : Bool) → follow (held_by name usertype) (cond t (Err broken_cr3) (Ok (record { name = head; payload = take len ys; rest = drop len ys }))) next
        ≡ cond t (Err broken_cr3) (held_or (behind_type usertype (take len ys)) next (drop len ys))
    by true = refl
    by false = whole-box true head name usertype (take len ys) (drop len ys) next e

other-name : (head name usertype : List ℕ) (len : Option ℕ) (next : Next) (ys : List ℕ) → false ≡ pointwise eqb head name
    → follow (held_by name usertype) (box_behind head len ys) next ≡ passing next len ys
other-name head name usertype None next ys e = whole-box false head name usertype ys [] next e
other-name head name usertype (Some len) next ys e = by (ltb (length ys) len)
  where
    by : (t : Bool) → follow (held_by name usertype) (cond t (Err broken_cr3) (Ok (record { name = head; payload = take len ys; rest = drop len ys }))) next
        ≡ cond t (Err broken_cr3) (next (drop len ys))
    by true = refl
    by false = whole-box false head name usertype (take len ys) (drop len ys) next e

-- a box of another name
pub other_comes : (name usertype : List ℕ) (a b : Option (List ℕ)) (h : FileHeader) (held : Held) → WhereTold a b (IsHeaded (Some h))
    → false ≡ pointwise eqb h.name name → held.len ≡ h.len → Comes name usertype (Other held) a b
other_comes name usertype None b h held k e l = tt
other_comes name usertype (Some xs) None h held k e l = absurd k
other_comes name usertype (Some xs) (Some ys) h held k e l = λ n.
    headed-more name usertype h.name n h.len xs ys k ∙ other-name h.name name usertype h.len (within name usertype n) ys e
    ∙ sym (ap (λ o. passing (within name usertype n) o ys) l)

-- a box of the name, whose type was taken
pub same_comes : (name usertype : List ℕ) (coming : Coming) (a b c : Option (List ℕ)) (h : FileHeader) → WhereTold a b (IsHeaded (Some h))
    → true ≡ pointwise eqb h.name name → IsTaken usertype h.len coming b c → Comes name usertype coming a c
same_comes name usertype End a b c h k e t = absurd t
same_comes name usertype (Sought held) None b c h k e t = tt
same_comes name usertype (Sought held) (Some xs) None c h k e t = absurd k
same_comes name usertype (Sought held) (Some xs) (Some ys) None h k e t = absurd t
same_comes name usertype (Sought held) (Some xs) (Some ys) (Some zs) h k e t = λ n.
    headed-more name usertype h.name n h.len xs ys k ∙ same-name h.name name usertype h.len (within name usertype n) ys e ∙ t (within name usertype n)
same_comes name usertype (Other held) None b c h k e t = tt
same_comes name usertype (Other held) (Some xs) None c h k e t = absurd k
same_comes name usertype (Other held) (Some xs) (Some ys) None h k e t = absurd t
same_comes name usertype (Other held) (Some xs) (Some ys) (Some zs) h k e t = λ n.
    headed-more name usertype h.name n h.len xs ys k ∙ same-name h.name name usertype h.len (within name usertype n) ys e ∙ t (within name usertype n)

-- no box is left
pub no_box : (name usertype : List ℕ) (a b : Option (List ℕ)) → WhereTold a b (IsHeaded None) → IfSome a (λ xs. (n : ℕ) → within name usertype (suc n) xs ≡ Ok None)
no_box name usertype None b k = tt
no_box name usertype (Some xs) None k = absurd k
no_box name usertype (Some xs) (Some ys) k = λ n. ap (within name usertype (suc n)) k

-- bytes that are refused as a box are refused as boxes
pub box_refused : (name usertype : List ℕ) (e : Failure) (a : Option (List ℕ)) → IsShort broken_cr3 e a (λ xs. (0 < length xs) × (first_box xs ≡ Err broken_cr3))
    → IfSome a (λ xs. (n : ℕ) → Fails e (within name usertype (suc n) xs))
box_refused name usertype e None h = tt
box_refused name usertype e (Some xs) h = λ n.
    fails_with e broken_cr3 (within name usertype (suc n) xs) _ h
    (λ p. within-more (held_by name usertype) n xs p.0 ∙ ap (λ r. follow (held_by name usertype) r (within name usertype n)) p.1)

-- an interruption is an error of any answer
pub interrupted-fails : {Y : Type 0} (e : Failure) (answer : Result Y Refusal) → IsInterrupted e → Fails e answer
interrupted-fails e answer h =
    subst (λ o. MatchOption o (IsInterrupted e) (λ r. answer ≡ Err r)) (sym (interrupted_none e h)) h

-- a device's error in a box
pub box_interrupted : (name usertype : List ℕ) (e : Failure) (a : Option (List ℕ)) → IsInterrupted e
    → IfSome a (λ xs. (n : ℕ) → Fails e (within name usertype (suc n) xs))
box_interrupted name usertype e None h = tt
box_interrupted name usertype e (Some xs) h = λ n. interrupted-fails e (within name usertype (suc n) xs) h

-- ---- steps behind a box

-- another box is cut
pub other_cut : (name usertype : List ℕ) (e : Failure) (a b : Option (List ℕ)) (held : Held) (len : ℕ) → Comes name usertype (Other held) a b → held.len ≡ Some len
    → IsShort broken_cr3 e b (λ ys. length ys < len) → IfSome a (λ xs. (n : ℕ) → Fails e (within name usertype (suc n) xs))
other_cut name usertype e None b held len k l s = tt
other_cut name usertype e (Some xs) None held len k l s = absurd k
other_cut name usertype e (Some xs) (Some ys) held len k l s = λ n.
    fails_with e broken_cr3 (within name usertype (suc n) xs) _ s
    (λ p. k n ∙ ap (λ o. passing (within name usertype n) o ys) l
    ∙ ap (λ t. cond t (Err broken_cr3) (within name usertype n (drop len ys))) (lt-ltb (length ys) len p))

-- another box was skipped
pub other_skipped : (name usertype : List ℕ) (a b c : Option (List ℕ)) (held : Held) (len : ℕ) → Comes name usertype (Other held) a b → held.len ≡ Some len
    → Skips b c len → Goes name usertype step.Other a c
other_skipped name usertype None b c held len k l s = tt
other_skipped name usertype (Some xs) None c held len k l s = absurd k
other_skipped name usertype (Some xs) (Some ys) None held len k l s = absurd s
other_skipped name usertype (Some xs) (Some ys) (Some zs) held len k l s = λ n.
    k n ∙ ap (λ o. passing (within name usertype n) o ys) l
    ∙ ap (λ t. cond t (Err broken_cr3) (within name usertype n (drop len ys))) (le-ltb (length ys) len s.0)
    ∙ ap (within name usertype n) (sym s.1)

-- no bytes have no box
pub within-nil : (name usertype : List ℕ) (n : ℕ) → within name usertype n [] ≡ Ok None
within-nil name usertype zero = refl
within-nil name usertype (suc n) = refl

-- another box that runs to the end
pub other_to_end : (name usertype : List ℕ) (a b c : Option (List ℕ)) (held : Held) → Comes name usertype (Other held) a b → held.len ≡ None
    → Goes name usertype step.End a c
other_to_end name usertype None b c held k l = tt
other_to_end name usertype (Some xs) None c held k l = absurd k
other_to_end name usertype (Some xs) (Some ys) c held k l = λ n.
    k n ∙ ap (λ o. passing (within name usertype n) o ys) l ∙ within-nil name usertype n
