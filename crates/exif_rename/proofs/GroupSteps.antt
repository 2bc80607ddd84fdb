-- How the stems of files are found, and which files share one.
use Rattle.std.proofs.Common.{◌≡◌, ℕ, suc, ◌+◌, ◌≤◌, ◌<◌, List, [], ◌∷◌, ◌++◌, Bool, true, false, Option, Some, None, ap, sym, refl, subst, ◌∙◌, length, map, take, drop, arith, length-take-le, take-append-drop}
use Rattle.std.specs.Prelude.{if◌then◌else◌, ◌==◌, ◌&&◌, cond, slice_index, string_bytes}
use Rattle.std.specs.BTreeMap.{BTreeMap, Updates, get_by_text}
use Rattle.std.specs.String.{string_cmp}
use Rattle.std.specs.declared.string.String.{String}
use Rattle.std.proofs.lemmas.Bool.{eqb-true}
use Rattle.std.proofs.lemmas.List.{append_assoc, at_drop_more}
use Rattle.std.proofs.lemmas.Map.Text.{btree_map_updates_text}
use Rattle.std.specs.Option.{option_or, unwrap_or}
use Rattle.std.specs.Str.{bytes_eq}
use Rattle.std.proofs.lemmas.Slice.Eq.{bytes_eq-Decides}
use Rattle.exif_rename.specs.Grouped.{after_byte, ending_after, ending_of, first_index, leaders}

drop_all : (xs : List ℕ) → drop (length xs) xs ≡ []
drop_all [] = refl
drop_all (x ∷ xs) = drop_all xs

-- one byte more
pub ending_more : (c index start : ℕ) (begun : Bool) (path rest : List ℕ) → drop index path ≡ c ∷ rest
    → ending_after (after_byte c index (length path) start begun).1 (drop (after_byte c index (length path) start begun).0 path) rest ≡ ending_after begun (drop start path) (c ∷ rest)
ending_more c index start begun path rest e = by_tests (c == 47) ((c == 46) && begun)
  where
    pick : Bool → Bool → ℕ × Bool
    pick slash dot = if slash then (length path, false) else if dot then (index, true) else (start, true)

    by_tests : (slash dot : Bool) → ending_after (pick slash dot).1 (drop (pick slash dot).0 path) rest
        ≡ (if slash then ending_after false [] rest else if dot then ending_after true (c ∷ rest) rest else ending_after true (drop start path) rest)
    by_tests true dot = ap (λ (xs : List ℕ). ending_after false xs rest) (drop_all path)
    by_tests false true = ap (λ (xs : List ℕ). ending_after true xs rest) e
    by_tests false false = refl

and_left : (a b : Bool) → (a && b) ≡ true → a ≡ true
and_left true b h = refl
and_left false b h = cc

-- where the ending begins is within the path, and what holds of each `.` holds there
pub byte_facts : (c index size start : ℕ) (begun : Bool) (P : ℕ → Type 0) → index < size → start ≤ size → (c ≡ 46 → P index) → (start < size → P start)
    → ((after_byte c index size start begun).0 ≤ size) × ((after_byte c index size start begun).0 < size → P (after_byte c index size start begun).0)
byte_facts c index size start begun P lt le here stays = by_tests (c == 47) ((c == 46) && begun) refl
  where
    pick : Bool → Bool → ℕ × Bool
    pick slash dot = if slash then (size, false) else if dot then (index, true) else (start, true)

    by_tests : (slash dot : Bool) → ((c == 46) && begun) ≡ dot → ((pick slash dot).0 ≤ size) × ((pick slash dot).0 < size → P (pick slash dot).0)
    by_tests true dot e = (omega arith, λ less. absurd (omega (arith, less)))
    by_tests false true e = (omega (arith, lt), λ less. here (eqb-true c 46 (and_left (c == 46) begun e)))
    by_tests false false e = (le, stays)

pub ending_step : (path : List ℕ) (index start : ℕ) (begun : Bool) (next : ℕ × Bool) → index < length path → next ≡ after_byte (slice_index path index) index (length path) start begun
    → ending_after begun (drop start path) (drop index path) ≡ ending_of path → ending_after next.1 (drop next.0 path) (drop (index + 1) path) ≡ ending_of path
ending_step path index start begun next lt e before =
    let here : drop index path ≡ slice_index path index ∷ drop (index + 1) path = at_drop_more (λ (ys : List ℕ). ys) path index 0 lt in
    let P : ℕ × Bool → Type 0 = λ n. ending_after n.1 (drop n.0 path) (drop (index + 1) path) ≡ ending_of path in
    subst P (sym e) (ending_more (slice_index path index) index start begun path (drop (index + 1) path) here ∙ ap (λ (ys : List ℕ). ending_after begun (drop start path) ys) (sym here) ∙ before)

pub within_step : (path : List ℕ) (index start : ℕ) (begun : Bool) (next : ℕ × Bool) → index < length path → next ≡ after_byte (slice_index path index) index (length path) start begun → start ≤ length path
    → (start < length path → slice_index path start ≡ 46) → (next.0 ≤ length path) × (next.0 < length path → slice_index path next.0 ≡ 46)
within_step path index start begun next lt e le dot =
    let P : ℕ × Bool → Type 0 = λ n. (n.0 ≤ length path) × (n.0 < length path → slice_index path n.0 ≡ 46) in
    subst P (sym e) (byte_facts (slice_index path index) index (length path) start begun (λ n. slice_index path n ≡ 46) lt le (λ is. is) dot)

-- ---- the first of the same stems

first_append : (before : ℕ) (xs ys : List (List ℕ)) (stem : List ℕ) → first_index before (xs ++ ys) stem ≡ option_or (first_index before xs stem) (first_index (before + length xs) ys stem)
first_append before [] ys stem = ap (λ (n : ℕ). first_index n ys stem) (omega arith)
first_append before (x ∷ xs) ys stem =
    whether (bytes_eq x stem) (first_append (before + 1) xs ys stem ∙ ap (λ (n : ℕ). option_or (first_index (before + 1) xs stem) (first_index n ys stem)) (omega arith))
  where
    whether : (b : Bool) → first_index (before + 1) (xs ++ ys) stem ≡ option_or (first_index (before + 1) xs stem) (first_index (before + suc (length xs)) ys stem)
        → (if b then Some before else first_index (before + 1) (xs ++ ys) stem) ≡ option_or (if b then Some before else first_index (before + 1) xs stem) (first_index (before + suc (length xs)) ys stem)
    whether true e = refl
    whether false e = e

first_behind : (xs ys : List (List ℕ)) (stem : List ℕ) → first_index 0 (xs ++ ys) stem ≡ option_or (first_index 0 xs stem) (first_index (length xs) ys stem)
first_behind xs ys stem =
    let same : 0 + length xs ≡ length xs = omega arith in
    first_append 0 xs ys stem ∙ ap (λ (n : ℕ). option_or (first_index 0 xs stem) (first_index n ys stem)) same

same_bytes : (bs : List ℕ) → bytes_eq bs bs ≡ true
same_bytes bs = (bytes_eq-Decides bs bs).1 refl

-- where the stems so far are the first ones of all, this one's leader is that among all
pub leader_is : (stems front rest : List (List ℕ)) (stem : List ℕ) (found : Option ℕ) (leader index : ℕ) → stems ≡ front ++ stem ∷ rest → length front ≡ index → found ≡ first_index 0 front stem → leader ≡ unwrap_or found index
    → unwrap_or (first_index 0 stems stem) 0 ≡ leader
leader_is stems front rest stem found leader index e n is lead =
    ap (λ (xs : List (List ℕ)). unwrap_or (first_index 0 xs stem) 0) e
    ∙ ap (λ (o : Option ℕ). unwrap_or o 0) (first_behind front (stem ∷ rest) stem)
    ∙ ap (λ (b : Bool). unwrap_or (option_or (first_index 0 front stem) (if b then Some (length front) else first_index (length front + 1) rest stem)) 0) (same_bytes stem)
    ∙ either (first_index 0 front stem) found (sym is) lead
  where
    either : (o found : Option ℕ) → o ≡ found → leader ≡ unwrap_or found index → unwrap_or (option_or o (Some (length front))) 0 ≡ leader
    either None None same lead = n ∙ sym lead
    either None (Some k) same lead = cc
    either (Some k) None same lead = cc
    either (Some k) (Some j) same lead = let one : k ≡ j = cc in one ∙ sym lead

-- with one stem more
pub first_more : (front : List (List ℕ)) (stem q : List ℕ) (index : ℕ) → length front ≡ index → first_index 0 (front ++ stem ∷ []) q ≡ option_or (first_index 0 front q) (if bytes_eq stem q then Some index else None)
first_more front stem q index n =
    first_behind front (stem ∷ []) q ∙ ap (λ (k : ℕ). option_or (first_index 0 front q) (if bytes_eq stem q then Some k else None)) n

-- what a map has of the stems, with one more
pub leader_more : {Y : Type 0} (first first' : BTreeMap (String Y) ℕ) (key : String Y) (stem : List ℕ) (index : ℕ) → string_bytes key ≡ stem → get_by_text first stem ≡ None → Updates string_cmp first first' key (Some index)
    → (q : List ℕ) → get_by_text first' q ≡ option_or (get_by_text first q) (if bytes_eq stem q then Some index else None)
leader_more first first' key stem index e none updates q =
    btree_map_updates_text (string_bytes key) first first' (Some index) updates q ∙ ap (λ (bs : List ℕ). cond (bytes_eq bs q) (Some index) (get_by_text first q)) e ∙ whether (bytes_eq stem q) refl (get_by_text first q) refl
  where
    whether : (b : Bool) → bytes_eq stem q ≡ b → (o : Option ℕ) → get_by_text first q ≡ o → cond b (Some index) o ≡ option_or o (if b then Some index else None)
    whether true is o found =
        let same : stem ≡ q = (bytes_eq-Decides stem q).0 is in
        let nothing : o ≡ None = sym found ∙ ap (get_by_text first) (sym same) ∙ none in
        ap (λ (x : Option ℕ). option_or x (Some index)) (sym nothing) ∙ cc
    whether false is None found = refl
    whether false is (Some k) found = refl

-- the leaders so far, with one more
pub first_step : (all : List (List ℕ)) (stem q : List ℕ) (index : ℕ) → index < length all → take (index + 1) all ≡ take index all ++ stem ∷ []
    → option_or (first_index 0 (take index all) q) (if bytes_eq stem q then Some index else None) ≡ first_index 0 (take (index + 1) all) q
first_step all stem q index lt more =
    sym (ap (λ (xs : List (List ℕ)). first_index 0 xs q) more ∙ first_more (take index all) stem q index (length-take-le index all (omega (arith, lt))))

pub leaders_step : (all : List (List ℕ)) (stem : List ℕ) (index leader : ℕ) (numbers numbers' : List ℕ) (found : Option ℕ) → index < length all → drop index all ≡ stem ∷ drop (index + 1) all → numbers' ≡ numbers ++ leader ∷ []
    → found ≡ first_index 0 (take index all) stem → leader ≡ unwrap_or found index
    → leaders all ≡ numbers ++ map (λ s. unwrap_or (first_index 0 all s) 0) (drop index all)
    → leaders all ≡ numbers' ++ map (λ s. unwrap_or (first_index 0 all s) 0) (drop (index + 1) all)
leaders_step all stem index leader numbers numbers' found lt here more at lead before =
    let F : List ℕ → ℕ = λ s. unwrap_or (first_index 0 all s) 0 in
    let rest = drop (index + 1) all in
    let whole : all ≡ take index all ++ stem ∷ rest = sym (take-append-drop index all) ∙ ap (λ (ys : List (List ℕ)). take index all ++ ys) here in
    let one : F stem ≡ leader = leader_is all (take index all) rest stem found leader index whole (length-take-le index all (omega (arith, lt))) at lead in
    before ∙ ap (λ (ys : List (List ℕ)). numbers ++ map F ys) here ∙ ap (λ (n : ℕ). numbers ++ n ∷ map F rest) one ∙ sym (append_assoc numbers (leader ∷ []) (map F rest)) ∙ ap (λ (ns : List ℕ). ns ++ map F rest) (sym more)
