-- Locations that were erased are not erased again.
use Rattle.std.proofs.Common.{◌≡◌, ◌-◌, ◌+◌, ℕ, zero, suc, Bool, true, false, ◌||◌, cond, List, [], ◌∷◌, ◌++◌, length, take, drop, map, Option, None, Some, refl, ap, sym, ◌∙◌, arith}
use Rattle.std.proofs.lemmas.List.{drop-drop, drop_at, take-append-drop}
use Rattle.std.proofs.lemmas.List.Folds.{list_any-append}
use Rattle.std.proofs.lemmas.Slice.Eq.{bytes_eq-Decides}
use Rattle.std.specs.List.{flat_map, list_any}
use Rattle.std.specs.Option.{option_map}
use Rattle.std.specs.Str.{bytes_eq}
use Rattle.exif_inventory.specs.declared.kind.Kind.TheVariants as kind
use Rattle.exif_inventory.specs.declared.part.Part.{Part}
use Rattle.exif_privacy.specs.Chunks.{mended}
use Rattle.exif_privacy.specs.Data.{data_of, with_data}
use Rattle.exif_privacy.specs.Erasing.{all_stay, erased, erased_by, found, found_in, front_erased, parts_erased, stays_for}
use Rattle.exif_privacy.specs.Files.{parts_of}
use Rattle.exif_privacy.specs.Judging.{front_reasons, judged_from}
use Rattle.exif_privacy.specs.Parts.{changed_reasons, part_answer, reasons_from, version_reasons}
use Rattle.exif_privacy.specs.Portions.{joined, joined_len, portion, portion_of, put_back}
use Rattle.exif_privacy.specs.Promises.{TwiceIsOnce, is_still_there, would_change}
use Rattle.exif_privacy.specs.declared.remaining.Remaining.{Remaining}
use Rattle.exif_privacy.specs.declared.remaining.Reason.{Reason}
use Rattle.exif_privacy.specs.declared.remaining.Reason.TheVariants.{StillThere}
use Rattle.exif_locations.specs.declared.unread.Unread.{Unread}
use Rattle.exif_privacy.proofs.CrcSame.{mended_same}

-- data put where they are
pub same_data : (part : Part) (file : List ℕ) → with_data part (data_of part file) file ≡ file
same_data part file = same part.data_offset part.data_len file
  where
    same : (at n : ℕ) (file : List ℕ) → take at file ++ (take n (drop at file) ++ drop (at + n) file) ≡ file
    same at n file =
        let rest : List ℕ = drop at file in
        let behind : drop (at + n) file ≡ drop n rest = grind (arith, drop-drop) in
        ap (λ bytes. take at file ++ (take n rest ++ bytes)) behind
        ∙ (ap (λ bytes. take at file ++ bytes) (take-append-drop n rest)
        ∙ take-append-drop at file)

front_of : (xs ys : List ℕ) → take (length xs) (xs ++ ys) ≡ xs
front_of [] ys = refl
front_of (x ∷ xs) ys = ap (λ zs. x ∷ zs) (front_of xs ys)

-- and portions
pub same_portions : (parts : List Part) (file : List ℕ) → put_back parts (joined parts file) file ≡ file
same_portions [] file = refl
same_portions (p ∷ ps) file =
    let it : List ℕ = portion_of p file in
    let others : List ℕ = joined ps file in
    let now : with_data (portion p) (take (length it) (it ++ others)) file ≡ file = ap (λ bytes. with_data (portion p) bytes file) (front_of it others) ∙ same_data (portion p) file in
    ap (λ bytes. put_back ps (drop (length it) (it ++ others)) bytes) now
    ∙ (ap (λ bytes. put_back ps bytes file) (drop_at it others (length it) refl)
    ∙ same_portions ps file)

-- what would not be erased
settled_by : (b : Bool) (version : Option (List Reason)) (whys : List Reason) → list_any is_still_there (cond b whys (changed_reasons version)) ≡ false → b ≡ true
settled_by true version whys e = refl
settled_by false None whys e = absurd (no e)
  where
    no : true ≡ false → ⊥
    no e = cc
settled_by false (Some left) whys e = absurd (no e)
  where
    no : true ≡ false → ⊥
    no e = cc

settled : (version : Option (List Reason)) (old : List ℕ) (answer : List ℕ × List Reason) → list_any is_still_there (reasons_from version old answer) ≡ false → answer.0 ≡ old
settled version old answer e = (bytes_eq-Decides answer.0 old).0 (settled_by (bytes_eq answer.0 old) version answer.1 e)

-- a part that stays, or the packet that it begins
front_settled : (unread : Unread) (file : List ℕ) (n : ℕ) (p : Part) (ps : List Part) → list_any is_still_there (front_reasons unread file n p ps) ≡ false → front_erased unread n p ps file ≡ file
front_settled unread file zero p ps e =
    ap (λ bytes. with_data p bytes file) (settled (version_reasons unread p.kind (data_of p file)) (data_of p file) (part_answer unread p.kind (data_of p file)) e) ∙ same_data p file
front_settled unread file (suc n) p ps e =
    let parts : List Part = take (suc n) (p ∷ ps) in
    ap (λ bytes. put_back parts bytes file) (settled None (joined parts file) (part_answer unread kind.Xmp (joined parts file)) e) ∙ same_portions parts file

any_stays : (part : Part) (whys : List Reason) → list_any would_change (map (stays_for part) whys) ≡ list_any is_still_there whys
any_stays part [] = refl
any_stays part (why ∷ whys) = ap (λ b. is_still_there why || b) (any_stays part whys)

neither : (a b : Bool) → (a || b) ≡ false → (a ≡ false) × (b ≡ false)
neither true b e = absurd (no e)
  where
    no : true ≡ false → ⊥
    no e = cc
neither false b e = (refl, e)

none_of : (part : Part) (whys : List Reason) (others : List (Part × List Reason)) → list_any would_change (flat_map all_stay ((part, whys) ∷ others)) ≡ false
    → (list_any is_still_there whys ≡ false) × (list_any would_change (flat_map all_stay others) ≡ false)
none_of part whys others e =
    let both = neither _ _ (sym (list_any-append would_change (map (stays_for part) whys) (flat_map all_stay others)) ∙ e) in
    (sym (any_stays part whys) ∙ both.0, both.1)

-- all of them
pub parts_settled : (unread : Unread) (file : List ℕ) (parts : List Part) (whys : List Reason) (left : ℕ) → list_any would_change (flat_map all_stay (judged_from unread file (whys, left) parts)) ≡ false
    → parts_erased unread left parts file ≡ file
parts_settled unread file [] whys left e = refl
parts_settled unread file (p ∷ ps) whys (suc left) e =
    parts_settled unread file ps whys left (none_of p whys (judged_from unread file (whys, left) ps) e).1
parts_settled unread file (p ∷ ps) whys zero e =
    let n : ℕ = joined_len file (p ∷ ps) in
    let now : List Reason = front_reasons unread file n p ps in
    let none = none_of p now (judged_from unread file (now, n - 1) ps) e in
    ap (λ bytes. parts_erased unread (n - 1) ps bytes) (front_settled unread file n p ps none.0)
    ∙ parts_settled unread file ps now (n - 1) none.1

some_same : {A : Type 0} {x y : A} → ◌≡◌ {A = Option A} (Some x) (Some y) → x ≡ y
some_same e = cc

by_parts : (unread : Unread) (new : List ℕ) (stays : List Remaining) (parts : Option (List Part)) → option_map (found unread new) parts ≡ Some stays → list_any would_change stays ≡ false → erased_by unread new parts ≡ new
by_parts unread new stays None e none = refl
by_parts unread new stays (Some parts) e none =
    ap (mended new parts) (parts_settled unread new parts [] 0 (ap (list_any would_change) (some_same e) ∙ none))
    ∙ mended_same new parts

-- what is answered is what is found in the new file
pub found_there : (unread : Unread) (file new : List ℕ) (stays : List Remaining) → erased unread file ≡ (new, Some stays) → found_in unread new ≡ Some stays
found_there unread file new stays e =
    let made : List ℕ × Option (List Remaining) = erased unread file in
    ap (found_in unread) (sym (ap (λ (m : List ℕ × Option (List Remaining)). m.0) e)) ∙ ap (λ (m : List ℕ × Option (List Remaining)). m.1) e

pub twice : TwiceIsOnce
twice unread file new stays e none =
    let there : found_in unread new ≡ Some stays = found_there unread file new stays e in
    let again : erased_by unread new (parts_of new) ≡ new = by_parts unread new stays (parts_of new) there none in
    let whole : List ℕ → List ℕ × Option (List Remaining) = λ bytes. (bytes, found_in unread bytes) in
    ap whole again ∙ ap (λ answer. (new, answer)) there
