-- The cause of a list of groups, and the plans of its drafts, one group after another.
use Rattle.std.proofs.Common.{◌≡◌, ℕ, zero, suc, ◌+◌, ◌<◌, ◌≤◌, ◌^◌, List, [], ◌∷◌, ◌++◌, length, map, take, drop, get_or, refl, sym, ap, subst, ◌∙◌, arith, append_assoc, true, false, Option, Some, None}
use Rattle.std.specs.Prelude.{if◌then◌else◌, nat_lt, is_some, Bool, ◌==◌}
use Rattle.std.proofs.lemmas.Bool.{lt-ltb, le-ltb, eqb-true, eqb-false}
use Rattle.exif_layout.specs.declared.write_fault.WriteFault.{WriteFault}
use Rattle.exif_layout.specs.declared.write_fault.WriteFault.TheVariants.{NoDirectory, OffsetTooLarge}
use Rattle.exif_writer.specs.Drafts.{HasRoom, IsSettledPlan, ArePlans, next_of}
use Rattle.exif_writer.specs.declared.plan.Plan.{Plan}
use Rattle.exif_writer.proofs.PlanOffsets.{tiff_is, offsets_within}
use Rattle.std.proofs.lemmas.List.{append-nil, drop_more, drop_all}
use Rattle.exif_layout.specs.Groups.{Group, empty_group}
use Rattle.exif_layout.specs.Offsets.{draft_end, drafts_end, next_offset, even}
use Rattle.exif_layout.specs.Refused.{group_fault, first_group_fault, write_fault}
use Rattle.exif_layout.specs.Slots.{Draft, draft_of}
use Rattle.exif_layout.proofs.Images.Room.{drafts_low}
use Rattle.exif_layout.proofs.Images.Whole.{first_none, not_refused}
use Rattle.exif_writer.proofs.SendMembers.{around}
use Rattle.exif_writer.proofs.SendRunning.{up_to}

-- groups without a cause before others
first_step : (x : Group) (xs ys : List Group) (cause : Option WriteFault) → group_fault x ≡ cause
    → (first_group_fault xs ≡ None → first_group_fault (xs ++ ys) ≡ first_group_fault ys)
    → (let r : Option WriteFault = elim cause [ Some c ↦ Some c | None ↦ first_group_fault xs ] in r) ≡ None
    → first_group_fault ((x ∷ xs) ++ ys) ≡ first_group_fault ys
first_step x xs ys None e more h = rw (e, first_group_fault) (more h)
first_step x xs ys (Some c) e more h = absurd cc

first_append : (xs ys : List Group) → first_group_fault xs ≡ None → first_group_fault (xs ++ ys) ≡ first_group_fault ys
first_append [] ys h = refl
first_append (x ∷ xs) ys h = first_step x xs ys (group_fault x) refl (λ k. first_append xs ys k) h

-- a group with a cause, and one without
first_of : (x : Group) (xs : List Group) (cause : Option WriteFault) → group_fault x ≡ cause → is_some cause ≡ true → first_group_fault (x ∷ xs) ≡ cause
first_of x xs None e s = absurd cc
first_of x xs (Some c) e s = rw (e, first_group_fault) refl

none_of : (cause : Option WriteFault) → is_some cause ≡ false → cause ≡ None
none_of None s = refl
none_of (Some c) s = absurd cc

-- the cause of a group behind groups without a cause is the first cause of all
pub first_found : (groups : List Group) (i : ℕ) (x d : Group) (cause : Option WriteFault) → i < length groups → x ≡ get_or groups i d
    → first_group_fault (take i groups) ≡ None → cause ≡ group_fault x → is_some cause ≡ true → cause ≡ first_group_fault groups
first_found groups i x d cause h e none k s =
    sym (ap first_group_fault (around groups i x d h e) ∙ first_append (take i groups) (x ∷ drop (i + 1) groups) none
    ∙ first_of x (drop (i + 1) groups) cause (sym k) s)

-- groups without a cause, and one more such group behind them, have no cause
pub first_more : (groups : List Group) (i : ℕ) (x d : Group) (cause : Option WriteFault) → i < length groups → x ≡ get_or groups i d
    → first_group_fault (take i groups) ≡ None → cause ≡ group_fault x → is_some cause ≡ false → first_group_fault (take (i + 1) groups) ≡ None
first_more groups i x d cause h e none k s =
    let clean : group_fault x ≡ None = sym k ∙ none_of cause s in
    ap first_group_fault (up_to groups i x d h e) ∙ first_append (take i groups) (x ∷ []) none ∙ rw (clean, first_group_fault) refl

-- none of the groups has a cause where the first of all is none
pub fault_at : (groups : List Group) (i : ℕ) (x d : Group) → first_group_fault groups ≡ None → i < length groups → x ≡ get_or groups i d → group_fault x ≡ None
fault_at [] i x d none h e = absurd (omega arith)
fault_at (y ∷ groups) zero x d none h e = ap group_fault e ∙ (first_none y groups (group_fault y) refl none).0
fault_at (y ∷ groups) (suc i) x d none h e = fault_at groups i x d (first_none y groups (group_fault y) refl none).1 (omega arith) e

-- the ends of drafts
ends_append : (start : ℕ) (xs ys : List Draft) → drafts_end start (xs ++ ys) ≡ drafts_end (drafts_end start xs) ys
ends_append start [] ys = refl
ends_append start (x ∷ xs) ys = ends_append (draft_end x start) xs ys

drafts_append : (xs ys : List Group) → map draft_of (xs ++ ys) ≡ map draft_of xs ++ map draft_of ys
drafts_append [] ys = refl
drafts_append (x ∷ xs) ys = ap (λ r. draft_of x ∷ r) (drafts_append xs ys)

-- drafts with one more end where that one ends, begun at the end of those before it
pub ends_more : (start : ℕ) (groups : List Group) (i : ℕ) (x d : Group) → i < length groups → x ≡ get_or groups i d
    → drafts_end start (map draft_of (take (i + 1) groups)) ≡ draft_end (draft_of x) (drafts_end start (map draft_of (take i groups)))
ends_more start groups i x d h e =
    ap (λ r. drafts_end start (map draft_of r)) (up_to groups i x d h e) ∙ ap (drafts_end start) (drafts_append (take i groups) (x ∷ []))
    ∙ ends_append start (map draft_of (take i groups)) (draft_of x ∷ [])

-- no draft of a chain ends behind the end of all its drafts
pub ends_within : (start : ℕ) (groups : List Group) (i : ℕ) (x d : Group) → i < length groups → x ≡ get_or groups i d
    → draft_end (draft_of x) (drafts_end start (map draft_of (take i groups))) ≤ drafts_end start (map draft_of groups)
ends_within start groups i x d h e =
    let rest : List Draft = map draft_of (drop (i + 1) groups) in
    let end : ℕ = draft_end (draft_of x) (drafts_end start (map draft_of (take i groups))) in
    let same : drafts_end start (map draft_of groups) ≡ drafts_end end rest =
    ap (λ r. drafts_end start (map draft_of r)) (around groups i x d h e) ∙ ap (drafts_end start) (drafts_append (take i groups) (x ∷ drop (i + 1) groups))
    ∙ ends_append start (map draft_of (take i groups)) (draft_of x ∷ rest) in
    let low = drafts_low end rest in
    rw same low

-- however many drafts are taken of a chain that begins at 8, they end no lower than 8
pub ends_low : (groups : List Group) (i : ℕ) → 8 ≤ drafts_end 8 (map draft_of (take i groups))
ends_low groups i = drafts_low 8 (map draft_of (take i groups))

-- the cause for which nothing is written
pub refused_empty : (groups : List Group) → (length groups == 0) ≡ true → Some NoDirectory ≡ write_fault groups
unfolding write_fault
refused_empty [] h = refl
refused_empty (x ∷ groups) h = absurd (omega (arith, eqb-true (length (x ∷ groups)) 0 h))

-- groups whose number is not 0 are at least one
pub some_groups : (groups : List Group) → (length groups == 0) ≡ false → 0 < length groups
some_groups [] h = absurd cc
some_groups (x ∷ groups) h = omega arith

by_first : (groups : List Group) (cause : Option WriteFault) → 0 < length groups → first_group_fault groups ≡ cause
    → write_fault groups ≡ (let r : Option WriteFault = elim cause [ Some c ↦ Some c | None ↦ if nat_lt 4294967295 (drafts_end 8 (map draft_of groups)) then Some OffsetTooLarge else None ] in r)
unfolding write_fault
by_first [] cause h e = absurd (omega arith)
by_first (x ∷ groups) cause h e = rw (e, write_fault) refl

some_same : (groups : List Group) (cause : Option WriteFault) → is_some cause ≡ true
    → cause ≡ (let r : Option WriteFault = elim cause [ Some c ↦ Some c | None ↦ if nat_lt 4294967295 (drafts_end 8 (map draft_of groups)) then Some OffsetTooLarge else None ] in r)
some_same groups None s = absurd cc
some_same groups (Some c) s = refl

-- where a group has a cause, the first such cause is that for which nothing is written
pub refused_first : (groups : List Group) (cause : Option WriteFault) → 0 < length groups → cause ≡ first_group_fault groups → is_some cause ≡ true → cause ≡ write_fault groups
refused_first groups cause h e s = some_same groups cause s ∙ sym (by_first groups cause h (sym e))

-- groups without a cause whose end 32 bits do not hold are refused for too large an offset
pub refused_end : (groups : List Group) (cause : Option WriteFault) → 0 < length groups → cause ≡ first_group_fault groups → is_some cause ≡ false
    → ¬ (drafts_end 8 (map draft_of groups) < 2 ^ 32) → Some OffsetTooLarge ≡ write_fault groups
refused_end groups cause h e s far =
    sym (by_first groups None h (sym e ∙ none_of cause s) ∙ rw (lt-ltb 4294967295 (drafts_end 8 (map draft_of groups)) (omega arith)) refl)

-- one group or more without a cause, whose end 32 bits hold, are not refused
pub refused_never : (groups : List Group) (cause : Option WriteFault) → 0 < length groups → cause ≡ first_group_fault groups → is_some cause ≡ false
    → drafts_end 8 (map draft_of groups) < 2 ^ 32 → None ≡ write_fault groups
refused_never groups cause h e s near =
    sym (by_first groups None h (sym e ∙ none_of cause s) ∙ rw (le-ltb 4294967295 (drafts_end 8 (map draft_of groups)) (omega arith)) refl)

-- where the next directory is
pub next_is : (end : ℕ) (groups : List Group) (i : ℕ) (last : Bool) → last ≡ (i + 1 == length groups) → i < length groups
    → next_of end last ≡ next_offset end (map draft_of (drop (i + 1) groups))
next_is end groups i true e h =
    let all = eqb-true (i + 1) (length groups) (sym e) in
    sym (ap (λ r. next_offset end (map draft_of r)) (drop_all (i + 1) groups (omega arith)))
next_is end groups i false e h =
    let d : Group = get_or groups (i + 1) empty_group in
    let more = eqb-false (i + 1) (length groups) (sym e) in
    sym (ap (λ r. next_offset end (map draft_of r)) (drop_more groups (i + 1) empty_group (omega arith)))

-- it is before the end of the image
pub next_within : (groups : List Group) (i : ℕ) → i < length groups → even (drafts_end 8 (map draft_of (take i groups))) ≤ drafts_end 8 (map draft_of groups)
next_within groups i h =
    let x : Group = get_or groups i empty_group in
    let start : ℕ = drafts_end 8 (map draft_of (take i groups)) in
    let at = tiff_is (draft_of x) start in
    let high = (offsets_within (draft_of x) start).in_tiff.high in
    let within = ends_within 8 groups i x empty_group h refl in
    omega arith

-- one plan more
module _ (groups : List Group) (i : ℕ) (x d : Group) (start : ℕ) (plans : List Plan) (h : i < length groups) (e : x ≡ get_or groups i d)
    (so : (more : List Plan) → ArePlans start (map draft_of (drop i groups)) more → ArePlans 8 (map draft_of groups) (plans ++ more)) where
  -- with the plan of one more group put behind, only the plans of the groups after it are missing
  pub plans_more : (plan : Plan) (next end : ℕ) (new : List Plan) → IsSettledPlan (draft_of x) start next plan → end ≡ draft_end (draft_of x) start
      → next ≡ next_offset (draft_end (draft_of x) start) (map draft_of (drop (i + 1) groups)) → new ≡ plans ++ plan ∷ []
      → (more : List Plan) → ArePlans end (map draft_of (drop (i + 1) groups)) more → ArePlans 8 (map draft_of groups) (new ++ more)
  plans_more plan next end new is k n p more rest =
      let split : map draft_of (drop i groups) ≡ draft_of x ∷ map draft_of (drop (i + 1) groups) =
      ap (map draft_of) (drop_more groups i d h ∙ ap (λ y. y ∷ drop (i + 1) groups) (sym e)) in
      let A : List Draft → Type 0 = λ drafts. ArePlans start drafts (plan ∷ more) in
      let B : ℕ → Type 0 = λ m. IsSettledPlan (draft_of x) start m plan in
      let C : ℕ → Type 0 = λ m. ArePlans m (map draft_of (drop (i + 1) groups)) more in
      let D : List Plan → Type 0 = ArePlans 8 (map draft_of groups) in
      let same : plans ++ (plan ∷ more) ≡ new ++ more = sym (append_assoc plans (plan ∷ []) more) ∙ ap (λ r. r ++ more) (sym p) in
      subst D same (so (plan ∷ more) (subst A (sym split) (subst B n is, subst C k rest)))

-- all plans
pub plans_done : (groups : List Group) (i start : ℕ) (plans : List Plan) → length groups ≤ i
    → ((more : List Plan) → ArePlans start (map draft_of (drop i groups)) more → ArePlans 8 (map draft_of groups) (plans ++ more)) → ArePlans 8 (map draft_of groups) plans
plans_done groups i start plans h so =
    let none : drop i groups ≡ [] = drop_all i groups h in
    let A : List Group → Type 0 = λ gs. ArePlans start (map draft_of gs) [] in
    let D : List Plan → Type 0 = ArePlans 8 (map draft_of groups) in
    subst D (append-nil plans) (so [] (subst A (sym none) tt))

-- groups that are written: no cause, and an end that 32 bits hold
none_first : (cause : Option WriteFault) (rest : Option WriteFault) → (let r : Option WriteFault = elim cause [ Some c ↦ Some c | None ↦ rest ] in r) ≡ None → cause ≡ None
none_first None rest h = refl
none_first (Some c) rest h = absurd cc

-- of groups that are written, none has a cause
pub written_clean : (groups : List Group) → write_fault groups ≡ None → first_group_fault groups ≡ None
unfolding write_fault
written_clean [] h = absurd cc
written_clean (x ∷ groups) h = none_first (first_group_fault (x ∷ groups)) _ h

-- where groups are written, 32 bits hold the end of each of them
pub written_within : (groups : List Group) (i start : ℕ) (x d : Group) → write_fault groups ≡ None → i < length groups → x ≡ get_or groups i d
    → start ≡ drafts_end 8 (map draft_of (take i groups)) → draft_end (draft_of x) start < 2 ^ 32
written_within groups i start x d h k e s =
    let small = (not_refused groups h).small in
    let within = ends_within 8 groups i x d k e in
    let same = ap (draft_end (draft_of x)) s in
    omega arith

-- each group can be planned where the one before it ends
pub has_room : (groups : List Group) (i start : ℕ) (x d : Group) (last : Bool) → write_fault groups ≡ None → last ≡ (i + 1 == length groups) → i < length groups → x ≡ get_or groups i d
    → start ≡ drafts_end 8 (map draft_of (take i groups)) → HasRoom x start last
has_room groups i start x d last h e k at s =
    record { fault = fault_at groups i x d (written_clean groups h) k at; end = written_within groups i start x d h k at s; next = next_room last e }
  where
    next_room : (l : Bool) → l ≡ (i + 1 == length groups) → next_of (draft_end (draft_of x) start) l < 2 ^ 32
    next_room true e = omega arith
    next_room false e =
        let more = eqb-false (i + 1) (length groups) (sym e) in
        let end = ends_more 8 groups i x d k at in
        let same = ap (draft_end (draft_of x)) s in
        let within = next_within groups (i + 1) (omega arith) in
        let small = (not_refused groups h).small in
        omega arith
