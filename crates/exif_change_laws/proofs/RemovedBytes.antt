-- Where reading looks at no byte as two things, taking entries out changes no byte of what is left,
-- and the directories without them are where they were.
use Rattle.std.proofs.Common.{◌≡◌, ◌≢◌, ◌≤◌, ◌<◌, ◌+◌, ◌-◌, ◌*◌, ◌==◌, min, ℕ, Bool, true, false, if◌then◌else◌, List, [], ◌∷◌, ◌++◌, length, map, inl, inr, refl, sym, ap, subst, ◌∙◌, arith}
use Rattle.std.specs.Prelude.{◌&&◌, ◌||◌, nat_le, nat_lt}
use Rattle.std.specs.List.{flat_map, list_any, AllByRecursion}
use Rattle.std.proofs.lemmas.Bool.{false≢true}
use Rattle.std.proofs.lemmas.Bool.Decides.{nat_tests}
use Rattle.exif_base.specs.Bytes.{Reading, number_at}
use Rattle.exif_base.specs.Orders.{number_of}
use Rattle.exif_base.specs.declared.endian.Order.{Order}
use Rattle.exif_text.specs.FieldTypes.{type_of, known_length}
use Rattle.exif_tiff.specs.Footprint.{Agree, Stretch, directory_stretch, looked_at, value_stretch}
use Rattle.exif_tiff.specs.Trace.{entry_offsets, whole_entries}
use Rattle.exif_tiff.proofs.Agreement.{bytes_same}
use Rattle.exif_tiff.proofs.ApartLists.{AreApart, EachApart, IsApart, all_weaker}
use Rattle.exif_tiff.proofs.Footprints.{all_flat}
use Rattle.exif_tiff.proofs.Members.{all_append, all_left, all_right}
use Rattle.exif_edit_base.specs.Patches.{inside, patched}
use Rattle.exif_edit_base.specs.declared.patch.Span.{Span}
use Rattle.exif_edit_base.proofs.PatchSteps.{length-patched}
use Rattle.exif_edit_base.specs.Spans.{nowhere, value_span, within}
use Rattle.exif_edit.specs.Erasing.{directory_span}
use Rattle.exif_edit.specs.Removing.{entries_with, has_tag, named_spans, named_values, removals, taken_spans}
use Rattle.exif_edit.proofs.RemoveSound.{removals_fit, stays_outside}
use Rattle.exif_change_laws.proofs.RemovedLists.{all_members, each_flat, each_turned, filter_all, filter_member, has, member_all, piece, pieces}

-- a byte of a stretch
abbrev pub IsIn : ℕ → Stretch → Type 0
IsIn i t = (t.offset ≤ i) × (i < t.offset + t.len)

nothing_inside : (i : ℕ) → inside i nowhere ≡ false
nothing_inside i =
    let none : nat_lt i (0 + 0) ≡ false = grind (arith, nat_tests) in
    let low : nat_le 0 i ≡ true = grind (arith, nat_tests) in
    rw (none, low) refl

-- what lies apart from a stretch is not inside it
not_inside : (offset len more i : ℕ) (t : Stretch) → len ≤ more → IsIn i t
    → IsApart t (record { offset = offset; len = more })
    → inside i (record { offset = offset; len = len }) ≡ false
not_inside offset len more i t h in' apart =
    by_tests (nat_le offset i) (nat_lt i (offset + len)) refl refl in'.0 in'.1 apart
  where
    by_tests : (x y : Bool) → nat_le offset i ≡ x → nat_lt i (offset + len) ≡ y → t.offset ≤ i
        → i < t.offset + t.len → IsApart t (record { offset = offset; len = more }) → (x && y) ≡ false
    by_tests false y p q low high a = refl
    by_tests true false p q low high a = refl
    by_tests true true p q low high (inl a) = absurd (grind (arith, nat_tests))
    by_tests true true p q low high (inr a) = absurd (grind (arith, nat_tests))

module _ (number : Reading) (a : List ℕ) where
  -- a byte of a stretch that is apart from a directory is not in the directory's span
  pub outside_directory : (q i : ℕ) (t : Stretch) → IsIn i t → IsApart t (directory_stretch number a q)
      → inside i (directory_span number a q) ≡ false
  outside_directory q i t in' apart = by_test (nat_le q (length a))
    where
      long : ℕ
      long = 2 + 12 * whole_entries number a q + 4

      by_test : (b : Bool)
          → inside i (if b then record { offset = q; len = min long (length a - q) } else nowhere)
          ≡ false
      by_test true = not_inside q (min long (length a - q)) long i t (omega arith) in' apart
      by_test false = nothing_inside i

  outside_value : (e i : ℕ) (t : Stretch) → IsIn i t
      → AllByRecursion (IsApart t) (value_stretch number a e)
      → inside i (value_span number a e) ≡ false
  outside_value e i t in' apart =
      by_tests (nat_le size 4) (nat_lt 4 size) (nat_le (offset + size) (length a)) refl refl refl apart
    where
      size : ℕ
      size = known_length (type_of (number_at number 2 a (e + 2))) * number_at number 4 a (e + 4)

      offset : ℕ
      offset = number_at number 4 a (e + 8)

      small : (b : Bool) → inside i (if b then record { offset = 0; len = 0 } else nowhere) ≡ false
      small true = nothing_inside i
      small false = nothing_inside i

      by_tests : (s l r : Bool) → nat_le size 4 ≡ s → nat_lt 4 size ≡ l
          → nat_le (offset + size) (length a) ≡ r
          → AllByRecursion (IsApart t)
          (if l && r then record { offset = offset; len = size } ∷ [] else [])
          → inside i (within (length a)
          (if s then record { offset = 0; len = 0 } else record { offset = offset; len = size })) ≡ false
      by_tests true l r p q u apart = small (nat_le (0 + 0) (length a))
      by_tests false false r p q u apart = absurd (grind (arith, nat_tests))
      by_tests false true false p q u apart = rw u (nothing_inside i)
      by_tests false true true p q u apart = rw u (not_inside offset size size i t (omega arith) in' apart.0)

  -- the directory at q, and the values of its entries that have a tag
  abbrev pub changed : ℕ → ℕ → List Stretch
  changed n q =
      directory_stretch number a q ∷ flat_map (value_stretch number a) (entries_with number a n q)

  any_append : (i : ℕ) (xs ys : List Span) → list_any (inside i) xs ≡ false
      → list_any (inside i) ys ≡ false → list_any (inside i) (xs ++ ys) ≡ false
  any_append i [] ys h k = k
  any_append i (x ∷ xs) ys h k =
      by_test (inside i x) (λ r. any_append i xs ys r k) h
    where
      by_test : (b : Bool) → (list_any (inside i) xs ≡ false → list_any (inside i) (xs ++ ys) ≡ false)
          → (b || list_any (inside i) xs) ≡ false → (b || list_any (inside i) (xs ++ ys)) ≡ false
      by_test true r h = h
      by_test false r h = r h

  values_missed : (i : ℕ) (t : Stretch) → IsIn i t → (es : List ℕ)
      → AllByRecursion (IsApart t) (flat_map (value_stretch number a) es)
      → list_any (inside i) (map (value_span number a) es) ≡ false
  values_missed i t in' [] h = refl
  values_missed i t in' (e ∷ es) h =
      let one = outside_value e i t in'
      (all_left (IsApart t) (value_stretch number a e) (flat_map (value_stretch number a) es) h) in
      let rest = values_missed i t in' es
      (all_right (IsApart t) (value_stretch number a e) (flat_map (value_stretch number a) es) h) in
      rw (one, rest) refl

  -- a byte of a stretch that is apart from the values of a tag is in no span of those
  pub named_missed : (n i : ℕ) (t : Stretch) → IsIn i t → (qs : List ℕ)
      → AllByRecursion (IsApart t) (flat_map (λ q. flat_map (value_stretch number a) (entries_with number a n q)) qs)
      → list_any (inside i) (named_values number a n qs) ≡ false
  named_missed n i t in' [] h = refl
  named_missed n i t in' (q ∷ qs) h =
      let mine = flat_map (value_stretch number a) (entries_with number a n q) in
      let others = flat_map (λ x. flat_map (value_stretch number a) (entries_with number a n x)) qs in
      any_append i (taken_spans number a n q) (named_values number a n qs)
      (values_missed i t in' (entries_with number a n q) (all_left (IsApart t) mine others h))
      (named_missed n i t in' qs (all_right (IsApart t) mine others h))

  directories_missed : (n i : ℕ) (t : Stretch) → IsIn i t → (qs : List ℕ)
      → AllByRecursion (IsApart t) (flat_map (changed n) qs)
      → list_any (inside i) (map (directory_span number a) qs) ≡ false
  directories_missed n i t in' [] h = refl
  directories_missed n i t in' (q ∷ qs) h =
      let one = outside_directory q i t in' h.0 in
      let rest = directories_missed n i t in' qs
      (all_right (IsApart t) (changed n q) (flat_map (changed n) qs) h) in
      rw (one, rest) refl

  values_alone : (n : ℕ) (t : Stretch) (qs : List ℕ)
      → AllByRecursion (IsApart t) (flat_map (changed n) qs)
      → AllByRecursion (IsApart t)
      (flat_map (λ q. flat_map (value_stretch number a) (entries_with number a n q)) qs)
  values_alone n t [] h = tt
  values_alone n t (q ∷ qs) h =
      let mine = flat_map (value_stretch number a) (entries_with number a n q) in
      all_append (IsApart t) mine
      (flat_map (λ x. flat_map (value_stretch number a) (entries_with number a n x)) qs)
      (all_left (IsApart t) mine (flat_map (changed n) qs) h.1)
      (values_alone n t qs (all_right (IsApart t) mine (flat_map (changed n) qs) h.1))

  all_missed : (n i : ℕ) (t : Stretch) (qs : List ℕ) → IsIn i t
      → AllByRecursion (IsApart t) (flat_map (changed n) qs)
      → list_any (inside i) (named_spans number a n qs) ≡ false
  all_missed n i t qs in' h =
      any_append i (map (directory_span number a) qs) (named_values number a n qs)
      (directories_missed n i t in' qs h) (named_missed n i t in' qs (values_alone n t qs h))

-- ---- what stays

module _ (order : Order) (a : List ℕ) (n : ℕ) (ps : List ℕ) where
  abbrev number : Reading
  number = number_of order

  -- the data with the entries of the tag taken out of these directories
  abbrev pub made : List ℕ
  made = patched (removals order a n ps) a

  -- the data stay as long as they were
  pub as_long : length a ≡ length made
  as_long = sym (length-patched (removals order a n ps) a (removals_fit order a n ps))

  -- both agree on what lies apart from all that is changed
  pub stays : (ts : List Stretch) → EachApart ts (flat_map (changed number a n) ps)
      → AllByRecursion (Agree a made) ts
  stays [] h = tt
  stays (t ∷ ts) h = (
    bytes_same a made t.offset t.len as_long
        (λ i low high. sym (stays_outside order a n ps i
        (all_missed number a n i t ps (low, high) h.0))),
    stays ts h.1,
  )

  module _ (ds : List ℕ) (apart : AreApart (flat_map (looked_at number a) ds))
      (known : AllByRecursion (λ q. has ds q ≡ true) ps) where
    -- what is changed of a directory is part of what is looked at
    pub narrowed : (q : ℕ) (ts : List Stretch) → EachApart ts (looked_at number a q)
        → EachApart ts (changed number a n q)
    narrowed q ts h =
        all_weaker (λ t. AllByRecursion (IsApart t) (looked_at number a q))
        (λ t. AllByRecursion (IsApart t) (changed number a n q))
        (λ t k. (
          k.0,
          filter_all (IsApart t) (value_stretch number a) (has_tag number a n)
              (entry_offsets number a q) k.1,
        )) ts h

    -- what is looked at of one directory is apart from what is changed of another one
    pub other : (p q : ℕ) → has ds p ≡ true → has ds q ≡ true → p ≢ q
        → EachApart (looked_at number a p) (changed number a n q)
    other p q m l ne =
        narrowed q (looked_at number a p) (pieces (looked_at number a) ds p q apart m l ne)

    -- a directory from which nothing is taken stays, and its values do
    pub directory_stays : (p : ℕ) → has ds p ≡ true → has ps p ≡ false
        → AllByRecursion (Agree a made) (looked_at number a p)
    directory_stays p m out =
        stays (looked_at number a p)
        (each_flat (looked_at number a p) (changed number a n) ps
        (all_members (λ q. EachApart (looked_at number a p) (changed number a n q)) ps
        (λ q l. other p q m (member_all (λ x. has ds x ≡ true) ps q known l) (unlike q l))))
      where
        unlike : (q : ℕ) → has ps q ≡ true → p ≢ q
        unlike q l e = false≢true (sym out ∙ (ap (has ps) e ∙ l))

    -- the value of an entry
    value_row : (e p : ℕ) → has (entry_offsets number a p) e ≡ true → (ts : List Stretch)
        → EachApart (looked_at number a p) ts → EachApart (value_stretch number a e) ts
    value_row e p m ts h =
        member_all (λ x. EachApart (value_stretch number a x) ts) (entry_offsets number a p) e
        (all_flat (λ s. AllByRecursion (IsApart s) ts) (value_stretch number a) (entry_offsets number a p)
        h.1) m

    own_value : (e p : ℕ) → has ds p ≡ true → has (entry_offsets number a p) e ≡ true
        → has_tag number a n e ≡ false
        → EachApart (value_stretch number a e) (changed number a n p)
    own_value e p m l other' =
        let mine = piece (looked_at number a) ds p apart m in
        let here = all_flat (IsApart (directory_stretch number a p)) (value_stretch number a)
        (entry_offsets number a p) mine.0 in
        let dir : EachApart (directory_stretch number a p ∷ []) (value_stretch number a e) = (
          member_all (λ x. AllByRecursion (IsApart (directory_stretch number a p)) (value_stretch number a x))
              (entry_offsets number a p) e here l,
          tt,
        ) in
        beside (value_stretch number a e)
        (each_turned (directory_stretch number a p ∷ []) (value_stretch number a e) dir)
        (each_flat (value_stretch number a e) (value_stretch number a) (entries_with number a n p)
        (all_members (λ x. EachApart (value_stretch number a e) (value_stretch number a x))
        (entries_with number a n p) (λ x k. single x k mine.1)))
      where
        single : (x : ℕ) → has (entries_with number a n p) x ≡ true
            → AreApart (flat_map (value_stretch number a) (entry_offsets number a p))
            → EachApart (value_stretch number a e) (value_stretch number a x)
        single x k h =
            let f = filter_member (has_tag number a n) (entry_offsets number a p) x k in
            pieces (value_stretch number a) (entry_offsets number a p) e x h l f.0
            (λ s. false≢true (sym other' ∙ (ap (has_tag number a n) s ∙ f.1)))

        beside : (ss : List Stretch) → EachApart ss (directory_stretch number a p ∷ [])
            → EachApart ss (flat_map (value_stretch number a) (entries_with number a n p))
            → EachApart ss (changed number a n p)
        beside [] x y = tt
        beside (s ∷ ss) x y = ((x.0.0, y.0), beside ss x.1 y.1)

    -- the value of an entry that is not taken out stays as it was
    pub value_stays : (e p : ℕ) → has ds p ≡ true → has (entry_offsets number a p) e ≡ true
        → (has ps p && has_tag number a n e) ≡ false
        → AllByRecursion (Agree a made) (value_stretch number a e)
    value_stays e p m l left =
        stays (value_stretch number a e)
        (each_flat (value_stretch number a e) (changed number a n) ps
        (all_members (λ q. EachApart (value_stretch number a e) (changed number a n q)) ps
        (λ q k. by_test q (p == q) refl k)))
      where
        mine : (q : ℕ) → p ≡ q → has ps q ≡ true → has_tag number a n e ≡ false
        mine q s k = ap (λ t. t && has_tag number a n e) (sym (ap (has ps) s ∙ k)) ∙ left

        by_test : (q : ℕ) (t : Bool) → (p == q) ≡ t → has ps q ≡ true
            → EachApart (value_stretch number a e) (changed number a n q)
        by_test q true s k =
            let same : p ≡ q = grind (arith, nat_tests) in
            subst (λ x. EachApart (value_stretch number a e) (changed number a n x)) same
            (own_value e p m l (mine q same k))
        by_test q false s k =
            value_row e p l (changed number a n q)
            (other p q m (member_all (λ x. has ds x ≡ true) ps q known k) (unlike s))
          where
            unlike : (p == q) ≡ false → p ≢ q
            unlike s same = absurd (grind (arith, nat_tests))
