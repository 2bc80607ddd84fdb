-- What the entries of an index say of the last field of a name.
use Rattle.std.proofs.Common.{◌≡◌, ℕ, ◌+◌, ◌*◌, ◌-◌, ◌^◌, ◌<◌, ◌≤◌, Bool, true, false, ◌&&◌, ◌==◌, List, [], ◌∷◌, ◌++◌, length, get_or, zero, suc, cond, Bor, Option, Some, None, refl, ap, sym, subst, ◌∙◌, arith}
use Rattle.std.specs.Prelude.{All, find, reverse, slice_get, MatchOption}
use Rattle.std.specs.List.{Contains, HoldsAt}
use Rattle.std.specs.Option.{option_copied}
use Rattle.std.proofs.lemmas.Bool.{false_from_ne_true}
use Rattle.std.proofs.lemmas.Bool.Decides.{nat_tests}
use Rattle.std.proofs.lemmas.List.{reverse-append, get_or_default}
use Rattle.std.proofs.lemmas.List.Sorted.{Contains-permutation, All-permutation}
use Rattle.std.proofs.lemmas.List.Elements.{All-cons, All-nil}
use Rattle.std.proofs.Math.Nat.{lt_of_not-le}
use Rattle.std.proofs.lemmas.Option.{slice_get_within, slice_get_past, slice_get_read, get_or_from_slice_get}
use Rattle.exif_table.specs.declared.context.Context.{Context}
use Rattle.exif_table.specs.declared.context.Context.TheVariants.{Tiff, Exif, Gps, Interop}
use Rattle.exif_table.specs.Contexts.{context_rank}
use Rattle.exif_text.specs.declared.ifd.In.{In}
use Rattle.exif_types.specs.declared.tag.Tag.{Tag}
use Rattle.exif_types.specs.declared.field.Field.{Field}
use Rattle.exif_types.specs.declared.index.FieldIndex.{FieldIndex}
use Rattle.exif_types.specs.Lookup.{context_eq, is_named, last_named}
use Rattle.exif_types.specs.Located.{EndsUpTo, Indexes, greatest_of, key_of, entry_of, entries_from}
use Rattle.exif_types.proofs.LawsLemmas.{named_Decides, or_else, find_one_more}

-- ---- keys

rank_small : (c : Context) → context_rank c < 4
rank_small Tiff = omega arith
rank_small Exif = omega arith
rank_small Gps = omega arith
rank_small Interop = omega arith

rank_is_own : (c d : Context) → context_rank c ≡ context_rank d → context_eq c d ≡ true
rank_is_own Tiff Tiff e = refl
rank_is_own Tiff Exif e = absurd (omega (arith, e))
rank_is_own Tiff Gps e = absurd (omega (arith, e))
rank_is_own Tiff Interop e = absurd (omega (arith, e))
rank_is_own Exif Tiff e = absurd (omega (arith, e))
rank_is_own Exif Exif e = refl
rank_is_own Exif Gps e = absurd (omega (arith, e))
rank_is_own Exif Interop e = absurd (omega (arith, e))
rank_is_own Gps Tiff e = absurd (omega (arith, e))
rank_is_own Gps Exif e = absurd (omega (arith, e))
rank_is_own Gps Gps e = refl
rank_is_own Gps Interop e = absurd (omega (arith, e))
rank_is_own Interop Tiff e = absurd (omega (arith, e))
rank_is_own Interop Exif e = absurd (omega (arith, e))
rank_is_own Interop Gps e = absurd (omega (arith, e))
rank_is_own Interop Interop e = refl

-- the parts of equal keys
parts : (i j r s n m : ℕ) → r < 4 → s < 4 → n < 2 ^ 16 → m < 2 ^ 16
    → (i * 4 + r) * 2 ^ 16 + n ≡ (j * 4 + s) * 2 ^ 16 + m → (n ≡ m) × (r ≡ s) × (i ≡ j)
parts i j r s n m hr hs hn hm e = (omega arith, omega arith, omega arith)

three : (a b c : Bool) → a ≡ true → b ≡ true → c ≡ true → ((a && b) && c) ≡ true
three a b c p q r = rw (p, q, r) refl

-- a field has a name exactly where it has its key
named_has_key : (tag : Tag) (ifd_num : In) (f : Field) → is_named tag ifd_num f ≡ true → key_of f.tag f.ifd_num ≡ key_of tag ifd_num
named_has_key tag ifd_num f h = let d = (named_Decides tag ifd_num f).0 h in rw (d.0, d.1) refl

key_has_name : (tag : Tag) (ifd_num : In) (f : Field) → f.tag.1 < 2 ^ 16 → tag.1 < 2 ^ 16
    → key_of f.tag f.ifd_num ≡ key_of tag ifd_num → is_named tag ifd_num f ≡ true
key_has_name tag ifd_num f hf ht e =
    let p = parts f.ifd_num.0 ifd_num.0 (context_rank f.tag.0) (context_rank tag.0) f.tag.1 tag.1 (rank_small f.tag.0) (rank_small tag.0) hf ht e in
    three (context_eq f.tag.0 tag.0) (f.tag.1 == tag.1) (f.ifd_num.0 == ifd_num.0)
    (rank_is_own f.tag.0 tag.0 p.1) (grind (arith, nat_tests, p.0)) (grind (arith, nat_tests, p.2))

-- ---- the last of a name

last_cons : {X : Type 0} (p : X → Bool) (x : X) (xs : List X)
    → find p (reverse (x ∷ xs)) ≡ or_else (find p (reverse xs)) (cond (p x) (Some x) None)
last_cons p x xs = ap (find p) (reverse-append (x ∷ []) xs) ∙ find_one_more p (reverse xs) x

-- none of the list from a position on passes the test
abbrev NoneFrom : {X : Type 0} → (X → Bool) → ℕ → List X → Type 0
NoneFrom {X} p i xs = (j : ℕ) (x : X) → i ≤ j → slice_get xs j ≡ Some x → p x ≡ true → ⊥

none_passes : {X : Type 0} (p : X → Bool) (xs : List X) → NoneFrom p 0 xs → find p (reverse xs) ≡ None
none_passes p [] h = refl
none_passes p (x ∷ xs) h =
    let e : p x ≡ false = false_from_ne_true (p x) (h 0 x (omega arith) refl) in
    let t : find p (reverse xs) ≡ None = none_passes p xs (λ j y _ g n. h (suc j) y (omega arith) g n) in
    last_cons p x xs ∙ rw (t, e) refl

last_passes : {X : Type 0} (p : X → Bool) (xs : List X) (i : ℕ) (x : X) → slice_get xs i ≡ Some x → p x ≡ true → NoneFrom p (i + 1) xs
    → find p (reverse xs) ≡ Some x
last_passes p [] i x e h n = let w = slice_get_within [] i x e in absurd (omega (arith, w))
last_passes p (y ∷ xs) zero x e h n =
    let s : y ≡ x = cc in
    let t : find p (reverse xs) ≡ None = none_passes p xs (λ j z _ g k. n (suc j) z (omega arith) g k) in
    let q : p y ≡ true = rw s h in
    last_cons p y xs ∙ rw (t, q, s) refl
last_passes p (y ∷ xs) (suc i) x e h n =
    let t : find p (reverse xs) ≡ Some x = last_passes p xs i x e h (λ j z b g k. n (suc j) z (omega arith) g k) in
    last_cons p y xs ∙ rw t refl

-- ---- entries

-- the number is the entry of a field of the list, of which the first is at a position
abbrev IsEntryFrom : ℕ → List Field → ℕ → Type 0
IsEntryFrom p fs e = (j : ℕ) × (f : Field) × (slice_get fs j ≡ Some f) × (e ≡ entry_of (key_of f.tag f.ifd_num) (p + j))

entries_more : (p : ℕ) (fs : List Field) (f : Field)
    → entries_from p (fs ++ f ∷ []) ≡ entries_from p fs ++ entry_of (key_of f.tag f.ifd_num) (p + length fs) ∷ []
entries_more p [] f =
    let e : p ≡ p + 0 = omega arith in ap (λ n. entry_of (key_of f.tag f.ifd_num) n ∷ []) e
entries_more p (g ∷ fs) f =
    let e : p + 1 + length fs ≡ p + length (g ∷ fs) = omega arith in
    ap (λ t. entry_of (key_of g.tag g.ifd_num) p ∷ t)
    (entries_more (p + 1) fs f ∙ ap (λ n. entries_from (p + 1) fs ++ entry_of (key_of f.tag f.ifd_num) n ∷ []) e)

-- the entries of one field more
pub entries_push : (fs : List Field) (f : Field) → entries_from 0 (fs ++ f ∷ []) ≡ entries_from 0 fs ++ entry_of (key_of f.tag f.ifd_num) (length fs) ∷ []
entries_push fs f =
    let e : 0 + length fs ≡ length fs = omega arith in
    entries_more 0 fs f ∙ ap (λ n. entries_from 0 fs ++ entry_of (key_of f.tag f.ifd_num) n ∷ []) e

-- each field has its entry
entry_stands : (p : ℕ) (fs : List Field) (j : ℕ) (f : Field) → slice_get fs j ≡ Some f
    → Contains (entries_from p fs) (entry_of (key_of f.tag f.ifd_num) (p + j))
entry_stands p [] j f h = let w = slice_get_within [] j f h in absurd (omega (arith, w))
entry_stands p (g ∷ fs) zero f h =
    let s : g ≡ f = cc in
    let e : p ≡ p + 0 = omega arith in
    (0, omega arith, rw s (ap (entry_of (key_of f.tag f.ifd_num)) e))
entry_stands p (g ∷ fs) (suc j) f h =
    let r = entry_stands (p + 1) fs j f h in
    let K = key_of f.tag f.ifd_num in
    let e : p + 1 + j ≡ p + suc j = omega arith in
    (suc r.0, omega (arith, r.1), subst (λ n. get_or (entries_from (p + 1) fs) r.0 (entry_of K n) ≡ entry_of K n) e r.2)

-- and there are no others
only_entries : (p : ℕ) (fs : List Field) → All (IsEntryFrom p fs) (entries_from p fs)
only_entries p [] = All-nil (IsEntryFrom p [])
only_entries p (g ∷ fs) =
    let K = key_of g.tag g.ifd_num in
    let z : p ≡ p + 0 = omega arith in
    All-cons (IsEntryFrom p (g ∷ fs)) (entry_of K p) (entries_from (p + 1) fs) (0, g, refl, ap (entry_of K) z)
    (λ k d lt.
    let r = only_entries (p + 1) fs k d lt in
    let e : p + 1 + r.0 ≡ p + suc r.0 = omega arith in
    (suc r.0, r.1, r.2, r.3 ∙ ap (entry_of (key_of r.1.tag r.1.ifd_num)) e))

-- ---- the search

-- the parts of an entry that is up to the greatest of a key, and no less than its least
one_key : (k key j position last : ℕ) → j < 2 ^ 43 → last ≡ entry_of k (0 + j) → last ≡ entry_of key 0 + position → last ≤ entry_of key (2 ^ 43 - 1)
    → (k ≡ key) × (j ≡ position)
one_key k key j position last small a b c = (omega (arith, small, a, b, c), omega (arith, small, a, b, c))

-- what a search in an index knows
abbrev pub Searched : FieldIndex → List Field → Tag → In → ℕ → Type 0
Searched index fields tag ifd_num end =
    Indexes index fields × (tag.1 < 2 ^ 16) × (end ≤ length index.entries.items) × EndsUpTo (greatest_of (key_of tag ifd_num)) index.entries.items end

-- a search for a key that is the name's knows what one for the name does
pub searched : (index : FieldIndex) (fields : List Field) (tag : Tag) (ifd_num : In) (key end : ℕ) → Indexes index fields → key ≡ key_of tag ifd_num
    → tag.1 < 2 ^ 16 → end ≤ length index.entries.items → EndsUpTo (greatest_of key) index.entries.items end → Searched index fields tag ifd_num end
searched index fields tag ifd_num key end i e n w p = (i, n, w, rw e at p)

-- the entry of a field of the name is before the end
named_stands : (index : FieldIndex) (fields : List Field) (tag : Tag) (ifd_num : In) (end : ℕ) → Searched index fields tag ifd_num end
    → (j : ℕ) (f : Field) → slice_get fields j ≡ Some f → is_named tag ifd_num f ≡ true
    → (k : ℕ) × (k < end) × ((d : ℕ) → get_or index.entries.items k d ≡ entry_of (key_of tag ifd_num) j)
named_stands index fields tag ifd_num end s j f h n =
    let xs = index.entries.items in
    let e = entry_of (key_of tag ifd_num) j in
    let z : 0 + j ≡ j = omega arith in
    let a : Contains (entries_from 0 fields) e =
    subst (λ K. Contains (entries_from 0 fields) (entry_of K j)) (named_has_key tag ifd_num f n)
    (subst (λ i. Contains (entries_from 0 fields) (entry_of (key_of f.tag f.ifd_num) i)) z (entry_stands 0 fields j f h)) in
    let c : Contains xs e = Contains-permutation (entries_from 0 fields) xs e s.0.entries a in
    let small : e ≤ greatest_of (key_of tag ifd_num) =
    let w = slice_get_within fields j f h in let v = s.0.positions in omega (arith, w, v) in
    let before : c.0 < end =
    lt_of_not-le (λ b. let above = rw c.2 at (s.3.1 c.0 e b c.1) in absurd (omega (arith, above, small))) in
    (c.0, before, λ d. get_or_default xs c.0 d e c.1 ∙ c.2)

-- no field is in a directory behind the first eight
pub none_behind : (index : FieldIndex) (fields : List Field) (tag : Tag) (ifd_num : In) → Indexes index fields → 8 ≤ ifd_num.0
    → last_named fields tag ifd_num ≡ None
none_behind index fields tag ifd_num i h =
    none_passes (is_named tag ifd_num) fields
    (λ j f _ g n.
    let w = slice_get_within fields j f g in
    let low : f.ifd_num.0 < 8 = rw (get_or_from_slice_get fields j f f g) at (i.directories j f w) in
    let same = (named_Decides tag ifd_num f).0 n in
    let e : f.ifd_num.0 ≡ ifd_num.0 = ap (λ x. x.0) same.1 in
    absurd (omega (arith, low, e, h)))

-- no entry is up to the greatest
pub none_ends : (index : FieldIndex) (fields : List Field) (tag : Tag) (ifd_num : In) (end : ℕ) → Searched index fields tag ifd_num end
    → end < 1 → last_named fields tag ifd_num ≡ None
none_ends index fields tag ifd_num end s low =
    none_passes (is_named tag ifd_num) fields
    (λ j f _ h n. let r = named_stands index fields tag ifd_num end s j f h n in absurd (omega (arith, r.1, low)))

-- a field of the name has an entry that is no greater than the last before the end
named_up_to : (index : FieldIndex) (fields : List Field) (tag : Tag) (ifd_num : In) (end last : ℕ) → Searched index fields tag ifd_num end
    → get_or index.entries.items (end - 1) last ≡ last → (j : ℕ) (f : Field) → slice_get fields j ≡ Some f → is_named tag ifd_num f ≡ true
    → entry_of (key_of tag ifd_num) j ≤ last
named_up_to index fields tag ifd_num end last s l j f h n =
    let r = named_stands index fields tag ifd_num end s j f h n in
    let up = s.0.ascending r.0 (end - 1) last (omega (arith, r.1)) (omega (arith, r.1, s.2)) in
    let a = r.2 last in
    omega (arith, up, a, l)

-- the last entry before the end is of a lesser key
pub none_reaches : (index : FieldIndex) (fields : List Field) (tag : Tag) (ifd_num : In) (end last : ℕ) → Searched index fields tag ifd_num end
    → get_or index.entries.items (end - 1) last ≡ last → last < entry_of (key_of tag ifd_num) 0 → last_named fields tag ifd_num ≡ None
none_reaches index fields tag ifd_num end last s l low =
    none_passes (is_named tag ifd_num) fields
    (λ j f _ h n. let r = named_up_to index fields tag ifd_num end last s l j f h n in absurd (omega (arith, r, low)))

-- the last entry before the end is up to the greatest
pub last_small : (index : FieldIndex) (fields : List Field) (tag : Tag) (ifd_num : In) (end last : ℕ) → Searched index fields tag ifd_num end
    → get_or index.entries.items (end - 1) last ≡ last → 0 < end → last ≤ greatest_of (key_of tag ifd_num)
last_small index fields tag ifd_num end last s l some =
    rw l at (s.3.0 (end - 1) last (omega arith) (omega (arith, some)))

-- the last entry before the end is of the key, and its position is that of the last field of the name
pub last_found : (index : FieldIndex) (fields : List Field) (tag : Tag) (ifd_num : In) (end last position : ℕ) → Searched index fields tag ifd_num end
    → get_or index.entries.items (end - 1) last ≡ last → 0 < end → last ≡ entry_of (key_of tag ifd_num) 0 + position
    → last_named fields tag ifd_num ≡ slice_get fields position
last_found index fields tag ifd_num end last position s l some is =
    let xs = index.entries.items in
    let all = All-permutation (IsEntryFrom 0 fields) (entries_from 0 fields) xs s.0.entries (only_entries 0 fields) in
    let e : IsEntryFrom 0 fields last = subst (IsEntryFrom 0 fields) l (all (end - 1) last (omega (arith, some, s.2))) in
    let f = e.1 in
    let w = slice_get_within fields e.0 f e.2 in
    let v = s.0.positions in
    let small = last_small index fields tag ifd_num end last s l some in
    let same = one_key (key_of f.tag f.ifd_num) (key_of tag ifd_num) e.0 position last (omega (arith, w, v)) e.3 is small in
    let number : f.tag.1 < 2 ^ 16 = rw (get_or_from_slice_get fields e.0 f f e.2) at (s.0.numbers e.0 f w) in
    let named = key_has_name tag ifd_num f number s.1 same.0 in
    let found = last_passes (is_named tag ifd_num) fields e.0 f e.2 named
    (λ j g b h n. let r = named_up_to index fields tag ifd_num end last s l j g h n in let q = same.1 in absurd (omega (arith, r, is, b, q))) in
    found ∙ (sym e.2 ∙ ap (slice_get fields) same.1)

-- what `get` gives
pub got_is : (xs : List Field) (i : ℕ) (r : Option (Bor Field)) → MatchOption r (length xs ≤ i) (λ x. (i < length xs) × HoldsAt (λ y. x.now ≡ y) xs i)
    → option_copied r ≡ slice_get xs i
got_is xs i None h = sym (slice_get_past xs i h)
got_is xs i (Some x) h = sym (slice_get_read xs (length xs) i x.now refl h.0 (h.1 x.now))
