-- Where reading looks at no byte as two things, each directory lacks what is taken out, and nothing else.
use Rattle.std.proofs.Common.{◌≡◌, ◌≤◌, ◌<◌, ◌+◌, ◌-◌, ◌*◌, ◌/◌, ◌^◌, ℕ, zero, suc, Bool, true, false, if◌then◌else◌, List, [], ◌∷◌, ◌++◌, length, drop, replicate, inl, inr, None, Result, Ok, Err, refl, sym, ap, subst, ◌∙◌, arith}
use Rattle.std.specs.Prelude.{◌&&◌, nat_lt, not}
use Rattle.std.specs.List.{flat_map, filter, AllByRecursion}
use Rattle.std.proofs.lemmas.Bool.{not-true}
use Rattle.std.proofs.lemmas.Bool.Decides.{nat_tests}
use Rattle.std.proofs.lemmas.List.{get_or-drop, length-append, replicate-append-replicate}
use Rattle.byteorder.specs.Numbers.{big_from-lt, little_from-lt}
use Rattle.exif_base.specs.Bytes.{Reading, bytes_at, number_at, spaced}
use Rattle.exif_base.specs.Orders.{number_of}
use Rattle.exif_base.specs.declared.endian.Order.{Order}
use Rattle.exif_base.specs.declared.endian.Order.TheVariants.{Big, Little}
use Rattle.exif_text.specs.declared.ifd.In.{In}
use Rattle.exif_types.specs.declared.tag.Tag.{Tag}
use Rattle.exif_tiff.specs.declared.fault.Fault.{Fault}
use Rattle.exif_tiff.specs.declared.fault.Fault.TheVariants.{TruncatedCount, TruncatedDirectory, TruncatedNextOffset}
use Rattle.exif_tiff.specs.Footprint.{Agree, looked_at, value_stretch}
use Rattle.exif_tiff.specs.Trace.{child_of, directory_end, entry_offsets, whole_entries}
use Rattle.exif_tiff.specs.Visits.{AreBytes}
use Rattle.exif_tiff.proofs.Agreement.{Same, bytes_same}
use Rattle.exif_tiff.proofs.ApartLists.{AreApart}
use Rattle.exif_tiff.proofs.Footprints.{end_same, entries_same, offsets_same}
use Rattle.exif_tiff.proofs.VisitBound.{length-spaced}
use Rattle.exif_tiff.proofs.Members.{all_passed}
use Rattle.exif_layout.specs.Encoding.{spelled}
use Rattle.exif_layout.specs.Layout.{Stands}
use Rattle.exif_layout.proofs.Images.Standing.{number_read, stands_left, stands_right, length_spelled}
use Rattle.exif_edit_base.proofs.LocatedEntries.{offsets_whole}
use Rattle.exif_edit.specs.Removing.{entries_bytes, entries_without, has_tag, next_offset_bytes}
use Rattle.exif_edit.proofs.SetSound.{length-padded}
use Rattle.exif_edit_base.proofs.PutBack.{length-bytes_at}
use Rattle.exif_change_laws.proofs.RemovedBytes.{as_long, directory_stays, made, value_stays}
use Rattle.exif_change_laws.proofs.RemovedLists.{all_members, all_pass, fewer_left, filter_member, has}
use Rattle.exif_change_laws.proofs.RemovedTexts.{encoded_is_there}
use Rattle.exif_change_laws.proofs.ShrunkNodes.{EndsBetter, Follow, Lacks, left}

-- ---- numbers of bytes

behind_bytes : (bytes : List ℕ) (p : ℕ) → AreBytes bytes → AreBytes (drop p bytes)
behind_bytes bytes p h i = rw get_or-drop (h (p + i))

number_fits : (order : Order) (n : ℕ) (bytes : List ℕ) (p : ℕ) → AreBytes bytes
    → number_at (number_of order) n bytes p < 256 ^ n
number_fits Big n bytes p h = big_from-lt 0 n (drop p bytes) (behind_bytes bytes p h)
number_fits Little n bytes p h = little_from-lt 0 n (drop p bytes) (behind_bytes bytes p h)

zero_spelled : (order : Order) → spelled order 4 0 ≡ replicate 4 0
zero_spelled Big = refl
zero_spelled Little = refl

four_zeros : (order : Order) (n more : ℕ) → n ≡ 4 + more
    → replicate n 0 ≡ spelled order 4 0 ++ replicate more 0
four_zeros order n more h =
    ap (λ x. replicate x 0) h
    ∙ (sym (replicate-append-replicate 4 more 0)
    ∙ ap (λ xs. xs ++ replicate more 0) (sym (zero_spelled order)))

-- ---- how a directory ends

module _ (number : Reading) (bytes : List ℕ) (p : ℕ) where
  abbrev count : ℕ
  count = number_at number 2 bytes p

  -- with a next offset its entries are all whole, and the offset is there
  pub record EndsAt (next : ℕ) : Type 0 where
    pub whole : whole_entries number bytes p ≡ count
    pub within : p + 2 + 12 * count + 4 ≤ length bytes
    pub offset : next ≡ number_at number 4 bytes (p + 2 + 12 * count)

  ends_at : (next : ℕ) → directory_end number bytes p ≡ Ok next → EndsAt next
  ends_at next e =
      by_tests (nat_lt (length bytes) (p + 2)) (nat_lt ((length bytes - p - 2) / 12) count)
      (nat_lt (length bytes) (p + 2 + 12 * count + 4)) refl refl e
    where
      err_ok : (fault : Fault) → ◌≡◌ {A = Result ℕ Fault} (Err fault) (Ok next) → ⊥
      err_ok fault e = cc

      ok_same : (x : ℕ) → ◌≡◌ {A = Result ℕ Fault} (Ok x) (Ok next) → next ≡ x
      ok_same x e = cc

      by_tests : (s t u : Bool) → nat_lt ((length bytes - p - 2) / 12) count ≡ t
          → nat_lt (length bytes) (p + 2 + 12 * count + 4) ≡ u
          → (if s then Err TruncatedCount else (if t then Err TruncatedDirectory else
          (if u then Err TruncatedNextOffset else
          Ok (number_at number 4 bytes (p + 2 + 12 * count))))) ≡ Ok next → EndsAt next
      by_tests true t u q r e = absurd (err_ok TruncatedCount e)
      by_tests false true u q r e = absurd (err_ok TruncatedDirectory e)
      by_tests false false true q r e = absurd (err_ok TruncatedNextOffset e)
      by_tests false false false q r e =
          let few : count ≤ (length bytes - p - 2) / 12 = grind (arith, nat_tests) in
          record {
            whole = omega arith;
            within = grind (arith, nat_tests);
            offset = ok_same (number_at number 4 bytes (p + 2 + 12 * count)) e;
          }

  -- hence it ends where this many entries and a next offset lie in the data
  ends_there : (m : ℕ) → count ≡ m → p + 2 + 12 * m + 4 ≤ length bytes
      → directory_end number bytes p ≡ Ok (number_at number 4 bytes (p + 2 + 12 * m))
  ends_there m e h =
      let s : nat_lt (length bytes) (p + 2) ≡ false = grind (arith, nat_tests) in
      let few : m ≤ (length bytes - p - 2) / 12 = omega arith in
      let t : nat_lt ((length bytes - p - 2) / 12) m ≡ false = grind (arith, nat_tests) in
      let u : nat_lt (length bytes) (p + 2 + 12 * m + 4) ≡ false = grind (arith, nat_tests) in
      rw (e, s, t, u) refl

module _ (order : Order) (a : List ℕ) (tag : Tag) (k : In) (ps ds : List ℕ)
    (childless : child_of tag.0 tag.1 ≡ None) (are_bytes : AreBytes a)
    (apart : AreApart (flat_map (looked_at (number_of order) a) ds))
    (known : AllByRecursion (λ q. has ds q ≡ true) ps) where
  abbrev number : Reading
  number = number_of order

  abbrev b : List ℕ
  b = made order a tag.1 ps

  abbrev long : length a ≡ length b
  long = as_long order a tag.1 ps

  abbrev AreFollowing : List ℕ → ℕ → Type 0
  AreFollowing es q = Follow order a b long tag k ps childless es q

  abbrev AreLacking : ℕ → Type 0
  AreLacking p = Lacks order a b long tag k ps childless p

  abbrev those_left : ℕ → List ℕ
  those_left p = left order a b long tag k ps childless p

  abbrev ValueAlike : ℕ → Type 0
  ValueAlike e = AllByRecursion (Agree a b) (value_stretch number a e)

  -- ---- a directory from which nothing is taken

  follow_spaced : (w q : ℕ) → AllByRecursion (λ e. Same a b e 12) (spaced q 12 w)
      → AllByRecursion ValueAlike (spaced q 12 w) → AreFollowing (spaced q 12 w) q
  follow_spaced zero q s v = tt
  follow_spaced (suc w) q s v =
      ((bytes_same a b q 12 long s.0, v.0), follow_spaced w (q + 12) s.1 v.1)

  all_left : (p : ℕ) → has ps p ≡ false → those_left p ≡ entry_offsets number a p
  all_left p out =
      ap (λ t. filter (λ e. not (t && has_tag number a tag.1 e)) (entry_offsets number a p)) out
      ∙ all_pass (entry_offsets number a p)

  values_alike : (p : ℕ) → has ds p ≡ true → AllByRecursion ValueAlike (those_left p)
  values_alike p m =
      all_members ValueAlike (those_left p)
      (λ e l. let f = filter_member (λ x. not (has ps p && has_tag number a tag.1 x))
      (entry_offsets number a p) e l in
      value_stays order a tag.1 ps ds apart known e p m f.0
      (not-true (has ps p && has_tag number a tag.1 e) f.1))

  -- a directory from which nothing is taken keeps all its entries, and ends as before or better
  pub lacks_none : (p : ℕ) → has ds p ≡ true → has ps p ≡ false → AreLacking p
  lacks_none p m out =
      let alike = directory_stays order a tag.1 ps ds apart known p m out in
      let all = all_left p out in
      let w = whole_entries number a p in
      let l = length-spaced (p + 2) 12 w in
      let offsets = offsets_same order a b long p alike in
      let values = subst (λ es. AllByRecursion ValueAlike es) all (values_alike p m) in
      record {
        offsets = sym offsets ∙ ap (spaced (p + 2) 12) (sym (ap (λ es. length es) all ∙ l));
        entries = subst (λ es. AreFollowing es (p + 2)) (sym all)
            (follow_spaced w (p + 2) (entries_same order a b long p alike) values);
        end = inl (end_same order a b long p alike);
      }

  -- ---- a directory without entries

  -- entries that are one behind the other
  follow_bytes : (es : List ℕ) (q : ℕ) → Stands b q (entries_bytes a es)
      → AllByRecursion (λ e. e + 12 ≤ length a) es → AllByRecursion ValueAlike es → AreFollowing es q
  follow_bytes [] q s w v = tt
  follow_bytes (e ∷ es) q s w v =
      let l = length-bytes_at 12 e a w.0 in
      let one = stands_left b (bytes_at 12 a e) (entries_bytes a es) q s in
      let rest = stands_right b (bytes_at 12 a e) (entries_bytes a es) q (q + 12) s (omega (arith, l)) in (
        (sym (ap (λ x. bytes_at x b q) (sym l) ∙ one.there), v.0),
        follow_bytes es (q + 12) rest w.1 v.1,
      )

  length-entries : (es : List ℕ) → AllByRecursion (λ e. e + 12 ≤ length a) es
      → length (entries_bytes a es) ≡ 12 * length es
  length-entries [] h = refl
  length-entries (e ∷ es) h =
      let l = length-bytes_at 12 e a h.0 in
      let more = length-append (bytes_at 12 a e) (entries_bytes a es) in
      let rest = length-entries es h.1 in
      omega (arith, l, more, rest)

  module _ (p : ℕ) (m : has ds p ≡ true) (mine : has ps p ≡ true) (e : ℕ)
      (there : has (entry_offsets number a p) e ≡ true) (gone : has_tag number a tag.1 e ≡ true) where
    abbrev whole : ℕ
    whole = whole_entries number a p

    abbrev es : List ℕ
    es = entries_without number a tag.1 p

    abbrev next : List ℕ
    next = next_offset_bytes order (directory_end number a p)

    few : length es < whole
    few =
        let f = fewer_left (has_tag number a tag.1) (entry_offsets number a p) e there gone in
        let l = length-spaced (p + 2) 12 whole in
        omega (arith, f, l)

    space : p + 2 + 12 * whole ≤ length a
    space =
        let f = few in
        let some : 1 ≤ whole = omega arith in
        let less : whole ≤ (length a - p - 2) / 12 = omega arith in
        omega arith

    are_whole : AllByRecursion (λ x. x + 12 ≤ length a) es
    are_whole =
        all_passed (λ x. x + 12 ≤ length a) (λ x. not (has_tag number a tag.1 x))
        (entry_offsets number a p) (offsets_whole number a p)

    are_left : those_left p ≡ es
    are_left =
        ap (λ t. filter (λ x. not (t && has_tag number a tag.1 x)) (entry_offsets number a p)) mine

    values : AllByRecursion ValueAlike es
    values = subst (λ xs. AllByRecursion ValueAlike xs) are_left (values_alike p m)

    -- what is there: the count, the entries, the next offset and zeros
    abbrev front : List ℕ
    front = spelled order 2 (length es) ++ (entries_bytes a es ++ next)

    abbrev zeros : List ℕ
    zeros = replicate (2 + 12 * whole + length next - length front) 0

    front_long : length front ≡ 2 + 12 * length es + length next
    front_long =
        let s = length_spelled order 2 (length es) in
        let t = length-entries es are_whole in
        let x = length-append (entries_bytes a es) next in
        let y = length-append (spelled order 2 (length es)) (entries_bytes a es ++ next) in
        omega (arith, s, t, x, y)

    -- in the new data are the count of the entries left, these, the next offset and zeros
    pub record Standing : Type 0 where
      pub count : number_at number 2 b p ≡ length es
      pub entries : Stands b (p + 2) (entries_bytes a es)
      pub next : Stands b (p + 2 + 12 * length es) next
      pub zeros : Stands b (p + length front) zeros

    stands : p + 2 + 12 * whole + length next ≤ length a → Standing
    stands far =
        let f = few in
        let l = front_long in
        let padded_long = length-padded (2 + 12 * whole + length next) front (omega (arith, f, l)) in
        let whole_bytes = encoded_is_there order a tag.1 ps ds apart known p m (omega (arith, padded_long)) mine in
        let fronts = stands_left b front zeros p whole_bytes in
        let s = length_spelled order 2 (length es) in
        let t = length-entries es are_whole in
        let behind = stands_right b (spelled order 2 (length es)) (entries_bytes a es ++ next) p (p + 2)
        fronts (omega (arith, s)) in
        let short = number_fits order 2 a p are_bytes in
        let bound : length es < 256 ^ 2 = omega (arith, f, short) in
        record {
          count = number_read order 2 (length es) p b bound
              (stands_left b (spelled order 2 (length es)) (entries_bytes a es ++ next) p fronts);
          entries = stands_left b (entries_bytes a es) next (p + 2) behind;
          next = stands_right b (entries_bytes a es) next (p + 2) (p + 2 + 12 * length es) behind
              (omega (arith, t));
          zeros = stands_right b front zeros p (p + length front) whole_bytes refl;
        }

    lacking : Standing → EndsBetter (directory_end number a p) (directory_end number b p)
        → AreLacking p
    lacking s ends =
        let f = few in
        let r = space in
        let same = long in
        let count = s.count in
        let w : whole_entries number b p ≡ length es = omega (arith, f, r, same, count) in
        record {
          offsets = ap (spaced (p + 2) 12) (w ∙ sym (ap (λ xs. length xs) are_left));
          entries = subst (λ xs. AreFollowing xs (p + 2)) (sym are_left)
              (follow_bytes es (p + 2) s.entries are_whole values);
          end = ends;
        }

    near : p + 2 + 12 * length es + 4 ≤ length b
    near =
        let f = few in
        let r = space in
        let same = long in
        omega (arith, f, r, same)

    ended : Standing → directory_end number b p ≡ Ok (number_at number 4 b (p + 2 + 12 * length es))
    ended s = ends_there number b p (length es) s.count near

    with_next : (offset : ℕ) → directory_end number a p ≡ Ok offset → AreLacking p
    with_next offset e =
        let at' = ends_at number a p offset e in
        let whole_is = at'.whole in
        let within = at'.within in
        let encoded : next ≡ spelled order 4 offset = ap (next_offset_bytes order) e in
        let four : length next ≡ 4 = ap (λ xs. length xs) encoded ∙ length_spelled order 4 offset in
        let s = stands (omega (arith, whole_is, within, four)) in
        let fits = subst (λ x. x < 256 ^ 4) (sym at'.offset)
        (number_fits order 4 a (p + 2 + 12 * number_at number 2 a p) are_bytes) in
        let read = number_read order 4 offset (p + 2 + 12 * length es) b fits
        (subst (λ xs. Stands b (p + 2 + 12 * length es) xs) encoded s.next) in
        lacking s (inl (e ∙ sym (ended s ∙ ap (λ x. Ok x) read)))

    with_fault : (fault : Fault) → directory_end number a p ≡ Err fault → AreLacking p
    with_fault fault e =
        let f = few in
        let r = space in
        let encoded : next ≡ [] = ap (next_offset_bytes order) e in
        let none : length next ≡ 0 = ap (λ xs. length xs) encoded in
        let l = front_long in
        let s = stands (omega (arith, r, none)) in
        let more : ℕ = 2 + 12 * whole + length next - length front - 4 in
        let sum : 2 + 12 * whole + length next - length front ≡ 4 + more = omega (arith, f, none, l) in
        let at' : p + length front ≡ p + 2 + 12 * length es = omega (arith, none, l) in
        let four : zeros ≡ spelled order 4 0 ++ replicate more 0 =
        four_zeros order (2 + 12 * whole + length next - length front) more sum in
        let there' = subst (λ xs. Stands b (p + length front) xs) four s.zeros in
        let here = stands_left b (spelled order 4 0) (replicate more 0) (p + length front) there' in
        let read = number_read order 4 0 (p + 2 + 12 * length es) b (omega arith)
        (subst (λ x. Stands b x (spelled order 4 0)) at' here) in
        lacking s (inr (fault, e, ended s ∙ ap (λ x. Ok x) read))

    -- a directory with an entry that is taken out lacks those of the tag, and no others
    pub lacks_some : AreLacking p
    lacks_some = by_end (directory_end number a p) refl
      where
        by_end : (x : Result ℕ Fault) → directory_end number a p ≡ x → AreLacking p
        by_end (Ok offset) e = with_next offset e
        by_end (Err fault) e = with_fault fault e
