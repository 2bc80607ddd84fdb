-- Where the regions of a draft are, its directories and their values, and which of them are apart.
use Rattle.std.proofs.Common.{◌≡◌, ℕ, ◌+◌, ◌≤◌, ◌⊎◌, inl, inr, List, [], ◌∷◌, ◌++◌, refl, arith, Bool, true, false}
use Rattle.std.specs.Prelude.{nat_le}
use Rattle.std.specs.List.{AllByRecursion}
use Rattle.exif_table.specs.declared.context.Context.{Context}
use Rattle.exif_table.specs.declared.context.Context.TheVariants.{Tiff, Exif, Gps, Interop}
use Rattle.exif_tiff.specs.Footprint.{Stretch}
use Rattle.exif_tiff.proofs.ApartLists.{AreApart, IsApart, all_weaker, apart_turned}
use Rattle.exif_layout.specs.Offsets.{after_value, after_values, directory_len, directory_offset, even, exif_offset, gps_offset, interop_offset, strips_offset, values_offset, tiff_values, exif_values, gps_values, interop_values}
use Rattle.exif_layout.specs.Slots.{Draft, Slot, content_len}
use Rattle.exif_layout.proofs.Images.Looked.{outside_of, value_stretches}
use Rattle.exif_layout.proofs.Images.Room.{values_low}

-- a stretch between two offsets
abbrev pub Lies : ℕ → ℕ → Stretch → Type 0
Lies from to t = (from ≤ t.offset) × (t.offset + t.len ≤ to)

-- ---- values, one behind the other

-- where the next value may be, behind one that is in its entry, or outside of it
record Next (values len next : ℕ) (fits : Bool) : Type 0 where
  inside : fits ≡ true → next ≡ values
  outside : fits ≡ false → next ≡ even values + len

next_is : (values len : ℕ) → Next values len (after_value values len) (nat_le len 4)
next_is values len = record { inside = λ e. rw e refl; outside = λ e. rw e refl }

lie_next : (values len next end : ℕ) (fits : Bool) (rest : List Stretch) → Next values len next fits → next ≤ end
    → AllByRecursion (Lies next end) rest → AllByRecursion (Lies values end) (outside_of fits (even values) len ++ rest)
lie_next values len next end true rest n up h =
    let same = n.inside refl in
    all_weaker (Lies next end) (Lies values end) (λ s l. (omega (arith, l.0), l.1)) rest h
lie_next values len next end false rest n up h =
    let same = n.outside refl in
    ((omega arith, omega arith), all_weaker (Lies next end) (Lies values end) (λ s l. (omega (arith, l.0), l.1)) rest h)

-- each value outside of its entry lies between where the values begin and where they end
pub values_lie : (values : ℕ) (slots : List Slot) → AllByRecursion (Lies values (after_values values slots)) (value_stretches values slots)
values_lie values [] = tt
values_lie values (slot ∷ slots) =
    let len : ℕ = content_len slot.content in
    let next : ℕ = after_value values len in
    lie_next values len next (after_values next slots) (nat_le len 4) (value_stretches next slots) (next_is values len) (values_low next slots)
    (values_lie next slots)

apart_next : (values len next end : ℕ) (fits : Bool) (rest : List Stretch) → Next values len next fits → AreApart rest
    → AllByRecursion (Lies next end) rest → AreApart (outside_of fits (even values) len ++ rest)
apart_next values len next end true rest n apart h = apart
apart_next values len next end false rest n apart h =
    let same = n.outside refl in
    (all_weaker (Lies next end) (IsApart (record { offset = even values; len = len })) (λ s l. inl (omega (arith, l.0))) rest h, apart)

-- values that are outside of their entries are apart from each other
pub values_apart : (values : ℕ) (slots : List Slot) → AreApart (value_stretches values slots)
values_apart values [] = tt
values_apart values (slot ∷ slots) =
    let len : ℕ = content_len slot.content in
    let next : ℕ = after_value values len in
    apart_next values len next (after_values next slots) (nat_le len 4) (value_stretches next slots) (next_is values len) (values_apart next slots)
    (values_lie next slots)

-- which directories are below which
pub data IsChild : Context → Context → Type 0 where
  ExifBelow : IsChild Tiff Exif
  GpsBelow : IsChild Tiff Gps
  InteropBelow : IsChild Exif Interop

-- ---- the regions of a draft

module _ (draft : Draft) (start : ℕ) where
  -- where the directory of a context ends
  unfoldable pub directory_to : Context → ℕ
  directory_to c = directory_offset draft start c + directory_len (draft.slots c)

  -- where the values of a context's directory end
  unfoldable pub values_to : Context → ℕ
  values_to c = after_values (values_offset draft start c) (draft.slots c)

  -- a stretch of the directory of a context, or of its values
  unfoldable pub Of : Context → Stretch → Type 0
  Of c t = Lies (directory_offset draft start c) (directory_to c) t ⊎ Lies (values_offset draft start c) (values_to c) t

  -- a stretch of a directory or of one below it
  unfoldable pub In : Context → Stretch → Type 0
  In Tiff t = Of Tiff t ⊎ (Of Exif t ⊎ (Of Interop t ⊎ Of Gps t))
  In Exif t = Of Exif t ⊎ Of Interop t
  In Gps t = Of Gps t
  In Interop t = Of Interop t

  -- where the regions are, one behind the other
  pub record Stand : Type 0 where
    exif : directory_to Tiff ≡ directory_offset draft start Exif
    gps : directory_to Exif ≡ directory_offset draft start Gps
    interop : directory_to Gps ≡ directory_offset draft start Interop
    values : directory_to Interop ≡ values_offset draft start Tiff
    exif_values : values_to Tiff ≡ values_offset draft start Exif
    gps_values : values_to Exif ≡ values_offset draft start Gps
    interop_values : values_to Gps ≡ values_offset draft start Interop
    end : values_to Interop ≡ strips_offset draft start
    tiff_down : directory_offset draft start Tiff ≤ directory_to Tiff
    exif_down : directory_offset draft start Exif ≤ directory_to Exif
    gps_down : directory_offset draft start Gps ≤ directory_to Gps
    interop_down : directory_offset draft start Interop ≤ directory_to Interop
    tiff_up : values_offset draft start Tiff ≤ values_to Tiff
    exif_up : values_offset draft start Exif ≤ values_to Exif
    gps_up : values_offset draft start Gps ≤ values_to Gps
    interop_up : values_offset draft start Interop ≤ values_to Interop

  they_stand : Stand
  unfolding directory_to values_to exif_offset gps_offset interop_offset tiff_values exif_values gps_values interop_values strips_offset
  they_stand = record {
    exif = refl;
    gps = refl;
    interop = refl;
    values = refl;
    exif_values = refl;
    gps_values = refl;
    interop_values = refl;
    end = refl;
    tiff_down = omega arith;
    exif_down = omega arith;
    gps_down = omega arith;
    interop_down = omega arith;
    tiff_up = values_low _ (draft.slots Tiff);
    exif_up = values_low _ (draft.slots Exif);
    gps_up = values_low _ (draft.slots Gps);
    interop_up = values_low _ (draft.slots Interop);
  }

  -- regions of two contexts, where those of the first come before those of the second
  pair : (c d : Context) (s t : Stretch) → directory_to c ≤ directory_offset draft start d → directory_offset draft start d ≤ directory_to d
      → directory_to d ≤ values_offset draft start c → values_offset draft start c ≤ values_to c → values_to c ≤ values_offset draft start d
      → Of c s → Of d t → IsApart s t
  unfolding Of
  pair c d s t p q r u k (inl h) (inl i) = inl (omega (arith, h.1, i.0))
  pair c d s t p q r u k (inl h) (inr i) = inl (omega (arith, h.1, i.0))
  pair c d s t p q r u k (inr h) (inl i) = inr (omega (arith, h.0, i.1))
  pair c d s t p q r u k (inr h) (inr i) = inl (omega (arith, h.1, i.0))

  tiff_exif : (s t : Stretch) → Of Tiff s → Of Exif t → IsApart s t
  tiff_exif s t h i =
      let st = they_stand in
      pair Tiff Exif s t (omega (arith, st.exif)) st.exif_down
      (omega (arith, st.gps, st.gps_down, st.interop, st.interop_down, st.values)) st.tiff_up (omega (arith, st.exif_values)) h i

  tiff_gps : (s t : Stretch) → Of Tiff s → Of Gps t → IsApart s t
  tiff_gps s t h i =
      let st = they_stand in
      pair Tiff Gps s t (omega (arith, st.exif, st.exif_down, st.gps)) st.gps_down
      (omega (arith, st.interop, st.interop_down, st.values)) st.tiff_up (omega (arith, st.exif_values, st.exif_up, st.gps_values)) h i

  tiff_interop : (s t : Stretch) → Of Tiff s → Of Interop t → IsApart s t
  tiff_interop s t h i =
      let st = they_stand in
      pair Tiff Interop s t (omega (arith, st.exif, st.exif_down, st.gps, st.gps_down, st.interop)) st.interop_down
      (omega (arith, st.values)) st.tiff_up (omega (arith, st.exif_values, st.exif_up, st.gps_values, st.gps_up, st.interop_values)) h i

  exif_gps : (s t : Stretch) → Of Exif s → Of Gps t → IsApart s t
  exif_gps s t h i =
      let st = they_stand in
      pair Exif Gps s t (omega (arith, st.gps)) st.gps_down
      (omega (arith, st.interop, st.interop_down, st.values, st.tiff_up, st.exif_values)) st.exif_up (omega (arith, st.gps_values)) h i

  exif_interop : (s t : Stretch) → Of Exif s → Of Interop t → IsApart s t
  exif_interop s t h i =
      let st = they_stand in
      pair Exif Interop s t (omega (arith, st.gps, st.gps_down, st.interop)) st.interop_down
      (omega (arith, st.values, st.tiff_up, st.exif_values)) st.exif_up (omega (arith, st.gps_values, st.gps_up, st.interop_values)) h i

  gps_interop : (s t : Stretch) → Of Gps s → Of Interop t → IsApart s t
  gps_interop s t h i =
      let st = they_stand in
      pair Gps Interop s t (omega (arith, st.interop)) st.interop_down
      (omega (arith, st.values, st.tiff_up, st.exif_values, st.exif_up, st.gps_values)) st.gps_up (omega (arith, st.interop_values)) h i

  -- a directory is in front of its values
  pub in_front : (c : Context) → directory_to c ≤ values_offset draft start c
  in_front c = by_context they_stand c
    where
      by_context : Stand → (c : Context) → directory_to c ≤ values_offset draft start c
      by_context st Tiff = omega (arith, st.exif, st.exif_down, st.gps, st.gps_down, st.interop, st.interop_down, st.values)
      by_context st Exif = omega (arith, st.gps, st.gps_down, st.interop, st.interop_down, st.values, st.tiff_up, st.exif_values)
      by_context st Gps = omega (arith, st.interop, st.interop_down, st.values, st.tiff_up, st.exif_values, st.exif_up, st.gps_values)
      by_context st Interop = omega (arith, st.values, st.tiff_up, st.exif_values, st.exif_up, st.gps_values, st.gps_up, st.interop_values)

  -- the first directory is in front of all, and the blocks behind all values
  behind_first : (c : Context) → directory_offset draft start Tiff ≤ directory_offset draft start c
  behind_first c = by_context they_stand c
    where
      by_context : Stand → (c : Context) → directory_offset draft start Tiff ≤ directory_offset draft start c
      by_context st Tiff = omega arith
      by_context st Exif = omega (arith, st.tiff_down, st.exif)
      by_context st Gps = omega (arith, st.tiff_down, st.exif, st.exif_down, st.gps)
      by_context st Interop = omega (arith, st.tiff_down, st.exif, st.exif_down, st.gps, st.gps_down, st.interop)

  before_blocks : (c : Context) → values_to c ≤ strips_offset draft start
  before_blocks c = by_context they_stand c
    where
      by_context : Stand → (c : Context) → values_to c ≤ strips_offset draft start
      by_context st Tiff = omega (arith, st.exif_values, st.exif_up, st.gps_values, st.gps_up, st.interop_values, st.interop_up, st.end)
      by_context st Exif = omega (arith, st.gps_values, st.gps_up, st.interop_values, st.interop_up, st.end)
      by_context st Gps = omega (arith, st.interop_values, st.interop_up, st.end)
      by_context st Interop = omega (arith, st.end)

  down : (c : Context) → directory_offset draft start c ≤ directory_to c
  unfolding directory_to
  down c = omega arith

  up : (c : Context) → values_offset draft start c ≤ values_to c
  unfolding values_to
  up c = values_low (values_offset draft start c) (draft.slots c)

  of_lies : (c : Context) (t : Stretch) → Of c t → Lies (directory_offset draft start Tiff) (strips_offset draft start) t
  unfolding Of
  of_lies c t (inl h) = (omega (arith, h.0, behind_first c), omega (arith, h.1, in_front c, up c, before_blocks c))
  of_lies c t (inr h) = (omega (arith, h.0, behind_first c, down c, in_front c), omega (arith, h.1, before_blocks c))

  -- each directory and each value lies between the first directory and the blocks
  pub in_lies : (t : Stretch) → In Tiff t → Lies (directory_offset draft start Tiff) (strips_offset draft start) t
  unfolding In
  in_lies t (inl h) = of_lies Tiff t h
  in_lies t (inr (inl h)) = of_lies Exif t h
  in_lies t (inr (inr (inl h))) = of_lies Interop t h
  in_lies t (inr (inr (inr h))) = of_lies Gps t h

  -- ---- a directory and its children

  -- a directory is apart from those below it
  pub below_apart : {parent child : Context} → IsChild parent child → (s t : Stretch) → Of parent s → In child t → IsApart s t
  unfolding In
  below_apart ExifBelow s t h (inl i) = tiff_exif s t h i
  below_apart ExifBelow s t h (inr i) = tiff_interop s t h i
  below_apart GpsBelow s t h i = tiff_gps s t h i
  below_apart InteropBelow s t h i = exif_interop s t h i

  -- two children of one directory are
  pub children_apart : {parent child other : Context} → IsChild parent child → IsChild parent other → (child ≡ other → ⊥)
      → (s t : Stretch) → In child s → In other t → IsApart s t
  unfolding In
  children_apart ExifBelow GpsBelow differ s t (inl h) i = exif_gps s t h i
  children_apart ExifBelow GpsBelow differ s t (inr h) i = apart_turned t s (gps_interop t s i h)
  children_apart GpsBelow ExifBelow differ s t h (inl i) = apart_turned t s (exif_gps t s i h)
  children_apart GpsBelow ExifBelow differ s t h (inr i) = gps_interop s t h i
  children_apart ExifBelow ExifBelow differ s t h i = absurd (differ refl)
  children_apart GpsBelow GpsBelow differ s t h i = absurd (differ refl)
  children_apart InteropBelow InteropBelow differ s t h i = absurd (differ refl)

  -- what lies in a child lies in its parent
  pub in_parent : {parent child : Context} → IsChild parent child → (t : Stretch) → In child t → In parent t
  unfolding In
  in_parent ExifBelow t (inl h) = inr (inl h)
  in_parent ExifBelow t (inr h) = inr (inr (inl h))
  in_parent GpsBelow t h = inr (inr (inr h))
  in_parent InteropBelow t h = inr h

  -- what lies in a directory or its values counts as lying in it or below it
  pub in_own : (c : Context) (t : Stretch) → Of c t → In c t
  unfolding In
  in_own Tiff t h = inl h
  in_own Exif t h = inl h
  in_own Gps t h = h
  in_own Interop t h = h
