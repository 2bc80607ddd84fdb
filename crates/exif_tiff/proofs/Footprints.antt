-- Data that agree on the footprint of the one hold the same.
use Rattle.std.proofs.Common.{◌≡◌, ◌+◌, ◌-◌, ◌*◌, ◌/◌, ◌==◌, ◌&&◌, ℕ, zero, suc, Bool, true, false, if◌then◌else◌, List, [], ◌∷◌, ◌++◌, length, Option, Some, None, Result, Ok, Err, refl, ap, ◌∙◌, arith}
use Rattle.std.specs.Prelude.{nat_le, nat_lt}
use Rattle.std.specs.List.{flat_map, AllByRecursion}
use Rattle.std.proofs.lemmas.Bool.Decides.{nat_tests}
use Rattle.exif_base.specs.Bytes.{Reading, number_at, spaced}
use Rattle.exif_base.specs.Orders.{number_of}
use Rattle.exif_base.specs.declared.endian.Order.{Order}
use Rattle.exif_tiff.specs.Decode.{decode}
use Rattle.exif_text.specs.FieldTypes.{known_length, type_of}
use Rattle.exif_types.specs.Numbers.{number_in}
use Rattle.exif_types.specs.declared.value.Value.{Value}
use Rattle.exif_table.specs.declared.context.Context.{Context}
use Rattle.exif_table.specs.declared.context.Context.TheVariants.{Tiff}
use Rattle.exif_tiff.specs.declared.fault.Fault.{Fault}
use Rattle.exif_tiff.specs.declared.fault.Fault.TheVariants.{TruncatedCount, TruncatedDirectory, TruncatedNextOffset}
use Rattle.exif_tiff.specs.Footprint.{Agree, Below, named, pointed, entry_directories, directories, following, chain_directories, value_stretch, looked_at, ordered_footprint}
use Rattle.exif_tiff.specs.Trace.{Node, Visit, Directory, chain_after, chain_nodes, child_of, depth_of, directory_end, directory_nodes, entry_nodes, entry_offsets, entry_value, ordered_trace, pointer_nodes, tagged_nodes, valued_nodes, whole_entries, opened}
use Rattle.exif_tiff.proofs.Agreement.{Same, decode_same, number_same, part_same, same_of}
use Rattle.exif_tiff.proofs.Members.{all_left, all_right}

-- what holds of all members of pieces holds of those of each piece
pub all_flat : {X : Type 0} (P : X → Type 0) (f : ℕ → List X) (ps : List ℕ)
    → AllByRecursion P (flat_map f ps) → AllByRecursion (λ p. AllByRecursion P (f p)) ps
all_flat P f [] h = tt
all_flat P f (p ∷ ps) h =
    (all_left P (f p) (flat_map f ps) h, all_flat P f ps (all_right P (f p) (flat_map f ps) h))

-- pieces that are the same one by one, by what holds of three lists of offsets
pub each_same : {X : Type 0} (f g : ℕ → List X) (P Q R : ℕ → Type 0) (ps : List ℕ)
    → ((p : ℕ) → P p → Q p → R p → f p ≡ g p)
    → AllByRecursion P ps → AllByRecursion Q ps → AllByRecursion R ps
    → flat_map f ps ≡ flat_map g ps
each_same f g P Q R [] each h k l = refl
each_same f g P Q R (p ∷ ps) each h k l =
    let one = each p h.0 k.0 l.0 in
    let rest = each_same f g P Q R ps each h.1 k.1 l.1 in
    rw (one, rest) refl

-- how a directory ends, by its three tests
abbrev pub ends : Bool → Bool → Bool → ℕ → Result ℕ Fault
ends s t u next =
    if s then Err TruncatedCount else
    (if t then Err TruncatedDirectory else (if u then Err TruncatedNextOffset else Ok next))

module _ (order : Order) (a b : List ℕ) (as_long : length a ≡ length b) where
  -- how numbers are read in this order
  abbrev pub number : Reading
  number = number_of order

  -- both agree on a directory and its values
  abbrev pub Alike : ℕ → Type 0
  Alike p = AllByRecursion (Agree a b) (looked_at number a p)

  -- and on the values of an entry
  abbrev pub ValueAlike : ℕ → Type 0
  ValueAlike e = AllByRecursion (Agree a b) (value_stretch number a e)

  stands : (p : ℕ) → Alike p → Same a b p (2 + 12 * whole_entries number a p + 4)
  stands p h = same_of a b p (2 + 12 * whole_entries number a p + 4) h.0

  -- where both have the same count there
  whole_by : (p : ℕ) → Same a b p 2 → whole_entries number a p ≡ whole_entries number b p
  whole_by p h = let count = number_same order 2 a b p h in rw (as_long, count) refl

  -- where both have the same count there, the entries are at the same offsets
  pub offsets_by : (p : ℕ) → Same a b p 2 → entry_offsets number a p ≡ entry_offsets number b p
  offsets_by p h = ap (spaced (p + 2) 12) (whole_by p h)

  counts : (p : ℕ) → Alike p → Same a b p 2
  counts p h =
      part_same a b p (2 + 12 * whole_entries number a p + 4) p 2 (omega arith) (omega arith)
      (stands p h)

  -- where both agree on a directory, as many of its entries are whole in both
  pub whole_same : (p : ℕ) → Alike p → whole_entries number a p ≡ whole_entries number b p
  whole_same p h = whole_by p (counts p h)

  -- where both agree on a directory, its entries are at the same offsets
  pub offsets_same : (p : ℕ) → Alike p → entry_offsets number a p ≡ entry_offsets number b p
  offsets_same p h = offsets_by p (counts p h)

  ends_same : (s t u : Bool) (x y : ℕ) → (t ≡ false → x ≡ y) → ends s t u x ≡ ends s t u y
  ends_same true t u x y h = refl
  ends_same false true u x y h = refl
  ends_same false false true x y h = refl
  ends_same false false false x y h = ap Ok (h refl)

  -- where both have the same count and the same next offset there
  pub end_by : (p : ℕ) → Same a b p 2 → Same a b (p + 2 + 12 * whole_entries number a p) 4
      → directory_end number a p ≡ directory_end number b p
  end_by p h k =
      let count = number_same order 2 a b p h in
      let m = number_at number 2 a p in
      let next : nat_lt ((length a - p - 2) / 12) m ≡ false
      → number_at number 4 a (p + 2 + 12 * m) ≡ number_at number 4 b (p + 2 + 12 * m) =
      λ t. number_same order 4 a b (p + 2 + 12 * m)
      (part_same a b (p + 2 + 12 * whole_entries number a p) 4 (p + 2 + 12 * m) 4
      (grind (arith, nat_tests)) (grind (arith, nat_tests)) k) in
      rw (← as_long, ← count) (ends_same (nat_lt (length a) (p + 2)) (nat_lt ((length a - p - 2) / 12) m)
      (nat_lt (length a) (p + 2 + 12 * m + 4)) (number_at number 4 a (p + 2 + 12 * m))
      (number_at number 4 b (p + 2 + 12 * m)) next)

  -- where both agree on a directory, it ends with the same next offset, or with the same fault
  pub end_same : (p : ℕ) → Alike p → directory_end number a p ≡ directory_end number b p
  end_same p h =
      end_by p (counts p h)
      (part_same a b p (2 + 12 * whole_entries number a p + 4)
      (p + 2 + 12 * whole_entries number a p) 4 (omega arith) (omega arith) (stands p h))

  -- the entries of a directory
  spaced_same : (q w : ℕ) → Same a b q (12 * w) → AllByRecursion (λ e. Same a b e 12) (spaced q 12 w)
  spaced_same q zero h = tt
  spaced_same q (suc w) h = (
    part_same a b q (12 * suc w) q 12 (omega arith) (omega arith) h,
    spaced_same (q + 12) w (part_same a b q (12 * suc w) (q + 12) (12 * w) (omega arith) (omega arith) h),
  )

  -- where both agree on a directory, the 12 bytes of each whole entry are the same
  pub entries_same : (p : ℕ) → Alike p → AllByRecursion (λ e. Same a b e 12) (entry_offsets number a p)
  entries_same p h =
      let w = whole_entries number a p in
      spaced_same (p + 2) w (part_same a b p (2 + 12 * w + 4) (p + 2) (12 * w) (omega arith) (omega arith) (stands p h))

  -- the value of an entry, by its two tests
  valued_same : (s t : Bool) (size offset : ℕ) (v w x y : Value) → (s ≡ true → v ≡ w)
      → (s ≡ false → t ≡ true → x ≡ y)
      → (if s then Some v else (if t then Some x else None))
      ≡ (if s then Some w else (if t then Some y else None))
  valued_same true t size offset v w x y h k = ap Some (h refl)
  valued_same false true size offset v w x y h k = ap Some (k refl refl)
  valued_same false false size offset v w x y h k = refl

  outside_same : (s t : Bool) (offset size : ℕ) → s ≡ true → t ≡ true
      → AllByRecursion (Agree a b)
      (if s && t then record { offset = offset; len = size } ∷ [] else []) → Same a b offset size
  outside_same true true offset size e f h = same_of a b offset size h.0
  outside_same true false offset size e f h = absurd (false_true f)
    where
      false_true : ◌≡◌ {A = Bool} false true → ⊥
      false_true e = cc
  outside_same false t offset size e f h = absurd (false_true e)
    where
      false_true : ◌≡◌ {A = Bool} false true → ⊥
      false_true e = cc

  -- where both agree on an entry and on its value outside of it, the entry holds the same value
  pub value_same : (e : ℕ) → Same a b e 12 → ValueAlike e
      → entry_value number a e ≡ entry_value number b e
  value_same e h v =
      let type = number_at number 2 a (e + 2) in
      let count = number_at number 4 a (e + 4) in
      let offset = number_at number 4 a (e + 8) in
      let size = known_length (type_of type) * count in
      let types : type ≡ number_at number 2 b (e + 2) =
      number_same order 2 a b (e + 2) (part_same a b e 12 (e + 2) 2 (omega arith) (omega arith) h) in
      let counts : count ≡ number_at number 4 b (e + 4) =
      number_same order 4 a b (e + 4) (part_same a b e 12 (e + 4) 4 (omega arith) (omega arith) h) in
      let offsets : offset ≡ number_at number 4 b (e + 8) =
      number_same order 4 a b (e + 8) (part_same a b e 12 (e + 8) 4 (omega arith) (omega arith) h) in
      rw (← types, ← counts, ← offsets, ← as_long)
      (valued_same (nat_le size 4) (nat_le (offset + size) (length a)) size offset
      (decode number type count a (e + 8)) (decode number type count b (e + 8))
      (decode number type count a offset) (decode number type count b offset)
      (λ s. decode_same order type count a b (e + 8) as_long
      (part_same a b e 12 (e + 8) size (omega arith) (grind (arith, nat_tests)) h))
      (λ s t. decode_same order type count a b offset as_long
      (outside_same (nat_lt 4 size) (nat_le (offset + size) (length a)) offset size
      (grind (arith, nat_tests)) t v)))

  -- a pointer, where both directories below it hold the same
  module _ (below : Below) (f g : Directory)
      (same : (d : Context) (q : ℕ) → AllByRecursion Alike (below d q) → f d q ≡ g d q)
      (ends_alike : (d : Context) (q : ℕ) → AllByRecursion Alike (below d q)
      → directory_end number a q ≡ directory_end number b q) where
    pointer_same : (d : Context) (o : Option ℕ) → AllByRecursion Alike (named below d o)
        → pointer_nodes f number a d o ≡ pointer_nodes g number b d o
    pointer_same d None h = refl
    pointer_same d (Some q) h =
        let held = same d q h in let end = ends_alike d q h in rw (held, end) refl

    tagged_same : (c : Context) (k p n e : ℕ) (v : Value) (o : Option Context)
        → AllByRecursion Alike (pointed below o (Some v))
        → tagged_nodes f number a c k p n e v o ≡ tagged_nodes g number b c k p n e v o
    tagged_same c k p n e v None h = refl
    tagged_same c k p n e v (Some d) h = pointer_same d (number_in v 0) h

    nodes_same : (c : Context) (k p n e : ℕ) (o : Option Value)
        → AllByRecursion Alike (pointed below (child_of c n) o)
        → valued_nodes f number a c k p n e o ≡ valued_nodes g number b c k p n e o
    nodes_same c k p n e None h = refl
    nodes_same c k p n e (Some v) h = tagged_same c k p n e v (child_of c n) h

    entry_same : (c : Context) (k p e : ℕ) → Same a b e 12 → ValueAlike e
        → AllByRecursion Alike (entry_directories below number a c e)
        → entry_nodes f number a c k p e ≡ entry_nodes g number b c k p e
    entry_same c k p e h v d =
        let tags : number_at number 2 a e ≡ number_at number 2 b e =
        number_same order 2 a b e (part_same a b e 12 e 2 (omega arith) (omega arith) h) in
        let values = value_same e h v in
        rw (← tags, ← values)
        (ap (λ nodes. Visit ∷ nodes) (nodes_same c k p (number_at number 2 a e) e (entry_value number a e) d))

  -- the directory itself is the first of those below it
  pub first_alike : (depth : ℕ) (d : Context) (q : ℕ)
      → AllByRecursion Alike (directories depth number a d q) → Alike q
  first_alike zero d q h = h.0
  first_alike (suc depth) d q h = h.0

  directory_same : (depth k : ℕ) (c : Context) (p : ℕ)
      → AllByRecursion Alike (directories depth number a c p)
      → directory_nodes depth number a k c p ≡ directory_nodes depth number b k c p
  directory_same zero k c p h = refl
  directory_same (suc depth) k c p h =
      rw (← offsets_same p h.0)
      (ap (opened c p)
      (each_same (entry_nodes (directory_nodes depth number a k) number a c k p)
      (entry_nodes (directory_nodes depth number b k) number b c k p)
      (λ e. Same a b e 12) ValueAlike
      (λ e. AllByRecursion Alike (entry_directories (directories depth number a) number a c e))
      (entry_offsets number a p)
      (λ e s v d. entry_same (directories depth number a) (directory_nodes depth number a k)
      (directory_nodes depth number b k) (directory_same depth k)
      (λ x q g. end_same q (first_alike depth x q g)) c k p e s v d)
      (entries_same p h.0)
      (all_flat (Agree a b) (value_stretch number a) (entry_offsets number a p) h.0.1)
      (all_flat Alike (entry_directories (directories depth number a) number a c)
      (entry_offsets number a p) h.1)))

  -- what follows a directory of a chain
  after_same : (rest : ℕ → List ℕ) (f g : ℕ → List Node) (x : Result ℕ Fault)
      → ((q : ℕ) → AllByRecursion Alike (rest q) → f q ≡ g q)
      → AllByRecursion Alike (following rest x) → chain_after f x ≡ chain_after g x
  after_same rest f g (Err fault) each h = refl
  after_same rest f g (Ok next) each h = each next h

  -- a chain that is not at its end
  linked_same : (left k p : ℕ)
      → ((q : ℕ) → AllByRecursion Alike (chain_directories left number a q)
      → chain_nodes left number a (k + 1) q ≡ chain_nodes left number b (k + 1) q)
      → AllByRecursion Alike (directories (depth_of Tiff) number a Tiff p
      ++ following (chain_directories left number a) (directory_end number a p))
      → directory_nodes (depth_of Tiff) number a k Tiff p
      ++ chain_after (chain_nodes left number a (k + 1)) (directory_end number a p)
      ≡ directory_nodes (depth_of Tiff) number b k Tiff p
      ++ chain_after (chain_nodes left number b (k + 1)) (directory_end number b p)
  linked_same left k p rest h =
      let here = all_left Alike (directories (depth_of Tiff) number a Tiff p)
      (following (chain_directories left number a) (directory_end number a p)) h in
      let behind = all_right Alike (directories (depth_of Tiff) number a Tiff p)
      (following (chain_directories left number a) (directory_end number a p)) h in
      let nodes = directory_same (depth_of Tiff) k Tiff p here in
      let after = after_same (chain_directories left number a) (chain_nodes left number a (k + 1))
      (chain_nodes left number b (k + 1)) (directory_end number a p) rest behind in
      let end = end_same p (first_alike (depth_of Tiff) Tiff p here) in
      let others = after ∙ ap (chain_after (chain_nodes left number b (k + 1))) end in
      λ i. nodes i ++ others i

  either_same : (t : Bool) (ps : List ℕ) (ns ms : List Node)
      → (AllByRecursion Alike ps → ns ≡ ms) → AllByRecursion Alike (if t then [] else ps)
      → elim t as (λ _. List Node) [ true ↦ [] | false ↦ ns ]
      ≡ elim t as (λ _. List Node) [ true ↦ [] | false ↦ ms ]
  either_same true ps ns ms each h = refl
  either_same false ps ns ms each h = each h

  chain_same : (left k p : ℕ) → AllByRecursion Alike (chain_directories left number a p)
      → chain_nodes left number a k p ≡ chain_nodes left number b k p
  chain_same zero k p h = refl
  chain_same (suc left) k p h =
      either_same (p == 0)
      (directories (depth_of Tiff) number a Tiff p
      ++ following (chain_directories left number a) (directory_end number a p))
      (directory_nodes (depth_of Tiff) number a k Tiff p
      ++ chain_after (chain_nodes left number a (k + 1)) (directory_end number a p))
      (directory_nodes (depth_of Tiff) number b k Tiff p
      ++ chain_after (chain_nodes left number b (k + 1)) (directory_end number b p))
      (linked_same left k p (chain_same left (k + 1))) h

  -- data of one length and order that agree on the header and the one's footprint have one trace
  pub ordered_same : Same a b 0 8 → AllByRecursion (Agree a b) (ordered_footprint number a)
      → ordered_trace number a ≡ ordered_trace number b
  unfolding ordered_trace
  ordered_same s h =
      let first : number_at number 4 a 4 ≡ number_at number 4 b 4 =
      number_same order 4 a b 4 (part_same a b 0 8 4 4 (omega arith) (omega arith) s) in
      rw (← first) (chain_same 8 0 (number_at number 4 a 4)
      (all_flat (Agree a b) (looked_at number a)
      (chain_directories 8 number a (number_at number 4 a 4)) h))
