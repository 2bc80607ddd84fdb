-- Data whose GPS directories are empty, and which are else as they were where reading looks, are
-- read as before but for these.
use Rattle.std.proofs.Common.{◌≡◌, ◌≤◌, ◌<◌, ◌+◌, ◌-◌, ◌*◌, ◌/◌, ◌==◌, ℕ, zero, suc, Bool, true, false, if◌then◌else◌, List, [], ◌∷◌, ◌++◌, length, drop, Option, Some, None, Result, Ok, Err, refl, sym, ap, ◌∙◌, arith}
use Rattle.std.specs.Prelude.{nat_lt, not, slice_index}
use Rattle.std.specs.List.{flat_map, AllByRecursion}
use Rattle.std.proofs.lemmas.Bool.Decides.{nat_tests}
use Rattle.std.proofs.lemmas.List.{length-append}
use Rattle.std.proofs.lemmas.List.Elements.{filter-append}
use Rattle.exif_base.specs.Bytes.{Reading, number_at, spaced}
use Rattle.exif_base.specs.Orders.{number_of}
use Rattle.exif_base.specs.declared.endian.Order.{Order}
use Rattle.exif_base.specs.declared.endian.Order.TheVariants.{Big, Little}
use Rattle.exif_types.specs.Numbers.{number_in}
use Rattle.exif_types.specs.declared.field.Field.{Field}
use Rattle.exif_types.specs.declared.value.Value.{Value}
use Rattle.exif_table.specs.declared.context.Context.{Context}
use Rattle.exif_table.specs.declared.context.Context.TheVariants.{Tiff, Exif, Gps, Interop}
use Rattle.exif_tiff.specs.declared.fault.Fault.{Fault}
use Rattle.exif_tiff.specs.declared.fault.Fault.TheVariants.{TruncatedCount, TruncatedDirectory, TruncatedNextOffset, TooManyDirectories}
use Rattle.exif_tiff.specs.Footprint.{Agree, named, pointed, entry_directories, following, looked_at, value_stretch}
use Rattle.exif_tiff.specs.Trace.{Node, Found, Met, Opens, Visit, opened, directories_of, field_of, chain_after, chain_nodes, child_end, child_of, depth_of, directory_end, directory_nodes, entry_nodes, entry_offsets, entry_value, fields_of, faults_of, ordered_trace, pointer_nodes, tagged_nodes, valued_nodes, whole_entries}
use Rattle.exif_tiff.proofs.Agreement.{Same, number_same, part_same, same_of}
use Rattle.exif_tiff.proofs.Footprints as footprints
use Rattle.exif_tiff.proofs.Footprints.{all_flat}
use Rattle.exif_tiff.proofs.Members.{all_append, all_left, all_right}
use Rattle.exif_tiff.proofs.ReportBound.{faults-append, fields-append}
use Rattle.exif_edit_base.specs.Locations.{gps_of, gps_offset}
use Rattle.exif_edit_base.proofs.LawsLocated.{end_has_none}
use Rattle.exif_edit.specs.Erasing.{is_gps, without_gps}
use Rattle.exif_edit.specs.GpsAlone.{all_kept, below_kept, chain_kept, directories_kept}

-- the new nodes have the fields of the old ones but those of GPS data, and no more faults
abbrev pub Kept : List Node → List Node → Type 0
Kept ns ms =
    (fields_of ms ≡ without_gps (fields_of ns)) × (length (faults_of ms) ≤ length (faults_of ns))

joined : (ns os ms ps : List Node) → Kept ns ms → Kept os ps → Kept (ns ++ os) (ms ++ ps)
joined ns os ms ps h k =
    let f = h.0 in
    let g = k.0 in
    let few = h.1 in
    let more = k.1 in
    let a = length-append (faults_of ms) (faults_of ps) in
    let b = length-append (faults_of ns) (faults_of os) in
    let split = filter-append (λ (x : Field). not (is_gps x.tag.0)) (fields_of ns) (fields_of os) in (
      rw (fields-append ms ps, fields-append ns os, f, g) (sym split),
      rw (faults-append ms ps, faults-append ns os) (omega (arith, a, b)),
    )

-- nodes without fields that are the same
unfielded : (ns ms : List Node) → fields_of ns ≡ [] → ns ≡ ms → Kept ns ms
unfielded ns ms h s =
    let none = ap without_gps h in
    (ap fields_of (sym s) ∙ (h ∙ sym none), let l = ap (λ xs. length (faults_of xs)) s in omega (arith, l))

-- the offsets of the GPS directories of nodes
abbrev pub gps_in : List Node → List ℕ
gps_in nodes = gps_of (directories_of nodes)

-- taken apart
gps_left : (P : ℕ → Type 0) (xs ys : List Node) → AllByRecursion P (gps_in (xs ++ ys))
    → AllByRecursion P (gps_in xs) × AllByRecursion P (gps_in ys)
gps_left P [] ys h = (tt, h)
gps_left P (Opens d ∷ xs) ys h =
    let own = gps_offset d.context d.offset in
    let r = gps_left P xs ys (all_right P own (gps_in (xs ++ ys)) h) in
    (all_append P own (gps_in xs) (all_left P own (gps_in (xs ++ ys)) h) r.0, r.1)
gps_left P (Visit ∷ xs) ys h = gps_left P xs ys h
gps_left P (Found l ∷ xs) ys h = gps_left P xs ys h
gps_left P (Met fault ∷ xs) ys h = gps_left P xs ys h

gps_flat : (P : ℕ → Type 0) (f : ℕ → List Node) (ps : List ℕ)
    → AllByRecursion P (gps_in (flat_map f ps))
    → AllByRecursion (λ p. AllByRecursion P (gps_in (f p))) ps
gps_flat P f [] h = tt
gps_flat P f (p ∷ ps) h =
    let r = gps_left P (f p) (flat_map f ps) h in (r.0, gps_flat P f ps r.1)

-- pieces that are kept one by one
each : (f g : ℕ → List Node) (P Q R S : ℕ → Type 0) (ps : List ℕ)
    → ((p : ℕ) → P p → Q p → R p → S p → Kept (f p) (g p))
    → AllByRecursion P ps → AllByRecursion Q ps → AllByRecursion R ps → AllByRecursion S ps
    → Kept (flat_map f ps) (flat_map g ps)
each f g P Q R S [] t x y z w = (refl, omega arith)
each f g P Q R S (p ∷ ps) t x y z w =
    joined (f p) (flat_map f ps) (g p) (flat_map g ps) (t p x.0 y.0 z.0 w.0)
    (each f g P Q R S ps t x.1 y.1 z.1 w.1)

-- ---- GPS directories

-- the old ones have fields of GPS data alone
no_others : (f : ℕ → List Node) (ps : List ℕ) → ((p : ℕ) → without_gps (fields_of (f p)) ≡ [])
    → without_gps (fields_of (flat_map f ps)) ≡ []
no_others f [] h = refl
no_others f (p ∷ ps) h =
    let one = h p in
    let rest = no_others f ps h in
    let split = filter-append (λ (x : Field). not (is_gps x.tag.0)) (fields_of (f p))
    (fields_of (flat_map f ps)) in
    rw (fields-append (f p) (flat_map f ps), split, one, rest) refl

gps_alone : (depth : ℕ) (number : Reading) (bytes : List ℕ) (k p : ℕ)
    → without_gps (fields_of (directory_nodes depth number bytes k Gps p)) ≡ []
gps_alone zero number bytes k p = refl
gps_alone (suc depth) number bytes k p =
    no_others (entry_nodes (directory_nodes depth number bytes k) number bytes Gps k p)
    (entry_offsets number bytes p)
    (λ e. by_value (number_at number 2 bytes e) e (entry_value number bytes e))
  where
    by_value : (n e : ℕ) (o : Option Value)
        → without_gps (fields_of (valued_nodes (directory_nodes depth number bytes k) number bytes Gps
        k p n e o)) ≡ []
    by_value n e None = refl
    by_value n e (Some v) = refl

-- a GPS directory is the first that it opens
gps_first : (P : ℕ → Type 0) (depth : ℕ) (number : Reading) (bytes : List ℕ) (k q : ℕ)
    → AllByRecursion P (gps_in (directory_nodes depth number bytes k Gps q)) → P q
gps_first P zero number bytes k q h = h.0
gps_first P (suc depth) number bytes k q h = h.0

none_dropped : (q : ℕ) → drop {A = ℕ} q [] ≡ []
none_dropped zero = refl
none_dropped (suc q) = refl

two_none : (order : Order) → number_of order 2 [] ≡ 0
two_none Big = refl
two_none Little = refl

four_none : (order : Order) → number_of order 4 [] ≡ 0
four_none Big = refl
four_none Little = refl

module _ (order : Order) (a b : List ℕ) (as_long : length a ≡ length b) where
  abbrev number : Reading
  number = number_of order

  abbrev Alike : ℕ → Type 0
  Alike p = AllByRecursion (Agree a b) (looked_at number a p)

  -- the count and the next offset of an empty directory are zeros
  abbrev pub Emptied : ℕ → Type 0
  Emptied q = (i : ℕ) → q ≤ i → i < q + 6 → slice_index b i ≡ 0

  zero_at : (n q p : ℕ) → number n [] ≡ 0 → q ≤ p → p + n ≤ q + 6 → Emptied q
      → number_at number n b p ≡ 0
  zero_at n q p none low high z =
      sym (number_same order n [] b p (λ i from to. sym (z i (omega arith) (omega arith))))
      ∙ (ap (number n) (none_dropped p) ∙ none)

  -- an empty directory ends with no more faults
  fewer_by : (s t u v : Bool) (x : ℕ) → (v ≡ true → t ≡ false → u ≡ true)
      → length (faults_of (child_end (if s then Err TruncatedCount else
      (if v then Err TruncatedNextOffset else Ok 0))))
      ≤ length (faults_of (child_end (if s then Err TruncatedCount else
      (if t then Err TruncatedDirectory else (if u then Err TruncatedNextOffset else Ok x)))))
  fewer_by true t u v x h = omega arith
  fewer_by false t u false x h = omega arith
  fewer_by false true u true x h = omega arith
  fewer_by false false u true x h = let on = h refl refl in rw on (omega arith)

  emptied_end : (q : ℕ) → Emptied q
      → directory_end number b q ≡ (if nat_lt (length a) (q + 2) then Err TruncatedCount else
      (if nat_lt (length a) (q + 2 + 4) then Err TruncatedNextOffset else Ok 0))
  emptied_end q z =
      let count = zero_at 2 q q (two_none order) (omega arith) (omega arith) z in
      let next = zero_at 4 q (q + 2) (four_none order) (omega arith) (omega arith) z in
      let none : nat_lt ((length a - q - 2) / 12) 0 ≡ false = grind (arith, nat_tests) in
      let here : q + 2 + 12 * 0 ≡ q + 2 = omega arith in
      rw (← as_long, count, none, here, next) refl

  gone : (depth k q : ℕ) → Emptied q
      → Kept (directory_nodes depth number a k Gps q ++ child_end (directory_end number a q))
      (directory_nodes depth number b k Gps q ++ child_end (directory_end number b q))
  gone depth k q z =
      let count = zero_at 2 q q (two_none order) (omega arith) (omega arith) z in
      let m = number_at number 2 a q in
      let held = none depth in
      let fields = fields-append (directory_nodes depth number a k Gps q)
      (child_end (directory_end number a q)) in
      let faults = faults-append (directory_nodes depth number a k Gps q)
      (child_end (directory_end number a q)) in
      let sum = length-append (faults_of (directory_nodes depth number a k Gps q))
      (faults_of (child_end (directory_end number a q))) in
      let split = filter-append (λ (x : Field). not (is_gps x.tag.0))
      (fields_of (directory_nodes depth number a k Gps q))
      (fields_of (child_end (directory_end number a q))) in
      let own = gps_alone depth number a k q in
      let ea = end_has_none (directory_end number a q) in
      let eb = end_has_none (directory_end number b q) in
      let few = fewer_by (nat_lt (length a) (q + 2)) (nat_lt ((length a - q - 2) / 12) m)
      (nat_lt (length a) (q + 2 + 12 * m + 4)) (nat_lt (length a) (q + 2 + 4))
      (number_at number 4 a (q + 2 + 12 * m)) (λ v t. grind (arith, nat_tests)) in
      let end = emptied_end q z in
      let lesser : length (faults_of (child_end (directory_end number b q)))
      ≤ length (faults_of (child_end (directory_end number a q))) = rw end few in (
        rw (held, fields, split, own, ea, eb) refl,
        rw (held, faults) (omega (arith, sum, lesser)),
      )
    where
      no_offsets : Emptied q → entry_offsets number b q ≡ []
      no_offsets z =
          let count = zero_at 2 q q (two_none order) (omega arith) (omega arith) z in
          let w : whole_entries number b q ≡ 0 = omega (arith, count) in
          ap (spaced (q + 2) 12) w

      none : (depth : ℕ) → directory_nodes depth number b k Gps q ≡ opened Gps q []
      none zero = refl
      none (suc depth) = let p = no_offsets z in rw p refl

  ended : (ns ms : List Node) (x y : Result ℕ Fault) → Kept ns ms → x ≡ y
      → Kept (ns ++ child_end x) (ms ++ child_end y)
  ended ns ms x y h s =
      joined ns (child_end x) ms (child_end y) h
      (unfielded (child_end x) (child_end y) (end_has_none x) (ap child_end s))

  -- the directory itself is the first of those below it
  first_alike : (depth : ℕ) (d : Context) (q : ℕ)
      → AllByRecursion Alike (directories_kept depth number a d q) → Alike q
  first_alike zero d q h = h.0
  first_alike (suc depth) d q h = h.0

  -- what is to be shown of a directory that is none of GPS data
  abbrev KeptAt : ℕ → ℕ → Context → ℕ → Type 0
  KeptAt depth k c p =
      is_gps c ≡ false → AllByRecursion Alike (directories_kept depth number a c p)
      → AllByRecursion Emptied (gps_in (directory_nodes depth number a k c p))
      → Kept (directory_nodes depth number a k c p) (directory_nodes depth number b k c p)

  module _ (depth k : ℕ) (below : (c : Context) (q : ℕ) → KeptAt depth k c q) where
    child_kept : (d : Context) (q : ℕ) → is_gps d ≡ false
        → AllByRecursion Alike (directories_kept depth number a d q)
        → AllByRecursion Emptied (gps_in (directory_nodes depth number a k d q))
        → Kept (directory_nodes depth number a k d q ++ child_end (directory_end number a q))
        (directory_nodes depth number b k d q ++ child_end (directory_end number b q))
    child_kept d q other h z =
        ended (directory_nodes depth number a k d q) (directory_nodes depth number b k d q)
        (directory_end number a q) (directory_end number b q) (below d q other h z)
        (footprints.end_same order a b as_long q (first_alike depth d q h))

    held : (d : Context) (q : ℕ)
        → AllByRecursion Emptied
        (gps_in (directory_nodes depth number a k d q ++ child_end (directory_end number a q)))
        → AllByRecursion Emptied (gps_in (directory_nodes depth number a k d q))
    held d q z =
        (gps_left Emptied (directory_nodes depth number a k d q)
        (child_end (directory_end number a q)) z).0

    pointer_kept : (d : Context) (o : Option ℕ)
        → AllByRecursion Alike (named (below_kept (directories_kept depth number a)) d o)
        → AllByRecursion Emptied
        (gps_in (pointer_nodes (directory_nodes depth number a k) number a d o))
        → Kept (pointer_nodes (directory_nodes depth number a k) number a d o)
        (pointer_nodes (directory_nodes depth number b k) number b d o)
    pointer_kept d None h z = (refl, omega arith)
    pointer_kept Gps (Some q) h z =
        gone depth k q (gps_first Emptied depth number a k q (held Gps q z))
    pointer_kept Tiff (Some q) h z = child_kept Tiff q refl h (held Tiff q z)
    pointer_kept Exif (Some q) h z = child_kept Exif q refl h (held Exif q z)
    pointer_kept Interop (Some q) h z = child_kept Interop q refl h (held Interop q z)

    tagged_kept : (c : Context) (p n e : ℕ) (v : Value) (o : Option Context) → is_gps c ≡ false
        → AllByRecursion Alike (pointed (below_kept (directories_kept depth number a)) o (Some v))
        → AllByRecursion Emptied
        (gps_in (tagged_nodes (directory_nodes depth number a k) number a c k p n e v o))
        → Kept (tagged_nodes (directory_nodes depth number a k) number a c k p n e v o)
        (tagged_nodes (directory_nodes depth number b k) number b c k p n e v o)
    tagged_kept c p n e v None other h z =
        let field : Field = field_of c k n v in
        (ap (λ t. if not t then field ∷ [] else []) (sym other), omega arith)
    tagged_kept c p n e v (Some d) other h z = pointer_kept d (number_in v 0) h z

    valued_kept : (c : Context) (p n e : ℕ) (o : Option Value) → is_gps c ≡ false
        → AllByRecursion Alike
        (pointed (below_kept (directories_kept depth number a)) (child_of c n) o)
        → AllByRecursion Emptied
        (gps_in (valued_nodes (directory_nodes depth number a k) number a c k p n e o))
        → Kept (valued_nodes (directory_nodes depth number a k) number a c k p n e o)
        (valued_nodes (directory_nodes depth number b k) number b c k p n e o)
    valued_kept c p n e None other h z = (refl, omega arith)
    valued_kept c p n e (Some v) other h z = tagged_kept c p n e v (child_of c n) other h z

    entry_kept : (c : Context) (p e : ℕ) → is_gps c ≡ false → Same a b e 12
        → AllByRecursion (Agree a b) (value_stretch number a e)
        → AllByRecursion Alike
        (entry_directories (below_kept (directories_kept depth number a)) number a c e)
        → AllByRecursion Emptied
        (gps_in (entry_nodes (directory_nodes depth number a k) number a c k p e))
        → Kept (entry_nodes (directory_nodes depth number a k) number a c k p e)
        (entry_nodes (directory_nodes depth number b k) number b c k p e)
    entry_kept c p e other whole values ds z =
        let tag : number_at number 2 a e ≡ number_at number 2 b e =
        number_same order 2 a b e (part_same a b e 12 e 2 (omega arith) (omega arith) whole) in
        let value = footprints.value_same order a b as_long e whole values in
        rw (← tag, ← value)
        (valued_kept c p (number_at number 2 a e) e (entry_value number a e) other ds z)

  directory_kept : (depth k : ℕ) (c : Context) (p : ℕ) → KeptAt depth k c p
  directory_kept zero k c p other h z = (refl, omega arith)
  directory_kept (suc depth) k c p other h z =
      rw (← footprints.offsets_same order a b as_long p h.0)
      (each (entry_nodes (directory_nodes depth number a k) number a c k p)
      (entry_nodes (directory_nodes depth number b k) number b c k p) (λ e. Same a b e 12)
      (λ e. AllByRecursion (Agree a b) (value_stretch number a e))
      (λ e. AllByRecursion Alike
      (entry_directories (below_kept (directories_kept depth number a)) number a c e))
      (λ e. AllByRecursion Emptied
      (gps_in (entry_nodes (directory_nodes depth number a k) number a c k p e)))
      (entry_offsets number a p)
      (λ e x y u v. entry_kept depth k (directory_kept depth k) c p e other x y u v)
      (footprints.entries_same order a b as_long p h.0)
      (all_flat (Agree a b) (value_stretch number a) (entry_offsets number a p) h.0.1)
      (all_flat Alike
      (entry_directories (below_kept (directories_kept depth number a)) number a c)
      (entry_offsets number a p) h.1)
      (gps_flat Emptied (entry_nodes (directory_nodes depth number a k) number a c k p)
      (entry_offsets number a p) (all_right Emptied (gps_offset c p) _ z)))

  after_kept : (rest : ℕ → List ℕ) (f g : ℕ → List Node) (x : Result ℕ Fault)
      → ((q : ℕ) → AllByRecursion Alike (rest q) → AllByRecursion Emptied (gps_in (f q))
      → Kept (f q) (g q)) → AllByRecursion Alike (following rest x)
      → AllByRecursion Emptied (gps_in (chain_after f x))
      → Kept (chain_after f x) (chain_after g x)
  after_kept rest f g (Err fault) each h z = (refl, omega arith)
  after_kept rest f g (Ok next) each h z = each next h z

  linked_kept : (left k p : ℕ)
      → ((q : ℕ) → AllByRecursion Alike (chain_kept left number a q)
      → AllByRecursion Emptied (gps_in (chain_nodes left number a (k + 1) q))
      → Kept (chain_nodes left number a (k + 1) q) (chain_nodes left number b (k + 1) q))
      → AllByRecursion Alike (directories_kept (depth_of Tiff) number a Tiff p
      ++ following (chain_kept left number a) (directory_end number a p))
      → AllByRecursion Emptied (gps_in (directory_nodes (depth_of Tiff) number a k Tiff p
      ++ chain_after (chain_nodes left number a (k + 1)) (directory_end number a p)))
      → Kept (directory_nodes (depth_of Tiff) number a k Tiff p
      ++ chain_after (chain_nodes left number a (k + 1)) (directory_end number a p))
      (directory_nodes (depth_of Tiff) number b k Tiff p
      ++ chain_after (chain_nodes left number b (k + 1)) (directory_end number b p))
  linked_kept left k p rest h z =
      let here = all_left Alike (directories_kept (depth_of Tiff) number a Tiff p)
      (following (chain_kept left number a) (directory_end number a p)) h in
      let behind = all_right Alike (directories_kept (depth_of Tiff) number a Tiff p)
      (following (chain_kept left number a) (directory_end number a p)) h in
      let offsets = gps_left Emptied (directory_nodes (depth_of Tiff) number a k Tiff p)
      (chain_after (chain_nodes left number a (k + 1)) (directory_end number a p)) z in
      let end = footprints.end_same order a b as_long p (first_alike (depth_of Tiff) Tiff p here) in
      rw (← end)
      (joined (directory_nodes (depth_of Tiff) number a k Tiff p)
      (chain_after (chain_nodes left number a (k + 1)) (directory_end number a p))
      (directory_nodes (depth_of Tiff) number b k Tiff p)
      (chain_after (chain_nodes left number b (k + 1)) (directory_end number a p))
      (directory_kept (depth_of Tiff) k Tiff p refl here offsets.0)
      (after_kept (chain_kept left number a) (chain_nodes left number a (k + 1))
      (chain_nodes left number b (k + 1))
      (directory_end number a p) rest behind offsets.1))

  either_kept : (t : Bool) (ps : List ℕ) (ns ms : List Node)
      → (AllByRecursion Alike ps → AllByRecursion Emptied (gps_in ns) → Kept ns ms)
      → AllByRecursion Alike (if t then [] else ps)
      → AllByRecursion Emptied (gps_in (elim t as (λ _. List Node) [ true ↦ [] | false ↦ ns ]))
      → Kept (elim t as (λ _. List Node) [ true ↦ [] | false ↦ ns ])
      (elim t as (λ _. List Node) [ true ↦ [] | false ↦ ms ])
  either_kept true ps ns ms each h z = (refl, omega arith)
  either_kept false ps ns ms each h z = each h z

  nodes_kept : (left k p : ℕ) → AllByRecursion Alike (chain_kept left number a p)
      → AllByRecursion Emptied (gps_in (chain_nodes left number a k p))
      → Kept (chain_nodes left number a k p) (chain_nodes left number b k p)
  nodes_kept zero k p h z =
      unfielded (if p == 0 then [] else Met TooManyDirectories ∷ [])
      (if p == 0 then [] else Met TooManyDirectories ∷ []) (by_zero (p == 0)) refl
    where
      by_zero : (t : Bool) → fields_of (if t then [] else Met TooManyDirectories ∷ []) ≡ []
      by_zero true = refl
      by_zero false = refl
  nodes_kept (suc left) k p h z =
      either_kept (p == 0)
      (directories_kept (depth_of Tiff) number a Tiff p
      ++ following (chain_kept left number a) (directory_end number a p))
      (directory_nodes (depth_of Tiff) number a k Tiff p
      ++ chain_after (chain_nodes left number a (k + 1)) (directory_end number a p))
      (directory_nodes (depth_of Tiff) number b k Tiff p
      ++ chain_after (chain_nodes left number b (k + 1)) (directory_end number b p))
      (linked_kept left k p (nodes_kept left (k + 1))) h z

  -- where both agree but for GPS directories, now empty, other fields stay, with no more faults
  pub ordered_kept : AllByRecursion (Agree a b) (all_kept number a)
      → AllByRecursion Emptied (gps_in (ordered_trace number a))
      → Kept (ordered_trace number a) (ordered_trace number b)
  unfolding ordered_trace
  ordered_kept h z =
      let s = same_of a b 0 8 h.0 in
      let first : number_at number 4 a 4 ≡ number_at number 4 b 4 =
      number_same order 4 a b 4 (part_same a b 0 8 4 4 (omega arith) (omega arith) s) in
      rw (← first) (nodes_kept 8 0 (number_at number 4 a 4)
      (all_flat (Agree a b) (looked_at number a)
      (chain_kept 8 number a (number_at number 4 a 4)) h.1) z)
