-- Data that agree on the footprint of the one have the same footprint.
use Rattle.std.proofs.Common.{◌≡◌, ◌+◌, ◌==◌, ℕ, zero, suc, Bool, true, false, if◌then◌else◌, List, [], ◌∷◌, ◌++◌, length, Option, Some, None, Result, Ok, Err, refl, ap, ◌∙◌, arith}
use Rattle.std.specs.List.{AllByRecursion}
use Rattle.exif_base.specs.Bytes.{number_at}
use Rattle.exif_base.specs.Orders.{number_of}
use Rattle.exif_base.specs.declared.endian.Order.{Order}
use Rattle.exif_types.specs.Numbers.{number_in}
use Rattle.exif_types.specs.declared.value.Value.{Value}
use Rattle.exif_table.specs.declared.context.Context.{Context}
use Rattle.exif_table.specs.declared.context.Context.TheVariants.{Tiff}
use Rattle.exif_tiff.specs.declared.fault.Fault.{Fault}
use Rattle.exif_tiff.specs.Footprint.{Agree, Below, named, pointed, entry_directories, directories, following, chain_directories, directory_stretch, value_stretch, looked_at, ordered_footprint}
use Rattle.exif_tiff.specs.Trace.{child_of, depth_of, directory_end, entry_offsets, entry_value}
use Rattle.exif_tiff.proofs.Agreement.{Same, number_same, part_same}
use Rattle.exif_tiff.proofs.Footprints.{Alike, ValueAlike, all_flat, each_same, end_same, entries_same, first_alike, offsets_same, value_same, whole_same}
use Rattle.exif_tiff.proofs.Members.{all_left, all_right}

module _ (order : Order) (a b : List ℕ) (as_long : length a ≡ length b) where
  -- the values of an entry
  value_stretch_same : (e : ℕ) → Same a b e 12
      → value_stretch (number_of order) a e ≡ value_stretch (number_of order) b e
  value_stretch_same e h =
      let types = number_same order 2 a b (e + 2) (part_same a b e 12 (e + 2) 2 (omega arith) (omega arith) h) in
      let counts = number_same order 4 a b (e + 4) (part_same a b e 12 (e + 4) 4 (omega arith) (omega arith) h) in
      let offsets = number_same order 4 a b (e + 8) (part_same a b e 12 (e + 8) 4 (omega arith) (omega arith) h) in
      rw (types, counts, offsets, as_long) refl

  looked_same : (p : ℕ) → Alike order a b as_long p
      → looked_at (number_of order) a p ≡ looked_at (number_of order) b p
  looked_same p h =
      let whole = whole_same order a b as_long p h in
      let es = offsets_same order a b as_long p h in
      let here = entries_same order a b as_long p h in
      let values = each_same (value_stretch (number_of order) a) (value_stretch (number_of order) b)
      (λ e. Same a b e 12) (λ e. Same a b e 12) (λ e. Same a b e 12) (entry_offsets (number_of order) a p)
      (λ e s t u. value_stretch_same e s) here here here in
      rw (← es, ← whole) (ap (λ rest. directory_stretch (number_of order) a p ∷ rest) values)

  -- the directories below an entry
  module _ (f g : Below)
      (same : (d : Context) (q : ℕ) → AllByRecursion (Alike order a b as_long) (f d q) → f d q ≡ g d q) where
    named_same : (d : Context) (o : Option ℕ) → AllByRecursion (Alike order a b as_long) (named f d o)
        → named f d o ≡ named g d o
    named_same d None h = refl
    named_same d (Some q) h = same d q h

    pointed_same : (c : Option Context) (o : Option Value)
        → AllByRecursion (Alike order a b as_long) (pointed f c o) → pointed f c o ≡ pointed g c o
    pointed_same None o h = refl
    pointed_same (Some d) None h = refl
    pointed_same (Some d) (Some v) h = named_same d (number_in v 0) h

    below_same : (c : Context) (e : ℕ) → Same a b e 12 → ValueAlike order a b as_long e
        → AllByRecursion (Alike order a b as_long) (entry_directories f (number_of order) a c e)
        → entry_directories f (number_of order) a c e ≡ entry_directories g (number_of order) b c e
    below_same c e h v d =
        let tags = number_same order 2 a b e (part_same a b e 12 e 2 (omega arith) (omega arith) h) in
        let values = value_same order a b as_long e h v in
        rw (← tags, ← values)
        (pointed_same (child_of c (number_at (number_of order) 2 a e))
        (entry_value (number_of order) a e) d)

  directories_same : (depth : ℕ) (c : Context) (p : ℕ)
      → AllByRecursion (Alike order a b as_long) (directories depth (number_of order) a c p)
      → directories depth (number_of order) a c p ≡ directories depth (number_of order) b c p
  directories_same zero c p h = refl
  directories_same (suc depth) c p h =
      rw (← offsets_same order a b as_long p h.0)
      (ap (λ rest. p ∷ rest)
      (each_same (entry_directories (directories depth (number_of order) a) (number_of order) a c)
      (entry_directories (directories depth (number_of order) b) (number_of order) b c)
      (λ e. Same a b e 12) (ValueAlike order a b as_long)
      (λ e. AllByRecursion (Alike order a b as_long)
      (entry_directories (directories depth (number_of order) a) (number_of order) a c e))
      (entry_offsets (number_of order) a p)
      (below_same (directories depth (number_of order) a) (directories depth (number_of order) b)
      (directories_same depth) c)
      (entries_same order a b as_long p h.0)
      (all_flat (Agree a b) (value_stretch (number_of order) a) (entry_offsets (number_of order) a p) h.0.1)
      (all_flat (Alike order a b as_long)
      (entry_directories (directories depth (number_of order) a) (number_of order) a c)
      (entry_offsets (number_of order) a p) h.1)))

  following_same : (f g : ℕ → List ℕ) (x : Result ℕ Fault)
      → ((q : ℕ) → AllByRecursion (Alike order a b as_long) (f q) → f q ≡ g q)
      → AllByRecursion (Alike order a b as_long) (following f x) → following f x ≡ following g x
  following_same f g (Err fault) each h = refl
  following_same f g (Ok next) each h = each next h

  linked_same : (left p : ℕ)
      → ((q : ℕ)
      → AllByRecursion (Alike order a b as_long) (chain_directories left (number_of order) a q)
      → chain_directories left (number_of order) a q ≡ chain_directories left (number_of order) b q)
      → AllByRecursion (Alike order a b as_long)
      (directories (depth_of Tiff) (number_of order) a Tiff p
      ++ following (chain_directories left (number_of order) a) (directory_end (number_of order) a p))
      → directories (depth_of Tiff) (number_of order) a Tiff p
      ++ following (chain_directories left (number_of order) a) (directory_end (number_of order) a p)
      ≡ directories (depth_of Tiff) (number_of order) b Tiff p
      ++ following (chain_directories left (number_of order) b) (directory_end (number_of order) b p)
  linked_same left p rest h =
      let first = directories (depth_of Tiff) (number_of order) a Tiff p in
      let others = following (chain_directories left (number_of order) a) (directory_end (number_of order) a p) in
      let here = all_left (Alike order a b as_long) first others h in
      let behind = all_right (Alike order a b as_long) first others h in
      let end = end_same order a b as_long p (first_alike order a b as_long (depth_of Tiff) Tiff p here) in
      let tree = directories_same (depth_of Tiff) Tiff p here in
      let after = following_same (chain_directories left (number_of order) a)
      (chain_directories left (number_of order) b) (directory_end (number_of order) a p) rest behind in
      let others_same = after ∙ ap (following (chain_directories left (number_of order) b)) end in
      λ i. tree i ++ others_same i

  either_same : (t : Bool) (ps qs : List ℕ)
      → (AllByRecursion (Alike order a b as_long) ps → ps ≡ qs)
      → AllByRecursion (Alike order a b as_long) (if t then [] else ps)
      → (if t then [] else ps) ≡ (if t then [] else qs)
  either_same true ps qs each h = refl
  either_same false ps qs each h = each h

  chain_same : (left p : ℕ)
      → AllByRecursion (Alike order a b as_long) (chain_directories left (number_of order) a p)
      → chain_directories left (number_of order) a p ≡ chain_directories left (number_of order) b p
  chain_same zero p h = refl
  chain_same (suc left) p h =
      either_same (p == 0)
      (directories (depth_of Tiff) (number_of order) a Tiff p
      ++ following (chain_directories left (number_of order) a) (directory_end (number_of order) a p))
      (directories (depth_of Tiff) (number_of order) b Tiff p
      ++ following (chain_directories left (number_of order) b) (directory_end (number_of order) b p))
      (linked_same left p (chain_same left)) h

  -- data of one length and order that agree on the header and the one's footprint both have it
  pub shared_in_order : Same a b 0 8
      → AllByRecursion (Agree a b) (ordered_footprint (number_of order) a)
      → ordered_footprint (number_of order) a ≡ ordered_footprint (number_of order) b
  shared_in_order s h =
      let first : number_at (number_of order) 4 a 4 ≡ number_at (number_of order) 4 b 4 =
      number_same order 4 a b 4 (part_same a b 0 8 4 4 (omega arith) (omega arith) s) in
      let ps = chain_directories 8 (number_of order) a (number_at (number_of order) 4 a 4) in
      let alike = all_flat (Agree a b) (looked_at (number_of order) a) ps h in
      let chain = chain_same 8 (number_at (number_of order) 4 a 4) alike in
      rw (← first, ← chain)
      (each_same (looked_at (number_of order) a) (looked_at (number_of order) b)
      (Alike order a b as_long) (Alike order a b as_long) (Alike order a b as_long) ps
      (λ p x y z. looked_same p x) alike alike alike)
