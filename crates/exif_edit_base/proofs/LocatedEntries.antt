-- Each located field is what its entry says, and the entry and its value lie in the data.
use Rattle.std.proofs.Common.{◌≡◌, ◌≤◌, ◌+◌, ◌-◌, ◌*◌, ◌/◌, ◌==◌, ℕ, zero, suc, Bool, true, false, if◌then◌else◌, List, [], ◌∷◌, ◌++◌, length, Option, Some, None, Result, Ok, Err, refl, subst, arith}
use Rattle.std.specs.List.{flat_map, list_any, AllByRecursion}
use Rattle.exif_base.specs.Bytes.{Reading, number_at, spaced}
use Rattle.exif_table.specs.declared.context.Context.{Context}
use Rattle.exif_table.specs.declared.context.Context.TheVariants.{Tiff}
use Rattle.exif_text.specs.declared.ifd.In.{In}
use Rattle.exif_types.specs.Lookup.{is_named}
use Rattle.exif_types.specs.Numbers.{number_in}
use Rattle.exif_types.specs.declared.field.Field.{Field}
use Rattle.exif_types.specs.declared.tag.Tag.{Tag}
use Rattle.exif_types.specs.declared.value.Value.{Value}
use Rattle.exif_tiff.specs.Trace.{Directory, Found, Located, Met, Node, Opens, Visit, chain_after, chain_nodes, child_end, child_of, depth_of, directory_end, directory_nodes, entry_nodes, entry_offsets, entry_value, located_of, ordered_trace, pointer_nodes, tagged_nodes, valued_nodes, whole_entries}
use Rattle.exif_tiff.specs.declared.fault.Fault.{Fault}
use Rattle.exif_tiff.specs.declared.fault.Fault.TheVariants.{TooManyDirectories, UnexpectedNext}
use Rattle.exif_edit_base.specs.Finding.{last_located}

module _ (number : Reading) (bytes : List ℕ) where
  -- a field is what its entry says
  pub record IsSaid (f : Field) (e : ℕ) : Type 0 where
    pub whole : e + 12 ≤ length bytes
    pub value : entry_value number bytes e ≡ Some f.value
    pub tag : number_at number 2 bytes e ≡ f.tag.1

  -- each field that these nodes find is what its entry says
  abbrev pub AreSaid : List Node → Type 0
  AreSaid [] = Unit {0}
  AreSaid (Opens d ∷ nodes) = AreSaid nodes
  AreSaid (Visit ∷ nodes) = AreSaid nodes
  AreSaid (Found l ∷ nodes) = IsSaid l.field l.entry × AreSaid nodes
  AreSaid (Met fault ∷ nodes) = AreSaid nodes

  joined : (xs ys : List Node) → AreSaid xs → AreSaid ys → AreSaid (xs ++ ys)
  joined [] ys h k = k
  joined (Opens d ∷ xs) ys h k = joined xs ys h k
  joined (Visit ∷ xs) ys h k = joined xs ys h k
  joined (Found l ∷ xs) ys h k = (h.0, joined xs ys h.1 k)
  joined (Met fault ∷ xs) ys h k = joined xs ys h k

  fault_said : (b : Bool) (fault : Fault) → AreSaid (if b then [] else Met fault ∷ [])
  fault_said true fault = tt
  fault_said false fault = tt

  end_said : (x : Result ℕ Fault) → AreSaid (child_end x)
  end_said (Err fault) = tt
  end_said (Ok next) = fault_said (next == 0) UnexpectedNext

  each : (f : ℕ → List Node) (ps : List ℕ) → ((e : ℕ) → e + 12 ≤ length bytes → AreSaid (f e))
      → AllByRecursion (λ e. e + 12 ≤ length bytes) ps → AreSaid (flat_map f ps)
  each f [] h k = tt
  each f (p ∷ ps) h k = joined (f p) (flat_map f ps) (h p k.0) (each f ps h k.1)

  spaced_whole : (q w : ℕ) → q + 12 * w ≤ length bytes
      → AllByRecursion (λ e. e + 12 ≤ length bytes) (spaced q 12 w)
  spaced_whole q zero h = tt
  spaced_whole q (suc w) h = (omega arith, spaced_whole (q + 12) w (omega arith))

  -- each whole entry of the directory at p has all of its 12 bytes in the data
  pub offsets_whole : (p : ℕ) → AllByRecursion (λ e. e + 12 ≤ length bytes) (entry_offsets number bytes p)
  offsets_whole p = by_count (whole_entries number bytes p) (omega arith)
    where
      by_count : (w : ℕ) → w ≤ (length bytes - p - 2) / 12
          → AllByRecursion (λ e. e + 12 ≤ length bytes) (spaced (p + 2) 12 w)
      by_count zero h = tt
      by_count (suc w) h = spaced_whole (p + 2) (suc w) (omega arith)

  pointer : (child : Directory) (c : Context) (o : Option ℕ)
      → ((d : Context) (q : ℕ) → AreSaid (child d q)) → AreSaid (pointer_nodes child number bytes c o)
  pointer child c None h = tt
  pointer child c (Some q) h =
      joined (child c q) (child_end (directory_end number bytes q)) (h c q)
      (end_said (directory_end number bytes q))

  tagged : (child : Directory) (c : Context) (k p n e : ℕ) (v : Value) (o : Option Context)
      → e + 12 ≤ length bytes → number_at number 2 bytes e ≡ n → entry_value number bytes e ≡ Some v
      → ((d : Context) (q : ℕ) → AreSaid (child d q))
      → AreSaid (tagged_nodes child number bytes c k p n e v o)
  tagged child c k p n e v None w t s h = (record { whole = w; value = s; tag = t }, tt)
  tagged child c k p n e v (Some d) w t s h = pointer child d (number_in v 0) h

  valued : (child : Directory) (c : Context) (k p n e : ℕ) (o : Option Value) → e + 12 ≤ length bytes
      → number_at number 2 bytes e ≡ n → entry_value number bytes e ≡ o
      → ((d : Context) (q : ℕ) → AreSaid (child d q))
      → AreSaid (valued_nodes child number bytes c k p n e o)
  valued child c k p n e None w t s h = tt
  valued child c k p n e (Some v) w t s h = tagged child c k p n e v (child_of c n) w t s h

  directory : (depth k : ℕ) (c : Context) (p : ℕ)
      → AreSaid (directory_nodes depth number bytes k c p)
  directory zero k c p = tt
  directory (suc depth) k c p =
      each (entry_nodes (directory_nodes depth number bytes k) number bytes c k p)
      (entry_offsets number bytes p)
      (λ e w. valued (directory_nodes depth number bytes k) c k p (number_at number 2 bytes e) e
      (entry_value number bytes e) w refl refl (directory depth k)) (offsets_whole p)

  after : (rest : ℕ → List Node) (x : Result ℕ Fault) → ((p : ℕ) → AreSaid (rest p))
      → AreSaid (chain_after rest x)
  after rest (Err fault) h = tt
  after rest (Ok next) h = h next

  chain : (left k p : ℕ) → AreSaid (chain_nodes left number bytes k p)
  chain zero k p = fault_said (p == 0) TooManyDirectories
  chain (suc left) k p = by_zero (p == 0) (chain left (k + 1))
    where
      by_zero : (b : Bool) → ((q : ℕ) → AreSaid (chain_nodes left number bytes (k + 1) q))
          → AreSaid (elim b as (λ c. List Node) [
            | true ↦ []
            | false ↦ directory_nodes (depth_of Tiff) number bytes k Tiff p
                ++ chain_after (chain_nodes left number bytes (k + 1)) (directory_end number bytes p)
          ])
      by_zero true h = tt
      by_zero false h =
          joined (directory_nodes (depth_of Tiff) number bytes k Tiff p)
          (chain_after (chain_nodes left number bytes (k + 1)) (directory_end number bytes p))
          (directory (depth_of Tiff) k Tiff p)
          (after (chain_nodes left number bytes (k + 1)) (directory_end number bytes p) h)

  -- each field that is found in the data is what its entry says
  pub ordered_said : AreSaid (ordered_trace number bytes)
  unfolding ordered_trace
  ordered_said = chain 8 0 (number_at number 4 bytes 4)

  -- the last of a name
  one_said : (tag : Tag) (k : In) (nodes : List Node) (at : Located) → AreSaid nodes
      → last_located tag k (located_of nodes) ≡ Some at
      → IsSaid at.field at.entry × (is_named tag k at.field ≡ true)
  one_said tag k [] at h e = absurd (none_some e)
    where
      none_some : ◌≡◌ {A = Option Located} None (Some at) → ⊥
      none_some e = cc
  one_said tag k (Opens d ∷ nodes) at h e = one_said tag k nodes at h e
  one_said tag k (Visit ∷ nodes) at h e = one_said tag k nodes at h e
  one_said tag k (Met fault ∷ nodes) at h e = one_said tag k nodes at h e
  one_said tag k (Found l ∷ nodes) at h e =
      by_tests (list_any (λ (m : Located). is_named tag k m.field) (located_of nodes))
      (is_named tag k l.field) refl (one_said tag k nodes at h.1) e
    where
      same : ◌≡◌ {A = Option Located} (Some l) (Some at) → l ≡ at
      same e = cc

      none_some : ◌≡◌ {A = Option Located} None (Some at) → ⊥
      none_some e = cc

      by_tests : (s t : Bool) → is_named tag k l.field ≡ t
          → (last_located tag k (located_of nodes) ≡ Some at
          → IsSaid at.field at.entry × (is_named tag k at.field ≡ true))
          → (if s then last_located tag k (located_of nodes) else (if t then Some l else None))
          ≡ Some at → IsSaid at.field at.entry × (is_named tag k at.field ≡ true)
      by_tests true t n r e = r e
      by_tests false true n r e =
          subst (λ (m : Located). IsSaid m.field m.entry × (is_named tag k m.field ≡ true)) (same e)
          (h.0, n)
      by_tests false false n r e = absurd (none_some e)

  -- the last field of a name is what its entry says, and has the name
  pub last_said : (tag : Tag) (k : In) (at : Located)
      → last_located tag k (located_of (ordered_trace number bytes)) ≡ Some at
      → IsSaid at.field at.entry × (is_named tag k at.field ≡ true)
  last_said tag k at e = one_said tag k (ordered_trace number bytes) at ordered_said e
