-- Each field is in an entry of a directory that is looked at, at most one in each time that the
-- entry is among them.
use Rattle.std.proofs.Common.{◌≡◌, ◌≤◌, ◌+◌, ◌==◌, ℕ, zero, suc, Bool, true, false, if◌then◌else◌, List, [], ◌∷◌, ◌++◌, length, Option, Some, None, Result, Ok, Err, refl, arith}
use Rattle.std.specs.List.{flat_map}
use Rattle.exif_base.specs.Bytes.{Reading, number_at}
use Rattle.exif_types.specs.Numbers.{number_in}
use Rattle.exif_types.specs.declared.value.Value.{Value}
use Rattle.exif_table.specs.declared.context.Context.{Context}
use Rattle.exif_table.specs.declared.context.Context.TheVariants.{Tiff}
use Rattle.exif_tiff.specs.declared.fault.Fault.{Fault}
use Rattle.exif_tiff.specs.declared.fault.Fault.TheVariants.{UnexpectedNext, TooManyDirectories}
use Rattle.exif_tiff.specs.Footprint.{Below, chain_directories, directories, entry_directories, following, named, pointed}
use Rattle.exif_tiff.specs.Trace.{Directory, Found, Located, Met, Node, Opens, Visit, chain_after, chain_nodes, child_end, child_of, depth_of, directory_end, directory_nodes, entry_nodes, entry_offsets, entry_value, field_of, located_of, opened, ordered_trace, pointer_nodes, tagged_nodes, valued_nodes}
use Rattle.exif_edit.specs.Sharing.{standing_at}
use Rattle.exif_change_laws.proofs.ApartEntries.{all_entries, times, times-append, times_more, times_none}

module _ (e : ℕ) where
  -- how many fields of nodes are in the entry at e
  standing : List Node → ℕ
  standing nodes = length (standing_at e (located_of nodes))

  -- one more field adds one where it is in the entry at e, else nothing
  pub one_more : (l : Located) (ls : List Located) → length (standing_at e (l ∷ ls))
      ≡ (if l.entry == e then 1 else 0) + length (standing_at e ls)
  one_more l ls = by_test (l.entry == e)
    where
      by_test : (t : Bool) → length (if t then l ∷ standing_at e ls else standing_at e ls)
          ≡ (if t then 1 else 0) + length (standing_at e ls)
      by_test true = omega arith
      by_test false = omega arith

  standing-append : (xs ys : List Node) → standing (xs ++ ys) ≡ standing xs + standing ys
  unfolding standing
  standing-append [] ys = omega arith
  standing-append (Opens d ∷ xs) ys = standing-append xs ys
  standing-append (Visit ∷ xs) ys = standing-append xs ys
  standing-append (Met fault ∷ xs) ys = standing-append xs ys
  standing-append (Found l ∷ xs) ys =
      by_test (if l.entry == e then 1 else 0) (one_more l (located_of (xs ++ ys)))
      (one_more l (located_of xs)) (standing-append xs ys)
    where
      by_test : (n : ℕ)
          → length (standing_at e (l ∷ located_of (xs ++ ys)))
          ≡ n + length (standing_at e (located_of (xs ++ ys)))
          → length (standing_at e (l ∷ located_of xs)) ≡ n + length (standing_at e (located_of xs))
          → length (standing_at e (located_of (xs ++ ys)))
          ≡ length (standing_at e (located_of xs)) + length (standing_at e (located_of ys))
          → length (standing_at e (l ∷ located_of (xs ++ ys)))
          ≡ length (standing_at e (l ∷ located_of xs)) + length (standing_at e (located_of ys))
      by_test n a b c = omega arith

  nothing_stands : standing [] ≡ 0
  unfolding standing
  nothing_stands = refl

  none_if : (b : Bool) (fault : Fault) → standing (if b then [] else Met fault ∷ []) ≡ 0
  unfolding standing
  none_if true fault = refl
  none_if false fault = refl

  end_has_none : (x : Result ℕ Fault) → standing (child_end x) ≡ 0
  end_has_none (Err fault) = none_if false fault
  end_has_none (Ok next) = none_if (next == 0) UnexpectedNext

  module _ (number : Reading) (bytes : List ℕ) where
    -- how often the entry at e is among those of directories
    entered : List ℕ → ℕ
    entered ps = times 1 e (flat_map (entry_offsets number bytes) ps)

    entered_none : entered [] ≡ 0
    unfolding entered
    entered_none = times_none 1 e

    entered_more : (p : ℕ) (ps : List ℕ)
        → entered (p ∷ ps) ≡ times 1 e (entry_offsets number bytes p) + entered ps
    unfolding entered
    entered_more p ps =
        times-append 1 e (entry_offsets number bytes p) (flat_map (entry_offsets number bytes) ps)

    entered-append : (ps qs : List ℕ) → entered (ps ++ qs) ≡ entered ps + entered qs
    entered-append [] qs = omega (arith, entered_none)
    entered-append (p ∷ ps) qs =
        let a = entered-append ps qs in
        let b = entered_more p (ps ++ qs) in
        let c = entered_more p ps in
        omega arith

    module _ (child : Directory) (below : Below)
        (h : (c : Context) (q : ℕ) → standing (child c q) ≤ entered (below c q)) where
      pointer : (d : Context) (o : Option ℕ)
          → standing (pointer_nodes child number bytes d o) ≤ entered (named below d o)
      unfolding standing
      pointer d None = omega arith
      pointer d (Some q) =
          let a = standing-append (child d q) (child_end (directory_end number bytes q)) in
          let b = end_has_none (directory_end number bytes q) in
          let c = h d q in
          omega arith

      -- the field of the entry at f itself, or what is below it
      tagged : (c : Context) (k p n f : ℕ) (v : Value) (o : Option Context)
          → standing (tagged_nodes child number bytes c k p n f v o)
          ≤ times 1 e (f ∷ []) + entered (pointed below o (Some v))
      unfolding standing
      tagged c k p n f v None =
          by_number (if f == e then 1 else 0) (times_more 1 e f []) (one_more here [])
        where
          here : Located
          here = record { field = field_of c k n v; entry = f; directory = p }

          by_number : (m : ℕ) → times 1 e (f ∷ []) ≡ m + times 1 e []
              → length (standing_at e (here ∷ [])) ≡ m + 0
              → length (standing_at e (here ∷ [])) ≤ times 1 e (f ∷ []) + entered []
          by_number m a b = omega arith
      tagged c k p n f v (Some d) = let a = pointer d (number_in v 0) in omega arith

      valued : (c : Context) (k p n f : ℕ) (o : Option Value)
          → standing (valued_nodes child number bytes c k p n f o)
          ≤ times 1 e (f ∷ []) + entered (pointed below (child_of c n) o)
      unfolding standing
      valued c k p n f None = omega arith
      valued c k p n f (Some v) = tagged c k p n f v (child_of c n)

      entry : (c : Context) (k p f : ℕ)
          → standing (entry_nodes child number bytes c k p f)
          ≤ times 1 e (f ∷ []) + entered (entry_directories below number bytes c f)
      unfolding standing
      entry c k p f = valued c k p (number_at number 2 bytes f) f (entry_value number bytes f)

      entries : (c : Context) (k p : ℕ) (fs : List ℕ)
          → standing (flat_map (entry_nodes child number bytes c k p) fs)
          ≤ times 1 e fs + entered (flat_map (entry_directories below number bytes c) fs)
      entries c k p [] = let a = nothing_stands in omega arith
      entries c k p (f ∷ fs) =
          let one = entry c k p f in
          let rest = entries c k p fs in
          let a = standing-append (entry_nodes child number bytes c k p f)
          (flat_map (entry_nodes child number bytes c k p) fs) in
          let b = times-append 1 e (f ∷ []) fs in
          let d = entered-append (entry_directories below number bytes c f)
          (flat_map (entry_directories below number bytes c) fs) in
          omega arith

    opened_same : (c : Context) (p : ℕ) (nodes : List Node)
        → standing (opened c p nodes) ≡ standing nodes
    unfolding standing
    opened_same c p nodes = refl

    directory : (depth k : ℕ) (c : Context) (p : ℕ)
        → standing (directory_nodes depth number bytes k c p)
        ≤ entered (directories depth number bytes c p)
    directory zero k c p =
        let a = nothing_stands in
        let b = opened_same c p [] in
        omega arith
    directory (suc depth) k c p =
        let child : Directory = directory_nodes depth number bytes k in
        let below : Below = directories depth number bytes in
        let a = entries child below (directory depth k) c k p (entry_offsets number bytes p) in
        let b = entered_more p
        (flat_map (entry_directories below number bytes c) (entry_offsets number bytes p)) in
        let d = opened_same c p
        (flat_map (entry_nodes child number bytes c k p) (entry_offsets number bytes p)) in
        omega arith

    after : (nodes : ℕ → List Node) (rest : ℕ → List ℕ) (x : Result ℕ Fault)
        → ((q : ℕ) → standing (nodes q) ≤ entered (rest q))
        → standing (chain_after nodes x) ≤ entered (following rest x)
    after nodes rest (Err fault) h = let a = none_if false fault in omega arith
    after nodes rest (Ok next) h = h next

    either : (t : Bool) (nodes : List Node) (ps : List ℕ) → standing nodes ≤ entered ps
        → standing (elim t as (λ _. List Node) [ true ↦ [] | false ↦ nodes ])
        ≤ entered (if t then [] else ps)
    either true nodes ps h = let a = nothing_stands in omega arith
    either false nodes ps h = h

    chain : (left k p : ℕ)
        → standing (chain_nodes left number bytes k p) ≤ entered (chain_directories left number bytes p)
    chain zero k p = let a = none_if (p == 0) TooManyDirectories in omega arith
    chain (suc left) k p =
        let nodes = directory_nodes (depth_of Tiff) number bytes k Tiff p in
        let rest = chain_after (chain_nodes left number bytes (k + 1)) (directory_end number bytes p) in
        let here = directories (depth_of Tiff) number bytes Tiff p in
        let behind = following (chain_directories left number bytes) (directory_end number bytes p) in
        let a = directory (depth_of Tiff) k Tiff p in
        let b = after (chain_nodes left number bytes (k + 1)) (chain_directories left number bytes)
        (directory_end number bytes p) (chain left (k + 1)) in
        let c = standing-append nodes rest in
        let d = entered-append here behind in
        either (p == 0) (nodes ++ rest) (here ++ behind) (omega arith)

    -- the entry at e has no more fields than the times that it is among all entries
    pub located_times : length (standing_at e (located_of (ordered_trace number bytes)))
        ≤ times 1 e (all_entries number bytes)
    unfolding standing entered ordered_trace
    located_times = chain 8 0 (number_at number 4 bytes 4)
