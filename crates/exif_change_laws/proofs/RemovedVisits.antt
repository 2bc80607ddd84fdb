-- Where nodes come from: each directory is visited with its context and its number, and where reading
-- looks at no byte as two things it is visited once.
use Rattle.std.proofs.Common.{◌≡◌, ◌≤◌, ◌+◌, ◌*◌, ◌==◌, ℕ, zero, suc, Bool, true, false, if◌then◌else◌, List, [], ◌∷◌, ◌++◌, ◌⊎◌, inl, inr, map, Option, Some, None, Result, Ok, Err, refl, sym, ap, ◌∙◌, arith}
use Rattle.std.specs.List.{flat_map, AllByRecursion}
use Rattle.std.proofs.lemmas.Bool.{false≢true, or_right}
use Rattle.std.proofs.lemmas.List.{map-append}
use Rattle.exif_base.specs.Bytes.{Reading, number_at}
use Rattle.exif_types.specs.Numbers.{number_in}
use Rattle.exif_types.specs.declared.value.Value.{Value}
use Rattle.exif_table.specs.declared.context.Context.{Context}
use Rattle.exif_table.specs.declared.context.Context.TheVariants.{Tiff}
use Rattle.exif_tiff.specs.declared.fault.Fault.{Fault}
use Rattle.exif_tiff.specs.declared.fault.Fault.TheVariants.{TooManyDirectories, UnexpectedNext}
use Rattle.exif_tiff.specs.declared.offset.DirectoryOffset.{DirectoryOffset}
use Rattle.exif_tiff.specs.Footprint.{looked_at}
use Rattle.exif_tiff.specs.Trace.{Directory, Found, Located, Met, Node, Opens, Visit, chain_after, chain_nodes, child_end, child_of, depth_of, directories_of, directory_end, directory_nodes, entry_nodes, entry_offsets, entry_value, ordered_trace, pointer_nodes, tagged_nodes, valued_nodes, whole_entries}
use Rattle.exif_tiff.proofs.ApartLists.{AreApart}
use Rattle.exif_tiff.proofs.Members.{all_append}
use Rattle.exif_change_laws.proofs.RemovedLists.{all_members, back_apart, beside_piece, between, has, has_first}

-- a directory as it is visited
pub record Visited : Type 0 where
  pub offset : ℕ
  pub context : Context
  pub number : ℕ

-- it is one of those
abbrev pub Among : Visited → List Visited → Type 0
Among t [] = ⊥
Among t (u ∷ us) = (t ≡ u) ⊎ Among t us

among_left : (t : Visited) (us vs : List Visited) → Among t us → Among t (us ++ vs)
among_left t [] vs h = absurd h
among_left t (u ∷ us) vs (inl e) = inl e
among_left t (u ∷ us) vs (inr h) = inr (among_left t us vs h)

among_right : (t : Visited) (us vs : List Visited) → Among t vs → Among t (us ++ vs)
among_right t [] vs h = h
among_right t (u ∷ us) vs h = inr (among_right t us vs h)

among_either : (t : Visited) (us vs : List Visited) → Among t (us ++ vs) → Among t us ⊎ Among t vs
among_either t [] vs h = inr h
among_either t (u ∷ us) vs (inl e) = inl (inl e)
among_either t (u ∷ us) vs (inr h) = by_side (among_either t us vs h)
  where
    by_side : Among t us ⊎ Among t vs → Among t (u ∷ us) ⊎ Among t vs
    by_side (inl x) = inl (inr x)
    by_side (inr x) = inr x

-- the offsets of the directories of nodes
abbrev pub opened_in : List Node → List ℕ
opened_in nodes = map (λ (d : DirectoryOffset). d.offset) (directories_of nodes)

opened-append : (xs ys : List Node) → opened_in (xs ++ ys) ≡ opened_in xs ++ opened_in ys
opened-append [] ys = refl
opened-append (Opens d ∷ xs) ys = ap (λ ps. d.offset ∷ ps) (opened-append xs ys)
opened-append (Visit ∷ xs) ys = opened-append xs ys
opened-append (Found l ∷ xs) ys = opened-append xs ys
opened-append (Met fault ∷ xs) ys = opened-append xs ys

-- the offsets of visited directories
abbrev pub offsets_in : List Visited → List ℕ
offsets_in vs = map (λ (v : Visited). v.offset) vs

-- the directory that has a located field
abbrev pub visited_of : Located → Visited
visited_of l = record { offset = l.directory; context = l.field.tag.0; number = l.field.ifd_num.0 }

module _ (number : Reading) (bytes : List ℕ) where
  -- a node comes from one of these directories, a field from an entry there
  abbrev pub Comes : List Visited → Node → Type 0
  Comes vs (Opens d) = (j : ℕ) × Among (record { offset = d.offset; context = d.context; number = j }) vs
  Comes vs Visit = Unit {0}
  Comes vs (Found l) =
      Among (visited_of l) vs × (has (entry_offsets number bytes l.directory) l.entry ≡ true)
      × (number_at number 2 bytes l.entry ≡ l.field.tag.1)
  Comes vs (Met fault) = Unit {0}

  comes_more : (us vs : List Visited) → ((t : Visited) → Among t us → Among t vs) → (nodes : List Node)
      → AllByRecursion (Comes us) nodes → AllByRecursion (Comes vs) nodes
  comes_more us vs s [] h = tt
  comes_more us vs s (Opens d ∷ nodes) h = ((h.0.0, s _ h.0.1), comes_more us vs s nodes h.1)
  comes_more us vs s (Visit ∷ nodes) h = (tt, comes_more us vs s nodes h.1)
  comes_more us vs s (Found l ∷ nodes) h =
      ((s (visited_of l) h.0.0, h.0.1, h.0.2), comes_more us vs s nodes h.1)
  comes_more us vs s (Met fault ∷ nodes) h = (tt, comes_more us vs s nodes h.1)

  -- nodes of directories that are visited first to last, and of some that are visited already
  pub record Walks (own : List Visited) (nodes : List Node) : Type 0 where
    pub visits : List Visited
    pub offsets : offsets_in visits ≡ opened_in nodes
    pub come : AllByRecursion (Comes (own ++ visits)) nodes

  joined : (own : List Visited) (xs ys : List Node) → Walks own xs → Walks own ys → Walks own (xs ++ ys)
  joined own xs ys v w =
      let p = v.offsets in
      let q = w.offsets in
      let m = map-append (λ (t : Visited). t.offset) v.visits w.visits in
      record {
        visits = v.visits ++ w.visits;
        offsets = rw (opened-append xs ys, m, p, q) refl;
        come = all_append (Comes (own ++ (v.visits ++ w.visits))) xs ys
            (comes_more (own ++ v.visits) (own ++ (v.visits ++ w.visits)) front xs v.come)
            (comes_more (own ++ w.visits) (own ++ (v.visits ++ w.visits)) back ys w.come);
      }
    where
      front : (t : Visited) → Among t (own ++ v.visits) → Among t (own ++ (v.visits ++ w.visits))
      front t h = by_side (among_either t own v.visits h)
        where
          by_side : Among t own ⊎ Among t v.visits → Among t (own ++ (v.visits ++ w.visits))
          by_side (inl x) = among_left t own (v.visits ++ w.visits) x
          by_side (inr x) =
              among_right t own (v.visits ++ w.visits) (among_left t v.visits w.visits x)

      back : (t : Visited) → Among t (own ++ w.visits) → Among t (own ++ (v.visits ++ w.visits))
      back t h = by_side (among_either t own w.visits h)
        where
          by_side : Among t own ⊎ Among t w.visits → Among t (own ++ (v.visits ++ w.visits))
          by_side (inl x) = among_left t own (v.visits ++ w.visits) x
          by_side (inr x) =
              among_right t own (v.visits ++ w.visits) (among_right t v.visits w.visits x)

  -- those of a child are visited beside its parent
  owned : (own : List Visited) (nodes : List Node) → Walks [] nodes → Walks own nodes
  owned own nodes w = record {
    visits = w.visits;
    offsets = w.offsets;
    come = comes_more w.visits (own ++ w.visits) (λ t h. among_right t own w.visits h) nodes w.come;
  }

  none_walks : (own : List Visited) → Walks own []
  none_walks own = record { visits = []; offsets = refl; come = tt }

  fault_walks : (own : List Visited) (b : Bool) (fault : Fault)
      → Walks own (if b then [] else Met fault ∷ [])
  fault_walks own true fault = none_walks own
  fault_walks own false fault = record { visits = []; offsets = refl; come = (tt, tt) }

  end_walks : (x : Result ℕ Fault) → Walks [] (child_end x)
  end_walks (Err fault) = fault_walks [] false fault
  end_walks (Ok next) = fault_walks [] (next == 0) UnexpectedNext

  pointer_walks : (child : Directory) (d : Context) (o : Option ℕ)
      → ((x : Context) (q : ℕ) → Walks [] (child x q)) → Walks [] (pointer_nodes child number bytes d o)
  pointer_walks child d None h = record { visits = []; offsets = refl; come = (tt, tt) }
  pointer_walks child d (Some q) h =
      joined [] (child d q) (child_end (directory_end number bytes q)) (h d q)
      (end_walks (directory_end number bytes q))

  -- ---- the entries of a directory

  module _ (child : Directory) (h : (x : Context) (q : ℕ) → Walks [] (child x q)) (c : Context) (k p : ℕ)
    where
      abbrev me : List Visited
      me = record { offset = p; context = c; number = k } ∷ []

      tagged_walks : (n e : ℕ) (v : Value) (o : Option Context)
          → has (entry_offsets number bytes p) e ≡ true → number_at number 2 bytes e ≡ n
          → Walks me (tagged_nodes child number bytes c k p n e v o)
      tagged_walks n e v None m s =
          record { visits = []; offsets = refl; come = ((inl refl, m, s), tt) }
      tagged_walks n e v (Some d) m s =
          owned me (pointer_nodes child number bytes d (number_in v 0))
          (pointer_walks child d (number_in v 0) h)

      valued_walks : (n e : ℕ) (o : Option Value) → has (entry_offsets number bytes p) e ≡ true
          → number_at number 2 bytes e ≡ n → Walks me (valued_nodes child number bytes c k p n e o)
      valued_walks n e None m s = record { visits = []; offsets = refl; come = (tt, tt) }
      valued_walks n e (Some v) m s = tagged_walks n e v (child_of c n) m s

      entry_walks : (e : ℕ) → has (entry_offsets number bytes p) e ≡ true
          → Walks me (entry_nodes child number bytes c k p e)
      entry_walks e m =
          let w = valued_walks (number_at number 2 bytes e) e (entry_value number bytes e) m refl in
          record { visits = w.visits; offsets = w.offsets; come = (tt, w.come) }

      entries_walk : (es : List ℕ) → AllByRecursion (λ e. has (entry_offsets number bytes p) e ≡ true) es
          → Walks me (flat_map (entry_nodes child number bytes c k p) es)
      entries_walk [] m = none_walks me
      entries_walk (e ∷ es) m =
          joined me (entry_nodes child number bytes c k p e)
          (flat_map (entry_nodes child number bytes c k p) es) (entry_walks e m.0) (entries_walk es m.1)

  directory_walks : (depth k : ℕ) (c : Context) (p : ℕ)
      → Walks [] (directory_nodes depth number bytes k c p)
  directory_walks zero k c p = record {
    visits = record { offset = p; context = c; number = k } ∷ [];
    offsets = refl;
    come = ((k, inl refl), tt);
  }
  directory_walks (suc depth) k c p =
      let w = entries_walk (directory_nodes depth number bytes k) (directory_walks depth k) c k p
      (entry_offsets number bytes p)
      (all_members (λ e. has (entry_offsets number bytes p) e ≡ true) (entry_offsets number bytes p)
      (λ e m. m)) in
      record {
        visits = record { offset = p; context = c; number = k } ∷ w.visits;
        offsets = ap (λ ps. p ∷ ps) w.offsets;
        come = ((k, inl refl), w.come);
      }

  -- ---- the chain

  after_walks : (rest : ℕ → List Node) (x : Result ℕ Fault) → ((q : ℕ) → Walks [] (rest q))
      → Walks [] (chain_after rest x)
  after_walks rest (Err fault) h = fault_walks [] false fault
  after_walks rest (Ok next) h = h next

  chain_walks : (more k p : ℕ) → Walks [] (chain_nodes more number bytes k p)
  chain_walks zero k p = fault_walks [] (p == 0) TooManyDirectories
  chain_walks (suc more) k p = by_zero (p == 0) (chain_walks more (k + 1))
    where
      by_zero : (b : Bool) → ((q : ℕ) → Walks [] (chain_nodes more number bytes (k + 1) q))
          → Walks [] (elim b as (λ c. List Node) [
            | true ↦ []
            | false ↦ directory_nodes (depth_of Tiff) number bytes k Tiff p
                ++ chain_after (chain_nodes more number bytes (k + 1)) (directory_end number bytes p)
          ])
      by_zero true h = none_walks []
      by_zero false h =
          joined [] (directory_nodes (depth_of Tiff) number bytes k Tiff p)
          (chain_after (chain_nodes more number bytes (k + 1)) (directory_end number bytes p))
          (directory_walks (depth_of Tiff) k Tiff p)
          (after_walks (chain_nodes more number bytes (k + 1)) (directory_end number bytes p) h)

  -- each node of the data comes from a directory that is opened there, a field from its entry
  pub ordered_walks : Walks [] (ordered_trace number bytes)
  unfolding ordered_trace
  ordered_walks = chain_walks 8 0 (number_at number 4 bytes 4)

-- ---- each directory is visited once

-- the numbers are all different
abbrev pub AreDistinct : List ℕ → Type 0
AreDistinct [] = Unit {0}
AreDistinct (p ∷ ps) = (has ps p ≡ false) × AreDistinct ps

-- directories whose stretches are apart from one another are at different offsets
pub looked_once : (number : Reading) (bytes : List ℕ) (ds : List ℕ)
    → AreApart (flat_map (looked_at number bytes) ds) → AreDistinct ds
looked_once number bytes [] h = tt
looked_once number bytes (d ∷ ds) h = (
  by_test (has ds d) refl,
  looked_once number bytes ds
      (back_apart (looked_at number bytes d) (flat_map (looked_at number bytes) ds) h),
)
  where
    itself : has ds d ≡ true
        → (d + (2 + 12 * whole_entries number bytes d + 4) ≤ d)
        ⊎ (d + (2 + 12 * whole_entries number bytes d + 4) ≤ d)
    itself e =
        (beside_piece (looked_at number bytes) (looked_at number bytes d) ds d
        (between (looked_at number bytes d) (flat_map (looked_at number bytes) ds) h) e).0.0

    none : (n : ℕ) → (d + (2 + n + 4) ≤ d) ⊎ (d + (2 + n + 4) ≤ d) → ⊥
    none n (inl x) = omega arith
    none n (inr x) = omega arith

    by_test : (t : Bool) → has ds d ≡ t → t ≡ false
    by_test true e = absurd (none (12 * whole_entries number bytes d) (itself e))
    by_test false e = refl

-- a directory that is among some has its offset among theirs
pub among_has : (t : Visited) (vs : List Visited) → Among t vs → has (offsets_in vs) t.offset ≡ true
among_has t [] h = absurd h
among_has t (v ∷ vs) (inl e) =
    ap (λ (x : Visited). has (v.offset ∷ offsets_in vs) x.offset) e ∙ has_first v.offset (offsets_in vs)
among_has t (v ∷ vs) (inr h) =
    or_right (v.offset == t.offset) (has (offsets_in vs) t.offset) (among_has t vs h)

-- two visited directories at one offset are the same, where all offsets are different
pub visited_once : (vs : List Visited) (t u : Visited) → AreDistinct (offsets_in vs) → Among t vs
    → Among u vs → t.offset ≡ u.offset → t ≡ u
visited_once [] t u h x y e = absurd x
visited_once (v ∷ vs) t u h (inl x) (inl y) e = x ∙ sym y
visited_once (v ∷ vs) t u h (inl x) (inr y) e =
    let s : v.offset ≡ u.offset = sym (ap (λ (z : Visited). z.offset) x) ∙ e in
    absurd (false≢true (sym h.0 ∙ (ap (has (offsets_in vs)) s ∙ among_has u vs y)))
visited_once (v ∷ vs) t u h (inr x) (inl y) e =
    let s : v.offset ≡ t.offset = sym (ap (λ (z : Visited). z.offset) y) ∙ sym e in
    absurd (false≢true (sym h.0 ∙ (ap (has (offsets_in vs)) s ∙ among_has t vs x)))
visited_once (v ∷ vs) t u h (inr x) (inr y) e = visited_once vs t u h.1 x y e
