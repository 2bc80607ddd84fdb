-- The directories that a walk has found are those at which reading looks; without those of GPS data
-- they are those that are kept.
use Rattle.std.proofs.Common.{◌≡◌, ℕ, zero, suc, ◌+◌, ◌==◌, Bool, true, false, if◌then◌else◌, List, [], ◌∷◌, ◌++◌, map, Option, Some, None, Result, Ok, Err, refl, ap, ◌∙◌}
use Rattle.std.specs.Prelude.{not}
use Rattle.std.specs.List.{filter, flat_map}
use Rattle.std.proofs.lemmas.List.{append-nil, map-append}
use Rattle.std.proofs.lemmas.List.Elements.{filter-append}
use Rattle.exif_base.specs.Bytes.{Reading, number_at}
use Rattle.exif_base.specs.Orders.{number_of}
use Rattle.exif_base.specs.declared.endian.Order.{Order}
use Rattle.exif_types.specs.Numbers.{number_in}
use Rattle.exif_types.specs.declared.value.Value.{Value}
use Rattle.exif_table.specs.declared.context.Context.{Context}
use Rattle.exif_table.specs.declared.context.Context.TheVariants.{Tiff, Exif, Gps, Interop}
use Rattle.exif_tiff.specs.declared.fault.Fault.{Fault}
use Rattle.exif_tiff.specs.declared.fault.Fault.TheVariants.{TooManyDirectories, UnexpectedNext}
use Rattle.exif_tiff.specs.declared.offset.DirectoryOffset.{DirectoryOffset}
use Rattle.exif_tiff.specs.Footprint.{Below, chain_directories, entry_directories, following, named, pointed}
use Rattle.exif_tiff.specs.Trace.{Directory, Found, Met, Node, Opens, Visit, chain_after, chain_nodes, child_end, child_of, depth_of, directories_of, directory_end, directory_nodes, entry_nodes, entry_offsets, entry_value, header, ordered_trace, pointer_nodes, tagged_nodes, trace, valued_nodes}
use Rattle.exif_tiff.proofs.Visited.{visited}
use Rattle.exif_edit_base.specs.Locations.{directory_offsets}
use Rattle.exif_edit_base.specs.Walked.{Finds, Walked}
use Rattle.exif_edit.specs.Erasing.{is_gps}
use Rattle.exif_edit.specs.GpsAlone.{below_kept, chain_kept, directories_kept}

-- where directories are
abbrev pub offsets_of : List DirectoryOffset → List ℕ
offsets_of ds = map (λ (d : DirectoryOffset). d.offset) ds

-- those but of GPS data
abbrev pub kept_of : List DirectoryOffset → List DirectoryOffset
kept_of ds = filter (λ (d : DirectoryOffset). not (is_gps d.context)) ds

-- ---- without those of GPS data

-- where the directories of nodes are
abbrev kept_in : List Node → List ℕ
kept_in nodes = offsets_of (kept_of (directories_of nodes))

directories_join : (xs ys : List Node) → directories_of (xs ++ ys) ≡ directories_of xs ++ directories_of ys
directories_join [] ys = refl
directories_join (Opens directory ∷ xs) ys = ap (λ ds. directory ∷ ds) (directories_join xs ys)
directories_join (Visit ∷ xs) ys = directories_join xs ys
directories_join (Found l ∷ xs) ys = directories_join xs ys
directories_join (Met fault ∷ xs) ys = directories_join xs ys

kept_join : (xs ys : List Node) → kept_in (xs ++ ys) ≡ kept_in xs ++ kept_in ys
kept_join xs ys =
    ap (λ ds. offsets_of (kept_of ds)) (directories_join xs ys)
    ∙ (ap offsets_of (filter-append (λ (d : DirectoryOffset). not (is_gps d.context)) (directories_of xs) (directories_of ys))
    ∙ map-append (λ (d : DirectoryOffset). d.offset) (kept_of (directories_of xs)) (kept_of (directories_of ys)))

joined : (xs ys : List Node) (ps qs : List ℕ) → kept_in xs ≡ ps → kept_in ys ≡ qs
    → kept_in (xs ++ ys) ≡ ps ++ qs
joined xs ys ps qs e f = rw (kept_join xs ys, e, f) refl

each : (f : ℕ → List Node) (g : ℕ → List ℕ) (es : List ℕ) → ((e : ℕ) → kept_in (f e) ≡ g e)
    → kept_in (flat_map f es) ≡ flat_map g es
each f g [] h = refl
each f g (e ∷ es) h = joined (f e) (flat_map f es) (g e) (flat_map g es) (h e) (each f g es h)

none_if : (b : Bool) (fault : Fault) → kept_in (if b then [] else Met fault ∷ []) ≡ []
none_if true fault = refl
none_if false fault = refl

end_keeps_none : (x : Result ℕ Fault) → kept_in (child_end x) ≡ []
end_keeps_none (Err fault) = refl
end_keeps_none (Ok next) = none_if (next == 0) UnexpectedNext

flat_none : (es : List ℕ) → flat_map {X = ℕ} {A = ℕ} (λ e. []) es ≡ []
flat_none [] = refl
flat_none (e ∷ es) = flat_none es

-- a GPS directory has none below it
gps_left_out : (depth : ℕ) (number : Reading) (bytes : List ℕ) (k p : ℕ)
    → kept_in (directory_nodes depth number bytes k Gps p) ≡ []
gps_left_out zero number bytes k p = refl
gps_left_out (suc depth) number bytes k p =
    each (entry_nodes (directory_nodes depth number bytes k) number bytes Gps k p) (λ e. [])
    (entry_offsets number bytes p)
    (λ e. by_value (number_at number 2 bytes e) e (entry_value number bytes e))
    ∙ flat_none (entry_offsets number bytes p)
  where
    by_value : (n e : ℕ) (o : Option Value)
        → kept_in (valued_nodes (directory_nodes depth number bytes k) number bytes Gps k p n e o) ≡ []
    by_value n e None = refl
    by_value n e (Some v) = refl

-- what is kept of the directories of a context
abbrev Keeps : Directory → Below → Type 0
Keeps child under = (c : Context) (p : ℕ) → is_gps c ≡ false → kept_in (child c p) ≡ under c p

module _ (number : Reading) (bytes : List ℕ) (child : Directory) (under : Below)
    (h : Keeps child under) (g : (p : ℕ) → kept_in (child Gps p) ≡ []) where
  followed : (d : Context) (q : ℕ) (ps : List ℕ) → kept_in (child d q) ≡ ps
      → kept_in (child d q ++ child_end (directory_end number bytes q)) ≡ ps
  followed d q ps e =
      joined (child d q) (child_end (directory_end number bytes q)) ps [] e
      (end_keeps_none (directory_end number bytes q)) ∙ append-nil ps

  pointer : (d : Context) (o : Option ℕ)
      → kept_in (pointer_nodes child number bytes d o) ≡ named (below_kept under) d o
  pointer d None = refl
  pointer Tiff (Some q) = followed Tiff q (under Tiff q) (h Tiff q refl)
  pointer Exif (Some q) = followed Exif q (under Exif q) (h Exif q refl)
  pointer Gps (Some q) = followed Gps q [] (g q)
  pointer Interop (Some q) = followed Interop q (under Interop q) (h Interop q refl)

  tagged : (c : Context) (k p n e : ℕ) (v : Value) (o : Option Context)
      → kept_in (tagged_nodes child number bytes c k p n e v o)
      ≡ pointed (below_kept under) o (Some v)
  tagged c k p n e v None = refl
  tagged c k p n e v (Some d) = pointer d (number_in v 0)

  no_value : (o : Option Context) → [] ≡ pointed (below_kept under) o None
  no_value None = refl
  no_value (Some d) = refl

  valued : (c : Context) (k p n e : ℕ) (o : Option Value)
      → kept_in (valued_nodes child number bytes c k p n e o)
      ≡ pointed (below_kept under) (child_of c n) o
  valued c k p n e None = no_value (child_of c n)
  valued c k p n e (Some v) = tagged c k p n e v (child_of c n)

kept_below : (depth : ℕ) (number : Reading) (bytes : List ℕ) (k : ℕ)
    → Keeps (directory_nodes depth number bytes k) (directories_kept depth number bytes)
kept_below zero number bytes k c p kept = rw kept refl
kept_below (suc depth) number bytes k c p kept =
    let child : Directory = directory_nodes depth number bytes k in
    let under : Below = directories_kept depth number bytes in
    rw kept
    (ap (λ ps. p ∷ ps)
    (each (entry_nodes child number bytes c k p)
    (entry_directories (below_kept under) number bytes c) (entry_offsets number bytes p)
    (λ e. valued number bytes child under (kept_below depth number bytes k)
    (gps_left_out depth number bytes k) c k p (number_at number 2 bytes e) e
    (entry_value number bytes e))))

after : (nodes : ℕ → List Node) (rest : ℕ → List ℕ) (x : Result ℕ Fault)
    → ((q : ℕ) → kept_in (nodes q) ≡ rest q) → kept_in (chain_after nodes x) ≡ following rest x
after nodes rest (Err fault) h = refl
after nodes rest (Ok next) h = h next

either : (t : Bool) (nodes : List Node) (ps : List ℕ) → kept_in nodes ≡ ps
    → kept_in (elim t as (λ _. List Node) [ true ↦ [] | false ↦ nodes ]) ≡ (if t then [] else ps)
either true nodes ps h = refl
either false nodes ps h = h

kept_chain : (left : ℕ) (number : Reading) (bytes : List ℕ) (k p : ℕ)
    → kept_in (chain_nodes left number bytes k p) ≡ chain_kept left number bytes p
kept_chain zero number bytes k p = none_if (p == 0) TooManyDirectories
kept_chain (suc left) number bytes k p =
    let nodes = directory_nodes (depth_of Tiff) number bytes k Tiff p in
    let rest = chain_after (chain_nodes left number bytes (k + 1)) (directory_end number bytes p) in
    let here = directories_kept (depth_of Tiff) number bytes Tiff p in
    let behind = following (chain_kept left number bytes) (directory_end number bytes p) in
    either (p == 0) (nodes ++ rest) (here ++ behind)
    (joined nodes rest here behind (kept_below (depth_of Tiff) number bytes k Tiff p refl)
    (after (chain_nodes left number bytes (k + 1)) (chain_kept left number bytes)
    (directory_end number bytes p) (kept_chain left number bytes (k + 1))))

-- ---- the whole

found_directories : (bytes : List ℕ) (order : Order) (w : Walked) → header bytes ≡ Ok order
    → Finds bytes w → w.directories ≡ directories_of (ordered_trace (number_of order) bytes)
unfolding directory_offsets trace
found_directories bytes order w h f =
    f.directories
    ∙ ap (λ (x : Result Order Fault). directories_of (elim x as (λ _. List Node)
    [ Ok o ↦ ordered_trace (number_of o) bytes | Err fault ↦ [] ])) h

-- the directories that a walk has found are those that are looked at, in their order
pub walked_offsets : (bytes : List ℕ) (order : Order) (w : Walked) → header bytes ≡ Ok order
    → Finds bytes w → offsets_of w.directories
    ≡ chain_directories 8 (number_of order) bytes (number_at (number_of order) 4 bytes 4)
walked_offsets bytes order w h f =
    ap offsets_of (found_directories bytes order w h f) ∙ visited (number_of order) bytes

-- the directories that a walk has found, but those of GPS data, are those that are kept
pub walked_kept : (bytes : List ℕ) (order : Order) (w : Walked) → header bytes ≡ Ok order
    → Finds bytes w → offsets_of (kept_of w.directories)
    ≡ chain_kept 8 (number_of order) bytes (number_at (number_of order) 4 bytes 4)
unfolding ordered_trace
walked_kept bytes order w h f =
    ap (λ ds. offsets_of (kept_of ds)) (found_directories bytes order w h f)
    ∙ kept_chain 8 (number_of order) bytes 0 (number_at (number_of order) 4 bytes 4)
