-- The directories that are visited are those that are looked at.
use Rattle.std.proofs.Common.{◌≡◌, ◌+◌, ◌==◌, ℕ, zero, suc, Bool, true, false, if◌then◌else◌, List, [], ◌∷◌, ◌++◌, map, Option, Some, None, Result, Ok, Err, refl, ap, ◌∙◌}
use Rattle.std.proofs.lemmas.List.{append-nil}
use Rattle.std.specs.List.{flat_map}
use Rattle.exif_base.specs.Bytes.{Reading, number_at}
use Rattle.exif_types.specs.Numbers.{number_in}
use Rattle.exif_types.specs.declared.value.Value.{Value}
use Rattle.exif_table.specs.declared.context.Context.{Context}
use Rattle.exif_table.specs.declared.context.Context.TheVariants.{Tiff}
use Rattle.exif_tiff.specs.declared.fault.Fault.{Fault}
use Rattle.exif_tiff.specs.declared.fault.Fault.TheVariants.{UnexpectedNext, TooManyDirectories}
use Rattle.exif_tiff.specs.declared.offset.DirectoryOffset.{DirectoryOffset}
use Rattle.exif_tiff.specs.Footprint.{Below, VisitsWhatIsLookedAt, chain_directories, directories, entry_directories, following, named, pointed}
use Rattle.exif_tiff.specs.Trace.{Directory, Found, Met, Node, Opens, Visit, chain_after, chain_nodes, child_end, child_of, depth_of, directories_of, directory_end, directory_nodes, entry_nodes, entry_offsets, entry_value, ordered_trace, pointer_nodes, tagged_nodes, valued_nodes}

-- the offsets of the directories of nodes
abbrev offsets_of : List Node → List ℕ
offsets_of nodes = map (λ (d : DirectoryOffset). d.offset) (directories_of nodes)

offsets-append : (xs ys : List Node) → offsets_of (xs ++ ys) ≡ offsets_of xs ++ offsets_of ys
offsets-append [] ys = refl
offsets-append (Opens directory ∷ xs) ys = ap (λ ps. directory.offset ∷ ps) (offsets-append xs ys)
offsets-append (Visit ∷ xs) ys = offsets-append xs ys
offsets-append (Found l ∷ xs) ys = offsets-append xs ys
offsets-append (Met fault ∷ xs) ys = offsets-append xs ys

joined : (xs ys : List Node) (ps qs : List ℕ) → offsets_of xs ≡ ps → offsets_of ys ≡ qs
    → offsets_of (xs ++ ys) ≡ ps ++ qs
joined xs ys ps qs e f = rw (offsets-append xs ys, e, f) refl

each : (f : ℕ → List Node) (g : ℕ → List ℕ) (es : List ℕ) → ((e : ℕ) → offsets_of (f e) ≡ g e)
    → offsets_of (flat_map f es) ≡ flat_map g es
each f g [] h = refl
each f g (e ∷ es) h = joined (f e) (flat_map f es) (g e) (flat_map g es) (h e) (each f g es h)

none_if : (b : Bool) (fault : Fault) → offsets_of (if b then [] else Met fault ∷ []) ≡ []
none_if true fault = refl
none_if false fault = refl

end_has_none : (x : Result ℕ Fault) → offsets_of (child_end x) ≡ []
end_has_none (Err fault) = refl
end_has_none (Ok next) = none_if (next == 0) UnexpectedNext

module _ (number : Reading) (bytes : List ℕ) (child : Directory) (below : Below)
    (h : (d : Context) (q : ℕ) → offsets_of (child d q) ≡ below d q) where
  pointer : (d : Context) (o : Option ℕ)
      → offsets_of (pointer_nodes child number bytes d o) ≡ named below d o
  pointer d None = refl
  pointer d (Some q) =
      joined (child d q) (child_end (directory_end number bytes q)) (below d q) [] (h d q)
      (end_has_none (directory_end number bytes q)) ∙ append-nil (below d q)

  tagged : (c : Context) (k p n e : ℕ) (v : Value) (o : Option Context)
      → offsets_of (tagged_nodes child number bytes c k p n e v o) ≡ pointed below o (Some v)
  tagged c k p n e v None = refl
  tagged c k p n e v (Some d) = pointer d (number_in v 0)

  no_value : (o : Option Context) → [] ≡ pointed below o None
  no_value None = refl
  no_value (Some d) = refl

  valued : (c : Context) (k p n e : ℕ) (o : Option Value)
      → offsets_of (valued_nodes child number bytes c k p n e o) ≡ pointed below (child_of c n) o
  valued c k p n e None = no_value (child_of c n)
  valued c k p n e (Some v) = tagged c k p n e v (child_of c n)

  entry : (c : Context) (k p e : ℕ)
      → offsets_of (entry_nodes child number bytes c k p e) ≡ entry_directories below number bytes c e
  entry c k p e = valued c k p (number_at number 2 bytes e) e (entry_value number bytes e)

directory : (depth : ℕ) (number : Reading) (bytes : List ℕ) (k : ℕ) (c : Context) (p : ℕ)
    → offsets_of (directory_nodes depth number bytes k c p) ≡ directories depth number bytes c p
directory zero number bytes k c p = refl
directory (suc depth) number bytes k c p =
    let child : Directory = directory_nodes depth number bytes k in
    let below : Below = directories depth number bytes in
    ap (λ ps. p ∷ ps)
    (each (entry_nodes child number bytes c k p) (entry_directories below number bytes c)
    (entry_offsets number bytes p)
    (entry number bytes child below (directory depth number bytes k) c k p))

after : (nodes : ℕ → List Node) (rest : ℕ → List ℕ) (x : Result ℕ Fault)
    → ((q : ℕ) → offsets_of (nodes q) ≡ rest q) → offsets_of (chain_after nodes x) ≡ following rest x
after nodes rest (Err fault) h = refl
after nodes rest (Ok next) h = h next

either : (t : Bool) (nodes : List Node) (ps : List ℕ) → offsets_of nodes ≡ ps
    → offsets_of (elim t as (λ _. List Node) [ true ↦ [] | false ↦ nodes ]) ≡ (if t then [] else ps)
either true nodes ps h = refl
either false nodes ps h = h

chain : (left : ℕ) (number : Reading) (bytes : List ℕ) (k p : ℕ)
    → offsets_of (chain_nodes left number bytes k p) ≡ chain_directories left number bytes p
chain zero number bytes k p = none_if (p == 0) TooManyDirectories
chain (suc left) number bytes k p =
    let nodes = directory_nodes (depth_of Tiff) number bytes k Tiff p in
    let rest = chain_after (chain_nodes left number bytes (k + 1)) (directory_end number bytes p) in
    let here = directories (depth_of Tiff) number bytes Tiff p in
    let behind = following (chain_directories left number bytes) (directory_end number bytes p) in
    either (p == 0) (nodes ++ rest) (here ++ behind)
    (joined nodes rest here behind (directory (depth_of Tiff) number bytes k Tiff p)
    (after (chain_nodes left number bytes (k + 1)) (chain_directories left number bytes)
    (directory_end number bytes p) (chain left number bytes (k + 1))))

-- the directories that a trace opens are those that reading looks at, in the same order
pub visited : (number : Reading) (bytes : List ℕ) → VisitsWhatIsLookedAt number bytes
unfolding ordered_trace
visited number bytes = chain 8 number bytes 0 (number_at number 4 bytes 4)
