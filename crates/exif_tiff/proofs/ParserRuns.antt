-- Running along a trace piece by piece.
use Rattle.std.proofs.Common.{◌≡◌, ◌<◌, ◌+◌, ◌-◌, ℕ, suc, List, [], ◌∷◌, ◌++◌, Option, Some, None, refl, sym, ap, ◌∙◌, arith}
use Rattle.std.specs.List.{flat_map}
use Rattle.exif_base.specs.Bytes.{spaced, Reading}
use Rattle.exif_tiff.specs.Trace.{Node, opened, depth_of, directory_nodes, entry_nodes, entry_offsets}
use Rattle.exif_tiff.specs.Running.{Progress, and_then, on_node, run}
use Rattle.exif_tiff.specs.declared.fault.Fault.{Fault}
use Rattle.exif_table.specs.declared.context.Context.{Context}
use Rattle.exif_table.specs.declared.context.Context.TheVariants.{Tiff, Exif, Gps, Interop}

-- going on is one after the other
and_then_more : (x : Progress × Option Fault) (f g : Progress → Progress × Option Fault) → and_then (and_then x f) g ≡ and_then x (λ p. and_then (f p) g)
and_then_more (p, None) f g = refl
and_then_more (p, Some fault) f g = refl

-- the same steps after the same start
and_then_same : (x : Progress × Option Fault) (f g : Progress → Progress × Option Fault) → ((p : Progress) → f p ≡ g p) → and_then x f ≡ and_then x g
and_then_same (p, None) f g e = e p
and_then_same (p, Some fault) f g e = refl

-- two pieces of a trace are run one after the other
pub run-append : (xs ys : List Node) (p : Progress) → run (xs ++ ys) p ≡ and_then (run xs p) (run ys)
run-append [] ys p = refl
run-append (x ∷ xs) ys p =
    and_then_same (on_node p x) (run (xs ++ ys)) (λ q. and_then (run xs q) (run ys)) (run-append xs ys)
    ∙ sym (and_then_more (on_node p x) (run xs) (run ys))

-- where the first piece ends, the rest is run from there
pub run_on : (xs ys : List Node) (p q : Progress) (all : Progress × Option Fault) → run xs p ≡ (q, None) → run (xs ++ ys) p ≡ all → run ys q ≡ all
run_on xs ys p q all e w = sym (ap (λ x. and_then x (run ys)) e) ∙ (sym (run-append xs ys p) ∙ w)

-- where the first piece stops, the whole stops there
pub run_stop : (xs ys : List Node) (p q : Progress) (fault : Fault) (all : Progress × Option Fault) → run xs p ≡ (q, Some fault) → run (xs ++ ys) p ≡ all → all ≡ (q, Some fault)
run_stop xs ys p q fault all e w = sym w ∙ (run-append xs ys p ∙ ap (λ x. and_then x (run ys)) e)

-- the offsets that are left begin with the one at hand
pub spaced_step : (n i p unit : ℕ) → i < n → spaced p unit (n - i) ≡ p ∷ spaced (p + unit) unit (n - (i + 1))
spaced_step n i p unit h = let e : n - i ≡ suc (n - (i + 1)) = omega arith in rw e refl

-- a directory is opened, and then its nodes are those of its entries
pub directory_unfold : (number : Reading) (bytes : List ℕ) (k : ℕ) (c : Context) (p : ℕ) → opened c p (flat_map (entry_nodes (directory_nodes (depth_of c - 1) number bytes k) number bytes c k p) (entry_offsets number bytes p)) ≡ directory_nodes (depth_of c) number bytes k c p
directory_unfold number bytes k Tiff p = refl
directory_unfold number bytes k Exif p = refl
directory_unfold number bytes k Gps p = refl
directory_unfold number bytes k Interop p = refl

-- a last step
and_then_last : (x : Progress × Option Fault) → and_then x (λ p. (p, None)) ≡ x
and_then_last (p, None) = refl
and_then_last (p, Some fault) = refl

-- a trace of one node is run in one step
pub run_one : (node : Node) (p : Progress) → run (node ∷ []) p ≡ on_node p node
run_one node p = and_then_last (on_node p node)
