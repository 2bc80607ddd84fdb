-- What a parser's step says, carried to a longer trace.
use Rattle.std.proofs.Common.{◌≡◌, ◌≢◌, ◌<◌, ◌+◌, ◌-◌, ◌==◌, ℕ, suc, List, [], ◌∷◌, ◌++◌, arith, Option, Some, None, Result, Ok, Err, refl, sym, ap, subst, false, ◌∙◌}
use Rattle.std.specs.List.{flat_map}
use Rattle.std.proofs.lemmas.Bool.Decides.{nat_tests}
use Rattle.exif_base.specs.Bytes.{spaced, Reading}
use Rattle.exif_tiff.specs.Trace.{Node, Met, Directory, chain_nodes, chain_after, directory_nodes, pointer_nodes, child_end, directory_end}
use Rattle.exif_table.specs.declared.context.Context.{Context}
use Rattle.exif_table.specs.declared.context.Context.TheVariants.{Tiff}
use Rattle.exif_tiff.specs.declared.fault.Fault.TheVariants.{UnexpectedNext}
use Rattle.exif_tiff.specs.Running.{Progress, on_met, run}
use Rattle.exif_tiff.specs.Stops.{Follows}
use Rattle.exif_tiff.specs.declared.stop.Stop.{Stop}
use Rattle.exif_tiff.specs.declared.stop.Stop.TheVariants as stop
use Rattle.exif_tiff.specs.declared.fault.Fault.{Fault}
use Rattle.exif_tiff.proofs.ParserRuns.{run-append, run_on, run_stop, run_one, spaced_step}

-- a stop in the first piece is a stop of the whole
pub follows_stop : (e : Stop) (new : Progress) (xs ys : List Node) (p : Progress) (all : Progress × Option Fault) → run (xs ++ ys) p ≡ all → Follows (Err e) new (run xs p) → Follows (Err e) new all
follows_stop stop.OutOfMemory new xs ys p all w h = tt
follows_stop (stop.Fault fault) new xs ys p all w h = run_stop xs ys p new fault all h w

-- the answer of the last piece is that of the whole
pub follows_last : (r : Result (Unit {0}) Stop) (new : Progress) (xs ys : List Node) (p q : Progress) → run xs p ≡ (q, None) → Follows r new (run ys q) → Follows r new (run (xs ++ ys) p)
follows_last r new xs ys p q e h = rw (run-append xs ys p, e) h

-- a loop over what is at spaced offsets: one step that ended
pub loop_on : (entry : ℕ → List Node) (unit at' n i : ℕ) (p q : Progress) (all : Progress × Option Fault) → i < n → run (entry at') p ≡ (q, None) → run (flat_map entry (spaced at' unit (n - i))) p ≡ all → run (flat_map entry (spaced (at' + unit) unit (n - (i + 1)))) q ≡ all
loop_on entry unit at' n i p q all h e w =
    run_on (entry at') (flat_map entry (spaced (at' + unit) unit (n - (i + 1)))) p q all e
    (rw (spaced_step n i at' unit h) at w)

-- and one that stopped
pub loop_stop : (entry : ℕ → List Node) (unit at' n i : ℕ) (e : Stop) (p q : Progress) (all : Progress × Option Fault) → i < n → run (flat_map entry (spaced at' unit (n - i))) p ≡ all → Follows (Err e) q (run (entry at') p) → Follows (Err e) q all
loop_stop entry unit at' n i e p q all h w f =
    follows_stop e q (entry at') (flat_map entry (spaced (at' + unit) unit (n - (i + 1)))) p all
    (rw (spaced_step n i at' unit h) at w) f

-- a child that stops
pub pointer_stop : (child : Directory) (number : Reading) (bytes : List ℕ) (c : Context) (offset : Option ℕ) (q : ℕ) (e : Stop) (p new : Progress) → offset ≡ Some q → Follows (Err e) new (run (child c q) p) → Follows (Err e) new (run (pointer_nodes child number bytes c offset) p)
pointer_stop child number bytes c offset q e p new is f =
    rw is (follows_stop e new (child c q) (child_end (directory_end number bytes q)) p (run (child c q ++ child_end (directory_end number bytes q)) p) refl f)

-- a child that ended, and a fault after it
pub pointer_fault : (child : Directory) (number : Reading) (bytes : List ℕ) (c : Context) (offset : Option ℕ) (q : ℕ) (fault : Fault) (r : Result (Unit {0}) Stop) (p mid new : Progress) → offset ≡ Some q → run (child c q) p ≡ (mid, None) → child_end (directory_end number bytes q) ≡ Met fault ∷ [] → Follows r new (on_met mid fault) → Follows r new (run (pointer_nodes child number bytes c offset) p)
pointer_fault child number bytes c offset q fault r p mid new is e w f =
    rw (is, w) (follows_last r new (child c q) (Met fault ∷ []) p mid e (rw (run_one (Met fault) mid) f))

-- how a child may end
pub end_next : (x : Result ℕ Fault) (n : ℕ) → x ≡ Ok n → n ≢ 0 → child_end x ≡ Met UnexpectedNext ∷ []
end_next x n e h = rw e (grind (arith, nat_tests))

-- a child whose directory ends in a fault is followed by that fault alone
pub end_fault : (x : Result ℕ Fault) (fault : Fault) → x ≡ Err fault → child_end x ≡ Met fault ∷ []
end_fault x fault e = rw e refl

-- a chain that goes on, at an offset that is not 0
chain_one : (left i : ℕ) (number : Reading) (bytes : List ℕ) (p : ℕ) → p ≢ 0 → chain_nodes (suc left) number bytes i p ≡ directory_nodes 3 number bytes i Tiff p ++ chain_after (chain_nodes left number bytes (i + 1)) (directory_end number bytes p)
chain_one left i number bytes p z = let e : (p == 0) ≡ false = grind (arith, nat_tests) in rw (e, chain_nodes) refl

-- an offset in the chain that is not 0 has a directory
pub chain_step : (n i : ℕ) (number : Reading) (bytes : List ℕ) (p : ℕ) → i < n → p ≢ 0 → chain_nodes (n - i) number bytes i p ≡ directory_nodes 3 number bytes i Tiff p ++ chain_after (chain_nodes (n - (i + 1)) number bytes (i + 1)) (directory_end number bytes p)
chain_step n i number bytes p h z =
    let e : n - i ≡ suc (n - (i + 1)) = omega arith in rw e (chain_one (n - (i + 1)) i number bytes p z)

-- the chain from there on, where the directory ended with a next offset
pub chain_on : (n i : ℕ) (number : Reading) (bytes : List ℕ) (p next : ℕ) (s q : Progress) (all : Progress × Option Fault) → i < n → p ≢ 0 → directory_end number bytes p ≡ Ok next → run (directory_nodes 3 number bytes i Tiff p) s ≡ (q, None) → run (chain_nodes (n - i) number bytes i p) s ≡ all → run (chain_nodes (n - (i + 1)) number bytes (i + 1) next) q ≡ all
chain_on n i number bytes p next s q all h z e d w =
    let f : chain_nodes (n - i) number bytes i p ≡ directory_nodes 3 number bytes i Tiff p ++ chain_nodes (n - (i + 1)) number bytes (i + 1) next =
    chain_step n i number bytes p h z ∙ ap (λ x. directory_nodes 3 number bytes i Tiff p ++ chain_after (chain_nodes (n - (i + 1)) number bytes (i + 1)) x) e in
    run_on (directory_nodes 3 number bytes i Tiff p) (chain_nodes (n - (i + 1)) number bytes (i + 1) next) s q all d (ap (λ nodes. run nodes s) (sym f) ∙ w)

-- the chain stops where a directory of it does
pub chain_stop : (n i : ℕ) (number : Reading) (bytes : List ℕ) (p : ℕ) (e : Stop) (s q : Progress) (all : Progress × Option Fault) → i < n → p ≢ 0 → run (chain_nodes (n - i) number bytes i p) s ≡ all → Follows (Err e) q (run (directory_nodes 3 number bytes i Tiff p) s) → Follows (Err e) q all
chain_stop n i number bytes p e s q all h z w f =
    follows_stop e q (directory_nodes 3 number bytes i Tiff p) (chain_after (chain_nodes (n - (i + 1)) number bytes (i + 1)) (directory_end number bytes p)) s all
    (ap (λ nodes. run nodes s) (sym (chain_step n i number bytes p h z)) ∙ w) f

-- and where it ends with a fault
pub chain_fault : (n i : ℕ) (number : Reading) (bytes : List ℕ) (p : ℕ) (fault : Fault) (r : Result (Unit {0}) Stop) (s mid q : Progress) (all : Progress × Option Fault) → i < n → p ≢ 0 → directory_end number bytes p ≡ Err fault → run (chain_nodes (n - i) number bytes i p) s ≡ all → run (directory_nodes 3 number bytes i Tiff p) s ≡ (mid, None) → Follows r q (on_met mid fault) → Follows r q all
chain_fault n i number bytes p fault r s mid q all h z e w d f =
    let k : chain_nodes (n - i) number bytes i p ≡ directory_nodes 3 number bytes i Tiff p ++ Met fault ∷ [] =
    chain_step n i number bytes p h z ∙ ap (λ x. directory_nodes 3 number bytes i Tiff p ++ chain_after (chain_nodes (n - (i + 1)) number bytes (i + 1)) x) e in
    subst (λ x. Follows r q x) (ap (λ nodes. run nodes s) (sym k) ∙ w) (follows_last r q (directory_nodes 3 number bytes i Tiff p) (Met fault ∷ []) s mid d (rw (run_one (Met fault) mid) f))
