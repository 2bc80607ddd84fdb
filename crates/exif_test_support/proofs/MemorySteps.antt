-- The states of a folder in memory.
use Rattle.std.proofs.Common.{◌≡◌, ◌≢◌, ℕ, suc, ◌≤◌, List, [], ◌∷◌, ◌++◌, Bool, true, false, Option, None, Some, ap, sym, refl, subst, ◌∙◌, arith, length, take, length-append, if◌then◌else◌, Result, Ok, Err}
use Rattle.std.proofs.lemmas.List.{take-append-le, take_all}
use Rattle.std.specs.Prelude.{zero}
use Rattle.std.specs.Str.{bytes_eq}
use Rattle.std.proofs.lemmas.Slice.Eq.{bytes_eq-Decides}
use Rattle.exif_test_support.specs.declared.memory.Stored.{Stored}
use Rattle.exif_test_support.specs.declared.memory.Put.{Put}
use Rattle.exif_test_support.specs.declared.memory.Step.{Step}
use Rattle.exif_files.specs.States.{Entry, State, Now}
use Rattle.exif_files.specs.Steps.{Moves, Creates, Appends, Copies, Syncs, Links, Renames, Removes, Settles}
use Rattle.exif_test_support.specs.FromMemory.{entry, entry_if, looked, looked_all, state_of, states_after, states_of, Puts, PutsTwo, Tries}

looked_all-more : (found : Option Entry) (steps : List Step) (step : Step) (name : List ℕ) → looked_all found (steps ++ step ∷ []) name ≡ looked (looked_all found steps name) step.puts.items name
looked_all-more found [] step name = refl
looked_all-more found (first ∷ steps) step name = looked_all-more (looked found first.puts.items name) steps step name

-- the states before a step more are those that were
states_before : (steps : List Step) (step : Step) (k : ℕ) → k ≤ length steps → states_after (steps ++ step ∷ []) k ≡ states_after steps k
states_before steps step zero h = refl
states_before steps step (suc k) h =
    ap (λ (xs : List Step). state_of xs ∷ states_after (steps ++ step ∷ []) k) (take-append-le (suc k) steps (step ∷ []) h)
    ∙ ap (λ (xs : List State). state_of (take (suc k) steps) ∷ xs) (states_before steps step k (omega arith))

-- a step more is a state more
pub states_more : (steps steps' : List Step) (step : Step) → steps' ≡ steps ++ step ∷ [] → states_of steps' ≡ state_of (steps ++ step ∷ []) ∷ states_of steps
states_more steps steps' step e =
    let all = steps ++ step ∷ [] in
    let one_more : length all ≡ suc (length steps) = omega (arith, length-append steps (step ∷ [])) in
    ap states_of e
    ∙ ap (states_after all) one_more
    ∙ ap (λ (xs : List Step). state_of xs ∷ states_after all (length steps)) (take_all (suc (length steps)) all (omega (arith, one_more)))
    ∙ ap (λ (xs : List State). state_of all ∷ xs) (states_before steps step (length steps) (omega arith))

-- the last state is that of all the steps
last_state : (steps : List Step) (k : ℕ) → (rest : List State) × (states_after steps k ≡ state_of (take k steps) ∷ rest)
last_state steps zero = ([], refl)
last_state steps (suc k) = (states_after steps k, refl)

pub states_now : (steps : List Step) → (rest : List State) × (states_of steps ≡ state_of steps ∷ rest)
states_now steps =
    let last = last_state steps (length steps) in
    (last.0, last.1 ∙ ap (λ (xs : List Step). state_of xs ∷ last.0) (take_all (length steps) steps (omega arith)))

pub now_is : (P : State → Type 0) (steps : List Step) → P (state_of steps) → Now (states_of steps) P
now_is P steps h = let last = states_now steps in let Q : List State → Type 0 = λ xs. Now xs P in subst Q (sym last.1) h

moves_at : (step : State → State → Type 0) (old new : List State) (s t : State) (rest : List State) → old ≡ s ∷ rest → new ≡ t ∷ old → step s t → Moves step old new
moves_at step [] new s t rest e e' h = cc
moves_at step (x ∷ xs) new s t rest e e' h = let same : s ≡ x = cc in (t, subst (λ (y : State). step y t) same h, e')

pub moves_one : (step : State → State → Type 0) (steps steps' : List Step) (more : Step) → steps' ≡ steps ++ more ∷ [] → step (state_of steps) (state_of (steps ++ more ∷ [])) → Moves step (states_of steps) (states_of steps')
moves_one step steps steps' more e h =
    let last = states_now steps in
    moves_at step (states_of steps) (states_of steps') (state_of steps) (state_of (steps ++ more ∷ [])) last.0 last.1 (states_more steps steps' more e) h

-- what is known of the last state goes into the step
pub moves_map : (step step' : State → State → Type 0) (P : State → Type 0) (old new : List State) → Now old P → Moves step old new
    → ((s t : State) → P s → step s t → step' s t) → Moves step' old new
moves_map step step' P [] new now m f = m
moves_map step step' P (s ∷ rest) new now m f = (m.0, f s m.0 now m.1, m.2)

named : (name name' : List ℕ) → name' ≡ name → bytes_eq name name' ≡ true
named name name' e = (bytes_eq-Decides name name').1 (sym e)

named_apart : (name name' : List ℕ) → name ≢ name' → bytes_eq name name' ≡ false
named_apart name name' ne = not_true (bytes_eq name name') (λ e. ne ((bytes_eq-Decides name name').0 e))
  where
    not_true : (b : Bool) → (b ≡ true → ⊥) → b ≡ false
    not_true true h = absurd (h refl)
    not_true false h = refl

-- one put of a name: there, and elsewhere
put_here : (found : Option Entry) (puts rest : List Put) (put : Put) (name : List ℕ) → puts ≡ put ∷ rest → put.name.items ≡ name → looked found puts name ≡ looked (entry_if put.file) rest name
put_here found puts rest put name e is =
    ap (λ (xs : List Put). looked found xs name) e ∙ ap (λ (b : Bool). looked (if b then entry_if put.file else found) rest name) (named name put.name.items is)

put_elsewhere : (found : Option Entry) (puts rest : List Put) (put : Put) (name : List ℕ) → puts ≡ put ∷ rest → name ≢ put.name.items → looked found puts name ≡ looked found rest name
put_elsewhere found puts rest put name e ne =
    ap (λ (xs : List Put). looked found xs name) e ∙ ap (λ (b : Bool). looked (if b then entry_if put.file else found) rest name) (named_apart name put.name.items ne)

pub puts_one : (steps : List Step) (step : Step) (put : Put) (name : List ℕ) (file : Option Stored) → step.puts.items ≡ put ∷ [] → put.name.items ≡ name → put.file ≡ file
    → Puts name (entry_if file) (state_of steps) (state_of (steps ++ step ∷ []))
puts_one steps step put name file one is same = record {
  here = looked_all-more None steps step name ∙ put_here (looked_all None steps name) step.puts.items [] put name one is ∙ ap entry_if same;
  others = λ n ne. looked_all-more None steps step n ∙ put_elsewhere (looked_all None steps n) step.puts.items [] put n one (λ e. ne (e ∙ is));
}

pub puts_two : (steps : List Step) (step : Step) (put put' : Put) (gone name : List ℕ) (file : Stored) → gone ≢ name → step.puts.items ≡ put ∷ put' ∷ []
    → put.name.items ≡ gone → put.file ≡ None → put'.name.items ≡ name → put'.file ≡ Some file
    → PutsTwo gone name (entry file) (state_of steps) (state_of (steps ++ step ∷ []))
puts_two steps step put put' gone name file apart two is none is' some =
    let found = λ (n : List ℕ). looked_all None steps n in
    record {
      here = looked_all-more None steps step name
          ∙ put_elsewhere (found name) step.puts.items (put' ∷ []) put name two (λ e. apart (sym (e ∙ is)))
          ∙ put_here (found name) (put' ∷ []) [] put' name refl is' ∙ ap entry_if some;
      gone_then = looked_all-more None steps step gone
          ∙ put_here (found gone) step.puts.items (put' ∷ []) put gone two is
          ∙ put_elsewhere (entry_if put.file) (put' ∷ []) [] put' gone refl (λ e. apart (e ∙ is')) ∙ ap entry_if none;
      others = λ n ne ne'. looked_all-more None steps step n
          ∙ put_elsewhere (found n) step.puts.items (put' ∷ []) put n two (λ e. ne (e ∙ is))
          ∙ put_elsewhere (found n) (put' ∷ []) [] put' n refl (λ e. ne' (e ∙ is'));
    }

pub settles_one : (name : List ℕ) (steps : List Step) (step : Step) → step.puts.items ≡ [] → Settles name (state_of steps) (state_of (steps ++ step ∷ []))
settles_one name steps step none = record {
  same = λ n. looked_all-more None steps step n ∙ ap (λ (xs : List Put). looked (looked_all None steps n) xs n) none;
  settled = refl;
}

-- a try is another where the last state is known
pub tries_map : {T E : Type 0} (step step' : State → State → Type 0) (P : State → Type 0) (old old' new : List Step) (f f' f'' : ℕ) (r : Result T E)
    → old' ≡ old → f' ≡ f → Now (states_of old') P → Tries step old' new f' f'' r → ((s t : State) → P s → step s t → step' s t) → Tries step' old new f f'' r
tries_map step step' P old old' new f f' f'' (Ok x) e same now tries glue = record {
  done = let Q : List Step → Type 0 = λ xs. Moves step' (states_of xs) (states_of new) in subst Q e (moves_map step step' P (states_of old') (states_of new) now tries.done glue);
  failed = tt;
  count = tries.count ∙ same;
}
tries_map step step' P old old' new f f' f'' (Err x) e same now tries glue = record { done = tt; failed = tries.failed ∙ e; count = tries.count ∙ same }

pub now_both : (P Q : State → Type 0) (states : List State) → Now states P → Now states Q → Now states (λ s. P s × Q s)
now_both P Q [] p q = tt
now_both P Q (s ∷ past) p q = (p, q)

pub creates : (name : List ℕ) (mode : ℕ) (file : Stored) → file.bytes.items ≡ [] → file.mode ≡ mode → (s t : State) → s.at name ≡ None → Puts name (Some (entry file)) s t → Creates name mode s t
creates name mode file empty is s t free puts = record { free = free; file = (entry file, puts.here, (empty, is)); others = puts.others }

pub appends : (name front : List ℕ) (old new : Stored) → new.bytes.items ≡ old.bytes.items ++ front → new.mode ≡ old.mode → (s t : State) → s.at name ≡ Some (entry old) → Puts name (Some (entry new)) s t → Appends name front s t
appends name front old new e e' s t there puts = record { file = (entry old, there, (entry new, puts.here, (e, e'))); others = puts.others }

pub copies : (Has : Entry → Entry → Entry → Type 0) (source name : List ℕ) (old file new : Stored) → new.bytes.items ≡ file.bytes.items → Has (entry file) (entry old) (entry new) → (s t : State)
    → (s.at source ≡ Some (entry old)) × (s.at name ≡ Some (entry file)) → Puts name (Some (entry new)) s t → Copies Has source name s t
copies Has source name old file new e e' s t there puts = record { file = (entry file, there.1, entry old, there.0, (entry new, puts.here, (e, e'))); others = puts.others }

pub syncs : (name : List ℕ) (file : Stored) → (s t : State) → s.at name ≡ Some (entry file) → Puts name (Some (entry file)) s t → Syncs name s t
syncs name file s t there puts = record { file = (entry file, there, (entry file, puts.here, record { bytes = refl; mode = refl; owner = refl; times = refl; kept = refl })); others = puts.others }

pub links : (source name : List ℕ) (file : Stored) → (s t : State) → (s.at source ≡ Some (entry file)) × (s.at name ≡ None) → Puts name (Some (entry file)) s t → Links source name s t
links source name file s t there puts = record { free = there.1; file = puts.here ∙ sym there.0; others = puts.others }

pub renames : (source name : List ℕ) (file : Stored) → (s t : State) → s.at source ≡ Some (entry file) → PutsTwo source name (entry file) s t → Renames source name s t
renames source name file s t there puts = record { file = puts.here ∙ sym there; gone = puts.gone_then; others = puts.others }

pub removes : (name : List ℕ) (file : Stored) → (s t : State) → s.at name ≡ Some (entry file) → Puts name None s t → Removes name s t
removes name file s t there puts = record { gone = puts.here; others = puts.others }
