-- What is known by rows, one after the other.
use Rattle.std.proofs.Common.{◌≡◌, ◌∙◌, ap, sym, refl, List, ℕ, [], ◌∷◌, ◌++◌, Some, reverse, append-nil, ◌<◌, ◌+◌, drop, get_or, inr, length, subst, take, Ok, Err}
use Rattle.std.proofs.lemmas.List.{drop_more, reverse-append, take-append-drop, take_more}
use Rattle.std.proofs.lemmas.List.Concat.{flat_map-append}
use Rattle.std.proofs.lemmas.Map.Text.{btree_map_updates_text}
use Rattle.std.specs.BTreeMap.{BTreeMap, Updates, get_by_text}
use Rattle.std.specs.Prelude.{Bool, true, false, find, flat_map, if◌then◌else◌, option_map, string_bytes}
use Rattle.std.specs.Str.{bytes_eq}
use Rattle.std.specs.String.{string_cmp}
use Rattle.std.specs.declared.string.String.{String}
use Rattle.sqlite.specs.Held.{Held, state}
use Rattle.sqlite.specs.State.{IsUnchanged}
use Rattle.sqlite.specs.Store.{Ghosts}
use Rattle.exif_catalog.specs.Reading.{Deletes, FailsToDelete, known_by}
use Rattle.exif_catalog_file.specs.Handing.{Steps}
use Rattle.exif_catalog_file.proofs.Handing.{steps_more}
use Rattle.exif_catalog.specs.Statements.{delete_row, path_parameter}
use Rattle.exif_catalog_file.specs.Statements.{RunsWith}
use Rattle.exif_catalog_file.specs.declared.errors.CatalogError.{CatalogError}
use Rattle.exif_catalog.specs.declared.hashes.Move.{Move}
use Rattle.exif_catalog.specs.declared.known.Known.{Known}

-- one row more
known_more : (entries : List (List ℕ × Known)) (path : List ℕ) (known : Known) (q : List ℕ)
    → known_by (entries ++ (path, known) ∷ []) q
    ≡ (if bytes_eq path q then Some known else known_by entries q)
known_more entries path known q =
    let entry : List ℕ × Known = (path, known) in
    ap (λ es. option_map (λ (e : List ℕ × Known). e.1)
    (find (λ (e : List ℕ × Known). bytes_eq e.0 q) es)) (reverse-append entries (entry ∷ []))
    ∙ first (bytes_eq path q) refl
  where
    first : (b : Bool) → bytes_eq path q ≡ b
        → option_map (λ (e : List ℕ × Known). e.1)
        (find (λ (e : List ℕ × Known). bytes_eq e.0 q) ((path, known) ∷ reverse entries))
        ≡ (if bytes_eq path q then Some known else known_by entries q)
    first true is = rw is
    first false is = rw is

-- the same of a map
pub put_more : {Y : Type 0} (m n : BTreeMap (String Y) Known) (key : String Y) (known : Known)
    (entries : List (List ℕ × Known)) → ((q : List ℕ) → get_by_text m q ≡ known_by entries q)
    → Updates string_cmp m n key (Some known) → (q : List ℕ)
    → get_by_text n q ≡ known_by (entries ++ (string_bytes key, known) ∷ []) q
put_more m n key known entries had updates q =
    btree_map_updates_text (string_bytes key) m n (Some known) updates q
    ∙ (ap (λ o. if bytes_eq (string_bytes key) q then Some known else o) (had q)
    ∙ sym (known_more entries (string_bytes key) known q))

-- one item more, of what each gives
pub flat_more : {X A : Type 0} (f : X → List A) (xs : List X) (x : X) (old new : List A)
    → old ≡ flat_map f xs → new ≡ old ++ f x → new ≡ flat_map f (xs ++ x ∷ [])
flat_more f xs x old new was is =
    is ∙ (ap (λ all. all ++ f x) was ∙ (ap (λ more. flat_map f xs ++ more) (sym (append-nil (f x)))
    ∙ sym (flat_map-append f xs (x ∷ []))))

-- the row of one old path more is taken away
pub deleted_more : {S : Type 0} (g : Ghosts S) (text path : List ℕ) (moves : List Move) (i : ℕ)
    (move : Move) (old mid new : Held S) → text ≡ delete_row → path ≡ string_bytes move.old
    → i < length moves → move ≡ get_or moves i move
    → Steps (λ was move is. Deletes g was move is (Ok tt)) old (take i moves) mid
    → RunsWith g text (path_parameter path) mid new (Ok tt)
    → Steps (λ was move is. Deletes g was move is (Ok tt)) old (take (i + 1) moves) new
deleted_more g text path moves i move old mid new text_is path_is within is done step =
    subst (λ all. Steps (λ was move is. Deletes g was move is (Ok tt)) old all new)
    (ap (λ m. take i moves ++ m ∷ []) is ∙ sym (take_more moves i move within))
    (steps_more (λ was move is. Deletes g was move is (Ok tt)) (take i moves) move old mid new done
    (rw (← text_is, ← path_is) step))

-- it is not taken away
pub deleted_not : {S : Type 0} (g : Ghosts S) (text path : List ℕ) (moves : List Move) (i : ℕ)
    (move : Move) (old begun mid new : Held S) (e : CatalogError) → text ≡ delete_row
    → path ≡ string_bytes move.old → i < length moves → move ≡ get_or moves i move
    → IsUnchanged (state g old) (state g begun)
    → Steps (λ was move is. Deletes g was move is (Ok tt)) begun (take i moves) mid
    → RunsWith g text (path_parameter path) mid new (Err e)
    → FailsToDelete g old moves new e
deleted_not g text path moves i move old begun mid new e text_is path_is within is same done step =
    inr (
      mid,
      take i moves,
      move,
      drop (i + 1) moves,
      sym (ap (λ m. take i moves ++ m ∷ drop (i + 1) moves) is
          ∙ (ap (λ all. take i moves ++ all) (sym (drop_more moves i move within))
          ∙ take-append-drop i moves)),
      (begun, same, done),
      rw (← text_is, ← path_is) step,
    )
