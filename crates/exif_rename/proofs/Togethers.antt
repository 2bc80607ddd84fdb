-- The places of files, one after the other.
use Rattle.std.proofs.Common.{◌≡◌, ℕ, suc, ◌+◌, ◌<◌, ◌≤◌, ◌⊎◌, inl, inr, min, Bool, true, false, List, [], ◌∷◌, ◌++◌, ap, sym, refl, ◌∙◌, subst, append_assoc, append-nil, add-one, arith, drop, drop-cons, get_or, length, map}
use lib.Dec.{leb}
use Rattle.std.proofs.lemmas.Bool.Decides.{nat_tests}
use Rattle.std.proofs.lemmas.List.{drop_all, get_or-map, length-map}
use Rattle.exif_rename.specs.Grouped.{Named, entry_of}
use Rattle.exif_rename.specs.Together.{is_kind, place, places_of, with_place}
use Rattle.exif_rename.specs.declared.grouping.Entry.{Entry}
use Rattle.exif_rename.specs.declared.together.Place.{Place}

-- those from an index on, where the lists are known as far as that
abbrev pub left : Bool → ℕ → List Entry → List ℕ → List Place
left side i entries leaders = places_of side i (drop i (map entry_of entries)) (drop i leaders)

next : (side : Bool) (i : ℕ) (files : List Named) (leaders : List ℕ) (file : Named) → i < length files → i < length leaders
    → places_of side i (drop i files) (drop i leaders)
    ≡ with_place (is_kind side (get_or files i file).1) (place (get_or leaders i 0) i) (places_of side (i + 1) (drop (i + 1) files) (drop (i + 1) leaders))
next side i files leaders file h g =
    rw (drop-cons files i file h, drop-cons leaders i 0 g) (rw add-one refl)

entry_at : (entries : List Entry) (i : ℕ) (entry : Entry) → i < length entries → get_or (map entry_of entries) i (entry_of entry) ≡ entry_of (get_or entries i entry)
entry_at entries i entry h = get_or-map entry_of entries i entry (entry_of entry) h

-- a file that is none of them
pub other_next : (side : Bool) (i : ℕ) (entries : List Entry) (leaders : List ℕ) (entry : Entry) → i < length entries → i < length leaders
    → is_kind side (get_or entries i entry).is_sidecar ≡ false → left side i entries leaders ≡ left side (i + 1) entries leaders
other_next side i entries leaders entry h g none =
    let n : i < length (map entry_of entries) = omega (arith, length-map entries entry_of) in
    next side i (map entry_of entries) leaders (entry_of entry) n g
    ∙ ap (λ (f : Named). with_place (is_kind side f.1) (place (get_or leaders i 0) i) (left side (i + 1) entries leaders)) (entry_at entries i entry h)
    ∙ ap (λ (b : Bool). with_place b (place (get_or leaders i 0) i) (left side (i + 1) entries leaders)) none

-- one of them
pub one_next : (side : Bool) (i : ℕ) (entries : List Entry) (leaders : List ℕ) (entry : Entry) → i < length entries → i < length leaders
    → is_kind side (get_or entries i entry).is_sidecar ≡ true → left side i entries leaders ≡ place (get_or leaders i 0) i ∷ left side (i + 1) entries leaders
one_next side i entries leaders entry h g one =
    let n : i < length (map entry_of entries) = omega (arith, length-map entries entry_of) in
    next side i (map entry_of entries) leaders (entry_of entry) n g
    ∙ ap (λ (f : Named). with_place (is_kind side f.1) (place (get_or leaders i 0) i) (left side (i + 1) entries leaders)) (entry_at entries i entry h)
    ∙ ap (λ (b : Bool). with_place b (place (get_or leaders i 0) i) (left side (i + 1) entries leaders)) one

-- behind the last
none_left : (side : Bool) (i : ℕ) (files : List Named) (leaders : List ℕ) → (files ≡ []) ⊎ (leaders ≡ []) → places_of side i files leaders ≡ []
none_left side i [] leaders e = refl
none_left side i (file ∷ files) [] e = refl
none_left side i (file ∷ files) (leader ∷ leaders) (inl e) = cc
none_left side i (file ∷ files) (leader ∷ leaders) (inr e) = cc

pub all_placed : (side : Bool) (i : ℕ) (entries : List Entry) (leaders : List ℕ) (found start : List Place) → min (length entries) (length leaders) ≤ i
    → found ++ left side i entries leaders ≡ start ++ left side 0 entries leaders → found ≡ start ++ left side 0 entries leaders
all_placed side i entries leaders found start h so_far =
    sym (append-nil found) ∙ (ap (λ (ps : List Place). found ++ ps) (sym (none_left side i (drop i (map entry_of entries)) (drop i leaders) (ended (leb (length entries) i) refl))) ∙ so_far)
  where
    ended : (b : Bool) → leb (length entries) i ≡ b → (drop i (map entry_of entries) ≡ []) ⊎ (drop i leaders ≡ [])
    ended true e = inl (drop_all i (map entry_of entries) (grind (arith, nat_tests, length-map entries entry_of)))
    ended false e = inr (drop_all i leaders (grind (arith, nat_tests)))

-- one more place
pub more : (side : Bool) (i : ℕ) (entries : List Entry) (leaders : List ℕ) (entry : Entry) (found start : List Place) → i < length entries → i < length leaders
    → is_kind side (get_or entries i entry).is_sidecar ≡ true
    → found ++ left side i entries leaders ≡ start ++ left side 0 entries leaders
    → (found ++ place (get_or leaders i 0) i ∷ []) ++ left side (i + 1) entries leaders ≡ start ++ left side 0 entries leaders
more side i entries leaders entry found start h g one so_far =
    append_assoc found (place (get_or leaders i 0) i ∷ []) (left side (i + 1) entries leaders)
    ∙ (ap (λ (ps : List Place). found ++ ps) (sym (one_next side i entries leaders entry h g one)) ∙ so_far)

pub same : (side : Bool) (i : ℕ) (entries : List Entry) (leaders : List ℕ) (entry : Entry) (found start : List Place) → i < length entries → i < length leaders
    → is_kind side (get_or entries i entry).is_sidecar ≡ false
    → found ++ left side i entries leaders ≡ start ++ left side 0 entries leaders
    → found ++ left side (i + 1) entries leaders ≡ start ++ left side 0 entries leaders
same side i entries leaders entry found start h g none so_far =
    ap (λ (ps : List Place). found ++ ps) (sym (other_next side i entries leaders entry h g none)) ∙ so_far

-- both kinds, one behind the other
pub both : (files : List Named) (a b leaders : List ℕ) (empty first all : List Place) → empty ≡ [] → a ≡ leaders → b ≡ leaders
    → first ≡ empty ++ places_of true 0 files a → all ≡ first ++ places_of false 0 files b
    → all ≡ places_of true 0 files leaders ++ places_of false 0 files leaders
both files a b leaders empty first all none at bt one two =
    let front : first ≡ places_of true 0 files leaders =
    one ∙ (ap (λ (ps : List Place). ps ++ places_of true 0 files a) none ∙ ap (λ (ls : List ℕ). places_of true 0 files ls) at) in
    two ∙ (ap (λ (ps : List Place). ps ++ places_of false 0 files b) front ∙ ap (λ (ls : List ℕ). places_of true 0 files leaders ++ places_of false 0 files ls) bt)
