-- From which numbers on searches begin, and how that stays true.
use Rattle.std.proofs.Common.{◌≡◌, ℕ, ◌+◌, ◌≤◌, List, [], ◌∷◌, ◌++◌, Bool, true, false, not, ◌&&◌, ◌||◌, cond, Option, Some, None, ap, sym, refl, subst, ◌∙◌, below_more, map, arith}
use Rattle.std.proofs.lemmas.Map.Lookups.{exact_bytes}
use Rattle.std.specs.BTreeMap.{BTreeMap, Updates, get, is_at}
use Rattle.std.specs.Map.{lookup}
use Rattle.std.specs.List.{slice_get}
use Rattle.std.specs.Option.{unwrap_or}
use Rattle.std.specs.Ordering.{is_eq, ordering_then}
use Rattle.std.specs.Str.{bytes_eq}
use Rattle.std.specs.String.{string_bytes, string_cmp}
use Rattle.std.specs.declared.cmp.Ordering.{Ordering}
use Rattle.std.specs.declared.cmp.Ordering.TheVariants.{Less, Equal, Greater}
use Rattle.exif_files.specs.Each.{is_among}
use Rattle.exif_files.specs.States.{State, Now}
use Rattle.exif_rename.specs.Planned.{free_in, with_paths}
use Rattle.exif_rename.specs.Starts.{AreStarts, NoneOpenBelow, NoneOpenFirst, is_open, series_cmp}
use Rattle.exif_rename.specs.RenameRequests.{File, candidate, file_of, path_of}
use Rattle.exif_rename.specs.declared.starts.Series.{Series}
use Rattle.exif_rename.specs.declared.request.RenameRequest.{RenameRequest}
use Rattle.exif_rename.specs.declared.request.RequestFile.{RequestFile}
use Rattle.exif_rename.proofs.Plans.{FitIs, now_all, now_both, now_map}
use Rattle.exif_rename.proofs.Searches.{Begins}
use Rattle.exif_rename.proofs.Kept.{Chosen}

-- what is answered of a path
abbrev pub OpenIs : List State → (List ℕ → Bool) → List ℕ → Bool → Type 0
OpenIs b is_given path answer = Now b (λ s. answer ≡ is_open (free_in s) is_given path)

-- none is open up to a number, if none was up to another
abbrev pub NoneFrom : List State → (List ℕ → Bool) → List ℕ → List ℕ → ℕ → ℕ → Type 0
NoneFrom a is_given base ending from number =
    Now a (λ s. NoneOpenBelow (free_in s) is_given base ending from → NoneOpenBelow (free_in s) is_given base ending number)

-- one more path is not open
pub none_more : (a b : List State) (is_given : List ℕ → Bool) (base ending : List ℕ) (from number : ℕ) (path : List ℕ) (answer : Bool)
    → path ≡ candidate base number ++ ending → answer ≡ false → b ≡ a → NoneFrom a is_given base ending from number → OpenIs b is_given path answer
    → NoneFrom a is_given base ending from (number + 1)
none_more a b is_given base ending from number path answer e off same none is =
    now_both _ _ _ a b same none is (λ s before here first.
    below_more (λ k. is_open (free_in s) is_given (candidate base k ++ ending) ≡ false) number (before first)
    (ap (is_open (free_in s) is_given) (sym e) ∙ sym here ∙ off))

-- the path of a number is open
pub open_here : (a b : List State) (is_given : List ℕ → Bool) (base ending : List ℕ) (number : ℕ) (path : List ℕ) (answer : Bool)
    → path ≡ candidate base number ++ ending → answer ≡ true → b ≡ a → OpenIs b is_given path answer
    → Now a (λ s. is_open (free_in s) is_given (candidate base number ++ ending) ≡ true)
open_here a b is_given base ending number path answer e on_ same is =
    let Q : List State → Type 0 = λ xs. OpenIs xs is_given path answer in
    now_map _ _ a (subst Q same is) (λ s here. ap (is_open (free_in s) is_given) (sym e) ∙ sym here ∙ on_)

-- none is open below a lower number
pub none_below : (a : List State) (is_given : List ℕ → Bool) (base ending : List ℕ) (from number end : ℕ) → end ≤ number
    → NoneFrom a is_given base ending from number → NoneFrom a is_given base ending from end
none_below a is_given base ending from number end h none = now_map _ _ a none (λ s before first k lt. before first k (omega arith))

-- series that compare equal have the same texts
both_equal : (o p : Ordering) → is_eq (ordering_then o p) ≡ true → (o ≡ Equal) × (p ≡ Equal)
both_equal Less p h = cc
both_equal Equal Less h = cc
both_equal Equal Equal h = (refl, refl)
both_equal Equal Greater h = cc
both_equal Greater p h = cc

same_texts : (a b : Series) → is_eq (series_cmp a b) ≡ true → (string_bytes a.base ≡ string_bytes b.base) × (string_bytes a.ending ≡ string_bytes b.ending)
same_texts a b h =
    let w = both_equal (string_cmp a.base b.base) (string_cmp a.ending b.ending) h in
    (exact_bytes (string_bytes a.base) (string_bytes b.base) w.0, exact_bytes (string_bytes a.ending) (string_bytes b.ending) w.1)

-- what a map has of a series
known_from : (free is_given : List ℕ → Bool) (starts : BTreeMap Series ℕ) (series : Series) (known : Option ℕ) → AreStarts free is_given starts → get series_cmp starts series ≡ known
    → NoneOpenBelow free is_given (string_bytes series.base) (string_bytes series.ending) (unwrap_or known 0)
known_from free is_given starts series None all e = λ k lt. absurd (omega arith)
known_from free is_given starts series (Some start) all e = all series start e

-- with one more entry
closed_with : (free is_given : List ℕ → Bool) (starts starts' : BTreeMap Series ℕ) (series other : Series) (start number : ℕ) (here : Bool)
    → AreStarts free is_given starts → NoneOpenBelow free is_given (string_bytes series.base) (string_bytes series.ending) start
    → is_eq (series_cmp series other) ≡ here → cond here (Some start) (get series_cmp starts other) ≡ Some number
    → NoneOpenBelow free is_given (string_bytes other.base) (string_bytes other.ending) number
closed_with free is_given starts starts' series other start number true all none at e =
    let w = same_texts series other at in
    let one : start ≡ number = cc in
    let P : List ℕ → List ℕ → ℕ → Type 0 = λ b t n. NoneOpenBelow free is_given b t n in
    subst (λ (n : ℕ). P (string_bytes other.base) (string_bytes other.ending) n) one
    (subst (λ (t : List ℕ). P (string_bytes other.base) t start) w.1 (subst (λ (b : List ℕ). P b (string_bytes series.ending) start) w.0 none))
closed_with free is_given starts starts' series other start number false all none at e = all other number e

start_of_first : (free is_given : List ℕ → Bool) (base : List ℕ) (files : List RequestFile) (file : RequestFile) (start : ℕ) → slice_get files 0 ≡ Some file
    → NoneOpenBelow free is_given base (string_bytes file.ending) start → NoneOpenFirst free is_given base (map file_of files) start
start_of_first free is_given base [] file start is none = cc
start_of_first free is_given base (first ∷ files) file start is none =
    let one : file ≡ first = cc in
    subst (λ (f : RequestFile). NoneOpenBelow free is_given base (string_bytes f.ending) start) one none

-- the start that was found is one
pub start_found : (a : List State) (is_given : List ℕ → Bool) (starts : BTreeMap Series ℕ) (series : Series) (request : RenameRequest) (file : RequestFile) (known start : ℕ)
    → known ≡ unwrap_or (get series_cmp starts series) 0 → string_bytes series.base ≡ string_bytes request.base → string_bytes series.ending ≡ string_bytes file.ending
    → slice_get request.files.items 0 ≡ Some file → NoneFrom a is_given (string_bytes series.base) (string_bytes series.ending) known start
    → Now a (λ s. AreStarts (free_in s) is_given starts → Begins s is_given request start)
start_found a is_given starts series request file known start known_is base ending first none =
    now_map _ _ a none (λ s more all.
    let P : List ℕ → List ℕ → Type 0 = λ b t. NoneOpenBelow (free_in s) is_given b t start in
    let Q : ℕ → Type 0 = λ n. NoneOpenBelow (free_in s) is_given (string_bytes series.base) (string_bytes series.ending) n in
    let before : Q known = subst Q (sym known_is) (known_from (free_in s) is_given starts series (get series_cmp starts series) all refl) in
    start_of_first (free_in s) is_given (string_bytes request.base) request.files.items file start first
    (subst (λ (t : List ℕ). P (string_bytes request.base) t) ending (subst (λ (b : List ℕ). P b (string_bytes series.ending)) base (more before))))

-- it may be kept
pub start_kept : (a : List State) (is_given : List ℕ → Bool) (starts starts' : BTreeMap Series ℕ) (series : Series) (known start : ℕ)
    → known ≡ unwrap_or (get series_cmp starts series) 0 → Updates series_cmp starts starts' series (Some start)
    → NoneFrom a is_given (string_bytes series.base) (string_bytes series.ending) known start
    → Now a (λ s. AreStarts (free_in s) is_given starts → AreStarts (free_in s) is_given starts')
start_kept a is_given starts starts' series known start known_is updates none =
    now_map _ _ a none (λ s more all other number e.
    let Q : ℕ → Type 0 = λ n. NoneOpenBelow (free_in s) is_given (string_bytes series.base) (string_bytes series.ending) n in
    let before : Q known = subst Q (sym known_is) (known_from (free_in s) is_given starts series (get series_cmp starts series) all refl) in
    closed_with (free_in s) is_given starts starts' series other start number (is_eq (series_cmp series other)) all (more before) refl (sym (updates.0 other) ∙ e))

-- a map without entries has no start
pub none_kept : (a : List State) (is_given : List ℕ → Bool) (starts : BTreeMap Series ℕ) → starts.entries ≡ [] → Now a (λ s. AreStarts (free_in s) is_given starts)
none_kept a is_given starts empty =
    now_all _ a (λ s series start e.
    let none : get series_cmp starts series ≡ None = ap (lookup (is_at (series_cmp series))) empty in cc)

-- paths that were given stay given
or_true : (a b : Bool) → b ≡ true → (a || b) ≡ true
or_true true b h = refl
or_true false b h = h

among_stays : (name : List ℕ) (files : List File) (names : List (List ℕ)) (q : List ℕ) → is_among q names ≡ true → is_among q (with_paths name files names) ≡ true
among_stays name [] names q h = h
among_stays name (file ∷ files) names q h = among_stays name files (path_of name file ∷ names) q (or_true (bytes_eq (path_of name file) q) (is_among q names) h)

stays_shut : (was is free : Bool) → (was ≡ true → is ≡ true) → (not was && free) ≡ false → (not is && free) ≡ false
stays_shut true true free stays h = refl
stays_shut true false free stays h = let e : false ≡ true = stays refl in cc
stays_shut false true free stays h = refl
stays_shut false false free stays h = h

pub closed_after : (a b : List State) (is_given is_given' : List ℕ → Bool) (starts starts' : BTreeMap Series ℕ) (name : List ℕ) (files : List File) (names : List (List ℕ))
    → b ≡ a → ((q : List ℕ) → is_given q ≡ is_among q names) → ((q : List ℕ) → is_given' q ≡ is_among q (with_paths name files names))
    → Now a (λ s. AreStarts (free_in s) is_given starts) → Now b (λ s. AreStarts (free_in s) is_given starts → AreStarts (free_in s) is_given starts')
    → Now a (λ s. AreStarts (free_in s) is_given' starts')
closed_after a b is_given is_given' starts starts' name files names same are are' closed kept =
    now_both _ _ _ a b same closed kept (λ s before more series start e k lt.
    let path = candidate (string_bytes series.base) k ++ string_bytes series.ending in
    stays_shut (is_given path) (is_given' path) (free_in s path)
    (λ t. are' path ∙ among_stays name files names path (sym (are path) ∙ t)) (more before series start e k lt))

-- what a search finds that begins at such a start
pub request_fits : (a b d : List State) (is_given : List ℕ → Bool) (starts : BTreeMap Series ℕ) (names : List (List ℕ)) (request : RenameRequest) (start : ℕ) (found : Option ℕ) → b ≡ a → d ≡ a
    → Now a (λ s. AreStarts (free_in s) is_given starts) → Now b (λ s. AreStarts (free_in s) is_given starts → Begins s is_given request start)
    → Chosen d names is_given request start found → FitIs a names request found
request_fits a b d is_given starts names request start found same same' closed begins finds =
    let begun : Now a (λ s. Begins s is_given request start) = now_both _ _ _ a b same closed begins (λ s x f. f x) in
    now_both _ _ _ a d same' begun finds (λ s x f. f x)
