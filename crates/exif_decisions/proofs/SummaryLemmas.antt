use Rattle.std.proofs.Common.{◌≡◌, ◌∙◌, ℕ, ◌==◌, nat_lt, Bool, true, false, ◌&&◌, ◌||◌, not, List, [], ◌∷◌, ◌++◌, ◌+◌, ◌<◌, add-one, ap, append_assoc, arith, codes, drop, drop-cons, filter, get_or, length, if◌then◌else◌, map, refl, sym}
use Rattle.std.proofs.lemmas.Grind.{common_steps}
use Rattle.std.proofs.lemmas.List.Folds.{flat_map-map}
use Rattle.std.specs.Fmt.{decimal}
use Rattle.std.specs.List.{flat_map, join_by, list_any}
use Rattle.exif_decisions.specs.declared.summary.Amount as amount
use Rattle.exif_decisions.specs.Summaries.{Kind, amount_of, amount_text, between_kinds, formats_kind, formats_text, has_some, in_parentheses, is_some, listed, next_text}

-- what follows, of the kinds that are left, by whether there was one before them
abbrev pub after : Bool → List ℕ → List Kind → List ℕ
after true between kinds = flat_map (λ k. between ++ amount_text k) (filter is_some kinds)
after false between kinds = listed between kinds

-- whether there are some
zero_test : (n : ℕ) → (n == 0) ≡ not (nat_lt 0 n)
zero_test n = grind (arith, common_steps)

-- the text of a kind, and what follows it
pub after_one : (b : Bool) (between : List ℕ) (kind : Kind) (kinds : List Kind)
    → next_text b between kind ++ after (b || nat_lt 0 kind.0) between kinds
    ≡ after b between (kind ∷ kinds)
after_one true between kind kinds =
    rw (zero_test kind.0) (elim (nat_lt 0 kind.0) as (λ v. (if not v then [] else between ++ amount_text kind) ++ flat_map (λ k. between ++ amount_text k) (filter is_some kinds)
    ≡ flat_map (λ k. between ++ amount_text k) (if v then kind ∷ filter is_some kinds else filter is_some kinds)) [ true ↦ refl | false ↦ refl ])
after_one false between kind kinds =
    rw (zero_test kind.0) (elim (nat_lt 0 kind.0) as (λ v. (if not v then [] else amount_text kind) ++ after v between kinds
    ≡ join_by amount_text between (if v then kind ∷ filter is_some kinds else filter is_some kinds)) [ true ↦ refl | false ↦ refl ])

-- a test of a view of the elements
pub any_of_view : {X Y : Type 0} (p : Y → Bool) (v : X → Y) (xs : List X)
    → list_any p (map v xs) ≡ list_any (λ x. p (v x)) xs
any_of_view p v [] = refl
any_of_view p v (x ∷ xs) = ap (λ b. p (v x) || b) (any_of_view p v xs)

-- where no element passes a test, none stays
none_stays : {X : Type 0} (p : X → Bool) (xs : List X) → list_any p xs ≡ false → filter p xs ≡ []
none_stays p [] h = refl
none_stays p (x ∷ xs) h = grind (arith, common_steps, none_stays p xs)

-- where one passes, it stays
one_stays : {X : Type 0} (p : X → Bool) (xs : List X) → list_any p xs ≡ true
    → (y : X) × ((ys : List X) × (filter p xs ≡ y ∷ ys))
one_stays p [] h = cc
one_stays p (x ∷ xs) h =
    elim (p x) as (λ v. (v || list_any p xs) ≡ true → (y : _) × ((ys : _) × ((if v then x ∷ filter p xs else filter p xs) ≡ y ∷ ys))) [
      | true ↦ λ _. (x, (filter p xs, refl))
      | false ↦ λ g. one_stays p xs g
    ] h

-- a text before what follows, one amount later
pub after_next : (b : Bool) (between : List ℕ) (amounts : List amount.Amount) (i : ℕ)
    (d : amount.Amount) (text whole : List ℕ) → i < length amounts
    → text ++ after b between (map amount_of (drop i amounts)) ≡ whole
    → (text ++ next_text b between (amount_of (get_or amounts i d)))
    ++ after (b || nat_lt 0 (get_or amounts i d).count) between (map amount_of (drop (i + 1) amounts))
    ≡ whole
after_next b between amounts i d text whole within e =
    let item = get_or amounts i d in
    let next : drop i amounts ≡ item ∷ drop (i + 1) amounts = rw (add-one, drop-cons amounts i d) in
    let one = after_one b between (amount_of item) (map amount_of (drop (i + 1) amounts)) in
    rw append_assoc (ap (λ t. text ++ t) (one ∙ ap (λ rest. after b between (map amount_of rest)) (sym next)) ∙ e)

-- texts one after the other
regrouped : (open_ formats between first rest close : List ℕ)
    → open_ ++ (formats ++ (between ++ ((first ++ rest) ++ close)))
    ≡ open_ ++ ((formats ++ ((between ++ first) ++ rest)) ++ close)
regrouped open_ formats between first rest close = simp append_assoc

-- formats and other kinds that are there, in parentheses
both_parts : (formats : List ℕ) (y : Kind) (ys : List Kind)
    → codes " (" ++ (formats ++ (codes "; " ++ (join_by amount_text (codes "; ") (y ∷ ys) ++ codes ")")))
    ≡ in_parentheses (formats ∷ map amount_text (y ∷ ys))
both_parts formats y ys =
    rw (flat_map-map (λ t. codes "; " ++ t) amount_text ys)
    (regrouped (codes " (") formats (codes "; ") (amount_text y) (flat_map (λ k. codes "; " ++ amount_text k) ys) (codes ")"))

-- other kinds alone
other_parts : (y : Kind) (ys : List Kind)
    → codes " (" ++ (join_by amount_text (codes "; ") (y ∷ ys) ++ codes ")")
    ≡ in_parentheses (map amount_text (y ∷ ys))
other_parts y ys = rw (flat_map-map (λ t. codes "; " ++ t) amount_text ys) refl

parts_by : (u v : Bool) (formats : List ℕ) (kinds : List Kind) → (u || v) ≡ true
    → (v ≡ true → (y : Kind) × ((ys : List Kind) × (kinds ≡ y ∷ ys))) → (v ≡ false → kinds ≡ [])
    → codes " (" ++ ((if u then formats else []) ++ (between_kinds (u && v)
    ++ (join_by amount_text (codes "; ") kinds ++ codes ")")))
    ≡ in_parentheses ((if u then (if u then formats else []) ∷ [] else []) ++ map amount_text kinds)
parts_by true true formats kinds some one none =
    let found = one refl in rw found.1.1 (both_parts formats found.0 found.1.0)
parts_by true false formats kinds some one none = rw (none refl) (simp append_assoc)
parts_by false true formats kinds some one none =
    let found = one refl in rw found.1.1 (other_parts found.0 found.1.0)
parts_by false false formats kinds some one none = cc

-- all kinds that are there, as they are written one after the other
pub in_parts : (formats things : List Kind) → (has_some formats || has_some things) ≡ true
    → codes " (" ++ (formats_text formats ++ (between_kinds (has_some formats && has_some things)
    ++ (listed (codes "; ") things ++ codes ")")))
    ≡ in_parentheses (formats_kind formats ++ map amount_text (filter is_some things))
in_parts formats things some =
    parts_by (has_some formats) (has_some things) (listed (codes ", ") formats ++ codes ": format not supported")
    (filter is_some things) some (one_stays is_some things) (none_stays is_some things)

-- the same of amounts that are these kinds
pub skipped_parts : (formats things : List amount.Amount) (fs ts : List Kind) (u v : Bool)
    → map amount_of formats ≡ fs → map amount_of things ≡ ts
    → u ≡ list_any (λ a. nat_lt 0 a.count) formats → v ≡ list_any (λ a. nat_lt 0 a.count) things
    → (u || v) ≡ true
    → codes " (" ++ (formats_text (map amount_of formats) ++ (between_kinds (u && v)
    ++ (listed (codes "; ") (map amount_of things) ++ codes ")")))
    ≡ in_parentheses (formats_kind fs ++ map amount_text (filter is_some ts))
skipped_parts formats things fs ts u v f t is_u is_v some =
    let u_is : u ≡ has_some (map amount_of formats) = is_u ∙ sym (any_of_view is_some amount_of formats) in
    let v_is : v ≡ has_some (map amount_of things) = is_v ∙ sym (any_of_view is_some amount_of things) in
    let all : (has_some (map amount_of formats) || has_some (map amount_of things)) ≡ true = cc in
    rw (u_is, v_is, ← f, ← t) (in_parts (map amount_of formats) (map amount_of things) all)

-- a number that is written, and what follows it
pub skipped_whole : (n m : ℕ) (rest kinds : List ℕ) → n ≡ m → rest ≡ kinds
    → (decimal n ++ codes " skipped") ++ rest ≡ decimal m ++ (codes " skipped" ++ kinds)
skipped_whole n m rest kinds e f = rw (e, f) (append_assoc (decimal m) (codes " skipped") kinds)

-- where there are none, nothing is in parentheses
pub no_parts : (formats things : List amount.Amount) (fs ts : List Kind)
    → map amount_of formats ≡ fs → map amount_of things ≡ ts
    → list_any (λ a. nat_lt 0 a.count) formats ≡ false → list_any (λ a. nat_lt 0 a.count) things ≡ false
    → in_parentheses (formats_kind fs ++ map amount_text (filter is_some ts)) ≡ []
no_parts formats things fs ts f t none_f none_t =
    let no_fs : has_some (map amount_of formats) ≡ false = any_of_view is_some amount_of formats ∙ none_f in
    let no_ts : has_some (map amount_of things) ≡ false = any_of_view is_some amount_of things ∙ none_t in
    rw (← f, ← t, no_fs, none_stays is_some (map amount_of things) no_ts) refl

-- the same of the line as it is written
pub skipped_alone : (n m : ℕ) (kinds : List ℕ) → n ≡ m → kinds ≡ []
    → decimal n ++ codes " skipped" ≡ decimal m ++ (codes " skipped" ++ kinds)
skipped_alone n m kinds e f = rw (e, f) refl

-- where there is no format, nothing is written of formats
pub no_formats_text : (formats : List amount.Amount)
    → list_any (λ a. nat_lt 0 a.count) formats ≡ false
    → formats_text (map amount_of formats) ≡ []
no_formats_text formats e = rw (any_of_view is_some amount_of formats, e) refl

-- where there is one, all are
pub some_formats_text : (formats : List amount.Amount)
    → list_any (λ a. nat_lt 0 a.count) formats ≡ true
    → listed (codes ", ") (map amount_of formats) ++ codes ": format not supported"
    ≡ formats_text (map amount_of formats)
some_formats_text formats e = rw (any_of_view is_some amount_of formats, e) refl

-- the pieces of a summary
pub line : (done space verb part current unchanged comma refused word skipped : List ℕ)
    → (done ++ (space ++ verb)) ++ (part ++ (current ++ (unchanged ++ ((comma ++ (refused ++ word)) ++ skipped))))
    ≡ done ++ (space ++ (verb ++ (part ++ (current ++ (unchanged ++ (comma ++ (refused ++ (word ++ skipped))))))))
line done space verb part current unchanged comma refused word skipped = simp append_assoc
