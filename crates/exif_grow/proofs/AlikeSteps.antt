-- The steps of making all fields of a name alike.
use Rattle.std.proofs.Common.{◌≡◌, ◌≤◌, ◌<◌, ◌+◌, ℕ, zero, suc, Bool, true, false, if◌then◌else◌, List, [], ◌∷◌, ◌++◌, length, map, drop, get_or, All, Option, Some, None, Result, Ok, Err, refl, sym, ap, subst, ◌∙◌, arith, append_assoc}
use Rattle.std.specs.Prelude.{◌^◌, nat_lt, slice_get}
use Rattle.std.specs.List.{list_any}
use Rattle.std.specs.Option.{option_map}
use Rattle.std.proofs.lemmas.Bool.Decides.{nat_tests}
use Rattle.std.proofs.lemmas.Grind.{common_steps}
use Rattle.std.proofs.Math.ListN.{drop_of_length-le}
use Rattle.std.proofs.lemmas.List.{append-nil}
use Rattle.std.proofs.lemmas.List.Folds.{list_any_none}
use Rattle.std.proofs.lemmas.List.Elements.{All-nil, All-cons, All-append, All-head, All-tail, All-weaker}
use Rattle.exif_base.specs.Bytes.{Reading, bytes_at}
use Rattle.exif_base.specs.Orders.{number_of, order_named}
use Rattle.exif_base.specs.declared.endian.Order.{Order}
use Rattle.exif_text.specs.declared.ifd.In.{In}
use Rattle.exif_types.specs.Lookup.{is_named}
use Rattle.exif_types.specs.declared.field.Field.{Field}
use Rattle.exif_types.specs.declared.tag.Tag.{Tag}
use Rattle.exif_types.specs.declared.value.Value.{Value}
use Rattle.exif_tiff.specs.Trace.{Found, Met, Node, Opens, Visit, entry_of, header, located_of, ordered_trace}
use Rattle.exif_tiff.specs.declared.offset.EntryOffset.{EntryOffset}
use Rattle.exif_tiff.proofs.TiffAnswers.{trace_right}
use Rattle.exif_edit_base.specs.Causes.{Cause, no_field, of_data, or_cause, ◌>>=◌}
use Rattle.exif_edit_base.specs.Finding.{IsLastAt, find_answer, last_located}
use Rattle.exif_edit_base.specs.Locations.{Located, located}
use Rattle.exif_edit_base.specs.Patches.{FitsIn}
use Rattle.exif_edit_base.specs.Readings.{Read, reading}
use Rattle.exif_edit_base.specs.Spans.{value_span}
use Rattle.exif_edit_base.proofs.ChangeSteps.{left_step}
use Rattle.exif_edit_base.proofs.FindSteps.{any_map, field_of, fields_read, header_named, last_found}
use Rattle.exif_edit_base.proofs.LocatedEntries.{AreSaid, last_said, ordered_said}
use Rattle.exif_edit.proofs.EraseSound.{values_within, zeros_fit}
use Rattle.exif_edit.proofs.SetSound.{was_found}
use Rattle.exif_grow.specs.Alike.{alike_at, alike_patches, beside, entries_alike, entries_named, entry_copied, field_alike, fields_alike, made_alike, read_alike, value_cleared, value_kept, values_cleared}
use Rattle.exif_grow.specs.Growing.{Added, first_read, grown, in_place}
use Rattle.exif_grow.proofs.GrowthSteps.{header_small}

-- ---- fields beside their offsets

-- located fields are their fields beside their offsets
pub beside_located : (ls : List Located) → beside (map field_of ls) (map entry_of ls) ≡ ls
beside_located [] = refl
beside_located (l ∷ ls) = ap (λ ms. l ∷ ms) (beside_located ls)

-- of data that were read, the fields beside the offsets are the located ones
pub are_located : (bytes : List ℕ) (read : Read) (ps : List EntryOffset) → reading bytes ≡ Ok read
    → ps ≡ map entry_of (located bytes) → beside read.fields ps ≡ located bytes
are_located bytes read ps h w =
    ap (λ fs. beside fs ps) (sym (fields_read bytes read h))
    ∙ (ap (beside (map field_of (located bytes))) w ∙ beside_located (located bytes))

-- a field beside its offset
abbrev pub one : Field → EntryOffset → Located
one f p = record { field = f; entry = p.entry; directory = p.directory }

-- those from an index on begin with the one there
pub got_step : {X : Type 0} (xs : List X) (i : ℕ) (x : X) → slice_get xs i ≡ Some x
    → drop i xs ≡ x ∷ drop (i + 1) xs
got_step {X = X} [] i x e = absurd (none_some e)
  where
    none_some : ◌≡◌ {A = Option X} None (Some x) → ⊥
    none_some e = cc
got_step {X = X} (y ∷ ys) zero x e = ap (λ z. z ∷ ys) (some_same e)
  where
    some_same : ◌≡◌ {A = Option X} (Some y) (Some x) → y ≡ x
    some_same e = cc
got_step (y ∷ ys) (suc i) x e =
    let n : suc i + 1 ≡ suc (i + 1) = omega arith in rw n (got_step ys i x e)

-- the first of located fields, and the others
named_first : (tag : Tag) (k : In) (l : Located) (ls : List Located)
    → entries_named tag k (l ∷ ls) ≡ entries_named tag k (l ∷ []) ++ entries_named tag k ls
named_first tag k l ls = by_test (is_named tag k l.field)
  where
    by_test : (b : Bool) → (if b then l.entry ∷ entries_named tag k ls else entries_named tag k ls)
        ≡ (if b then l.entry ∷ [] else []) ++ entries_named tag k ls
    by_test true = refl
    by_test false = refl

-- one field more was looked at
pub named_step : (tag : Tag) (k : In) (fs : List Field) (ps : List EntryOffset) (i : ℕ) (f : Field)
    (p : EntryOffset) (out new all : List ℕ) → i < length fs → f ≡ get_or fs i f
    → slice_get ps i ≡ Some p → new ≡ out ++ entries_named tag k (one f p ∷ [])
    → out ++ entries_named tag k (beside (drop i fs) (drop i ps)) ≡ all
    → new ++ entries_named tag k (beside (drop (i + 1) fs) (drop (i + 1) ps)) ≡ all
named_step tag k fs ps i f p out new all h e g n inv =
    let rest = beside (drop (i + 1) fs) (drop (i + 1) ps) in
    let a : out ++ entries_named tag k (one f p ∷ rest) ≡ all =
    rw (left_step fs i f h e, got_step ps i p g) at inv in
    rw n (append_assoc out (entries_named tag k (one f p ∷ [])) (entries_named tag k rest)
    ∙ (ap (λ xs. out ++ xs) (sym (named_first tag k (one f p) rest)) ∙ a))

-- one field more has the value
pub alike_step : (tag : Tag) (k : In) (value : Value) (f new : Field) (fs : List Field)
    (ps : List EntryOffset) (i : ℕ) (p : EntryOffset) (out all : List Field)
    → slice_get ps i ≡ Some p → new ≡ field_alike tag k value (one f p)
    → out ++ fields_alike tag k value (beside (f ∷ fs) (drop i ps)) ≡ all
    → (out ++ new ∷ []) ++ fields_alike tag k value (beside fs (drop (i + 1) ps)) ≡ all
alike_step tag k value f new fs ps i p out all g n inv =
    let rest = beside fs (drop (i + 1) ps) in
    let a : out ++ (field_alike tag k value (one f p) ∷ fields_alike tag k value rest) ≡ all =
    rw (got_step ps i p g) at inv in
    rw n (append_assoc out (field_alike tag k value (one f p) ∷ []) (fields_alike tag k value rest)
    ∙ a)

-- ---- entries lie in the data

-- the entry of an offset lies in data of a length
abbrev pub IsWhole : ℕ → EntryOffset → Type 0
IsWhole n p = p.entry + 12 ≤ n

nodes_whole : (number : Reading) (bytes : List ℕ) (nodes : List Node) → AreSaid number bytes nodes
    → All (IsWhole (length bytes)) (map entry_of (located_of nodes))
nodes_whole number bytes [] h = All-nil (IsWhole (length bytes))
nodes_whole number bytes (Opens d ∷ nodes) h = nodes_whole number bytes nodes h
nodes_whole number bytes (Visit ∷ nodes) h = nodes_whole number bytes nodes h
nodes_whole number bytes (Met fault ∷ nodes) h = nodes_whole number bytes nodes h
nodes_whole number bytes (Found l ∷ nodes) h =
    All-cons (IsWhole (length bytes)) (entry_of l) (map entry_of (located_of nodes)) h.0.whole
    (nodes_whole number bytes nodes h.1)

located_whole : (bytes : List ℕ) (order : Order) → header bytes ≡ Ok order
    → All (IsWhole (length bytes)) (map entry_of (located bytes))
unfolding located
located_whole bytes order h =
    subst (λ nodes. All (IsWhole (length bytes)) (map entry_of (located_of nodes)))
    (sym (trace_right bytes order h))
    (nodes_whole (number_of order) bytes (ordered_trace (number_of order) bytes)
    (ordered_said (number_of order) bytes))

-- the entries of data that were read lie in them
pub all_whole : (bytes : List ℕ) (read : Read) (ps : List EntryOffset) → reading bytes ≡ Ok read
    → ps ≡ map entry_of (located bytes) → All (IsWhole (length bytes)) ps
all_whole bytes read ps h w =
    subst (λ xs. All (IsWhole (length bytes)) xs) (sym w)
    (located_whole bytes (order_named read.little) (header_named bytes read h))

-- hence their offsets are small
pub all_near : (bytes : List ℕ) (read : Read) (ps : List EntryOffset) → reading bytes ≡ Ok read
    → ps ≡ map entry_of (located bytes) → All (λ (p : EntryOffset). p.entry + 8 < 2 ^ 32) ps
all_near bytes read ps h w =
    let small : length bytes < 2 ^ 32 =
    header_small bytes (order_named read.little) (header_named bytes read h) in
    All-weaker (IsWhole (length bytes)) (λ (p : EntryOffset). p.entry + 8 < 2 ^ 32)
    (λ p e. omega (arith, e, small)) ps (all_whole bytes read ps h w)

-- the entries of a name are among them
named_among : (P : ℕ → Type 0) (tag : Tag) (k : In) (ls : List Located)
    → All (λ (p : EntryOffset). P p.entry) (map entry_of ls) → All P (entries_named tag k ls)
named_among P tag k [] h = All-nil P
named_among P tag k (l ∷ ls) h =
    by_test (is_named tag k l.field)
    (named_among P tag k ls (All-tail (λ (p : EntryOffset). P p.entry) (entry_of l) (map entry_of ls) h))
  where
    by_test : (b : Bool) → All P (entries_named tag k ls)
        → All P (if b then l.entry ∷ entries_named tag k ls else entries_named tag k ls)
    by_test true t = All-cons P l.entry (entries_named tag k ls)
        (All-head (λ (p : EntryOffset). P p.entry) (entry_of l) (map entry_of ls) h) t
    by_test false t = t

-- the entries of a name lie in the data
pub named_whole : (bytes : List ℕ) (tag : Tag) (k : In) (read : Read) (ps : List EntryOffset)
    (es : List ℕ) → reading bytes ≡ Ok read → ps ≡ map entry_of (located bytes)
    → es ≡ entries_named tag k (beside read.fields ps) → All (λ e. e + 12 ≤ length bytes) es
named_whole bytes tag k read ps es h w n =
    let same : es ≡ entries_named tag k (located bytes) = n ∙ ap (entries_named tag k)
    (are_located bytes read ps h w) in
    subst (λ xs. All (λ e. e + 12 ≤ length bytes) xs) (sym same)
    (named_among (λ e. e + 12 ≤ length bytes) tag k (located bytes)
    (located_whole bytes (order_named read.little) (header_named bytes read h)))

-- ---- the patches lie in the data

copies_fit : (bytes : List ℕ) (e : ℕ) (es : List ℕ) → All (λ o. o + 12 ≤ length bytes) es
    → All (FitsIn (length bytes)) (map (entry_copied bytes e) es)
copies_fit bytes e [] h = All-nil (FitsIn (length bytes))
copies_fit bytes e (o ∷ es) h =
    let l : length (bytes_at 12 bytes e) ≤ 12 = grind (arith, common_steps) in
    let a : o + 12 ≤ length bytes = All-head (λ o. o + 12 ≤ length bytes) o es h in
    All-cons (FitsIn (length bytes)) (entry_copied bytes e o) (map (entry_copied bytes e) es)
    (omega (arith, l, a)) (copies_fit bytes e es (All-tail (λ o. o + 12 ≤ length bytes) o es h))

cleared_fit : (number : Reading) (bytes : List ℕ) (es : List ℕ)
    → All (FitsIn (length bytes)) (map (value_cleared number bytes) es)
cleared_fit number bytes [] = All-nil (FitsIn (length bytes))
cleared_fit number bytes (e ∷ es) =
    let one = zeros_fit (length bytes) (map (value_span number bytes) (e ∷ []))
    (values_within number bytes (e ∷ [])) in
    All-cons (FitsIn (length bytes)) (value_cleared number bytes e)
    (map (value_cleared number bytes) es)
    (All-head (FitsIn (length bytes)) (value_cleared number bytes e) [] one)
    (cleared_fit number bytes es)

kept_fits : (number : Reading) (bytes : List ℕ) (e : ℕ)
    → FitsIn (length bytes) (value_kept number bytes e)
kept_fits number bytes e =
    let s = value_span number bytes e in
    let w : s.offset + s.len ≤ length bytes = (values_within number bytes (e ∷ [])).0 in
    let l : length (bytes_at s.len bytes s.offset) ≤ s.len = grind (arith, common_steps) in
    omega (arith, w, l)

-- the value of an entry lies in the data, where it is outside of the entry
pub span_within : (number : Reading) (bytes : List ℕ) (e : ℕ)
    → (value_span number bytes e).offset + (value_span number bytes e).len ≤ length bytes
span_within number bytes e = (values_within number bytes (e ∷ [])).0

-- what makes entries alike lies in the data
pub alike_fits : (clear : Bool) (number : Reading) (bytes : List ℕ) (e : ℕ) (es : List ℕ)
    → All (λ o. o + 12 ≤ length bytes) es
    → All (FitsIn (length bytes)) (alike_patches clear number bytes e es)
alike_fits clear number bytes e es h =
    All-append (FitsIn (length bytes)) (values_cleared clear number bytes e es)
    (map (entry_copied bytes e) es) (by_clear clear) (copies_fit bytes e es h)
  where
    by_clear : (c : Bool) → All (FitsIn (length bytes)) (values_cleared c number bytes e es)
    by_clear true =
        All-append (FitsIn (length bytes)) (map (value_cleared number bytes) es)
        (value_kept number bytes e ∷ []) (cleared_fit number bytes es)
        (All-cons (FitsIn (length bytes)) (value_kept number bytes e) []
        (kept_fits number bytes e) (All-nil (FitsIn (length bytes))))
    by_clear false = All-nil (FitsIn (length bytes))

-- after the last entry nothing is left to add
pub all_added : {X : Type 0} (f : ℕ → X) (out all : List X) (es : List ℕ) (i : ℕ) → length es ≤ i
    → out ++ map f (drop i es) ≡ all → out ≡ all
all_added f out all es i h e =
    let d : drop i es ≡ [] = drop_of_length-le es h in
    sym (append-nil out) ∙ (ap (λ xs. out ++ map f xs) (sym d) ∙ e)

-- ---- the whole

-- where the name is not found, nothing is made alike, for the same cause
pub alike_missing : (bytes : List ℕ) (tag : Tag) (k : In) (c : Cause)
    → find_answer bytes tag k ≡ Err c → made_alike bytes tag k ≡ Err c
unfolding find_answer made_alike
alike_missing bytes tag k c h =
    by_steps (of_data (reading bytes)) (or_cause (last_located tag k (located bytes)) no_field) h
  where
    err_same : (d : Cause) → ◌≡◌ {A = Result (Read × ℕ) Cause} (Err d) (Err c) → d ≡ c
    err_same d e = cc

    ok_err : (x : Read × ℕ) → ◌≡◌ {A = Result (Read × ℕ) Cause} (Ok x) (Err c) → ⊥
    ok_err x e = cc

    by_steps : (x : Result Read Cause) (y : Result Located Cause)
        → ◌≡◌ {A = Result (Read × ℕ) Cause} (x >>= λ read. y >>= λ l. Ok (read, l.entry)) (Err c)
        → (x >>= λ read. y >>= λ l. alike_at bytes tag k read l) ≡ Err c
    by_steps (Err d) y h = ap (λ z. Err z) (err_same d h)
    by_steps (Ok read) (Err d) h = ap (λ z. Err z) (err_same d h)
    by_steps (Ok read) (Ok l) h = absurd (ok_err (read, l.entry) h)

-- what is found is read
pub found_read : (bytes : List ℕ) (tag : Tag) (k : In) (read : Read) (e : ℕ)
    → find_answer bytes tag k ≡ Ok (read, e) → reading bytes ≡ Ok read
found_read bytes tag k read e h = (was_found bytes tag k (read, e) h).reads

made_at : (bytes : List ℕ) (tag : Tag) (k : In) (read : Read) (at : Located)
    → reading bytes ≡ Ok read → last_located tag k (located bytes) ≡ Some at
    → made_alike bytes tag k ≡ alike_at bytes tag k read at
unfolding made_alike
made_at bytes tag k read at h l = rw (h, l) refl

-- the value of the last field of a name is the one at its index
last_value : (tag : Tag) (k : In) (ls : List Located) (i : ℕ) (at : Located)
    → IsLastAt tag k (map field_of ls) i → last_located tag k ls ≡ Some at
    → slice_get (map field_of ls) i ≡ Some at.field
last_value tag k [] i at h e = absurd h.0
last_value tag k (l ∷ ls) zero at h e =
    let none : list_any (λ (m : Located). is_named tag k m.field) ls ≡ false =
    any_map tag k ls ∙ list_any_none (is_named tag k) (map field_of ls) h.1 in
    let one : ◌≡◌ {A = Option Located} (Some l) (Some at) = rw (none, h.0) at e in
    ap (λ o. option_map field_of o) one
last_value tag k (l ∷ ls) (suc i) at h e =
    let n : suc i + 1 ≡ suc (i + 1) = omega arith in
    let t : All (λ f. is_named tag k f ≡ false) (drop (i + 1) (map field_of ls)) = rw n at h.1 in
    let p = last_found tag k ls i (h.0, t) in
    let any : list_any (λ (m : Located). is_named tag k m.field) ls ≡ true =
    any_map tag k ls ∙ p.3 in
    let r : last_located tag k ls ≡ Some at = rw any at e in
    last_value tag k ls i at (h.0, t) r

-- one field of a name stays as it is
pub alike_once : (bytes : List ℕ) (tag : Tag) (k : In) (read : Read) (e : ℕ)
    (ps : List EntryOffset) (es : List ℕ) → find_answer bytes tag k ≡ Ok (read, e)
    → ps ≡ map entry_of (located bytes) → es ≡ entries_named tag k (beside read.fields ps)
    → length es < 2 → made_alike bytes tag k ≡ Ok bytes
alike_once bytes tag k read e ps es f w n few =
    let found = was_found bytes tag k (read, e) f in
    let same : es ≡ entries_named tag k (located bytes) = n ∙ ap (entries_named tag k)
    (are_located bytes read ps found.reads w) in
    let t : nat_lt (length es) 2 ≡ true = grind (arith, nat_tests) in
    let u : nat_lt (length (entries_named tag k (located bytes))) 2 ≡ true =
    ap (λ (xs : List ℕ). nat_lt (length xs) 2) (sym same) ∙ t in
    made_at bytes tag k read found.at found.reads found.last ∙ rw u refl

-- several become like the last one
pub alike_again : (bytes : List ℕ) (tag : Tag) (k : In) (read : Read) (e i : ℕ) (value : Value)
    (ps : List EntryOffset) (es : List ℕ) (wanted : Read) → find_answer bytes tag k ≡ Ok (read, e)
    → IsLastAt tag k read.fields i
    → option_map (λ (f : Field). f.value) (slice_get read.fields i) ≡ Some value
    → ps ≡ map entry_of (located bytes) → es ≡ entries_named tag k (beside read.fields ps)
    → 2 ≤ length es
    → wanted ≡ record {
      little = read.little;
      fields = fields_alike tag k value (beside read.fields ps);
      faults = read.faults;
    }
    → entries_alike wanted e es bytes ≡ made_alike bytes tag k
alike_again bytes tag k read e i value ps es wanted f last v w n many r =
    let found = was_found bytes tag k (read, e) f in
    let at = found.at in
    let ls = are_located bytes read ps found.reads w in
    let same : es ≡ entries_named tag k (located bytes) = n ∙ ap (entries_named tag k) ls in
    let t : nat_lt (length es) 2 ≡ false = grind (arith, nat_tests) in
    let u : nat_lt (length (entries_named tag k (located bytes))) 2 ≡ false =
    ap (λ (xs : List ℕ). nat_lt (length xs) 2) (sym same) ∙ t in
    let got : slice_get read.fields i ≡ Some at.field =
    ap (λ fs. slice_get fs i) (sym (fields_read bytes read found.reads))
    ∙ last_value tag k (located bytes) i at
    (subst (λ fs. IsLastAt tag k fs i) (sym (fields_read bytes read found.reads)) last) found.last in
    let valued : value ≡ at.field.value =
    some_same value at.field.value (sym v ∙ ap (option_map (λ (f : Field). f.value)) got) in
    let wanted_is : wanted ≡ read_alike tag k at.field.value (located bytes) read =
    r ∙ ap (λ (x : Value × List Located). read_alike tag k x.0 x.1 read) (pair valued ls) in
    let here : entries_alike wanted e es bytes
    ≡ entries_alike (read_alike tag k at.field.value (located bytes) read) at.entry
    (entries_named tag k (located bytes)) bytes =
    ap (λ x. entries_alike x e es bytes) wanted_is
    ∙ (ap (λ x. entries_alike (read_alike tag k at.field.value (located bytes) read) x es bytes)
    (sym found.entry)
    ∙ ap (λ x. entries_alike (read_alike tag k at.field.value (located bytes) read) at.entry x bytes)
    same) in
    here ∙ sym (made_at bytes tag k read at found.reads found.last ∙ rw u refl)
  where
    some_same : (a b : Value) → ◌≡◌ {A = Option Value} (Some a) (Some b) → a ≡ b
    some_same a b e = cc

    pair : {a b : Value} {xs ys : List Located} → a ≡ b → xs ≡ ys
        → ◌≡◌ {A = Value × List Located} (a, xs) (b, ys)
    pair e g = rw (e, g) refl

-- ---- entries made alike

first_is : (wanted : Read) (order : Order) (e : ℕ) (es bytes : List ℕ) (a b : Added)
    → order ≡ order_named wanted.little
    → a ≡ in_place (alike_patches true (number_of order) bytes e es)
    → b ≡ in_place (alike_patches false (number_of order) bytes e es)
    → first_read wanted bytes a b
    ≡ first_read wanted bytes
    (in_place (alike_patches true (number_of (order_named wanted.little)) bytes e es))
    (in_place (alike_patches false (number_of (order_named wanted.little)) bytes e es))
first_is wanted order e es bytes a b o x y =
    let clear = λ (z : Order). in_place (alike_patches true (number_of z) bytes e es) in
    let keep = λ (z : Order). in_place (alike_patches false (number_of z) bytes e es) in
    ap (λ z. first_read wanted bytes z b) x
    ∙ (ap (λ z. first_read wanted bytes (clear order) z) y
    ∙ ap (λ z. first_read wanted bytes (clear z) (keep z)) o)

-- where they are read otherwise, that is refused
pub entries_refused : (wanted : Read) (order : Order) (e : ℕ) (es bytes : List ℕ) (a b : Added)
    (c : Cause) → order ≡ order_named wanted.little
    → a ≡ in_place (alike_patches true (number_of order) bytes e es)
    → b ≡ in_place (alike_patches false (number_of order) bytes e es)
    → first_read wanted bytes a b ≡ Err c → entries_alike wanted e es bytes ≡ Err c
unfolding entries_alike
entries_refused wanted order e es bytes a b c o x y h =
    let g = sym (first_is wanted order e es bytes a b o x y) ∙ h in rw g refl

-- else they are made
pub entries_made : (wanted : Read) (order : Order) (e : ℕ) (es bytes : List ℕ) (a b new : Added)
    → order ≡ order_named wanted.little
    → a ≡ in_place (alike_patches true (number_of order) bytes e es)
    → b ≡ in_place (alike_patches false (number_of order) bytes e es)
    → first_read wanted bytes a b ≡ Ok new
    → entries_alike wanted e es bytes ≡ Ok (grown new bytes)
unfolding entries_alike
entries_made wanted order e es bytes a b new o x y h =
    let g = sym (first_is wanted order e es bytes a b o x y) ∙ h in rw g refl

-- the last entry of a name lies in the data
pub entry_whole : (bytes : List ℕ) (tag : Tag) (k : In) (read : Read) (e : ℕ)
    → find_answer bytes tag k ≡ Ok (read, e) → e + 12 ≤ length bytes
unfolding located
entry_whole bytes tag k read e h =
    let found = was_found bytes tag k (read, e) h in
    let order = order_named read.little in
    let t = trace_right bytes order (header_named bytes read found.reads) in
    let last : last_located tag k (located_of (ordered_trace (number_of order) bytes))
    ≡ Some found.at =
    subst (λ nodes. last_located tag k (located_of nodes) ≡ Some found.at) t found.last in
    subst (λ x. x + 12 ≤ length bytes) found.entry
    (last_said (number_of order) bytes tag k found.at last).0.whole
