-- The steps of moving an item, one after another.
use Rattle.std.proofs.Common.{◌≡◌, ◌≤◌, ◌<◌, ◌+◌, ℕ, Bool, true, false, List, [], ◌∷◌, ◌++◌, length, Result, Ok, Err, refl, sym, ap, ◌∙◌, arith}
use Rattle.std.specs.Prelude.{◌^◌, ◌-◌, nat_lt, not}
use Rattle.std.proofs.lemmas.Bool.Decides.{nat_tests}
use Rattle.exif_types.specs.Failures.{Failure}
use Rattle.exif_types.specs.Refusals as refusals
use Rattle.exif_types.specs.Refusals.{Refusal, is_io_error, refusal_of}
use Rattle.exif_types.specs.declared.error.Error.TheVariants as failure
use Rattle.exif_isobmff.specs.declared.entries.Entry.{Entry}
use Rattle.exif_isobmff.specs.declared.locations.Extent.{Extent}
use Rattle.exif_edit_base.specs.Causes.{Cause, Fails, Stops, no_data, of_container, shared, unless, ◌>>=◌}
use Rattle.exif_edit_base.specs.declared.error.Error.{Error}
use Rattle.exif_edit_base.specs.declared.patch.Patch.{Patch}
use Rattle.exif_grow.specs.Growing.{Added, grown}
use Rattle.exif_grow.specs.Entries.{moved_entry}
use Rattle.exif_grow.specs.ItemFields.{ItemFields, are_closed, item_fields}
use Rattle.exif_grow.specs.Items.{entry_patch, fields_offset, first_held, item_added, item_grown, item_growth, item_moved, media_box, one_range, range_cleared}
use Rattle.exif_grow.specs.Refusals.{large, narrow, open_ended}

-- ---- the steps from an entry on

-- the growths of an item whose entry has a text
abbrev pub added_for : Bool → List ℕ → ItemFields → Extent → List ℕ → Added
added_for clear new fields range text =
    item_added clear range (entry_patch (fields_offset fields) text) (fields.header ++ new)

abbrev pub ranged : List ℕ → List ℕ → ItemFields → Extent → List ℕ → Result Added Cause
ranged file new fields range text =
    unless (nat_lt (length file) (range.offset + range.len)) shared
    >>= λ v. first_held file new (added_for true new fields range text)
    (added_for false new fields range text)

abbrev pub placed : List ℕ → List ℕ → ItemFields → Extent → List ℕ → Result Added Cause
placed file new fields range text =
    unless (nat_lt (length file) (fields_offset fields + length text)) shared
    >>= λ u. ranged file new fields range text

-- an item that is too large is refused
pub moved_large : (file new : List ℕ) (fields : ItemFields) (range : Extent)
    → length file + 8 < 2 ^ 64 → 65535 < length (fields.header ++ new)
    → item_moved file new fields range ≡ Err large
unfolding item_moved
moved_large file new fields range a b =
    let x : nat_lt (2 ^ 64 - 1) (length file + 8) ≡ false = grind (arith, nat_tests) in
    let y : nat_lt 65535 (length (fields.header ++ new)) ≡ true = grind (arith, nat_tests) in
    let on = moved_entry fields.entry (length file + 8) (length (fields.header ++ new))
    >>= placed file new fields range in
    ap (λ t. unless t narrow >>= λ u. unless (nat_lt 65535 (length (fields.header ++ new))) large >>= λ v. on) x
    ∙ ap (λ t. unless t large >>= λ v. on) y

-- any other is moved by its entry
pub moved_on : (file new : List ℕ) (fields : ItemFields) (range : Extent)
    → length file + 8 < 2 ^ 64 → length (fields.header ++ new) ≤ 65535
    → item_moved file new fields range
    ≡ (moved_entry fields.entry (length file + 8) (length (fields.header ++ new))
    >>= placed file new fields range)
unfolding item_moved
moved_on file new fields range a b =
    let x : nat_lt (2 ^ 64 - 1) (length file + 8) ≡ false = grind (arith, nat_tests) in
    let y : nat_lt 65535 (length (fields.header ++ new)) ≡ false = grind (arith, nat_tests) in
    let on = moved_entry fields.entry (length file + 8) (length (fields.header ++ new))
    >>= placed file new fields range in
    ap (λ t. unless t narrow >>= λ u. unless (nat_lt 65535 (length (fields.header ++ new))) large >>= λ v. on) x
    ∙ ap (λ t. unless t large >>= λ v. on) y

-- with the text of its entry
pub moved_text : (file new : List ℕ) (fields : ItemFields) (range : Extent) (text : List ℕ)
    → length file + 8 < 2 ^ 64 → length (fields.header ++ new) ≤ 65535
    → moved_entry fields.entry (length file + 8) (length (fields.header ++ new)) ≡ Ok text
    → item_moved file new fields range ≡ placed file new fields range text
moved_text file new fields range text a b e =
    moved_on file new fields range a b ∙ ap (λ x. x >>= placed file new fields range) e

-- the same entry, by equal numbers
pub same_entry : (e : Entry) (a b n m : ℕ) → a ≡ b → n ≡ m → moved_entry e a n ≡ moved_entry e b m
same_entry e a b n m p q =
    ap (λ x. moved_entry e x n) p ∙ ap (λ x. moved_entry e b x) q

-- an entry past the end of the file
pub placed_past : (file new : List ℕ) (fields : ItemFields) (range : Extent) (text : List ℕ)
    → length file < fields_offset fields + length text
    → placed file new fields range text ≡ Err shared
placed_past file new fields range text h =
    let x : nat_lt (length file) (fields_offset fields + length text) ≡ true = grind (arith, nat_tests) in
    ap (λ t. unless t shared >>= λ u. ranged file new fields range text) x

-- an entry in the file
pub placed_on : (file new : List ℕ) (fields : ItemFields) (range : Extent) (text : List ℕ)
    → fields_offset fields + length text ≤ length file
    → placed file new fields range text ≡ ranged file new fields range text
placed_on file new fields range text h =
    let x : nat_lt (length file) (fields_offset fields + length text) ≡ false = grind (arith, nat_tests) in
    ap (λ t. unless t shared >>= λ u. ranged file new fields range text) x

-- a range past the end of the file
pub ranged_past : (file new : List ℕ) (fields : ItemFields) (range : Extent) (text : List ℕ)
    → length file < range.offset + range.len → ranged file new fields range text ≡ Err shared
ranged_past file new fields range text h =
    let x : nat_lt (length file) (range.offset + range.len) ≡ true = grind (arith, nat_tests) in
    ap (λ t. unless t shared >>= λ v. first_held file new (added_for true new fields range text) (added_for false new fields range text)) x

-- a range in the file
pub ranged_on : (file new : List ℕ) (fields : ItemFields) (range : Extent) (text : List ℕ)
    → range.offset + range.len ≤ length file → ranged file new fields range text
    ≡ first_held file new (added_for true new fields range text) (added_for false new fields range text)
ranged_on file new fields range text h =
    let x : nat_lt (length file) (range.offset + range.len) ≡ false = grind (arith, nat_tests) in
    ap (λ t. unless t shared >>= λ v. first_held file new (added_for true new fields range text) (added_for false new fields range text)) x

-- what the program adds is what the definition does
pub added_is : (clear : Bool) (new : List ℕ) (fields : ItemFields) (range : Extent)
    (text bytes header tail : List ℕ) (offset : ℕ) (ps : List Patch)
    → ps ≡ range_cleared clear range ++ record { offset = offset; bytes = bytes } ∷ []
    → offset ≡ fields_offset fields → bytes ≡ text → tail ≡ media_box (header ++ new)
    → header ≡ fields.header
    → added_for clear new fields range text ≡ record { patches = ps; tail = tail }
added_is clear new fields range text bytes header tail offset ps p o b t h =
    let patch : ◌≡◌ {A = Patch} (record { offset = offset; bytes = bytes }) (entry_patch (fields_offset fields) text) = cc in
    let patches : ps ≡ range_cleared clear range ++ entry_patch (fields_offset fields) text ∷ [] =
    p ∙ ap (λ x. range_cleared clear range ++ x ∷ []) patch in
    let box : tail ≡ media_box (fields.header ++ new) = t ∙ ap (λ x. media_box (x ++ new)) h in
    let first : ◌≡◌ {A = Added} (added_for clear new fields range text) (record { patches = ps; tail = media_box (fields.header ++ new) }) =
    ap (λ x. record { patches = x; tail = media_box (fields.header ++ new) }) (sym patches) in
    first ∙ ap (λ x. record { patches = ps; tail = x }) (sym box)

-- the first of two, by what they are
pub same_first : (file new : List ℕ) (a b c d : Added) → a ≡ c → b ≡ d
    → first_held file new a b ≡ first_held file new c d
same_first file new a b c d p q =
    ap (λ x. first_held file new x b) p ∙ ap (λ x. first_held file new c x) q

-- ---- the steps of the whole

abbrev moved_by : List ℕ → List ℕ → ItemFields → Result Added Cause
moved_by file new f = one_range f.ranges >>= item_moved file new f

-- a file without an item is refused
pub growth_unread : (file new : List ℕ) (r : Refusal) → item_fields file ≡ Err r
    → item_growth file new ≡ Err (no_data r)
unfolding item_growth
growth_unread file new r e =
    ap (λ x. of_container x >>= λ f. unless (not (are_closed file)) open_ended >>= λ u. moved_by file new f) e

-- a file with one is refused, or moved
growth_read : (file new : List ℕ) (f : ItemFields) → item_fields file ≡ Ok f
    → item_growth file new ≡ (unless (not (are_closed file)) open_ended >>= λ u. moved_by file new f)
unfolding item_growth
growth_read file new f e =
    ap (λ x. of_container x >>= λ f. unless (not (are_closed file)) open_ended >>= λ u. moved_by file new f) e

pub growth_open : (file new : List ℕ) (f : ItemFields) → item_fields file ≡ Ok f
    → are_closed file ≡ false → item_growth file new ≡ Err open_ended
growth_open file new f e o =
    growth_read file new f e
    ∙ ap (λ b. unless (not b) open_ended >>= λ u. moved_by file new f) o

pub growth_ranges : (file new : List ℕ) (f : ItemFields) → item_fields file ≡ Ok f
    → are_closed file ≡ true → item_growth file new ≡ (one_range f.ranges >>= item_moved file new f)
growth_ranges file new f e o =
    growth_read file new f e
    ∙ ap (λ b. unless (not b) open_ended >>= λ u. moved_by file new f) o

-- an error of reading is that of an edit
pub stopped : {A B : Type 0} (e : Failure) (err : Error) (x : Result A Refusal) (y : Result B Cause)
    → Stops e err → refusals.Fails e x → is_io_error e ≡ false
    → ((r : Refusal) → x ≡ Err r → y ≡ Err (no_data r)) → Fails err y
stopped (failure.InvalidFormat t) err x y s h n f = rw s (f _ h)
stopped (failure.NotFound t) err x y s h n f = rw s (f _ h)
stopped (failure.BlankValue t) err x y s h n f = rw s (f _ h)
stopped (failure.TooBig t) err x y s h n f = rw s (f _ h)
stopped (failure.NotSupported t) err x y s h n f = rw s (f _ h)
stopped (failure.UnexpectedValue t) err x y s h n f = rw s (f _ h)
stopped (failure.PartialResult p) err x y s h n f = absurd h
stopped (failure.Io c) err x y s h n f = absurd (true_false n)
  where
    true_false : ◌≡◌ {A = Bool} true false → ⊥
    true_false e = cc
stopped failure.OutOfMemory err x y s h n f = rw s refl

-- ---- the new file

pub file_refused : (file new : List ℕ) (c : Cause) → item_growth file new ≡ Err c
    → item_grown file new ≡ Err c
unfolding item_grown
file_refused file new c e = ap (λ x. x >>= λ a. Ok (grown a file)) e

pub file_grown : (file new : List ℕ) (a : Added) → item_growth file new ≡ Ok a
    → item_grown file new ≡ Ok (grown a file)
unfolding item_grown
file_grown file new a e = ap (λ x. x >>= λ a. Ok (grown a file)) e
