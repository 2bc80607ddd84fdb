-- The steps of putting a field into a directory.
use Rattle.std.proofs.Common.{◌≡◌, ◌<◌, ◌+◌, ℕ, Bool, true, false, List, ◌∷◌, length, get_or, drop, Some, None, Ok, Err, refl, sym, ap, ◌∙◌}
use Rattle.std.specs.Prelude.{◌&&◌, not}
use Rattle.exif_base.specs.Orders.{number_of, order_named}
use Rattle.exif_base.specs.declared.endian.Order.{Order}
use Rattle.exif_text.specs.declared.ifd.In.{In}
use Rattle.exif_types.specs.FieldEq.{field_eq}
use Rattle.exif_types.specs.Lookup.{is_named}
use Rattle.exif_types.specs.declared.tag.Tag.{Tag}
use Rattle.exif_types.specs.declared.value.Value.{Value}
use Rattle.exif_types.specs.declared.field.Field.{Field}
use Rattle.exif_layout.specs.Refused.{is_unknown}
use Rattle.exif_tiff.specs.declared.stop.Stop.{Stop}
use Rattle.exif_tiff.specs.declared.stop.Stop.TheVariants as stop
use Rattle.exif_edit_base.specs.Causes.{Becomes, Cause, Fails, no_directory, offset_named, unknown_type, ◌>>=◌}
use Rattle.exif_edit_base.specs.Readings.{Read, ReadsTo, reading}
use Rattle.exif_edit_base.specs.declared.error.Error.{Error}
use Rattle.exif_edit_base.proofs.ChangeSteps.{left_step}
use Rattle.exif_edit.specs.Setting.{names_offsets}
use Rattle.exif_grow.specs.Growing.{Added}
use Rattle.exif_grow.specs.Directories.{directory_named, leading_in}
use Rattle.exif_grow.specs.Inserting.{field_added, first_with, insert_answer, directory_fault, inserted, inserted_in, is_only, new_field, read_without_offsets, value_offset}
use Rattle.exif_grow.specs.declared.directories.Directory.{Directory}

-- ---- the only field of a name

-- a second one
pub only_seen : (tag : Tag) (k : In) (field f : Field) (fs : List Field) → is_named tag k f ≡ true
    → is_only tag k field true (f ∷ fs) ≡ false
only_seen tag k field f fs h = rw h refl

-- another one
pub only_other : (tag : Tag) (k : In) (field f : Field) (seen : Bool) (fs : List Field)
    → is_named tag k f ≡ true
    → field_eq f field ≡ false → is_only tag k field seen (f ∷ fs) ≡ false
only_other tag k field f seen fs h e = rw (h, e) (by_seen seen)
  where
    by_seen : (b : Bool) → (not b && false) ≡ false
    by_seen true = refl
    by_seen false = refl

-- the first one
pub only_first : (tag : Tag) (k : In) (field f : Field) (fs : List Field) → is_named tag k f ≡ true
    → field_eq f field ≡ true
    → is_only tag k field false (f ∷ fs) ≡ is_only tag k field true fs
only_first tag k field f fs h e = rw (h, e) refl

-- a field of another name
pub only_on : (tag : Tag) (k : In) (field f : Field) (seen : Bool) (fs : List Field)
    → is_named tag k f ≡ false → is_only tag k field seen (f ∷ fs) ≡ is_only tag k field seen fs
only_on tag k field f seen fs h = rw h refl

-- ---- in a directory

-- a field that can't be put there is refused
pub insert_refused : (tag : Tag) (k : In) (value : Value) (bytes : List ℕ) (read : Read)
    (d : Directory) (order : Order) (offset : ℕ) (c : Cause)
    → order ≡ order_named read.little → offset ≡ value_offset d (length bytes)
    → directory_fault order value d offset (length bytes) ≡ Err c
    → inserted_in tag k value bytes read d ≡ Err c
unfolding inserted_in
insert_refused tag k value bytes read d order offset c o q h =
    let g : directory_fault (order_named read.little) value d
    (value_offset d (length bytes)) (length bytes) ≡ Err c = rw o at (rw (q) at h) in
    rw g refl

-- any other is put there by the first of two growths that is read with it
pub insert_passed : (tag : Tag) (k : In) (value : Value) (bytes : List ℕ) (read : Read)
    (d : Directory) (order : Order) (offset j : ℕ) (field : Field) (wanted : Read) (a b : Added)
    → order ≡ order_named read.little → offset ≡ value_offset d (length bytes)
    → directory_fault order value d offset (length bytes) ≡ Ok tt
    → a ≡ field_added true order tag.1 value bytes d
    → b ≡ field_added false order tag.1 value bytes d
    → j ≡ leading_in (number_of order) bytes tag.1 d
    → field ≡ new_field order tag k value d j (length bytes) → wanted ≡ read_without_offsets read
    → first_with tag k field wanted bytes a b
    ≡ inserted_in tag k value bytes read d
unfolding inserted_in
insert_passed tag k value bytes read d order offset j field wanted a b o q h x y l f w =
    let n = length bytes in
    let order' = order_named read.little in
    let first = field_added true order' tag.1 value bytes d in
    let second = field_added false order' tag.1 value bytes d in
    let j' = leading_in (number_of order') bytes tag.1 d in
    let field' = new_field order' tag k value d j' n in
    let g : directory_fault order' value d (value_offset d n) n ≡ Ok tt = rw o at (rw (q) at h) in
    let x1 : a ≡ first = x ∙ ap (λ z. field_added true z tag.1 value bytes d) o in
    let y1 : b ≡ second = y ∙ ap (λ z. field_added false z tag.1 value bytes d) o in
    let f1 : field ≡ field' =
    f ∙ (ap (λ i. new_field order tag k value d i n) l
    ∙ ap (λ z. new_field z tag k value d (leading_in (number_of z) bytes tag.1 d) n) o) in
    ap (λ z. first_with tag k z wanted bytes a b) f1
    ∙ (ap (λ z. first_with tag k field' z bytes a b) w
    ∙ (ap (λ z. first_with tag k field' (read_without_offsets read) bytes z b) x1
    ∙ (ap (λ z. first_with tag k field' (read_without_offsets read) bytes first z) y1
    ∙ sym (ap (λ z. z >>= λ u. first_with tag k field' (read_without_offsets read) bytes first second)
    g))))

-- ---- the whole

-- where reading stops
pub insert_stopped : (s : Stop) (bytes : List ℕ) (tag : Tag) (k : In) (value : Value) (e : Error)
    → ReadsTo (Err s) (reading bytes) → Becomes s e → Fails e (inserted bytes tag k value)
unfolding inserted
insert_stopped stop.OutOfMemory bytes tag k value e h b = rw b refl
insert_stopped (stop.Fault fault) bytes tag k value e h b = rw (b, h) refl

-- where no directory has the name
pub insert_nowhere : (bytes : List ℕ) (tag : Tag) (k : In) (value : Value) (read : Read)
    (order : Order)
    → reading bytes ≡ Ok read → order ≡ order_named read.little
    → directory_named (number_of order) bytes tag.0 k.0 ≡ None
    → inserted bytes tag k value ≡ Err no_directory
unfolding inserted
insert_nowhere bytes tag k value read order r o h =
    let g : directory_named (number_of (order_named read.little)) bytes tag.0 k.0 ≡ None =
    ap (λ z. directory_named (number_of z) bytes tag.0 k.0) (sym o) ∙ h in
    rw (r, g) refl

-- where one has
pub insert_there : (bytes : List ℕ) (tag : Tag) (k : In) (value : Value) (read : Read)
    (order : Order) (d : Directory)
    → reading bytes ≡ Ok read → order ≡ order_named read.little
    → directory_named (number_of order) bytes tag.0 k.0 ≡ Some d
    → inserted bytes tag k value ≡ inserted_in tag k value bytes read d
unfolding inserted
insert_there bytes tag k value read order d r o h =
    let g : directory_named (number_of (order_named read.little)) bytes tag.0 k.0 ≡ Some d =
    ap (λ z. directory_named (number_of z) bytes tag.0 k.0) (sym o) ∙ h in
    rw (r, g) refl

-- a field whose values say where other bytes stand is not put into a directory
pub insert_named : (bytes : List ℕ) (tag : Tag) (k : In) (value : Value) → names_offsets tag ≡ true
    → insert_answer bytes tag k value ≡ Err offset_named
unfolding insert_answer
insert_named bytes tag k value h = rw h refl

-- nor is a value of an unknown type
pub insert_unknown : (bytes : List ℕ) (tag : Tag) (k : In) (value : Value)
    → names_offsets tag ≡ false
    → is_unknown value ≡ true → insert_answer bytes tag k value ≡ Err unknown_type
unfolding insert_answer
insert_unknown bytes tag k value h u = rw (h, u) refl

-- any other is
pub insert_known : (bytes : List ℕ) (tag : Tag) (k : In) (value : Value)
    → names_offsets tag ≡ false
    → is_unknown value ≡ false → insert_answer bytes tag k value ≡ inserted bytes tag k value
unfolding insert_answer
insert_known bytes tag k value h u = rw (h, u) refl

-- ---- the loop over fields

-- a second field of the name was found
pub seen_twice : (tag : Tag) (k : In) (field x : Field) (fs : List Field) (i : ℕ) (seen all : Bool)
    → i < length fs → x ≡ get_or fs i x → seen ≡ true → is_named tag k x ≡ true
    → is_only tag k field seen (drop i fs) ≡ all → false ≡ all
seen_twice tag k field x fs i seen all l is m n inv =
    let a : is_only tag k field true (x ∷ drop (i + 1) fs) ≡ all =
    rw (left_step fs i x l is, m) at inv in
    sym (only_seen tag k field x (drop (i + 1) fs) n) ∙ a

-- one of the name with another value was found
pub seen_other : (tag : Tag) (k : In) (field x : Field) (fs : List Field) (i : ℕ) (seen all : Bool)
    → i < length fs → x ≡ get_or fs i x → field_eq x field ≡ false → is_named tag k x ≡ true
    → is_only tag k field seen (drop i fs) ≡ all → false ≡ all
seen_other tag k field x fs i seen all l is s n inv =
    let a : is_only tag k field seen (x ∷ drop (i + 1) fs) ≡ all = rw (left_step fs i x l is) at inv in
    sym (only_other tag k field x seen (drop (i + 1) fs) n s) ∙ a

-- the first was found
pub seen_first : (tag : Tag) (k : In) (field x : Field) (fs : List Field) (i : ℕ) (seen all : Bool)
    → i < length fs → x ≡ get_or fs i x → seen ≡ false → field_eq x field ≡ true
    → is_named tag k x ≡ true
    → is_only tag k field seen (drop i fs) ≡ all
    → is_only tag k field true (drop (i + 1) fs) ≡ all
seen_first tag k field x fs i seen all l is m s n inv =
    let a : is_only tag k field false (x ∷ drop (i + 1) fs) ≡ all =
    rw (left_step fs i x l is, m) at inv in
    sym (only_first tag k field x (drop (i + 1) fs) n s) ∙ a

-- one of another name was found
pub seen_none : (tag : Tag) (k : In) (field x : Field) (fs : List Field) (i : ℕ) (seen all : Bool)
    → i < length fs → x ≡ get_or fs i x → is_named tag k x ≡ false
    → is_only tag k field seen (drop i fs) ≡ all
    → is_only tag k field seen (drop (i + 1) fs) ≡ all
seen_none tag k field x fs i seen all l is n inv =
    let a : is_only tag k field seen (x ∷ drop (i + 1) fs) ≡ all = rw (left_step fs i x l is) at inv in
    sym (only_on tag k field x seen (drop (i + 1) fs) n) ∙ a
