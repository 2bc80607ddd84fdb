-- The steps of putting a field into a new directory.
use Rattle.std.proofs.Common.{◌≡◌, ℕ, true, false, List, length, Some, None, Ok, Err, refl, sym, ap, ◌∙◌}
use Rattle.exif_base.specs.Orders.{number_of, order_named}
use Rattle.exif_base.specs.declared.endian.Order.{Order}
use Rattle.exif_text.specs.declared.ifd.In.{In}
use Rattle.exif_types.specs.declared.tag.Tag.{Tag}
use Rattle.exif_types.specs.declared.value.Value.{Value}
use Rattle.exif_types.specs.declared.field.Field.{Field}
use Rattle.exif_layout.specs.Refused.{is_unknown}
use Rattle.exif_tiff.specs.declared.stop.Stop.{Stop}
use Rattle.exif_tiff.specs.declared.stop.Stop.TheVariants as stop
use Rattle.exif_edit_base.specs.Causes.{Becomes, Cause, Fails, no_directory, offset_named, unknown_type, ◌>>=◌}
use Rattle.exif_edit_base.specs.Readings.{Read, ReadsTo, reading}
use Rattle.exif_edit_base.specs.declared.error.Error.{Error}
use Rattle.exif_edit.specs.Setting.{names_offsets}
use Rattle.exif_grow.specs.Growing.{Added}
use Rattle.exif_grow.specs.Creating.{child_added, child_field, child_value_offset, create_answer, created, created_in, created_under, parent_of}
use Rattle.exif_grow.specs.Directories.{directory_named}
use Rattle.exif_grow.specs.Inserting.{directory_fault, first_with, read_without_offsets}
use Rattle.exif_grow.specs.declared.create.Parent.{Parent}
use Rattle.exif_grow.specs.declared.directories.Directory.{Directory}

-- ---- in a directory

-- a field that can't be put there is refused
pub create_refused : (tag : Tag) (k : In) (value : Value) (bytes : List ℕ) (read : Read) (p : ℕ)
    (d : Directory) (order : Order) (offset : ℕ) (c : Cause)
    → order ≡ order_named read.little → offset ≡ child_value_offset d (length bytes)
    → directory_fault order value d offset (length bytes) ≡ Err c
    → created_in tag k value bytes read p d ≡ Err c
unfolding created_in
create_refused tag k value bytes read p d order offset c o q h =
    let g : directory_fault (order_named read.little) value d
    (child_value_offset d (length bytes)) (length bytes) ≡ Err c = rw o at (rw (q) at h) in
    rw g refl

-- any other is put there by the first of two growths that is read with it
pub create_passed : (tag : Tag) (k : In) (value : Value) (bytes : List ℕ) (read : Read) (p : ℕ)
    (d : Directory) (order : Order) (offset : ℕ) (field : Field) (wanted : Read) (a b : Added)
    → order ≡ order_named read.little → offset ≡ child_value_offset d (length bytes)
    → directory_fault order value d offset (length bytes) ≡ Ok tt
    → a ≡ child_added true order p tag.1 value bytes d
    → b ≡ child_added false order p tag.1 value bytes d
    → field ≡ child_field order tag k value d (length bytes) → wanted ≡ read_without_offsets read
    → first_with tag k field wanted bytes a b ≡ created_in tag k value bytes read p d
unfolding created_in
create_passed tag k value bytes read p d order offset field wanted a b o q h x y f w =
    let n = length bytes in
    let order' = order_named read.little in
    let first = child_added true order' p tag.1 value bytes d in
    let second = child_added false order' p tag.1 value bytes d in
    let field' = child_field order' tag k value d n in
    let g : directory_fault order' value d (child_value_offset d n) n ≡ Ok tt = rw o at (rw (q) at h) in
    let x1 : a ≡ first = x ∙ ap (λ z. child_added true z p tag.1 value bytes d) o in
    let y1 : b ≡ second = y ∙ ap (λ z. child_added false z p tag.1 value bytes d) o in
    let f1 : field ≡ field' = f ∙ ap (λ z. child_field z tag k value d n) o in
    ap (λ z. first_with tag k z wanted bytes a b) f1
    ∙ (ap (λ z. first_with tag k field' z bytes a b) w
    ∙ (ap (λ z. first_with tag k field' (read_without_offsets read) bytes z b) x1
    ∙ (ap (λ z. first_with tag k field' (read_without_offsets read) bytes first z) y1
    ∙ sym (ap (λ z. z >>= λ u. first_with tag k field' (read_without_offsets read) bytes first second)
    g))))

-- ---- the whole

-- where reading stops
pub create_stopped : (s : Stop) (bytes : List ℕ) (tag : Tag) (k : In) (value : Value) (e : Error)
    → ReadsTo (Err s) (reading bytes) → Becomes s e → Fails e (created bytes tag k value)
unfolding created
create_stopped stop.OutOfMemory bytes tag k value e h b = rw b refl
create_stopped (stop.Fault fault) bytes tag k value e h b = rw (b, h) refl

-- where nothing points at such directories
pub create_orphan : (bytes : List ℕ) (tag : Tag) (k : In) (value : Value) (read : Read)
    → reading bytes ≡ Ok read → parent_of tag.0 ≡ None
    → created bytes tag k value ≡ Err no_directory
unfolding created
create_orphan bytes tag k value read r h = rw (r, h) refl

-- where something does
pub create_parent : (bytes : List ℕ) (tag : Tag) (k : In) (value : Value) (read : Read)
    (parent : Parent)
    → reading bytes ≡ Ok read → parent_of tag.0 ≡ Some parent
    → created bytes tag k value ≡ created_under tag k value bytes read parent
unfolding created
create_parent bytes tag k value read parent r h = rw (r, h) refl

-- where the directory that is to point at it is not there
pub create_nowhere : (bytes : List ℕ) (tag : Tag) (k : In) (value : Value) (read : Read)
    (order : Order) (parent : Parent)
    → order ≡ order_named read.little
    → directory_named (number_of order) bytes parent.context k.0 ≡ None
    → created_under tag k value bytes read parent ≡ Err no_directory
unfolding created_under
create_nowhere bytes tag k value read order parent o h =
    let g : directory_named (number_of (order_named read.little)) bytes parent.context k.0 ≡ None =
    ap (λ z. directory_named (number_of z) bytes parent.context k.0) (sym o) ∙ h in
    rw g refl

-- where it is
pub create_there : (bytes : List ℕ) (tag : Tag) (k : In) (value : Value) (read : Read)
    (order : Order) (parent : Parent) (d : Directory)
    → order ≡ order_named read.little
    → directory_named (number_of order) bytes parent.context k.0 ≡ Some d
    → created_under tag k value bytes read parent ≡ created_in tag k value bytes read parent.tag d
unfolding created_under
create_there bytes tag k value read order parent d o h =
    let g : directory_named (number_of (order_named read.little)) bytes parent.context k.0
    ≡ Some d =
    ap (λ z. directory_named (number_of z) bytes parent.context k.0) (sym o) ∙ h in
    rw g refl

-- a field whose values say where other bytes stand is not put into a directory
pub create_named : (bytes : List ℕ) (tag : Tag) (k : In) (value : Value) → names_offsets tag ≡ true
    → create_answer bytes tag k value ≡ Err offset_named
unfolding create_answer
create_named bytes tag k value h = rw h refl

-- nor is a value of an unknown type
pub create_unknown : (bytes : List ℕ) (tag : Tag) (k : In) (value : Value)
    → names_offsets tag ≡ false
    → is_unknown value ≡ true → create_answer bytes tag k value ≡ Err unknown_type
unfolding create_answer
create_unknown bytes tag k value h u = rw (h, u) refl

-- any other is
pub create_known : (bytes : List ℕ) (tag : Tag) (k : In) (value : Value)
    → names_offsets tag ≡ false
    → is_unknown value ≡ false → create_answer bytes tag k value ≡ created bytes tag k value
unfolding create_answer
create_known bytes tag k value h u = rw (h, u) refl
