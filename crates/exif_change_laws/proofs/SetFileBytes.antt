-- A field that is set over itself in a file changes no byte.
use Rattle.std.proofs.Common.{◌≡◌, ◌∙◌, ◌<◌, ◌^◌, ℕ, List, All, length, Result, Ok, sym, ap, subst}
use Rattle.exif_types.specs.Refusals.{Refusal}
use Rattle.exif_types.specs.declared.field.Field.{Field}
use Rattle.exif_tiff.specs.declared.fault.Fault.TheVariants.{TooManyEntries}
use Rattle.exif_isobmff.specs.Extents.{IsWhole, joined_bytes}
use Rattle.exif_isobmff.specs.declared.locations.Extent.{Extent}
use Rattle.exif_containers.specs.Container.{container_answer}
use Rattle.exif_containers.specs.Located.{Located, located_answer}
use Rattle.exif_containers.proofs.Replacing.{data_are_located}
use Rattle.exif_edit_base.specs.Causes.{Cause, of_container, wrong_header, ◌>>=◌}
use Rattle.exif_edit_base.specs.Patches.{patched}
use Rattle.exif_edit_base.proofs.CauseSteps.{bound, data_held, ok_same, passed}
use Rattle.exif_edit.specs.Edits.{edited, reads_past}
use Rattle.exif_edit.specs.Setting.{set_answer}
use Rattle.exif_edit.specs.InFiles.{IsEditedIn, file_patches}
use Rattle.exif_edit.proofs.FilesSound.{file_sound}
use Rattle.exif_setting.specs.InPlace.{field_set, setting}
use Rattle.exif_change.specs.Reading.{entry_limit}
use Rattle.exif_change_laws.specs.Assigned.{KeepsEntry}
use Rattle.exif_change_laws.specs.Positions.{extents}
use Rattle.exif_change_laws.proofs.JoinedFiles.{files_same}
use Rattle.exif_change_laws.proofs.SetBytes.{set_again}

bytes_same : (a b : List ℕ) → ◌≡◌ {A = Result (List ℕ) Refusal} (Ok a) (Ok b) → a ≡ b
bytes_same a b e = cc

-- a field that was set in a file
was_edited : (g : Field) (file new : List ℕ) → length file < 2 ^ 64 → field_set g file ≡ Ok new
    → IsEditedIn entry_limit (setting g) file new
was_edited g file new short e =
    let b = bound (file_patches entry_limit (setting g) file) (λ ps. Ok (patched ps file)) new e in
    subst (λ xs. IsEditedIn entry_limit (setting g) file xs) (ok_same (patched b.0 file) new b.2)
    (file_sound entry_limit (setting g) file b.0 short b.1)

-- in the data it was set as in any
set_in_data : (g : Field) (file new : List ℕ) (i : IsEditedIn entry_limit (setting g) file new)
    → set_answer i.at.bytes g.tag g.ifd_num g.value ≡ Ok i.new
set_in_data g file new i =
    (passed (reads_past entry_limit (setting g) i.at.bytes) (wrong_header TooManyEntries)
    (λ a. edited (setting g) i.at.bytes) i.new i.edited).1

pub set_file_again : (g : Field) (file new again bytes kept : List ℕ) → length file < 2 ^ 64
    → container_answer file ≡ Ok bytes → container_answer new ≡ Ok kept
    → field_set g file ≡ Ok new → field_set g new ≡ Ok again
    → KeepsEntry g.tag g.ifd_num bytes kept → extents again ≡ extents new → again ≡ new
set_file_again g file new again bytes kept short held held' e e' keeps there =
    let a = was_edited g file new short e in
    let short' : length new < 2 ^ 64 = subst (λ n. n < 2 ^ 64) (sym a.as_long) short in
    let b = was_edited g new again short' e' in
    let last : length again < 2 ^ 64 = subst (λ n. n < 2 ^ 64) (sym b.as_long) short' in
    let at = data_are_located new b.at short' b.located in
    let first : a.at.bytes ≡ bytes =
    bytes_same a.at.bytes bytes (sym (data_are_located file a.at short a.located).answered ∙ held) in
    let second : a.new ≡ kept = bytes_same a.new kept (sym a.holds ∙ held') in
    let data_same : b.at.bytes ≡ a.new = bytes_same b.at.bytes a.new (sym at.answered ∙ a.holds) in
    let same : b.new ≡ a.new =
    set_again g.tag g.ifd_num g.value a.at.bytes a.new b.new (set_in_data g file new a)
    (ap (λ xs. set_answer xs g.tag g.ifd_num g.value) (sym data_same) ∙ set_in_data g new again b)
    (subst (λ xs. KeepsEntry g.tag g.ifd_num xs a.new) (sym first)
    (subst (λ xs. KeepsEntry g.tag g.ifd_num bytes xs) (sym second) keeps)) in
    let located : extents again ≡ Ok b.at.ranges =
    there ∙ ap (λ r. of_container r >>= (λ (x : Located). let made : Result (List Extent) Cause = Ok x.ranges in made)) b.located in
    let c = bound (of_container (located_answer again)) (λ (x : Located). Ok x.ranges) b.at.ranges located in
    let at' = data_are_located again c.0 last (data_held (located_answer again) c.0 c.1) in
    let ranges : c.0.ranges ≡ b.at.ranges = ranges_same c.0.ranges b.at.ranges c.2 in
    let joined : joined_bytes again b.at.ranges ≡ joined_bytes new b.at.ranges =
    ap (joined_bytes again) (sym ranges)
    ∙ (at'.joined ∙ (bytes_same c.0.bytes b.new (sym at'.answered ∙ b.holds)
    ∙ (same ∙ (sym data_same ∙ sym at.joined)))) in
    files_same again new b.at.ranges b.as_long joined
    (subst (λ es. All (IsWhole again) es) ranges at'.whole) at.whole
    b.outside
  where
    ranges_same : (x y : List Extent) → ◌≡◌ {A = Result (List Extent) Cause} (Ok x) (Ok y) → x ≡ y
    ranges_same x y e = cc
