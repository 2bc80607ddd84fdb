-- What is promised of one edit of data, whichever it is.
use Rattle.std.proofs.Common.{◌≡◌, ℕ, Bool, true, false, List, length, All, Option, Result, Ok, ap, refl, subst, inl, inr, ◌∙◌}
use Rattle.exif_containers.specs.Container.{begins_tiff}
use Rattle.exif_containers.specs.Replacing.{CanStandIn}
use Rattle.exif_containers.specs.declared.container.Format.{Format}
use Rattle.exif_containers.specs.declared.container.Format.TheVariants.{Tiff, Jpeg, Heif, WebP}
use Rattle.exif_containers.proofs.Replacing.{is_heif}
use Rattle.exif_edit_base.specs.Causes.{Cause, unless, wrong_header, ◌>>=◌}
use Rattle.exif_edit_base.specs.Patches.{FitsIn, patched}
use Rattle.exif_edit_base.specs.Readings.{Read, reading}
use Rattle.exif_edit_base.specs.declared.patch.Patch.{Patch}
use Rattle.exif_edit_base.proofs.CauseSteps.{passed}
use Rattle.exif_tiff.specs.declared.fault.Fault.TheVariants.{TooManyEntries}
use Rattle.exif_edit.specs.Clearing.{IsCleared}
use Rattle.exif_edit.specs.Edits.{IsEdited, edit_patches, edited, limited_edit, limited_patches, reads_past}
use Rattle.exif_edit.specs.declared.edits.Edit.{Edit}
use Rattle.exif_edit.specs.declared.edits.Edit.TheVariants.{Set, EraseGps, EraseField, EraseAll}
use Rattle.exif_edit.proofs.ClearSound.{clear_fits, clear_sound, was_cleared}
use Rattle.exif_edit.proofs.EraseSound.{erase_fits, erased_sound, was_erased}
use Rattle.exif_edit.proofs.HeaderMarks.{IsMarked, reading_marked}
use Rattle.exif_edit.proofs.RemoveSound.{field_fits, field_sound, named_of_field, was_removed}
use Rattle.exif_edit.proofs.SetFound.{none_found, set_found}
use Rattle.exif_edit.proofs.SetSound.{set_fits, set_sound, was_set}
use Rattle.exif_edit.specs.InFiles.{takes_picture}

-- the patches of an edit lie in its data
pub edit_fits : (edit : Edit) (old : List ℕ) (ps : List Patch) → edit_patches edit old ≡ Ok ps
    → All (FitsIn (length old)) ps
edit_fits (Set tag k value) old ps e = set_fits old ps tag k value e
edit_fits EraseGps old ps e = erase_fits old ps e
edit_fits (EraseField tag k) old ps e = field_fits old tag k ps e
edit_fits EraseAll old ps e = clear_fits old ps e

-- what an edit makes keeps its promise
pub edit_sound : (edit : Edit) (old : List ℕ) (ps : List Patch) → edit_patches edit old ≡ Ok ps
    → IsEdited edit old (patched ps old)
edit_sound (Set tag k value) old ps e =
    let s = set_sound old ps tag k value e in
    (s, set_found old (patched ps old) tag k value s)
edit_sound EraseGps old ps e = erased_sound old ps e
edit_sound (EraseField tag k) old ps e =
    let s = field_sound old tag k ps e in (s, none_found old (patched ps old) tag k s)
edit_sound EraseAll old ps e =
    let c = was_cleared old ps e in
    subst (λ qs. IsCleared old (patched qs old)) c.2 (clear_sound old c.0 c.1)

-- the same under a limit, which the data kept then
pub unlimited : (limit : Option ℕ) (edit : Edit) (old : List ℕ) (ps : List Patch)
    → limited_patches limit edit old ≡ Ok ps → edit_patches edit old ≡ Ok ps
unlimited limit edit old ps e =
    (passed (reads_past limit edit old) (wrong_header TooManyEntries)
    (λ a. edit_patches edit old) ps e).1

-- the data with the patches of a limited edit
pub limited_made : (limit : Option ℕ) (edit : Edit) (old : List ℕ) (ps : List Patch)
    → limited_patches limit edit old ≡ Ok ps → limited_edit limit edit old ≡ Ok (patched ps old)
limited_made limit edit old ps e =
    by_limit (reads_past limit edit old) refl e
  where
    by_limit : (b : Bool) → reads_past limit edit old ≡ b → limited_patches limit edit old ≡ Ok ps
        → limited_edit limit edit old ≡ Ok (patched ps old)
    by_limit b t h =
        let p = passed (reads_past limit edit old) (wrong_header TooManyEntries)
        (λ a. edit_patches edit old) ps h in
        rw (p.0, p.1) refl

-- carrying the patches of a limited edit out makes its data
pub limited_carried : (limit : Option ℕ) (edit : Edit) (old : List ℕ)
    (planned : Result (List Patch) Cause) → planned ≡ limited_patches limit edit old
    → (planned >>= λ ps. Ok (patched ps old)) ≡ limited_edit limit edit old
limited_carried limit edit old planned e =
    ap (λ (r : Result (List Patch) Cause). r >>= λ ps. Ok (patched ps old)) e
    ∙ by_limit (reads_past limit edit old)
  where
    by_limit : (b : Bool)
        → ((unless b (wrong_header TooManyEntries) >>= λ a. edit_patches edit old)
        >>= λ ps. Ok (patched ps old))
        ≡ (unless b (wrong_header TooManyEntries) >>= λ a. edited edit old)
    by_limit true = refl
    by_limit false = refl

-- ---- data with a good header begin as TIFF data do

marks_begin : (bytes : List ℕ) → IsMarked bytes → begins_tiff bytes ≡ true
marks_begin bytes (inl e) = rw e refl
marks_begin bytes (inr e) = rw e refl

reading_begins : (bytes : List ℕ) (read : Read) → reading bytes ≡ Ok read
    → begins_tiff bytes ≡ true
reading_begins bytes read e = marks_begin bytes (reading_marked bytes read e)

edit_tiff : (edit : Edit) (old : List ℕ) (ps : List Patch) → takes_picture edit Tiff ≡ false
    → edit_patches edit old ≡ Ok ps → begins_tiff (patched ps old) ≡ true
edit_tiff (Set tag k value) old ps n e =
    reading_begins (patched ps old) _ (was_set old ps tag k value e).reads_new
edit_tiff EraseGps old ps n e = reading_begins (patched ps old) _ (was_erased old ps e).reads_new
edit_tiff (EraseField tag k) old ps n e =
    reading_begins (patched ps old) _
    (was_removed old tag k ps (named_of_field old tag k ps e)).reads_new
edit_tiff EraseAll old ps n e = absurd (true_false n)
  where
    true_false : ◌≡◌ {A = Bool} true false → ⊥
    true_false e = cc

-- what an edit makes of data can be where they were, but for an item
pub edit_stands_in : (f : Format) (edit : Edit) (old : List ℕ) (ps : List Patch)
    → is_heif f ≡ false → takes_picture edit f ≡ false → edit_patches edit old ≡ Ok ps
    → CanStandIn f (patched ps old)
edit_stands_in Tiff edit old ps h n e = edit_tiff edit old ps n e
edit_stands_in Jpeg edit old ps h n e = tt
edit_stands_in WebP edit old ps h n e = tt
edit_stands_in Heif edit old ps h n e = absurd (true_false h)
  where
    true_false : ◌≡◌ {A = Bool} true false → ⊥
    true_false e = cc
