-- The format of a file in which fields were set in place.
use Rattle.std.proofs.Common.{◌≡◌, ◌∙◌, ◌<◌, ◌-◌, ◌^◌, ℕ, Bool, true, false, List, [], ◌∷◌, ◌++◌, length, take, Option, Some, None, Result, Ok, Err, if◌then◌else◌, refl, sym, ap, subst, arith, length-append}
use Rattle.exif_types.specs.Refusals.{Refusal}
use Rattle.exif_types.specs.declared.field.Field.{Field}
use Rattle.exif_isobmff.specs.Extents as heif
use Rattle.exif_isobmff.specs.Extents.{located_exif}
use Rattle.exif_containers.specs.Container.{format_in, unknown_format}
use Rattle.exif_containers.specs.Located.{Located, in_one, located_answer, located_as}
use Rattle.exif_containers.specs.declared.container.Format.{Format}
use Rattle.exif_containers.specs.declared.container.Format.TheVariants.{Tiff, Jpeg, Heif, WebP}
use Rattle.exif_containers.proofs.Replacing.{is_heif, located_around, none_located, of_item, piece_format, tiff_format}
use Rattle.exif_segments.specs.Jpeg.{jpeg_answer}
use Rattle.exif_segments.specs.Webp.{webp_answer}
use Rattle.exif_edit_base.specs.Causes.{Cause}
use Rattle.exif_edit_base.specs.Causes as causes
use Rattle.exif_edit_base.specs.Patches.{patched}
use Rattle.exif_edit_base.specs.declared.patch.Patch.{Patch}
use Rattle.exif_edit_base.proofs.CauseSteps.{bound, ok_same}
use Rattle.exif_edit_base.proofs.PatchSteps.{length-patched}
use Rattle.exif_edit.specs.declared.edits.Edit.{Edit}
use Rattle.exif_edit.specs.InFiles.{file_patches}
use Rattle.exif_edit.specs.Spreading.{spread}
use Rattle.exif_edit.proofs.EditsSound.{edit_fits, edit_stands_in, unlimited}
use Rattle.exif_edit.proofs.FilesSound.{WasPlaced, was_placed}
use Rattle.exif_edit.proofs.Spreads.{spread_front}
use Rattle.exif_setting.specs.InPlace.{field_set, fit_by, fitting_set, needs_space, setting}
use Rattle.exif_change.specs.Reading.{entry_limit}

-- ---- the fields of a list that are set in place, and those that are left over

left_set : {X : Type 0} (c : Cause) (x : X) → ◌≡◌ {A = Result X Cause} (Err c) (Ok x) → ⊥
left_set c x e = cc

-- what holds at the end, and before a field that is set or left over, holds at the start
pub fitted : (new : List ℕ) (left' : List Field) (M : List Field → List ℕ → List Field → Type 0)
    → M [] new left'
    → ((g : Field) (gs : List Field) (file file' : List ℕ) (left : List Field)
    → field_set g file ≡ Ok file' → fitting_set gs (file', left) ≡ Ok (new, left')
    → M gs file' left → M (g ∷ gs) file left)
    → ((g : Field) (gs : List Field) (file : List ℕ) (left : List Field)
    → M gs file (left ++ g ∷ []) → M (g ∷ gs) file left)
    → (fields : List Field) (file : List ℕ) (left : List Field)
    → fitting_set fields (file, left) ≡ Ok (new, left') → M fields file left
fitted new left' M end set leave [] file left e =
    subst (λ (p : List ℕ × List Field). M [] p.0 p.1)
    (sym (ok_same {A = List ℕ × List Field} (file, left) (new, left') e)) end
fitted new left' M end set leave (g ∷ gs) file left e =
    by_answer (field_set g file) refl e (λ xs l h. fitted new left' M end set leave gs xs l h)
  where
    by_left : (t : Bool) (c : Cause)
        → causes.◌>>=◌ {A = List ℕ × List Field} (if t then Ok (file, left ++ g ∷ []) else Err c) (fitting_set gs)
        ≡ Ok (new, left')
        → ((xs : List ℕ) (l : List Field) → fitting_set gs (xs, l) ≡ Ok (new, left') → M gs xs l)
        → M (g ∷ gs) file left
    by_left true c e k = leave g gs file left (k file (left ++ g ∷ []) e)
    by_left false c e k = absurd (left_set {X = List ℕ × List Field} c (new, left') e)

    by_answer : (x : Result (List ℕ) Cause) → field_set g file ≡ x
        → causes.◌>>=◌ (fit_by g x (file, left)) (fitting_set gs) ≡ Ok (new, left')
        → ((xs : List ℕ) (l : List Field) → fitting_set gs (xs, l) ≡ Ok (new, left') → M gs xs l)
        → M (g ∷ gs) file left
    by_answer (Ok file') is e k = set g gs file file' left is e (k file' left e)
    by_answer (Err c) is e k = by_left (needs_space c) c e k

-- ---- what is located

-- data are located in a file of their format
located_format : (file : List ℕ) (at : Located) → located_answer file ≡ Ok at
    → format_in (take 4096 file) ≡ Some at.format
unfolding located_answer located_as
located_format file at e = by_format (format_in (take 4096 file)) e
  where
    heif_format : (x : Result heif.Located Refusal) → of_item x ≡ Ok at → at.format ≡ Heif
    heif_format (Ok found) e = item_is e
      where
        item_is : ◌≡◌ {A = Result Located Refusal} (Ok (record { format = Heif; ranges = found.ranges; bytes = found.bytes })) (Ok at)
            → at.format ≡ Heif
        item_is e = cc
    heif_format (Err r) e = none_located r at e

    by_format : (o : Option Format) → located_as o file ≡ Ok at → o ≡ Some at.format
    by_format (Some Tiff) e = ap (λ f. Some f) (sym (tiff_format file at e))
    by_format (Some Jpeg) e =
        ap (λ f. Some f)
        (sym (piece_format Jpeg (take (2 ^ 64 - 1) file) (jpeg_answer (take (2 ^ 64 - 1) file)) at e))
    by_format (Some WebP) e =
        ap (λ f. Some f) (sym (piece_format WebP file (webp_answer file) at e))
    by_format (Some Heif) e = ap (λ f. Some f) (sym (heif_format (located_exif file) e))
    by_format None e = none_located unknown_format at e

-- edited data that are in one extent are located where the old ones were
still_located : (limit : Option ℕ) (edit : Edit) (file : List ℕ) (qs : List Patch)
    → length file < 2 ^ 64 → (w : WasPlaced limit edit file qs) → is_heif w.at.format ≡ false
    → (new : Located) × (located_answer (patched qs file) ≡ Ok new) × (new.format ≡ w.at.format)
still_located limit edit file qs s w h =
    let at = w.at in
    let ps = w.patches in
    let a = located_around file at s w.located h in
    let u = unlimited limit edit at.bytes ps w.limited in
    let fit = edit_fits edit at.bytes ps u in
    let new = patched ps at.bytes in
    let l : length new ≡ length at.bytes = length-patched ps at.bytes fit in
    let whole = ap (λ (xs : List ℕ). length xs) a.whole in
    let x = length-append a.front (at.bytes ++ a.rest) in
    let y = length-append at.bytes a.rest in
    let out : patched (spread at.ranges ps) file ≡ a.front ++ (new ++ a.rest) =
    ap (λ rs. patched (spread rs ps) file) (ap (λ (z : Located). z.ranges) a.is)
    ∙ (ap (patched (spread (record { offset = length a.front; len = length at.bytes } ∷ []) ps)) a.whole
    ∙ spread_front ps a.front at.bytes a.rest (omega arith) fit) in (
      in_one at.format (length a.front) new,
      ap located_answer (ap (λ rs. patched rs file) (sym w.are) ∙ out)
          ∙ a.others new l (edit_stands_in at.format edit at.bytes ps h w.kept u),
      refl,
    )

some_format : (a b : Format) → ◌≡◌ {A = Option Format} (Some a) (Some b) → a ≡ b
some_format a b e = cc

-- a field that is set in place leaves the format
pub format_kept : (f : Format) → is_heif f ≡ false → (g : Field) (file new : List ℕ)
    → length file < 2 ^ 64 → format_in (take 4096 file) ≡ Some f → field_set g file ≡ Ok new
    → format_in (take 4096 new) ≡ Some f
format_kept f h g file new s is e =
    let b = bound (file_patches entry_limit (setting g) file) (λ ps. Ok (patched ps file)) new e in
    let w = was_placed entry_limit (setting g) file b.0 b.1 in
    let same : w.at.format ≡ f =
    some_format w.at.format f (sym (located_format file w.at w.located) ∙ is) in
    let k = still_located entry_limit (setting g) file b.0 s w (ap is_heif same ∙ h) in
    subst (λ xs. format_in (take 4096 xs) ≡ Some f) (ok_same (patched b.0 file) new b.2)
    (located_format (patched b.0 file) k.0 k.1 ∙ ap (λ x. Some x) (k.2 ∙ same))
