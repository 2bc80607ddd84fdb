-- What an answered edit in a file promises.
use Rattle.std.proofs.Common.{◌≡◌, ◌<◌, ◌^◌, ℕ, Bool, true, false, List, [], ◌∷◌, ◌++◌, length, All, Option, Result, Ok, Err, refl, sym, ap, subst, ◌∙◌, arith, length-append}
use Rattle.std.specs.Prelude.{OnOk}
use Rattle.std.specs.Str.{bytes_eq}
use Rattle.std.proofs.lemmas.Bool.{false≢true}
use Rattle.std.proofs.lemmas.Slice.Eq.{bytes_eq-Decides}
use Rattle.exif_types.specs.Refusals.{Refusal}
use Rattle.exif_containers.specs.Container.{container_answer}
use Rattle.exif_containers.specs.Located.{Located, in_one, located_answer}
use Rattle.exif_containers.specs.declared.container.Format.{Format}
use Rattle.exif_containers.specs.declared.container.Format.TheVariants.{Tiff, Jpeg, Heif, WebP}
use Rattle.exif_containers.proofs.Replacing.{Around, data_are_located, is_heif, located_around}
use Rattle.exif_edit_base.specs.Causes.{Cause, Edits, of_container, picture, ◌>>=◌}
use Rattle.exif_edit_base.specs.Patches.{FitsIn, patched}
use Rattle.exif_edit_base.specs.declared.error.Error.{Error}
use Rattle.exif_edit_base.specs.declared.patch.Patch.{Patch}
use Rattle.exif_edit_base.proofs.CauseSteps.{bound, data_held, ok_same, passed}
use Rattle.exif_edit_base.proofs.PatchSteps.{Misses, length-patched, patched_outside}
use Rattle.exif_edit.specs.Edits.{limited_patches}
use Rattle.exif_edit.specs.declared.edits.Edit.{Edit}
use Rattle.exif_edit.specs.InFiles.{IsEditedIn, data_patches, edited_file, file_patches, if_served, placed, serves, takes_picture}
use Rattle.exif_edit.specs.Spreading.{spread}
use Rattle.exif_edit.proofs.EditsSound.{edit_fits, edit_sound, edit_stands_in, limited_made, unlimited}
use Rattle.exif_edit.proofs.Spreads.{spread_fits, spread_front, spread_misses}

-- ---- the steps of an answer

-- patches of a file, and the located data of which they are
pub record WasPlaced (limit : Option ℕ) (edit : Edit) (file : List ℕ) (qs : List Patch) : Type 0 where
  pub at : Located
  pub located : located_answer file ≡ Ok at
  pub kept : takes_picture edit at.format ≡ false
  pub patches : List Patch
  pub limited : limited_patches limit edit at.bytes ≡ Ok patches
  pub are : spread at.ranges patches ≡ qs
  pub served : serves at.format file (spread at.ranges patches) (patched patches at.bytes) ≡ true

was_served : (b : Bool) (ps qs : List Patch) → if_served b ps ≡ Ok qs → (b ≡ true) × (ps ≡ qs)
was_served true ps qs e = (refl, ok_same ps qs e)
was_served false ps qs e = absurd (err_ok e)
  where
    err_ok : ◌≡◌ {A = Result (List Patch) Cause} (if_served false ps) (Ok qs) → ⊥
    err_ok e = cc

pub was_placed : (limit : Option ℕ) (edit : Edit) (file : List ℕ) (qs : List Patch)
    → file_patches limit edit file ≡ Ok qs → WasPlaced limit edit file qs
unfolding file_patches
was_placed limit edit file qs e =
    let a = bound (of_container (located_answer file))
    (λ at. data_patches limit edit at >>= λ ps. placed file at ps) qs e in
    let b = bound (data_patches limit edit a.0) (λ ps. placed file a.0 ps) qs a.2 in
    let c = passed (takes_picture edit a.0.format) picture
    (λ u. limited_patches limit edit a.0.bytes) b.0 b.1 in
    let d = was_served _ (spread a.0.ranges b.0) qs b.2 in
    record {
      at = a.0;
      located = data_held (located_answer file) a.0 a.1;
      kept = c.0;
      patches = b.0;
      limited = c.1;
      are = d.1;
      served = d.0;
    }

-- ---- what the file holds then

held_by : (x : Result (List ℕ) Refusal) (bytes : List ℕ)
    → (elim x [ Ok found ↦ bytes_eq found bytes | Err r ↦ false ]) ≡ true → x ≡ Ok bytes
held_by (Ok found) bytes e = ap (λ y. Ok y) ((bytes_eq-Decides found bytes).0 e)
held_by (Err r) bytes e = absurd (false≢true e)

-- data in one extent
one_holds : (file : List ℕ) (at : Located) (ps : List Patch) (edit : Edit) → length file < 2 ^ 64
    → (a : Around file at) → is_heif at.format ≡ false → takes_picture edit at.format ≡ false
    → (limit : Option ℕ) → limited_patches limit edit at.bytes ≡ Ok ps
    → container_answer (patched (spread at.ranges ps) file) ≡ Ok (patched ps at.bytes)
one_holds file at ps edit s a h k limit e =
    let u = unlimited limit edit at.bytes ps e in
    let fit = edit_fits edit at.bytes ps u in
    let new = patched ps at.bytes in
    let l : length new ≡ length at.bytes = length-patched ps at.bytes fit in
    let w = ap (λ (xs : List ℕ). length xs) a.whole in
    let x = length-append a.front (at.bytes ++ a.rest) in
    let y = length-append at.bytes a.rest in
    let out : patched (spread at.ranges ps) file ≡ a.front ++ (new ++ a.rest) =
    ap (λ rs. patched (spread rs ps) file) (ap (λ (z : Located). z.ranges) a.is)
    ∙ (ap (patched (spread (record { offset = length a.front; len = length at.bytes } ∷ []) ps)) a.whole
    ∙ spread_front ps a.front at.bytes a.rest (omega arith) fit) in
    let n = length-append a.front (new ++ a.rest) in
    let m = length-append new a.rest in
    ap container_answer out
    ∙ (data_are_located (a.front ++ (new ++ a.rest)) (in_one at.format (length a.front) new)
    (omega arith) (a.others new l (edit_stands_in at.format edit at.bytes ps h k u))).answered

-- a file with its answered patches holds what they make of its data
now_holds : (f : Format) (file : List ℕ) (at : Located) (ps : List Patch) (edit : Edit) (limit : Option ℕ)
    → length file < 2 ^ 64 → at.format ≡ f → located_answer file ≡ Ok at
    → takes_picture edit at.format ≡ false → limited_patches limit edit at.bytes ≡ Ok ps
    → serves f file (spread at.ranges ps) (patched ps at.bytes) ≡ true
    → container_answer (patched (spread at.ranges ps) file) ≡ Ok (patched ps at.bytes)
now_holds Heif file at ps edit limit s f e k l h =
    held_by (container_answer (patched (spread at.ranges ps) file)) (patched ps at.bytes) h
now_holds Tiff file at ps edit limit s f e k l h =
    let n : is_heif at.format ≡ false = ap is_heif f in
    one_holds file at ps edit s (located_around file at s e n) n k limit l
now_holds Jpeg file at ps edit limit s f e k l h =
    let n : is_heif at.format ≡ false = ap is_heif f in
    one_holds file at ps edit s (located_around file at s e n) n k limit l
now_holds WebP file at ps edit limit s f e k l h =
    let n : is_heif at.format ≡ false = ap is_heif f in
    one_holds file at ps edit s (located_around file at s e n) n k limit l

-- ---- the whole

-- answered patches lie in the file
pub file_fits : (limit : Option ℕ) (edit : Edit) (file : List ℕ) (qs : List Patch)
    → length file < 2 ^ 64 → file_patches limit edit file ≡ Ok qs → All (FitsIn (length file)) qs
file_fits limit edit file qs s e =
    let w = was_placed limit edit file qs e in
    subst (All (FitsIn (length file))) w.are
    (spread_fits file w.at.ranges w.patches (data_are_located file w.at s w.located).whole)

-- an answered edit edits the data where they are, and nothing else
pub file_sound : (limit : Option ℕ) (edit : Edit) (file : List ℕ) (qs : List Patch)
    → length file < 2 ^ 64 → file_patches limit edit file ≡ Ok qs
    → IsEditedIn limit edit file (patched qs file)
file_sound limit edit file qs s e =
    let w = was_placed limit edit file qs e in
    let fit = file_fits limit edit file qs s e in
    let whole = (data_are_located file w.at s w.located).whole in
    record {
      at = w.at;
      located = w.located;
      new = patched w.patches w.at.bytes;
      edited = limited_made limit edit w.at.bytes w.patches w.limited;
      promised = edit_sound edit w.at.bytes w.patches
          (unlimited limit edit w.at.bytes w.patches w.limited);
      holds = ap (λ rs. container_answer (patched rs file)) (sym w.are)
          ∙ now_holds w.at.format file w.at w.patches edit limit s refl w.located w.kept w.limited
          w.served;
      as_long = length-patched qs file fit;
      outside = λ i a. patched_outside qs file i fit
          (subst (All (Misses i)) w.are (spread_misses file i w.at.ranges w.patches s whole a));
    }

-- what was edited as it is answered was edited where its data are
pub edited_sound : (limit : Option ℕ) (edit : Edit) (file new : List ℕ)
    (x : Result (Unit {0}) Error) → length file < 2 ^ 64
    → Edits x file new (edited_file limit edit file) → OnOk x (IsEditedIn limit edit file new)
edited_sound limit edit file new (Err e) s h = tt
edited_sound limit edit file new (Ok u) s h =
    let b = bound (file_patches limit edit file) (λ ps. Ok (patched ps file)) new h in
    subst (IsEditedIn limit edit file) (ok_same (patched b.0 file) new b.2)
    (file_sound limit edit file b.0 s b.1)
