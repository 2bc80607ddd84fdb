-- The steps of an edit in a file.
use Rattle.std.proofs.Common.{◌≡◌, ◌<◌, ◌^◌, ℕ, Bool, true, false, List, [], ◌∷◌, length, All, Option, Result, Ok, Err, refl, sym, ap, subst, ◌∙◌, arith, append-nil}
use Rattle.exif_containers.specs.Container.{begins_tiff}
use Rattle.exif_containers.specs.Located.{Located, in_one, located_answer}
use Rattle.exif_containers.specs.declared.container.Format.{Format}
use Rattle.exif_containers.specs.declared.container.Format.TheVariants.{Tiff, Jpeg, Heif, WebP}
use Rattle.exif_containers.proofs.Replacing.{data_are_located, is_heif, tiff_located}
use Rattle.exif_edit_base.specs.Causes.{Cause, Edits, of_container, picture, shared, unless, wrong_header, ◌>>=◌}
use Rattle.exif_edit_base.specs.Patches.{FitsIn, patched}
use Rattle.exif_edit_base.specs.declared.error.Error.{Error}
use Rattle.exif_edit_base.specs.declared.patch.Patch.{Patch}
use Rattle.exif_edit.specs.Edits.{edit_patches, edited, limited_edit, limited_patches, reads_past}
use Rattle.exif_tiff.specs.declared.fault.Fault.TheVariants.{TooManyEntries}
use Rattle.exif_edit.specs.declared.edits.Edit.{Edit}
use Rattle.exif_edit.specs.InFiles.{data_patches, edited_file, file_patches, holds, if_served, placed, placed_file, served_file, serves, takes_picture}
use Rattle.exif_edit.specs.Spreading.{spread}
use Rattle.exif_edit.proofs.EditsSound.{edit_fits, unlimited}
use Rattle.exif_edit.proofs.Spreads.{spread_fits, spread_front}

-- ---- one step after another

-- what is placed of located data is the answer of the file
pub file_located : (limit : Option ℕ) (edit : Edit) (file : List ℕ) (at : Located)
    → of_container (located_answer file) ≡ Ok at
    → file_patches limit edit file ≡ (data_patches limit edit at >>= placed file at)
unfolding file_patches
file_located limit edit file at e =
    ap (λ x. x >>= λ l. data_patches limit edit l >>= λ ps. placed file l ps) e

-- a refusal of the container is that of the file
pub file_unlocated : (limit : Option ℕ) (edit : Edit) (file : List ℕ) (c : Cause)
    → of_container (located_answer file) ≡ Err c → file_patches limit edit file ≡ Err c
unfolding file_patches
file_unlocated limit edit file c e =
    ap (λ x. x >>= λ l. data_patches limit edit l >>= λ ps. placed file l ps) e

-- a refusal of the edit is that of the file
pub file_unedited : (limit : Option ℕ) (edit : Edit) (file : List ℕ) (at : Located) (c : Cause)
    → of_container (located_answer file) ≡ Ok at → data_patches limit edit at ≡ Err c
    → file_patches limit edit file ≡ Err c
file_unedited limit edit file at c l e =
    file_located limit edit file at l ∙ ap (λ x. x >>= placed file at) e

-- patches that are placed are the answer of the file
pub file_placed : (limit : Option ℕ) (edit : Edit) (file : List ℕ) (at : Located) (ps : List Patch)
    → of_container (located_answer file) ≡ Ok at → data_patches limit edit at ≡ Ok ps
    → file_patches limit edit file ≡ placed file at ps
file_placed limit edit file at ps l e =
    file_located limit edit file at l ∙ ap (λ x. x >>= placed file at) e

-- where the patches of a file are refused, the edited file is
pub edited_refused : (limit : Option ℕ) (edit : Edit) (file : List ℕ) (c : Cause)
    → file_patches limit edit file ≡ Err c → edited_file limit edit file ≡ Err c
edited_refused limit edit file c e = ap (λ x. x >>= λ ps. Ok (patched ps file)) e

-- the file with patches that are placed is the edited file
pub edited_placed : (limit : Option ℕ) (edit : Edit) (file new : List ℕ) (at : Located)
    (ps : List Patch) (x : Result (Unit {0}) Error) → of_container (located_answer file) ≡ Ok at
    → data_patches limit edit at ≡ Ok ps → Edits x file new (placed_file file at ps)
    → Edits x file new (edited_file limit edit file)
edited_placed limit edit file new at ps x l e h =
    subst (λ y. Edits x file new (y >>= λ qs. Ok (patched qs file)))
    (sym (file_placed limit edit file at ps l e)) h

-- ---- patches that serve

-- patches of one extent always serve
pub piece_placed : (file : List ℕ) (at : Located) (ps : List Patch) → is_heif at.format ≡ false
    → placed file at ps ≡ Ok (spread at.ranges ps)
piece_placed file at ps n =
    ap (λ b. if_served b (spread at.ranges ps)) (piece_serves at.format n)
  where
    piece_serves : (f : Format) → is_heif f ≡ false
        → serves f file (spread at.ranges ps) (patched ps at.bytes) ≡ true
    piece_serves Tiff n = refl
    piece_serves Jpeg n = refl
    piece_serves WebP n = refl
    piece_serves Heif n = absurd (true_false n)
      where
        true_false : ◌≡◌ {A = Bool} true false → ⊥
        true_false e = cc

-- ---- TIFF data, which are the file

tiff_spread : (file : List ℕ) (ps : List Patch) → length file < 2 ^ 64
    → All (FitsIn (length file)) ps
    → patched (spread (record { offset = 0; len = length file } ∷ []) ps) file ≡ patched ps file
tiff_spread file ps s fit =
    ap (patched (spread (record { offset = 0; len = length file } ∷ []) ps)) (sym (append-nil file))
    ∙ (spread_front ps [] file [] (omega arith) fit ∙ append-nil (patched ps file))

tiff_placed : (limit : Option ℕ) (edit : Edit) (file : List ℕ) (x : Result (List Patch) Cause)
    → length file < 2 ^ 64 → limited_patches limit edit file ≡ x
    → ((x >>= placed file (in_one Tiff 0 file)) >>= λ qs. Ok (patched qs file))
    ≡ (x >>= λ ps. Ok (patched ps file))
tiff_placed limit edit file (Ok ps) s e =
    ap (λ xs. Ok xs)
    (tiff_spread file ps s (edit_fits edit file ps (unlimited limit edit file ps e)))
tiff_placed limit edit file (Err c) s e = refl

limited_as : (limit : Option ℕ) (edit : Edit) (old : List ℕ)
    → (limited_patches limit edit old >>= λ ps. Ok (patched ps old)) ≡ limited_edit limit edit old
limited_as limit edit old = by_limit (reads_past limit edit old)
  where
    by_limit : (b : Bool)
        → ((unless b (wrong_header TooManyEntries) >>= λ a. edit_patches edit old) >>= λ ps. Ok (patched ps old))
        ≡ (unless b (wrong_header TooManyEntries) >>= λ a. edited edit old)
    by_limit true = refl
    by_limit false = refl

-- TIFF data are edited as a file as they are edited alone
pub tiff_edited : (limit : Option ℕ) (edit : Edit) (file : List ℕ) → length file < 2 ^ 64
    → begins_tiff file ≡ true → takes_picture edit Tiff ≡ false
    → edited_file limit edit file ≡ limited_edit limit edit file
tiff_edited limit edit file s h k =
    ap (λ x. x >>= λ qs. Ok (patched qs file))
    (file_located limit edit file (in_one Tiff 0 file) (ap of_container (tiff_located file h))
    ∙ ap (λ b. (unless b picture >>= λ a. limited_patches limit edit file) >>= placed file (in_one Tiff 0 file)) k)
    ∙ (tiff_placed limit edit file (limited_patches limit edit file) s refl
    ∙ limited_as limit edit file)

-- but for the picture that is in them
pub tiff_kept : (limit : Option ℕ) (edit : Edit) (file : List ℕ) → begins_tiff file ≡ true
    → takes_picture edit Tiff ≡ true → edited_file limit edit file ≡ Err picture
tiff_kept limit edit file h k =
    ap (λ x. x >>= λ qs. Ok (patched qs file))
    (file_located limit edit file (in_one Tiff 0 file) (ap of_container (tiff_located file h))
    ∙ ap (λ b. (unless b picture >>= λ a. limited_patches limit edit file) >>= placed file (in_one Tiff 0 file)) k)

-- the patches of a located answer lie in the file
pub located_fits : (file : List ℕ) (at : Located) (ps : List Patch) → length file < 2 ^ 64
    → located_answer file ≡ Ok at → All (FitsIn (length file)) (spread at.ranges ps)
located_fits file at ps s e =
    spread_fits file at.ranges ps (data_are_located file at s e).whole

-- ---- what serves, and what does not

-- a file that does not hold the new data with its patches refuses them
pub not_served : (file now : List ℕ) (ps : List Patch) (new : List ℕ) (b : Bool)
    → now ≡ patched ps file → b ≡ holds now new → b ≡ false → served_file file ps new ≡ Err shared
not_served file now ps new b n e f =
    let h : holds (patched ps file) new ≡ false =
    sym (ap (λ xs. holds xs new) n) ∙ (sym e ∙ f) in
    ap (λ t. if_served t ps >>= λ qs. Ok (patched qs file)) h

-- patches that serve are those of the file
pub file_served : (limit : Option ℕ) (edit : Edit) (file : List ℕ) (at : Located)
    (ps qs : List Patch) (b : Bool) → of_container (located_answer file) ≡ Ok at
    → data_patches limit edit at ≡ Ok ps → qs ≡ spread at.ranges ps
    → b ≡ serves at.format file qs (patched ps at.bytes) → b ≡ true
    → file_patches limit edit file ≡ Ok qs
file_served limit edit file at ps qs b l e s v t =
    let h : serves at.format file (spread at.ranges ps) (patched ps at.bytes) ≡ true =
    sym (ap (λ rs. serves at.format file rs (patched ps at.bytes)) s) ∙ (sym v ∙ t) in
    file_placed limit edit file at ps l e
    ∙ (ap (λ x. if_served x (spread at.ranges ps)) h ∙ ap (λ xs. Ok xs) (sym s))

-- others are refused
pub file_unserved : (limit : Option ℕ) (edit : Edit) (file : List ℕ) (at : Located)
    (ps qs : List Patch) (b : Bool) → of_container (located_answer file) ≡ Ok at
    → data_patches limit edit at ≡ Ok ps → qs ≡ spread at.ranges ps
    → b ≡ serves at.format file qs (patched ps at.bytes) → b ≡ false
    → file_patches limit edit file ≡ Err shared
file_unserved limit edit file at ps qs b l e s v t =
    let h : serves at.format file (spread at.ranges ps) (patched ps at.bytes) ≡ false =
    sym (ap (λ rs. serves at.format file rs (patched ps at.bytes)) s) ∙ (sym v ∙ t) in
    file_placed limit edit file at ps l e ∙ ap (λ x. if_served x (spread at.ranges ps)) h
