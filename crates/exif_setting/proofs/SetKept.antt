-- JPEG files in whose data fields were set.
use Rattle.std.proofs.Common.{◌≡◌, ◌<◌, ◌^◌, ◌∙◌, ℕ, Bool, true, false, List, take, length, Option, Some, Result, Ok, Err, if◌then◌else◌, refl, sym, ap, subst}
use Rattle.exif_types.specs.Refusals as types
use Rattle.exif_types.specs.declared.field.Field.{Field}
use Rattle.exif_types.specs.declared.tag.Tag.{Tag}
use Rattle.exif_containers.specs.Container.{container_answer, format_in}
use Rattle.exif_containers.specs.declared.container.Format.{Format}
use Rattle.exif_containers.specs.declared.container.Format.TheVariants.{Tiff, Jpeg, Heif, WebP}
use Rattle.exif_segments.specs.declared.remove.Remove.{Remove}
use Rattle.exif_segments.specs.declared.remove.Remove.TheVariants.{Exif}
use Rattle.exif_edit_base.specs.Causes.{Cause}
use Rattle.exif_edit_base.proofs.CauseSteps.{bound as edit_bound}
use Rattle.exif_grow.specs.Growing.{grown}
use Rattle.exif_grow.specs.Items.{item_grown, item_growth}
use Rattle.exif_grow.proofs.ItemSound.{growth_sound}
use Rattle.exif_grow.specs.FieldPromises.{AreSet}
use Rattle.exif_grow.specs.Fields.{fields_grown}
use Rattle.exif_rewrite.specs.FileLaws.{IsFound}
use Rattle.exif_change.specs.Changed.{Change, whole}
use Rattle.exif_setting.specs.Growing.{grown_by, grown_file, item_moved, longest, naming, put, put_alone, replaced, too_long_for}
use Rattle.exif_change.specs.Refusals.{Reason, as_edited, as_read, second_exif, ◌>>=◌}
use Rattle.exif_change.specs.Rewriting.{rewritten}
use Rattle.exif_setting.specs.Second.{has_second}
use Rattle.exif_setting.specs.SetLaws.{HoldsSet}
use Rattle.exif_change.proofs.Scrubbed.{jpeg_answers, webp_answers}

-- ---- steps that came through

pub bound : {A B : Type 0} (x : Result A Reason) (f : A → Result B Reason) (b : B) → (x >>= f) ≡ Ok b
    → (a : A) × (x ≡ Ok a) × (f a ≡ Ok b)
bound (Ok a) f b e = (a, refl, e)
bound {B = B} (Err why) f b e = absurd (err_ok e)
  where
    err_ok : ◌≡◌ {A = Result B Reason} (Err why) (Ok b) → ⊥
    err_ok e = cc

pub edited_ok : {A : Type 0} (x : Result A Cause) (a : A) → as_edited x ≡ Ok a → x ≡ Ok a
edited_ok {A = A} (Ok y) a e = ap (λ z. Ok z) (ok_same e)
  where
    ok_same : ◌≡◌ {A = Result A Reason} (Ok y) (Ok a) → y ≡ a
    ok_same e = cc
edited_ok {A = A} (Err c) a e = absurd (err_ok e)
  where
    err_ok : ◌≡◌ {A = Result A Reason} (as_edited (Err c)) (Ok a) → ⊥
    err_ok e = cc

-- what was put is what was written again
naming_ok : (tag : Option Tag) (x : Result Change types.Refusal) (c : Change)
    → naming tag x ≡ Ok c → as_read x ≡ Ok c
naming_ok tag (Ok y) c e = e
naming_ok tag (Err (types.too_big text)) c e = absurd (err_ok e)
  where
    err_ok : ◌≡◌ {A = Result Change Reason} (Err (too_long_for tag text)) (Ok c) → ⊥
    err_ok e = cc
naming_ok tag (Err (types.invalid_format text)) c e = e
naming_ok tag (Err (types.not_found text)) c e = e
naming_ok tag (Err (types.blank_value text)) c e = e
naming_ok tag (Err (types.not_supported text)) c e = e
naming_ok tag (Err (types.unexpected_value text)) c e = e

else_same : (b : Bool) (x c : Change) → (if b then Err second_exif else Ok x) ≡ Ok c → x ≡ c
else_same true x c e = absurd (err_ok e)
  where
    err_ok : ◌≡◌ {A = Result Change Reason} (Err second_exif) (Ok c) → ⊥
    err_ok e = cc
else_same false x c e = ok_same e
  where
    ok_same : ◌≡◌ {A = Result Change Reason} (Ok x) (Ok c) → x ≡ c
    ok_same e = cc

change_or : Change → Result Change Reason → Change
change_or other (Ok change) = change
change_or other (Err why) = other

edit_same : (a b : List ℕ) → ◌≡◌ {A = Result (List ℕ) Cause} (Ok a) (Ok b) → a ≡ b
edit_same a b e = cc

pub tiff_same : (a b : List ℕ) → ◌≡◌ {A = Result Change Reason} (Ok (whole a)) (Ok (whole b)) → a ≡ b
unfolding change_or
tiff_same a b e = ap (λ r. (change_or (whole b) r).file) e

-- ---- the whole

-- what was put into a JPEG or WebP file was written again
put_written : (format : Format) (data' : List ℕ) (fields : List Field) (file new : List ℕ)
    → put_alone format data' fields file ≡ Ok (whole new)
    → as_read (rewritten format Exif (Some data') file) ≡ Ok (whole new)
put_written format data' fields file new e =
    let b = bound (put format data' fields file)
    (λ made. if has_second format file then Err second_exif else Ok made) (whole new) e in
    let same = else_same (has_second format file) b.0 (whole new) b.2 in
    naming_ok (longest fields) (rewritten format Exif (Some data') file) b.0 b.1
    ∙ ap (λ c. Ok c) same

-- the item of a HEIF file that was moved holds the new data
heif_answers : (data' file new : List ℕ) → item_moved data' file ≡ Ok (whole new)
    → container_answer new ≡ Ok data'
unfolding item_grown change_or
heif_answers data' file new e =
    let b = bound (as_edited (item_grown file data')) (λ out. Ok (whole out)) (whole new) e in
    let g = edit_bound (item_growth file data') (λ a. Ok (grown a file)) b.0
    (edited_ok (item_grown file data') b.0 b.1) in
    let same : b.0 ≡ new = ap (λ r. (change_or (whole new) r).file) b.2 in
    let out : grown g.0 file ≡ new = edit_same (grown g.0 file) b.0 g.2 ∙ same in
    subst (λ xs. container_answer xs ≡ Ok data') out (growth_sound file data' g.0 g.1).holds

-- a file that is written again is known by its first bytes
abbrev pub IsKnown : Format → List ℕ → Type 0
IsKnown Tiff file = Unit {0}
IsKnown Jpeg file = format_in (take 4096 file) ≡ Some Jpeg
IsKnown WebP file = format_in (take 4096 file) ≡ Some WebP
IsKnown Heif file = Unit {0}

pub known_by : (format : Format) (file : List ℕ) → format_in (take 4096 file) ≡ Some format
    → IsKnown format file
known_by Tiff file is = tt
known_by Jpeg file is = is
known_by WebP file is = is
known_by Heif file is = tt

-- a new file of a format has these data
abbrev pub Found : Format → List ℕ → List ℕ → Type 0
Found Tiff new data' = data' ≡ new
Found Jpeg new data' = container_answer new ≡ Ok data'
Found WebP new data' = container_answer new ≡ Ok data'
Found Heif new data' = container_answer new ≡ Ok data'

-- the data in which fields were set are those of the new file
pub data_found : (format : Format) (fields : List Field) (file bytes new : List ℕ)
    → ((remove : Remove) (put : Option (List ℕ)) (bytes : List ℕ) → IsFound remove put bytes)
    → IsKnown format file → container_answer file ≡ Ok bytes
    → grown_file format fields file ≡ Ok (whole new) → length new < 2 ^ 64
    → (data' : List ℕ) × (fields_grown fields bytes ≡ Ok data') × Found format new data'
unfolding grown_file
data_found format fields file bytes new law is held e short =
    let g : grown_by format fields (Ok bytes) file ≡ Ok (whole new) =
    sym (ap (λ r. grown_by format fields r file) held) ∙ e in
    let a = bound (as_edited (fields_grown fields bytes))
    (λ data'. replaced format data' fields file) (whole new) g in
    (a.0, edited_ok (fields_grown fields bytes) a.0 a.1, by_format format is a.0 a.2)
  where
    by_format : (f : Format) → IsKnown f file → (data' : List ℕ)
        → replaced f data' fields file ≡ Ok (whole new) → Found f new data'
    by_format Tiff is data' e = tiff_same data' new e
    by_format Jpeg is data' e =
        jpeg_answers Exif (Some data') file new (put_written Jpeg data' fields file new e) short
    by_format WebP is data' e =
        webp_answers Exif (Some data') file new law is
        (put_written WebP data' fields file new e) short
    by_format Heif is data' e = heif_answers data' file new e

-- fields that were set in the data of a file are read of the new one
pub set_in_file : (format : Format) (fields : List Field) (file bytes new : List ℕ)
    → ((remove : Remove) (put : Option (List ℕ)) (bytes : List ℕ) → IsFound remove put bytes)
    → ((gs : List Field) (old data' : List ℕ) → fields_grown gs old ≡ Ok data' → AreSet gs old data')
    → format_in (take 4096 file) ≡ Some format → container_answer file ≡ Ok bytes
    → grown_file format fields file ≡ Ok (whole new) → length new < 2 ^ 64
    → HoldsSet format fields bytes new (container_answer new)
set_in_file format fields file bytes new law set is held e short =
    let d = data_found format fields file bytes new law (known_by format file is) held e short in
    by_format format d.0 (set fields bytes d.0 d.1) d.2
  where
    by_format : (f : Format) (data' : List ℕ) → AreSet fields bytes data' → Found f new data'
        → HoldsSet f fields bytes new (container_answer new)
    by_format Tiff data' set e = subst (λ xs. AreSet fields bytes xs) e set
    by_format Jpeg data' set e = subst (λ r. HoldsSet Jpeg fields bytes new r) (sym e) set
    by_format WebP data' set e = subst (λ r. HoldsSet WebP fields bytes new r) (sym e) set
    by_format Heif data' set e = subst (λ r. HoldsSet Heif fields bytes new r) (sym e) set
