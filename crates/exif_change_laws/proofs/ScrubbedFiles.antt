-- Files whose metadata were taken out, by their formats.
use Rattle.std.proofs.Common.{◌≡◌, ◌∙◌, ◌<◌, ◌^◌, ◌==◌, inl, inr, ℕ, true, false, Bool, List, [], ◌∷◌, length, take, Option, Some, None, Result, Ok, Err, if◌then◌else◌, refl, sym, ap, subst, arith}
use Rattle.std.proofs.lemmas.Bool.{and_parts, false≢true}
use Rattle.std.proofs.lemmas.Bool.Decides.{nat_tests}
use Rattle.exif_types.specs.Refusals as types
use Rattle.exif_types.specs.Refusals.{Refusal, invalid_format, not_found, blank_value, too_big, not_supported, unexpected_value}
use Rattle.exif_containers.specs.Container.{begins_tiff, container_answer, format_in}
use Rattle.exif_containers.specs.Located.{Located, located_answer}
use Rattle.exif_containers.specs.declared.container.Format.{Format}
use Rattle.exif_containers.specs.declared.container.Format.TheVariants.{Tiff, Jpeg, Heif, WebP}
use Rattle.exif_containers.proofs.Replacing.{refused_alike}
use Rattle.exif_isobmff.specs.HeifFile.{begins_heif}
use Rattle.exif_segments.specs.Jpeg.{begins_jpeg}
use Rattle.exif_segments.specs.Webp.{begins_webp}
use Rattle.exif_segments.specs.declared.remove.Remove.{Remove}
use Rattle.exif_segments.specs.declared.remove.Remove.TheVariants.{Metadata}
use Rattle.exif_tiff.specs.Limits.{AnswersWithin, IsCutPast, LenientAnswersCut}
use Rattle.exif_tiff.specs.Trace.{header, trace}
use Rattle.exif_tiff.specs.declared.fault.Fault.{Fault}
use Rattle.exif_base.specs.declared.endian.Order.{Order}
use Rattle.exif_edit_base.specs.Causes as causes
use Rattle.exif_edit_base.specs.Causes.{Cause, no_field, no_directory, full_directory, unknown_type, too_long, offset_named, shared, picture, wrong_header, no_data, of_container, of_data, unless}
use Rattle.exif_edit_base.specs.Patches.{patched}
use Rattle.exif_edit_base.specs.declared.patch.Patch.{Patch}
use Rattle.exif_edit_base.proofs.CauseSteps.{bound, ok_same}
use Rattle.exif_edit.specs.Clearing.{clear_patches, clearing}
use Rattle.exif_edit.specs.declared.edits.Edit.TheVariants.{EraseAll}
use Rattle.exif_edit.specs.InFiles.{data_patches, edited_file, file_patches, if_served, placed, serves, takes_picture}
use Rattle.exif_edit.specs.Spreading.{spread}
use Rattle.exif_edit.proofs.FilesSound.{file_sound}
use Rattle.exif_rewrite.specs.FileLaws.{AnswersPut, IsFound}
use Rattle.exif_rewrite.proofs.FileHeads.{jpeg_head, webp_head}
use Rattle.exif_inventory.specs.declared.part.Part.{Part}
use Rattle.exif_scrub.specs.HeifScrubbing as heif
use Rattle.exif_scrub.specs.declared.heif.fault.Fault as heif_faults
use Rattle.exif_scrub.proofs.Stays.{emptied_long}
use Rattle.exif_change.specs.Changed.{Change, whole}
use Rattle.exif_change.specs.Changes.{erased, heif_emptied, heif_left, if_edited, scrubbed, scrubbed_as, without_metadata}
use Rattle.exif_change.specs.Found.{loose_parts}
use Rattle.exif_change.specs.Reading.{Contents, data_contents, entry_limit, file_contents}
use Rattle.exif_change.specs.Refusals.{Reason, as_read, heif_fault, unknown_format, ◌>>=◌}
use Rattle.exif_change.specs.Rewriting.{rewritten}
use Rattle.exif_change.specs.declared.scrubbing.Removed.{Removed}
use Rattle.exif_change.specs.declared.scrubbing.Removed.TheVariants as removed
use Rattle.exif_change.proofs.FoundParts.{with_found_whole, with_parts_whole}
use Rattle.exif_change.proofs.Scrubbed.{jpeg_answers, webp_answers}
use Rattle.exif_change_laws.specs.Scrubbed.{HasNoField, is_rewritten}
use Rattle.exif_change_laws.proofs.NoField.{none_in_data}

no_ok : {X : Type 0} (why : Reason) (x : X) → ◌≡◌ {A = Result X Reason} (Err why) (Ok x) → ⊥
no_ok why x e = cc

none_some : {X : Type 0} (x : X) → ◌≡◌ {A = Option X} None (Some x) → ⊥
none_some x e = cc

-- one of two formats alone
which : Format → ℕ
which Tiff = 0
which Jpeg = 1
which Heif = 2
which WebP = 3

number_of_format : Option Format → ℕ
number_of_format None = 4
number_of_format (Some f) = which f

-- ---- the first 4096 bytes

jpeg_begins : (file : List ℕ) → begins_jpeg file ≡ true → (rest : List ℕ) × (file ≡ 255 ∷ 216 ∷ rest)
jpeg_begins [] h = absurd (false≢true h)
jpeg_begins (a ∷ []) h = absurd (false≢true h)
jpeg_begins (a ∷ b ∷ rest) h =
    let p = and_parts (a == 255) (b == 216) h in
    let x : a ≡ 255 = grind (arith, nat_tests, p.0) in
    let y : b ≡ 216 = grind (arith, nat_tests, p.1) in
    (rest, rw (x, y) refl)

jpeg_told : (file : List ℕ) → format_in file ≡ Some Jpeg → begins_jpeg file ≡ true
unfolding format_in number_of_format which
jpeg_told file e = by_tests (begins_tiff file) (begins_jpeg file) (begins_heif file) (begins_webp file) e
  where
    by_tests : (a b c d : Bool) → (if a then Some Tiff else (if b then Some Jpeg else (if c then Some Heif else (if d then Some WebP else None)))) ≡ Some Jpeg → b ≡ true
    by_tests true b c d e = absurd (let k = ap number_of_format e in cc)
    by_tests false true c d e = refl
    by_tests false false true d e = absurd (let k = ap number_of_format e in cc)
    by_tests false false false true e = absurd (let k = ap number_of_format e in cc)
    by_tests false false false false e = absurd (none_some Jpeg e)

webp_told : (file : List ℕ) → format_in file ≡ Some WebP → begins_webp file ≡ true
unfolding format_in number_of_format which
webp_told file e = by_tests (begins_tiff file) (begins_jpeg file) (begins_heif file) (begins_webp file) e
  where
    by_tests : (a b c d : Bool) → (if a then Some Tiff else (if b then Some Jpeg else (if c then Some Heif else (if d then Some WebP else None)))) ≡ Some WebP → d ≡ true
    by_tests true b c d e = absurd (let k = ap number_of_format e in cc)
    by_tests false true c d e = absurd (let k = ap number_of_format e in cc)
    by_tests false false true d e = absurd (let k = ap number_of_format e in cc)
    by_tests false false false true e = refl
    by_tests false false false false e = absurd (none_some WebP e)

pub jpeg_front : (file : List ℕ) → format_in file ≡ Some Jpeg → format_in (take 4096 file) ≡ Some Jpeg
jpeg_front file e = let b = jpeg_begins file (jpeg_told file e) in jpeg_head file b.0 b.1

pub webp_front : (file : List ℕ) → format_in file ≡ Some WebP → format_in (take 4096 file) ≡ Some WebP
webp_front file e = webp_head file (webp_told file e)

-- ---- files that are written again

-- what was put into a file that is written again is what is read
pub rewritten_answers : (format : Format) (put : Option (List ℕ)) (file new : List ℕ) → ((remove : Remove) (put : Option (List ℕ)) (bytes : List ℕ) → IsFound remove put bytes)
    → is_rewritten format ≡ true → format_in file ≡ Some format → as_read (rewritten format Metadata put file) ≡ Ok (whole new) → length new < 2 ^ 64
    → AnswersPut put (container_answer new)
rewritten_answers Jpeg put file new law r is e short = jpeg_answers Metadata put file new e short
rewritten_answers WebP put file new law r is e short = webp_answers Metadata put file new law (webp_front file is) e short
rewritten_answers Heif put file new law r is e short = absurd (false≢true r)
rewritten_answers Tiff put file new law r is e short = absurd (false≢true r)

-- ---- what is read

-- where a container answers that there is nothing, no field is read
pub nothing_read : (file : List ℕ) → AnswersPut None (container_answer file) → HasNoField (file_contents file)
nothing_read file (inl e) = subst (λ (r : Result (List ℕ) Refusal). HasNoField (types.◌>>=◌ r data_contents)) (sym e) tt
nothing_read file (inr e) = subst (λ (r : Result (List ℕ) Refusal). HasNoField (types.◌>>=◌ r data_contents)) (sym e) tt

-- what is put is read
pub put_read : (file bytes : List ℕ) (contents : Contents) → AnswersPut (Some bytes) (container_answer file) → data_contents bytes ≡ Ok contents → file_contents file ≡ Ok contents
put_read file bytes contents e h = ap (λ (r : Result (List ℕ) Refusal). types.◌>>=◌ r data_contents) e ∙ h

-- ---- HEIF files

-- the laws of limits
pub record Limits : Type 0 where
  pub within : (n : ℕ) (bytes : List ℕ) → AnswersWithin n bytes
  pub past : (n : ℕ) (bytes : List ℕ) → IsCutPast n (trace bytes)
  pub cut : (n : ℕ) (bytes : List ℕ) → LenientAnswersCut n bytes

-- an edit that erases all fields is refused for its data only by the container
refused_so : (file : List ℕ) (r : Refusal) → edited_file entry_limit EraseAll file ≡ Err (no_data r) → container_answer file ≡ Err r
unfolding file_patches clear_patches
refused_so file r e = by_located (located_answer file) refl e
  where
    err_same : {X : Type 0} (s : Refusal) → ◌≡◌ {A = Result X Cause} (Err (no_data s)) (Err (no_data r)) → s ≡ r
    err_same s e = cc

    other : {X : Type 0} (c : Cause) → ((s : Refusal) → c ≡ no_data s → ⊥) → ◌≡◌ {A = Result X Cause} (Err c) (Err (no_data r)) → ⊥
    other c not e = not r (let same : c ≡ no_data r = cc in same)

    ok_err : {X : Type 0} (x : X) → ◌≡◌ {A = Result X Cause} (Ok x) (Err (no_data r)) → ⊥
    ok_err x e = cc

    by_served : (b : Bool) (qs : List Patch)
        → causes.◌>>=◌ (if_served b qs) (λ ps. Ok (patched ps file)) ≡ Err (no_data r) → ⊥
    by_served true qs e = ok_err (patched qs file) e
    by_served false qs e = other shared (λ s h. cc) e

    by_header : (at : Located) (x : Result Order Fault)
        → causes.◌>>=◌ (causes.◌>>=◌ (causes.◌>>=◌ (of_data x) (λ order. Ok (clearing order (length at.bytes)))) (λ ps. placed file at ps)) (λ ps. Ok (patched ps file)) ≡ Err (no_data r) → ⊥
    by_header at (Err fault) e = other (wrong_header fault) (λ s h. cc) e
    by_header at (Ok order) e =
        let ps = clearing order (length at.bytes) in
        by_served (serves at.format file (spread at.ranges ps) (patched ps at.bytes)) (spread at.ranges ps) e

    by_picture : (at : Located) (b : Bool)
        → causes.◌>>=◌ (causes.◌>>=◌ (causes.◌>>=◌ (unless b picture) (λ a. clear_patches at.bytes)) (λ ps. placed file at ps)) (λ ps. Ok (patched ps file)) ≡ Err (no_data r) → ⊥
    by_picture at true e = other picture (λ s h. cc) e
    by_picture at false e = by_header at (header at.bytes) e

    by_located : (x : Result Located Refusal) → located_answer file ≡ x
        → causes.◌>>=◌ (causes.◌>>=◌ (of_container x) (λ at. causes.◌>>=◌ (data_patches entry_limit EraseAll at) (λ ps. placed file at ps))) (λ ps. Ok (patched ps file)) ≡ Err (no_data r)
        → container_answer file ≡ Err r
    by_located (Err s) h e = refused_alike file s h ∙ ap (λ (x : Refusal). let y : Result (List ℕ) Refusal = Err x in y) (err_same s e)
    by_located (Ok at) h e = absurd (by_picture at (takes_picture EraseAll at.format) e)

whole_same : (a b : List ℕ) → ◌≡◌ {A = Result Change Reason} (Ok (whole a)) (Ok (whole b)) → a ≡ b
whole_same a b e =
    let of : Result Change Reason → List ℕ = λ x. elim x [ Ok change ↦ change.file | Err why ↦ b ] in
    ap of e

-- a file whose fields were all erased, or that had none
pub erased_read : (file new : List ℕ) → Limits → length file < 2 ^ 64 → erased EraseAll file ≡ Ok (whole new) → HasNoField (file_contents new)
erased_read file new laws short e = by_edit (edited_file entry_limit EraseAll file) refl e
  where
    none : (what : List ℕ) → edited_file entry_limit EraseAll file ≡ Err (no_data (not_found what)) → file ≡ new → HasNoField (file_contents new)
    none what h same =
        let r : container_answer new ≡ Err (not_found what) = ap container_answer (sym same) ∙ refused_so file (not_found what) h in
        subst (λ (r : Result (List ℕ) Refusal). HasNoField (types.◌>>=◌ r data_contents)) (sym r) tt

    some : (out : List ℕ) → edited_file entry_limit EraseAll file ≡ Ok out → out ≡ new → HasNoField (file_contents new)
    some out h same =
        let b = bound (file_patches entry_limit EraseAll file) (λ ps. Ok (patched ps file)) out h in
        let s = file_sound entry_limit EraseAll file b.0 short b.1 in
        let is : patched b.0 file ≡ new = ok_same (patched b.0 file) out b.2 ∙ same in
        let held : container_answer new ≡ Ok s.new = subst (λ (xs : List ℕ). container_answer xs ≡ Ok s.new) is s.holds in
        let read = none_in_data s.new (λ n. laws.within n s.new) (λ n. laws.past n s.new) (λ n. laws.cut n s.new) (s.promised.reads true) in
        subst (λ (r : Result (List ℕ) Refusal). HasNoField (types.◌>>=◌ r data_contents)) (sym held) read

    by_edit : (x : Result (List ℕ) Cause) → edited_file entry_limit EraseAll file ≡ x → if_edited file x ≡ Ok (whole new) → HasNoField (file_contents new)
    by_edit (Ok out) h e = some out h (whole_same out new e)
    by_edit (Err (no_data (not_found what))) h e = none what h (whole_same file new e)
    by_edit (Err no_field) h e = absurd (no_ok _ (whole new) e)
    by_edit (Err no_directory) h e = absurd (no_ok _ (whole new) e)
    by_edit (Err full_directory) h e = absurd (no_ok _ (whole new) e)
    by_edit (Err unknown_type) h e = absurd (no_ok _ (whole new) e)
    by_edit (Err too_long) h e = absurd (no_ok _ (whole new) e)
    by_edit (Err offset_named) h e = absurd (no_ok _ (whole new) e)
    by_edit (Err shared) h e = absurd (no_ok _ (whole new) e)
    by_edit (Err picture) h e = absurd (no_ok _ (whole new) e)
    by_edit (Err (wrong_header fault)) h e = absurd (no_ok _ (whole new) e)
    by_edit (Err (no_data (invalid_format text))) h e = absurd (no_ok _ (whole new) e)
    by_edit (Err (no_data (blank_value text))) h e = absurd (no_ok _ (whole new) e)
    by_edit (Err (no_data (too_big text))) h e = absurd (no_ok _ (whole new) e)
    by_edit (Err (no_data (not_supported text))) h e = absurd (no_ok _ (whole new) e)
    by_edit (Err (no_data (unexpected_value text))) h e = absurd (no_ok _ (whole new) e)

-- ---- all formats

-- a change of a HEIF file that left nothing is whole
left_whole : (change : Change) (left : Result (List Part) heif_faults.Fault) (new : List ℕ) → heif_left change left ≡ Ok (whole new)
    → ◌≡◌ {A = Result Change Reason} (Ok change) (Ok (whole new))
left_whole change (Ok parts) new e = with_parts_whole parts (Ok change) new e
left_whole change (Err fault) new e = absurd (no_ok (heif_fault fault) (whole new) e)

heif_whole : (made : Result Change Reason) (new : List ℕ) → (made >>= λ change. heif_left change (heif.settled change.file)) ≡ Ok (whole new) → made ≡ Ok (whole new)
heif_whole (Ok change) new e = left_whole change (heif.settled change.file) new e
heif_whole (Err why) new e = absurd (no_ok why (whole new) e)

-- a HEIF file without its metadata
pub heif_read : (made : Bool × List ℕ) (new : List ℕ) → Limits → length made.1 < 2 ^ 64 → heif_emptied made ≡ Ok (whole new) → HasNoField (file_contents new)
heif_read (false, file) new limits short e = erased_read file new limits short e
heif_read (true, file) new limits short e = erased_read file new limits short (heif_whole (erased EraseAll file) new e)

-- it is as long as before
pub heif_short : (file : List ℕ) → length file < 2 ^ 64 → length (heif.emptied file).1 < 2 ^ 64
heif_short file short = let long : length (heif.emptied file).1 ≡ length file = emptied_long file in omega arith

-- a file without its metadata
pub scrubbed_read : (file new : List ℕ) → ((remove : Remove) (put : Option (List ℕ)) (bytes : List ℕ) → IsFound remove put bytes) → Limits
    → (format_in file ≡ Some Tiff → ⊥) → length file < 2 ^ 64 → length new < 2 ^ 64 → scrubbed removed.Metadata file ≡ Ok (whole new) → HasNoField (file_contents new)
scrubbed_read file new law limits other short small e = by_format (format_in file) refl e
  where
    by_format : (o : Option Format) → format_in file ≡ o
        → ◌≡◌ {A = Result Change Reason} (elim o [ Some format ↦ scrubbed_as format removed.Metadata file | None ↦ Err unknown_format ]) (Ok (whole new))
        → HasNoField (file_contents new)
    by_format None f e = absurd (no_ok unknown_format (whole new) e)
    by_format (Some Tiff) f e = absurd (other f)
    by_format (Some Jpeg) f e = nothing_read new (rewritten_answers Jpeg None file new law refl f (with_found_whole false (as_read (rewritten Jpeg Metadata None file)) new
        (with_parts_whole (loose_parts file) (without_metadata Jpeg removed.Metadata file) new e)) small)
    by_format (Some WebP) f e = nothing_read new (rewritten_answers WebP None file new law refl f (with_found_whole false (as_read (rewritten WebP Metadata None file)) new e) small)
    by_format (Some Heif) f e = heif_read (heif.emptied file) new limits (heif_short file short) e

-- what is made of a file by its format
pub scrubbed_by : (format : Format) (removed : Removed) (file : List ℕ) → format_in file ≡ Some format → scrubbed removed file ≡ scrubbed_as format removed file
scrubbed_by format removed file f = ap (λ (o : Option Format). elim o as (λ _. Result Change Reason) [ Some format ↦ scrubbed_as format removed file | None ↦ Err unknown_format ]) f
