-- Files of which the orientation alone is kept.
use Rattle.std.proofs.Common.{◌≡◌, ◌∙◌, ◌<◌, ◌^◌, true, ℕ, List, [], ◌∷◌, length, is_some, Option, Some, None, Result, Ok, Err, refl, sym, ap}
use Rattle.exif_base.specs.declared.endian.Order.{Order}
use Rattle.exif_types.specs.Refusals as types
use Rattle.exif_types.specs.Refusals.{Refusal}
use Rattle.exif_types.specs.declared.field.Field.{Field}
use Rattle.exif_tiff.specs.Answers.{Answer}
use Rattle.exif_tiff.specs.Trace.{header}
use Rattle.exif_tiff.specs.declared.fault.Fault.{Fault}
use Rattle.exif_containers.specs.Container.{container_answer, format_in}
use Rattle.exif_containers.specs.declared.container.Format.{Format}
use Rattle.exif_containers.specs.declared.container.Format.TheVariants.{Tiff, Jpeg, Heif, WebP}
use Rattle.exif_segments.specs.declared.remove.Remove.{Remove}
use Rattle.exif_segments.specs.declared.remove.Remove.TheVariants.{Metadata}
use Rattle.exif_layout.specs.Refused.{write_fault}
use Rattle.exif_layout.specs.Rewriting.{pushed_all}
use Rattle.exif_layout.specs.WriteFaults.{write_refusal}
use Rattle.exif_layout.specs.declared.write_fault.WriteFault.{WriteFault}
use Rattle.exif_rewrite.specs.FileLaws.{AnswersPut, IsFound}
use Rattle.exif_rewrite.specs.ScrubbedExif.{image_or, scrubbed_answer, wanted}
use Rattle.exif_change.specs.Changed.{whole}
use Rattle.exif_change.specs.Changes.{kept, orientation_in, scrubbed, upright, without_metadata}
use Rattle.exif_change.specs.Found.{loose_parts, with_found}
use Rattle.exif_change.specs.Reading.{Contents, data_contents, fields_in, file_contents, without_fault}
use Rattle.exif_change.specs.Refusals.{Reason, as_read, reading, ◌>>=◌}
use Rattle.exif_change.specs.Rewriting.{rewritten}
use Rattle.exif_change.specs.declared.scrubbing.Removed.TheVariants.{AllButOrientation}
use Rattle.exif_change.proofs.FoundParts.{with_found_whole, with_parts_whole}
use Rattle.exif_change_laws.specs.Scrubbed.{HasNoField, is_rewritten, orientation, orientation_alone}
use Rattle.exif_change_laws.proofs.OrientationImage.{told_order, told_read}
use Rattle.exif_change_laws.proofs.ScrubbedFiles.{nothing_read, put_read, rewritten_answers, scrubbed_by}

-- data of an orientation alone are read so
alone_read : (order : Order) (number : ℕ) → number < 2 ^ 16 → data_contents (orientation_alone order number).bytes ≡ Ok (orientation_alone order number)
unfolding data_contents
alone_read order number h =
    let bytes = (orientation_alone order number).bytes in
    ap (λ (a : Answer). types.◌>>=◌ (fields_in a) (λ fs. types.◌>>=◌ (without_fault (header bytes)) (λ o. Ok (record { bytes = bytes; order = o; fields = fs })))) (told_read order number h)
    ∙ ap (λ (r : Result Order Fault). types.◌>>=◌ (without_fault r) (λ o. Ok (record { bytes = bytes; order = o; fields = orientation number ∷ [] }))) (told_order order number)

no_ok : {X : Type 0} (why : Reason) (x : X) → ◌≡◌ {A = Result X Reason} (Err why) (Ok x) → ⊥
no_ok why x e = cc

-- a file that is written again, by what is kept of it
scrubbed_so : (format : Format) (file new : List ℕ) → is_rewritten format ≡ true → format_in file ≡ Some format
    → scrubbed AllButOrientation file ≡ Ok (whole new)
    → (kept AllButOrientation file >>= λ put. with_found (is_some put) (as_read (rewritten format Metadata put file))) ≡ Ok (whole new)
scrubbed_so Jpeg file new r f e = with_parts_whole (loose_parts file) (without_metadata Jpeg AllButOrientation file) new (sym (scrubbed_by Jpeg AllButOrientation file f) ∙ e)
scrubbed_so WebP file new r f e = sym (scrubbed_by WebP AllButOrientation file f) ∙ e
scrubbed_so Heif file new r f e = absurd (false_true r)
  where
    false_true : is_rewritten Heif ≡ true → ⊥
    false_true e = cc
scrubbed_so Tiff file new r f e = absurd (false_true r)
  where
    false_true : is_rewritten Tiff ≡ true → ⊥
    false_true e = cc

-- what was kept is what is read
pub kept_answers : (format : Format) (put : Option (List ℕ)) (file new : List ℕ) → ((remove : Remove) (put : Option (List ℕ)) (bytes : List ℕ) → IsFound remove put bytes)
    → is_rewritten format ≡ true → format_in file ≡ Some format → kept AllButOrientation file ≡ Ok put
    → scrubbed AllButOrientation file ≡ Ok (whole new) → length new < 2 ^ 64 → AnswersPut put (container_answer new)
kept_answers format put file new law r f k e short =
    rewritten_answers format put file new law r f
    (with_found_whole (is_some put) (as_read (rewritten format Metadata put file)) new
    (sym (ap (λ (x : Result (Option (List ℕ)) Reason). x >>= (λ put. with_found (is_some put) (as_read (rewritten format Metadata put file)))) k) ∙ scrubbed_so format file new r f e)) short

-- the orientation alone is read
pub orientation_kept : (format : Format) (file new : List ℕ) (contents : Contents) (number : ℕ) → ((remove : Remove) (put : Option (List ℕ)) (bytes : List ℕ) → IsFound remove put bytes)
    → is_rewritten format ≡ true → format_in file ≡ Some format → file_contents file ≡ Ok contents
    → wanted upright contents.fields ≡ orientation number ∷ [] → number < 2 ^ 16
    → scrubbed AllButOrientation file ≡ Ok (whole new) → length new < 2 ^ 64
    → file_contents new ≡ Ok (orientation_alone contents.order number)
orientation_kept format file new contents number law r f read told small e short =
    by_fault (write_fault (pushed_all (orientation number ∷ []) [])) refl
  where
    bytes : List ℕ
    bytes = (orientation_alone contents.order number).bytes

    made : (o : Option WriteFault) → write_fault (pushed_all (orientation number ∷ []) []) ≡ o
        → kept AllButOrientation file ≡ as_read (image_or o (orientation_alone contents.order number).bytes)
    made o w =
        ap (λ (x : Result Contents Refusal). as_read (orientation_in x)) read
        ∙ (ap (λ (fs : List Field). as_read (scrubbed_answer contents.order fs)) told
        ∙ ap (λ (x : Option WriteFault). as_read (image_or x (orientation_alone contents.order number).bytes)) w)

    by_fault : (o : Option WriteFault) → write_fault (pushed_all (orientation number ∷ []) []) ≡ o → file_contents new ≡ Ok (orientation_alone contents.order number)
    by_fault None w =
        put_read new (orientation_alone contents.order number).bytes (orientation_alone contents.order number)
        (kept_answers format (Some (orientation_alone contents.order number).bytes) file new law r f (made None w) e short)
        (alone_read contents.order number small)
    by_fault (Some cause) w =
        absurd (no_ok (reading (write_refusal cause)) (whole new)
        (sym (ap (λ (x : Result (Option (List ℕ)) Reason). x >>= (λ put. with_found (is_some put) (as_read (rewritten format Metadata put file)))) (made (Some cause) w)) ∙ scrubbed_so format file new r f e))

-- where nothing is kept, nothing is read
pub nothing_kept : (format : Format) (file new : List ℕ) → ((remove : Remove) (put : Option (List ℕ)) (bytes : List ℕ) → IsFound remove put bytes)
    → is_rewritten format ≡ true → format_in file ≡ Some format → kept AllButOrientation file ≡ Ok None
    → scrubbed AllButOrientation file ≡ Ok (whole new) → length new < 2 ^ 64 → HasNoField (file_contents new)
nothing_kept format file new law r f k e short = nothing_read new (kept_answers format None file new law r f k e short)
