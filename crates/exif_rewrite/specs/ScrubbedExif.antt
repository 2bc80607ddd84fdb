-- The named fields of what was read, as Exif data of their own (Exif 2.32, 4.6.2).
use Rattle.std.specs.Prelude.{◌≡◌, ◌==◌, ◌&&◌, ℕ, Bool, not, List, [], ◌∷◌, Option, None, Some, Result, Ok, Err}
use Rattle.std.specs.List.{All, filter, list_any}
use Rattle.exif_base.specs.declared.endian.Order.{Order}
use Rattle.exif_table.specs.declared.context.Context.{Context}
use Rattle.exif_types.specs.Lookup.{tag_eq}
use Rattle.exif_types.specs.Refusals.{Refusal}
use Rattle.exif_types.specs.declared.field.Field.{Field}
use Rattle.exif_types.specs.declared.tag.Tag.{Tag}
use Rattle.exif_tiff.specs.Answers.{Whole, raw_answer}
use Rattle.exif_layout.specs.Groups.{is_ignored}
use Rattle.exif_layout.specs.Image.{image}
use Rattle.exif_layout.specs.Pushing.{IsMoved, slots_into}
use Rattle.exif_layout.specs.Refused.{is_unknown, write_fault}
use Rattle.exif_layout.specs.Rewriting.{pushed_all}
use Rattle.exif_layout.specs.Slots.{in_tag_order}
use Rattle.exif_layout.specs.WriteFaults.{write_refusal}
use Rattle.exif_layout.specs.declared.write_fault.WriteFault.{WriteFault}

-- whether a field is one of the primary image that is to be kept, and that a writer can write
abbrev pub is_wanted : List Tag → Field → Bool
is_wanted keep field =
    (field.ifd_num.0 == 0) && list_any (tag_eq field.tag) keep
    && not (is_ignored field.tag.0 field.tag.1) && not (is_unknown field.value)

-- these fields, in their order
abbrev pub wanted : List Tag → List Field → List Field
wanted keep fields = filter (is_wanted keep) fields

-- an image, or why it can't be written
abbrev pub image_or : Option WriteFault → List ℕ → Result (Option (List ℕ)) Refusal
image_or None image = Ok (Some image)
image_or (Some cause) image = Err (write_refusal cause)

-- TIFF data of fields and of nothing else, or why they can't be written; none where there is no
-- field
abbrev pub scrubbed_answer : Order → List Field → Result (Option (List ℕ)) Refusal
scrubbed_answer order [] = Ok None
scrubbed_answer order (field ∷ fields) =
    let groups = pushed_all (field ∷ fields) [] in image_or (write_fault groups) (image order groups)

-- data that both modes read whole, as these fields: each one that is read is one of them, and each
-- directory has those of its own in the order of their tags, equal tags in theirs
pub record ReadsAs (fields : List Field) (bytes : List ℕ) : Type 0 where
  pub read : List Field
  pub whole : (lenient : Bool) → raw_answer lenient None bytes ≡ Whole read
  pub each : All (IsMoved fields) read
  pub sorted : (ifd : ℕ) (context : Context)
      → slots_into ifd context read ≡ in_tag_order (slots_into ifd context fields)
