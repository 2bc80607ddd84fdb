-- Files with fields set in their Exif data, which become longer, or in new ones.
use Rattle.std.specs.Prelude.{ℕ, ◌^◌, nat_lt, if◌then◌else◌, false, List, [], ◌∷◌, Option, Some, None, Result, Ok, Err}
use Rattle.exif_base.specs.Orders.{order_named}
use Rattle.exif_types.specs.Refusals as types
use Rattle.exif_types.specs.Refusals.{not_found, too_big}
use Rattle.exif_types.specs.ValueTypes.{count_of}
use Rattle.exif_types.specs.declared.field.Field.{Field}
use Rattle.exif_types.specs.declared.tag.Tag.{Tag}
use Rattle.exif_containers.specs.Container.{container_answer}
use Rattle.exif_containers.specs.declared.container.Format.{Format}
use Rattle.exif_containers.specs.declared.container.Format.TheVariants.{Tiff, Jpeg, Heif, WebP}
use Rattle.exif_segments.specs.declared.remove.Remove.TheVariants.{Exif}
use Rattle.exif_layout.specs.Image.{image}
use Rattle.exif_layout.specs.Refused.{write_fault}
use Rattle.exif_layout.specs.Rewriting.{pushed_all}
use Rattle.exif_layout.specs.WriteFaults.{write_refusal}
use Rattle.exif_layout.specs.declared.write_fault.WriteFault.{WriteFault}
use Rattle.exif_grow.specs.Fields.{fields_grown}
use Rattle.exif_grow.specs.Items.{item_grown}
use Rattle.exif_change.specs.Changed.{Change, whole}
use Rattle.exif_change.specs.Refusals.{Reason, as_edited, as_read, reading, second_exif, too_long, ◌>>=◌}
use Rattle.exif_change.specs.Rewriting.{rewritten}
use Rattle.exif_setting.specs.Second.{has_second}

-- data, unless they can't be written
abbrev pub unless_fault : Option WriteFault → List ℕ → Result (List ℕ) types.Refusal
unless_fault None bytes = Ok bytes
unless_fault (Some fault) bytes = Err (write_refusal fault)

-- new Exif data that hold these fields alone, big endian
abbrev pub new_data : List Field → Result (List ℕ) types.Refusal
new_data fields =
    let groups = pushed_all fields [] in
    unless_fault (write_fault groups) (image (order_named false) groups)

-- how many items a value has, if 32 bits hold the number
abbrev pub counted : Field → ℕ
counted field =
    if nat_lt (count_of field.value) (2 ^ 32) then count_of field.value else 0

-- of fields, the tag of the first one whose value has more items than a number, or another tag
abbrev pub longest_after : List Field → Tag → ℕ → Tag
longest_after [] tag most = tag
longest_after (field ∷ fields) tag most =
    if nat_lt most (counted field) then longest_after fields field.tag (counted field)
    else longest_after fields tag most

-- the tag of the first field whose value has most items
abbrev pub longest : List Field → Option Tag
longest [] = None
longest (field ∷ fields) = Some (longest_after fields field.tag (counted field))

-- why data are too long: by the tag of a field, if there is one
abbrev pub too_long_for : Option Tag → List ℕ → Reason
too_long_for (Some tag) text = too_long tag
too_long_for None text = reading (too_big text)

-- new data that are too long are refused by the tag of the longest field
abbrev pub naming : Option Tag → Result Change types.Refusal → Result Change Reason
naming tag (Err (too_big text)) = Err (too_long_for tag text)
naming tag answer = as_read answer

-- the JPEG or WebP file with new Exif data, in which these fields were set
abbrev pub put : Format → List ℕ → List Field → List ℕ → Result Change Reason
put format data' fields file = naming (longest fields) (rewritten format Exif (Some data') file)

-- the file with new Exif data in place of its own, unless it has others too
abbrev pub put_alone : Format → List ℕ → List Field → List ℕ → Result Change Reason
put_alone format data' fields file =
    put format data' fields file
    >>= λ new. if has_second format file then Err second_exif else Ok new

-- a HEIF file with new Exif data, whose item is put behind the file
abbrev pub item_moved : List ℕ → List ℕ → Result Change Reason
item_moved data' file = as_edited (item_grown file data') >>= λ new. Ok (whole new)

-- a file with new Exif data in place of its own
abbrev pub replaced : Format → List ℕ → List Field → List ℕ → Result Change Reason
replaced Tiff data' fields file = Ok (whole data')
replaced Jpeg data' fields file = put_alone Jpeg data' fields file
replaced WebP data' fields file = put_alone WebP data' fields file
replaced Heif data' fields file = item_moved data' file

-- a file with fields set in the Exif data that it has
abbrev pub grown_in : Format → List Field → List ℕ → List ℕ → Result Change Reason
grown_in format fields bytes file =
    as_edited (fields_grown fields bytes) >>= λ data'. replaced format data' fields file

-- a file with new Exif data that hold fields
abbrev pub created_in : Format → List Field → List ℕ → Result Change Reason
created_in format fields file =
    as_read (new_data fields) >>= λ data'. put format data' fields file

-- the same by the format of a file without Exif data: the `meta` of a HEIF file would grow
abbrev pub created_for : Format → List ℕ → List Field → List ℕ → Result Change Reason
created_for Heif what fields file = Err (reading (not_found what))
created_for Jpeg what fields file = created_in Jpeg fields file
created_for WebP what fields file = created_in WebP fields file
created_for Tiff what fields file = created_in Tiff fields file

-- a file with fields set in its Exif data, or in new ones where it has none
abbrev pub grown_by : Format → List Field → Result (List ℕ) types.Refusal → List ℕ
    → Result Change Reason
grown_by format fields (Ok bytes) file = grown_in format fields bytes file
grown_by format fields (Err (not_found what)) file = created_for format what fields file
grown_by format fields (Err refusal) file = Err (reading refusal)

-- the same, by what the file is answered with
unfoldable pub grown_file : Format → List Field → List ℕ → Result Change Reason
grown_file format fields file = grown_by format fields (container_answer file) file
