-- The fields of groups as they are in their image, those of a child in place of the pointer to
-- it.
use Rattle.std.specs.Prelude.{ℕ, zero, suc, List, [], ◌∷◌, ◌++◌, map}
use Rattle.std.specs.List.{flat_map}
use Rattle.exif_types.specs.declared.value.Value.{Value}
use Rattle.exif_table.specs.declared.context.Context.{Context}
use Rattle.exif_table.specs.declared.context.Context.TheVariants.{Tiff}
use Rattle.exif_types.specs.declared.field.Field.{Field}
use Rattle.exif_tiff.specs.Trace.{depth_of}
use Rattle.exif_layout.specs.Groups.{Group}
use Rattle.exif_layout.specs.Encoding.{moved_to}
use Rattle.exif_layout.specs.Slots.{Draft, draft_of, OffsetOf}
use Rattle.exif_layout.specs.Offsets.{Written, entries_of, draft_end}

-- the field with a value that a directory has under a tag
abbrev pub field_of : Context → ℕ → ℕ → Value → Field
field_of context tag ifd value =
    record { tag = record { 0 = context; 1 = tag }; ifd_num = record { 0 = ifd }; value = value }

-- the fields of an entry; an undefined value has the offset where its bytes are
abbrev pub entry_fields : (Context → List Field) → Context → ℕ → Written → List Field
entry_fields inner context ifd entry =
    elim entry.content [
      | OffsetOf child ↦ inner child
      | _ ↦ field_of context entry.tag ifd (moved_to entry.offset entry.value) ∷ []
    ]

-- the fields of a directory, with its children down to a depth
abbrev pub directory_fields : Draft → ℕ → ℕ → ℕ → Context → List Field
directory_fields draft start ifd zero context = []
directory_fields draft start ifd (suc depth) context =
    flat_map (entry_fields (directory_fields draft start ifd depth) context ifd)
    (entries_of draft start context)

-- the fields of drafts from an offset on, of which the first has the number ifd
abbrev pub flat_from : ℕ → ℕ → List Draft → List Field
flat_from ifd start [] = []
flat_from ifd start (draft ∷ drafts) =
    directory_fields draft start ifd (depth_of Tiff) Tiff
    ++ flat_from (suc ifd) (draft_end draft start) drafts

-- all the fields; the first directory is behind the 8 bytes of the header
unfoldable pub flat : List Group → List Field
flat groups = flat_from 0 8 (map draft_of groups)
