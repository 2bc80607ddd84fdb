-- For which groups nothing is written (TIFF 6.0, section 2: counts of 16 bits, offsets of 32).
use Rattle.std.specs.Prelude.{◌==◌, nat_lt, Bool, true, false, List, [], ◌∷◌, length, map, Option, Some, None, if◌then◌else◌}
use Rattle.std.specs.List.{list_any}
use Rattle.exif_types.specs.declared.value.Value.{Value}
use Rattle.exif_types.specs.declared.value.Value.TheVariants.{Unknown}
use Rattle.exif_table.specs.declared.context.Context.{Context}
use Rattle.exif_table.specs.declared.context.Context.TheVariants.{Tiff, Exif, Gps, Interop}
use Rattle.exif_layout.specs.declared.write_fault.WriteFault.{WriteFault}
use Rattle.exif_layout.specs.declared.write_fault.WriteFault.TheVariants.{NoDirectory, EmptyDirectory, TooManyFields, UnknownType, OffsetTooLarge}
use Rattle.exif_layout.specs.Groups.{Group, Entry, pushed_in}
use Rattle.exif_layout.specs.Slots.{draft_of, slots_of, tiff_slots}
use Rattle.exif_layout.specs.Offsets.{drafts_end}

-- all contexts, one for each directory of a group
abbrev pub contexts : List Context
contexts = Tiff ∷ Exif ∷ Gps ∷ Interop ∷ []

-- whether a value is of an unknown type
abbrev pub is_unknown : Value → Bool
is_unknown (Unknown type count offset) = true
is_unknown value = false

-- whether some entry has a value of an unknown type
abbrev pub any_unknown : List Entry → Bool
any_unknown entries = list_any (λ entry. is_unknown entry.value) entries

-- a directory has more entries than a count of 16 bits can say
abbrev pub any_over : Group → Bool
any_over group = list_any (λ context. nat_lt 65535 (length (slots_of group context))) contexts

-- the first cause in one group
unfoldable pub group_fault : Group → Option WriteFault
group_fault group =
    if length (tiff_slots group) == 0 then Some EmptyDirectory
    else (if any_over group then Some TooManyFields
    else (if list_any (λ context. any_unknown (pushed_in group context)) contexts
    then Some UnknownType else None))

-- that of the first group with a cause
abbrev pub first_group_fault : List Group → Option WriteFault
first_group_fault [] = None
first_group_fault (group ∷ groups) =
    elim (group_fault group) [ Some cause ↦ Some cause | None ↦ first_group_fault groups ]

-- the cause for which nothing is written of the groups; where there is no other, the image may be
-- too long
unfoldable pub write_fault : List Group → Option WriteFault
write_fault [] = Some NoDirectory
write_fault (group ∷ groups) =
    elim (first_group_fault (group ∷ groups)) [
      | Some cause ↦ Some cause
      | None ↦ if nat_lt 4294967295 (drafts_end 8 (map draft_of (group ∷ groups)))
          then Some OffsetTooLarge else None
    ]
