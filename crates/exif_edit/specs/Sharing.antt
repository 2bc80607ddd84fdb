-- Whether what an edit changes is looked at as anything else.
use Rattle.std.specs.Prelude.{◌≡◌, ℕ, ◌+◌, ◌-◌, ◌*◌, ◌^◌, ◌==◌, max, ◌&&◌, ◌||◌, nat_lt, not, Bool, true, false, List, [], ◌∷◌, length, if◌then◌else◌, Some, Result, Ok}
use Rattle.std.specs.List.{filter, flat_map, list_any}
use Rattle.exif_base.specs.Bytes.{Reading, number_at}
use Rattle.exif_base.specs.Orders.{number_of}
use Rattle.exif_base.specs.declared.endian.Order.{Order}
use Rattle.exif_text.specs.declared.ifd.In.{In}
use Rattle.exif_types.specs.Sound.{HasPlainTexts}
use Rattle.exif_types.specs.ValueTypes.{count_of}
use Rattle.exif_types.specs.declared.tag.Tag.{Tag}
use Rattle.exif_types.specs.declared.value.Value.{Value}
use Rattle.exif_tiff.specs.Footprint.{Stretch, chain_directories, value_stretch}
use Rattle.exif_tiff.specs.Trace.{entry_offsets, header, whole_entries}
use Rattle.exif_layout.specs.Encoding.{encode}
use Rattle.exif_layout.specs.Ranged.{IsRanged}
use Rattle.exif_layout.specs.Refused.{is_unknown}
use Rattle.exif_edit_base.specs.Locations.{Located, located}
use Rattle.exif_edit_base.specs.Causes.{Cause, offset_named, too_long, unknown_type, unless, ◌>>=◌}
use Rattle.exif_edit_base.specs.Finding.{last_located}
use Rattle.exif_edit_base.specs.declared.patch.Patch.{Patch}
use Rattle.exif_edit_base.specs.declared.patch.Span.{Span}
use Rattle.exif_edit_base.specs.Spans.{value_space}
use Rattle.exif_edit.specs.Setting.{names_offsets, set_patches, value_patches}

-- whether a stretch has a byte of a span
abbrev pub overlaps : Span → Stretch → Bool
overlaps s t = nat_lt t.offset (s.offset + s.len) && nat_lt s.offset (t.offset + t.len)

-- the bytes of the entry at e that a new value changes
abbrev pub changed_entry : ℕ → Span
changed_entry e = record { offset = e + 2; len = 10 }

-- what reading looks at of an entry at d, unless it is the one at e
abbrev pub other_entry : Reading → List ℕ → ℕ → ℕ → List Stretch
other_entry number bytes e d =
    if d == e then [] else record { offset = d; len = 12 } ∷ value_stretch number bytes d

-- what it looks at of the directory at p but for the entry at e: the count, the next offset, the
-- other entries and their values
abbrev pub beside : Reading → List ℕ → ℕ → ℕ → List Stretch
beside number bytes e p =
    record { offset = p; len = 2 }
    ∷ (record { offset = p + 2 + 12 * whole_entries number bytes p; len = 4 }
    ∷ flat_map (other_entry number bytes e) (entry_offsets number bytes p))

-- what it looks at of the data but for the entry at e
abbrev pub all_beside : Reading → List ℕ → ℕ → List Stretch
all_beside number bytes e =
    record { offset = 0; len = 8 }
    ∷ flat_map (beside number bytes e)
    (chain_directories 8 number bytes (number_at number 4 bytes 4))

-- the fields of the entry at e
abbrev pub standing_at : ℕ → List Located → List Located
standing_at e ls = filter (λ (l : Located). l.entry == e) ls

-- whether the entry at e holds one field, and no byte that a new value changes is looked at as
-- anything else
abbrev pub is_unshared : Reading → List ℕ → ℕ → Bool
is_unshared number bytes e =
    not
    (list_any (λ t. overlaps (changed_entry e) t || overlaps (value_space number bytes e) t)
    (all_beside number bytes e))
    && (not (overlaps (value_space number bytes e) (record { offset = e; len = 12 }))
    && (length (standing_at e (located bytes)) == 1))

-- whether a tag number is that of a child directory
abbrev pub names_child : ℕ → Bool
names_child n = (n == 0x8769) || ((n == 0x8825) || (n == 0xa005))

-- what puts a value over that of an entry which has this space, if only it fits there
abbrev pub fit_answer : Order → Tag → Value → ℕ → Span → Result (List Patch) Cause
fit_answer order tag value e space = do
  a ← unless (names_offsets tag) offset_named
  b ← unless (is_unknown value) unknown_type
  c ← unless (nat_lt (2 ^ 32 - 1) (count_of value)) too_long
  d ← unless (nat_lt (max 4 space.len) (length (encode order value))) too_long
  Ok (value_patches order value e space)

-- if the entry is unshared, a value that reads back as it was is set if it fits
abbrev pub IsSetUnshared : Tag → In → Value → List ℕ → Type 0
IsSetUnshared tag k value bytes =
    (order : Order) (at : Located) → header bytes ≡ Ok order
    → last_located tag k (located bytes) ≡ Some at
    → is_unshared (number_of order) bytes at.entry ≡ true → names_child tag.1 ≡ false
    → IsRanged value → HasPlainTexts value → set_patches bytes tag k value
    ≡ fit_answer order tag value at.entry (value_space (number_of order) bytes at.entry)
