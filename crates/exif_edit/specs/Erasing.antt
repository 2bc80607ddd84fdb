-- Offsets erased: GPS directories and their values become zero bytes.
use Rattle.std.specs.Prelude.{ℕ, ◌+◌, ◌-◌, ◌*◌, ◌==◌, nat_le, min, Bool, true, false, not, List, ◌∷◌, length, map, Result, Ok, Err, if◌then◌else◌}
use Rattle.std.specs.List.{flat_map, filter}
use Rattle.exif_base.specs.Bytes.{Reading, number_at}
use Rattle.exif_base.specs.Orders.{number_of, order_named}
use Rattle.exif_table.specs.declared.context.Context.{Context}
use Rattle.exif_table.specs.declared.context.Context.TheVariants.{Tiff, Exif, Gps, Interop}
use Rattle.exif_text.specs.FieldTypes.{type_of, known_length}
use Rattle.exif_types.specs.declared.field.Field.{Field}
use Rattle.exif_tiff.specs.Trace.{whole_entries, entry_offsets}
use Rattle.exif_edit_base.specs.Causes.{Cause, of_data, shared, ◌>>=◌}
use Rattle.exif_edit_base.specs.GpsOffsets.{gps_offsets}
use Rattle.exif_edit_base.specs.Patches.{patched, zeros_over}
use Rattle.exif_edit_base.specs.Readings.{Read, reading}
use Rattle.exif_edit_base.specs.declared.error.Error.{Error}
use Rattle.exif_edit_base.specs.declared.patch.Patch.{Patch}
use Rattle.exif_edit_base.specs.declared.patch.Span.{Span}
use Rattle.exif_edit_base.specs.Rereading.{clears}
use Rattle.exif_edit_base.specs.Spans.{nowhere, space_of}

-- what of a span lies in data of a length
abbrev pub clipped : ℕ → Span → Span
clipped total s =
    if nat_le s.offset total then record { offset = s.offset; len = min s.len (total - s.offset) }
    else nowhere

-- the directory at q: its count, entries and next offset
abbrev pub directory_span : Reading → List ℕ → ℕ → Span
directory_span number bytes q =
    clipped (length bytes) (record { offset = q; len = 2 + 12 * whole_entries number bytes q + 4 })

-- how many bytes an item of a type takes: also of those that reading does not know, UTF-8 text
-- (Exif
-- 3.0, 4.6.2) and offsets of directories (TIFF Technical Note 1, "TIFF Trees")
abbrev pub item_len : ℕ → ℕ
item_len t = if t == 129 then 1 else (if t == 13 then 4 else known_length (type_of t))

-- where the value of the entry at e of a GPS directory is, outside of the entry
abbrev pub gps_space : Reading → List ℕ → ℕ → Span
gps_space number bytes e =
    space_of (number_at number 4 bytes (e + 8))
    (item_len (number_at number 2 bytes (e + 2)) * number_at number 4 bytes (e + 4))

-- so much of it as lies in the data
abbrev pub gps_value_span : Reading → List ℕ → ℕ → Span
gps_value_span number bytes e = clipped (length bytes) (gps_space number bytes e)

-- the directory at q and the values of its entries
abbrev pub directory_spans : Reading → List ℕ → ℕ → List Span
directory_spans number bytes q =
    directory_span number bytes q
    ∷ map (gps_value_span number bytes) (entry_offsets number bytes q)

-- the GPS directories of data, whether or not reading visits them, and the values of their entries
unfoldable pub gps_spans : Reading → List ℕ → List Span
gps_spans number bytes = flat_map (directory_spans number bytes) (gps_offsets number bytes)

-- whether a context is that of GPS data
abbrev pub is_gps : Context → Bool
is_gps Gps = true
is_gps Tiff = false
is_gps Exif = false
is_gps Interop = false

-- the fields but those of GPS data
abbrev pub without_gps : List Field → List Field
without_gps fields = filter (λ (f : Field). not (is_gps f.tag.0)) fields

-- a reading without its GPS fields
abbrev pub kept : Read → Read
kept read =
    record { little = read.little; fields = without_gps read.fields; faults = read.faults }

-- patches, if what they make is read so
abbrev pub cleared : Read → List ℕ → List Patch → Result (List Patch) Cause
cleared read bytes patches = if clears (patched patches bytes) read then Ok patches else Err shared

-- patches whose bytes are known to have no other use, or if what they make is read without GPS
-- fields
abbrev pub zeros_planned : Bool → Read → List ℕ → List Patch → Result (List Patch) Cause
zeros_planned unshared read bytes patches =
    if unshared then Ok patches else cleared (kept read) bytes patches

-- what erases the GPS data, or why that is refused
unfoldable pub erase_patches : List ℕ → Result (List Patch) Cause
erase_patches bytes = do
  read ← of_data (reading bytes)
  let spans = gps_spans (number_of (order_named read.little)) bytes in
      cleared (kept read) bytes (map zeros_over spans)

-- the data without them
abbrev pub erase_answer : List ℕ → Result (List ℕ) Cause
erase_answer bytes = erase_patches bytes >>= λ patches. Ok (patched patches bytes)

-- that an edit was made, or why not
abbrev pub done_of : {A : Type 0} → Result A Error → Result (Unit {0}) Error
done_of (Ok x) = Ok tt
done_of (Err e) = Err e
