-- The offsets of the fields of TIFF data and of their directories (TIFF 6.0, section 2; Exif 2.32,
-- 4.6.3).
use Rattle.std.specs.Prelude.{◌≡◌, ℕ, List, [], ◌∷◌, map}
use Rattle.std.specs.List.{flat_map}
use Rattle.exif_table.specs.declared.context.Context.{Context}
use Rattle.exif_table.specs.declared.context.Context.TheVariants.{Tiff, Exif, Gps, Interop}
use Rattle.exif_tiff.specs.declared.offset.DirectoryOffset.{DirectoryOffset}
use Rattle.exif_tiff.specs.Trace.{directories_of, fields_of, located_of, trace}
pub use Rattle.exif_tiff.specs.Trace.{Located}

-- the fields of the data in the order of the trace, each with the offset of its entry
unfoldable pub located : List ℕ → List Located
located bytes = located_of (trace bytes)

-- the directories that reading visits, in its order
unfoldable pub directory_offsets : List ℕ → List DirectoryOffset
directory_offsets bytes = directories_of (trace bytes)

-- an offset, if the directory there is one of GPS data
abbrev pub gps_offset : Context → ℕ → List ℕ
gps_offset Gps p = p ∷ []
gps_offset Tiff p = []
gps_offset Exif p = []
gps_offset Interop p = []

-- the offsets of the GPS directories among directories
abbrev pub gps_of : List DirectoryOffset → List ℕ
gps_of directories = flat_map (λ (d : DirectoryOffset). gps_offset d.context d.offset) directories

-- the GPS directories of the data
unfoldable pub visited_gps : List ℕ → List ℕ
visited_gps bytes = gps_of (directory_offsets bytes)

-- without their offsets, the located fields are those that reading gives
abbrev pub LocatesWhatIsRead : List ℕ → Type 0
LocatesWhatIsRead bytes = map (λ (l : Located). l.field) (located bytes) ≡ fields_of (trace bytes)
