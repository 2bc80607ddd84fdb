-- The offsets that were noted are found.
use Rattle.std.proofs.Common.{◌≡◌, ℕ, List, ap, ◌∙◌}
use Rattle.exif_tiff.specs.Trace.{trace}
use Rattle.exif_tiff.specs.Noted.{Noted, TellsOffsets}
use Rattle.exif_edit_base.specs.Locations.{directory_offsets, gps_of, visited_gps, located}
use Rattle.exif_edit_base.specs.Walked.{Finds}

-- the offsets noted of a trace, and the GPS ones among them, are those that the data have
pub found : (bytes : List ℕ) (p : Noted) (gps : List ℕ) → TellsOffsets (trace bytes) p
    → gps ≡ gps_of p.directories
    → Finds bytes (record { entries = p.entries; gps = gps; directories = p.directories })
unfolding located directory_offsets visited_gps
found bytes p gps t g = record {
  entries = t.entries;
  gps = g ∙ ap gps_of t.directories;
  directories = t.directories;
}
