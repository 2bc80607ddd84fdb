-- What holds of files in which values were set.
use Rattle.std.specs.Prelude.{◌≡◌, ℕ, List, Result, Ok, Err}
use Rattle.exif_types.specs.Refusals.{Refusal}
use Rattle.exif_types.specs.declared.field.Field.{Field}
use Rattle.exif_containers.specs.declared.container.Format.{Format}
use Rattle.exif_containers.specs.declared.container.Format.TheVariants.{Tiff, Jpeg, Heif, WebP}
use Rattle.exif_tiff.specs.Trace.{faults_of, fields_of, trace}
use Rattle.exif_edit_base.specs.Rereading.{without_entry_offsets}
use Rattle.exif_grow.specs.FieldPromises.{AreSet, unset}

-- an answer gives data in which these fields are set, and all else is as in the old data
abbrev pub GivesSet : List Field → List ℕ → Result (List ℕ) Refusal → Type 0
GivesSet fields old (Ok new) = AreSet fields old new
GivesSet fields old (Err refusal) = ⊥

-- the same of a new file of a format, whose container gives this answer; TIFF data are the file
abbrev pub HoldsSet : Format → List Field → List ℕ → List ℕ → Result (List ℕ) Refusal → Type 0
HoldsSet Tiff fields old file answer = AreSet fields old file
HoldsSet Jpeg fields old file answer = GivesSet fields old answer
HoldsSet Heif fields old file answer = GivesSet fields old answer
HoldsSet WebP fields old file answer = GivesSet fields old answer

-- all fields but those of these names are as they were, but for the offsets of values in their
-- entries, and so are the faults
pub record KeepsOthers (sets : List Field) (old new : List ℕ) : Type 0 where
  pub faults : faults_of (trace new) ≡ faults_of (trace old)
  pub others : without_entry_offsets (unset sets (fields_of (trace new)))
      ≡ without_entry_offsets (unset sets (fields_of (trace old)))

-- an answer gives data that keep all other fields
abbrev pub GivesOthers : List Field → List ℕ → Result (List ℕ) Refusal → Type 0
GivesOthers sets old (Ok new) = KeepsOthers sets old new
GivesOthers sets old (Err refusal) = ⊥

-- the same of a new file of a format, whose container gives this answer; TIFF data are the file
abbrev pub HoldsOthers : Format → List Field → List ℕ → List ℕ → Result (List ℕ) Refusal → Type 0
HoldsOthers Tiff sets old file answer = KeepsOthers sets old file
HoldsOthers Jpeg sets old file answer = GivesOthers sets old answer
HoldsOthers Heif sets old file answer = GivesOthers sets old answer
HoldsOthers WebP sets old file answer = GivesOthers sets old answer
