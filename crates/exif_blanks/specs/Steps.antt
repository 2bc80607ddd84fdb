-- Bytes without their metadata, step after step.
use Rattle.std.specs.Prelude.{ℕ, zero, suc, ◌-◌, min, max, List, [], ◌∷◌, ◌++◌, length, take, drop, replicate}
use Rattle.exif_blanks.specs.BaseSteps.{front, whole}
use Rattle.exif_blanks.specs.HeifSteps.{associations_step, box_step, entry_step, group_step, list_step, locations_step, name_step, obus_step, property_step, references_step, text_step, units_step}
use Rattle.exif_blanks.specs.JpegStreams.{start_step, stream_step}
use Rattle.exif_blanks.specs.declared.steps.Place.{Place}
use Rattle.exif_blanks.specs.declared.steps.Place.TheVariants.{Associations, Box, Boxes, Entries, Groups, Locations, Name, Obus, Properties, References, Rest, Start, Stream, Texts, Units, Zeros}
use Rattle.exif_blanks.specs.declared.steps.Step.{Step}

-- what becomes of the bytes at the front, by what they are
abbrev pub place_step : Place → List ℕ → Step
place_step Start bytes = start_step bytes
place_step (Stream scanned) bytes = stream_step scanned bytes
place_step Box bytes = box_step bytes
place_step Boxes bytes = list_step bytes
place_step (Properties space) bytes = property_step space bytes
place_step (Units units) bytes = units_step units bytes
place_step (Obus obus) bytes = obus_step obus bytes
place_step Groups bytes = group_step bytes
place_step Entries bytes = entry_step bytes
place_step (Name entry) bytes = name_step entry bytes
place_step (Texts entry) bytes = text_step entry bytes
place_step (Associations found) bytes = associations_step found bytes
place_step (References wide) bytes = references_step wide bytes
place_step (Locations found) bytes = locations_step found bytes
place_step Zeros bytes = front 0 (length bytes) Rest
place_step Rest bytes = whole (length bytes) Rest

-- a step among so many bytes: it takes one at least, and no more than there are
abbrev pub fitted_len : ℕ → ℕ → ℕ
fitted_len len all = max 1 (min len all)

abbrev pub fitted : ℕ → Step → Step
fitted all step = record {
  len = fitted_len step.len all;
  kept = min step.kept (fitted_len step.len all);
  fill = step.fill;
  next = step.next;
}

abbrev pub step_of : Place → List ℕ → Step
step_of place bytes = fitted (length bytes) (place_step place bytes)

-- bytes after at most n steps; what does not stay becomes zeros, or spaces
unfoldable pub bared_from : ℕ → Place → List ℕ → List ℕ
bared_from n place [] = []
bared_from zero place (b ∷ bytes) = b ∷ bytes
bared_from (suc n) place (b ∷ bytes) =
    let step = step_of place (b ∷ bytes) in
    take step.kept (b ∷ bytes) ++ (replicate (step.len - step.kept) step.fill
    ++ bared_from n step.next (drop (step.len - 1) bytes))

-- bytes without their metadata, by what they are
abbrev pub bared : Place → List ℕ → List ℕ
bared place bytes = bared_from (length bytes) place bytes
