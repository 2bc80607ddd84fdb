-- The texts of datasets of IPTC data (IIM 4.2, chapter 6).
use Rattle.std.specs.Prelude.{ℕ, ◌==◌, ◌&&◌, List, [], ◌∷◌, Option, None, Some, if◌then◌else◌}
use Rattle.exif_iptc.specs.Values.{DatasetValue, ValueContent, TextIs, NumberIs, BytesAre}
use Rattle.exif_values.specs.Arrays.{filled, text_or, with_text}

-- a text that is not empty
abbrev pub text_in : ValueContent → Option (List ℕ)
text_in (TextIs text) = filled text
text_in (NumberIs number) = None
text_in (BytesAre bytes) = None

-- the text of a dataset, if it is this one of record 2
abbrev pub dataset_text : ℕ → DatasetValue → Option (List ℕ)
dataset_text number v =
    if (v.dataset.record_number == 2) && (v.dataset.number == number)
    then text_in v.content else None

-- the texts of the datasets of this number
abbrev pub dataset_texts : ℕ → List DatasetValue → List (List ℕ)
dataset_texts number [] = []
dataset_texts number (v ∷ vs) = with_text (dataset_text number v) (dataset_texts number vs)

-- the first of them
abbrev pub first_dataset : ℕ → List DatasetValue → Option (List ℕ)
first_dataset number [] = None
first_dataset number (v ∷ vs) = text_or (dataset_text number v) (first_dataset number vs)
