-- Datasets (IPTC-NAA Information Interchange Model 4, 1.6), and the locations among them.
use Rattle.std.specs.Prelude.{ℕ, zero, suc, ◌+◌, ◌-◌, ◌*◌, ◌==◌, ◌&&◌, ◌||◌, nat_lt, nat_le, Bool, true, false, if◌then◌else◌, List, [], ◌∷◌, ◌++◌, length, take, drop, replicate, slice_index, Result, Ok, Err}
use Rattle.exif_locations.specs.declared.iptc.fault.Fault.{Fault}
use Rattle.exif_locations.specs.declared.iptc.fault.Fault.TheVariants.{NoDataset, Extended, Cut}
use Rattle.exif_locations.specs.declared.iptc.dataset.Dataset.{Dataset}
use Rattle.exif_locations.specs.IptcNumbers.{location_numbers}
use Rattle.exif_locations.specs.Words.{is_among}

-- a step, and then the next, unless it is refused
infixl 10 ◌>>=◌
abbrev pub ◌>>=◌ : {A B : Type 0} → Result A Fault → (A → Result B Fault) → Result B Fault
(Ok x) >>= f = f x
(Err e) >>= f = Err e

-- a dataset of a record and with a number is that of a location
abbrev pub is_location : ℕ → ℕ → Bool
is_location record_number number = (record_number == 2) && is_among location_numbers number

-- all bytes are zero
abbrev pub all_zero : List ℕ → Bool
all_zero [] = true
all_zero (b ∷ bs) = (b == 0) && all_zero bs

-- a dataset of so many bytes, of an input of n
abbrev pub dataset_of : ℕ → ℕ → Bool → Result Dataset Fault
dataset_of n len location = if nat_lt n len then Err Cut else Ok (record { len = len; location = location })

-- the dataset at the front of a input
unfoldable pub dataset_at : List ℕ → Result Dataset Fault
dataset_at input =
    if slice_index input 0 == 28
    then (if nat_lt (length input) 5 then Err Cut else
    (if nat_le 128 (slice_index input 3) then Err Extended else
    dataset_of (length input) (5 + 256 * slice_index input 3 + slice_index input 4)
    (is_location (slice_index input 1) (slice_index input 2))))
    else Err NoDataset

-- bytes, and what is made of those behind them
abbrev pub behind : List ℕ → Result (List ℕ) Fault → Result (List ℕ) Fault
behind front (Ok rest) = Ok (front ++ rest)
behind front (Err e) = Err e

-- one of two holds
abbrev pub either : Bool → Result Bool Fault → Result Bool Fault
either b (Ok more) = Ok (b || more)
either b (Err e) = Err e

-- what becomes of a dataset: its front and spaces, or the dataset
abbrev pub chunk : Dataset → List ℕ → List ℕ
chunk d input = if d.location then take 5 input ++ replicate (d.len - 5) 32 else take d.len input

-- data of at most n datasets, with spaces for each value that is of a location; zeros may follow
-- them
unfoldable pub erased_by : ℕ → List ℕ → Result (List ℕ) Fault
erased_by n [] = Ok []
erased_by zero (b ∷ bs) = Err Cut
erased_by (suc n) (b ∷ bs) =
    if b == 0 then (if all_zero (b ∷ bs) then Ok (b ∷ bs) else Err NoDataset) else
    (dataset_at (b ∷ bs) >>= λ d. behind (chunk d (b ∷ bs)) (erased_by n (drop d.len (b ∷ bs))))

-- the data without their locations; each dataset has a byte
abbrev pub erased : List ℕ → Result (List ℕ) Fault
erased input = erased_by (length input) input

-- whether data of at most n datasets have one that is of a location
unfoldable pub found_by : ℕ → List ℕ → Result Bool Fault
found_by n [] = Ok false
found_by zero (b ∷ bs) = Err Cut
found_by (suc n) (b ∷ bs) =
    if b == 0 then (if all_zero (b ∷ bs) then Ok false else Err NoDataset) else
    (dataset_at (b ∷ bs) >>= λ d. either d.location (found_by n (drop d.len (b ∷ bs))))

-- whether data have a dataset that is of a location
abbrev pub found : List ℕ → Result Bool Fault
found input = found_by (length input) input

-- whether each value of a location is spaces, in data of at most n datasets
abbrev pub all_spaces : List ℕ → Bool
all_spaces [] = true
all_spaces (b ∷ bs) = (b == 32) && all_spaces bs

unfoldable pub blank_by : ℕ → List ℕ → Result Bool Fault
blank_by n [] = Ok true
blank_by zero (b ∷ bs) = Err Cut
blank_by (suc n) (b ∷ bs) =
    if b == 0 then (if all_zero (b ∷ bs) then Ok true else Err NoDataset) else
    (dataset_at (b ∷ bs) >>= λ d. (blank_by n (drop d.len (b ∷ bs)) >>= λ more.
    Ok ((if d.location then all_spaces (take (d.len - 5) (drop 5 (b ∷ bs))) else true) && more)))
