-- Datasets (IPTC-NAA Information Interchange Model 4.2, section 1.5).
use Rattle.std.specs.Prelude.{ℕ, zero, suc, ◌+◌, ◌-◌, ◌*◌, ◌≤◌, ◌==◌, ◌&&◌, nat_lt, Bool, true, if◌then◌else◌, List, [], ◌∷◌, ◌++◌, length, take, drop, slice_index, Option, Some, None, Result, Ok, Err}
use Rattle.exif_iptc.specs.declared.dataset.Dataset.{Dataset}
use Rattle.exif_iptc.specs.declared.fault.Fault.{Fault}
use Rattle.exif_iptc.specs.declared.fault.Fault.TheVariants.{NoDataset, Cut, TooLong}
use Rattle.exif_iptc.specs.declared.fault.Refusal.{Refusal}
use Rattle.exif_iptc.specs.declared.header.Header.{Header}
use Rattle.exif_iptc.specs.Numbers.{big_endian}

-- all bytes are zero
abbrev pub all_zero : List ℕ → Bool
all_zero [] = true
all_zero (b ∷ bs) = (b == 0) && all_zero bs

-- the dataset at the beginning of the data, whose header and value have these lengths
abbrev pub dataset_of : List ℕ → ℕ → ℕ → Result Header Fault
dataset_of input header_len value_len =
    if nat_lt (length input - header_len) value_len then Err Cut else
    Ok (record {
      record_number = slice_index input 1;
      number = slice_index input 2;
      header_len = header_len;
      len = header_len + value_len;
    })

-- a length of so many bytes behind the five of a header
abbrev pub extended_len : List ℕ → ℕ → ℕ
extended_len input count = big_endian (take count (drop 5 input))

-- a dataset with an extended length of so many bytes
abbrev pub extended_of : List ℕ → ℕ → Result Header Fault
extended_of input count =
    if nat_lt 8 count then Err TooLong else
    (if nat_lt (length input) (5 + count) then Err Cut else
    dataset_of input (5 + count) (extended_len input count))

-- the dataset at the beginning of the data: 28, the numbers of its record and its own, and the
-- length of its value in two bytes, or from 2 ^ 15 on how many bytes of a length follow
unfoldable pub dataset_at : List ℕ → Result Header Fault
dataset_at input =
    if slice_index input 0 == 28
    then (if nat_lt (length input) 5 then Err Cut else
    (if nat_lt (slice_index input 3) 128
    then dataset_of input 5 (256 * slice_index input 3 + slice_index input 4)
    else extended_of input (256 * (slice_index input 3 - 128) + slice_index input 4)))
    else Err NoDataset

-- a dataset has its header, and is in the data
pub record IsWithin (input : List ℕ) (h : Header) : Type 0 where
  pub header : 5 ≤ h.header_len
  pub value : h.header_len ≤ h.len
  pub whole : h.len ≤ length input

-- a dataset, if there is one
abbrev pub some_header : Result Header Fault → Result (Option Header) Fault
some_header (Ok h) = Ok (Some h)
some_header (Err f) = Err f

-- the dataset at the beginning of the data, or none if nothing or only zeros are left
abbrev pub next_at : List ℕ → Result (Option Header) Fault
next_at input = if all_zero input then Ok None else some_header (dataset_at input)

-- a dataset at an offset of the data
abbrev pub placed : ℕ → Header → Dataset
placed offset h = record {
  record_number = h.record_number;
  number = h.number;
  start = offset + h.header_len;
  end = offset + h.len;
}

-- the datasets up to the end of the data or a refusal, and the refusal
pub record ScanOutcome : Type 0 where
  pub datasets : List Dataset
  pub refusal : Option Refusal

-- what follows from the next dataset: the end of the data, a refusal, or what is found behind it
abbrev pub after : ℕ → List Dataset → (Header → ScanOutcome) → Result (Option Header) Fault
    → ScanOutcome
after offset found behind (Ok None) = record { datasets = found; refusal = None }
after offset found behind (Ok (Some h)) = behind h
after offset found behind (Err f) =
    record { datasets = found; refusal = Some (record { fault = f; offset = offset }) }

-- at most n datasets of the data that are left at an offset, behind those that were found
unfoldable pub scan_by : ℕ → ℕ → List Dataset → List ℕ → ScanOutcome
scan_by zero offset found left = record { datasets = found; refusal = None }
scan_by (suc n) offset found left =
    after offset found
    (λ h. scan_by n (offset + h.len) (found ++ placed offset h ∷ []) (drop h.len left))
    (next_at left)

-- the datasets of IPTC data; zeros may follow them. Each has five bytes or more, so there are fewer
-- of them than bytes
abbrev pub scan : List ℕ → ScanOutcome
scan input = scan_by (length input) 0 [] input

-- what was read, if nothing is refused
abbrev pub all_read : {A : Type 0} → A → Option Refusal → Result A Refusal
all_read x None = Ok x
all_read x (Some r) = Err r

-- the datasets of data in which nothing is refused
abbrev pub datasets : List ℕ → Result (List Dataset) Refusal
datasets input = let s = scan input in all_read s.datasets s.refusal

-- the value of a dataset
abbrev pub value_bytes : List ℕ → Dataset → List ℕ
value_bytes input d = take (d.end - d.start) (drop d.start input)
