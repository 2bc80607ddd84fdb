-- What holds of the datasets of IPTC data, whatever the bytes are.
use Rattle.std.specs.Prelude.{◌≡◌, ℕ, ◌+◌, ◌≤◌, true, List, [], ◌∷◌, length, drop, Some, None}
use Rattle.exif_iptc.specs.declared.dataset.Dataset.{Dataset}
use Rattle.exif_iptc.specs.declared.fault.Refusal.{Refusal}
use Rattle.exif_iptc.specs.Datasets.{ScanOutcome, all_zero, scan}

-- datasets one after another from an offset on, in data of this length: each has a header of five
-- bytes or more, then its value, and the next one begins where it ends
abbrev pub InOrder : ℕ → ℕ → List Dataset → Type 0
InOrder offset len [] = offset ≤ len
InOrder offset len (d ∷ ds) = (offset + 5 ≤ d.start) × ((d.start ≤ d.end) × InOrder d.end len ds)

-- the end of the last of these datasets
abbrev pub end_of : ℕ → List Dataset → ℕ
end_of offset [] = offset
end_of offset (d ∷ ds) = end_of d.end ds

-- no byte is skipped: the datasets are in order from the first byte on; behind the last one only
-- zeros are left, or it is where the data are refused
pub record CoversAll (input : List ℕ) (s : ScanOutcome) : Type 0 where
  pub in_order : InOrder 0 (length input) s.datasets
  pub zeros : s.refusal ≡ None → all_zero (drop (end_of 0 s.datasets) input) ≡ true
  pub refused : (r : Refusal) → s.refusal ≡ Some r → r.offset ≡ end_of 0 s.datasets

abbrev pub NoByteIsSkipped : Type 0
NoByteIsSkipped = (input : List ℕ) → CoversAll input (scan input)
