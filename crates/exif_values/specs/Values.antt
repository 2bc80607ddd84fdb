-- What was read of the packets of a picture.
use Rattle.std.specs.Prelude.{ℕ, ◌+◌, nat_lt, List, [], ◌∷◌, ◌++◌, length, map, Option, None, Some, if◌then◌else◌}
use Rattle.exif_iptc.specs.Readings.{ReadOutcome, read_lenient}
use Rattle.exif_iptc.specs.Values.{DatasetValue, value_view}
use Rattle.exif_iptc.specs.declared.fault.Refusal as iptc
use Rattle.exif_xmp.specs.Properties.{PropertyView, property_view}
use Rattle.exif_values.specs.declared.fault.Cause.{Cause}
use Rattle.exif_values.specs.declared.fault.Cause.TheVariants as cause
use Rattle.exif_values.specs.declared.fault.Fault.{Fault}
use Rattle.exif_values.specs.declared.values.Values.{Values}

-- the XMP properties, the IPTC datasets, and what was not read
pub record Found : Type 0 where
  pub xmp : List PropertyView
  pub iptc : List DatasetValue
  pub faults : List Fault

-- that of the program
abbrev pub values_view : Values → Found
values_view v = record {
  xmp = map property_view v.xmp.items;
  iptc = map value_view v.iptc.items;
  faults = v.faults.items;
}

-- nothing yet
abbrev pub nothing : Found
nothing = record { xmp = []; iptc = []; faults = [] }

-- with something that is not read
abbrev pub with_fault : Cause → Option ℕ → Found → Found
with_fault cause offset found = record {
  xmp = found.xmp;
  iptc = found.iptc;
  faults = found.faults ++ record { cause = cause; offset = offset } ∷ [];
}

-- with these properties behind the others
abbrev pub with_more : List PropertyView → Found → Found
with_more properties found =
    record { xmp = found.xmp ++ properties; iptc = found.iptc; faults = found.faults }

-- the same, if there are not too many
abbrev pub with_properties : Option ℕ → List PropertyView → Found → Found
with_properties offset properties found =
    if nat_lt 65535 (length found.xmp + length properties)
    then with_fault cause.TooMany offset found else with_more properties found

-- with these datasets behind the others
abbrev pub with_datasets : List DatasetValue → Found → Found
with_datasets datasets found =
    record { xmp = found.xmp; iptc = found.iptc ++ datasets; faults = found.faults }

-- with why IPTC data are not read to their end, if they are not
abbrev pub with_refusal : Option iptc.Refusal → Option ℕ → Found → Found
with_refusal None offset found = found
with_refusal (Some refusal) offset found = with_fault (cause.Iptc refusal) offset found

-- with the values of IPTC data
abbrev pub with_outcome : ReadOutcome → Option ℕ → Found → Found
with_outcome outcome offset found =
    with_refusal outcome.refusal offset (with_datasets outcome.values found)

abbrev pub with_iptc : Option ℕ → List ℕ → Found → Found
with_iptc offset content found = with_outcome (read_lenient content) offset found
