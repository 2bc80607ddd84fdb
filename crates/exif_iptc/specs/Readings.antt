-- All values of IPTC data.
use Rattle.std.specs.Prelude.{ℕ, List, map, Option, Result}
use Rattle.exif_iptc.specs.declared.charset.Charset.{Charset}
use Rattle.exif_iptc.specs.declared.fault.Refusal.{Refusal}
use Rattle.exif_iptc.specs.declared.reading.Reading.{Reading}
use Rattle.exif_iptc.specs.Charsets.{charset_of}
use Rattle.exif_iptc.specs.Datasets.{all_read, scan}
use Rattle.exif_iptc.specs.Values.{DatasetValue, value_of, value_view}

-- the values up to the end of the data or a refusal, their character set, and the refusal
pub record ReadOutcome : Type 0 where
  pub values : List DatasetValue
  pub charset : Charset
  pub refusal : Option Refusal

abbrev pub read_lenient : List ℕ → ReadOutcome
read_lenient input =
    let s = scan input in
    let charset = charset_of input s.datasets in
    record {
      values = map (value_of input charset) s.datasets;
      charset = charset;
      refusal = s.refusal;
    }

-- the values of data in which nothing is refused
abbrev pub read : List ℕ → Result (List DatasetValue) Refusal
read input = let r = read_lenient input in all_read r.values r.refusal

abbrev pub reading_view : Reading → ReadOutcome
reading_view r = record {
  values = map value_view r.values.items;
  charset = r.charset;
  refusal = r.refusal;
}
