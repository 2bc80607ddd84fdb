-- The boxes of a file (ISO/IEC 14496-12:2015, 4.2, 4.3, 8.11.1; ISO/IEC 23008-12:2017, B.4).
use Rattle.std.specs.Prelude.{◌≡◌, ℕ, ◌++◌, ◌^◌, ◌||◌, Bool, false, nat_lt, nat_le, if◌then◌else◌, List, [], ◌∷◌, length, take, drop, Some, None, unwrap_or, Result, Ok, Err, codes}
use Rattle.std.specs.Str.{bytes_eq}
use Rattle.std.specs.List.{find, list_any}
use Rattle.exif_isobmff.specs.declared.kind.Kind.{Kind}
use Rattle.exif_isobmff.specs.declared.kind.Kind.TheVariants.{FileType, Meta}
use Rattle.exif_isobmff.specs.declared.splitter.Header.{Header}
use Rattle.exif_isobmff.specs.Kinds.{same_kind}
use Rattle.exif_types.specs.Refusals.{Refusal, ◌>>=◌, all_pass, or_refuse, Front}
use Rattle.exif_isobmff.specs.HeifRefusals.{broken_file, seek_too_large, no_brand, too_small, meta_before_ftyp, no_exif}
use Rattle.exif_isobmff.specs.Boxes.{Part, Parts, header_len, header_at, all_boxes, children}

-- a box at the front of a file, with its body as far as it is there
unfoldable pub file_box_at : List ℕ → Front Part
file_box_at file = if nat_le (header_len file) (length file) then (do
  header ← header_at file
  Ok (
    record { kind = header.0.kind; len = header.0.len; body = take header.0.len header.1 },
    drop header.0.len header.1,
  )) else Err broken_file

-- the boxes of a file
abbrev pub file_boxes : List ℕ → Parts
file_boxes file = all_boxes file_box_at file

-- the texts of 4 bytes, one after the other
abbrev pub fours : List ℕ → List (List ℕ)
fours (a ∷ b ∷ c ∷ d ∷ text) = (a ∷ b ∷ c ∷ d ∷ []) ∷ fours text
fours text = []

-- whether a brand is one of HEIF
abbrev pub is_heif_brand : List ℕ → Bool
is_heif_brand brand = bytes_eq brand (codes "mif1") || bytes_eq brand (codes "msf1")

-- the brands of `ftyp` are behind 8 bytes
abbrev pub has_heif_brand : List ℕ → Bool
has_heif_brand body = list_any is_heif_brand (fours (drop 8 body))

-- whether `ftyp` has a brand
abbrev pub brand_checked : List ℕ → Result (Unit {0}) Refusal
brand_checked body =
    if nat_lt (length body) 8 then Err too_small else
    (if has_heif_brand body then Ok tt else Err no_brand)

-- whether a box is a `meta`
abbrev pub is_meta : Part → Bool
is_meta p = same_kind Meta p.kind

-- whether a box is an `ftyp`
abbrev pub is_ftyp : Part → Bool
is_ftyp p = same_kind FileType p.kind

-- a body that is to be whole
abbrev pub whole : ℕ → List ℕ → Result (List ℕ) Refusal
whole len body = if nat_lt (length body) len then Err broken_file else Ok body

-- a box before `meta`, of this type, length and body: an `ftyp` has a brand, any other is passed
-- over, also past the end
abbrev pub checked : Kind → ℕ → List ℕ → Result (Unit {0}) Refusal
checked kind len body =
    if same_kind FileType kind then whole len body >>= brand_checked else
    (if nat_le (2 ^ 63) len then Err seek_too_large else Ok tt)

-- the boxes before the first `meta`
abbrev pub before_meta : List Part → List Part
before_meta [] = []
before_meta (p ∷ ps) = if is_meta p then [] else p ∷ before_meta ps

-- the body of the first `meta` of the boxes that are left, which is behind an `ftyp`, seen
-- before these or among them
abbrev pub meta_from : Bool → Parts → Result (List ℕ) Refusal
meta_from seen parts = do
  let front = before_meta parts.whole
  passed ← all_pass (λ p. checked p.kind p.len p.body) front
  meta ← or_refuse (find is_meta parts.whole) (unwrap_or parts.fault no_exif)
  if seen || list_any is_ftyp front then whole meta.len meta.body else Err meta_before_ftyp

-- the same of the bytes that are left
abbrev pub meta_in : Bool → List ℕ → Result (List ℕ) Refusal
meta_in seen rest = meta_from seen (file_boxes rest)

-- the body of the first `meta`, which is behind an `ftyp`
unfoldable pub meta_body : List ℕ → Result (List ℕ) Refusal
meta_body file = meta_in false file

-- bytes of a HEIF file: boxes, each whole, up to a first `ftyp` that has a brand
unfoldable pub begins_heif : List ℕ → Bool
begins_heif bytes = elim (find is_ftyp (children bytes).whole) [
  | Some p ↦ has_heif_brand p.body
  | None ↦ false
]

-- whether a box of the file passed, and an `ftyp` was seen
abbrev pub passed : Bool → Kind → ℕ → List ℕ → Result Bool Refusal
passed seen kind len body = checked kind len body >>= λ u. Ok (same_kind FileType kind || seen)

-- these bytes are the header of a box of a file, whatever follows
abbrev pub IsHeaderOf : Header → List ℕ → Type 0
IsHeaderOf h bytes = (more : List ℕ) → file_box_at (bytes ++ more)
    ≡ Ok (record { kind = h.kind; len = h.len; body = take h.len more }, drop h.len more)
