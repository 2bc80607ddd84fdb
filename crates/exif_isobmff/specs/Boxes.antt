-- Boxes (ISO/IEC 14496-12:2015, 4.2).
use Rattle.std.specs.Prelude.{ℕ, zero, suc, ◌-◌, ◌==◌, ◌&&◌, Bool, not, nat_lt, nat_le, if◌then◌else◌, List, [], ◌∷◌, length, take, drop, slice_index, map, Option, Some, None, Result, Ok, Err}
use Rattle.std.specs.List.{filter, flat_map}
use Rattle.byteorder.specs.Endian.{big_number}
use Rattle.exif_isobmff.specs.declared.kind.Kind.{Kind}
use Rattle.exif_isobmff.specs.declared.splitter.Header.{Header}
use Rattle.exif_isobmff.specs.Kinds.{kind_of, same_kind}
use Rattle.exif_types.specs.Refusals.{Refusal, ◌>>=◌, joined, last_read, unless_refused, Front}
use Rattle.exif_isobmff.specs.HeifRefusals.{too_small, invalid_size}

-- the first n bytes
abbrev pub bytes_at : ℕ → List ℕ → Front (List ℕ)
bytes_at n text = if nat_lt (length text) n then Err too_small else Ok (take n text, drop n text)

-- passing over the first n bytes
abbrev pub pass_at : ℕ → List ℕ → Front (Unit {0})
pass_at n text = if nat_lt (length text) n then Err too_small else Ok (tt, drop n text)

-- the number in the first n bytes
abbrev pub number_at : ℕ → List ℕ → Front ℕ
number_at n text =
    if nat_lt (length text) n then Err too_small else Ok (big_number n text, drop n text)

-- the version of a full box: a byte, with 3 bytes of flags behind it
abbrev pub version_at : List ℕ → Front ℕ
version_at text =
    if nat_lt (length text) 4 then Err too_small else Ok (slice_index text 0, drop 4 text)

-- n values one after the other
unfoldable pub times : {A : Type 0} → ℕ → (List ℕ → Front A) → List ℕ → Front (List A)
times zero value text = Ok ([], text)
times (suc n) value text = do
  x ← value text
  xs ← times n value x.1
  Ok (x.0 ∷ xs.0, xs.1)

-- what n values one after the other give, joined
abbrev pub times_joined : {A : Type 0} → ℕ → (List ℕ → Front (List A)) → List ℕ
    → Result (List A) Refusal
times_joined n value text = do
  found ← times n value text
  Ok (flat_map (λ xs. xs) found.0)

-- a box: its type, how many bytes its body takes, and these as far as they are in the text
pub record Part : Type 0 where
  pub kind : Kind
  pub len : ℕ
  pub body : List ℕ

-- a box whose body is whole
abbrev pub whole_part : Kind → List ℕ → Part
whole_part kind body = record { kind = kind; len = length body; body = body }

-- the size of a box: 0 runs to the end of the text, 1 is a size of 8 bytes behind the type
abbrev pub box_size : List ℕ → ℕ
box_size text =
    let size = big_number 4 text in
    if size == 0 then length text else (if size == 1 then big_number 8 (drop 8 text) else size)

-- a box says its size, and does not run to the end of the text
abbrev pub sizes_itself : List ℕ → Bool
sizes_itself text = nat_le 4 (length text) && not (big_number 4 text == 0)

-- how many bytes of it are size and type
abbrev pub header_len : List ℕ → ℕ
header_len text = if big_number 4 text == 1 then 16 else 8

-- a header at the front of a text that has a whole one
unfoldable pub header_at : List ℕ → Front Header
header_at text =
    if nat_lt (box_size text) (header_len text) then Err invalid_size else
    Ok (
      record { kind = kind_of (take 4 (drop 4 text)); len = box_size text - header_len text },
      drop (header_len text) text,
    )

-- a box at the front of a text
unfoldable pub box_at : List ℕ → Front Part
box_at text = if nat_le (header_len text) (length text) then (do
  header ← header_at text
  body ← bytes_at header.0.len header.1
  Ok (whole_part header.0.kind body.0, body.1)) else Err too_small

-- boxes one after the other, and what ends them early
pub record Parts : Type 0 where
  pub whole : List Part
  pub fault : Option Refusal

-- no boxes, and nothing wrong
abbrev pub none : Parts
none = record { whole = []; fault = None }

-- no boxes, since this is wrong
abbrev pub ended : Refusal → Parts
ended r = record { whole = []; fault = Some r }

-- a box, and those behind it
abbrev pub before : Part → Parts → Parts
before p ps = record { whole = p ∷ ps.whole; fault = ps.fault }

-- a box that was read and those of the text after it, or why there are no more
abbrev pub and_then : Front Part → (List ℕ → Parts) → Parts
and_then (Ok p) others = before p.0 (others p.1)
and_then (Err r) others = ended r

-- the first n boxes of a text
unfoldable pub boxes : ℕ → List ℕ → Parts
boxes zero text = none
boxes (suc n) text = and_then (box_at text) (boxes n)

-- the boxes that fill a text, each read by `box`, of which there are at most n
abbrev pub filling : (List ℕ → Front Part) → ℕ → List ℕ → Parts
filling box zero text = none
filling box (suc n) [] = none
filling box (suc n) (b ∷ text) = and_then (box (b ∷ text)) (filling box n)

-- the boxes that fill a text; each has a byte
unfoldable pub all_boxes : (List ℕ → Front Part) → List ℕ → Parts
all_boxes box text = filling box (length text) text

-- the boxes in the body of a box
abbrev pub children : List ℕ → Parts
children text = all_boxes box_at text

-- the bodies of the boxes of a type
abbrev pub bodies : Kind → Parts → List (List ℕ)
bodies kind parts = map (λ p. p.body) (filter (λ p. same_kind kind p.kind) parts.whole)

-- what `read` gives for a box, where it has the type
abbrev pub read_one : {A : Type 0} → Kind → (List ℕ → Result (List A) Refusal) → Part
    → Result (List A) Refusal
read_one kind read p = if same_kind kind p.kind then read p.body else Ok []

-- what `read` gives for the boxes of a type, where they are, joined, or the first refusal
abbrev pub read_each : {A : Type 0} → Kind → (List ℕ → Result (List A) Refusal) → Parts
    → Result (List A) Refusal
read_each kind read parts = do
  found ← joined read (bodies kind parts)
  whole ← unless_refused parts.fault
  Ok found

-- the last of what `read` gives for the boxes of a type among the first n, or the one from before
abbrev pub from_count : {A : Type 0} → Kind → (List ℕ → Result (List A) Refusal) → Option A → ℕ
    → List ℕ → Result (Option A) Refusal
from_count kind read found n text = last_read found (read_each kind read (boxes n text))
