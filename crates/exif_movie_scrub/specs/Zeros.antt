-- Zeros in place of metadata (ISO/IEC 14496-12:2015, 8.1.2, 8.2.2, 8.3.2, 8.4.2).
use Rattle.std.specs.List.{list_all}
use Rattle.std.specs.Prelude.{ℕ, ◌+◌, ◌-◌, List, ◌++◌, length, take, drop, replicate, slice_index, min, codes, nat_lt, Bool, true, false, ◌&&◌, ◌==◌, Option, Some, None, if◌then◌else◌}
use Rattle.exif_inventory.specs.BoxHeaders.{head_of}
use Rattle.exif_inventory.specs.declared.boxes.Head.{Head}
use Rattle.exif_movie_scrub.specs.declared.zeros.Zeroed.{Zeroed}
use Rattle.exif_movie_scrub.specs.declared.zeros.Zeroed.TheVariants as zeroed

-- bytes with zeros from an offset to another
abbrev pub zeros_in : ℕ → ℕ → List ℕ → List ℕ
zeros_in from end bytes = take from bytes ++ (replicate (end - from) 0 ++ drop end bytes)

-- a box with the type of free space
abbrev pub renamed : List ℕ → List ℕ
renamed bytes = take 4 bytes ++ (codes "free" ++ drop 8 bytes)

-- a box as free space of its size, with zeros behind a header of so many bytes
abbrev pub freed : ℕ → List ℕ → List ℕ
freed front bytes = zeros_in front (length bytes) (renamed bytes)

-- whether the content of a header begins with version 1
abbrev pub is_long : ℕ → List ℕ → Bool
is_long front bytes = nat_lt front (length bytes) && (slice_index bytes front == 1)

-- how many bytes the two dates of a header take: four each, in version 1 eight
abbrev pub dates_len : ℕ → List ℕ → ℕ
dates_len front bytes = if is_long front bytes then 16 else 8

-- where the dates begin, behind version and flags, and where they end, as far as they are there
abbrev pub dates_start : ℕ → List ℕ → ℕ
dates_start front bytes = min (length bytes) (front + 4)

abbrev pub dates_end : ℕ → List ℕ → ℕ
dates_end front bytes = min (length bytes) (front + 4 + dates_len front bytes)

-- a header whose dates are zeros
abbrev pub undated : ℕ → List ℕ → List ℕ
undated front bytes = zeros_in (dates_start front bytes) (dates_end front bytes) bytes

-- a box with this header, with zeros
abbrev pub box_zeroed : Zeroed → Head → List ℕ → List ℕ
box_zeroed zeroed.Nothing head bytes = bytes
box_zeroed zeroed.Content head bytes = freed head.front bytes
box_zeroed zeroed.Dates head bytes = undated head.front bytes

abbrev pub zeroed_by : Zeroed → Option Head → List ℕ → List ℕ
zeroed_by what None bytes = bytes
zeroed_by what (Some head) bytes = box_zeroed what head bytes

-- the bytes of a part with zeros
unfoldable pub with_zeros : Zeroed → List ℕ → List ℕ
with_zeros what bytes = zeroed_by what (head_of bytes) bytes

-- the dates of a header
abbrev pub dates_in : ℕ → List ℕ → List ℕ
dates_in front bytes =
    take (dates_end front bytes - dates_start front bytes) (drop (dates_start front bytes) bytes)

-- whether they are zeros
abbrev pub has_no_dates : ℕ → List ℕ → Bool
has_no_dates front bytes = list_all (λ b. b == 0) (dates_in front bytes)

abbrev pub undated_by : Option Head → List ℕ → Bool
undated_by None bytes = true
undated_by (Some head) bytes = has_no_dates head.front bytes

-- whether the dates of a header are zeros, if it is a whole box
abbrev pub is_undated : List ℕ → Bool
is_undated bytes = undated_by (head_of bytes) bytes

-- whether nothing of a part is left to become zeros
abbrev pub is_done : Zeroed → List ℕ → Bool
is_done zeroed.Nothing bytes = true
is_done zeroed.Content bytes = false
is_done zeroed.Dates bytes = is_undated bytes
