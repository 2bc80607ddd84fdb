-- What holds of files whose locations were erased.
use Rattle.std.specs.Prelude.{◌≡◌, ℕ, ◌+◌, List, length, slice_index, nat_le, nat_lt, Bool, true, false, ◌&&◌, ◌||◌, Option, None, Some}
use Rattle.std.specs.List.{All, Contains, list_any}
use Rattle.exif_inventory.specs.declared.kind.Kind.{Kind}
use Rattle.exif_inventory.specs.declared.kind.Kind.TheVariants as kind
use Rattle.exif_inventory.specs.declared.part.Part.{Part}
use Rattle.exif_containers.specs.Png.{begins_png}
use Rattle.exif_privacy.specs.Chunks.{in_crc}
use Rattle.exif_privacy.specs.Data.{data_of}
use Rattle.exif_privacy.specs.Erasing.{erased, stays_for}
use Rattle.exif_privacy.specs.Files.{parts_of}
use Rattle.exif_privacy.specs.Judging.{judged}
use Rattle.exif_privacy.specs.Parts.{part_reasons}
use Rattle.exif_privacy.specs.Portions.{is_extended}
use Rattle.exif_privacy.specs.declared.remaining.Remaining.{Remaining}
use Rattle.exif_privacy.specs.declared.remaining.Reason.{Reason}
use Rattle.exif_privacy.specs.declared.remaining.Reason.TheVariants.{GpsVersion, StillThere}
use Rattle.exif_locations.specs.declared.unread.Unread.{Unread}

-- whether a reason is that something would be erased
abbrev pub is_still_there : Reason → Bool
is_still_there StillThere = true
is_still_there GpsVersion = true
is_still_there _ = false

-- whether a part is answered for that
abbrev pub would_change : Remaining → Bool
would_change stays = is_still_there stays.why

-- where no part of an answer would change, the new file erased again is itself, and has the same
-- answer
abbrev pub TwiceIsOnce : Type 0
TwiceIsOnce =
    (unread : Unread) (file new : List ℕ) (stays : List Remaining)
    → erased unread file ≡ (new, Some stays) → list_any would_change stays ≡ false
    → erased unread new ≡ (new, Some stays)

-- each part of the new file is in the answer, for each reason that it has there
abbrev pub LeftIsAnswered : Type 0
LeftIsAnswered =
    (unread : Unread) (file new : List ℕ) (stays : List Remaining) (parts : List Part) (part : Part)
    (whys : List Reason) (why : Reason)
    → erased unread file ≡ (new, Some stays) → parts_of new ≡ Some parts
    → Contains (judged unread new parts) (part, whys) → Contains whys why
    → Contains stays (stays_for part why)

-- these reasons are those of its own data, but for portions of extended XMP packets
abbrev pub ReasonsAreItsOwn : Type 0
ReasonsAreItsOwn =
    (unread : Unread) (file : List ℕ) (parts : List Part) (part : Part)
    → Contains parts part → is_extended part.kind ≡ false
    → Contains (judged unread file parts) (part, part_reasons unread part.kind (data_of part file))

-- whether data of this kind are searched for locations
abbrev pub is_searched : Kind → Bool
is_searched kind.Exif = true
is_searched kind.PhotoshopExif = true
is_searched kind.PhotoshopXmp = true
is_searched kind.Xmp = true
is_searched kind.ExtendedXmp = true
is_searched kind.Iptc = true
is_searched _ = false

-- the data of these parts are
abbrev pub AllSearched : List Part → Type 0
AllSearched parts = All (λ part. is_searched part.kind ≡ true) parts

-- whether a byte is in the data of a part that is searched
abbrev pub may_change : ℕ → Part → Bool
may_change k part =
    is_searched part.kind
    && (nat_le part.data_offset k && nat_lt k (part.data_offset + part.data_len))

-- whether it is, or is one of the last four of a part of a PNG file, which are its CRC
abbrev pub may_be_new : List ℕ → ℕ → Part → Bool
may_be_new file k part = may_change k part || (begins_png file && in_crc k part)

-- a file is as long as before, and each byte that is in no such data is as it was
pub record OthersStay (parts : List Part) (old new : List ℕ) : Type 0 where
  pub long : length new ≡ length old
  pub bytes : (k : ℕ) → list_any (may_change k) parts ≡ false
      → slice_index new k ≡ slice_index old k

-- the same with the CRCs of a PNG file
pub record AllElseStays (parts : List Part) (old new : List ℕ) : Type 0 where
  pub long : length new ≡ length old
  pub bytes : (k : ℕ) → list_any (may_be_new old k) parts ≡ false
      → slice_index new k ≡ slice_index old k

-- the same where it has parts, and else all bytes are
abbrev pub OthersStayIn : Option (List Part) → List ℕ → List ℕ → Type 0
OthersStayIn None old new = new ≡ old
OthersStayIn (Some parts) old new = AllElseStays parts old new
