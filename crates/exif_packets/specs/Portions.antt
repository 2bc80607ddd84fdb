-- The portions of a long XMP packet in a JPEG file (XMP part 3, 1.1.3.1): each has an identifier of
-- 32 bytes, the length of the whole and its own offset in that, of 4 bytes each, and its bytes.
use Rattle.std.specs.Prelude.{◌≡◌, ℕ, ◌==◌, ◌&&◌, ◌||◌, not, nat_le, Bool, true, false, List, [], ◌∷◌, ◌++◌, length, take, drop, Result, Ok, Err, if◌then◌else◌}
use Rattle.std.specs.Str.{bytes_eq}
use Rattle.byteorder.specs.Endian.{big_number}
use Rattle.exif_base.specs.Bytes.{number_at}
use Rattle.exif_packets.specs.Packets.{content_of}
use Rattle.exif_packets.specs.declared.packet.Form.{Form}
use Rattle.exif_packets.specs.declared.packet.Form.TheVariants.{Xmp, XmpPortion, Iptc}
use Rattle.exif_packets.specs.declared.packet.Packet.{Packet}
use Rattle.exif_packets.specs.declared.portion.JoinError.{JoinError}
use Rattle.exif_packets.specs.declared.portion.JoinError.TheVariants.{Missing, OutOfMemory}
use Rattle.exif_packets.specs.declared.portion.Prefix.{Prefix}

-- what is joined so far: how many bytes the whole has, and the first of them
pub record Whole : Type 0 where
  pub total : ℕ
  pub bytes : List ℕ

-- that of the program
abbrev pub prefix_view : Prefix → Whole
prefix_view joined = record { total = joined.total; bytes = joined.bytes.items }

-- what a function returned is this, seen by a view, or the offset of the first byte that is missing,
-- unless memory ran out
abbrev pub Fails : {Y : Type 0} → JoinError → Result Y ℕ → Type 0
Fails (Missing at) wanted = wanted ≡ Err at
Fails OutOfMemory wanted = Unit {0}

abbrev pub Joins : {X Y : Type 0} → (X → Y) → Result X JoinError → Result Y ℕ → Type 0
Joins view (Ok x) wanted = wanted ≡ Ok (view x)
Joins view (Err e) wanted = Fails e wanted

-- one step after another: the first byte that is missing is the answer
infixl 10 ◌>>=◌
abbrev pub ◌>>=◌ : {A B : Type 0} → Result A ℕ → (A → Result B ℕ) → Result B ℕ
(Ok x) >>= f = f x
(Err at) >>= f = Err at

-- nothing yet
abbrev pub nothing : Whole
nothing = record { total = 0; bytes = [] }

-- whether a portion is one of the packet with this identifier
abbrev pub belongs : List ℕ → List ℕ → Bool
belongs id content = nat_le 40 (length content) && bytes_eq (take 32 content) id

-- the length of the whole, and the offset in it
abbrev pub total_of : List ℕ → ℕ
total_of content = number_at big_number 4 content 32

abbrev pub offset_of : List ℕ → ℕ
offset_of content = number_at big_number 4 content 36

-- whether a portion comes next: it begins where the bytes before it end, and has the same total
abbrev pub comes_next : List ℕ → Whole → Bool
comes_next content whole =
    (offset_of content == length whole.bytes)
    && ((length whole.bytes == 0) || (total_of content == whole.total))

-- what is joined, with the bytes of a portion behind it
abbrev pub extended : List ℕ → Whole → Whole
extended content whole =
    record { total = total_of content; bytes = whole.bytes ++ drop 40 content }

-- the same, if the portion comes next
abbrev pub added : List ℕ → Whole → Result Whole ℕ
added content whole =
    if comes_next content whole then Ok (extended content whole) else Err (length whole.bytes)

-- whether packets of this form are portions
abbrev pub is_portion : Form → Bool
is_portion XmpPortion = true
is_portion Xmp = false
is_portion Iptc = false

-- the same, if it is a portion of the packet with this identifier
abbrev pub if_portion : List ℕ → List ℕ → Packet → Whole → Result Whole ℕ
if_portion file id packet whole =
    if is_portion packet.form && belongs id (content_of packet file)
    then added (content_of packet file) whole else Ok whole

-- with all portions, in the order of the file
abbrev pub with_portions : List ℕ → List ℕ → List Packet → Whole → Result Whole ℕ
with_portions file id [] whole = Ok whole
with_portions file id (packet ∷ packets) whole =
    if_portion file id packet whole >>= λ next. with_portions file id packets next

-- the packet, if all of it is there
abbrev pub finished : Whole → Result (List ℕ) ℕ
finished whole =
    if (length whole.bytes == 0) || not (length whole.bytes == whole.total)
    then Err (length whole.bytes) else Ok whole.bytes

-- the packet with this identifier
abbrev pub joined : List ℕ → List Packet → List ℕ → Result (List ℕ) ℕ
joined file packets id = with_portions file id packets nothing >>= finished
