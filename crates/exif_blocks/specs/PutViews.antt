-- What is put into a file: an XMP packet, or a colour profile.
use Rattle.std.specs.Prelude.{ℕ, List, [], ◌∷◌, Result, Ok, Err}
use Rattle.exif_types.specs.Refusals.{Refusal}
use Rattle.exif_blocks.specs.PutRefusals.{no_extension}
use Rattle.exif_blocks.specs.declared.blocks.Profile.{Profile as Lent}
use Rattle.exif_blocks.specs.declared.blocks.Profile.TheVariants as lent
use Rattle.exif_blocks.specs.declared.blocks.Xmp.{Xmp}

-- a packet, and the segments of a JPEG file that go on with it
pub record Packet : Type 0 where
  pub packet : List ℕ
  pub extension : List ℕ

-- those of the program
abbrev pub packet_view : Xmp → Packet
packet_view xmp = record { packet = xmp.packet.items; extension = xmp.extension.items }

-- a packet that is in one segment, chunk or box
abbrev pub packet_alone : Packet → Result (List ℕ) Refusal
packet_alone xmp = elim xmp.extension [
  | [] ↦ Ok xmp.packet
  | (_ ∷ _) ↦ Err no_extension
]

-- a profile: its bytes, or a name and the bytes compressed
pub data Profile : Type 0 where
  plain : List ℕ → Profile
  compressed : List ℕ → Profile

-- that of the program
abbrev pub profile_view : Lent → Profile
profile_view (lent.Plain bytes) = plain bytes.items
profile_view (lent.Compressed bytes) = compressed bytes.items
