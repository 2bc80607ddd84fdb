-- Worked examples, by bytes written by hand.
use Rattle.std.specs.Prelude.{◌≡◌, refl, ℕ, List, [], ◌∷◌, ◌++◌, codes, Some, Ok, Err}
use Rattle.exif_inventory.specs.JpegPieces.{between_piece, stream_piece}
use Rattle.exif_inventory.specs.Walks.{walked}
use Rattle.exif_blocks.specs.PutViews.{plain}
use Rattle.exif_blocks.specs.declared.blocks.Container.TheVariants.{Jpeg}
use Rattle.exif_copy.specs.Packets.{no_packet, no_source, xmp_of}
use Rattle.exif_copy.specs.Profiles.{broken_profile, profile_of}

-- ---- JPEG files

-- a file with Exif data, and two segments of a profile
abbrev two_segments : List ℕ
two_segments =
    255 ∷ 216 ∷ 255 ∷ 225 ∷ 0 ∷ 8 ∷ (codes "Exif\0\0" ++ 255 ∷ 226 ∷ 0 ∷ 17
    ∷ (codes "ICC_PROFILE\0\u{1}\u{2}a" ++ 255 ∷ 226 ∷ 0 ∷ 17
    ∷ (codes "ICC_PROFILE\0\u{2}\u{2}b" ++ 255 ∷ 217 ∷ [])))

two_read : profile_of (Some Jpeg) two_segments ≡ Ok (plain (codes "ab"))
unfolding walked between_piece stream_piece
two_read = refl

-- the second one alone
abbrev second_only : List ℕ
second_only =
    255 ∷ 216 ∷ 255 ∷ 226 ∷ 0 ∷ 17 ∷ (codes "ICC_PROFILE\0\u{2}\u{2}b" ++ 255 ∷ 217 ∷ [])

one_missing : profile_of (Some Jpeg) second_only ≡ Err broken_profile
unfolding walked between_piece stream_piece
one_missing = refl

no_packet_read : xmp_of two_segments ≡ Err no_packet
unfolding walked between_piece stream_piece
no_packet_read = refl

tiff : xmp_of (codes "II*\0") ≡ Err no_source
tiff = refl
