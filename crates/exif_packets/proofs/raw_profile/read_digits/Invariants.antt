use Rattle.std.proofs.Common.{◌≡◌, drop}
use Rattle.exif_packets.specs.RawProfiles.{digits_view, no_digits, with_characters}
use Rattle.exif_packets.proofs.raw_profile.read_digits.Given as goal

-- the characters that are left go on with what was read
abbrev pub invariant-loop-character : goal.invariant-loop-character
invariant-loop-character l =
    with_characters (drop l.character-index l.text) (digits_view l.digits)
    ≡ with_characters l.text no_digits
