-- Worked examples: packets that are overwritten.
use Rattle.std.specs.Prelude.{◌≡◌, refl, ◌∷◌, [], codes, replicate, None, Some}
use Rattle.exif_locations.specs.IptcDatasets.{dataset_at, erased_by}
use Rattle.exif_locations.specs.Unread.{blank_packet, iptc_answer}
use Rattle.exif_locations.specs.declared.iptc.fault.Fault.TheVariants.{Cut}
use Rattle.exif_locations.specs.declared.unread.Unread.TheVariants.{Keep, Blank}

-- of 40 bytes, and of 3
long_packet : blank_packet (replicate 40 60) ≡ codes "<x:xmpmeta xmlns:x='adobe:ns:meta/'/>   "
long_packet = refl

short_packet : blank_packet (codes "<a>") ≡ codes "   "
short_packet = refl

-- IPTC data whose dataset is cut off
cut_stays : iptc_answer Keep (28 ∷ 2 ∷ 90 ∷ 0 ∷ 5 ∷ 66 ∷ [])
    ≡ (28 ∷ 2 ∷ 90 ∷ 0 ∷ 5 ∷ 66 ∷ [], Some Cut)
unfolding erased_by dataset_at
cut_stays = refl

cut_is_cleared : iptc_answer Blank (28 ∷ 2 ∷ 90 ∷ 0 ∷ 5 ∷ 66 ∷ [])
    ≡ (0 ∷ 0 ∷ 0 ∷ 0 ∷ 0 ∷ 0 ∷ [], None)
unfolding erased_by dataset_at
cut_is_cleared = refl
