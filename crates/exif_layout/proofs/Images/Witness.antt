-- The premises of the laws of images and of scrubbing can be met: a worked example meets them.
use Rattle.std.proofs.Common.{◌≢◌, [], ◌∷◌, arith}
use Rattle.std.proofs.lemmas.List.Elements.{All-from_recursion}
use Rattle.std.specs.Prelude.{codes}
use Rattle.std.specs.List.{All}
use Rattle.exif_base.specs.declared.endian.Order.{Order}
use Rattle.exif_base.specs.declared.endian.Order.TheVariants.{Big}
use Rattle.exif_types.specs.Sound.{IsRead}
use Rattle.exif_layout.specs.Ranged.{AreRanged, AreReadable}
use Rattle.exif_layout.specs.Pushing.{IsFieldRanged}
use Rattle.exif_layout.specs.Scrubbing.{kept, scrubbed, IsScrubbed}
use Rattle.exif_layout.specs.ImageExamples.{a_picture, a_picture_written}
use Rattle.exif_layout.proofs.Images.Pushed.{pushes_ranged}
use Rattle.exif_layout.proofs.Images.Scrubbed.{scrubs}

plain_word : All (λ b. b ≢ 0) (codes "Sample")
plain_word = All-from_recursion (λ b. b ≢ 0) (codes "Sample") (omega arith, (omega arith, (omega arith, (omega arith, (omega arith, (omega arith, tt))))))

picture_read : All IsRead a_picture
picture_read =
    All-from_recursion IsRead a_picture (
      record { plain = tt; number = omega arith },
      (
        record { plain = tt; number = omega arith },
        (
          record { plain = tt; number = omega arith },
          (record { plain = All-from_recursion (All (λ b. b ≢ 0)) (codes "Sample" ∷ []) (plain_word, tt); number = omega arith }, tt),
        ),
      ),
    )

picture_ranged : AreRanged (scrubbed a_picture)
picture_ranged =
    pushes_ranged (kept a_picture) []
    (All-from_recursion IsFieldRanged (kept a_picture) (record { tag = omega arith; value = tt }, (record { tag = omega arith; value = tt }, tt)))
    tt

picture_scrubbed : (order : Order) → IsScrubbed order a_picture
picture_scrubbed order = scrubs order a_picture picture_read picture_ranged a_picture_written

picture_readable : AreReadable (scrubbed a_picture)
picture_readable = (scrubs Big a_picture picture_read picture_ranged a_picture_written).readable
