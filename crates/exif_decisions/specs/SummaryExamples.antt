-- Worked examples: lines that the scripts of tests/ expect.
use Rattle.std.specs.Prelude.{◌≡◌, codes, refl}
use Rattle.std.specs.Fmt.{digits}
use Rattle.exif_decisions.specs.Summaries.{skipped_text, summary_text}
use Rattle.exif_decisions.specs.Tallies.{no_counts, no_formats, no_sidecars}

-- nothing was skipped
pub nothing_skipped :
    summary_text (codes "changed") (codes "not completely")
    (record no_counts { done = 1; refused = 1 })
    ≡ codes "1 changed, 1 refused, 0 skipped"
unfolding digits
nothing_skipped = refl

-- links and own files in a folder, where a file was not changed completely
pub links_and_own_files :
    summary_text (codes "changed") (codes "not completely")
    (record no_counts { done = 1; partial = 1; links = 2; own = 2 })
    ≡ codes "1 changed (1 not completely), 0 refused, 4 skipped (2 symbolic links; 2 backup or temporary files)"
unfolding digits
links_and_own_files = refl

-- files of formats that are not read, and others
pub formats_and_others :
    summary_text (codes "read") (codes "not completely")
    (record no_counts {
      done = 7;
      not_read = 4;
      others = 1;
      formats = record no_formats { gif = 1; bmp = 2 };
      damaged = 1;
    })
    ≡ codes "7 read, 0 refused, 5 skipped (1 GIF, 2 BMP: format not supported; 1 damaged or empty file; 1 other file)"
unfolding digits
formats_and_others = refl

-- many kinds
pub many_kinds :
    skipped_text (record no_counts {
      not_read = 11;
      others = 1;
      formats = record no_formats { video = 2; jpeg2000 = 1; big_tiff = 1; svg = 1; pdf = 1 };
      damaged = 3;
      sidecars = record no_sidecars { xmp = 1; aae = 1 };
    })
    ≡ codes "12 skipped (2 video, 1 JPEG 2000, 1 BigTIFF, 1 SVG, 1 PDF: format not supported; 3 damaged or empty files; 1 XMP sidecar; 1 AAE sidecar; 1 other file)"
unfolding digits
many_kinds = refl
