-- The data of the thumbnails. They are behind all cards, in the order of these, so that a browser
-- shows the cards before it has read the data; the script puts each into its card.
use Rattle.std.specs.Prelude.{ℕ, List, [], ◌∷◌, ◌++◌, codes}
use Rattle.base64.specs.Engines.{standard}
use Rattle.base64.specs.GeneralPurpose.{encode_of}
use Rattle.exif_page.specs.declared.entries.Entry.{Entry}
use Rattle.exif_page.specs.declared.entries.Thumbnail.{Thumbnail}
use Rattle.exif_page.specs.declared.entries.Thumbnail.TheVariants.{Jpeg, Line}

-- bytes in base64 (RFC 4648, section 4), padded
unfoldable pub base64 : List ℕ → List ℕ
base64 bytes = encode_of standard bytes

-- JPEG data in a data block, which no browser runs or shows (HTML Living Standard, 4.12.1)
unfoldable pub jpeg_html : List ℕ → List ℕ
jpeg_html bytes =
    codes "<script type=\"text/plain\">" ++ (base64 bytes ++ codes "</script>\n")

-- the data of a thumbnail, if there is one
unfoldable pub thumbnail_html : Thumbnail → List ℕ
thumbnail_html (Jpeg bytes) = jpeg_html bytes.now
thumbnail_html (Line line) = []

-- those of all entries
unfoldable pub thumbnails_html : List Entry → List ℕ
thumbnails_html [] = []
thumbnails_html (entry ∷ entries) = thumbnail_html entry.thumbnail ++ thumbnails_html entries
