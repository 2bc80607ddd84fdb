-- What a clause sees of a WebP file that is written again.
use Rattle.exif_parts.specs.declared.webp.Kept.{Kept as LentKept}
use Rattle.exif_parts.specs.Webp.{Kept}

-- the chunks that stay, and the bytes behind the body
abbrev pub kept_view : LentKept → Kept
kept_view kept = record { chunks = kept.chunks.items; rest = kept.rest.now }
