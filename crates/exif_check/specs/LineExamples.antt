-- Worked examples of parts that have one line.
use Rattle.std.specs.Prelude.{◌≡◌, ℕ, false, Some, None, refl}
use Rattle.exif_inventory.specs.declared.kind.Kind.{Kind}
use Rattle.exif_inventory.specs.declared.kind.Kind.TheVariants as kind
use Rattle.exif_check.specs.Lines.{joined}
use Rattle.exif_check.specs.declared.checked.Checked.{Checked}
use Rattle.exif_check.specs.declared.checked.Location.TheVariants.{Unknown}

-- a part of this kind and length, which may hold a location
abbrev part : Kind → ℕ → ℕ → Checked
part k offset len = record {
  part = record {
    kind = k;
    picture = 0;
    offset = offset;
    len = len;
    data_offset = offset;
    data_len = len;
  };
  location = Unknown;
  maker_note = false;
}

-- two boxes of an AVIF sequence, the movie and its data
boxes : joined (part kind.Unknown 44 12) (part kind.Unknown 56 47) ≡ Some (record {
  part = record {
    kind = kind.Unknown;
    picture = 0;
    offset = 44;
    len = 59;
    data_offset = 44;
    data_len = 12;
  };
  location = Unknown;
  maker_note = false;
})
boxes = refl

-- what lies apart, and comments, have lines of their own
apart : joined (part kind.Unknown 44 12) (part kind.Unknown 57 47) ≡ None
apart = refl

comments : joined (part kind.Comment 2 10) (part kind.Comment 12 10) ≡ None
comments = refl
