-- The tables of the code, as definitions see them.
use Rattle.std.specs.Prelude.{ℕ, List, Some, Result, Ok}
use Rattle.std.specs.Option.{option_map}
use Rattle.exif_isobmff.specs.declared.tables.Tables.{Tables as Lent}
use Rattle.exif_isobmff.specs.declared.kind.Kind.{Kind}
use Rattle.exif_isobmff.specs.declared.kind.Kind.TheVariants.{ItemData, ItemInfo, ItemLocation}
use Rattle.exif_types.specs.Refusals.{Refusal, ◌>>=◌, last_read}
use Rattle.exif_isobmff.specs.Items.{exif_numbers}
use Rattle.exif_isobmff.specs.Heif.{Tables}

-- the tables of the code as those of a definition
abbrev pub tables_view : Lent → Tables
tables_view t = record { item = t.item; iloc = t.iloc; idat = option_map (λ b. b.now) t.idat }

-- the tables with one more child
abbrev pub table_with : Kind → List ℕ → Tables → Result Tables Refusal
table_with ItemInfo body t =
    last_read t.item (exif_numbers body)
    >>= λ item. Ok (record { item = item; iloc = t.iloc; idat = t.idat })
table_with ItemLocation body t = Ok (record { item = t.item; iloc = Some body; idat = t.idat })
table_with ItemData body t = Ok (record { item = t.item; iloc = t.iloc; idat = Some body })
table_with kind body t = Ok t
