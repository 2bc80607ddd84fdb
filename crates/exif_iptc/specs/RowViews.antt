-- What a row of the code says.
use Rattle.exif_iptc.specs.declared.names.Row.{Row}
use Rattle.exif_iptc.specs.Rows.{DatasetRow}

abbrev pub row_view : Row → DatasetRow
row_view r = record { number = r.number; name = r.name.now; kind = r.kind }
