-- The list of the tags.
use Rattle.std.specs.Prelude.{◌≡◌, ℕ, ◌-◌, ◌^◌, List, ◌++◌, codes, flat_map, Result, OnOk, OnErr}
use Rattle.std.specs.Fmt.{format_spec, padded}
use Rattle.std.specs.Io.KnownBytes.{Appends}
use Rattle.exif_base.specs.Sent.{SendsFront}
use Rattle.exif_base.specs.declared.device.Sink as sink
use Rattle.exif_columns.specs.Names.{tag_in}
use Rattle.exif_table.specs.Rows.{rows_of}
use Rattle.exif_table.specs.Table.{TagRow}
use Rattle.exif_table.specs.declared.context.Context.{Context}
use Rattle.exif_table.specs.declared.context.Context.TheVariants.{Tiff, Exif, Gps, Interop}
use Rattle.exif_decisions.specs.Tags.{type_word}

-- a text in a column of so many characters: spaces (32) follow it up to that width (std, `pad`, with
-- the text at the left and no precision)
abbrev pub in_column : ℕ → List ℕ → List ℕ
in_column width text = padded (format_spec 32 1 0 width (2 ^ 64 - 1)) text

-- the line of a tag: its name, how its value is written, and what it means
unfoldable pub tag_line : Context → TagRow → List ℕ
tag_line context row =
    in_column 36 row.name ++ (codes " " ++ (in_column 15 (type_word (tag_in context row))
    ++ (codes " " ++ (row.description ++ codes "\n"))))

-- the lines of a context, in the order of the tags' numbers
abbrev pub tag_lines : Context → List ℕ
tag_lines context = flat_map (tag_line context) (rows_of context)

-- those of all tags
abbrev pub tags_text : List ℕ
tags_text = tag_lines Tiff ++ (tag_lines Exif ++ (tag_lines Gps ++ tag_lines Interop))

-- a text was written whole, or a front of it where memory ran out or the sink failed
pub record WritesText {S T E : Type 0} (W : sink.Ghosts S) (old new : S) (result : Result T E) (text : List ℕ) : Type 0 where
  pub sent : OnOk result (Appends (W.taken old) (W.taken new) text)
  pub front : OnErr result (SendsFront (W.taken old) (W.taken new) text)
  pub same : W.through new ≡ W.through old
