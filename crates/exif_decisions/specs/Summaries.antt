-- The last line of a run.
use Rattle.std.specs.Prelude.{ℕ, ◌==◌, nat_lt, Bool, if◌then◌else◌, List, [], ◌∷◌, ◌++◌, codes, filter, map}
use Rattle.std.specs.Fmt.{decimal}
use Rattle.std.specs.List.{join_by, list_any}
use Rattle.exif_decisions.specs.Tallies.{skipped_count}
use Rattle.exif_decisions.specs.Unsupported.{format_text}
use Rattle.exif_decisions.specs.declared.counts.Counts.{Counts}
use Rattle.exif_decisions.specs.declared.counts.FormatCounts.{FormatCounts}
use Rattle.exif_decisions.specs.declared.formats.Unsupported.{Unsupported}
use Rattle.exif_decisions.specs.declared.formats.Unsupported.TheVariants.{Gif, Bmp, Psd, Raw, Video, Jpeg2000, BigTiff, Svg, Pdf}
use Rattle.exif_decisions.specs.declared.summary.Amount as amount

-- so many files of a kind, with what they are called
abbrev pub Kind : Type 0
Kind = ℕ × List ℕ

-- whether there are some
abbrev pub is_some : Kind → Bool
is_some kind = nat_lt 0 kind.0

abbrev pub has_some : List Kind → Bool
has_some kinds = list_any is_some kinds

-- how many there are, and what they are called
abbrev pub amount_text : Kind → List ℕ
amount_text kind = decimal kind.0 ++ (codes " " ++ kind.1)

-- those of which there are some, with a text between two of them
abbrev pub listed : List ℕ → List Kind → List ℕ
listed between kinds = join_by amount_text between (filter is_some kinds)

-- what follows the name of a thing
abbrev pub plural : ℕ → List ℕ
plural count = if count == 1 then [] else codes "s"

abbrev pub thing : ℕ → List ℕ → Kind
thing count what = (count, what ++ plural count)

abbrev pub format_amount : ℕ → Unsupported → Kind
format_amount count format = (count, format_text format)

-- how many files there are of each format that is not read
abbrev pub format_amounts : FormatCounts → List Kind
format_amounts counts =
    format_amount counts.gif Gif
    ∷ format_amount counts.bmp Bmp
    ∷ format_amount counts.psd Psd
    ∷ format_amount counts.raw Raw
    ∷ format_amount counts.video Video
    ∷ format_amount counts.jpeg2000 Jpeg2000
    ∷ format_amount counts.big_tiff BigTiff
    ∷ format_amount counts.svg Svg
    ∷ format_amount counts.pdf Pdf
    ∷ []

-- how many files were skipped of each other kind
abbrev pub things : Counts → List Kind
things counts =
    thing counts.damaged (codes "damaged or empty file")
    ∷ thing counts.sidecars.xmp (codes "XMP sidecar")
    ∷ thing counts.sidecars.aae (codes "AAE sidecar")
    ∷ thing counts.sidecars.thm (codes "THM sidecar")
    ∷ thing counts.links (codes "symbolic link")
    ∷ thing counts.own (codes "backup or temporary file")
    ∷ thing counts.others (codes "other file")
    ∷ []

-- the formats together, if there are some
abbrev pub formats_text : List Kind → List ℕ
formats_text formats =
    if has_some formats then listed (codes ", ") formats ++ codes ": format not supported" else []

abbrev pub formats_kind : List Kind → List (List ℕ)
formats_kind formats = if has_some formats then formats_text formats ∷ [] else []

-- texts in parentheses, if there are some
abbrev pub in_parentheses : List (List ℕ) → List ℕ
in_parentheses [] = []
in_parentheses (text ∷ texts) =
    codes " (" ++ (join_by (λ t. t) (codes "; ") (text ∷ texts) ++ codes ")")

-- how many files were skipped, and of which kinds
abbrev pub skipped_text : Counts → List ℕ
skipped_text counts =
    decimal (skipped_count counts) ++ (codes " skipped" ++ in_parentheses
    (formats_kind (format_amounts counts.formats)
    ++ map amount_text (filter is_some (things counts))))

-- how many of the files were not done completely, if some were not
abbrev pub partial_text : ℕ → List ℕ → List ℕ
partial_text count partial =
    if count == 0 then [] else
    codes " (" ++ (decimal count ++ (codes " " ++ (partial ++ codes ")")))

-- how many there are of something, if there are some
abbrev pub some_text : ℕ → List ℕ → List ℕ
some_text count what =
    if count == 0 then [] else codes ", " ++ (decimal count ++ (codes " " ++ what))

-- the summary of a run, by what was done and what is said of files that were not done completely
abbrev pub summary_text : List ℕ → List ℕ → Counts → List ℕ
summary_text verb partial counts =
    decimal counts.done ++ (codes " " ++ (verb
    ++ (partial_text counts.partial partial
    ++ (some_text counts.current (codes "already so")
    ++ (some_text counts.unchanged (codes "left unchanged")
    ++ (codes ", " ++ (decimal counts.refused ++ (codes " refused, " ++ skipped_text counts))))))))

-- ---- how it is written

abbrev pub amount_of : amount.Amount → Kind
amount_of a = (a.count, a.what.now ++ a.plural.now)

-- what is between the formats and other kinds
abbrev pub between_kinds : Bool → List ℕ
between_kinds are_both = if are_both then codes "; " else []

-- the text of a kind behind those before it
abbrev pub next_text : Bool → List ℕ → Kind → List ℕ
next_text is_begun between kind =
    if kind.0 == 0 then [] else (if is_begun then between else []) ++ amount_text kind
