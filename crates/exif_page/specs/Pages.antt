-- A page: its head, its entries by day, and its foot.
use Rattle.std.specs.Prelude.{ℕ, List, [], ◌∷◌, ◌++◌, codes}
use Rattle.exif_page.specs.Cards.{card}
use Rattle.exif_page.specs.Escaping.{between}
use Rattle.exif_page.specs.Markup.{beginning, ending, filters, script, style}
use Rattle.exif_page.specs.Sections.{closing, opening, section_of}
use Rattle.exif_page.specs.Thumbnails.{thumbnails_html}
use Rattle.exif_page.specs.declared.entries.Entry.{Entry}
use Rattle.exif_page.specs.declared.sections.Section.{Section}
use Rattle.exif_page.specs.declared.sections.Section.TheVariants.{Closed}

-- before the first entry: the title is the only text
unfoldable pub head_html : List ℕ → List ℕ
head_html title =
    beginning ++ (between (codes "<title>") title (codes "</title>\n")
    ++ (style ++ (between (codes "<h1>") title (codes "</h1>\n") ++ filters)))

-- an entry behind one of the open section
unfoldable pub entry_html : Section → Entry → List ℕ
entry_html before entry = opening before (section_of entry) ++ card entry

-- after the last entry, and before the data of the thumbnails
unfoldable pub foot_html : Section → List ℕ
foot_html before = closing before ++ script

-- the entries from one on, and the foot
unfoldable pub entries_html : Section → List Entry → List ℕ
entries_html before [] = foot_html before
entries_html before (entry ∷ entries) =
    entry_html before entry ++ entries_html (section_of entry) entries

-- after the data of the thumbnails
abbrev pub end_html : List ℕ
end_html = ending

-- a whole page
unfoldable pub page_html : List ℕ → List Entry → List ℕ
page_html title entries =
    head_html title ++ (entries_html Closed entries ++ (thumbnails_html entries ++ end_html))
