-- The sections of a page, one for each day.
use Rattle.std.specs.Prelude.{ℕ, Bool, true, false, if◌then◌else◌, List, [], ◌++◌, None, Some, codes, bytes_eq}
use Rattle.exif_page.specs.Escaping.{between}
use Rattle.exif_page.specs.declared.entries.Entry.{Entry}
use Rattle.exif_page.specs.declared.sections.Section.{Section}
use Rattle.exif_page.specs.declared.sections.Section.TheVariants.{Closed, Day, Undated}

-- the section of an entry: that of its day
abbrev pub section_of : Entry → Section
section_of entry = elim entry.day [ Some day ↦ Day day | None ↦ Undated ]

-- whether the section of a day is open
abbrev pub is_day : List ℕ → Section → Bool
is_day day (Day before) = bytes_eq before.now day
is_day day Closed = false
is_day day Undated = false

-- whether the section of the pictures without a day is open
abbrev pub is_undated : Section → Bool
is_undated Undated = true
is_undated (Day before) = false
is_undated Closed = false

-- whether the next section is the open one
abbrev pub is_same : Section → Section → Bool
is_same before Closed = false
is_same before (Day day) = is_day day.now before
is_same before Undated = is_undated before

-- the end of a section
unfoldable pub closing : Section → List ℕ
closing Closed = []
closing (Day day) = codes "</ul>\n</section>\n"
closing Undated = codes "</ul>\n</section>\n"

-- the beginning of a section
unfoldable pub start : Section → List ℕ
start Closed = []
start (Day day) =
    between (codes "<section>\n<h2>") day.now (codes " <span></span></h2>\n<ul>\n")
start Undated = codes "<section>\n<h2>Without a date <span></span></h2>\n<ul>\n"

-- what lies between two entries: nothing where the section goes on
unfoldable pub opening : Section → Section → List ℕ
opening before next = if is_same before next then [] else closing before ++ start next
