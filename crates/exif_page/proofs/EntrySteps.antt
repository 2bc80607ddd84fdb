-- Steps through the entries of a page.
use Rattle.std.proofs.Common.{◌≡◌, ℕ, ◌+◌, ◌<◌, ◌≤◌, List, ◌++◌, length, get_or, drop, refl, append_assoc, add-one, drop-cons}
use Rattle.std.proofs.Math.ListN.{drop_of_length-le}
use Rattle.exif_page.specs.Pages.{entries_html, entry_html, foot_html}
use Rattle.exif_page.specs.Sections.{section_of}
use Rattle.exif_page.specs.declared.entries.Entry.{Entry}
use Rattle.exif_page.specs.declared.sections.Section.{Section}

-- an entry is written, and the others are left
pub one_more : (before : Section) (entries : List Entry) (i : ℕ) (d : Entry) (out : List ℕ)
    → i < length entries
    → (out ++ entry_html before (get_or entries i d))
    ++ entries_html (section_of (get_or entries i d)) (drop (i + 1) entries)
    ≡ out ++ entries_html before (drop i entries)
unfolding entries_html
one_more before entries i d out h =
    rw (drop-cons entries i d h, add-one) (append_assoc out _ _)

-- no entry is left
pub none_left : (before : Section) (entries : List Entry) (i : ℕ) (out : List ℕ)
    → length entries ≤ i
    → out ++ foot_html before ≡ out ++ entries_html before (drop i entries)
unfolding entries_html
none_left before entries i out h = rw (drop_of_length-le entries h) refl
