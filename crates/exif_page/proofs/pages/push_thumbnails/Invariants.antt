use Rattle.std.proofs.Common.{◌≡◌, ◌++◌, drop}
use Rattle.exif_page.specs.Thumbnails.{thumbnails_html}
use Rattle.exif_page.proofs.pages.push_thumbnails.Given as goal

-- what is written, and the data that are left, are all data
abbrev pub invariant-loop-entry : goal.invariant-loop-entry
invariant-loop-entry l =
    l.out.items ++ thumbnails_html (drop l.entry-index l.entries)
    ≡ l.initial.out.items ++ thumbnails_html l.entries
