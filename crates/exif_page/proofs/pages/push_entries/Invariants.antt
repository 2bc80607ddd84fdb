use Rattle.std.proofs.Common.{◌≡◌, ◌++◌, drop}
use Rattle.exif_page.specs.Pages.{entries_html}
use Rattle.exif_page.specs.declared.sections.Section.TheVariants.{Closed}
use Rattle.exif_page.proofs.pages.push_entries.Given as goal

-- what is written, and the entries that are left, are all entries
abbrev pub invariant-loop-entry : goal.invariant-loop-entry
invariant-loop-entry l =
    l.out.items ++ entries_html l.before (drop l.entry-index l.entries)
    ≡ l.initial.out.items ++ entries_html Closed l.entries
