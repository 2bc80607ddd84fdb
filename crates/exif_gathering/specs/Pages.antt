-- The page as far as it goes: the entries of its pictures, and the data of their thumbnails.
use Rattle.std.specs.Prelude.{◌≡◌, ◌⊎◌, ℕ, List, ◌++◌, Option, Some, None, slice_get, string_bytes}
use Rattle.std.specs.declared.alloc.AllocError.{AllocError}
use Rattle.exif_catalog_file.specs.declared.errors.CatalogError.{CatalogError}
use Rattle.exif_catalog_file.specs.declared.errors.CatalogError.TheVariants as catalog
use Rattle.exif_catalog_file.specs.declared.errors.RunError.{RunError}
use Rattle.exif_catalog_file.specs.declared.errors.RunError.TheVariants.{Catalog, Caller}
use Rattle.exif_files.specs.declared.outcome.Status.TheVariants.{Incomplete}
use Rattle.exif_page.specs.Pages.{end_html, entry_html, foot_html}
use Rattle.exif_page.specs.Sections.{section_of}
use Rattle.exif_page.specs.Thumbnails.{thumbnail_html}
use Rattle.exif_page.specs.declared.entries.Entry.{Entry}
use Rattle.exif_page.specs.declared.sections.Section.{Section}
use Rattle.exif_page.specs.declared.sections.Section.TheVariants as section
use Rattle.exif_gathering.specs.declared.page.Parts.{Parts}
use Rattle.exif_gathering.specs.declared.page.LastSection.{LastSection}
use Rattle.exif_gathering.specs.declared.page.LastSection.TheVariants as last

-- a section: none, that of a day, or that of the pictures without one
abbrev pub section_as : Section → Option (Option (List ℕ))
section_as section.Closed = None
section_as (section.Day day) = Some (Some day.now)
section_as section.Undated = Some None

abbrev pub last_as : LastSection → Option (Option (List ℕ))
last_as last.Closed = None
last_as (last.Day day) = Some (Some (string_bytes day))
last_as last.Undated = Some None

-- an entry is added to the section that is open, and the data of its thumbnail to those before
pub record AddsEntry (old : Parts) (entry : Entry) (new : Parts) : Type 0 where
  pub before : Section
  pub is_open : section_as before ≡ last_as old.section
  pub html : new.html.items ≡ old.html.items ++ entry_html before entry
  pub thumbnails : new.thumbnails.items ≡ old.thumbnails.items ++ thumbnail_html entry.thumbnail
  pub section : last_as new.section ≡ section_as (section_of entry)
  pub worst : new.worst ≡ old.worst

-- that of the picture of a row is, and its file may be one that can't be read
pub record AddsPicture (old : Parts) (row : List (Option (List ℕ))) (new : Parts) : Type 0 where
  pub entry : Entry
  pub path : slice_get row 0 ≡ Some (Some entry.path.now)
  pub seen : Parts
  pub is_seen : seen ≡ record old { worst = seen.worst }
  pub worst : (seen.worst ≡ old.worst) ⊎ (seen.worst ≡ Incomplete)
  pub added : AddsEntry seen entry new

-- a whole page: the entries, the foot, the data of the thumbnails and the end
abbrev pub IsWhole : Parts → List ℕ → Type 0
IsWhole parts page = (before : Section) × (section_as before ≡ last_as parts.section)
    × (page ≡ parts.html.items ++ (foot_html before ++ (parts.thumbnails.items ++ end_html)))

-- Why no page was made: a visitor fails only where memory runs out.
abbrev pub visit_refusal : RunError AllocError → CatalogError
visit_refusal (Catalog error) = error
visit_refusal (Caller memory) = catalog.OutOfMemory
