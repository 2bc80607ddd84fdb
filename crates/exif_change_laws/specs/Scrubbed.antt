-- What is read of files whose metadata were taken out.
use Rattle.std.specs.Prelude.{◌≡◌, ⊤, ℕ, Bool, true, false, List, [], ◌∷◌, All, Option, None, Some, Result, Ok, Err}
use Rattle.exif_base.specs.declared.endian.Order.{Order}
use Rattle.exif_table.specs.declared.context.Context.TheVariants.{Tiff}
use Rattle.exif_types.specs.Refusals.{Refusal, not_found}
use Rattle.exif_types.specs.declared.field.Field.{Field}
use Rattle.exif_types.specs.declared.value.Value.TheVariants.{Short}
use Rattle.exif_containers.specs.Container.{format_in}
use Rattle.exif_containers.specs.declared.container.Format.{Format}
use Rattle.exif_containers.specs.declared.container.Format.TheVariants as format
use Rattle.exif_layout.specs.Image.{image}
use Rattle.exif_layout.specs.Rewriting.{pushed_all}
use Rattle.exif_inventory.specs.declared.part.Part.{Part}
use Rattle.exif_lengths.specs.Walks.{measured_inventory}
use Rattle.exif_change.specs.Changed.{Change}
use Rattle.exif_change.specs.Changes.{scrubbed}
use Rattle.exif_change.specs.Found.{IsAnswered}
use Rattle.exif_change.specs.Reading.{Contents, primary}
use Rattle.exif_change.specs.declared.scrubbing.Removed.{Removed}

-- no field is read: there are no Exif data, or empty ones
abbrev pub HasNoField : Result Contents Refusal → Type 0
HasNoField (Ok contents) = contents.fields ≡ []
HasNoField (Err (not_found what)) = ⊤
HasNoField (Err _) = ⊥

-- whether files of a format are written again where their metadata are taken out
abbrev pub is_rewritten : Format → Bool
is_rewritten format.Jpeg = true
is_rewritten format.WebP = true
is_rewritten format.Heif = false
is_rewritten format.Tiff = false

-- the orientation of a picture (Exif 2.32, 4.6.4 A)
abbrev pub orientation : ℕ → Field
orientation number =
    record { tag = (Tiff, 0x112); ifd_num = primary; value = Short (number ∷ []) }

-- Exif data that hold it alone, and what is read of them
abbrev pub orientation_alone : Order → ℕ → Contents
orientation_alone order number = record {
  bytes = image order (pushed_all (orientation number ∷ []) []);
  order = order;
  fields = orientation number ∷ [];
}

-- whether a file is of such a format
abbrev pub is_written_again : Option Format → Bool
is_written_again (Some format) = is_rewritten format
is_written_again None = false

-- a JPEG or WebP file was scrubbed to this
abbrev pub IsScrubbedTo : Removed → List ℕ → Change → Type 0
IsScrubbedTo removed file change =
    (is_written_again (format_in file) ≡ true) × (scrubbed removed file ≡ Ok change)

-- each part of the new file is one that belongs there, or was answered as left; a piece of the
-- picture whose length is not the one that its standard gives does not belong there
abbrev pub AllAnswered : Bool → Change → Type 0
AllAnswered put change =
    (parts : List Part) → measured_inventory change.file ≡ Some parts
    → All (IsAnswered put change.undone) parts
