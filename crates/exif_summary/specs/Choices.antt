-- Which pictures are asked for.
use Rattle.std.specs.Prelude.{ℕ, ◌≡◌, ◌==◌, ◌&&◌, ◌||◌, nat_lt, nat_le, Bool, true, false, is_some, List, [], ◌∷◌, Option, Some, None, option_map}
use Rattle.std.specs.Borrow.{Bor}
use Rattle.std.specs.Char.{to_ascii_lowercase}
use Rattle.exif_table.specs.declared.context.Context.TheVariants.{Tiff}
use Rattle.exif_types.specs.Contents.{ExifContents}
use Rattle.exif_types.specs.declared.field.Field.{Field}
use Rattle.exif_summary.specs.Coordinates.{latitude, longitude}
use Rattle.exif_summary.specs.Dates.{date_of, taken}
use Rattle.exif_summary.specs.Finding.{degrees_of, text_found}
use Rattle.exif_summary.specs.Bounds.{stamp}
use Rattle.exif_summary.specs.declared.choice.Choice.{Choice}
use Rattle.exif_summary.specs.declared.choice.Facts.{Facts}

-- when a picture was taken
abbrev pub taken_in : List Field → Option ℕ
taken_in fields =
    option_map (λ d. stamp d.year d.month d.day d.hour d.minute d.second) (date_of fields taken)

-- whether it tells latitude and longitude
abbrev pub is_located : List Field → Bool
is_located fields = is_some (degrees_of fields latitude) && is_some (degrees_of fields longitude)

-- the fields of a picture; it has none without Exif data
abbrev pub fields_in : Option (Bor ExifContents) → List Field
fields_in (Some exif) = exif.now.fields
fields_in None = []

-- whether facts are those of these fields
abbrev pub AreFacts : List Field → Facts → Type 0
AreFacts fields f =
    (f.taken ≡ taken_in fields) × ((f.is_located ≡ is_located fields)
    × ((option_map (λ t. t.now) f.make ≡ text_found fields Tiff 271)
    × (option_map (λ t. t.now) f.model ≡ text_found fields Tiff 272)))

-- whether a text begins with another one, in any case of its letters
abbrev pub begins : List ℕ → List ℕ → Bool
begins [] text = true
begins (b ∷ part) [] = false
begins (b ∷ part) (a ∷ text) = (to_ascii_lowercase a == to_ascii_lowercase b) && begins part text

-- whether it contains another one
abbrev pub contains : List ℕ → List ℕ → Bool
contains part [] = begins part []
contains part (a ∷ text) = begins part (a ∷ text) || contains part text

-- whether a text, if there is one, contains another one
abbrev pub fits : List ℕ → Option (List ℕ) → Bool
fits part (Some text) = contains part text
fits part None = false

-- whether a time is known and not before another one, if one is given
abbrev pub is_from : Option ℕ → Option ℕ → Bool
is_from time None = true
is_from (Some time) (Some after) = nat_le after time
is_from None (Some after) = false

-- whether a time is known and before another one, if one is given
abbrev pub is_till : Option ℕ → Option ℕ → Bool
is_till time None = true
is_till (Some time) (Some before) = nat_lt time before
is_till None (Some before) = false

-- whether a fact is as it is asked for
abbrev pub is_as : Bool → Option Bool → Bool
is_as fact None = true
is_as true (Some asked) = asked
is_as false (Some true) = false
is_as false (Some false) = true

-- whether the make or the model contain a text, if one is given
abbrev pub is_taken_by : Option (List ℕ) → Option (List ℕ) → Option (List ℕ) → Bool
is_taken_by make model None = true
is_taken_by make model (Some part) = fits part make || fits part model

-- whether a picture meets each condition, by when it was taken, whether it has a location, and its
-- make and model
abbrev pub meets : Choice → Option ℕ → Bool → Option (List ℕ) → Option (List ℕ) → Bool
meets choice time located make model =
    is_from time choice.after && (is_till time choice.before
    && (is_as (is_some time) choice.date && (is_as located choice.location
    && is_taken_by make model (option_map (λ t. t.now) choice.camera))))

-- whether one with these facts does
abbrev pub takes : Choice → Facts → Bool
takes choice f =
    meets choice f.taken f.is_located (option_map (λ t. t.now) f.make)
    (option_map (λ t. t.now) f.model)

-- whether one with these fields does
abbrev pub takes_fields : Choice → List Field → Bool
takes_fields choice fields =
    meets choice (taken_in fields) (is_located fields) (text_found fields Tiff 271)
    (text_found fields Tiff 272)

-- whether a condition is given
abbrev pub is_any : Choice → Bool
is_any choice =
    is_some choice.after || (is_some choice.before || (is_some choice.date
    || (is_some choice.location || is_some choice.camera)))
