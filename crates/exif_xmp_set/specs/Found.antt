-- The property whose text is set.
use Rattle.std.specs.Prelude.{ℕ, ◌&&◌, Bool, if◌then◌else◌, List, [], ◌∷◌, Option, Some, None, Result, Ok, Err}
use Rattle.std.specs.Str.{bytes_eq}
use Rattle.exif_xmp.specs.declared.property.Form.{Form}
use Rattle.exif_xmp.specs.declared.property.Form.TheVariants as forms
use Rattle.exif_xmp.specs.Properties.{PropertyView}
use Rattle.exif_xmp_set.specs.declared.fault.Reason.{Reason}
use Rattle.exif_xmp_set.specs.declared.fault.Reason.TheVariants.{NoProperty, Unread}
use Rattle.exif_xmp_set.specs.declared.found.Found.{Found}

-- a property has this namespace and path
abbrev pub is_named : PropertyView → List ℕ → List ℕ → Bool
is_named p namespace path = bytes_eq p.path path && bytes_eq p.namespace namespace

-- where the first property of this namespace and path is
abbrev pub found_in : List PropertyView → List ℕ → List ℕ → Option Found
found_in [] namespace path = None
found_in (p ∷ ps) namespace path =
    if is_named p namespace path
    then Some (record { value = p.value; whole = p.whole; form = p.form })
    else found_in ps namespace path

abbrev pub readable : Found → Form → Result Found Reason
readable found forms.Text = Ok found
readable found forms.Unread = Err Unread

abbrev pub settable_at : Option Found → Result Found Reason
settable_at None = Err NoProperty
settable_at (Some found) = readable found found.form

-- where the property is, or why there is none whose text can be set
abbrev pub settable : List PropertyView → List ℕ → List ℕ → Result Found Reason
settable properties namespace path = settable_at (found_in properties namespace path)
