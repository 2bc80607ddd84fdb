-- What the program says of refusals and of what was left undone, by texts written by hand.
use Rattle.std.specs.Prelude.{◌≡◌, refl, codes, Some}
use Rattle.std.specs.Fmt.{digits}
use Rattle.exif_table.specs.declared.context.Context.TheVariants.{Exif, Tiff}
use Rattle.exif_types.specs.TagRows.{row_of_tag}
use Rattle.exif_types.specs.declared.tag.Tag.{Tag}
use Rattle.exif_edit_base.specs.declared.error.Error.TheVariants as edit
use Rattle.exif_datetime.specs.declared.shift.Unmoved.TheVariants as unmoved
use Rattle.exif_inventory.specs.declared.kind.Kind.{Kind}
use Rattle.exif_inventory.specs.declared.kind.Kind.TheVariants as kind
use Rattle.exif_inventory.specs.declared.part.Part.{Part}
use Rattle.exif_locations.specs.declared.xmp.fault.Fault.TheVariants as xmp
use Rattle.exif_privacy.specs.declared.remaining.Reason.TheVariants as why
use Rattle.exif_scrub.specs.declared.heif.fault.Fault.TheVariants as heif
use Rattle.exif_scrub.specs.declared.tiff.fault.Fault.TheVariants as tiff
use Rattle.exif_change.specs.Texts.{left_text, refusal_text}
use Rattle.exif_change.specs.declared.changed.Residual.TheVariants as left
use Rattle.exif_change.specs.declared.refusal.Refusal.TheVariants as refusal

-- tags of Exif 2.32, 4.6: when the file changed, and when the picture was taken
abbrev changed_tag : Tag
changed_tag = record { 0 = Tiff; 1 = 0x132 }

abbrev taken_tag : Tag
taken_tag = record { 0 = Exif; 1 = 0x9003 }

-- a part of eighty bytes at offset 1,234
abbrev part : Kind → Part
part k = record {
  kind = k;
  picture = 0;
  offset = 1234;
  len = 80;
  data_offset = 1240;
  data_len = 74;
}

-- ---- what was left undone

blank : left_text (left.Date changed_tag unmoved.Blank)
    ≡ Some (codes "DateTime is blank and was not moved")
unfolding row_of_tag
blank = refl

no_date : left_text (left.Date taken_tag unmoved.Invalid)
    ≡ Some (codes "DateTimeOriginal is not a date of the calendar and was not moved")
unfolding row_of_tag
no_date = refl

out_of_years : left_text (left.Date taken_tag unmoved.OutOfRange)
    ≡ Some (codes "DateTimeOriginal would leave the years 0 to 9999 and was not moved")
unfolding row_of_tag
out_of_years = refl

edit_refused : left_text (left.Edit taken_tag edit.SharedBytes)
    ≡ Some (codes "DateTimeOriginal was not moved: The bytes are shared with other data")
unfolding row_of_tag
edit_refused = refl

xmp_stays : left_text (left.Remaining (record { part = part kind.Xmp; why = why.XmpNotRead xmp.Cut }))
    ≡ Some (codes "still there: XMP packet at offset 1234, which can't be read (XMP ends too early); --force-blank blanks it")
unfolding digits
xmp_stays = refl

texts_stay : left_text (left.Remaining (record { part = part kind.Exif; why = why.Texts }))
    ≡ Some (codes "a location may be left: Exif data at offset 1234 has texts, which are not judged")
unfolding digits
texts_stay = refl

part_stays : left_text (left.Part (part kind.Unknown))
    ≡ Some (codes "still there: unknown data at offset 1234, which may hold metadata")
unfolding digits
part_stays = refl

-- ---- refusals

long_value : refusal_text (refusal.TooLong taken_tag)
    ≡ Some (codes "DateTimeOriginal is too long: the Exif data of a JPEG file have at most 65,527 bytes")
unfolding row_of_tag
long_value = refl

wrong_type : refusal_text (refusal.NotOfItsType changed_tag)
    ≡ Some (codes "Invalid value for the type of DateTime")
unfolding row_of_tag
wrong_type = refl

unknown_tag : refusal_text (refusal.OutOfRange (record { 0 = Exif; 1 = 7 }))
    ≡ Some (codes "Tag(Exif, 7) cannot have this value")
unfolding row_of_tag digits
unknown_tag = refl

edit_cause : refusal_text (refusal.Editing edit.FieldNotFound) ≡ Some (codes "No such field")
edit_cause = refl

raw_file : refusal_text (refusal.Tiff tiff.Raw)
    ≡ Some (codes "only the locations of a raw file can be taken out; export a picture and scrub that")
raw_file = refl

heif_file : refusal_text (refusal.Heif heif.Unstable)
    ≡ Some (codes "the file would be read otherwise without its metadata")
heif_file = refl
