-- The datasets of IIM 4.2 (chapters 5 to 9) and of the Digital Newsphoto Parameter Record (record
-- 3), with the names under which exiftool shows them.
use Rattle.std.specs.Prelude.{ℕ, ◌==◌, if◌then◌else◌, List, [], ◌∷◌, Option, Some, None, codes}
use Rattle.std.specs.List.{find}
use Rattle.std.specs.Option.{option_map}
use Rattle.exif_iptc.specs.declared.kind.Kind.{Kind}
use Rattle.exif_iptc.specs.declared.kind.Kind.TheVariants as K

-- a dataset: its number in its record, its name, and what its value is
pub record DatasetRow : Type 0 where
  pub number : ℕ
  pub name : List ℕ
  pub kind : Kind

abbrev row : ℕ → List ℕ → Kind → DatasetRow
row number name kind = record { number = number; name = name; kind = kind }

-- record 1, the envelope
abbrev pub envelope_rows : List DatasetRow
envelope_rows =
    row 0 (codes "EnvelopeRecordVersion") K.Number ∷
    row 5 (codes "Destination") K.Text ∷
    row 20 (codes "FileFormat") K.Number ∷
    row 22 (codes "FileVersion") K.Number ∷
    row 30 (codes "ServiceIdentifier") K.Text ∷
    row 40 (codes "EnvelopeNumber") K.Text ∷
    row 50 (codes "ProductID") K.Text ∷
    row 60 (codes "EnvelopePriority") K.Text ∷
    row 70 (codes "DateSent") K.Date ∷
    row 80 (codes "TimeSent") K.Time ∷
    row 90 (codes "CodedCharacterSet") K.Text ∷
    row 100 (codes "UniqueObjectName") K.Text ∷
    row 120 (codes "ARMIdentifier") K.Number ∷
    row 122 (codes "ARMVersion") K.Number ∷
    []

-- record 2, the application record
abbrev pub application_rows : List DatasetRow
application_rows =
    row 0 (codes "ApplicationRecordVersion") K.Number ∷
    row 3 (codes "ObjectTypeReference") K.Text ∷
    row 4 (codes "ObjectAttributeReference") K.Text ∷
    row 5 (codes "ObjectName") K.Text ∷
    row 7 (codes "EditStatus") K.Text ∷
    row 8 (codes "EditorialUpdate") K.Text ∷
    row 10 (codes "Urgency") K.Text ∷
    row 12 (codes "SubjectReference") K.Text ∷
    row 15 (codes "Category") K.Text ∷
    row 20 (codes "SupplementalCategories") K.Text ∷
    row 22 (codes "FixtureIdentifier") K.Text ∷
    row 25 (codes "Keywords") K.Text ∷
    row 26 (codes "ContentLocationCode") K.Text ∷
    row 27 (codes "ContentLocationName") K.Text ∷
    row 30 (codes "ReleaseDate") K.Date ∷
    row 35 (codes "ReleaseTime") K.Time ∷
    row 37 (codes "ExpirationDate") K.Date ∷
    row 38 (codes "ExpirationTime") K.Time ∷
    row 40 (codes "SpecialInstructions") K.Text ∷
    row 42 (codes "ActionAdvised") K.Text ∷
    row 45 (codes "ReferenceService") K.Text ∷
    row 47 (codes "ReferenceDate") K.Date ∷
    row 50 (codes "ReferenceNumber") K.Text ∷
    row 55 (codes "DateCreated") K.Date ∷
    row 60 (codes "TimeCreated") K.Time ∷
    row 62 (codes "DigitalCreationDate") K.Date ∷
    row 63 (codes "DigitalCreationTime") K.Time ∷
    row 65 (codes "OriginatingProgram") K.Text ∷
    row 70 (codes "ProgramVersion") K.Text ∷
    row 75 (codes "ObjectCycle") K.Text ∷
    row 80 (codes "By-line") K.Text ∷
    row 85 (codes "By-lineTitle") K.Text ∷
    row 90 (codes "City") K.Text ∷
    row 92 (codes "Sub-location") K.Text ∷
    row 95 (codes "Province-State") K.Text ∷
    row 100 (codes "Country-PrimaryLocationCode") K.Text ∷
    row 101 (codes "Country-PrimaryLocationName") K.Text ∷
    row 103 (codes "OriginalTransmissionReference") K.Text ∷
    row 105 (codes "Headline") K.Text ∷
    row 110 (codes "Credit") K.Text ∷
    row 115 (codes "Source") K.Text ∷
    row 116 (codes "CopyrightNotice") K.Text ∷
    row 118 (codes "Contact") K.Text ∷
    row 120 (codes "Caption-Abstract") K.Text ∷
    row 122 (codes "Writer-Editor") K.Text ∷
    row 125 (codes "RasterizedCaption") K.Bytes ∷
    row 130 (codes "ImageType") K.Text ∷
    row 131 (codes "ImageOrientation") K.Text ∷
    row 135 (codes "LanguageIdentifier") K.Text ∷
    row 150 (codes "AudioType") K.Text ∷
    row 151 (codes "AudioSamplingRate") K.Text ∷
    row 152 (codes "AudioSamplingResolution") K.Text ∷
    row 153 (codes "AudioDuration") K.Text ∷
    row 154 (codes "AudioOutcue") K.Text ∷
    row 200 (codes "ObjectPreviewFileFormat") K.Number ∷
    row 201 (codes "ObjectPreviewFileVersion") K.Number ∷
    row 202 (codes "ObjectPreviewData") K.Bytes ∷
    []

-- record 3, the digital newsphoto parameter record
abbrev pub news_photo_rows : List DatasetRow
news_photo_rows =
    row 0 (codes "NewsPhotoVersion") K.Number ∷
    row 10 (codes "IPTCPictureNumber") K.Bytes ∷
    row 20 (codes "IPTCImageWidth") K.Number ∷
    row 30 (codes "IPTCImageHeight") K.Number ∷
    row 40 (codes "IPTCPixelWidth") K.Number ∷
    row 50 (codes "IPTCPixelHeight") K.Number ∷
    row 55 (codes "SupplementalType") K.Number ∷
    row 60 (codes "ColorRepresentation") K.Number ∷
    row 64 (codes "InterchangeColorSpace") K.Number ∷
    row 65 (codes "ColorSequence") K.Number ∷
    row 66 (codes "ICC_Profile") K.Bytes ∷
    row 70 (codes "ColorCalibrationMatrix") K.Bytes ∷
    row 80 (codes "LookupTable") K.Bytes ∷
    row 84 (codes "NumIndexEntries") K.Number ∷
    row 85 (codes "ColorPalette") K.Bytes ∷
    row 86 (codes "IPTCBitsPerSample") K.Number ∷
    row 90 (codes "SampleStructure") K.Number ∷
    row 100 (codes "ScanningDirection") K.Number ∷
    row 102 (codes "IPTCImageRotation") K.Number ∷
    row 110 (codes "DataCompressionMethod") K.Number ∷
    row 120 (codes "QuantizationMethod") K.Number ∷
    row 125 (codes "EndPoints") K.Bytes ∷
    row 130 (codes "ExcursionTolerance") K.Number ∷
    row 135 (codes "BitsPerComponent") K.Number ∷
    row 140 (codes "MaximumDensityRange") K.Number ∷
    row 145 (codes "GammaCompensatedValue") K.Number ∷
    []

-- record 7, before the object data
abbrev pub pre_object_data_rows : List DatasetRow
pre_object_data_rows =
    row 10 (codes "SizeMode") K.Number ∷
    row 20 (codes "MaxSubfileSize") K.Number ∷
    row 90 (codes "ObjectSizeAnnounced") K.Number ∷
    row 95 (codes "MaximumObjectSize") K.Number ∷
    []

-- record 8, the object data
abbrev pub object_data_rows : List DatasetRow
object_data_rows =
    row 10 (codes "SubFile") K.Bytes ∷
    []

-- record 9, behind the object data
abbrev pub post_object_data_rows : List DatasetRow
post_object_data_rows =
    row 10 (codes "ConfirmedObjectSize") K.Number ∷
    []

-- the datasets of a record
unfoldable pub rows_of : ℕ → List DatasetRow
rows_of record_number =
    if record_number == 1 then envelope_rows else
    (if record_number == 2 then application_rows else
    (if record_number == 3 then news_photo_rows else
    (if record_number == 7 then pre_object_data_rows else
    (if record_number == 8 then object_data_rows else
    (if record_number == 9 then post_object_data_rows else [])))))

-- the dataset with these numbers, if the standard defines one
abbrev pub row_of : ℕ → ℕ → Option DatasetRow
row_of record_number number = find (λ r. r.number == number) (rows_of record_number)

-- its name
abbrev pub name_of : ℕ → ℕ → Option (List ℕ)
name_of record_number number = option_map (λ (r : DatasetRow). r.name) (row_of record_number number)

-- what its value is; that of others is bytes
abbrev pub kind_in : Option DatasetRow → Kind
kind_in None = K.Bytes
kind_in (Some r) = r.kind

abbrev pub kind_of : ℕ → ℕ → Kind
kind_of record_number number = kind_in (row_of record_number number)
