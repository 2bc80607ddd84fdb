-- The tags of Exif 2.32, section 4.6, by context and number.
use Rattle.std.specs.Prelude.{ℕ, List, [], ◌∷◌, Option, ◌==◌, codes}
use Rattle.std.specs.List.{find}
use Rattle.exif_table.specs.declared.context.Context.{Context}
use Rattle.exif_table.specs.declared.context.Context.TheVariants.{Tiff, Exif, Gps, Interop}
use Rattle.exif_table.specs.declared.kind.TextKind.{TextKind}
use Rattle.exif_table.specs.declared.kind.TextKind.TheVariants as K
use Rattle.exif_table.specs.Table.{TagRow, Piece, Value, Text, Sibling, Default, NoDefault, Bytes, OneText, Shorts, OneFraction, Undefineds, ContextDependent, Unspecified}

-- a row: number, name, description, the kind of its text, the pieces of its unit, its default
abbrev row : ℕ → List ℕ → List ℕ → TextKind → List Piece → Default → TagRow
row number name description kind unit default =
    record {
      number = number;
      name = name;
      description = description;
      kind = kind;
      unit = unit;
      default = default;
    }

-- the tags of context Tiff
abbrev pub tiff_rows : List TagRow
tiff_rows =
    row 0x0100 (codes "ImageWidth") (codes "Image width")
    K.Plain (Value ∷ Text (codes " pixels") ∷ []) NoDefault ∷
    row 0x0101 (codes "ImageLength") (codes "Image height")
    K.Plain (Value ∷ Text (codes " pixels") ∷ []) NoDefault ∷
    row 0x0102 (codes "BitsPerSample") (codes "Number of bits per component")
    K.Plain [] (Shorts (8 ∷ 8 ∷ 8 ∷ [])) ∷
    row 0x0103 (codes "Compression") (codes "Compression scheme") K.Compression [] NoDefault ∷
    row 0x0106 (codes "PhotometricInterpretation") (codes "Pixel composition")
    K.PhotometricInterpretation [] NoDefault ∷
    row 0x010e (codes "ImageDescription") (codes "Image title") K.Plain [] NoDefault ∷
    row 0x010f (codes "Make") (codes "Manufacturer of image input equipment") K.Plain [] NoDefault ∷
    row 0x0110 (codes "Model") (codes "Model of image input equipment") K.Plain [] NoDefault ∷
    row 0x0111 (codes "StripOffsets") (codes "Image data location") K.Plain [] NoDefault ∷
    row 0x0112 (codes "Orientation") (codes "Orientation of image")
    K.Orientation [] (Shorts (1 ∷ [])) ∷
    row 0x0115 (codes "SamplesPerPixel") (codes "Number of components")
    K.Plain [] (Shorts (3 ∷ [])) ∷
    row 0x0116 (codes "RowsPerStrip") (codes "Number of rows per strip") K.Plain [] NoDefault ∷
    row 0x0117 (codes "StripByteCounts") (codes "Bytes per compressed strip") K.Plain [] NoDefault ∷
    row 0x011a (codes "XResolution") (codes "Image resolution in width direction")
    K.Decimal (Value ∷ Text (codes " pixels per ") ∷ Sibling Tiff 0x0128 ∷ [])
    (OneFraction 72 1) ∷
    row 0x011b (codes "YResolution") (codes "Image resolution in height direction")
    K.Decimal (Value ∷ Text (codes " pixels per ") ∷ Sibling Tiff 0x0128 ∷ [])
    (OneFraction 72 1) ∷
    row 0x011c (codes "PlanarConfiguration") (codes "Image data arrangement")
    K.PlanarConfiguration [] (Shorts (1 ∷ [])) ∷
    row 0x0128 (codes "ResolutionUnit") (codes "Unit of X and Y resolution")
    K.ResolutionUnit [] (Shorts (2 ∷ [])) ∷
    row 0x012d (codes "TransferFunction") (codes "Transfer function") K.Plain [] NoDefault ∷
    row 0x0131 (codes "Software") (codes "Software used") K.Plain [] NoDefault ∷
    row 0x0132 (codes "DateTime") (codes "File change date and time") K.DateTime [] NoDefault ∷
    row 0x013b (codes "Artist") (codes "Person who created the image") K.Plain [] NoDefault ∷
    row 0x013e (codes "WhitePoint") (codes "White point chromaticity") K.Decimal [] NoDefault ∷
    row 0x013f (codes "PrimaryChromaticities") (codes "Chromaticities of primaries")
    K.Decimal [] NoDefault ∷
    row 0x0144 (codes "TileOffsets") (codes "Tiled image data location") K.Plain [] NoDefault ∷
    row 0x0145 (codes "TileByteCounts") (codes "Bytes per compressed tile") K.Plain [] NoDefault ∷
    row 0x0201 (codes "JPEGInterchangeFormat") (codes "Offset to JPEG SOI") K.Plain [] NoDefault ∷
    row 0x0202 (codes "JPEGInterchangeFormatLength") (codes "Bytes of JPEG data")
    K.Plain [] NoDefault ∷
    row 0x0211 (codes "YCbCrCoefficients") (codes "Color space transformation matrix coefficients")
    K.Decimal [] Unspecified ∷
    row 0x0212 (codes "YCbCrSubSampling") (codes "Subsampling ratio of Y to C")
    K.YCbCrSubSampling [] NoDefault ∷
    row 0x0213 (codes "YCbCrPositioning") (codes "Y and C positioning")
    K.YCbCrPositioning [] (Shorts (1 ∷ [])) ∷
    row 0x0214 (codes "ReferenceBlackWhite") (codes "Pair of black and white reference values")
    K.Decimal [] ContextDependent ∷
    row 0x8298 (codes "Copyright") (codes "Copyright holder") K.Plain [] NoDefault ∷
    row 0x8769 (codes "ExifIFDPointer") (codes "Exif IFD pointer") K.Plain [] NoDefault ∷
    row 0x8825 (codes "GPSInfoIFDPointer") (codes "GPS Info IFD pointer") K.Plain [] NoDefault ∷
    []

-- the tags of context Exif
abbrev pub exif_rows : List TagRow
exif_rows =
    row 0x829a (codes "ExposureTime") (codes "Exposure time")
    K.ExposureTime (Value ∷ Text (codes " s") ∷ []) NoDefault ∷
    row 0x829d (codes "FNumber") (codes "F number")
    K.Decimal (Text (codes "f/") ∷ Value ∷ []) NoDefault ∷
    row 0x8822 (codes "ExposureProgram") (codes "Exposure program") K.ExposureProgram [] NoDefault ∷
    row 0x8824 (codes "SpectralSensitivity") (codes "Spectral sensitivity") K.Plain [] NoDefault ∷
    row 0x8827 (codes "PhotographicSensitivity") (codes "Photographic sensitivity")
    K.Plain [] NoDefault ∷
    row 0x8828 (codes "OECF") (codes "Optoelectric conversion factor") K.Plain [] NoDefault ∷
    row 0x8830 (codes "SensitivityType") (codes "Sensitivity type") K.SensitivityType [] NoDefault ∷
    row 0x8831 (codes "StandardOutputSensitivity") (codes "Standard output sensitivity")
    K.Plain [] NoDefault ∷
    row 0x8832 (codes "RecommendedExposureIndex") (codes "Recommended exposure index")
    K.Plain [] NoDefault ∷
    row 0x8833 (codes "ISOSpeed") (codes "ISO speed") K.Plain [] NoDefault ∷
    row 0x8834 (codes "ISOSpeedLatitudeyyy") (codes "ISO speed latitude yyy") K.Plain [] NoDefault ∷
    row 0x8835 (codes "ISOSpeedLatitudezzz") (codes "ISO speed latitude zzz") K.Plain [] NoDefault ∷
    row 0x9000 (codes "ExifVersion") (codes "Exif version") K.ExifVersion [] NoDefault ∷
    row 0x9003 (codes "DateTimeOriginal") (codes "Date and time of original data generation")
    K.DateTime [] NoDefault ∷
    row 0x9004 (codes "DateTimeDigitized") (codes "Date and time of digital data generation")
    K.DateTime [] NoDefault ∷
    row 0x9010 (codes "OffsetTime") (codes "Offset data of DateTime") K.Plain [] NoDefault ∷
    row 0x9011 (codes "OffsetTimeOriginal") (codes "Offset data of DateTimeOriginal")
    K.Plain [] NoDefault ∷
    row 0x9012 (codes "OffsetTimeDigitized") (codes "Offset data of DateTimeDigitized")
    K.Plain [] NoDefault ∷
    row 0x9101 (codes "ComponentsConfiguration") (codes "Meaning of each component")
    K.ComponentsConfiguration [] ContextDependent ∷
    row 0x9102 (codes "CompressedBitsPerPixel") (codes "Image compression mode")
    K.Decimal [] NoDefault ∷
    row 0x9201 (codes "ShutterSpeedValue") (codes "Shutter speed")
    K.Decimal (Value ∷ Text (codes " EV") ∷ []) NoDefault ∷
    row 0x9202 (codes "ApertureValue") (codes "Aperture")
    K.Decimal (Value ∷ Text (codes " EV") ∷ []) NoDefault ∷
    row 0x9203 (codes "BrightnessValue") (codes "Brightness")
    K.OptionalDecimal (Value ∷ Text (codes " EV") ∷ []) NoDefault ∷
    row 0x9204 (codes "ExposureBiasValue") (codes "Exposure bias")
    K.Decimal (Value ∷ Text (codes " EV") ∷ []) NoDefault ∷
    row 0x9205 (codes "MaxApertureValue") (codes "Maximum lens aperture")
    K.Decimal (Value ∷ Text (codes " EV") ∷ []) NoDefault ∷
    row 0x9206 (codes "SubjectDistance") (codes "Subject distance")
    K.SubjectDistance (Value ∷ Text (codes " m") ∷ []) NoDefault ∷
    row 0x9207 (codes "MeteringMode") (codes "Metering mode") K.MeteringMode [] (Shorts (0 ∷ [])) ∷
    row 0x9208 (codes "LightSource") (codes "Light source") K.LightSource [] (Shorts (0 ∷ [])) ∷
    row 0x9209 (codes "Flash") (codes "Flash") K.Flash [] Unspecified ∷
    row 0x920a (codes "FocalLength") (codes "Lens focal length")
    K.Decimal (Value ∷ Text (codes " mm") ∷ []) NoDefault ∷
    row 0x9214 (codes "SubjectArea") (codes "Subject area") K.SubjectArea [] NoDefault ∷
    row 0x927c (codes "MakerNote") (codes "Manufacturer notes") K.Plain [] NoDefault ∷
    row 0x9286 (codes "UserComment") (codes "User comments") K.Plain [] NoDefault ∷
    row 0x9290 (codes "SubSecTime") (codes "DateTime subseconds") K.Plain [] NoDefault ∷
    row 0x9291 (codes "SubSecTimeOriginal") (codes "DateTimeOriginal subseconds")
    K.Plain [] NoDefault ∷
    row 0x9292 (codes "SubSecTimeDigitized") (codes "DateTimeDigitized subseconds")
    K.Plain [] NoDefault ∷
    row 0x9400 (codes "Temperature") (codes "Temperature")
    K.OptionalDecimal (Value ∷ Text (codes " degC") ∷ []) NoDefault ∷
    row 0x9401 (codes "Humidity") (codes "Humidity")
    K.OptionalDecimal (Value ∷ Text (codes " %") ∷ []) NoDefault ∷
    row 0x9402 (codes "Pressure") (codes "Pressure")
    K.OptionalDecimal (Value ∷ Text (codes " hPa") ∷ []) NoDefault ∷
    row 0x9403 (codes "WaterDepth") (codes "Water depth")
    K.OptionalDecimal (Value ∷ Text (codes " m") ∷ []) NoDefault ∷
    row 0x9404 (codes "Acceleration") (codes "Acceleration")
    K.OptionalDecimal (Value ∷ Text (codes " mGal") ∷ []) NoDefault ∷
    row 0x9405 (codes "CameraElevationAngle") (codes "Camera elevation angle")
    K.OptionalDecimal (Value ∷ Text (codes " deg") ∷ []) NoDefault ∷
    row 0xa000 (codes "FlashpixVersion") (codes "Supported Flashpix version")
    K.ExifVersion [] (Undefineds (codes "0100")) ∷
    row 0xa001 (codes "ColorSpace") (codes "Color space information") K.ColorSpace [] Unspecified ∷
    row 0xa002 (codes "PixelXDimension") (codes "Valid image width")
    K.Plain (Value ∷ Text (codes " pixels") ∷ []) NoDefault ∷
    row 0xa003 (codes "PixelYDimension") (codes "Valid image height")
    K.Plain (Value ∷ Text (codes " pixels") ∷ []) Unspecified ∷
    row 0xa004 (codes "RelatedSoundFile") (codes "Related audio file") K.Plain [] NoDefault ∷
    row 0xa005 (codes "InteropIFDPointer") (codes "Interoperability IFD pointer")
    K.Plain [] NoDefault ∷
    row 0xa20b (codes "FlashEnergy") (codes "Flash energy")
    K.Decimal (Value ∷ Text (codes " BCPS") ∷ []) NoDefault ∷
    row 0xa20c (codes "SpatialFrequencyResponse") (codes "Spatial frequency response")
    K.Plain [] NoDefault ∷
    row 0xa20e (codes "FocalPlaneXResolution") (codes "Focal plane X resolution")
    K.Decimal (Value ∷ Text (codes " pixels per ") ∷ Sibling Exif 0xa210 ∷ []) NoDefault ∷
    row 0xa20f (codes "FocalPlaneYResolution") (codes "Focal plane Y resolution")
    K.Decimal (Value ∷ Text (codes " pixels per ") ∷ Sibling Exif 0xa210 ∷ []) NoDefault ∷
    row 0xa210 (codes "FocalPlaneResolutionUnit") (codes "Focal plane resolution unit")
    K.ResolutionUnit [] (Shorts (2 ∷ [])) ∷
    row 0xa214 (codes "SubjectLocation") (codes "Subject location") K.SubjectArea [] NoDefault ∷
    row 0xa215 (codes "ExposureIndex") (codes "Exposure index") K.Decimal [] NoDefault ∷
    row 0xa217 (codes "SensingMethod") (codes "Sensing method") K.SensingMethod [] NoDefault ∷
    row 0xa300 (codes "FileSource") (codes "File source") K.FileSource [] (Undefineds (3 ∷ [])) ∷
    row 0xa301 (codes "SceneType") (codes "Scene type") K.SceneType [] (Undefineds (1 ∷ [])) ∷
    row 0xa302 (codes "CFAPattern") (codes "CFA pattern") K.Plain [] NoDefault ∷
    row 0xa401 (codes "CustomRendered") (codes "Custom image processing")
    K.CustomRendered [] (Shorts (0 ∷ [])) ∷
    row 0xa402 (codes "ExposureMode") (codes "Exposure mode") K.ExposureMode [] NoDefault ∷
    row 0xa403 (codes "WhiteBalance") (codes "White balance") K.WhiteBalance [] NoDefault ∷
    row 0xa404 (codes "DigitalZoomRatio") (codes "Digital zoom ratio")
    K.DigitalZoomRatio [] NoDefault ∷
    row 0xa405 (codes "FocalLengthIn35mmFilm") (codes "Focal length in 35 mm film")
    K.FocalLength35mm (Value ∷ Text (codes " mm") ∷ []) NoDefault ∷
    row 0xa406 (codes "SceneCaptureType") (codes "Scene capture type")
    K.SceneCaptureType [] (Shorts (0 ∷ [])) ∷
    row 0xa407 (codes "GainControl") (codes "Gain control") K.GainControl [] NoDefault ∷
    row 0xa408 (codes "Contrast") (codes "Contrast") K.Contrast [] (Shorts (0 ∷ [])) ∷
    row 0xa409 (codes "Saturation") (codes "Saturation") K.Saturation [] (Shorts (0 ∷ [])) ∷
    row 0xa40a (codes "Sharpness") (codes "Sharpness") K.Sharpness [] (Shorts (0 ∷ [])) ∷
    row 0xa40b (codes "DeviceSettingDescription") (codes "Device settings description")
    K.Plain [] NoDefault ∷
    row 0xa40c (codes "SubjectDistanceRange") (codes "Subject distance range")
    K.SubjectDistanceRange [] NoDefault ∷
    row 0xa420 (codes "ImageUniqueID") (codes "Unique image ID") K.Plain [] NoDefault ∷
    row 0xa430 (codes "CameraOwnerName") (codes "Camera owner name") K.Plain [] NoDefault ∷
    row 0xa431 (codes "BodySerialNumber") (codes "Body serial number") K.Plain [] NoDefault ∷
    row 0xa432 (codes "LensSpecification") (codes "Lens specification")
    K.LensSpecification [] NoDefault ∷
    row 0xa433 (codes "LensMake") (codes "Lens make") K.Plain [] NoDefault ∷
    row 0xa434 (codes "LensModel") (codes "Lens model") K.Plain [] NoDefault ∷
    row 0xa435 (codes "LensSerialNumber") (codes "Lens serial number") K.Plain [] NoDefault ∷
    row 0xa460 (codes "CompositeImage") (codes "Composite image")
    K.CompositeImage [] (Shorts (0 ∷ [])) ∷
    row 0xa461 (codes "SourceImageNumberOfCompositeImage") (codes "Source image number of composite image")
    K.CompositeImageCounts [] NoDefault ∷
    row 0xa462 (codes "SourceExposureTimesOfCompositeImage") (codes "Source exposure times of composite image")
    K.Plain [] NoDefault ∷
    row 0xa500 (codes "Gamma") (codes "Gamma") K.Decimal [] NoDefault ∷
    []

-- the tags of context Gps
abbrev pub gps_rows : List TagRow
gps_rows =
    row 0x0000 (codes "GPSVersionID") (codes "GPS tag version") K.GpsVersion [] ContextDependent ∷
    row 0x0001 (codes "GPSLatitudeRef") (codes "North or south latitude")
    K.GpsLatLongRef [] NoDefault ∷
    row 0x0002 (codes "GPSLatitude") (codes "Latitude")
    K.GpsDegrees (Value ∷ Text (codes " ") ∷ Sibling Gps 0x0001 ∷ []) NoDefault ∷
    row 0x0003 (codes "GPSLongitudeRef") (codes "East or West Longitude")
    K.GpsLatLongRef [] NoDefault ∷
    row 0x0004 (codes "GPSLongitude") (codes "Longitude")
    K.GpsDegrees (Value ∷ Text (codes " ") ∷ Sibling Gps 0x0003 ∷ []) NoDefault ∷
    row 0x0005 (codes "GPSAltitudeRef") (codes "Altitude reference")
    K.GpsAltitudeRef [] (Bytes (0 ∷ [])) ∷
    row 0x0006 (codes "GPSAltitude") (codes "Altitude")
    K.Decimal (Value ∷ Text (codes " meters ") ∷ Sibling Gps 0x0005 ∷ []) NoDefault ∷
    row 0x0007 (codes "GPSTimeStamp") (codes "GPS time (atomic clock)")
    K.GpsTimeStamp [] NoDefault ∷
    row 0x0008 (codes "GPSSatellites") (codes "GPS satellites used for measurement")
    K.Plain [] NoDefault ∷
    row 0x0009 (codes "GPSStatus") (codes "GPS receiver status") K.GpsStatus [] NoDefault ∷
    row 0x000a (codes "GPSMeasureMode") (codes "GPS measurement mode")
    K.GpsMeasureMode [] NoDefault ∷
    row 0x000b (codes "GPSDOP") (codes "Measurement precision") K.Decimal [] NoDefault ∷
    row 0x000c (codes "GPSSpeedRef") (codes "Speed unit") K.GpsSpeedRef [] (OneText (codes "K")) ∷
    row 0x000d (codes "GPSSpeed") (codes "Speed of GPS receiver")
    K.Decimal (Value ∷ Text (codes " ") ∷ Sibling Gps 0x000c ∷ []) NoDefault ∷
    row 0x000e (codes "GPSTrackRef") (codes "Reference for direction of movement")
    K.GpsDirectionRef [] (OneText (codes "T")) ∷
    row 0x000f (codes "GPSTrack") (codes "Direction of movement")
    K.Decimal (Value ∷ Text (codes " degrees in ") ∷ Sibling Gps 0x000e ∷ []) NoDefault ∷
    row 0x0010 (codes "GPSImgDirectionRef") (codes "Reference for direction of image")
    K.GpsDirectionRef [] (OneText (codes "T")) ∷
    row 0x0011 (codes "GPSImgDirection") (codes "Direction of image")
    K.Decimal (Value ∷ Text (codes " degrees in ") ∷ Sibling Gps 0x0010 ∷ []) NoDefault ∷
    row 0x0012 (codes "GPSMapDatum") (codes "Geodetic survey data used") K.Plain [] NoDefault ∷
    row 0x0013 (codes "GPSDestLatitudeRef") (codes "Reference for latitude of destination")
    K.GpsLatLongRef [] NoDefault ∷
    row 0x0014 (codes "GPSDestLatitude") (codes "Latitude of destination")
    K.GpsDegrees (Value ∷ Text (codes " ") ∷ Sibling Gps 0x0013 ∷ []) NoDefault ∷
    row 0x0015 (codes "GPSDestLongitudeRef") (codes "Reference for longitude of destination")
    K.GpsLatLongRef [] NoDefault ∷
    row 0x0016 (codes "GPSDestLongitude") (codes "Longitude of destination")
    K.GpsDegrees (Value ∷ Text (codes " ") ∷ Sibling Gps 0x0015 ∷ []) NoDefault ∷
    row 0x0017 (codes "GPSDestBearingRef") (codes "Reference for bearing of destination")
    K.GpsDirectionRef [] (OneText (codes "T")) ∷
    row 0x0018 (codes "GPSDestBearing") (codes "Bearing of destination")
    K.Decimal (Value ∷ Text (codes " degrees in ") ∷ Sibling Gps 0x0017 ∷ []) NoDefault ∷
    row 0x0019 (codes "GPSDestDistanceRef") (codes "Reference for distance to destination")
    K.GpsDistanceRef [] (OneText (codes "K")) ∷
    row 0x001a (codes "GPSDestDistance") (codes "Distance to destination")
    K.Decimal (Value ∷ Text (codes " ") ∷ Sibling Gps 0x0019 ∷ []) NoDefault ∷
    row 0x001b (codes "GPSProcessingMethod") (codes "Name of GPS processing method")
    K.UndefinedText [] NoDefault ∷
    row 0x001c (codes "GPSAreaInformation") (codes "Name of GPS area") K.Plain [] NoDefault ∷
    row 0x001d (codes "GPSDateStamp") (codes "GPS date") K.GpsDateStamp [] NoDefault ∷
    row 0x001e (codes "GPSDifferential") (codes "GPS differential correction")
    K.GpsDifferential [] NoDefault ∷
    row 0x001f (codes "GPSHPositioningError") (codes "Horizontal positioning error")
    K.Decimal (Value ∷ Text (codes " m") ∷ []) NoDefault ∷
    []

-- the tags of context Interop
abbrev pub interop_rows : List TagRow
interop_rows =
    row 0x0001 (codes "InteroperabilityIndex") (codes "Interoperability identification")
    K.Plain [] NoDefault ∷
    row 0x0002 (codes "InteroperabilityVersion") (codes "Interoperability version")
    K.InteropVersion [] NoDefault ∷
    row 0x1000 (codes "RelatedImageFileFormat") (codes "Related image file format")
    K.Plain [] NoDefault ∷
    row 0x1001 (codes "RelatedImageWidth") (codes "Related image width")
    K.Plain (Value ∷ Text (codes " pixels") ∷ []) NoDefault ∷
    row 0x1002 (codes "RelatedImageLength") (codes "Related image height")
    K.Plain (Value ∷ Text (codes " pixels") ∷ []) NoDefault ∷
    []

-- the rows of a context
abbrev pub rows_of : Context → List TagRow
rows_of Tiff = tiff_rows
rows_of Exif = exif_rows
rows_of Gps = gps_rows
rows_of Interop = interop_rows

-- the row with this number, if there is one
abbrev pub row_of : Context → ℕ → Option TagRow
row_of context number = find (λ r. r.number == number) (rows_of context)
