-- Values that have a text of their own (TIFF 6.0, section 8; Exif 2.32, sections 4.6.4 to 4.6.6).
use Rattle.std.specs.Prelude.{ℕ, List, [], ◌∷◌, map, Option, Some, None, codes}
use Rattle.exif_table.specs.declared.kind.TextKind.{TextKind}
use Rattle.exif_table.specs.declared.kind.TextKind.TheVariants as K
use Rattle.exif_table.specs.declared.fixed.Choice.{Choice}
use Rattle.exif_table.specs.declared.fixed.Choice.TheVariants.{FirstNumber, UndefinedByte, Letter}
use Rattle.exif_table.specs.declared.fixed.FixedTexts.{FixedTexts}

-- what a kind is called, what of a value chooses its text, and the texts by number or letter
pub record Texts : Type 0 where
  pub name : List ℕ
  pub chosen_by : Choice
  pub texts : List (ℕ × List ℕ)

-- the texts without their references
abbrev pub texts_view : FixedTexts → Texts
texts_view t = record {
  name = t.name.now;
  chosen_by = t.chosen_by;
  texts = map (λ p. (p.0, p.1.now)) t.texts.now;
}

abbrev named : List ℕ → Choice → List (ℕ × List ℕ) → Option Texts
named name choice texts = Some (record { name = name; chosen_by = choice; texts = texts })

-- the texts of a kind
abbrev pub fixed_texts_of : TextKind → Option Texts
fixed_texts_of K.Compression = named (codes "compression") FirstNumber
    ((1, codes "uncompressed") ∷ (2, codes "Modified Huffman") ∷ (6, codes "JPEG") ∷
    (32773, codes "PackBits") ∷ [])
fixed_texts_of K.PhotometricInterpretation = named (codes "photometric interpretation") FirstNumber
    ((0, codes "white is zero") ∷ (1, codes "black is zero") ∷ (2, codes "RGB") ∷
    (3, codes "palette color") ∷ (4, codes "transparency mask") ∷ (6, codes "YCbCr") ∷ [])
fixed_texts_of K.Orientation = named (codes "orientation") FirstNumber
    ((1, codes "row 0 at top and column 0 at left") ∷
    (2, codes "row 0 at top and column 0 at right") ∷
    (3, codes "row 0 at bottom and column 0 at right") ∷
    (4, codes "row 0 at bottom and column 0 at left") ∷
    (5, codes "row 0 at left and column 0 at top") ∷
    (6, codes "row 0 at right and column 0 at top") ∷
    (7, codes "row 0 at right and column 0 at bottom") ∷
    (8, codes "row 0 at left and column 0 at bottom") ∷ [])
fixed_texts_of K.PlanarConfiguration = named (codes "planar configuration") FirstNumber
    ((1, codes "chunky") ∷ (2, codes "planar") ∷ [])
fixed_texts_of K.ResolutionUnit = named (codes "resolution unit") FirstNumber
    ((1, codes "no absolute unit") ∷ (2, codes "inch") ∷ (3, codes "cm") ∷ [])
fixed_texts_of K.YCbCrPositioning = named (codes "YCbCr positioning") FirstNumber
    ((1, codes "centered") ∷ (2, codes "co-sited") ∷ [])
fixed_texts_of K.ExposureProgram = named (codes "exposure program") FirstNumber
    ((0, codes "not defined") ∷ (1, codes "manual") ∷ (2, codes "normal program") ∷
    (3, codes "aperture priority") ∷ (4, codes "shutter priority") ∷ (5, codes "creative program") ∷
    (6, codes "action program") ∷ (7, codes "portrait mode") ∷ (8, codes "landscape mode") ∷ [])
fixed_texts_of K.SensitivityType = named (codes "sensitivity type") FirstNumber
    ((0, codes "unknown") ∷ (1, codes "SOS") ∷ (2, codes "REI") ∷ (3, codes "ISO speed") ∷
    (4, codes "SOS/REI") ∷ (5, codes "SOS/ISO speed") ∷ (6, codes "REI/ISO speed") ∷
    (7, codes "SOS/REI/ISO speed") ∷ [])
fixed_texts_of K.MeteringMode = named (codes "metering mode") FirstNumber
    ((0, codes "unknown") ∷ (1, codes "average") ∷ (2, codes "center-weighted average") ∷
    (3, codes "spot") ∷ (4, codes "multi-spot") ∷ (5, codes "pattern") ∷ (6, codes "partial") ∷
    (255, codes "other") ∷ [])
fixed_texts_of K.LightSource = named (codes "light source") FirstNumber
    ((0, codes "unknown") ∷ (1, codes "daylight") ∷ (2, codes "fluorescent") ∷
    (3, codes "tungsten") ∷ (4, codes "flash") ∷ (9, codes "fine weather") ∷
    (10, codes "cloudy weather") ∷ (11, codes "shade") ∷
    (12, codes "daylight fluorescent (D 5700-7100K)") ∷
    (13, codes "day white fluorescent (N 4600-5500K)") ∷
    (14, codes "cool white fluorescent (W 3800-4500K)") ∷
    (15, codes "white fluorescent (WW 3250-3800K)") ∷
    (16, codes "warm white fluorescent (L 2600-3250K)") ∷ (17, codes "standard light A") ∷
    (18, codes "standard light B") ∷ (19, codes "standard light C") ∷ (20, codes "D55") ∷
    (21, codes "D65") ∷ (22, codes "D75") ∷ (23, codes "D50") ∷ (24, codes "ISO studio tungsten") ∷
    (255, codes "other") ∷ [])
fixed_texts_of K.ColorSpace = named (codes "color space") FirstNumber
    ((1, codes "sRGB") ∷ (65535, codes "uncalibrated") ∷ [])
fixed_texts_of K.SensingMethod = named (codes "sensing method") FirstNumber
    ((1, codes "not defined") ∷ (2, codes "one-chip color area sensor") ∷
    (3, codes "two-chip color area sensor") ∷ (4, codes "three-chip color area sensor") ∷
    (5, codes "color sequential area sensor") ∷ (7, codes "trilinear sensor") ∷
    (8, codes "color sequential linear sensor") ∷ [])
fixed_texts_of K.FileSource = named (codes "file source") UndefinedByte
    ((0, codes "others") ∷ (1, codes "transparency scanner") ∷ (2, codes "reflective scanner") ∷
    (3, codes "digital still camera") ∷ [])
fixed_texts_of K.SceneType = named (codes "scene type") UndefinedByte
    ((1, codes "directly photographed image") ∷ [])
fixed_texts_of K.CustomRendered = named (codes "custom rendered") FirstNumber
    ((0, codes "normal process") ∷ (1, codes "custom process") ∷ [])
fixed_texts_of K.ExposureMode = named (codes "exposure mode") FirstNumber
    ((0, codes "auto exposure") ∷ (1, codes "manual exposure") ∷ (2, codes "auto bracket") ∷ [])
fixed_texts_of K.WhiteBalance = named (codes "white balance mode") FirstNumber
    ((0, codes "auto white balance") ∷ (1, codes "manual white balance") ∷ [])
fixed_texts_of K.SceneCaptureType = named (codes "scene capture type") FirstNumber
    ((0, codes "standard") ∷ (1, codes "landscape") ∷ (2, codes "portrait") ∷
    (3, codes "night scene") ∷ [])
fixed_texts_of K.GainControl = named (codes "gain control") FirstNumber
    ((0, codes "none") ∷ (1, codes "low gain up") ∷ (2, codes "high gain up") ∷
    (3, codes "low gain down") ∷ (4, codes "high gain down") ∷ [])
fixed_texts_of K.Contrast = named (codes "contrast processing") FirstNumber
    ((0, codes "normal") ∷ (1, codes "soft") ∷ (2, codes "hard") ∷ [])
fixed_texts_of K.Sharpness = named (codes "sharpness processing") FirstNumber
    ((0, codes "normal") ∷ (1, codes "soft") ∷ (2, codes "hard") ∷ [])
fixed_texts_of K.Saturation = named (codes "saturation processing") FirstNumber
    ((0, codes "normal") ∷ (1, codes "low saturation") ∷ (2, codes "high saturation") ∷ [])
fixed_texts_of K.SubjectDistanceRange = named (codes "subject distance range") FirstNumber
    ((0, codes "unknown") ∷ (1, codes "macro") ∷ (2, codes "close view") ∷
    (3, codes "distant view") ∷ [])
fixed_texts_of K.CompositeImage = named (codes "composite image") FirstNumber
    ((0, codes "unknown") ∷ (1, codes "non-composite") ∷ (2, codes "composite (general)") ∷
    (3, codes "composite (at the moment of shooting)") ∷ [])
fixed_texts_of K.GpsAltitudeRef = named (codes "GPS altitude ref") FirstNumber
    ((0, codes "above sea level") ∷ (1, codes "below sea level") ∷ [])
fixed_texts_of K.GpsDifferential = named (codes "GPS differential correction") FirstNumber
    ((0, codes "no differential correction") ∷ (1, codes "differential correction applied") ∷ [])
fixed_texts_of K.GpsStatus = named (codes "GPS status") Letter
    ((65, codes "measurement in progress") ∷ (86, codes "measurement interrupted") ∷ [])
fixed_texts_of K.GpsMeasureMode = named (codes "GPS measurement mode") Letter
    ((50, codes "2-dimensional measurement") ∷ (51, codes "3-dimensional measurement") ∷ [])
fixed_texts_of K.GpsSpeedRef = named (codes "GPS speed ref") Letter
    ((75, codes "km/h") ∷ (77, codes "mph") ∷ (78, codes "knots") ∷ [])
fixed_texts_of K.GpsDirectionRef = named (codes "GPS direction ref") Letter
    ((84, codes "true direction") ∷ (77, codes "magnetic direction") ∷ [])
fixed_texts_of K.GpsDistanceRef = named (codes "GPS distance ref") Letter
    ((75, codes "km") ∷ (77, codes "miles") ∷ (78, codes "nautical miles") ∷ [])
fixed_texts_of _ = None
