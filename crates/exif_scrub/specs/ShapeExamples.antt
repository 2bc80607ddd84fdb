-- Worked examples: which values tags have (TIFF 6.0, section 8).
use Rattle.std.specs.Prelude.{◌≡◌, refl, true, false, [], ◌∷◌}
use Rattle.exif_scrub.specs.Shapes.{items_fit, type_fits}

-- a width is a number of 16 or 32 bits, and no text; a resolution is a fraction; bits of samples
-- have 16 bits; JPEG tables are bytes; the range of dots is bytes or numbers; directories are offsets
types : type_fits 256 3 ∷ type_fits 256 4 ∷ type_fits 256 2 ∷ type_fits 282 5 ∷ type_fits 282 4
    ∷ type_fits 258 3 ∷ type_fits 258 4 ∷ type_fits 347 7 ∷ type_fits 336 1 ∷ type_fits 336 2
    ∷ type_fits 330 13 ∷ type_fits 340 11 ∷ type_fits 340 2 ∷ []
    ≡ true ∷ true ∷ false ∷ true ∷ false ∷ true ∷ false ∷ true ∷ true ∷ false ∷ true ∷ true
    ∷ false ∷ []
types = refl

-- one width; a number of bits for each of three samples; a colour map of 4 bits has 48 values, and
-- one of 17 bits is none; two numbers of pages
counts : items_fit 256 3 8 1 ∷ items_fit 256 3 8 2 ∷ items_fit 258 3 8 3 ∷ items_fit 258 3 8 4
    ∷ items_fit 320 1 4 48 ∷ items_fit 320 1 4 49 ∷ items_fit 320 1 17 1 ∷ items_fit 297 1 1 2 ∷ []
    ≡ true ∷ false ∷ true ∷ false ∷ true ∷ false ∷ false ∷ true ∷ []
counts = refl
