-- Texts that the first numbers of a value choose (Exif 2.32, section 4.6.5; TIFF 6.0, section 21).
use Rattle.std.specs.Prelude.{ℕ, Bool, ◌==◌, ◌&&◌, if◌then◌else◌, List, ◌++◌, codes, Option, Some, None, unwrap_or}
use Rattle.std.specs.Fmt.{decimal}
use Rattle.exif_text.specs.Contents.{Plain}
use Rattle.exif_text.specs.Plain.{plain_text}
use Rattle.exif_text.specs.Unsigned.{number_at}

-- the text for 0, another text for other numbers and for none
abbrev pub if_zero : Option ℕ → List ℕ → List ℕ → List ℕ
if_zero None text otherwise = otherwise
if_zero (Some n) text otherwise = if n == 0 then text else otherwise

-- a focal length, of which 0 is unknown
abbrev pub focal_length_text : Plain → List ℕ
focal_length_text v = if_zero (number_at v 0) (codes "unknown") (plain_text v)

-- both numbers are these
abbrev are : ℕ → ℕ → ℕ → ℕ → Bool
are h v m n = h == m && v == n

-- how often color is sampled for each brightness: across and down
abbrev pub sampling_of : Option ℕ → Option ℕ → Option (List ℕ)
sampling_of (Some h) (Some v) =
    if are h v 1 1 then Some (codes "full horizontally, full vertically (4:4:4)")
    else (if are h v 2 1 then Some (codes "half horizontally, full vertically (4:2:2)")
    else (if are h v 2 2 then Some (codes "half horizontally, half vertically (4:2:0)")
    else (if are h v 4 1 then Some (codes "quarter horizontally, full vertically (4:1:1)")
    else (if are h v 4 2 then Some (codes "quarter horizontally, half vertically")
    else (if are h v 4 4 then Some (codes "quarter horizontally, quarter vertically")
    else None)))))
sampling_of _ _ = None

-- the sampling by the first two numbers
abbrev pub sampling_text : Plain → List ℕ
sampling_text v = unwrap_or (sampling_of (number_at v 0) (number_at v 1)) (plain_text v)

-- a place
abbrev pub place_text : ℕ → ℕ → List ℕ
place_text x y = codes "x=" ++ (decimal x ++ (codes ", y=" ++ decimal y))

-- four numbers are a rectangle, three a circle, two a point
abbrev pub area_of : Option ℕ → Option ℕ → Option ℕ → Option ℕ → Option (List ℕ)
area_of (Some x) (Some y) (Some w) (Some h) =
    Some (codes "rectangle ("
    ++ (place_text x y ++ (codes ", w="
    ++ (decimal w ++ (codes ", h=" ++ (decimal h ++ codes ")"))))))
area_of (Some x) (Some y) (Some d) None =
    Some (codes "circle (" ++ (place_text x y ++ (codes ", d=" ++ (decimal d ++ codes ")"))))
area_of (Some x) (Some y) None h = Some (codes "point (" ++ (place_text x y ++ codes ")"))
area_of _ _ w h = None

-- the area of the first numbers
abbrev pub area_text : Plain → List ℕ
area_text v = unwrap_or (area_of (number_at v 0) (number_at v 1) (number_at v 2) (number_at v 3))
    (plain_text v)

-- how many images there were, and how many were used
abbrev pub counts_of : Option ℕ → Option ℕ → Option (List ℕ)
counts_of (Some total) (Some used) =
    Some (codes "total " ++ (decimal total ++ (codes ", used " ++ decimal used)))
counts_of _ _ = None

-- the counts of the first two numbers
abbrev pub counts_text : Plain → List ℕ
counts_text v = unwrap_or (counts_of (number_at v 0) (number_at v 1)) (plain_text v)
