-- The datasets that are a location, and those that hold a text or a picture, each with its name
-- (IPTC-NAA Information Interchange Model 4.2, chapters 5, 6 and 8; Digital Newsphoto Parameter
-- Record), or with the program that writes it.
use Rattle.std.specs.Prelude.{ℕ, List, [], ◌∷◌}

-- the datasets of the second record that are a location
abbrev pub location_numbers : List ℕ
location_numbers =
    26 ∷  -- Content Location Code
    27 ∷  -- Content Location Name
    90 ∷  -- City
    92 ∷  -- Sub-location
    95 ∷  -- Province/State
    100 ∷  -- Country/Primary Location Code
    101 ∷  -- Country/Primary Location Name
    []

-- those that hold a text, keywords or a picture
abbrev pub text_numbers : List ℕ
text_numbers =
    5 ∷  -- Object Name
    12 ∷  -- Subject Reference
    15 ∷  -- Category
    20 ∷  -- Supplemental Category
    25 ∷  -- Keywords
    40 ∷  -- Special Instructions
    105 ∷  -- Headline
    116 ∷  -- Copyright Notice
    118 ∷  -- Contact
    120 ∷  -- Caption/Abstract
    121 ∷  -- a local caption
    122 ∷  -- Writer/Editor
    125 ∷  -- Rasterized Caption
    202 ∷  -- ObjectData Preview Data
    230 ∷  -- notes of the document
    231 ∷  -- its history
    255 ∷  -- the sets of a catalogue (MediaPro)
    []

-- the other records whose datasets may hold a text or a picture
abbrev pub text_records : List ℕ
text_records =
    1 ∷  -- Envelope Record
    3 ∷  -- Digital Newsphoto Parameter Record
    8 ∷  -- Object Data Record
    240 ∷  -- FotoStation
    []

-- the character sets UTF-8 and ISO 8859-1, as Coded Character Set (1:90) has them (ISO 2022)
abbrev pub character_sets : List (List ℕ)
character_sets = (27 ∷ 37 ∷ 71 ∷ []) ∷ (27 ∷ 46 ∷ 65 ∷ []) ∷ []
