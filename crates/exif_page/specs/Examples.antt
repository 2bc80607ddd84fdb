-- Worked examples: the definitions compute what small pages hold.
use Rattle.std.specs.Prelude.{◌≡◌, refl, ℕ, List, [], ◌∷◌, ◌++◌, None, Some, codes}
use denote.Ref.{Bor}
use Rattle.base64.specs.Rfc4648.{encode_symbols}
use Rattle.std.specs.Fmt.{digits}
use Rattle.exif_page.specs.Cameras.{camera_of}
use Rattle.exif_page.specs.Cards.{attribute, attributes, card, facts, link, location, opened, picture, place, within}
use Rattle.exif_page.specs.Dates.{day_of, time_of}
use Rattle.exif_page.specs.Escaping.{between, between_if, escaped}
use Rattle.exif_page.specs.Exposures.{exposure_of, time_part}
use Rattle.exif_page.specs.Links.{link_of}
use Rattle.exif_page.specs.Numbers.{billionths_of, short_text}
use Rattle.exif_page.specs.Paths.{file_name}
use Rattle.exif_page.specs.Sections.{closing, opening, section_of, start}
use Rattle.exif_page.specs.Thumbnails.{base64, jpeg_html, thumbnail_html}
use Rattle.exif_page.specs.declared.entries.Entry.{Entry}
use Rattle.exif_page.specs.declared.entries.Thumbnail.TheVariants.{Jpeg, Line}
use Rattle.exif_page.specs.declared.sections.Section.TheVariants.{Closed, Day, Undated}

escaped_all : escaped (codes "<a b=\"c\">'d' & e</a>")
    ≡ codes "&lt;a b=&quot;c&quot;&gt;&#39;d&#39; &amp; e&lt;/a&gt;"
unfolding escaped
escaped_all = refl

name_of_path : file_name (codes "2024/may/a.jpg") ≡ codes "a.jpg"
name_of_path = refl

name_of_name : file_name (codes "a.jpg") ≡ codes "a.jpg"
name_of_name = refl

name_of_folder : file_name (codes "may/") ≡ []
name_of_folder = refl

-- a picture below the page's folder, one in a folder beside it, and one of another folder whose
-- name begins alike
below : link_of (codes "/p/") (codes "/p/may/a 1.jpg") ≡ codes "may/a%201.jpg"
below = refl

beside : link_of (codes "/p/pages/") (codes "/p/may/a.jpg") ≡ codes "../may/a.jpg"
beside = refl

alike : link_of (codes "/p/may1/") (codes "/p/may2/a.jpg") ≡ codes "../may2/a.jpg"
alike = refl

-- `#`, `?`, `%`, `:` and a byte of UTF-8 would end the path or be read otherwise
escaped_path : link_of (codes "/") (codes "/#?%:" ++ 195 ∷ []) ≡ codes "%23%3F%25%3A%C3"
escaped_path = refl

base64_of_man : base64 (codes "Man") ≡ codes "TWFu"
unfolding base64 encode_symbols
base64_of_man = refl

base64_of_ma : base64 (codes "Ma") ≡ codes "TWE="
unfolding base64 encode_symbols
base64_of_ma = refl

zurich : link (codes "47.3769") (codes "8.5417")
    ≡ codes "<p><a href=\"geo:47.3769,8.5417\">47.3769, 8.5417</a></p>\n"
unfolding link between escaped
zurich = refl

no_location : location None None ≡ []
unfolding location
no_location = refl

no_attribute : attribute (codes "day") None ≡ []
unfolding attribute
no_attribute = refl

-- a borrowed text
abbrev text : List ℕ → Bor (List ℕ)
text bytes = record { ref_ptr = (0, 0); now = bytes }

-- a thumbnail has its place in the card, and its data behind all cards; a line has no data
a_place : picture (codes "a&b.jpg") (Jpeg (text (codes "Man")))
    ≡ codes "<span class=\"thumb\"></span>\n<h3>a&amp;b.jpg</h3>\n"
unfolding picture place between escaped
a_place = refl

its_data : thumbnail_html (Jpeg (text (codes "Man")))
    ≡ codes "<script type=\"text/plain\">TWFu</script>\n"
unfolding thumbnail_html jpeg_html base64 encode_symbols
its_data = refl

no_data : thumbnail_html (Line (text (codes "No thumbnail"))) ≡ []
unfolding thumbnail_html
no_data = refl

abbrev beach : Entry
beach = record {
  path = text (codes "a/b.jpg");
  link = Some (text (codes "../a/b.jpg"));
  orientation = Some (text (codes "6"));
  day = Some (text (codes "2024-05-01"));
  time = None;
  camera = Some (text (codes "R&D"));
  exposure = None;
  latitude = Some (text (codes "1.5"));
  longitude = None;
  thumbnail = Line (text (codes "No thumbnail"));
}

-- no link without a longitude
card_of_beach : card beach
    ≡ codes "<li data-path=\"a/b.jpg\" data-camera=\"R&amp;D\" data-orientation=\"6\""
    ++ (codes " data-day=\"2024-05-01\" data-latitude=\"1.5\">\n"
    ++ (codes "<a class=\"open\" href=\"../a/b.jpg\">\n<p class=\"none\">No thumbnail</p>\n"
    ++ codes "<h3>b.jpg</h3>\n</a>\n<p class=\"path\">a/b.jpg</p>\n<p>R&amp;D</p>\n</li>\n"))
unfolding card attributes attribute opened within picture place facts location between between_if
    escaped
card_of_beach = refl

first_day : opening Closed (section_of beach)
    ≡ codes "<section>\n<h2>2024-05-01 <span></span></h2>\n<ul>\n"
unfolding opening closing start between escaped
first_day = refl

same_day : opening (Day (text (codes "2024-05-01"))) (section_of beach) ≡ []
unfolding opening
same_day = refl

next_day : opening (Day (text (codes "2024-04-30"))) (section_of beach)
    ≡ codes "</ul>\n</section>\n<section>\n<h2>2024-05-01 <span></span></h2>\n<ul>\n"
unfolding opening closing start between escaped
next_day = refl

no_day : opening (section_of beach) Undated
    ≡ codes "</ul>\n</section>\n<section>\n<h2>Without a date <span></span></h2>\n<ul>\n"
unfolding opening closing start
no_day = refl

-- the day and the time in a date
a_day : day_of (codes "2016-05-04T03:02:01.74+09:00") ≡ Some (codes "2016-05-04")
a_day = refl

a_time : time_of (codes "2016-05-04T03:02:01.74+09:00") ≡ Some (codes "03:02:01")
a_time = refl

no_seconds : day_of (codes "2016-05-04T03:02") ≡ None
no_seconds = refl

-- a make that the model repeats, one that it only begins with, and one that it does not
repeated_make : camera_of (Some (codes "EXAMPLE WORKS")) (Some (codes "Example Two"))
    ≡ Some (codes "Example Two")
repeated_make = refl

longer_word : camera_of (Some (codes "Canon")) (Some (codes "Canonet"))
    ≡ Some (codes "Canon Canonet")
longer_word = refl

other_make : camera_of (Some (codes "Example")) (Some (codes "Pinhole"))
    ≡ Some (codes "Example Pinhole")
other_make = refl

no_model : camera_of (Some (codes "Example")) None ≡ Some (codes "Example")
no_model = refl

-- decimal numbers
half : billionths_of (codes "0.5") ≡ Some 500000000
half = refl

no_number : billionths_of (codes "1/2") ≡ None
no_number = refl

two_places : short_text 1779685264 ≡ codes "1.78"
unfolding digits
two_places = refl

one_place : short_text 2800000000 ≡ codes "2.8"
unfolding digits
one_place = refl

whole_number : short_text 34996000000 ≡ codes "35"
unfolding digits
whole_number = refl

-- times: a part of a second, also where it was cut, and those that no part says well
sixtieth : time_part (Some (codes "0.016666666")) ≡ Some (codes "1/60 s")
unfolding digits
sixtieth = refl

third : time_part (Some (codes "0.333333333")) ≡ Some (codes "1/3 s")
unfolding digits
third = refl

three_tenths : time_part (Some (codes "0.3")) ≡ Some (codes "0.3 s")
unfolding digits
three_tenths = refl

half_a_minute : time_part (Some (codes "30")) ≡ Some (codes "30 s")
unfolding digits
half_a_minute = refl

-- whole exposures
all_known : exposure_of (Some (codes "0.005")) (Some (codes "2.8")) (Some (codes "100"))
    (Some (codes "35")) ≡ Some (codes "1/200 s, f/2.8, ISO 100, 35 mm")
unfolding digits
all_known = refl

lens_unknown : exposure_of (Some (codes "1.3")) (Some (codes "0")) None None
    ≡ Some (codes "1.3 s")
unfolding digits
lens_unknown = refl

nothing_known : exposure_of None None None None ≡ None
nothing_known = refl
