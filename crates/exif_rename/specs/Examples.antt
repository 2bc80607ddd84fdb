-- Worked examples: patterns, names and plans.
use Rattle.std.specs.Prelude.{◌≡◌, refl, ℕ, List, [], ◌∷◌, ◌++◌, Bool, true, false, not, None, Some, Ok, Err, codes, filter}
use Rattle.std.specs.Char.{encode_utf8}
use Rattle.std.specs.Fmt.{digits}
use Rattle.std.specs.Str.{chars, trim_end, trim_start}
use Rattle.std.specs.declared.cmp.Ordering.TheVariants.{Less, Greater}
use Rattle.exif_files.specs.Each.{is_among}
use Rattle.exif_rename.specs.Grouped.{ending_of, grouped}
use Rattle.exif_rename.specs.Lines.{is_filled, lines_in}
use Rattle.exif_rename.specs.Naming.{Known, named, safe}
use Rattle.exif_rename.specs.Nested.{folders_of}
use Rattle.exif_rename.specs.Orders.{dated_cmp, moment_cmp}
use Rattle.exif_rename.specs.Patterns.{parsed}
use Rattle.exif_rename.specs.Planned.{fit_from, own_from, planned}
use Rattle.exif_rename.specs.Texts.{pattern_text}
use Rattle.exif_rename.specs.Together.{place, places}
use Rattle.exif_rename.specs.Undo.{line_of}
use Rattle.exif_rename.specs.Unused.{unused, unused_from}
use Rattle.exif_rename.specs.RenameRequests.{Wanted, moves_by}
use Rattle.exif_rename.specs.declared.naming.Missing.TheVariants as missing
use Rattle.exif_rename.specs.declared.naming.Taken.{Taken}
use Rattle.exif_rename.specs.declared.pattern.DatePart.TheVariants.{Year, ShortYear, Month, Day}
use Rattle.exif_rename.specs.declared.pattern.Fault.TheVariants.{Empty, PercentAtEnd, UnknownLetter, UnknownName, UnclosedBrace, LoneBrace, NoName}
use Rattle.exif_rename.specs.declared.pattern.Part.TheVariants.{Literal, Date, Make, Model, Name}

-- ---- patterns

folders : parsed (codes "%Y/{Model}") ≡ Ok (Date Year ∷ Literal 47 ∷ Model ∷ [])
folders = refl

escapes : parsed (codes "%%{{}}") ≡ Ok (Literal 37 ∷ Literal 123 ∷ Literal 125 ∷ [])
escapes = refl

three_dots : parsed (codes "...") ≡ Ok (Literal 46 ∷ Literal 46 ∷ Literal 46 ∷ [])
three_dots = refl

nothing : parsed [] ≡ Err (record { fault = Empty; at = 0 })
nothing = refl

percent_at_end : parsed (codes "a%") ≡ Err (record { fault = PercentAtEnd; at = 1 })
percent_at_end = refl

unknown_letter : parsed (codes "%q") ≡ Err (record { fault = UnknownLetter; at = 0 })
unknown_letter = refl

unknown_name : parsed (codes "{Lens}") ≡ Err (record { fault = UnknownName; at = 0 })
unknown_name = refl

unclosed : parsed (codes "a{Make") ≡ Err (record { fault = UnclosedBrace; at = 1 })
unclosed = refl

lone_brace : parsed (codes "{Name}}") ≡ Err (record { fault = LoneBrace; at = 6 })
lone_brace = refl

absolute : parsed (codes "/a") ≡ Err (record { fault = NoName; at = 0 })
absolute = refl

double_slash : parsed (codes "a//b") ≡ Err (record { fault = NoName; at = 2 })
double_slash = refl

no_file : parsed (codes "a/") ≡ Err (record { fault = NoName; at = 2 })
no_file = refl

upwards : parsed (codes "%Y/../b") ≡ Err (record { fault = NoName; at = 3 })
upwards = refl

-- ---- names

abbrev march : Taken
march = record { year = 2024; month = 3; day = 9; hour = 7; minute = 5; second = 2 }

-- a picture of an old camera, whose model is blank
abbrev old_picture : Known
old_picture = record { taken = Some march; make = Some (codes "A/B "); model = Some (codes " "); name = codes "IMG_1" }

dated : named (Date Year ∷ Literal 45 ∷ Date Month ∷ Date Day ∷ Date ShortYear ∷ []) old_picture
    ≡ Ok (codes "2024-030924")
unfolding digits encode_utf8
dated = refl

with_make : named (Make ∷ Literal 95 ∷ Name ∷ []) old_picture ≡ Ok (codes "A_B_IMG_1")
unfolding chars encode_utf8 trim_start trim_end
with_make = refl

blank_model : named (Name ∷ Model ∷ []) old_picture ≡ Err missing.Model
unfolding chars encode_utf8 trim_start trim_end
blank_model = refl

parent : safe (codes "..") ≡ codes "__"
unfolding chars encode_utf8 trim_start trim_end
parent = refl

-- `é:` in UTF-8
accent : safe (195 ∷ 169 ∷ 58 ∷ []) ≡ 195 ∷ 169 ∷ 95 ∷ []
unfolding chars encode_utf8 trim_start trim_end
accent = refl

-- ---- plans

-- a picture and its sidecar, that are to have a name
abbrev with_sidecar : Wanted
with_sidecar = record {
  base = codes "x";
  files = record { old = codes "a.jpg"; ending = codes ".jpg" } ∷ record { old = codes "a.xmp"; ending = codes ".xmp" } ∷ [];
}

-- another picture, that has a number already, and a third one
abbrev numbered : Wanted
numbered = record { base = codes "x"; files = record { old = codes "x_1.jpg"; ending = codes ".jpg" } ∷ [] }

abbrev third : Wanted
third = record { base = codes "x"; files = record { old = codes "b.jpg"; ending = codes ".jpg" } ∷ [] }

-- these files, a sidecar `x.xmp` and a folder `x.jpg`
abbrev free_here : List ℕ → Bool
free_here n = not (is_among n (codes "a.jpg" ∷ codes "a.xmp" ∷ codes "x_1.jpg" ∷ codes "b.jpg"
    ∷ codes "x.xmp" ∷ codes "x.jpg" ∷ []))

three : planned free_here (with_sidecar ∷ numbered ∷ third ∷ []) ≡ Ok (2 ∷ 1 ∷ 3 ∷ [])
unfolding fit_from own_from digits
three = refl

-- a picture whose name was given by a number stays, though the name without one is free
stays : planned (λ n. not (is_among n (codes "x_1.jpg" ∷ []))) (numbered ∷ []) ≡ Ok (1 ∷ [])
unfolding own_from digits
stays = refl

-- the name that the first of two equal requests got is not given again, though nothing has it yet
given_once : planned (λ n. not (is_among n (codes "b.jpg" ∷ []))) (third ∷ third ∷ []) ≡ Ok (0 ∷ 1 ∷ [])
unfolding fit_from digits
given_once = refl

moves_of_both : moves_by with_sidecar 2
    ≡ (codes "a.jpg", codes "x_2.jpg") ∷ (codes "a.xmp", codes "x_2.xmp") ∷ []
unfolding digits
moves_of_both = refl

no_move : moves_by numbered 1 ≡ []
unfolding digits
no_move = refl

-- ---- the paths of new files

first_of_its_name : unused (λ q. is_among q (codes "b.png.jpg" ∷ [])) (codes "a.png") (codes ".jpg")
    ≡ Some (codes "a.png.jpg")
unfolding unused_from
first_of_its_name = refl

third_of_its_name : unused (λ q. is_among q (codes "a.png_1.jpg" ∷ codes "a.png.jpg" ∷ []))
    (codes "a.png") (codes ".jpg") ≡ Some (codes "a.png_2.jpg")
unfolding unused_from digits
third_of_its_name = refl

-- ---- the lines of a run

moved_line : line_of false (codes "/a b.jpg") (codes "/c.jpg") ≡ codes "/a b.jpg -> /c.jpg"
unfolding chars encode_utf8
moved_line = refl

-- a path with an arrow and a line feed (10)
coded_line : line_of true (codes "/a -> b") (47 ∷ 10 ∷ [])
    ≡ codes "/a -" ++ (92 ∷ codes "x3e b => /") ++ (92 ∷ codes "x0a")
unfolding chars encode_utf8
coded_line = refl

-- ---- the order of pictures

abbrev later : Taken
later = record { year = 2024; month = 3; day = 9; hour = 7; minute = 5; second = 3 }

-- the frames of one second, in the order of its fractions
fractions : moment_cmp (record { taken = march; nanosecond = 100000000 }) (record { taken = march; nanosecond = 900000000 }) ≡ Less
fractions = refl

-- no fraction makes up for a second
seconds : moment_cmp (record { taken = later; nanosecond = 0 }) (record { taken = march; nanosecond = 999999999 }) ≡ Greater
seconds = refl

without_a_date : dated_cmp None (Some (record { taken = march; nanosecond = 0 })) ≡ Greater
without_a_date = refl

-- ---- files of one stem

two_endings : ending_of (codes "d.x/a.tar.gz") ≡ codes ".gz"
two_endings = refl

only_a_name : ending_of (codes "d.x/.a") ≡ []
only_a_name = refl

-- a picture, its raw file, its two sidecars, a picture of another folder, and a sidecar alone
one_stem : grouped ((codes "d/a.JPG", false) ∷ (codes "d/a.NEF", false) ∷ (codes "d/a.jpg.xmp", true) ∷ (codes "d/a.xmp", true)
    ∷ (codes "e/a.JPG", false) ∷ (codes "d/b.c.xmp", true) ∷ []) ≡ 0 ∷ 0 ∷ 0 ∷ 0 ∷ 4 ∷ 5 ∷ []
one_stem = refl

-- two stems: a sidecar comes before its picture, and each file once
two_stems : places ((codes "d/a.JPG", false) ∷ (codes "d/b.JPG", false) ∷ (codes "d/a.xmp", true) ∷ [])
    ≡ place 0 2 ∷ place 0 0 ∷ place 1 1 ∷ []
two_stems = refl

-- ---- the lines of a run

two_lines : filter is_filled (lines_in (97 ∷ 10 ∷ 10 ∷ 98 ∷ 10 ∷ [])) ≡ (97 ∷ []) ∷ (98 ∷ []) ∷ []
two_lines = refl

no_line : filter is_filled (lines_in []) ≡ []
no_line = refl

-- ---- folders of new names

two_folders : folders_of (codes "2023/06/15") ≡ codes "2023/06"
two_folders = refl

no_folder : folders_of (codes "15") ≡ []
no_folder = refl

-- ---- what is said

unclosed_said : pattern_text (record { fault = UnclosedBrace; at = 4 })
    ≡ codes "character 5: this brace is not closed"
unfolding digits
unclosed_said = refl

letter_said : pattern_text (record { fault = UnknownLetter; at = 0 })
    ≡ codes "character 1: unknown % letter; expected %Y %y %m %d %H %M %S or %%"
unfolding digits
letter_said = refl

brace_said : pattern_text (record { fault = LoneBrace; at = 11 })
    ≡ codes "character 12: write }} for a brace"
unfolding digits
brace_said = refl
