-- Worked examples of the definitions.
use Rattle.std.specs.Prelude.{◌≡◌, [], ◌∷◌, pos, negsuc, codes, Some, None, Ok, true, false, refl}
use Rattle.sqlite_value.specs.declared.value.Value.TheVariants as value
use Rattle.exif_catalog.specs.Known.{is_below, mark_for, side_of}
use Rattle.exif_catalog.specs.Moves.{move_by, nobody, one, several}
use Rattle.exif_catalog.specs.Runs.{has_path, has_stamp_of}
use Rattle.exif_catalog.specs.Statements.{amount_at, mark_parameters}
use Rattle.exif_catalog.specs.Values.{amount_value, integer, null}
use Rattle.exif_catalog.specs.Totals.{more, outcome_of}
use Rattle.exif_catalog.specs.declared.known.Side.TheVariants as side
use Rattle.exif_catalog.specs.declared.known.Stamp.{Stamp}
use Rattle.exif_catalog.specs.declared.totals.Outcome.TheVariants as outcome

-- the greatest INTEGER of SQLite is 2 ^ 63 - 1
pub greatest : amount_value (Some 9223372036854775807) ≡ integer (pos 9223372036854775807)
greatest = refl

pub too_great : amount_value (Some 9223372036854775808) ≡ null
too_great = refl

-- what is below a folder
pub in_folder : is_below (codes "photos/a.jpg") (codes "photos") ≡ true
in_folder = refl

pub in_folder_with_slash : is_below (codes "photos/a.jpg") (codes "photos/") ≡ true
in_folder_with_slash = refl

pub in_other_folder : is_below (codes "photos2/a.jpg") (codes "photos") ≡ false
in_other_folder = refl

pub file_itself : is_below (codes "a.jpg") (codes "a.jpg") ≡ true
file_itself = refl

-- marks: one that was looked for and not seen, one that is there again, one that was not looked for
pub gone : mark_for false false true ≡ Some true
gone = refl

pub again : mark_for true true true ≡ Some false
again = refl

pub elsewhere : mark_for false false false ≡ None
elsewhere = refl

-- moves: a picture without a row before is new; one that is gone and one that is new with its bytes
new_picture : side_of None (codes "b.jpg") [] ≡ Some side.New
new_picture = refl

a_move : move_by (one (codes "a.jpg")) (one (codes "b.jpg")) ≡ Some (codes "a.jpg", codes "b.jpg")
a_move = refl

-- two copies of one that is gone, one of two that are gone, and a picture that is only new
two_copies : move_by (one (codes "a.jpg")) several ≡ None
two_copies = refl

one_of_two : move_by several (one (codes "b.jpg")) ≡ None
one_of_two = refl

only_new : move_by nobody (one (codes "b.jpg")) ≡ None
only_new = refl

-- a file of 5 bytes that was written at second 7
abbrev at_seven : Stamp
at_seven = record {
  size = 5;
  modified = 7;
  modified_ns = 1;
  changed = 7;
  changed_ns = 2;
  device = 3;
  inode = 4;
}

-- a picture without a row is read, and so is one whose file's stamp is not known
no_row : has_stamp_of None (Some at_seven) ≡ false
no_row = refl

no_time : has_stamp_of (Some (record { stamp = None; is_removed = false; is_seen = false })) None
    ≡ false
no_time = refl

same_file : has_stamp_of
    (Some (record {
      stamp = Some at_seven;
      is_removed = false;
      is_seen = false;
    }))
    (Some at_seven) ≡ true
same_file = refl

-- another program wrote as many bytes, and set the time back
written_again : has_stamp_of
    (Some (record {
      stamp = Some at_seven;
      is_removed = false;
      is_seen = false;
    }))
    (Some (record at_seven { changed = 9 })) ≡ false
written_again = refl

-- or another file was moved there
moved_there : has_stamp_of
    (Some (record {
      stamp = Some at_seven;
      is_removed = false;
      is_seen = false;
    }))
    (Some (record at_seven { inode = 5 })) ≡ false
moved_there = refl

-- values without a path are no row
no_path : has_path (codes "a.jpg") [] ≡ false
no_path = refl

-- a row that is written is new, or was there
new_row : outcome_of false ≡ outcome.Added
new_row = refl

old_row : outcome_of true ≡ outcome.Changed
old_row = refl

greatest_count : more 18446744073709551615 ≡ 18446744073709551615
greatest_count = refl

-- a number that is negative is no amount
negative : amount_at (value.Int (negsuc 0) ∷ []) 0 ≡ Ok None
negative = refl

-- what marks a row as removed
removed_row : mark_parameters (codes "a.jpg") true
    ≡ value.Text (codes "a.jpg") ∷ value.Int (pos 1) ∷ []
removed_row = refl
