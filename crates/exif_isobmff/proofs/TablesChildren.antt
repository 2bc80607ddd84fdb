-- The children of `meta` one after the other, as a loop reads them.
use Rattle.std.proofs.Common.{◌≡◌, ℕ, ◌<◌, List, length, Option, Result, Ok, Err, refl, sym, ap, ◌∙◌}
use Rattle.std.specs.List.{last_or}
use Rattle.exif_types.specs.Failures.{Failure}
use Rattle.exif_isobmff.specs.declared.kind.Kind.{Kind}
use Rattle.exif_isobmff.specs.declared.kind.Kind.TheVariants.{FileType, Meta, ItemData, ItemInfo, ItemInfoEntry, ItemLocation, Other}
use Rattle.exif_types.specs.Refusals.{Refusal, ◌>>=◌, Refuses, last_read}
use Rattle.exif_isobmff.specs.Boxes.{Parts, before, and_then, whole_part, box_at, children, all_boxes, bodies, read_each}
use Rattle.exif_isobmff.specs.Items.{exif_numbers}
use Rattle.exif_isobmff.specs.Heif.{Tables}
use Rattle.exif_isobmff.specs.TablesView.{table_with}
use Rattle.exif_types.proofs.Refusing.{refuses_along}
use Rattle.exif_isobmff.proofs.ItemsBoxes.{read_more}
use Rattle.exif_isobmff.proofs.SplitterBoxes.{all_boxes_more, all_boxes_end, box_shorter}

-- what counts among boxes, with what counted before
abbrev pub tables_from : Tables → Parts → Result Tables Refusal
tables_from t parts = last_read t.item (read_each ItemInfo exif_numbers parts) >>= λ item. Ok (record { item = item; iloc = last_or t.iloc (bodies ItemLocation parts); idat = last_or t.idat (bodies ItemData parts) })

item_more : (t : Tables) (ps : Parts) (r : Result (List ℕ) Refusal)
    → ((r >>= λ ys. last_read (last_or t.item ys) (read_each ItemInfo exif_numbers ps)) >>= λ item. let made : Result Tables Refusal = Ok (record { item = item; iloc = last_or t.iloc (bodies ItemLocation ps); idat = last_or t.idat (bodies ItemData ps) }) in made)
    ≡ ((last_read t.item r >>= λ item. let made : Result Tables Refusal = Ok (record { item = item; iloc = t.iloc; idat = t.idat }) in made) >>= λ u. tables_from u ps)
item_more t ps (Ok ys) = refl
item_more t ps (Err r) = refl

table_more : (t : Tables) (kind : Kind) (body : List ℕ) (ps : Parts) → tables_from t (before (whole_part kind body) ps) ≡ (table_with kind body t >>= λ u. tables_from u ps)
table_more t ItemInfo body ps =
    ap (λ (r : Result (Option ℕ) Refusal). r >>= λ item. let made : Result Tables Refusal = Ok (record { item = item; iloc = last_or t.iloc (bodies ItemLocation ps); idat = last_or t.idat (bodies ItemData ps) }) in made) (read_more t.item ItemInfo exif_numbers (whole_part ItemInfo body) ps) ∙ item_more t ps (exif_numbers body)
table_more t ItemLocation body ps = refl
table_more t ItemData body ps = refl
table_more t FileType body ps = refl
table_more t Meta body ps = refl
table_more t ItemInfoEntry body ps = refl
table_more t Other body ps = refl

-- the next child
pub child_more : (t : Tables) (kind : Kind) (body text rest : List ℕ) → 0 < length text → box_at text ≡ Ok (whole_part kind body, rest)
    → tables_from t (children text) ≡ (table_with kind body t >>= λ u. tables_from u (children rest))
child_more t kind body text rest some h =
    ap (λ ps. tables_from t ps) (all_boxes_more box_at box_shorter text some) ∙ ap (λ b. tables_from t (and_then b (all_boxes box_at))) h ∙ table_more t kind body (children rest)

-- the loop goes on behind a child
pub child_went_on : (t u : Tables) (kind : Kind) (body text rest : List ℕ) (total : Result Tables Refusal) → 0 < length text → box_at text ≡ Ok (whole_part kind body, rest)
    → table_with kind body t ≡ Ok u → tables_from t (children text) ≡ total → tables_from u (children rest) ≡ total
child_went_on t u kind body text rest total some h k so_far =
    sym (child_more t kind body text rest some h ∙ ap (λ r. r >>= λ v. tables_from v (children rest)) k) ∙ so_far

-- a child that is refused is the refusal of `meta`
pub child_failed : (e : Failure) (t : Tables) (kind : Kind) (body text rest : List ℕ) → 0 < length text → box_at text ≡ Ok (whole_part kind body, rest)
    → Refuses e (table_with kind body t) → Refuses e (tables_from t (children text))
child_failed e t kind body text rest some h k =
    rw (child_more t kind body text rest some h) (refuses_along e (λ r. r >>= λ u. tables_from u (children rest)) (table_with kind body t) (λ r. refl) k)

-- bytes that are no box are the refusal of `meta`
pub child_cut : (e : Failure) (t : Tables) (text : List ℕ) → 0 < length text → Refuses e (box_at text) → Refuses e (tables_from t (children text))
child_cut e t text some h =
    rw (all_boxes_more box_at box_shorter text some) (refuses_along e (λ b. tables_from t (and_then b (all_boxes box_at))) (box_at text) (λ r. refl) h)

-- no more children are there
pub children_done : (t : Tables) (text : List ℕ) → length text ≡ 0 → tables_from t (children text) ≡ Ok t
children_done t text h = ap (λ ps. tables_from t ps) (all_boxes_end box_at text h)
