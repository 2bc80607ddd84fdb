-- Scrubbing what was read.
use Rattle.exif_layout.proofs.Moved.{same_moved}
use Rattle.std.proofs.Common.{◌≡◌, ◌∙◌, ℕ, ◌<◌, List, [], ◌∷◌, refl, sym, ap, arith, Bool, true, false}
use Rattle.std.proofs.lemmas.List.Elements.{All-filter, All-contains, filter_passes, recursion_from_All, All-from_recursion}
use Rattle.std.specs.Prelude.{◌&&◌, not}
use Rattle.std.specs.List.{AllByRecursion, filter}
use Rattle.exif_types.specs.Sound.{HasPlainTexts, IsRead}
use Rattle.exif_types.specs.declared.value.Value.{Value}
use Rattle.exif_types.specs.declared.field.Field.{Field}
use Rattle.exif_layout.specs.Encoding.{moved_to}
use Rattle.exif_layout.specs.Flat.{flat}
use Rattle.exif_layout.specs.Groups.{Group}
use Rattle.exif_layout.specs.Image.{image}
use Rattle.exif_layout.specs.Ranged.{AreReadable}
use Rattle.exif_layout.specs.Refused.{is_unknown}
use Rattle.exif_layout.specs.Rewriting.{pushed_all}
use Rattle.exif_layout.specs.Pushing.{IsMoved, HaveNoBlocks}
use Rattle.exif_layout.specs.Scrubbing.{is_gps, is_kept, kept, scrubbed, ScrubsToKept, ScrubsOnce, Scrubs}
use Rattle.exif_base.specs.declared.endian.Order.{Order}
use Rattle.exif_layout.proofs.Images.Pushed.{weaker, pushes_plain, pushes_few, pushes_no_blocks, sets_nothing, has_pushed_alone}
use Rattle.exif_layout.proofs.Images.Laws.{reads_back}
use Rattle.exif_layout.proofs.Images.Rewritten.{rewrites_same}

both : (a b : Bool) → (not a && not b) ≡ true → (a ≡ false) × (b ≡ false)
both true b h = absurd cc
both false true h = absurd cc
both false false h = (refl, refl)

neither : (a b : Bool) → a ≡ false → b ≡ false → (not a && not b) ≡ true
neither a b h k = rw (h, k) refl

unknown_moved : (offset : ℕ) (value : Value) → is_unknown (moved_to offset value) ≡ is_unknown value
unknown_moved offset value = (same_moved value offset).unknown

all_pass : {X : Type 0} (test : X → Bool) (xs : List X) → AllByRecursion (λ x. test x ≡ true) xs → filter test xs ≡ xs
all_pass test [] h = refl
all_pass test (x ∷ xs) h = rw h.0 (ap (λ r. x ∷ r) (all_pass test xs h.1))

-- a field of the image of kept fields would be kept
moved_kept : (fields : List Field) (field : Field) → IsMoved (kept fields) field → is_kept field ≡ true
moved_kept fields field m =
    let passes : is_kept m.from ≡ true = All-contains (λ field. is_kept field ≡ true) (kept fields) m.from (filter_passes is_kept fields) m.given in
    let same : is_kept (record m.from { value = moved_to m.offset m.from.value }) ≡ is_kept m.from = ap (λ b. not (is_gps m.from.tag.0) && not b) (unknown_moved m.offset m.from.value) in
    ap is_kept m.moved ∙ same ∙ passes

-- hence each field of the image
each_kept : (fields : List Field) → AllByRecursion (λ field. is_kept field ≡ true) (flat (scrubbed fields))
each_kept fields =
    weaker (IsMoved (kept fields)) (λ field. is_kept field ≡ true) (moved_kept fields) (flat (scrubbed fields))
    (recursion_from_All (IsMoved (kept fields)) (flat (scrubbed fields)) (has_pushed_alone (kept fields)))

-- scrubbing what was read leaves at most eight plain groups, without GPS and unknown types
pub scrubs_to_kept : (fields : List Field) → ScrubsToKept fields
scrubs_to_kept fields read =
    let stay = each_kept fields in
    let each = recursion_from_All IsRead (kept fields) (All-filter is_kept IsRead fields read) in
    record {
      plain = pushes_plain (kept fields) []
          (All-from_recursion (λ field. HasPlainTexts field.value) (kept fields) (weaker IsRead (λ field. HasPlainTexts field.value) (λ field h. h.plain) (kept fields) each))
          tt;
      few = pushes_few 8 (kept fields) []
          (All-from_recursion (λ field. field.ifd_num.0 < 8) (kept fields) (weaker IsRead (λ field. field.ifd_num.0 < 8) (λ field h. h.number) (kept fields) each)) (omega arith);
      without_gps = All-from_recursion (λ field. is_gps field.tag.0 ≡ false) (flat (scrubbed fields))
          (weaker (λ field. is_kept field ≡ true) (λ field. is_gps field.tag.0 ≡ false) (λ field h. (both (is_gps field.tag.0) (is_unknown field.value) h).0) (flat (scrubbed fields)) stay);
      without_unknown = All-from_recursion (λ field. is_unknown field.value ≡ false) (flat (scrubbed fields))
          (weaker (λ field. is_kept field ≡ true) (λ field. is_unknown field.value ≡ false) (λ field h. (both (is_gps field.tag.0) (is_unknown field.value) h).1) (flat (scrubbed fields)) stay);
      all_kept = all_pass is_kept (flat (scrubbed fields)) stay;
    }

-- where rewriting gives the same image, scrubbing what was scrubbed gives it too
pub scrubs_once : (order : Order) (fields : List Field) → ScrubsOnce order fields
scrubs_once order fields same =
    let groups : List Group = scrubbed fields in
    let bare : HaveNoBlocks groups = pushes_no_blocks (kept fields) [] (λ k d h. absurd (omega arith)) in
    ap (λ fs. image order (pushed_all fs [])) (all_pass is_kept (flat groups) (each_kept fields))
    ∙ ap (image order) (sym (sets_nothing groups (pushed_all (flat groups) []) bare))
    ∙ same

-- scrubbed groups that are written are read back, and scrubbed again they give the same image
pub scrubs : (order : Order) (fields : List Field) → Scrubs order fields
scrubs order fields read ranged written =
    let left = scrubs_to_kept fields read in
    let ready : AreReadable (scrubbed fields) = record { ranged = ranged; plain = left.plain; few = left.few; written = written } in
    record {
      readable = ready;
      reads_back = reads_back order (scrubbed fields) ready;
      once = scrubs_once order fields (rewrites_same order (scrubbed fields) ranged written);
    }
