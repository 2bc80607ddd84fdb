-- The first box of a type is that of the tree of boxes, and all bytes have such a tree.
use Rattle.std.proofs.Common.{◌≡◌, ◌⊎◌, inl, inr, subst, ℕ, zero, suc, ◌<◌, Bool, true, false, cond, ◌&&◌, List, [], ◌∷◌, ◌++◌, length, take, drop, Option, Some, None, Result, Ok, Err, ap, sym, ◌∙◌, refl, arith, append_assoc}
use Rattle.std.specs.List.{All, flat_map}
use Rattle.std.specs.Str.{bytes_eq}
use Rattle.std.proofs.lemmas.List.{take_at, drop_at, take-append-drop}
use Rattle.std.proofs.lemmas.List.Elements.{All-cons, All-head, All-nil, All-tail}
use Rattle.std.proofs.lemmas.Slice.Eq.{bytes_eq-Decides}
use Rattle.exif_types.specs.Refusals.{Refusal}
use Rattle.exif_isobmff.specs.BoxGrammar.{AreBoxes, BoxTree, IsBox, print_box, print_header, print_no_box, type_of}
use Rattle.exif_isobmff.proofs.LawsBoxes.{Boxed, Unboxed, box_is_read, boxed-shorter, boxed_or_not, header-reads, no_box-some, no_box_is_refused}
use Rattle.exif_formats.specs.Cr3.{Box, broken_cr3, box_read, first_box, first_held, held_by}
use Rattle.exif_formats.specs.Cr3Grammar.{IsOfType, IsOther, Boxes, with_box, without, broken, BoxesAreAnswered, AreTheBoxes}
use Rattle.exif_formats.proofs.Cr3Boxes.{held_behind, held_found, held_none, held_refused}

-- ---- one box

-- a box of a tree, where these bytes follow it
abbrev box_of : BoxTree → List ℕ → Box
box_of b rest = record { name = type_of b.header; payload = b.body; rest = rest }

tree-first : (b : BoxTree) (rest : List ℕ) → IsBox b rest → first_box (print_box b ++ rest) ≡ Ok (box_of b rest)
tree-first b rest h =
    ap (box_read (print_box b ++ rest)) (box_is_read b rest h)
    ∙ ap named (ap (λ t. take 4 (drop 4 t)) (append_assoc (print_header b.header) b.body rest) ∙ (header-reads b.header (b.body ++ rest) h.0).kind)
  where
    named : List ℕ → Result Box Refusal
    named n = Ok (record { name = n; payload = b.body; rest = rest })

-- what a box of two tests holds
abbrev held_if : Bool → Bool → List ℕ → Option (List ℕ)
held_if s t held = cond (s && t) (Some held) None

of-type : (name usertype held : List ℕ) (b : BoxTree) (rest : List ℕ) → IsOfType name usertype b held → held_by name usertype (box_of b rest) ≡ Some held
of-type name usertype held b rest h =
    let front : take (length usertype) b.body ≡ usertype = ap (take (length usertype)) h.body_is ∙ take_at usertype held (length usertype) refl in
    ap (λ t. held_if t (bytes_eq (take (length usertype) b.body) usertype) (drop (length usertype) b.body)) ((bytes_eq-Decides (type_of b.header) name).1 h.name_is)
    ∙ ap (λ t. held_if true t (drop (length usertype) b.body)) ((bytes_eq-Decides (take (length usertype) b.body) usertype).1 front)
    ∙ ap (λ t. Some t) (ap (drop (length usertype)) h.body_is ∙ drop_at usertype held (length usertype) refl)

-- a box has a type, or another
typed : (name usertype : List ℕ) (b : BoxTree) (rest : List ℕ)
    → ((held : List ℕ) × IsOfType name usertype b held) ⊎ (IsOther name usertype b × (held_by name usertype (box_of b rest) ≡ None))
typed name usertype b rest = by (bytes_eq (type_of b.header) name) refl
  where
    other-name : bytes_eq (type_of b.header) name ≡ false → IsOther name usertype b
    other-name e held is = let k : true ≡ false = sym ((bytes_eq-Decides (type_of b.header) name).1 is.name_is) ∙ e in cc

    other-type : bytes_eq (take (length usertype) b.body) usertype ≡ false → IsOther name usertype b
    other-type e held is =
        let front : take (length usertype) b.body ≡ usertype = ap (take (length usertype)) is.body_is ∙ take_at usertype held (length usertype) refl in
        let k : true ≡ false = sym ((bytes_eq-Decides (take (length usertype) b.body) usertype).1 front) ∙ e in cc

    by-type : (t : Bool) → bytes_eq (take (length usertype) b.body) usertype ≡ t → bytes_eq (type_of b.header) name ≡ true
        → ((held : List ℕ) × IsOfType name usertype b held) ⊎ (IsOther name usertype b × (held_by name usertype (box_of b rest) ≡ None))
    by-type true e k = inl (
      drop (length usertype) b.body,
      record {
        name_is = (bytes_eq-Decides (type_of b.header) name).0 k;
        body_is = sym (take-append-drop (length usertype) b.body) ∙ ap (λ t. t ++ drop (length usertype) b.body) ((bytes_eq-Decides (take (length usertype) b.body) usertype).0 e);
      },
    )
    by-type false e k = inr (
      other-type e,
      ap (λ t. held_if t (bytes_eq (take (length usertype) b.body) usertype) (drop (length usertype) b.body)) k
          ∙ ap (λ t. held_if true t (drop (length usertype) b.body)) e,
    )

    by : (t : Bool) → bytes_eq (type_of b.header) name ≡ t
        → ((held : List ℕ) × IsOfType name usertype b held) ⊎ (IsOther name usertype b × (held_by name usertype (box_of b rest) ≡ None))
    by true e = by-type (bytes_eq (take (length usertype) b.body) usertype) refl e
    by false e = inr (
      other-name e,
      ap (λ t. held_if t (bytes_eq (take (length usertype) b.body) usertype) (drop (length usertype) b.body)) e,
    )

other-held : (name usertype : List ℕ) (b : BoxTree) (rest : List ℕ) → IsOther name usertype b → held_by name usertype (box_of b rest) ≡ None
other-held name usertype b rest h = of (typed name usertype b rest)
  where
    of : ((held : List ℕ) × IsOfType name usertype b held) ⊎ (IsOther name usertype b × (held_by name usertype (box_of b rest) ≡ None))
        → held_by name usertype (box_of b rest) ≡ None
    of (inl t) = absurd (h t.0 t.1)
    of (inr t) = t.1

-- ---- boxes are answered as their tree says

others-behind : (name usertype : List ℕ) (others : List BoxTree) (end : List ℕ) (answer : Result (Option (List ℕ)) Refusal) → AreBoxes others end → All (IsOther name usertype) others
    → first_held name usertype end ≡ answer → first_held name usertype (flat_map print_box others ++ end) ≡ answer
others-behind name usertype [] end answer h o e = e
others-behind name usertype (b ∷ bs) end answer h o e =
    let rest : List ℕ = flat_map print_box bs ++ end in
    let other = All-head (IsOther name usertype) b bs o in
    ap (first_held name usertype) (append_assoc (print_box b) (flat_map print_box bs) end)
    ∙ held_behind name usertype (print_box b ++ rest) (box_of b rest) (tree-first b rest h.0) (other-held name usertype b rest other)
    ∙ others-behind name usertype bs end answer h.1 (All-tail (IsOther name usertype) b bs o) e

-- the first box of a type is that of the tree
pub boxes_are_answered : (name usertype : List ℕ) (bs : Boxes) → BoxesAreAnswered name usertype bs
boxes_are_answered name usertype (with_box others b held rest) h =
    others-behind name usertype others (print_box b ++ rest) (Ok (Some held)) h.0 h.1
    (held_found name usertype (print_box b ++ rest) held (box_of b rest) (tree-first b rest h.2) (of-type name usertype held b rest h.3))
boxes_are_answered name usertype (without others) h =
    others-behind name usertype others [] (Ok None) h.0 h.1 (held_none name usertype [] refl)
boxes_are_answered name usertype (broken others end) h =
    others-behind name usertype others (print_no_box end) (Err broken_cr3) h.0 h.1
    (held_refused name usertype (print_no_box end) (no_box-some end h.2) (ap (box_read (print_no_box end)) (no_box_is_refused end h.2)))

-- ---- all bytes are those of boxes

-- another box in front
more : (name usertype text : List ℕ) (b : Boxed text) → IsOther name usertype b.tree → AreTheBoxes name usertype b.rest → AreTheBoxes name usertype text
more name usertype text b o (with_box others c held rest, is, whole) = (
  with_box (b.tree ∷ others) c held rest,
  ((subst (λ r. IsBox b.tree r) (sym whole) b.is, is.0), All-cons (IsOther name usertype) b.tree others o is.1, is.2, is.3),
  append_assoc (print_box b.tree) (flat_map print_box others) (print_box c ++ rest) ∙ ap (λ r. print_box b.tree ++ r) whole ∙ b.whole,
)
more name usertype text b o (without others, is, whole) = (
  without (b.tree ∷ others),
  ((subst (λ r. IsBox b.tree r) (sym whole) b.is, is.0), All-cons (IsOther name usertype) b.tree others o is.1),
  append_assoc (print_box b.tree) (flat_map print_box others) [] ∙ ap (λ r. print_box b.tree ++ r) whole ∙ b.whole,
)
more name usertype text b o (broken others end, is, whole) = (
  broken (b.tree ∷ others) end,
  ((subst (λ r. IsBox b.tree r) (sym whole) b.is, is.0), All-cons (IsOther name usertype) b.tree others o is.1, is.2),
  append_assoc (print_box b.tree) (flat_map print_box others) (print_no_box end) ∙ ap (λ r. print_box b.tree ++ r) whole ∙ b.whole,
)

boxes-within : (name usertype : List ℕ) (n : ℕ) (text : List ℕ) → length text < n → AreTheBoxes name usertype text
boxes-within name usertype zero text h = absurd (omega arith)
boxes-within name usertype (suc n) [] h = (without [], (tt, All-nil (IsOther name usertype)), refl)
boxes-within name usertype (suc n) (x ∷ text) h = first n (x ∷ text) h (boxed_or_not (x ∷ text) (omega arith)) (boxes-within name usertype n)
  where
    by-type : (text : List ℕ) (b : Boxed text) → AreTheBoxes name usertype b.rest
        → ((held : List ℕ) × IsOfType name usertype b.tree held) ⊎ (IsOther name usertype b.tree × (held_by name usertype (box_of b.tree b.rest) ≡ None)) → AreTheBoxes name usertype text
    by-type text b behind (inl t) = (with_box [] b.tree t.0 b.rest, (tt, All-nil (IsOther name usertype), b.is, t.1), b.whole)
    by-type text b behind (inr o) = more name usertype text b o.0 behind

    first : (n : ℕ) (text : List ℕ) → length text < suc n → Unboxed text ⊎ Boxed text → ((rest : List ℕ) → length rest < n → AreTheBoxes name usertype rest) → AreTheBoxes name usertype text
    first n text h (inl u) ih = (broken [] u.end, (tt, All-nil (IsOther name usertype), u.is), u.whole)
    first n text h (inr b) ih = by-type text b (ih b.rest (let lt = boxed-shorter text b in omega arith)) (typed name usertype b.tree b.rest)

-- all bytes are those of boxes
pub are_the_boxes : (name usertype bytes : List ℕ) → AreTheBoxes name usertype bytes
are_the_boxes name usertype bytes = boxes-within name usertype (suc (length bytes)) bytes (omega arith)
