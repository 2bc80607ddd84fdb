-- A JPEG XL file that was written again stays as it is when it is so written again.
use Rattle.std.proofs.Common.{◌≡◌, ◌<◌, ◌≤◌, ◌+◌, ◌-◌, ℕ, zero, suc, Bool, true, false, cond, ltb, not, ◌&&◌, ◌||◌, List, [], ◌∷◌, ◌++◌, length, take, drop, codes, Option, None, Some, Result, Ok, Err, refl, ap, sym, ◌∙◌, arith, append_assoc, length-append, length-drop}
use Rattle.std.specs.Str.{bytes_eq}
use Rattle.std.proofs.lemmas.Bool.{le-ltb, ne_eqb}
use Rattle.std.proofs.lemmas.Bool.Decides.{nat_tests}
use Rattle.std.proofs.lemmas.Slice.Eq.{bytes_eq-Decides}
use Rattle.std.proofs.Math.Seq.{drop-append-add, take-add}
use Rattle.std.proofs.lemmas.Nat.{from_be_bytes-to_be_bytes_4}
use Rattle.std.proofs.lemmas.List.{append-nil, drop_at, drop-append-le, drop-take, length-take-le, take_all, take_at, take-append-drop}
use Rattle.exif_types.specs.Refusals.{Refusal, ◌>>=◌}
use Rattle.exif_segments.specs.Removing.{too_large}
use Rattle.exif_inventory.specs.JxlPieces.{box_piece, is_cut_box, is_jxl, kind_box, other_box}
use Rattle.exif_inventory.specs.JxlPieces as boxes
use Rattle.exif_inventory.specs.declared.kind.Kind.TheVariants as kind
use Rattle.exif_inventory.specs.declared.piece.Piece.{Piece}
use Rattle.exif_segments.specs.declared.remove.Remove.{Remove}
use Rattle.exif_segments.specs.declared.remove.Remove.TheVariants.{Exif, Metadata}
use Rattle.exif_parts.specs.Jxl.{begins_typed, box_stays, boxes_filtered, broken_jxl, exif_box, front_len, if_contained, is_codestream, is_last, jxl_rewritten, no_container, not_jxl, kept_box, with_box}
use Rattle.exif_parts.specs.JxlLaws.{JxlIsStable, bytes_of}
use Rattle.exif_parts.specs.Kept.{stays}
use Rattle.exif_parts.specs.Markers.{is_broken}
use Rattle.exif_parts.specs.Written.{Written}
use Rattle.exif_parts.proofs.JxlReads.{Boxed, box_is_all, found, plain, read_again, same_part, shorter}
use Rattle.exif_parts.proofs.JxlSteps.{boxes_over, boxes_step, with_first}

-- the bytes of boxes that are kept
abbrev pub bytes_from : ℕ → Remove → List ℕ → List ℕ → List ℕ
bytes_from m remove boxes next = (boxes_filtered m remove boxes next).bytes

pub none_more : (m : ℕ) (remove : Remove) (next : List ℕ) → bytes_from m remove [] next ≡ next
none_more m remove next = ap (λ (w : Written). w.bytes) (boxes_over m remove next)

-- where the first box has all bytes that are left, it is the last one
pub one_box : (m : ℕ) (remove : Remove) (b : ℕ) (xs next : List ℕ) → (box_piece (b ∷ xs)).len ≡ length (b ∷ xs)
    → bytes_from (suc m) remove (b ∷ xs) next ≡ next ++ kept_box remove (box_piece (b ∷ xs)) (b ∷ xs)
one_box m remove b xs next all =
    ap (λ (w : Written). w.bytes) (boxes_step m remove b xs next) ∙ by (is_cut_box (b ∷ xs))
  where
    k : List ℕ
    k = kept_box remove (box_piece (b ∷ xs)) (b ∷ xs)

    nothing : (l : List ℕ) → length l ≡ 0 → bytes_from m remove l (next ++ k) ≡ next ++ k
    nothing [] h = none_more m remove (next ++ k)
    nothing (c ∷ l) h = absurd (omega arith)

    by : (t : Bool) → (with_first m remove (b ∷ xs) (box_piece (b ∷ xs)) t (next ++ k)).bytes ≡ next ++ k
    by true = refl
    by false =
        let d : length (drop (box_piece (b ∷ xs)).len (b ∷ xs)) ≡ length (b ∷ xs) - (box_piece (b ∷ xs)).len = length-drop (box_piece (b ∷ xs)).len (b ∷ xs) in
        nothing (drop (box_piece (b ∷ xs)).len (b ∷ xs)) (omega arith)

-- what was kept is kept again
record Again (remove : Remove) (made : Written) (out : List ℕ) : Type 0 where
  tail : List ℕ
  is : made.bytes ≡ out ++ tail
  again : (m : ℕ) (next : List ℕ) → length tail ≤ m → bytes_from m remove tail next ≡ next ++ tail

kept_if : Bool → Remove → List ℕ → List ℕ
kept_if t remove xs = cond t (take (box_piece xs).len xs) []

-- the last box
last_again : (n : ℕ) (remove : Remove) (b : ℕ) (xs out : List ℕ) → (box_piece (b ∷ xs)).len ≡ length (b ∷ xs) → Again remove (boxes_filtered (suc n) remove (b ∷ xs) out) out
last_again n remove b xs out all = by (box_stays remove (box_piece (b ∷ xs)) (take (box_piece (b ∷ xs)).len (b ∷ xs))) refl
  where
    is_all : take (box_piece (b ∷ xs)).len (b ∷ xs) ≡ b ∷ xs
    is_all = take_all (box_piece (b ∷ xs)).len (b ∷ xs) (omega (arith, all))

    kept_is : (t : Bool) → box_stays remove (box_piece (b ∷ xs)) (take (box_piece (b ∷ xs)).len (b ∷ xs)) ≡ t → kept_box remove (box_piece (b ∷ xs)) (b ∷ xs) ≡ cond t (b ∷ xs) []
    kept_is t e = ap (λ t. cond t (take (box_piece (b ∷ xs)).len (b ∷ xs)) []) e ∙ ap (λ (l : List ℕ). cond t l []) is_all

    by : (t : Bool) → box_stays remove (box_piece (b ∷ xs)) (take (box_piece (b ∷ xs)).len (b ∷ xs)) ≡ t → Again remove (boxes_filtered (suc n) remove (b ∷ xs) out) out
    by true e = record {
      tail = b ∷ xs;
      is = one_box n remove b xs out all ∙ ap (λ (l : List ℕ). out ++ l) (kept_is true e);
      again = again;
    }
      where
        again : (m : ℕ) (next : List ℕ) → length (b ∷ xs) ≤ m → bytes_from m remove (b ∷ xs) next ≡ next ++ (b ∷ xs)
        again zero next h = absurd (omega arith)
        again (suc m) next h = one_box m remove b xs next all ∙ ap (λ (l : List ℕ). next ++ l) (kept_is true e)
    by false e = record {
      tail = [];
      is = one_box n remove b xs out all ∙ ap (λ (l : List ℕ). out ++ l) (kept_is false e);
      again = λ m next h. none_more m remove next ∙ sym (append-nil next);
    }

-- one box, behind which others may be
first_again : (m : ℕ) (remove : Remove) (zs next tail : List ℕ) (piece : Piece) → 0 < length zs → length zs ≤ m → box_piece zs ≡ piece → is_cut_box zs ≡ false
    → drop piece.len zs ≡ tail → length tail < length zs
    → ((k : ℕ) → length tail ≤ k → bytes_from k remove tail (next ++ kept_box remove piece zs) ≡ (next ++ kept_box remove piece zs) ++ tail)
    → bytes_from m remove zs next ≡ (next ++ kept_box remove piece zs) ++ tail
first_again m remove [] next tail piece some h p c d less g = absurd (omega arith)
first_again zero remove (z ∷ zs) next tail piece some h p c d less g = absurd (omega arith)
first_again (suc m) remove (z ∷ zs) next tail piece some h p c d less g =
    ap (λ (w : Written). w.bytes) (boxes_step m remove z zs next)
    ∙ ap (λ t. (with_first m remove (z ∷ zs) (box_piece (z ∷ zs)) t (next ++ kept_box remove (box_piece (z ∷ zs)) (z ∷ zs))).bytes) c
    ∙ ap (λ (q : Piece). bytes_from m remove (drop q.len (z ∷ zs)) (next ++ kept_box remove q (z ∷ zs))) p
    ∙ ap (λ (l : List ℕ). bytes_from m remove l (next ++ kept_box remove piece (z ∷ zs))) d
    ∙ g m (omega arith)

-- boxes that were filtered
filters : (n : ℕ) (remove : Remove) (xs out : List ℕ) → length xs ≤ n → Again remove (boxes_filtered n remove xs out) out
filters n remove [] out h = record {
  tail = [];
  is = none_more n remove out ∙ sym (append-nil out);
  again = λ m next h. none_more m remove next ∙ sym (append-nil next);
}
filters zero remove (b ∷ xs) out h = absurd (omega arith)
filters (suc n) remove (b ∷ xs) out h = by (filters n remove) (is_cut_box (b ∷ xs)) (is_last (b ∷ xs)) refl refl
  where
    l : List ℕ
    l = b ∷ xs

    piece : Piece
    piece = box_piece l

    k : List ℕ
    k = kept_box remove piece l

    next_again : (t : Bool) → box_stays remove piece (take piece.len l) ≡ t → is_cut_box l ≡ false → is_last l ≡ false → Again remove (boxes_filtered n remove (drop piece.len l) (out ++ k)) (out ++ k)
        → Again remove (boxes_filtered (suc n) remove l out) out
    next_again true s e f g =
        let r = read_again l g.tail e f in
        let kept_is : k ≡ take piece.len l = ap (λ t. cond t (take piece.len l) []) s in
        let taken : length (take piece.len l) ≡ piece.len = length-take-le piece.len l r.within in
        let all : length (take piece.len l ++ g.tail) ≡ length (take piece.len l) + length g.tail = length-append (take piece.len l) g.tail in
        let eight = r.eight in
        let front : take piece.len (take piece.len l ++ g.tail) ≡ take piece.len l = take_at (take piece.len l) g.tail piece.len taken in
        let again_kept : kept_box remove piece (take piece.len l ++ g.tail) ≡ take piece.len l = ap (λ (m : List ℕ). cond (box_stays remove piece m) m []) front ∙ ap (λ t. cond t (take piece.len l) []) s in
        record {
          tail = take piece.len l ++ g.tail;
          is = ap (λ (w : Written). w.bytes) (boxes_step n remove b xs out) ∙ ap (λ t. (with_first n remove l piece t (out ++ k)).bytes) e ∙ g.is
              ∙ append_assoc out k g.tail ∙ ap (λ (m : List ℕ). out ++ (m ++ g.tail)) kept_is;
          again = λ m next h. first_again m remove (take piece.len l ++ g.tail) next g.tail piece (omega arith) h r.piece r.whole
              (drop_at (take piece.len l) g.tail piece.len taken) (omega arith) (λ j hj. g.again j (next ++ kept_box remove piece (take piece.len l ++ g.tail)) hj)
              ∙ ap (λ (m : List ℕ). (next ++ m) ++ g.tail) again_kept ∙ append_assoc next (take piece.len l) g.tail;
        }
    next_again false s e f g =
        let none : k ≡ [] = ap (λ t. cond t (take piece.len l) []) s in
        record {
          tail = g.tail;
          is = ap (λ (w : Written). w.bytes) (boxes_step n remove b xs out) ∙ ap (λ t. (with_first n remove l piece t (out ++ k)).bytes) e ∙ g.is
              ∙ ap (λ (m : List ℕ). (out ++ m) ++ g.tail) none ∙ ap (λ (m : List ℕ). m ++ g.tail) (append-nil out);
          again = g.again;
        }

    by : ((ys made : List ℕ) → length ys ≤ n → Again remove (boxes_filtered n remove ys made) made) → (c t : Bool) → is_cut_box l ≡ c → is_last l ≡ t → Again remove (boxes_filtered (suc n) remove l out) out
    by next true t e f = last_again n remove b xs out (box_is_all l true t e f refl)
    by next false true e f = last_again n remove b xs out (box_is_all l false true e f refl)
    by next false false e f =
        let r = read_again l [] e f in
        let d : length (drop piece.len l) ≡ length l - piece.len = length-drop piece.len l in
        let eight = r.eight in
        next_again (box_stays remove piece (take piece.len l)) refl e f (next (drop piece.len l) (out ++ k) (omega arith))

-- ---- it does not matter how many boxes there may be

-- a box that is not cut off has bytes
some_len : (b : ℕ) (xs : List ℕ) (t : Bool) → is_cut_box (b ∷ xs) ≡ false → is_last (b ∷ xs) ≡ t → 0 < (box_piece (b ∷ xs)).len
some_len b xs true e f = let all = box_is_all (b ∷ xs) false true e f refl in omega (arith, all)
some_len b xs false e f = let r = read_again (b ∷ xs) [] e f in let eight = r.eight in omega arith

enough : (n m : ℕ) (remove : Remove) (xs out : List ℕ) → length xs ≤ n → length xs ≤ m → boxes_filtered n remove xs out ≡ boxes_filtered m remove xs out
enough n m remove [] out h k = boxes_over n remove out ∙ sym (boxes_over m remove out)
enough zero m remove (b ∷ xs) out h k = absurd (omega arith)
enough (suc n) zero remove (b ∷ xs) out h k = absurd (omega arith)
enough (suc n) (suc m) remove (b ∷ xs) out h k =
    boxes_step n remove b xs out ∙ by (λ ys made u v. enough n m remove ys made u v) (is_cut_box (b ∷ xs)) refl ∙ sym (boxes_step m remove b xs out)
  where
    by : ((ys made : List ℕ) → length ys ≤ n → length ys ≤ m → boxes_filtered n remove ys made ≡ boxes_filtered m remove ys made) → (t : Bool) → is_cut_box (b ∷ xs) ≡ t
        → with_first n remove (b ∷ xs) (box_piece (b ∷ xs)) t (out ++ kept_box remove (box_piece (b ∷ xs)) (b ∷ xs))
        ≡ with_first m remove (b ∷ xs) (box_piece (b ∷ xs)) t (out ++ kept_box remove (box_piece (b ∷ xs)) (b ∷ xs))
    by next true e = refl
    by next false e =
        let some = some_len b xs (is_last (b ∷ xs)) e refl in
        let d : length (drop (box_piece (b ∷ xs)).len (b ∷ xs)) ≡ length (b ∷ xs) - (box_piece (b ∷ xs)).len = length-drop (box_piece (b ∷ xs)).len (b ∷ xs) in
        next (drop (box_piece (b ∷ xs)).len (b ∷ xs)) (out ++ kept_box remove (box_piece (b ∷ xs)) (b ∷ xs)) (omega arith) (omega arith)

-- ---- the box of new data

pub box_len : (payload : List ℕ) → length (exif_box payload) ≡ 12 + length payload
box_len payload = omega arith

new_boxed : (payload tail : List ℕ) → length payload ≤ 4294967283 → Boxed (exif_box payload ++ tail) 8 (12 + length payload)
new_boxed payload tail h =
    let own : length (exif_box payload) ≡ 12 + length payload = box_len payload in
    let all : length (exif_box payload ++ tail) ≡ length (exif_box payload) + length tail = length-append (exif_box payload) tail in
    plain (exif_box payload ++ tail) (12 + length payload)
    (from_be_bytes-to_be_bytes_4 (12 + length payload) (omega arith))
    (ne_eqb (12 + length payload) 0 (λ e. omega (arith, e))) (ne_eqb (12 + length payload) 1 (λ e. omega (arith, e)))
    (omega arith) (omega arith)

pub new_piece : (payload tail : List ℕ) → length payload ≤ 4294967283 → box_piece (exif_box payload ++ tail) ≡ kind_box kind.Exif (12 + length payload) 12
new_piece payload tail h =
    (new_boxed payload tail h).piece
    ∙ ap (λ t. cond t (kind_box kind.Unknown (12 + length payload) 8) (kind_box kind.Exif (12 + length payload) 12)) (le-ltb (12 + length payload) 12 (omega arith))

exif_goes : (remove : Remove) (n front : ℕ) (box : List ℕ) → box_stays remove (kind_box kind.Exif n front) box ≡ false
exif_goes Exif n front box = refl
exif_goes Metadata n front box = refl

-- it goes where the file is written again, and is put at its place
skip : (remove : Remove) (payload tail next : List ℕ) (m : ℕ) → length payload ≤ 4294967283 → length (exif_box payload ++ tail) ≤ m
    → ((k : ℕ) → length tail ≤ k → bytes_from k remove tail next ≡ next ++ tail) → bytes_from m remove (exif_box payload ++ tail) next ≡ next ++ tail
skip remove payload tail next m small h g =
    let zs : List ℕ = exif_box payload ++ tail in
    let piece : Piece = kind_box kind.Exif (12 + length payload) 12 in
    let own : length (exif_box payload) ≡ 12 + length payload = box_len payload in
    let all : length zs ≡ length (exif_box payload) + length tail = length-append (exif_box payload) tail in
    let gone : next ++ kept_box remove piece zs ≡ next = ap (λ t. next ++ cond t (take piece.len zs) []) (exif_goes remove (12 + length payload) 12 (take (12 + length payload) zs)) ∙ append-nil next in
    first_again m remove zs next tail piece (omega arith) h (new_piece payload tail small) (new_boxed payload tail small).whole
    (drop_at (exif_box payload) tail (12 + length payload) own) (omega arith)
    (λ k hk. ap (λ (l : List ℕ). bytes_from k remove tail l) gone ∙ g k hk ∙ sym (ap (λ (l : List ℕ). l ++ tail) gone))
    ∙ ap (λ (l : List ℕ). l ++ tail) gone

-- ---- the place of new data

pub record Typed (xs : List ℕ) : Type 0 where
  pub named : bytes_eq (take 4 (drop 4 xs)) (codes "ftyp") ≡ true
  pub whole : is_cut_box xs ≡ false
  pub first : is_last xs ≡ false

pub typed : (xs : List ℕ) → begins_typed xs ≡ true → Typed xs
typed xs e = by (bytes_eq (take 4 (drop 4 xs)) (codes "ftyp")) (is_cut_box xs) (is_last xs) refl refl refl e
  where
    by : (a b c : Bool) → bytes_eq (take 4 (drop 4 xs)) (codes "ftyp") ≡ a → is_cut_box xs ≡ b → is_last xs ≡ c → (a && not b && not c) ≡ true → Typed xs
    by true false false ea eb ec h = record { named = ea; whole = eb; first = ec }
    by true false true ea eb ec h = absurd (cc)
    by true true c ea eb ec h = absurd (cc)
    by false b c ea eb ec h = absurd (cc)

abbrev pub front_of : Bool → List ℕ → ℕ
front_of t xs = 12 + cond t (box_piece xs).len 0

pub front_within : (file : List ℕ) → 12 ≤ length file → front_len file ≤ length file
front_within file h = by (begins_typed (drop 12 file)) refl
  where
    by : (t : Bool) → begins_typed (drop 12 file) ≡ t → front_of t (drop 12 file) ≤ length file
    by false e = omega arith
    by true e =
        let y = typed (drop 12 file) e in
        let r = read_again (drop 12 file) [] y.whole y.first in
        let within = r.within in
        let d : length (drop 12 file) ≡ length file - 12 = length-drop 12 file in
        omega arith

-- it is found again in front of new data
front_again : (file r : List ℕ) → 12 ≤ length file → begins_typed r ≡ false → front_len (take (front_len file) file ++ r) ≡ front_len file
front_again file r h other = by (begins_typed (drop 12 file)) refl
  where
    xs : List ℕ
    xs = drop 12 file

    by : (t : Bool) → begins_typed (drop 12 file) ≡ t → front_len (take (front_of t (drop 12 file)) file ++ r) ≡ front_of t (drop 12 file)
    by false e =
        let behind : drop 12 (take 12 file ++ r) ≡ r = drop_at (take 12 file) r 12 (length-take-le 12 file h) in
        ap (λ (l : List ℕ). front_of (begins_typed l) l) behind ∙ ap (λ t. front_of t r) other
    by true e =
        let y = typed xs e in
        let again = read_again xs r y.whole y.first in
        let within = again.within in
        let eight = again.eight in
        let len : ℕ = (box_piece xs).len in
        let d : length xs ≡ length file - 12 = length-drop 12 file in
        let taken : length (take len xs) ≡ len = length-take-le len xs within in
        let front : length (take (12 + len) file) ≡ 12 + len = length-take-le (12 + len) file (omega arith) in
        let zs : List ℕ = take len xs ++ r in
        let behind : drop 12 (take (12 + len) file ++ r) ≡ zs = drop-append-le 12 (take (12 + len) file) r (omega arith) ∙ ap (λ (l : List ℕ). l ++ r) (drop-take 12 len file) in
        let all : length zs ≡ length (take len xs) + length r = length-append (take len xs) r in
        let name : take 4 (drop 4 zs) ≡ take 4 (drop 4 xs) = same_part 4 4 len xs zs (omega arith) within (omega arith) (take_at (take len xs) r len taken) in
        let is : begins_typed zs ≡ true = ap (λ (l : List ℕ). bytes_eq l (codes "ftyp") && not (is_cut_box zs) && not (is_last zs)) name
        ∙ ap (λ t. t && not (is_cut_box zs) && not (is_last zs)) y.named
        ∙ ap (λ t. true && not t && not (is_last zs)) again.whole
        ∙ ap (λ t. true && not false && not t) again.last in
        ap (λ (l : List ℕ). front_of (begins_typed l) l) behind ∙ ap (λ t. front_of t zs) is ∙ ap (λ (p : Piece). 12 + p.len) again.piece

-- where no data are put the box of the type is one of those that stay
pub type_stays : (remove : Remove) (xs : List ℕ) → begins_typed xs ≡ true → box_stays remove (box_piece xs) (take (box_piece xs).len xs) ≡ true
type_stays remove xs e =
    let y = typed xs e in
    let f = found xs y.whole y.first in
    let r = read_again xs [] y.whole y.first in
    let name = (bytes_eq-Decides (take 4 (drop 4 xs)) (codes "ftyp")).0 y.named in
    let len : ℕ = (box_piece xs).len in
    let eight = r.eight in
    let within = r.within in
    let taken : length (take len xs) ≡ len = length-take-le len xs within in
    let own : take 4 (drop 4 (take len xs)) ≡ codes "ftyp" =
    same_part 4 4 len xs (take len xs) (omega arith) within (omega arith) (take_all len (take len xs) (omega arith)) ∙ name in
    ap (λ (p : Piece). box_stays remove p (take len xs)) (f.boxed xs f.within refl).piece
    ∙ ap (λ (m : List ℕ). box_stays remove (cond (bytes_eq m (codes "Exif")) (boxes.exif_box xs f.header f.size) (other_box m f.header f.size)) (take len xs)) name
    ∙ ap (λ (m : List ℕ). shown_by remove (take len xs) m) own
    ∙ shown remove (take len xs)
  where
    shown_by : Remove → List ℕ → List ℕ → Bool
    shown_by remove box m =
        not (is_broken kind.Picture) && stays remove kind.Picture None
        && not (bytes_eq m (codes "Exif") || bytes_eq m (codes "brob") && bytes_eq (take 4 (drop 0 box)) (codes "Exif"))

    shown : (remove : Remove) (box : List ℕ) → shown_by remove box (codes "ftyp") ≡ true
    shown Exif box = refl
    shown Metadata box = refl

pub none_put : (remove : Remove) (file : List ℕ) → 12 ≤ length file
    → (with_box remove file []).bytes ≡ bytes_from (length (drop 12 file)) remove (drop 12 file) (take 12 file)
none_put remove file h = by (begins_typed (drop 12 file)) refl
  where
    xs : List ℕ
    xs = drop 12 file

    from : ℕ → List ℕ
    from f = bytes_from (length (drop f file)) remove (drop f file) (take f file ++ [])

    step : (l : List ℕ) → begins_typed l ≡ true → (next : List ℕ)
        → bytes_from (length l) remove l next ≡ bytes_from (length (drop (box_piece l).len l)) remove (drop (box_piece l).len l) (next ++ take (box_piece l).len l)
    step [] e next = absurd (cc)
    step (b ∷ l) e next =
        let y = typed (b ∷ l) e in
        let r = read_again (b ∷ l) [] y.whole y.first in
        let eight = r.eight in
        let p : Piece = box_piece (b ∷ l) in
        let d : length (drop p.len (b ∷ l)) ≡ length (b ∷ l) - p.len = length-drop p.len (b ∷ l) in
        ap (λ (w : Written). w.bytes) (boxes_step (length l) remove b l next)
        ∙ ap (λ t. (with_first (length l) remove (b ∷ l) p t (next ++ kept_box remove p (b ∷ l))).bytes) y.whole
        ∙ ap (λ (w : Written). w.bytes) (enough (length l) (length (drop p.len (b ∷ l))) remove (drop p.len (b ∷ l)) (next ++ kept_box remove p (b ∷ l)) (omega arith) (omega arith))
        ∙ ap (λ t. bytes_from (length (drop p.len (b ∷ l))) remove (drop p.len (b ∷ l)) (next ++ cond t (take p.len (b ∷ l)) [])) (type_stays remove (b ∷ l) e)

    by : (t : Bool) → begins_typed xs ≡ t → from (front_of t xs) ≡ bytes_from (length xs) remove xs (take 12 file)
    by false e = ap (λ (l : List ℕ). bytes_from (length xs) remove xs l) (append-nil (take 12 file))
    by true e =
        let len : ℕ = (box_piece xs).len in
        let front : take (12 + len) file ≡ take 12 file ++ take len xs = take-add 12 len file in
        let behind : drop (12 + len) file ≡ drop len xs =
        ap (λ k. drop (k + len) file) (sym (length-take-le 12 file h)) ∙ ap (λ (l : List ℕ). drop (length (take 12 file) + len) l) (sym (take-append-drop 12 file)) ∙ drop-append-add (take 12 file) xs len in
        ap (λ (l : List ℕ). bytes_from (length (drop (12 + len) file)) remove (drop (12 + len) file) l) (append-nil (take (12 + len) file) ∙ front)
        ∙ ap (λ (l : List ℕ). bytes_from (length l) remove l (take 12 file ++ take len xs)) behind
        ∙ sym (step xs e (take 12 file))

-- ---- the file

pub record Contained (remove : Remove) (file n : List ℕ) (new : Written) : Type 0 where
  pub other : is_codestream file ≡ false
  pub long : 12 ≤ length file
  pub begins : is_jxl file ≡ true
  pub is : with_box remove file n ≡ new

ok_is : (one out : Written) → ◌≡◌ {A = Result Written Refusal} (Ok one) (Ok out) → one ≡ out
ok_is one out e = ap (λ r. written_in one r) e
  where
    written_in : Written → Result Written Refusal → Written
    written_in other (Ok new) = new
    written_in other (Err refusal) = other

pub contained : (remove : Remove) (file n : List ℕ) (new : Written) → if_contained remove file n ≡ Ok new → Contained remove file n new
contained remove file n new e = by (is_codestream file) (ltb (length file) 12) (is_jxl file) refl refl refl e
  where
    by : (a b c : Bool) → is_codestream file ≡ a → ltb (length file) 12 ≡ b → is_jxl file ≡ c
        → ◌≡◌ {A = Result Written Refusal} (cond a (Err no_container) (cond b (Err broken_jxl) (cond c (Ok (with_box remove file n)) (Err not_jxl)))) (Ok new) → Contained remove file n new
    by true b c ea eb ec h = absurd (cc)
    by false true c ea eb ec h = absurd (cc)
    by false false false ea eb ec h = absurd (cc)
    by false false true ea eb ec h = record { other = ea; long = grind (arith, nat_tests); begins = ec; is = ok_is (with_box remove file n) new h }

-- a file that begins as one in its container does
contained_back : (remove : Remove) (file n : List ℕ) → is_codestream file ≡ false → 12 ≤ length file → is_jxl file ≡ true
    → if_contained remove file n ≡ Ok (with_box remove file n)
contained_back remove file n a b c =
    ap (λ t. cond t (Err no_container) (cond (ltb (length file) 12) (Err broken_jxl) (cond (is_jxl file) (Ok (with_box remove file n)) (Err not_jxl)))) a
    ∙ ap (λ t. cond t (Err broken_jxl) (cond (is_jxl file) (Ok (with_box remove file n)) (Err not_jxl))) (le-ltb (length file) 12 b)
    ∙ ap (λ t. cond t (Ok (with_box remove file n)) (Err not_jxl)) c

-- the new file begins as the old one
begins_again : (remove : Remove) (file n r : List ℕ) (new : Written) → Contained remove file n new → (f : ℕ) → 12 ≤ f → f ≤ length file
    → if_contained remove (take f file ++ r) n ≡ Ok (with_box remove (take f file ++ r) n)
begins_again remove file n r new c f least most =
    let made : List ℕ = take f file ++ r in
    let taken : length (take f file) ≡ f = length-take-le f file most in
    let all : length made ≡ length (take f file) + length r = length-append (take f file) r in
    let front : take f made ≡ take f file = take_at (take f file) r f taken in
    let two : take 2 made ≡ take 2 file = shorter 2 f file made (omega arith) most (omega arith) front in
    let twelve : take 12 made ≡ take 12 file = shorter 12 f file made least most (omega arith) front in
    contained_back remove made n (ap (λ (l : List ℕ). bytes_eq l (255 ∷ 10 ∷ [])) two ∙ c.other) (omega arith)
    (ap (λ (l : List ℕ). bytes_eq l (0 ∷ 0 ∷ 0 ∷ 12 ∷ 0x4a ∷ 0x58 ∷ 0x4c ∷ 0x20 ∷ 13 ∷ 10 ∷ 0x87 ∷ 10 ∷ [])) twelve ∙ c.begins)

-- where no data are put
stable_none : (remove : Remove) (file : List ℕ) (new : Written) → Contained remove file [] new → bytes_of (if_contained remove new.bytes []) ≡ Ok new.bytes
stable_none remove file new c =
    let long = c.long in
    let xs : List ℕ = drop 12 file in
    let g = filters (length xs) remove xs (take 12 file) (omega arith) in
    let made : List ℕ = take 12 file ++ g.tail in
    let is : new.bytes ≡ made = ap (λ (w : Written). w.bytes) (sym c.is) ∙ none_put remove file long ∙ g.is in
    let taken : length (take 12 file) ≡ 12 = length-take-le 12 file long in
    let all : length made ≡ length (take 12 file) + length g.tail = length-append (take 12 file) g.tail in
    let behind : drop 12 made ≡ g.tail = drop_at (take 12 file) g.tail 12 taken in
    let front : take 12 made ≡ take 12 file = take_at (take 12 file) g.tail 12 taken in
    let again : (with_box remove made []).bytes ≡ made = none_put remove made (omega arith)
    ∙ ap (λ (l : List ℕ). bytes_from (length l) remove l (take 12 made)) behind
    ∙ ap (λ (l : List ℕ). bytes_from (length g.tail) remove g.tail l) front
    ∙ g.again (length g.tail) (take 12 file) (omega arith) in
    ap (λ (l : List ℕ). bytes_of (if_contained remove l [])) is
    ∙ ap (λ r. bytes_of r) (begins_again remove file [] g.tail new c 12 (omega arith) long)
    ∙ ap (λ (l : List ℕ). Ok l) again ∙ ap (λ (l : List ℕ). Ok l) (sym is)

-- the box of new data has another type
untyped : (payload tail : List ℕ) → begins_typed (exif_box payload ++ tail) ≡ false
untyped payload tail = refl

-- where data are put
stable_some : (remove : Remove) (payload file : List ℕ) (new : Written) → length payload ≤ 4294967283 → Contained remove file (exif_box payload) new
    → bytes_of (if_contained remove new.bytes (exif_box payload)) ≡ Ok new.bytes
stable_some remove payload file new small c =
    let long = c.long in
    let n : List ℕ = exif_box payload in
    let f : ℕ = front_len file in
    let most = front_within file long in
    let xs : List ℕ = drop f file in
    let g = filters (length xs) remove xs (take f file ++ n) (omega arith) in
    let r : List ℕ = n ++ g.tail in
    let made : List ℕ = take f file ++ r in
    let is : new.bytes ≡ made = ap (λ (w : Written). w.bytes) (sym c.is) ∙ g.is ∙ append_assoc (take f file) n g.tail in
    let taken : length (take f file) ≡ f = length-take-le f file most in
    let same : front_len made ≡ f = front_again file r long (untyped payload g.tail) in
    let behind : drop f made ≡ r = drop_at (take f file) r f taken in
    let front : take f made ≡ take f file = take_at (take f file) r f taken in
    let again : (with_box remove made n).bytes ≡ made =
    ap (λ k. bytes_from (length (drop k made)) remove (drop k made) (take k made ++ n)) same
    ∙ ap (λ (l : List ℕ). bytes_from (length l) remove l (take f made ++ n)) behind
    ∙ ap (λ (l : List ℕ). bytes_from (length r) remove r (l ++ n)) front
    ∙ skip remove payload g.tail (take f file ++ n) (length r) small (omega arith) (λ k hk. g.again k (take f file ++ n) hk)
    ∙ append_assoc (take f file) n g.tail in
    ap (λ (l : List ℕ). bytes_of (if_contained remove l n)) is
    ∙ ap (λ r. bytes_of r) (begins_again remove file n r new c f (front_least file) most)
    ∙ ap (λ (l : List ℕ). Ok l) again ∙ ap (λ (l : List ℕ). Ok l) (sym is)
  where
    front_least : (file : List ℕ) → 12 ≤ front_len file
    front_least file = omega arith

-- where new data are: behind the front of the file
pub record Put (payload file made : List ℕ) : Type 0 where
  pub small : length payload ≤ 4294967283
  pub long : 12 ≤ length file
  pub begins : is_jxl file ≡ true
  pub tail : List ℕ
  pub is : made ≡ take (front_len file) file ++ (exif_box payload ++ tail)

pub put_at : (remove : Remove) (payload file : List ℕ) (new : Written) → jxl_rewritten remove (Some payload) file ≡ Ok new → Put payload file new.bytes
put_at remove payload file new e = by (ltb 4294967283 (length payload)) refl e
  where
    f : ℕ
    f = front_len file

    by : (t : Bool) → ltb 4294967283 (length payload) ≡ t → (cond t (Err too_large) (Ok (exif_box payload)) >>= λ n. if_contained remove file n) ≡ Ok new → Put payload file new.bytes
    by true s h = absurd (cc)
    by false s h =
        let c = contained remove file (exif_box payload) new h in
        let g = filters (length (drop f file)) remove (drop f file) (take f file ++ exif_box payload) (omega arith) in record {
          small = grind (arith, nat_tests);
          long = c.long;
          begins = c.begins;
          tail = g.tail;
          is = ap (λ (w : Written). w.bytes) (sym c.is) ∙ g.is ∙ append_assoc (take f file) (exif_box payload) g.tail;
        }

pub stable : (remove : Remove) (put : Option (List ℕ)) (file : List ℕ) (new : Written) → JxlIsStable remove put file new
stable remove None file new e = stable_none remove file new (contained remove file [] new e)
stable remove (Some payload) file new e = by (ltb 4294967283 (length payload)) refl e
  where
    by : (t : Bool) → ltb 4294967283 (length payload) ≡ t → (cond t (Err too_large) (Ok (exif_box payload)) >>= λ n. if_contained remove file n) ≡ Ok new
        → bytes_of (jxl_rewritten remove (Some payload) new.bytes) ≡ Ok new.bytes
    by true s h = absurd (cc)
    by false s h =
        let small : length payload ≤ 4294967283 = grind (arith, nat_tests) in
        ap (λ t. bytes_of (cond t (Err too_large) (Ok (exif_box payload)) >>= λ n. if_contained remove new.bytes n)) s
        ∙ stable_some remove payload file new small (contained remove file (exif_box payload) new h)
