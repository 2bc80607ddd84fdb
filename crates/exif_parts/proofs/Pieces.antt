-- The pieces of a JPEG stream behind its first marker, by what begins them.
use Rattle.std.proofs.Common.{◌≡◌, ◌<◌, ◌≤◌, ◌+◌, ◌-◌, ℕ, suc, Bool, true, false, cond, eqb, ltb, List, [], ◌∷◌, length, take, drop, slice_index, refl, arith}
use Rattle.std.proofs.lemmas.Bool.Decides.{nat_tests}
use Rattle.exif_inventory.specs.JpegKinds.{front_len, has_no_length, has_resources, segment_kind}
use Rattle.exif_inventory.specs.JpegPieces.{fill_len, free_len, free_piece, given_len, kind_segment, marker_piece, rest_piece, segment_front, stream_piece, whole_segment}
use Rattle.exif_inventory.specs.declared.kind.Kind.{Kind}
use Rattle.exif_inventory.specs.declared.kind.Kind.TheVariants as kind
use Rattle.exif_inventory.specs.declared.piece.Piece.{Piece}
use Rattle.exif_parts.specs.Jpeg.{resources_len}

-- how many bytes a piece has with all resources that it begins
abbrev pub full_len : Piece → ℕ
full_len piece = piece.len + resources_len piece.next

chosen : {A : Type 0} (Q : A → Type 0) (b : Bool) (x y : A) → (b ≡ true → Q x) → (b ≡ false → Q y) → Q (cond b x y)
chosen Q true x y f g = f refl
chosen Q false x y f g = g refl

-- the marker of the marker behind the ffs at the front
abbrev pub marker_at : List ℕ → ℕ
marker_at bytes = slice_index bytes (fill_len bytes)

-- what holds of bytes that begin with a marker of this sort
pub record IsMarked (alone : Bool) (bytes : List ℕ) : Type 0 where
  pub free : ltb 0 (free_len bytes) ≡ false
  pub more : eqb (fill_len bytes) (length bytes) ≡ false
  pub is : has_no_length (marker_at bytes) ≡ alone

-- and of a segment that is whole
pub record IsSized (bytes : List ℕ) : Type 0 where
  pub marked : IsMarked false bytes
  pub size : ltb (length bytes - fill_len bytes) 3 ≡ false
  pub whole : ltb (length bytes - fill_len bytes - 1) (given_len (fill_len bytes) bytes) ≡ false

-- the content of a segment
abbrev pub content_at : List ℕ → List ℕ
content_at bytes = take (given_len (fill_len bytes) bytes - 2) (drop (fill_len bytes + 3) bytes)

-- its piece
abbrev pub sized_piece : Bool → List ℕ → Piece
sized_piece scanned bytes =
    kind_segment 0 scanned (fill_len bytes) (marker_at bytes) (given_len (fill_len bytes) bytes) (segment_kind (marker_at bytes) (content_at bytes))

-- a piece is bytes outside of segments, all bytes that are left, a marker without a length, or a
-- segment
pub by_piece : (Q : Piece → Type 0) (scanned : Bool) (bytes : List ℕ)
    → (ltb 0 (free_len bytes) ≡ true → Q (free_piece 0 scanned (free_len bytes)))
    → Q (rest_piece 0 bytes)
    → (IsMarked true bytes → Q (marker_piece 0 scanned (fill_len bytes) (marker_at bytes)))
    → (IsSized bytes → Q (sized_piece scanned bytes))
    → Q (stream_piece 0 scanned bytes)
unfolding stream_piece
by_piece Q scanned bytes free cut alone sized =
    chosen Q (ltb 0 (free_len bytes)) _ _ free
    (λ n. chosen Q (eqb (fill_len bytes) (length bytes)) _ _ (λ e. cut)
    (λ m. chosen Q (has_no_length (marker_at bytes)) _ _ (λ a. alone (record { free = n; more = m; is = a }))
    (λ a. chosen Q (ltb (length bytes - fill_len bytes) 3) _ _ (λ e. cut)
    (λ s. chosen Q (ltb (length bytes - fill_len bytes - 1) (given_len (fill_len bytes) bytes)) _ _ (λ e. cut)
    (λ w. sized (record { marked = record { free = n; more = m; is = a }; size = s; whole = w }))))))

-- ---- how long a piece is

resources_some : (k : Kind) (n : ℕ) → has_resources k n ≡ true → 0 < n
resources_some kind.Photoshop n e = grind (arith, nat_tests)
resources_some kind.PhotoshopExif n e = absurd (cc)
resources_some kind.PhotoshopXmp n e = absurd (cc)
resources_some kind.PhotoshopOther n e = absurd (cc)
resources_some kind.Picture n e = absurd (cc)
resources_some kind.Jfif n e = absurd (cc)
resources_some kind.JfifThumbnail n e = absurd (cc)
resources_some kind.Exif n e = absurd (cc)
resources_some kind.Xmp n e = absurd (cc)
resources_some kind.ExtendedXmp n e = absurd (cc)
resources_some kind.Iptc n e = absurd (cc)
resources_some kind.Comment n e = absurd (cc)
resources_some kind.IccProfile n e = absurd (cc)
resources_some kind.Adobe n e = absurd (cc)
resources_some kind.MultiPicture n e = absurd (cc)
resources_some kind.ContentCredentials n e = absurd (cc)
resources_some kind.Trailer n e = absurd (cc)
resources_some kind.Unknown n e = absurd (cc)
resources_some kind.Broken n e = absurd (cc)

-- a segment, with all resources that it begins, has its marker and its length
pub segment_len : (scanned : Bool) (at marker len : ℕ) (k : Kind) → full_len (kind_segment 0 scanned at marker len k) ≡ at + 1 + len
segment_len scanned at marker len k =
    chosen (λ (p : Piece). full_len p ≡ at + 1 + len) (has_resources k (at + 1 + len - front_len k at)) (segment_front 0 scanned at k (at + 1 + len - front_len k at)) (whole_segment 0 scanned at marker len k)
    (λ e. front e) (λ e. omega arith)
  where
    front : has_resources k (at + 1 + len - front_len k at) ≡ true → front_len k at + (at + 1 + len - front_len k at) ≡ at + 1 + len
    front e = let some = resources_some k (at + 1 + len - front_len k at) e in omega arith

free_short : (bytes : List ℕ) → free_len bytes ≤ length bytes
free_short [] = omega arith
free_short (b ∷ bytes) = let h = free_short bytes in chosen (λ n. n ≤ suc (length bytes)) (eqb b 255) 0 (suc (free_len bytes)) (λ e. omega arith) (λ e. omega arith)

pub fill_short : (bytes : List ℕ) → fill_len bytes ≤ length bytes
fill_short [] = omega arith
fill_short (b ∷ bytes) = let h = fill_short bytes in chosen (λ n. n ≤ suc (length bytes)) (eqb b 255) (suc (fill_len bytes)) 0 (λ e. omega arith) (λ e. omega arith)

-- it is a part of the bytes
pub full_within : (scanned : Bool) (bytes : List ℕ) → full_len (stream_piece 0 scanned bytes) ≤ length bytes
full_within scanned bytes =
    let short = fill_short bytes in
    let free = free_short bytes in
    by_piece (λ p. full_len p ≤ length bytes) scanned bytes (λ e. omega arith) (omega arith)
    (λ m. alone m.more short) (λ s. sized s short)
  where
    no_resources : (marker : ℕ) → resources_len (marker_piece 0 scanned (fill_len bytes) marker).next ≡ 0
    no_resources marker = chosen (λ s. resources_len s ≡ 0) (eqb marker 217) _ _ (λ e. refl) (λ e. refl)

    alone : eqb (fill_len bytes) (length bytes) ≡ false → fill_len bytes ≤ length bytes → full_len (marker_piece 0 scanned (fill_len bytes) (marker_at bytes)) ≤ length bytes
    alone more short = let none = no_resources (marker_at bytes) in let less : fill_len bytes < length bytes = grind (arith, nat_tests) in omega arith

    sized : IsSized bytes → fill_len bytes ≤ length bytes → full_len (sized_piece scanned bytes) ≤ length bytes
    sized s short =
        let size = s.size in
        let whole = s.whole in
        let len = segment_len scanned (fill_len bytes) (marker_at bytes) (given_len (fill_len bytes) bytes) (segment_kind (marker_at bytes) (content_at bytes)) in
        let three : 3 ≤ length bytes - fill_len bytes = grind (arith, nat_tests) in
        let fits : given_len (fill_len bytes) bytes ≤ length bytes - fill_len bytes - 1 = grind (arith, nat_tests) in
        omega arith
