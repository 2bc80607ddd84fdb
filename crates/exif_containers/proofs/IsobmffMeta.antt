-- The first `meta` of a file, box by box, and its Exif item, where the source goes back.
use Rattle.std.proofs.Common.{◌≡◌, ◌⊎◌, inl, inr, ℕ, ◌+◌, ◌-◌, ◌^◌, ◌<◌, ◌≤◌, Bool, true, false, cond, List, [], ◌∷◌, ◌++◌, length, take, drop, Option, None, Some, IfSome, Result, Ok, Err, refl, sym, ap, ◌∙◌, subst, arith, append-nil, length-append}
use Rattle.std.proofs.lemmas.Bool.{cases_lt, le-ltb, le-leb, lt-leb}
use Rattle.std.proofs.lemmas.List.{take_at, drop_at, take_all, drop_all, take-append-le, length-take-le, drop-drop}
use borrow.Rule.Slice.PartMut.{put_mid}
use Rattle.std.specs.Io.KnownBytes.{Consumes, IsAtEnd}
use Rattle.exif_base.specs.Told.{WhereTold, IsFetchedOnto, left_behind}
use Rattle.exif_base.proofs.ReadSteps.{consumes_append, take_filled}
use Rattle.exif_types.specs.Refusals.{Refusal}
use Rattle.exif_isobmff.specs.HeifRefusals.{broken_file, invalid_offset, meta_before_ftyp}
use Rattle.exif_isobmff.specs.declared.kind.Kind.{Kind}
use Rattle.exif_isobmff.specs.declared.kind.Kind.TheVariants.{FileType, Meta, ItemData, ItemInfo, ItemInfoEntry, ItemLocation, Other}
use Rattle.exif_isobmff.specs.declared.splitter.Header.{Header}
use Rattle.exif_isobmff.specs.declared.locations.Extent.{Extent}
use Rattle.exif_isobmff.specs.HeifFile.{file_box_at, IsHeaderOf, meta_body, meta_in, passed, whole}
use Rattle.exif_isobmff.specs.ItemLocations.{ItemExtents, item_bytes}
use Rattle.exif_isobmff.proofs.FileBoxes.{box_of, file_went_on, file_found}
use Rattle.exif_containers.specs.HeifSteps.{one_part}
use Rattle.exif_containers.specs.GoingBack.{TakesBody, PassesBody, FindsMeta}
use Rattle.exif_containers.proofs.IsobmffExtents.{one_of}

-- ---- reads

-- a header of 8 bytes and 8 more
pub header_taken : (a b c : Option (List ℕ)) (n more : ℕ) (first rest second : List ℕ) → n ≡ 8 → n ≤ length first → more ≤ length second
    → Consumes a b (take n first) → Consumes b c (take more second) → Consumes a c (take (n + more) (put_mid 8 8 (first ++ rest) second))
header_taken a b c n more first rest second e some others h k =
    let long : 8 ≤ length (first ++ rest) = omega (arith, length-append first rest) in
    let front : take 8 (first ++ rest) ≡ take n first = take-append-le 8 first rest (omega arith) ∙ ap (λ m. take m first) (sym e) in
    let same : take (n + more) (put_mid 8 8 (first ++ rest) second) ≡ take n first ++ take more second =
    ap (λ m. take (m + more) (put_mid 8 8 (first ++ rest) second)) e ∙ take_filled 8 8 more (first ++ rest) second long others ∙ ap (λ t. t ++ take more second) front in
    subst (Consumes a c) (sym same) (consumes_append a b c (take n first) (take more second) h k)

-- a body was read, as far as it is there
pub body_taken : (a b : Option (List ℕ)) (old new : List ℕ) (n len : ℕ) → old ≡ [] → IsFetchedOnto a b old new n → n ≤ len → (n < len → IsAtEnd b) → TakesBody len new a b
body_taken None b old new n len z h most end = tt
body_taken (Some xs) None old new n len z h most end = absurd h.1
body_taken (Some xs) (Some ys) old new n len z h most end = by (cases_lt n len)
  where
    bytes : List ℕ
    bytes = h.0

    put : new ≡ bytes
    put = h.3 ∙ ap (λ t. t ++ bytes) z

    by : (n < len) ⊎ (len ≤ n) → (new ≡ take len xs) × (ys ≡ drop len xs)
    by (inl lt) =
        let none : ys ≡ [] = end lt in
        let all : xs ≡ bytes = h.1 ∙ ap (λ t. bytes ++ t) none ∙ append-nil bytes in
        let space : length bytes ≤ len = omega (arith, h.2) in
        (put ∙ sym (ap (take len) all ∙ take_all len bytes space), none ∙ sym (ap (drop len) all ∙ drop_all len bytes space))
    by (inr le) =
        let same : length bytes ≡ len = omega (arith, h.2) in
        (put ∙ sym (ap (take len) h.1 ∙ take_at bytes ys len same), sym (ap (drop len) h.1 ∙ drop_at bytes ys len same))

-- ---- boxes before `meta`

-- a body that was read is skipped
pub taken_passed : (h : Header) (seen now : Bool) (body : List ℕ) (a b : Option (List ℕ)) → TakesBody h.len body a b → passed seen h.kind h.len body ≡ Ok now → PassesBody h seen now a b
taken_passed h seen now body None b t p = tt
taken_passed h seen now body (Some xs) None t p = absurd t
taken_passed h seen now body (Some xs) (Some ys) t p = (subst (λ bytes. passed seen h.kind h.len bytes ≡ Ok now) t.0 p, t.1)

-- what is no `ftyp` is skipped whatever its body is
other_body : (kind : Kind) (seen now : Bool) (len : ℕ) (body : List ℕ) → (kind ≡ FileType → ⊥) → passed seen kind len [] ≡ Ok now → passed seen kind len body ≡ Ok now
other_body FileType seen now len body n p = absurd (n refl)
other_body Meta seen now len body n p = p
other_body ItemData seen now len body n p = p
other_body ItemInfo seen now len body n p = p
other_body ItemInfoEntry seen now len body n p = p
other_body ItemLocation seen now len body n p = p
other_body Other seen now len body n p = p

-- ---- from box to box

-- a file was read as far as its first n bytes, and what its `meta` is follows from the rest
abbrev pub WalksTo : Bool → ℕ → Option (List ℕ) → Option (List ℕ) → Type 0
WalksTo seen n old new = WhereTold old new (λ file rest. (meta_in seen rest ≡ meta_body file) × (rest ≡ drop n file))

pub walks_from : (n : ℕ) (a : Option (List ℕ)) → n ≡ 0 → WalksTo false n a a
unfolding meta_body
walks_from n None z = tt
walks_from n (Some xs) z = (refl, ap (λ m. drop m xs) (sym z))

-- the next box of a file
record IsNext (h : Header) (head xs ys : List ℕ) : Type 0 where
  some : 0 < length xs
  box : file_box_at xs ≡ Ok (box_of h.kind h.len (take h.len ys), drop h.len ys)
  behind : ys ≡ drop (length head) xs

next_box : (h : Header) (head xs ys : List ℕ) → IsHeaderOf h head → 8 ≤ length head → xs ≡ head ++ ys → IsNext h head xs ys
next_box h head xs ys is long e = record {
  some = omega (arith, ap (λ (t : List ℕ). length t) e, length-append head ys);
  box = ap file_box_at e ∙ is ys;
  behind = sym (ap (drop (length head)) e ∙ drop_at head ys (length head) refl);
}

-- this many bytes further
further : (n k len next : ℕ) (file xs ys zs : List ℕ) → xs ≡ drop n file → ys ≡ drop k xs → zs ≡ drop len ys → next ≡ n + k + len → zs ≡ drop next file
further n k len next file xs ys zs e f g s =
    g ∙ ap (drop len) (f ∙ ap (drop k) e ∙ drop-drop k n file) ∙ drop-drop len (n + k) file ∙ ap (λ m. drop m file) (sym s)

-- the loop goes on behind a box that is skipped
pub walks_on : (seen now : Bool) (n next k : ℕ) (h : Header) (buf : List ℕ) (a b c d : Option (List ℕ)) → WalksTo seen n a b → Consumes b c (take k buf) → k ≤ length buf
    → IsHeaderOf h (take k buf) → 8 ≤ length (take k buf) → (h.kind ≡ Meta → ⊥) → PassesBody h seen now c d → next ≡ n + k + h.len → WalksTo now next a d
walks_on seen now n next k h buf None b c d w t bound is long not_meta p s = tt
walks_on seen now n next k h buf (Some file) None c d w t bound is long not_meta p s = absurd w
walks_on seen now n next k h buf (Some file) (Some xs) None d w t bound is long not_meta p s = absurd t
walks_on seen now n next k h buf (Some file) (Some xs) (Some ys) None w t bound is long not_meta p s = absurd p
walks_on seen now n next k h buf (Some file) (Some xs) (Some ys) (Some zs) w t bound is long not_meta p s =
    let one = next_box h (take k buf) xs ys is long t in
    let len : length (take k buf) ≡ k = length-take-le k buf bound in (
      ap (meta_in now) p.1 ∙ file_went_on seen now (box_of h.kind h.len (take h.len ys)) xs (drop h.len ys) (meta_body file) one.some one.box not_meta p.0 w.0,
      further n k h.len next file xs ys zs w.1 (one.behind ∙ ap (λ m. drop m xs) len) p.1 s,
    )

whole_body : (len : ℕ) (body : List ℕ) → len ≤ length body → whole len body ≡ Ok body
whole_body len body h = ap (λ b. cond b (Err broken_file) (Ok body)) (le-ltb (length body) len h)

-- a `meta` that is whole is the answer
finds_meta : (seen : Bool) (n k : ℕ) (h : Header) (buf body : List ℕ) (a b c d : Option (List ℕ)) → WalksTo seen n a b → Consumes b c (take k buf) → k ≤ length buf
    → IsHeaderOf h (take k buf) → 8 ≤ length (take k buf) → h.kind ≡ Meta → seen ≡ true → TakesBody h.len body c d → h.len ≤ length body → FindsMeta body a
finds_meta seen n k h buf body None b c d w t bound is long is_meta was p all = tt
finds_meta seen n k h buf body (Some file) None c d w t bound is long is_meta was p all = absurd w
finds_meta seen n k h buf body (Some file) (Some xs) None d w t bound is long is_meta was p all = absurd t
finds_meta seen n k h buf body (Some file) (Some xs) (Some ys) None w t bound is long is_meta was p all = absurd p
finds_meta seen n k h buf body (Some file) (Some xs) (Some ys) (Some zs) w t bound is long is_meta was p all =
    let one = next_box h (take k buf) xs ys is long t in
    sym w.0 ∙ file_found seen (box_of h.kind h.len (take h.len ys)) xs (drop h.len ys) one.some one.box is_meta
    ∙ ap (λ b. cond b (whole h.len (take h.len ys)) (Err meta_before_ftyp)) was ∙ ap (whole h.len) (sym p.0) ∙ whole_body h.len body all

-- ---- at offsets of a stream

-- a body that was read from an offset on
pub body_at : (stream : Option (List ℕ)) (offset n len : ℕ) (old new : List ℕ) → old ≡ [] → IsFetchedOnto (left_behind (Some offset) stream) (left_behind (Some (offset + n)) stream) old new n → n ≤ len
    → (n < len → IsAtEnd (left_behind (Some (offset + n)) stream)) → TakesBody len new (left_behind (Some offset) stream) (left_behind (Some (offset + len)) stream)
body_at None offset n len old new z h most end = tt
body_at (Some s) offset n len old new z h most end =
    let taken = body_taken (Some (drop offset s)) (Some (drop (offset + n) s)) old new n len z h most end in
    (taken.0, sym (drop-drop len offset s))

-- what is no `ftyp` is skipped unread
pub passed_at : (h : Header) (seen now : Bool) (stream : Option (List ℕ)) (offset : ℕ) → (h.kind ≡ FileType → ⊥) → passed seen h.kind h.len [] ≡ Ok now
    → PassesBody h seen now (left_behind (Some offset) stream) (left_behind (Some (offset + h.len)) stream)
passed_at h seen now None offset n p = tt
passed_at h seen now (Some s) offset n p = (other_body h.kind seen now h.len (take h.len (drop offset s)) n p, sym (drop-drop h.len offset s))

-- the loop goes on behind a box that is skipped
pub walks_at : (seen now : Bool) (stream : Option (List ℕ)) (origin at k body end : ℕ) (h : Header) (buf : List ℕ) → origin ≤ at
    → WalksTo seen (at - origin) (left_behind (Some origin) stream) (left_behind (Some at) stream) → Consumes (left_behind (Some at) stream) (left_behind (Some (at + k)) stream) (take k buf) → k ≤ length buf
    → IsHeaderOf h (take k buf) → 8 ≤ length (take k buf) → (h.kind ≡ Meta → ⊥) → PassesBody h seen now (left_behind (Some body) stream) (left_behind (Some (body + h.len)) stream)
    → body ≡ at + k → end ≡ body + h.len → WalksTo now (end - origin) (left_behind (Some origin) stream) (left_behind (Some end) stream)
walks_at seen now stream origin at k body end h buf in_range w t bound is long not_meta p e f =
    walks_on seen now (at - origin) (end - origin) k h buf _ (left_behind (Some at) stream) (left_behind (Some (at + k)) stream) _ w t bound is long not_meta
    (subst (λ n. PassesBody h seen now (left_behind (Some (at + k)) stream) (left_behind (Some n) stream)) (sym f)
    (subst (λ n. PassesBody h seen now (left_behind (Some n) stream) (left_behind (Some (body + h.len)) stream)) e p)) (omega arith)

-- a `meta` that was read is the answer where it is whole
pub finds_at : {V : Type 0} (items : V → List ℕ) (found : Option V) (seen : Bool) (stream : Option (List ℕ)) (origin at k body : ℕ) (h : Header) (buf : List ℕ)
    → WalksTo seen (at - origin) (left_behind (Some origin) stream) (left_behind (Some at) stream) → Consumes (left_behind (Some at) stream) (left_behind (Some (at + k)) stream) (take k buf) → k ≤ length buf
    → IsHeaderOf h (take k buf) → 8 ≤ length (take k buf) → h.kind ≡ Meta → seen ≡ true
    → IfSome found (λ m. TakesBody h.len (items m) (left_behind (Some body) stream) (left_behind (Some (body + h.len)) stream)) → IfSome found (λ m. h.len ≤ length (items m)) → body ≡ at + k
    → IfSome found (λ m. FindsMeta (items m) (left_behind (Some origin) stream))
finds_at items None seen stream origin at k body h buf w t bound is long is_meta was p all e = tt
finds_at items (Some m) seen stream origin at k body h buf w t bound is long is_meta was p all e =
    finds_meta seen (at - origin) k h buf (items m) _ (left_behind (Some at) stream) (left_behind (Some (at + k)) stream) _ w t bound is long is_meta was
    (subst (λ n. TakesBody h.len (items m) (left_behind (Some n) stream) (left_behind (Some (body + h.len)) stream)) e p) all

-- ---- the item

one_from : (file : List ℕ) (p : ItemExtents) (e : Extent) (offset : ℕ) → p.method ≡ 0 → p.extents ≡ e ∷ [] → p.base + e.offset < 2 ^ 64 → offset ≡ p.base + e.offset
    → item_bytes file None p ≡ one_part e.len (drop offset file)
one_from file p e offset m es h same =
    one_of file None p e m es ∙ ap (λ b. cond b (Err invalid_offset) (one_part e.len (drop (p.base + e.offset) file))) (lt-leb (2 ^ 64) (p.base + e.offset) h)
    ∙ ap (λ n. one_part e.len (drop n file)) (sym same)

-- an offset that is too large
pub too_large : (known : Option (List ℕ)) (p : ItemExtents) (e : Extent) → p.method ≡ 0 → p.extents ≡ e ∷ [] → 2 ^ 64 ≤ p.base + e.offset → IfSome known (λ file. item_bytes file None p ≡ Err invalid_offset)
too_large None p e m es h = tt
too_large (Some file) p e m es h =
    one_of file None p e m es ∙ ap (λ b. cond b (Err invalid_offset) (one_part e.len (drop (p.base + e.offset) file))) (le-leb (2 ^ 64) (p.base + e.offset) h)

-- what is read from its offset on
pub read_there : (P : Result (List ℕ) Refusal → Type 0) (stream : Option (List ℕ)) (origin at : ℕ) (p : ItemExtents) (e : Extent) (offset : ℕ) → p.method ≡ 0 → p.extents ≡ e ∷ [] → p.base + e.offset < 2 ^ 64
    → offset ≡ p.base + e.offset → at ≡ origin + offset → IfSome (left_behind (Some at) stream) (λ xs. P (one_part e.len xs)) → IfSome (left_behind (Some origin) stream) (λ file. P (item_bytes file None p))
read_there P None origin at p e offset m es h same there t = tt
read_there P (Some s) origin at p e offset m es h same there t =
    subst P (ap (one_part e.len) (ap (λ n. drop n s) there ∙ sym (drop-drop offset origin s)) ∙ sym (one_from (drop origin s) p e offset m es h same)) t

-- ---- in a stream that is named otherwise

pub taken_of : (stream s : Option (List ℕ)) (at n : ℕ) (buf : List ℕ) → s ≡ stream → Consumes (left_behind (Some at) s) (left_behind (Some (at + n)) s) (take n buf)
    → Consumes (left_behind (Some at) stream) (left_behind (Some (at + n)) stream) (take n buf)
taken_of stream s at n buf same h = subst (λ t. Consumes (left_behind (Some at) t) (left_behind (Some (at + n)) t) (take n buf)) same h

pub passed_of : (stream s : Option (List ℕ)) (h : Header) (seen now : Bool) (body : ℕ) → s ≡ stream → PassesBody h seen now (left_behind (Some body) s) (left_behind (Some (body + h.len)) s)
    → PassesBody h seen now (left_behind (Some body) stream) (left_behind (Some (body + h.len)) stream)
passed_of stream s h seen now body same p = subst (λ t. PassesBody h seen now (left_behind (Some body) t) (left_behind (Some (body + h.len)) t)) same p

pub body_of : {V : Type 0} (items : V → List ℕ) (stream s : Option (List ℕ)) (found : Option V) (len body : ℕ) → s ≡ stream → IfSome found (λ m. TakesBody len (items m) (left_behind (Some body) s) (left_behind (Some (body + len)) s))
    → IfSome found (λ m. TakesBody len (items m) (left_behind (Some body) stream) (left_behind (Some (body + len)) stream))
body_of items stream s found len body same p = subst (λ t. IfSome found (λ m. TakesBody len (items m) (left_behind (Some body) t) (left_behind (Some (body + len)) t))) same p
