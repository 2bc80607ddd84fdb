-- Patches exchanged with the bytes that they are put over, and exchanged again.
use Rattle.std.proofs.Common.{◌≡◌, ◌≤◌, ◌<◌, ◌+◌, ℕ, List, [], ◌∷◌, ◌++◌, length, get_or, set, take, drop, All, refl, sym, ap, ◌∙◌, arith, append_assoc, length-append}
use Rattle.std.proofs.lemmas.Grind.{common_steps}
use Rattle.std.proofs.lemmas.List.{drop_at, drop-drop, drop-set, drop-set-lt, take-append-drop, take_at, take_more, take_more_set, take-set}
use Rattle.std.proofs.lemmas.List.Elements.{All-nil, All-cons, All-get_or, All-head, All-same, All-set}
use Rattle.exif_base.specs.Bytes.{bytes_at}
use Rattle.exif_edit_base.specs.Patches.{FitsIn, patched, put_at, put_back, swapped, swapped_back, taken}
use Rattle.exif_edit_base.specs.declared.patch.Patch.{Patch}
use Rattle.exif_edit_base.proofs.ChangeSteps.{left_step}
use Rattle.exif_edit_base.proofs.PatchSteps.{fit_behind, fit_in, length-put_at}

-- ---- one patch

-- as many bytes are taken from an offset as are requested, if they lie in the data
pub length-bytes_at : (n offset : ℕ) (bytes : List ℕ) → offset + n ≤ length bytes
    → length (bytes_at n bytes offset) ≡ n
length-bytes_at n offset bytes h = grind (arith, common_steps)

-- bytes put over as many others
pub put_over : (front encoded rest new : List ℕ) (offset : ℕ) → length front ≡ offset
    → length new ≡ length encoded
    → put_at offset new (front ++ (encoded ++ rest)) ≡ front ++ (new ++ rest)
put_over front encoded rest new offset f e =
    let l : length (front ++ encoded) ≡ offset + length new =
    omega (arith, length-append front encoded) in
    let t : take offset (front ++ (encoded ++ rest)) ≡ front = take_at front (encoded ++ rest) offset f in
    let d : drop (offset + length new) (front ++ (encoded ++ rest)) ≡ rest =
    ap (λ xs. drop (offset + length new) xs) (sym (append_assoc front encoded rest))
    ∙ drop_at (front ++ encoded) rest (offset + length new) l in
    ap (λ xs. xs ++ (new ++ drop (offset + length new) (front ++ (encoded ++ rest)))) t
    ∙ ap (λ xs. front ++ (new ++ xs)) d

-- the bytes before, in and behind a stretch
pub in_three : (offset n : ℕ) (bytes : List ℕ)
    → take offset bytes ++ (bytes_at n bytes offset ++ drop (offset + n) bytes) ≡ bytes
in_three offset n bytes =
    ap (λ xs. take offset bytes ++ (bytes_at n bytes offset ++ xs)) (sym (drop-drop n offset bytes))
    ∙ (ap (λ xs. take offset bytes ++ xs) (take-append-drop n (drop offset bytes))
    ∙ take-append-drop offset bytes)

-- the old bytes put over the new ones are there again
pub put_twice : (offset : ℕ) (encoded bytes : List ℕ) → offset + length encoded ≤ length bytes
    → put_at offset (bytes_at (length encoded) bytes offset) (put_at offset encoded bytes) ≡ bytes
put_twice offset encoded bytes h =
    let l = length-bytes_at (length encoded) offset bytes h in
    let f : length (take offset bytes) ≡ offset = grind (arith, common_steps) in
    put_over (take offset bytes) encoded (drop (offset + length encoded) bytes)
    (bytes_at (length encoded) bytes offset) offset f l
    ∙ in_three offset (length encoded) bytes

-- and what they replace is the old bytes
pub encoded_there : (offset : ℕ) (encoded bytes : List ℕ) → offset + length encoded ≤ length bytes
    → bytes_at (length encoded) (put_at offset encoded bytes) offset ≡ encoded
encoded_there offset encoded bytes h = grind (arith, common_steps)

taken_twice : (p : Patch) (bytes : List ℕ) → FitsIn (length bytes) p
    → taken (put_at p.offset p.bytes bytes) (taken bytes p) ≡ p
taken_twice p bytes h =
    rw (length-bytes_at (length p.bytes) p.offset bytes h, encoded_there p.offset p.bytes bytes h) refl

taken_fits : (n : ℕ) (p : Patch) (bytes : List ℕ) → n ≡ length bytes → FitsIn n p
    → FitsIn n (taken bytes p)
taken_fits n p bytes e h =
    let l = length-bytes_at (length p.bytes) p.offset bytes (omega arith) in omega arith

-- ---- all of them, there and back

-- patches that lie in bytes lie there still once they are exchanged with what was there
pub swapped_fit : (ps : List Patch) (bytes : List ℕ) → All (FitsIn (length bytes)) ps
    → All (FitsIn (length bytes)) (swapped ps bytes)
swapped_fit [] bytes h = All-nil (FitsIn (length bytes))
swapped_fit (p ∷ ps) bytes h =
    let fits = All-head (FitsIn (length bytes)) p ps h in
    let new = put_at p.offset p.bytes bytes in
    All-cons (FitsIn (length bytes)) (taken bytes p) (swapped ps new)
    (taken_fits (length bytes) p bytes refl fits)
    (fit_in (length new) (length bytes) (swapped ps new) (length-put_at p.offset p.bytes bytes fits)
    (swapped_fit ps new (fit_behind p ps bytes h)))

-- patches that were exchanged and are put back give the bytes from before
pub bytes_put_back : (ps : List Patch) (bytes : List ℕ) → All (FitsIn (length bytes)) ps
    → put_back (swapped ps bytes) (patched ps bytes) ≡ bytes
bytes_put_back [] bytes h = refl
bytes_put_back (p ∷ ps) bytes h =
    ap (λ xs. put_at p.offset (bytes_at (length p.bytes) bytes p.offset) xs)
    (bytes_put_back ps (put_at p.offset p.bytes bytes) (fit_behind p ps bytes h))
    ∙ put_twice p.offset p.bytes bytes (All-head (FitsIn (length bytes)) p ps h)

-- patches that are exchanged, and exchanged back, are as they were
pub patches_put_back : (ps : List Patch) (bytes : List ℕ) → All (FitsIn (length bytes)) ps
    → swapped_back (swapped ps bytes) (patched ps bytes) ≡ ps
patches_put_back [] bytes h = refl
patches_put_back (p ∷ ps) bytes h =
    let new = put_at p.offset p.bytes bytes in
    let behind = fit_behind p ps bytes h in
    ap (λ xs. taken xs (taken bytes p) ∷ swapped_back (swapped ps new) (patched ps new))
    (bytes_put_back ps new behind)
    ∙ (ap (λ q. q ∷ swapped_back (swapped ps new) (patched ps new))
    (taken_twice p bytes (All-head (FitsIn (length bytes)) p ps h))
    ∙ ap (λ qs. p ∷ qs) (patches_put_back ps new behind))

-- ---- one after another

-- each of them lies in the bytes, exchanged or not
pub exchanged_fit : (xs ys : List Patch) (i : ℕ) (x y : Patch) (bytes new : List ℕ)
    → i < length xs → ys ≡ set xs i y → y ≡ taken bytes (get_or xs i x)
    → length new ≡ length bytes
    → All (FitsIn (length bytes)) xs → All (FitsIn (length new)) ys
exchanged_fit xs ys i x y bytes new h e v l k =
    let one = All-get_or (FitsIn (length bytes)) xs i x h k in
    let there : FitsIn (length bytes) y =
    rw v (taken_fits (length bytes) (get_or xs i x) bytes refl one) in
    fit_in (length bytes) (length new) ys (sym l)
    (All-same (FitsIn (length bytes)) ys (set xs i y) e
    (All-set (FitsIn (length bytes)) xs i y there k))

-- one of them is put
put_there : (xs : List Patch) (i : ℕ) (x : Patch) (bytes new : List ℕ) → x ≡ get_or xs i x
    → new ≡ put_at (get_or xs i x).offset (get_or xs i x).bytes bytes
    → new ≡ put_at x.offset x.bytes bytes
put_there xs i x bytes new g f = f ∙ ap (λ q. put_at q.offset q.bytes bytes) (sym g)

-- with one patch put, those that are left still make the same bytes
pub patched_on : (xs ys : List Patch) (i : ℕ) (x y : Patch) (bytes new all : List ℕ)
    → i < length xs → x ≡ get_or xs i x → ys ≡ set xs i y
    → new ≡ put_at (get_or xs i x).offset (get_or xs i x).bytes bytes
    → patched (drop i xs) bytes ≡ all → patched (drop (i + 1) ys) new ≡ all
patched_on xs ys i x y bytes new all h g e f k =
    let r : drop (i + 1) (set xs i y) ≡ drop (i + 1) xs =
    drop-set-lt (i + 1) xs i y (omega arith) in
    let n = put_there xs i x bytes new g f in
    rw (e, r, n) (sym (ap (λ ps. patched ps bytes) (left_step xs i x h g)) ∙ k)

-- with one patch exchanged, those done and what the rest becomes are still the same list
pub swapped_on : (xs ys : List Patch) (i : ℕ) (x y : Patch) (bytes new : List ℕ)
    (all : List Patch)
    → i < length xs → x ≡ get_or xs i x → ys ≡ set xs i y → y ≡ taken bytes (get_or xs i x)
    → new ≡ put_at (get_or xs i x).offset (get_or xs i x).bytes bytes
    → take i xs ++ swapped (drop i xs) bytes ≡ all
    → take (i + 1) ys ++ swapped (drop (i + 1) ys) new ≡ all
swapped_on xs ys i x y bytes new all h g e v f k =
    let r : drop (i + 1) (set xs i y) ≡ drop (i + 1) xs =
    drop-set-lt (i + 1) xs i y (omega arith) in
    let t : take (i + 1) (set xs i y) ≡ take i xs ++ y ∷ [] = take_more_set xs i y h in
    let n = put_there xs i x bytes new g f in
    let w : y ≡ taken bytes x = v ∙ ap (λ q. taken bytes q) (sym g) in
    let rest = swapped (drop (i + 1) xs) (put_at x.offset x.bytes bytes) in
    rw (e, t, r, n, w)
    (append_assoc (take i xs) (taken bytes x ∷ []) rest
    ∙ (sym (ap (λ ps. take i xs ++ swapped ps bytes) (left_step xs i x h g)) ∙ k))

-- ---- the same from the last to the first

front_on : (xs : List Patch) (i : ℕ) (x : Patch) → i < length xs → x ≡ get_or xs i x
    → take (i + 1) xs ≡ take i xs ++ x ∷ []
front_on xs i x h g = take_more xs i x h ∙ ap (λ q. take i xs ++ q ∷ []) (sym g)

back_last : (ps : List Patch) (x : Patch) (bytes : List ℕ)
    → put_back (ps ++ x ∷ []) bytes ≡ put_back ps (put_at x.offset x.bytes bytes)
back_last [] x bytes = refl
back_last (p ∷ ps) x bytes = ap (λ xs. put_at p.offset p.bytes xs) (back_last ps x bytes)

swapped_last : (ps : List Patch) (x : Patch) (bytes : List ℕ)
    → swapped_back (ps ++ x ∷ []) bytes
    ≡ swapped_back ps (put_at x.offset x.bytes bytes) ++ taken bytes x ∷ []
swapped_last [] x bytes = refl
swapped_last (p ∷ ps) x bytes =
    let new = put_at x.offset x.bytes bytes in
    ap (λ xs. taken xs p ∷ swapped_back (ps ++ x ∷ []) bytes) (back_last ps x bytes)
    ∙ ap (λ qs. taken (put_back ps new) p ∷ qs) (swapped_last ps x bytes)

-- with one patch put back, those in front of it still give the same bytes
pub back_on : (xs ys : List Patch) (i : ℕ) (x y : Patch) (bytes new all : List ℕ) → i < length xs
    → x ≡ get_or xs i x → ys ≡ set xs i y
    → new ≡ put_at (get_or xs i x).offset (get_or xs i x).bytes bytes
    → put_back (take (i + 1) xs) bytes ≡ all → put_back (take i ys) new ≡ all
back_on xs ys i x y bytes new all h g e f k =
    let n = put_there xs i x bytes new g f in
    rw (e, take-set xs i y, n)
    (sym (back_last (take i xs) x bytes)
    ∙ (sym (ap (λ ps. put_back ps bytes) (front_on xs i x h g)) ∙ k))

-- with one patch exchanged back, what those in front become and those done are the same list
pub swapped_back_on : (xs ys : List Patch) (i : ℕ) (x y : Patch) (bytes new : List ℕ)
    (all : List Patch) → i < length xs
    → x ≡ get_or xs i x → ys ≡ set xs i y → y ≡ taken bytes (get_or xs i x)
    → new ≡ put_at (get_or xs i x).offset (get_or xs i x).bytes bytes
    → swapped_back (take (i + 1) xs) bytes ++ drop (i + 1) xs ≡ all
    → swapped_back (take i ys) new ++ drop i ys ≡ all
swapped_back_on xs ys i x y bytes new all h g e v f k =
    let n = put_there xs i x bytes new g f in
    let w : y ≡ taken bytes x = v ∙ ap (λ q. taken bytes q) (sym g) in
    let front = swapped_back (take i xs) (put_at x.offset x.bytes bytes) in
    rw (e, take-set xs i y, drop-set xs i y h, n, w)
    (sym (append_assoc front (taken bytes x ∷ []) (drop (i + 1) xs))
    ∙ (sym (ap (λ qs. qs ++ drop (i + 1) xs) (swapped_last (take i xs) x bytes))
    ∙ (sym (ap (λ ps. swapped_back ps bytes ++ drop (i + 1) xs) (front_on xs i x h g)) ∙ k)))
