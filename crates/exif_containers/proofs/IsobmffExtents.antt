-- An item of one extent, as it is read from a file.
use Rattle.std.proofs.Common.{◌≡◌, ◌⊎◌, inl, inr, ℕ, ◌+◌, ◌-◌, ◌^◌, ◌<◌, ◌≤◌, cond, eqb, ltb, leb, Bool, true, false, List, [], ◌∷◌, ◌++◌, length, take, drop, Option, None, Some, Result, Ok, Err, IfSome, refl, sym, ap, ◌∙◌, subst, arith, length-append, length-drop, append-nil, get_or}
use Rattle.std.proofs.lemmas.Bool.{cases_lt, lt-ltb, le-ltb, le-leb, eqb-false, lt-leb}
use Rattle.std.proofs.lemmas.Bool.Decides.{nat_tests}
use Rattle.std.proofs.lemmas.List.{take-append-le, take-append-drop, drop-append-le, length-take-le, take_all}
use Rattle.std.specs.Io.KnownBytes.{Consumes, IsAtEnd}
use Rattle.exif_base.specs.Told.{Skips, left_behind}
use Rattle.exif_types.specs.Refusals.{Refusal, ◌>>=◌}
use Rattle.exif_isobmff.specs.HeifRefusals.{broken_file, data_too_large, invalid_offset}
use Rattle.exif_isobmff.specs.declared.locations.Extent.{Extent}
use Rattle.exif_isobmff.specs.declared.extents.Within.TheVariants.{File}
use Rattle.exif_isobmff.specs.ItemLocations.{ItemExtents, extent_front, file_extent, extent_bytes, gathered, item_bytes}
use Rattle.exif_containers.proofs.IsobmffFile.{each, along}
use Rattle.exif_containers.specs.GoingBack.{TakesBody}
use Rattle.exif_containers.specs.HeifSteps.{GoesOn, OffsetIsReached, one_part}

abbrev limited : List ℕ → Result (List ℕ) Refusal
limited part = cond (ltb 65535 (length part)) (Err data_too_large) (Ok part)

-- a part of so many bytes, where there are enough
enough : (len : ℕ) (bytes : List ℕ) → 0 < len → len ≤ length bytes → one_part len bytes ≡ limited (take len bytes)
enough len bytes some h =
    ap (λ b. cond b (Ok bytes) (cond (ltb (length bytes) len) (Err broken_file) (Ok (take len bytes))) >>= limited) (nonzero len some)
    ∙ ap (λ b. cond b (Err broken_file) (Ok (take len bytes)) >>= limited) (le-ltb (length bytes) len h)
  where
    nonzero : (n : ℕ) → 0 < n → eqb n 0 ≡ false
    nonzero n h = grind (arith, nat_tests)

too_many : (part : List ℕ) → 65535 < length part → limited part ≡ Err data_too_large
too_many part h = ap (λ b. cond b (Err data_too_large) (Ok part)) (lt-ltb 65535 (length part) h)

one_long : (len : ℕ) (bytes : List ℕ) → 65535 < len → len ≤ length bytes → one_part len bytes ≡ Err data_too_large
one_long len bytes h k = enough len bytes (omega arith) k ∙ too_many (take len bytes) (let l = length-take-le len bytes k in omega arith)

-- an extent that is too long is skipped
pub long_part : (a b c : Option (List ℕ)) (offset start len n : ℕ) (old new : List ℕ) → OffsetIsReached offset (Some start) a b old new → 65535 < len
    → len ≤ n + (length new - start) → Skips b c n → IfSome a (λ xs. one_part len (drop offset (old ++ xs)) ≡ Err data_too_large)
long_part None b c offset start len n old new h big e s = tt
long_part (Some xs) None c offset start len n old new h big e s = absurd h
long_part (Some xs) (Some ys) None offset start len n old new h big e s = absurd s
long_part (Some xs) (Some ys) (Some zs) offset start len n old new h big e s =
    let total = length-append (drop start new) ys in
    let front = length-drop start new in
    let more : n ≤ length ys = s.0 in
    ap (one_part len) (sym h) ∙ one_long len (drop start new ++ ys) big (omega arith)

-- ---- an extent that is read

-- as many bytes as count were read
same_part : (len wanted : ℕ) (bytes more : List ℕ) → wanted ≡ cond (eqb len 0) 65536 len → wanted ≤ length bytes → one_part len bytes ≡ one_part len (bytes ++ more)
same_part len wanted bytes more w h = by (eqb len 0) refl
  where
    by : (b : Bool) → eqb len 0 ≡ b → one_part len bytes ≡ one_part len (bytes ++ more)
    by true e =
        let all : 65536 ≤ length bytes = rw (w ∙ ap (λ b. cond b 65536 len) e) at h in
        ap (λ b. cond b (Ok bytes) (cond (ltb (length bytes) len) (Err broken_file) (Ok (take len bytes))) >>= limited) e ∙ too_many bytes (omega arith)
        ∙ sym (ap (λ b. cond b (Ok (bytes ++ more)) (cond (ltb (length (bytes ++ more)) len) (Err broken_file) (Ok (take len (bytes ++ more)))) >>= limited) e ∙ too_many (bytes ++ more) (omega (arith, length-append bytes more)))
    by false e =
        let same : wanted ≡ len = w ∙ ap (λ b. cond b 65536 len) e in
        let some : len ≡ 0 → ⊥ = eqb-false len 0 e in
        enough len bytes (omega arith) (omega arith) ∙ ap limited (sym (take-append-le len bytes more (omega arith)))
        ∙ sym (enough len (bytes ++ more) (omega arith) (omega (arith, length-append bytes more)))

tail_same : (start : ℕ) (mid new ys zs : List ℕ) → start ≤ length mid → start ≤ length new → new ++ zs ≡ mid ++ ys → drop start new ++ zs ≡ drop start mid ++ ys
tail_same start mid new ys zs h k e = sym (drop-append-le start new zs k) ∙ ap (drop start) e ∙ drop-append-le start mid ys h

-- what was read of an extent is all that counts of it
pub part_read : (P : Result (List ℕ) Refusal → Type 0) (a b c : Option (List ℕ)) (offset start len wanted n : ℕ) (whole : Bool) (old mid new now : List ℕ)
    → OffsetIsReached offset (Some start) a b old mid → start ≤ length mid → wanted ≡ cond (eqb len 0) 65536 len → wanted ≤ n + (length mid - start)
    → GoesOn b c mid new → length mid ≤ length new → (whole ≡ true → length mid + n ≤ length new) → (whole ≡ false → IsAtEnd c) → now ≡ drop start new
    → P (one_part len now) → IfSome a (λ xs. P (one_part len (drop offset (old ++ xs))))
part_read P None b c offset start len wanted n whole old mid new now h s w e g l m f d p = tt
part_read P (Some xs) None c offset start len wanted n whole old mid new now h s w e g l m f d p = absurd h
part_read P (Some xs) (Some ys) None offset start len wanted n whole old mid new now h s w e g l m f d p = absurd g
part_read P (Some xs) (Some ys) (Some zs) offset start len wanted n whole old mid new now h s w e g l m f d p =
    subst P (ap (one_part len) d ∙ by whole m f ∙ ap (one_part len) (tail_same start mid new ys zs s (omega arith) g ∙ h)) p
  where
    by : (whole : Bool) → (whole ≡ true → length mid + n ≤ length new) → (whole ≡ false → zs ≡ []) → one_part len (drop start new) ≡ one_part len (drop start new ++ zs)
    by true m f = let long = m refl in let front = length-drop start new in same_part len wanted (drop start new) zs w (omega arith)
    by false m f = ap (one_part len) (sym (append-nil (drop start new)) ∙ ap (λ t. drop start new ++ t) (sym (f refl)))

-- ---- an item of one extent

tests_agree : (l from len : ℕ) → (len ≡ 0 → ⊥) → ltb l (from + len) ≡ ltb (l - from) len
tests_agree l from len h = grind (arith, nat_tests)

-- an extent of the file, by the bytes from its offset on
extent_is : (file : List ℕ) (base : ℕ) (e : Extent) → file_extent file base e ≡ cond (leb (2 ^ 64) (base + e.offset)) (Err invalid_offset) (extent_front e.len (drop (base + e.offset) file))
unfolding file_extent
extent_is file base e = ap (cond (leb (2 ^ 64) (base + e.offset)) (Err invalid_offset)) (by (eqb e.len 0) refl)
  where
    by : (b : Bool) → eqb e.len 0 ≡ b
        → cond (eqb e.len 0) (Ok (drop (base + e.offset) file)) (cond (ltb (length file) (base + e.offset + e.len)) (Err broken_file) (Ok (take e.len (drop (base + e.offset) file))))
        ≡ extent_front e.len (drop (base + e.offset) file)
    by true z = rw z refl
    by false z =
        ap (λ t. cond (eqb e.len 0) (Ok (drop (base + e.offset) file)) (cond t (Err broken_file) (Ok (take e.len (drop (base + e.offset) file)))))
        (tests_agree (length file) (base + e.offset) e.len (eqb-false e.len 0 z) ∙ ap (λ n. ltb n e.len) (sym (length-drop (base + e.offset) file)))

if_zero : (n : ℕ) (x y : Result (List ℕ) Refusal) → n ≡ 0 → cond (eqb n 0) x y ≡ x
if_zero n x y h = ap (λ m. cond (eqb m 0) x y) h

-- an item of one extent in the file
pub one_of : (file : List ℕ) (idat : Option (List ℕ)) (p : ItemExtents) (e : Extent) → p.method ≡ 0 → p.extents ≡ e ∷ []
    → item_bytes file idat p ≡ cond (leb (2 ^ 64) (p.base + e.offset)) (Err invalid_offset) (one_part e.len (drop (p.base + e.offset) file))
unfolding item_bytes
one_of file idat p e m es =
    if_zero p.method (gathered (extent_bytes File file p.base) [] p.extents) _ m
    ∙ ap (gathered (extent_bytes File file p.base) []) es
    ∙ ap (λ r. r >>= limited) (extent_is file p.base e)
    ∙ pushed (leb (2 ^ 64) (p.base + e.offset)) (extent_front e.len (drop (p.base + e.offset) file))
  where
    pushed : (b : Bool) (x : Result (List ℕ) Refusal) → (let y : Result (List ℕ) Refusal = cond b (Err invalid_offset) x in y >>= limited) ≡ cond b (Err invalid_offset) (x >>= limited)
    pushed true x = refl
    pushed false x = refl

-- the only one of a list
pub only_one : (xs : List Extent) (d : Extent) → length xs ≡ 1 → xs ≡ get_or xs 0 d ∷ []
only_one [] d h = absurd (omega arith)
only_one (x ∷ []) d h = refl
only_one (x ∷ y ∷ xs) d h = absurd (omega arith)

-- what is from an offset on
pub rest_of : (start : ℕ) (now new : List ℕ) → now ≡ new → take (length now - start) (drop start now) ≡ drop start new
rest_of start now new e = take_all (length now - start) (drop start now) (omega (arith, length-drop start now)) ∙ ap (drop start) e

-- an offset that is too large
pub overflows : (a : Option (List ℕ)) (front : List ℕ) (p : ItemExtents) (e : Extent) → p.method ≡ 0 → p.extents ≡ e ∷ [] → 2 ^ 64 ≤ p.base + e.offset
    → IfSome a (λ rest. item_bytes (front ++ rest) None p ≡ Err invalid_offset)
overflows a front p e m es h =
    each a _ (λ rest. one_of (front ++ rest) None p e m es ∙ ap (λ b. cond b (Err invalid_offset) (one_part e.len (drop (p.base + e.offset) (front ++ rest)))) (le-leb (2 ^ 64) (p.base + e.offset) h))

-- what is read from the offset on
pub one_gives : (P : Result (List ℕ) Refusal → Type 0) (a : Option (List ℕ)) (front : List ℕ) (p : ItemExtents) (e : Extent) (offset : ℕ) → p.method ≡ 0 → p.extents ≡ e ∷ [] → p.base + e.offset < 2 ^ 64
    → offset ≡ p.base + e.offset → IfSome a (λ rest. P (one_part e.len (drop offset (front ++ rest)))) → IfSome a (λ rest. P (item_bytes (front ++ rest) None p))
one_gives P a front p e offset m es h same t =
    along a _ _ (λ rest k. subst P
    (ap (λ n. one_part e.len (drop n (front ++ rest))) same
    ∙ sym (one_of (front ++ rest) None p e m es ∙ ap (λ b. cond b (Err invalid_offset) (one_part e.len (drop (p.base + e.offset) (front ++ rest)))) (lt-leb (2 ^ 64) (p.base + e.offset) h))) k) t

-- as many bytes as count were read from an offset on
pub part_at : (P : Result (List ℕ) Refusal → Type 0) (a b : Option (List ℕ)) (len wanted : ℕ) (bytes now : List ℕ) → TakesBody wanted bytes a b → wanted ≡ cond (eqb len 0) 65536 len → now ≡ bytes
    → P (one_part len now) → IfSome a (λ xs. P (one_part len xs))
part_at P None b len wanted bytes now t w e p = tt
part_at P (Some xs) None len wanted bytes now t w e p = absurd t
part_at P (Some xs) (Some ys) len wanted bytes now t w e p = subst P (ap (one_part len) (e ∙ t.0) ∙ by (cases_lt (length xs) wanted)) p
  where
    by : (length xs < wanted) ⊎ (wanted ≤ length xs) → one_part len (take wanted xs) ≡ one_part len xs
    by (inl lt) = ap (one_part len) (take_all wanted xs (omega arith))
    by (inr le) =
        same_part len wanted (take wanted xs) (drop wanted xs) w (omega (arith, length-take-le wanted xs le)) ∙ ap (one_part len) (take-append-drop wanted xs)

-- ---- an extent that is too long

cut_short : (len : ℕ) (bytes : List ℕ) → length bytes < len → one_part len bytes ≡ Err broken_file
cut_short len bytes h =
    ap (λ b. cond b (Ok bytes) (cond (ltb (length bytes) len) (Err broken_file) (Ok (take len bytes))) >>= limited) (nonzero len (omega arith))
    ∙ ap (λ b. cond b (Err broken_file) (Ok (take len bytes)) >>= limited) (lt-ltb (length bytes) len h)
  where
    nonzero : (n : ℕ) → 0 < n → eqb n 0 ≡ false
    nonzero n h = grind (arith, nat_tests)

-- its last byte is not there
pub last_missing : (stream : Option (List ℕ)) (at last n len : ℕ) → last + 1 ≡ at + len → n ≡ 0 → IsAtEnd (left_behind (Some (last + n)) stream) → 0 < len → IfSome (left_behind (Some at) stream) (λ xs. one_part len xs ≡ Err broken_file)
last_missing None at last n len e z h some = tt
last_missing (Some s) at last n len e z h some =
    let none : length (drop (last + n) s) ≡ 0 = ap (λ (t : List ℕ). length t) h in
    cut_short len (drop at s) (omega (arith, none, length-drop (last + n) s, length-drop at s))

-- its last byte is there
pub last_there : (stream b : Option (List ℕ)) (at last n len : ℕ) (buf : List ℕ) → last + 1 ≡ at + len → 65535 < len → (n ≡ 0 → ⊥) → n ≤ length buf → Consumes (left_behind (Some last) stream) b (take n buf)
    → IfSome (left_behind (Some at) stream) (λ xs. one_part len xs ≡ Err data_too_large)
last_there None b at last n len buf e big some most h = tt
last_there (Some s) None at last n len buf e big some most h = absurd h
last_there (Some s) (Some ys) at last n len buf e big some most h =
    let all : length (drop last s) ≡ length (take n buf ++ ys) = ap (λ (t : List ℕ). length t) h in
    one_long len (drop at s) big (omega (arith, all, length-append (take n buf) ys, length-take-le n buf most, length-drop last s, length-drop at s))
