-- The bytes of an item are those of the ranges of its extents.
use Rattle.std.proofs.Common.{◌≡◌, ℕ, zero, suc, min, ◌^◌, leb, ◌+◌, ◌-◌, ◌<◌, ◌≤◌, ◌⊎◌, inl, inr, Bool, true, false, cond, eqb, ltb, List, [], ◌∷◌, ◌++◌, length, map, take, drop, Result, Ok, Err, ap, sym, ◌∙◌, refl, arith, append_assoc, length-drop, subst}
use Rattle.std.specs.List.{All}
use Rattle.std.specs.Io.Iter.{u64_saturate}
use Rattle.std.proofs.Math.Nat.{min-eq_left, min-le_right}
use Rattle.std.proofs.Math.Seq.{drop-append-add, take-length}
use Rattle.std.proofs.lemmas.Bool.{cases_lt, leb-false, lt-ltb, le-ltb, ltb-false}
use Rattle.std.proofs.lemmas.List.{append-nil, drop-append-le, drop-drop, drop-take, length-take, length-take-le}
use Rattle.std.proofs.lemmas.List.Elements.{All-cons, All-head, All-nil, All-tail}
use Rattle.exif_base.specs.Bytes.{bytes_at}
use Rattle.exif_types.specs.Refusals.{Refusal}
use Rattle.exif_isobmff.specs.HeifRefusals.{broken_file, data_too_large, invalid_length, invalid_offset, out_of_idat}
use Rattle.exif_isobmff.specs.ItemLocations.{extent_bytes, file_extent, gathered, idat_extent}
use Rattle.exif_isobmff.specs.declared.extents.Within.{Within}
use Rattle.exif_isobmff.specs.declared.extents.Within.TheVariants.{File, ItemDataBox}
use Rattle.exif_isobmff.proofs.SplitterBoxes.{bind_ok}
use Rattle.exif_isobmff.specs.declared.locations.Extent.{Extent}
use Rattle.exif_isobmff.specs.Extents.{range_bytes, joined_bytes, without_first, range_of, IsWhole}

-- the end of a range
range-end : (file : List ℕ) (offset len n : ℕ) → n ≤ len → drop n (bytes_at len file offset) ≡ bytes_at (len - n) file (offset + n)
range-end file offset len n le =
    let sum : len ≡ n + (len - n) = omega arith in
    ap (λ t. drop n (take t (drop offset file))) sum ∙ drop-take n (len - n) (drop offset file)
    ∙ ap (take (len - n)) (drop-drop n offset file ∙ ap (λ t. drop t file) (let s : offset + n ≡ offset + n = refl in s))

-- bytes that are there
whole-at : (bytes : List ℕ) (from len : ℕ) → from + len ≤ length bytes → length (bytes_at len bytes from) ≡ len
whole-at bytes from len fits = length-take-le len (drop from bytes) (omega (arith, length-drop from bytes))

-- a range that is whole ends in the file
pub range_fits : (file : List ℕ) (e : Extent) → IsWhole file e → 0 < e.len → e.offset + e.len ≤ length file
range_fits file e whole some =
    let all : e.len ≡ min e.len (length (drop e.offset file)) = sym whole ∙ length-take e.len (drop e.offset file) in
    let rest = length-drop e.offset file in
    let less : min e.len (length (drop e.offset file)) ≤ length (drop e.offset file) = min-le_right e.len (length (drop e.offset file)) in
    omega arith

-- a number that needs no saturation
pub small : (n : ℕ) → n < 2 ^ 64 → u64_saturate n ≡ n
small n lt = min-eq_left (omega arith)

-- one range more
without-step : (file : List ℕ) (n : ℕ) (e : Extent) (es : List Extent) → length file < 2 ^ 64 → IsWhole file e
    → joined_bytes file (without_first (n - e.len) es) ≡ drop (n - e.len) (joined_bytes file es)
    → joined_bytes file (without_first n (e ∷ es)) ≡ drop n (joined_bytes file (e ∷ es))
without-step file n e es short whole ih = by (cases_lt n e.len)
  where
    by : (n < e.len) ⊎ (e.len ≤ n) → joined_bytes file (without_first n (e ∷ es)) ≡ drop n (joined_bytes file (e ∷ es))
    by (inl lt) =
        let fits = range_fits file e whole (omega arith) in
        ap (λ t. joined_bytes file (cond t (record { offset = u64_saturate (e.offset + n); len = e.len - n } ∷ es) (without_first (n - e.len) es))) (lt-ltb n e.len lt)
        ∙ ap (λ t. bytes_at (e.len - n) file t ++ joined_bytes file es) (small (e.offset + n) (omega arith))
        ∙ ap (λ t. t ++ joined_bytes file es) (sym (range-end file e.offset e.len n (omega arith)))
        ∙ sym (drop-append-le n (range_bytes file e) (joined_bytes file es) (omega arith))
    by (inr le) =
        let sum : n ≡ length (range_bytes file e) + (n - e.len) = omega arith in
        ap (λ t. joined_bytes file (cond t (record { offset = u64_saturate (e.offset + n); len = e.len - n } ∷ es) (without_first (n - e.len) es))) (le-ltb n e.len le)
        ∙ ih
        ∙ sym (ap (λ t. drop t (range_bytes file e ++ joined_bytes file es)) sum ∙ drop-append-add (range_bytes file e) (joined_bytes file es) (n - e.len))

none-left : (n : ℕ) → [] ≡ drop n (let none : List ℕ = [] in none)
none-left zero = refl
none-left (suc n) = refl

-- ranges without their first bytes are the end of their bytes
pub without_first_bytes : (file : List ℕ) (n : ℕ) (es : List Extent) → length file < 2 ^ 64 → All (IsWhole file) es
    → joined_bytes file (without_first n es) ≡ drop n (joined_bytes file es)
without_first_bytes file n [] short h = none-left n
without_first_bytes file n (e ∷ es) short h =
    without-step file n e es short (All-head (IsWhole file) e es h) (without_first_bytes file (n - e.len) es short (All-tail (IsWhole file) e es h))

-- the end of a whole range is whole
cut-whole : (file : List ℕ) (n : ℕ) (e : Extent) → length file < 2 ^ 64 → IsWhole file e → n < e.len → IsWhole file (record { offset = u64_saturate (e.offset + n); len = e.len - n })
cut-whole file n e short whole lt =
    let fits = range_fits file e whole (omega arith) in
    ap (λ t. length (bytes_at (e.len - n) file t)) (small (e.offset + n) (omega arith)) ∙ whole-at file (e.offset + n) (e.len - n) (omega arith)

whole-step : (file : List ℕ) (n : ℕ) (e : Extent) (es : List Extent) → length file < 2 ^ 64 → IsWhole file e → All (IsWhole file) es
    → All (IsWhole file) (without_first (n - e.len) es) → All (IsWhole file) (without_first n (e ∷ es))
whole-step file n e es short whole others ih = by (cases_lt n e.len)
  where
    by : (n < e.len) ⊎ (e.len ≤ n) → All (IsWhole file) (without_first n (e ∷ es))
    by (inl lt) = rw (lt-ltb n e.len lt) (All-cons (IsWhole file) (record { offset = u64_saturate (e.offset + n); len = e.len - n }) es (cut-whole file n e short whole lt) others)
    by (inr le) = rw (le-ltb n e.len le) ih

-- whole ranges are whole without their first bytes
pub without_first_whole : (file : List ℕ) (n : ℕ) (es : List Extent) → length file < 2 ^ 64 → All (IsWhole file) es → All (IsWhole file) (without_first n es)
without_first_whole file n [] short h = h
without_first_whole file n (e ∷ es) short h =
    whole-step file n e es short (All-head (IsWhole file) e es h) (All-tail (IsWhole file) e es h) (without_first_whole file (n - e.len) es short (All-tail (IsWhole file) e es h))

-- bytes up to the end
whole-rest : (bytes : List ℕ) (from : ℕ) → length (bytes_at (length bytes - from) bytes from) ≡ length bytes - from
whole-rest bytes from = length-take-le (length bytes - from) (drop from bytes) (omega (arith, length-drop from bytes))

all-rest : (bytes : List ℕ) (from : ℕ) → bytes_at (length bytes - from) bytes from ≡ drop from bytes
all-rest bytes from =
    let len : length (drop from bytes) ≡ length bytes - from = length-drop from bytes in
    ap (λ t. take t (drop from bytes)) (sym len) ∙ take-length (drop from bytes)

-- what an extent gives, by whether it runs to the end
abbrev by-len : Bool → List ℕ → ℕ → ℕ → Result (List ℕ) Refusal
by-len z bytes from len =
    cond z (Ok (drop from bytes)) (cond (ltb (length bytes) (from + len)) (Err broken_file) (Ok (take len (drop from bytes))))

-- an extent that is read is whole, and its bytes are those of its range
record IsRange (bytes found : List ℕ) (e : Extent) : Type 0 where
  same : found ≡ range_bytes bytes e
  whole : IsWhole bytes e

range-by : (z : Bool) (bytes found : List ℕ) (from len : ℕ) → by-len z bytes from len ≡ Ok found
    → IsRange bytes found (record { offset = from; len = cond z (length bytes - from) len })
range-by true bytes found from len e =
    let same : drop from bytes ≡ found = cc in
    record { same = sym same ∙ sym (all-rest bytes from); whole = whole-rest bytes from }
range-by false bytes found from len e = go (ltb (length bytes) (from + len)) refl e
  where
    go : (t : Bool) → ltb (length bytes) (from + len) ≡ t → cond t (Err broken_file) (Ok (take len (drop from bytes))) ≡ Ok found
        → IsRange bytes found (record { offset = from; len = len })
    go true l e = absurd (cc)
    go false l e =
        let same : take len (drop from bytes) ≡ found = cc in
        record { same = sym same; whole = whole-at bytes from len (ltb-false (length bytes) (from + len) l) }

over : (t : Bool) (r : Result (List ℕ) Refusal) (found : List ℕ) → cond t (Err invalid_offset) r ≡ Ok found → (t ≡ false) × (r ≡ Ok found)
over true r found e = absurd (cc)
over false r found e = (refl, e)

-- a range that starts below 2^64
range-same : (bytes : List ℕ) (base : ℕ) (e : Extent) → leb (2 ^ 64) (base + e.offset) ≡ false
    → record { offset = base + e.offset; len = cond (eqb e.len 0) (length bytes - (base + e.offset)) e.len } ≡ range_of bytes base e
range-same bytes base e h =
    ap (λ n. record { offset = n; len = cond (eqb e.len 0) (length bytes - n) e.len }) (sym (small (base + e.offset) (leb-false (2 ^ 64) (base + e.offset) h)))

-- the extent of a file
file-range : (bytes found : List ℕ) (base : ℕ) (e : Extent) → file_extent bytes base e ≡ Ok found → IsRange bytes found (range_of bytes base e)
unfolding file_extent
file-range bytes found base e h =
    let o = over (leb (2 ^ 64) (base + e.offset)) (by-len (eqb e.len 0) bytes (base + e.offset) e.len) found h in
    subst (IsRange bytes found) (range-same bytes base e o.0) (range-by (eqb e.len 0) bytes found (base + e.offset) e.len o.1)

-- what an extent of the item data box gives, by whether it runs to the end
idat-by : (z t : Bool) (idat found : List ℕ) (from len : ℕ) → ltb (length idat) (from + len) ≡ t
    → cond t (Err out_of_idat) (cond z (Ok (drop from idat)) (Ok (take len (drop from idat)))) ≡ Ok found
    → IsRange idat found (record { offset = from; len = cond z (length idat - from) len })
idat-by z true idat found from len l e = absurd (cc)
idat-by true false idat found from len l e =
    let same : drop from idat ≡ found = cc in
    record { same = sym same ∙ sym (all-rest idat from); whole = whole-rest idat from }
idat-by false false idat found from len l e =
    let same : take len (drop from idat) ≡ found = cc in
    record { same = sym same; whole = whole-at idat from len (ltb-false (length idat) (from + len) l) }

not-refused : (t : Bool) (r : Refusal) (x : Result (List ℕ) Refusal) (found : List ℕ) → cond t (Err r) x ≡ Ok found → x ≡ Ok found
not-refused true r x found e = absurd (cc)
not-refused false r x found e = e

-- the extent of the item data box
idat-range : (idat found : List ℕ) (base : ℕ) (e : Extent) → idat_extent idat base e ≡ Ok found → IsRange idat found (range_of idat base e)
unfolding idat_extent
idat-range idat found base e h =
    let from : ℕ = base + e.offset in
    let one = over (leb (2 ^ 64) from) _ found h in
    let two = not-refused (leb (2 ^ 64) (from + e.len)) invalid_length _ found one.1 in
    subst (IsRange idat found) (range-same idat base e one.0) (idat-by (eqb e.len 0) (ltb (length idat) (from + e.len)) idat found from e.len refl two)

-- an extent that is read is its range
extent-range : (w : Within) (bytes found : List ℕ) (base : ℕ) (e : Extent) → extent_bytes w bytes base e ≡ Ok found → IsRange bytes found (range_of bytes base e)
extent-range File bytes found base e h = file-range bytes found base e h
extent-range ItemDataBox bytes found base e h = idat-range bytes found base e h

-- extents that are read are their ranges
pub record AreRanges (bytes front all : List ℕ) (es : List Extent) : Type 0 where
  pub same : all ≡ front ++ joined_bytes bytes es
  pub whole : All (IsWhole bytes) es

gathered-one : (w : Within) (bytes front all : List ℕ) (base : ℕ) (e : Extent) (es : List Extent)
    → ((front : List ℕ) → gathered (extent_bytes w bytes base) front es ≡ Ok all → AreRanges bytes front all (map (range_of bytes base) es))
    → gathered (extent_bytes w bytes base) front (e ∷ es) ≡ Ok all → AreRanges bytes front all (map (range_of bytes base) (e ∷ es))
gathered-one w bytes front all base e es ih h =
    let b = bind_ok (extent_bytes w bytes base e) _ all h in
    let r = extent-range w bytes b.0 base e b.1 in
    let rest = not-refused (ltb 65535 (length (front ++ b.0))) data_too_large _ all b.2 in
    let i = ih (front ++ b.0) rest in
    record {
      same = i.same ∙ append_assoc front b.0 (joined_bytes bytes (map (range_of bytes base) es))
          ∙ ap (λ t. front ++ (t ++ joined_bytes bytes (map (range_of bytes base) es))) r.same;
      whole = All-cons (IsWhole bytes) (range_of bytes base e) (map (range_of bytes base) es) r.whole i.whole;
    }

pub gathered_ranges : (w : Within) (bytes front all : List ℕ) (base : ℕ) (es : List Extent)
    → gathered (extent_bytes w bytes base) front es ≡ Ok all → AreRanges bytes front all (map (range_of bytes base) es)
gathered_ranges w bytes front all base [] h =
    let same : front ≡ all = cc in
    record { same = sym same ∙ sym (append-nil front); whole = All-nil (IsWhole bytes) }
gathered_ranges w bytes front all base (e ∷ es) h =
    gathered-one w bytes front all base e es (λ more. gathered_ranges w bytes more all base es) h
