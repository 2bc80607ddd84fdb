-- Item information and the Exif item are read as their trees say, and all bytes have a tree.
use Rattle.std.proofs.Common.{◌≡◌, ◌≢◌, ◌⊎◌, inl, inr, ℕ, ◌+◌, ◌-◌, ◌<◌, ◌≤◌, Bool, true, false, cond, eqb, ltb, List, [], ◌∷◌, ◌++◌, length, take, drop, codes, Some, None, Result, Ok, Err, ap, sym, ◌∙◌, refl, arith, length-append, length-drop}
use Rattle.std.specs.Str.{bytes_eq}
use Rattle.std.proofs.lemmas.Slice.Eq.{bytes_eq-Decides}
use Rattle.std.proofs.lemmas.Bool.{cases_lt, ne_eqb, eqb-true, eqb-false, lt-ltb, le-ltb}
use Rattle.std.proofs.lemmas.List.{drop_at, take-append-drop, length-take-le, drop-drop}
use Rattle.byteorder.specs.Endian.{big_number}
use Rattle.byteorder.specs.Numbers.{big_from-append}
use Rattle.exif_types.specs.Refusals.{Refusal, ◌>>=◌, or_refuse}
use Rattle.exif_isobmff.specs.declared.kind.Kind.TheVariants.{ItemInfoEntry}
use Rattle.exif_isobmff.specs.HeifRefusals.{too_small, unsupported_infe, block_too_small, invalid_header_offset}
use Rattle.exif_isobmff.specs.Boxes.{bytes_at, number_at, version_at, boxes, read_each}
use Rattle.exif_isobmff.specs.BoxGrammar.{print_counted}
use Rattle.exif_isobmff.specs.Items.{entry_width, exif_number, exif_numbers}
use Rattle.exif_isobmff.specs.Heif.{after_header}
use Rattle.exif_isobmff.specs.ItemGrammar.{FullHead, print_full, IsFull, EntryTree, exif, other, unsupported, cut_head, cut_entry, HasNumber, EntryIsRead, IsAnEntry, InfoTree, info, cut_count, HasCount, InfoIsRead, IsAnInfo, BlockTree, block, short, over, BlockIsRead, IsABlock}
use Rattle.exif_isobmff.proofs.LawsCounts.{count_is_read, is_a_count}
use Rattle.exif_isobmff.proofs.LawsSteps.{then_ok, then_err, bytes_read, bytes_short, number_short, number_read, full_read, full_short, Fronted, fronted}

-- ---- an entry

width-of : (version len : ℕ) → HasNumber version len → or_refuse (entry_width version) unsupported_infe ≡ Ok len
width-of version len (inl h) = ap (λ v. or_refuse (entry_width v) unsupported_infe) h.0 ∙ ap (λ n. ok n) (sym h.1)
  where
    ok : ℕ → Result ℕ Refusal
    ok n = Ok n
width-of version len (inr h) = ap (λ v. or_refuse (entry_width v) unsupported_infe) h.0 ∙ ap (λ n. ok n) (sym h.1)
  where
    ok : ℕ → Result ℕ Refusal
    ok n = Ok n

no-width : (version : ℕ) → version ≢ 2 → version ≢ 3 → or_refuse (entry_width version) unsupported_infe ≡ Err unsupported_infe
no-width version h k =
    ap (λ t. or_refuse (cond t (Some 2) (cond (eqb version 3) (Some 4) None)) unsupported_infe) (ne_eqb version 2 h)
    ∙ ap (λ t. or_refuse (cond t (Some 4) None) unsupported_infe) (ne_eqb version 3 k)

abbrev numbers_if : Bool → ℕ → Result (List ℕ) Refusal
numbers_if b n = Ok (cond b (n ∷ []) [])

entry-read : (h : FullHead) (number protection type rest : List ℕ) → IsFull h → HasNumber h.version (length number) → length protection ≡ 2 → length type ≡ 4
    → exif_number (print_full h (number ++ (protection ++ (type ++ rest)))) ≡ numbers_if (bytes_eq type (codes "Exif")) (big_number (length number) number)
unfolding exif_number
entry-read h number protection type rest full width two four =
    then_ok (version_at (print_full h (number ++ (protection ++ (type ++ rest))))) (h.version, number ++ (protection ++ (type ++ rest))) _ (full_read h (number ++ (protection ++ (type ++ rest))) full)
    ∙ then_ok (or_refuse (entry_width h.version) unsupported_infe) (length number) _ (width-of h.version (length number) width)
    ∙ then_ok (number_at (length number) (number ++ (protection ++ (type ++ rest)))) (big_number (length number) number, protection ++ (type ++ rest)) _ (number_read (length number) number (protection ++ (type ++ rest)) refl)
    ∙ then_ok (bytes_at 2 (protection ++ (type ++ rest))) (protection, type ++ rest) _ (bytes_read 2 protection (type ++ rest) two)
    ∙ then_ok (bytes_at 4 (type ++ rest)) (type, rest) _ (bytes_read 4 type rest four)

-- a number, protection and a type take so many bytes together
entry-cut : (h : FullHead) (bytes : List ℕ) (len : ℕ) → IsFull h → HasNumber h.version len → length bytes < len + 6 → exif_number (print_full h bytes) ≡ Err too_small
unfolding exif_number
entry-cut h bytes len full width few =
    then_ok (version_at (print_full h bytes)) (h.version, bytes) _ (full_read h bytes full)
    ∙ then_ok (or_refuse (entry_width h.version) unsupported_infe) len _ (width-of h.version len width)
    ∙ by (cases_lt (length bytes) len)
  where
    at_type : (text : List ℕ) → length text < 6 → (bytes_at 2 text >>= λ p. bytes_at 4 p.1 >>= λ t. numbers_if (bytes_eq t.0 (codes "Exif")) (big_number len bytes)) ≡ Err too_small
    at_type text few = two (cases_lt (length text) 2)
      where
        two : (length text < 2) ⊎ (2 ≤ length text) → (bytes_at 2 text >>= λ p. bytes_at 4 p.1 >>= λ t. numbers_if (bytes_eq t.0 (codes "Exif")) (big_number len bytes)) ≡ Err too_small
        two (inl lt) = then_err (bytes_at 2 text) too_small _ (bytes_short 2 text lt)
        two (inr le) =
            then_ok (bytes_at 2 text) (take 2 text, drop 2 text) _ (ap (λ t. cond t (Err too_small) (Ok (take 2 text, drop 2 text))) (le-ltb (length text) 2 le))
            ∙ then_err (bytes_at 4 (drop 2 text)) too_small _ (bytes_short 4 (drop 2 text) (omega (arith, length-drop 2 text)))

    by : (length bytes < len) ⊎ (len ≤ length bytes)
        → (number_at len bytes >>= λ n. bytes_at 2 n.1 >>= λ p. bytes_at 4 p.1 >>= λ t. numbers_if (bytes_eq t.0 (codes "Exif")) n.0) ≡ Err too_small
    by (inl lt) = then_err (number_at len bytes) too_small _ (number_short len bytes lt)
    by (inr le) =
        then_ok (number_at len bytes) (big_number len bytes, drop len bytes) _ (ap (λ t. cond t (Err too_small) (Ok (big_number len bytes, drop len bytes))) (le-ltb (length bytes) len le))
        ∙ at_type (drop len bytes) (omega (arith, length-drop len bytes))

entry-unsupported : (h : FullHead) (rest : List ℕ) → IsFull h → h.version ≢ 2 → h.version ≢ 3 → exif_number (print_full h rest) ≡ Err unsupported_infe
unfolding exif_number
entry-unsupported h rest full n k =
    then_ok (version_at (print_full h rest)) (h.version, rest) _ (full_read h rest full)
    ∙ then_err (or_refuse (entry_width h.version) unsupported_infe) unsupported_infe _ (no-width h.version n k)

entry-headless : (bytes : List ℕ) → length bytes < 4 → exif_number bytes ≡ Err too_small
unfolding exif_number
entry-headless bytes h = then_err (version_at bytes) too_small _ (full_short bytes h)

-- an entry is read as its tree says
pub entry_is_read : (e : EntryTree) → EntryIsRead e
entry_is_read (exif h number protection rest) is = entry-read h number protection (codes "Exif") rest is.0 is.1 is.2 refl
entry_is_read (other h number protection type rest) is =
    entry-read h number protection type rest is.0 is.1 is.2 is.3 ∙ ap (λ t. numbers_if t (big_number (length number) number)) (by (bytes_eq type (codes "Exif")) refl)
  where
    by : (t : Bool) → bytes_eq type (codes "Exif") ≡ t → t ≡ false
    by true e = absurd (is.4 ((bytes_eq-Decides type (codes "Exif")).0 e))
    by false e = refl
entry_is_read (unsupported h rest) is = entry-unsupported h rest is.0 is.1 is.2
entry_is_read (cut_head bytes) is = entry-headless bytes is
entry_is_read (cut_entry h bytes) is = by is.1
  where
    by : ((h.version ≡ 2) × (length bytes < 8)) ⊎ ((h.version ≡ 3) × (length bytes < 10)) → exif_number (print_full h bytes) ≡ Err too_small
    by (inl k) = entry-cut h bytes 2 is.0 (inl (k.0, refl)) (omega (arith, k.1))
    by (inr k) = entry-cut h bytes 4 is.0 (inr (k.0, refl)) (omega (arith, k.1))

-- a front of a text, and the rest
split : (n : ℕ) (text : List ℕ) → n ≤ length text → length (take n text) ≡ n
split n text h = length-take-le n text h

entry-at : (bytes : List ℕ) (f : Fronted bytes) (len : ℕ) → HasNumber f.head.version len → len + 6 ≤ length f.rest → IsAnEntry bytes
entry-at bytes f len width room = by (bytes_eq (take 4 (drop 2 (drop len f.rest))) (codes "Exif")) refl
  where
    number : List ℕ
    number = take len f.rest

    type : List ℕ
    type = take 4 (drop 2 (drop len f.rest))

    nlen : length (take len f.rest) ≡ len
    nlen = length-take-le len f.rest (omega arith)

    plen : length (take 2 (drop len f.rest)) ≡ 2
    plen = length-take-le 2 (drop len f.rest) (omega (arith, length-drop len f.rest))

    tlen : length (take 4 (drop 2 (drop len f.rest))) ≡ 4
    tlen = length-take-le 4 (drop 2 (drop len f.rest)) (omega (arith, length-drop 2 (drop len f.rest), length-drop len f.rest))

    has : HasNumber f.head.version (length (take len f.rest))
    has = rw nlen width

    whole : print_full f.head (take len f.rest ++ (take 2 (drop len f.rest) ++ (take 4 (drop 2 (drop len f.rest)) ++ drop 4 (drop 2 (drop len f.rest))))) ≡ bytes
    whole =
        ap (λ t. print_full f.head (take len f.rest ++ (take 2 (drop len f.rest) ++ t))) (take-append-drop 4 (drop 2 (drop len f.rest)))
        ∙ ap (λ t. print_full f.head (take len f.rest ++ t)) (take-append-drop 2 (drop len f.rest))
        ∙ ap (λ t. print_full f.head t) (take-append-drop len f.rest) ∙ f.whole

    by : (t : Bool) → bytes_eq (take 4 (drop 2 (drop len f.rest))) (codes "Exif") ≡ t → IsAnEntry bytes
    by true e = (
      exif f.head (take len f.rest) (take 2 (drop len f.rest)) (drop 4 (drop 2 (drop len f.rest))),
      (f.is, has, plen),
      ap (λ t. print_full f.head (take len f.rest ++ (take 2 (drop len f.rest) ++ (t ++ drop 4 (drop 2 (drop len f.rest)))))) (sym ((bytes_eq-Decides (take 4 (drop 2 (drop len f.rest))) (codes "Exif")).0 e)) ∙ whole,
    )
    by false e = (
      other f.head (take len f.rest) (take 2 (drop len f.rest)) (take 4 (drop 2 (drop len f.rest))) (drop 4 (drop 2 (drop len f.rest))),
      (f.is, has, plen, tlen, λ k. let c : true ≡ false = sym ((bytes_eq-Decides (take 4 (drop 2 (drop len f.rest))) (codes "Exif")).1 k) ∙ e in cc),
      whole,
    )

entry-fronted : (bytes : List ℕ) → Fronted bytes → IsAnEntry bytes
entry-fronted bytes f = by2 (eqb f.head.version 2) refl
  where
    by3 : (t : Bool) → eqb f.head.version 3 ≡ t → f.head.version ≢ 2 → IsAnEntry bytes
    by3 true e n = room (cases_lt (length f.rest) 10)
      where
        room : (length f.rest < 10) ⊎ (10 ≤ length f.rest) → IsAnEntry bytes
        room (inl lt) = (cut_entry f.head f.rest, (f.is, inr (eqb-true f.head.version 3 e, lt)), f.whole)
        room (inr le) = entry-at bytes f 4 (inr (eqb-true f.head.version 3 e, refl)) (omega arith)
    by3 false e n = (unsupported f.head f.rest, (f.is, n, eqb-false f.head.version 3 e), f.whole)

    by2 : (t : Bool) → eqb f.head.version 2 ≡ t → IsAnEntry bytes
    by2 true e = room (cases_lt (length f.rest) 8)
      where
        room : (length f.rest < 8) ⊎ (8 ≤ length f.rest) → IsAnEntry bytes
        room (inl lt) = (cut_entry f.head f.rest, (f.is, inl (eqb-true f.head.version 2 e, lt)), f.whole)
        room (inr le) = entry-at bytes f 2 (inl (eqb-true f.head.version 2 e, refl)) (omega arith)
    by2 false e = by3 (eqb f.head.version 3) refl (eqb-false f.head.version 2 e)

-- all bytes are those of an entry
pub is_an_entry : (bytes : List ℕ) → IsAnEntry bytes
is_an_entry bytes = by (cases_lt (length bytes) 4)
  where
    by : (length bytes < 4) ⊎ (4 ≤ length bytes) → IsAnEntry bytes
    by (inl lt) = (cut_head bytes, lt, refl)
    by (inr le) = entry-fronted bytes (fronted bytes le)

-- ---- what the items are

count-width : (version len : ℕ) → HasCount version len → cond (eqb version 0) 2 4 ≡ len
count-width version len (inl h) = ap (λ v. cond (eqb v 0) 2 4) h.0 ∙ sym h.1
count-width version len (inr h) = ap (λ t. cond t 2 4) (ne_eqb version 0 h.0) ∙ sym h.1

info-fronted : (h : FullHead) (rest : List ℕ) → IsFull h
    → exif_numbers (print_full h rest) ≡ (number_at (cond (eqb h.version 0) 2 4) rest >>= λ c. read_each ItemInfoEntry exif_number (boxes c.0 c.1))
unfolding exif_numbers
info-fronted h rest full = then_ok (version_at (print_full h rest)) (h.version, rest) _ (full_read h rest full)

info-cut : (h : FullHead) (bytes : List ℕ) (len : ℕ) → IsFull h → HasCount h.version len → length bytes < len → exif_numbers (print_full h bytes) ≡ Err too_small
info-cut h bytes len full width few =
    info-fronted h bytes full
    ∙ ap (λ n. number_at n bytes >>= λ c. read_each ItemInfoEntry exif_number (boxes c.0 c.1)) (count-width h.version len width)
    ∙ then_err (number_at len bytes) too_small _ (number_short len bytes few)

info-headless : (bytes : List ℕ) → length bytes < 4 → exif_numbers bytes ≡ Err too_small
unfolding exif_numbers
info-headless bytes h = then_err (version_at bytes) too_small _ (full_short bytes h)

-- an `iinf` is read as its tree says
pub info_is_read : (t : InfoTree) → InfoIsRead t
info_is_read (info h count bs) is =
    info-fronted h (count ++ print_counted bs) is.0
    ∙ ap (λ n. number_at n (count ++ print_counted bs) >>= λ c. read_each ItemInfoEntry exif_number (boxes c.0 c.1)) (count-width h.version (length count) is.1)
    ∙ then_ok (number_at (length count) (count ++ print_counted bs)) (big_number (length count) count, print_counted bs) _ (number_read (length count) count (print_counted bs) refl)
    ∙ ap (λ ps. read_each ItemInfoEntry exif_number ps) (count_is_read (big_number (length count) count) bs is.2)
info_is_read (cut_head bytes) is = info-headless bytes is
info_is_read (cut_count h bytes) is = by is.1
  where
    by : ((h.version ≡ 0) × (length bytes < 2)) ⊎ ((h.version ≢ 0) × (length bytes < 4)) → exif_numbers (print_full h bytes) ≡ Err too_small
    by (inl k) = info-cut h bytes 2 is.0 (inl (k.0, refl)) k.1
    by (inr k) = info-cut h bytes 4 is.0 (inr (k.0, refl)) k.1

info-at : (bytes : List ℕ) (f : Fronted bytes) (len : ℕ) → HasCount f.head.version len → len ≤ length f.rest → IsAnInfo bytes
info-at bytes f len width room =
    let nlen : length (take len f.rest) ≡ len = length-take-le len f.rest room in
    let c = is_a_count (big_number (length (take len f.rest)) (take len f.rest)) (drop len f.rest) in (
      info f.head (take len f.rest) c.0,
      (f.is, rw nlen width, c.1),
      ap (λ t. print_full f.head (take len f.rest ++ t)) c.2 ∙ ap (λ t. print_full f.head t) (take-append-drop len f.rest) ∙ f.whole,
    )

info-from : (bytes : List ℕ) → Fronted bytes → IsAnInfo bytes
info-from bytes f = by (eqb f.head.version 0) refl
  where
    by : (t : Bool) → eqb f.head.version 0 ≡ t → IsAnInfo bytes
    by true e = room (cases_lt (length f.rest) 2)
      where
        room : (length f.rest < 2) ⊎ (2 ≤ length f.rest) → IsAnInfo bytes
        room (inl lt) = (cut_count f.head f.rest, (f.is, inl (eqb-true f.head.version 0 e, lt)), f.whole)
        room (inr le) = info-at bytes f 2 (inl (eqb-true f.head.version 0 e, refl)) le
    by false e = room (cases_lt (length f.rest) 4)
      where
        room : (length f.rest < 4) ⊎ (4 ≤ length f.rest) → IsAnInfo bytes
        room (inl lt) = (cut_count f.head f.rest, (f.is, inr (eqb-false f.head.version 0 e, lt)), f.whole)
        room (inr le) = info-at bytes f 4 (inr (eqb-false f.head.version 0 e, refl)) le

-- all bytes are those of an `iinf`
pub is_an_info : (bytes : List ℕ) → IsAnInfo bytes
is_an_info bytes = by (cases_lt (length bytes) 4)
  where
    by : (length bytes < 4) ⊎ (4 ≤ length bytes) → IsAnInfo bytes
    by (inl lt) = (cut_head bytes, lt, refl)
    by (inr le) = info-from bytes (fronted bytes le)

-- ---- the Exif item

block-number : (number rest : List ℕ) → length number ≡ 4
    → after_header (number ++ rest) ≡ cond (ltb (length rest) (big_number 4 number)) (Err invalid_header_offset) (Ok (drop (big_number 4 number) rest))
unfolding after_header
block-number number rest four =
    ap (λ t. cond t (Err block_too_small) (later (length (number ++ rest) - 4) (big_number 4 (number ++ rest)) (drop (4 + big_number 4 (number ++ rest)) (number ++ rest)))) (le-ltb (length (number ++ rest)) 4 (omega (arith, length-append number rest)))
    ∙ ap (λ n. later n (big_number 4 (number ++ rest)) (drop (4 + big_number 4 (number ++ rest)) (number ++ rest))) less
    ∙ ap (λ n. later (length rest) n (drop (4 + n) (number ++ rest))) (big_from-append 4 number rest (omega arith))
    ∙ ap (λ t. later (length rest) (big_number 4 number) t) behind
  where
    later : ℕ → ℕ → List ℕ → Result (List ℕ) Refusal
    later left n bytes = cond (ltb left n) (Err invalid_header_offset) (Ok bytes)

    less : length (number ++ rest) - 4 ≡ length rest
    less = omega (arith, length-append number rest)

    behind : drop (4 + big_number 4 number) (number ++ rest) ≡ drop (big_number 4 number) rest
    behind = sym (drop-drop (big_number 4 number) 4 (number ++ rest)) ∙ ap (drop (big_number 4 number)) (drop_at number rest 4 four)

abbrev offset_or : Bool → List ℕ → Result (List ℕ) Refusal
offset_or t bytes = cond t (Err invalid_header_offset) (Ok bytes)

block-short : (bytes : List ℕ) → length bytes < 4 → after_header bytes ≡ Err block_too_small
unfolding after_header
block-short bytes h =
    ap (λ t. cond t (Err block_too_small) (offset_or (ltb (length bytes - 4) (big_number 4 bytes)) (drop (4 + big_number 4 bytes) bytes))) (lt-ltb (length bytes) 4 h)

-- the Exif item is read as its tree says
pub block_is_read : (t : BlockTree) → BlockIsRead t
block_is_read (block number skipped payload) is =
    block-number number (skipped ++ payload) is.0
    ∙ ap (λ t. offset_or t (drop (big_number 4 number) (skipped ++ payload))) (le-ltb (length (skipped ++ payload)) (big_number 4 number) (omega (arith, length-append skipped payload, is.1)))
    ∙ ap (λ t. offset_or false t) (drop_at skipped payload (big_number 4 number) is.1)
block_is_read (short bytes) is = block-short bytes is
block_is_read (over number bytes) is =
    block-number number bytes is.0 ∙ ap (λ t. offset_or t (drop (big_number 4 number) bytes)) (lt-ltb (length bytes) (big_number 4 number) is.1)

block-long : (bytes : List ℕ) → 4 ≤ length bytes → IsABlock bytes
block-long bytes long = by (cases_lt (length (drop 4 bytes)) (big_number 4 (take 4 bytes)))
  where
    four : length (take 4 bytes) ≡ 4
    four = length-take-le 4 bytes long

    by : (length (drop 4 bytes) < big_number 4 (take 4 bytes)) ⊎ (big_number 4 (take 4 bytes) ≤ length (drop 4 bytes)) → IsABlock bytes
    by (inl lt) = (over (take 4 bytes) (drop 4 bytes), (four, lt), take-append-drop 4 bytes)
    by (inr le) = (
      block (take 4 bytes) (take (big_number 4 (take 4 bytes)) (drop 4 bytes)) (drop (big_number 4 (take 4 bytes)) (drop 4 bytes)),
      (four, length-take-le (big_number 4 (take 4 bytes)) (drop 4 bytes) le),
      ap (λ t. take 4 bytes ++ t) (take-append-drop (big_number 4 (take 4 bytes)) (drop 4 bytes)) ∙ take-append-drop 4 bytes,
    )

-- all bytes are those of an Exif item
pub is_a_block : (bytes : List ℕ) → IsABlock bytes
is_a_block bytes = by (cases_lt (length bytes) 4)
  where
    by : (length bytes < 4) ⊎ (4 ≤ length bytes) → IsABlock bytes
    by (inl lt) = (short bytes, lt, refl)
    by (inr le) = block-long bytes le
