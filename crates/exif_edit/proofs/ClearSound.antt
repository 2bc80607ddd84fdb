-- What erasing all fields promises.
use Rattle.std.proofs.Common.{◌≡◌, ◌≤◌, ◌<◌, ◌+◌, ◌-◌, ◌*◌, ◌/◌, ◌==◌, min, ℕ, zero, suc, Bool, true, false, if◌then◌else◌, List, [], ◌∷◌, ◌++◌, length, get_or, drop, replicate, All, Option, Some, None, Result, Ok, Err, refl, sym, ap, subst, ◌∙◌, arith}
use Rattle.std.specs.Prelude.{◌^◌, nat_lt}
use Rattle.std.specs.List.{flat_map}
use Rattle.std.proofs.lemmas.Bool.Decides.{nat_tests}
use Rattle.std.proofs.lemmas.Grind.{common_steps}
use Rattle.std.proofs.lemmas.List.{append-nil, length-replicate}
use Rattle.std.proofs.lemmas.List.Elements.{All-nil, All-cons}
use Rattle.byteorder.specs.Endian.{big_from, little_from}
use Rattle.byteorder.specs.Numbers.{big_number-reads_back, little_number-reads_back}
use Rattle.exif_base.specs.Bytes.{number_at, spaced}
use Rattle.exif_base.specs.Orders.{number_of}
use Rattle.exif_base.specs.declared.endian.Order.{Order}
use Rattle.exif_base.specs.declared.endian.Order.TheVariants.{Big, Little}
use Rattle.exif_tiff.specs.Answers.{Whole, answer_of}
use Rattle.exif_tiff.specs.Trace.{Node, opened, directory_nodes, entry_nodes, chain_after, chain_nodes, content_of, directory_end, entry_offsets, header, order_of, ordered_trace, whole_entries}
use Rattle.exif_tiff.specs.declared.fault.Fault.{Fault}
use Rattle.exif_tiff.specs.declared.fault.Fault.TheVariants.{DataTooLarge, TruncatedHeader, InvalidByteOrder, InvalidFortyTwo}
use Rattle.exif_table.specs.declared.context.Context.TheVariants.{Tiff}
use Rattle.exif_layout.specs.Encoding.{spelled}
use Rattle.exif_layout.proofs.Images.Standing.{length_spelled}
use Rattle.exif_edit_base.specs.Causes.{of_data, wrong_header}
use Rattle.exif_edit_base.specs.Patches.{FitsIn, patched, put_at, zeros_over}
use Rattle.exif_edit_base.specs.declared.patch.Patch.{Patch}
use Rattle.exif_edit_base.proofs.CauseSteps.{bound, data_read, ok_same}
use Rattle.exif_edit_base.proofs.PatchSteps.{length-put_at, put_before, put_on, put_zero}
use Rattle.exif_edit_base.proofs.ReadSteps.{header_space}
use Rattle.exif_edit.specs.Clearing.{IsCleared, clear_patches, clearing, empty_offset}
use Rattle.exif_tiff.proofs.TiffAnswers.{raw_right}

-- ---- numbers by their bytes

big_same : (i n : ℕ) (xs ys : List ℕ) → ((k : ℕ) → k < i + n → get_or xs k 0 ≡ get_or ys k 0)
    → big_from i n xs ≡ big_from i n ys
big_same i zero xs ys h = refl
big_same i (suc n) xs ys h =
    let a = h i (omega arith) in
    let b = big_same (suc i) n xs ys (λ k l. h k (omega arith)) in
    rw (a, b) refl

little_same : (i n : ℕ) (xs ys : List ℕ) → ((k : ℕ) → k < i + n → get_or xs k 0 ≡ get_or ys k 0)
    → little_from i n xs ≡ little_from i n ys
little_same i zero xs ys h = refl
little_same i (suc n) xs ys h =
    let a = h i (omega arith) in
    let b = little_same (suc i) n xs ys (λ k l. h k (omega arith)) in
    rw (a, b) refl

number_same : (order : Order) (n : ℕ) (xs ys : List ℕ)
    → ((k : ℕ) → k < n → get_or xs k 0 ≡ get_or ys k 0)
    → number_of order n xs ≡ number_of order n ys
number_same Big n xs ys h = big_same 0 n xs ys (λ k l. h k (omega arith))
number_same Little n xs ys h = little_same 0 n xs ys (λ k l. h k (omega arith))

zero_times : (x : ℕ) → 0 * x + 0 ≡ 0
zero_times x = omega arith

big_zero : (i n : ℕ) (xs : List ℕ) → ((k : ℕ) → get_or xs k 0 ≡ 0) → big_from i n xs ≡ 0
big_zero i zero xs h = refl
big_zero i (suc n) xs h =
    let a = h i in
    let b = big_zero (suc i) n xs h in
    rw (a, b) (zero_times (256 ^ n))

little_zero : (i n : ℕ) (xs : List ℕ) → ((k : ℕ) → get_or xs k 0 ≡ 0) → little_from i n xs ≡ 0
little_zero i zero xs h = refl
little_zero i (suc n) xs h =
    let a = h i in
    let b = little_zero (suc i) n xs h in
    rw (a, b) refl

number_zero : (order : Order) (n : ℕ) (xs : List ℕ) → ((k : ℕ) → get_or xs k 0 ≡ 0)
    → number_of order n xs ≡ 0
number_zero Big n xs h = big_zero 0 n xs h
number_zero Little n xs h = little_zero 0 n xs h

number_back : (order : Order) (n x : ℕ) → x < 256 ^ n → number_of order n (spelled order n x) ≡ x
number_back Big n x h =
    ap (λ xs. number_of Big n xs) (sym (append-nil (spelled Big n x)))
    ∙ big_number-reads_back n x [] h
number_back Little n x h =
    ap (λ xs. number_of Little n xs) (sym (append-nil (spelled Little n x)))
    ∙ little_number-reads_back n x [] h

at_behind : (xs : List ℕ) (p k : ℕ) → get_or (drop p xs) k 0 ≡ get_or xs (p + k) 0
at_behind xs p k = grind (arith, common_steps)

-- ---- the header by its first four bytes

header_tail : ℕ → Option Order → (Order → ℕ) → Result Order Fault
header_tail n order version = if nat_lt (2 ^ 32 - 1) n then Err DataTooLarge else
    (if nat_lt n 8 then Err TruncatedHeader else elim order [
      | None ↦ Err InvalidByteOrder
      | Some o ↦ if version o == 42 then Ok o else Err InvalidFortyTwo
    ])

header_is : (xs : List ℕ)
    → header xs ≡ header_tail (length xs) (order_of xs) (λ o. number_at (number_of o) 2 xs 2)
unfolding header_tail
header_is xs = refl

tail_same : (n : ℕ) (order : Option Order) (f g : Order → ℕ) → ((o : Order) → f o ≡ g o)
    → header_tail n order f ≡ header_tail n order g
unfolding header_tail
tail_same n None f g h = refl
tail_same n (Some o) f g h = rw (h o) refl

header_same : (xs ys : List ℕ) → length xs ≡ length ys
    → ((k : ℕ) → k < 4 → get_or xs k 0 ≡ get_or ys k 0) → header xs ≡ header ys
header_same xs ys l h =
    let a : get_or xs 0 0 ≡ get_or ys 0 0 = h 0 (omega arith) in
    let b : get_or xs 1 0 ≡ get_or ys 1 0 = h 1 (omega arith) in
    let o : order_of xs ≡ order_of ys = rw (a, b) refl in
    header_is xs
    ∙ (ap (λ n. header_tail n (order_of xs) (λ o. number_at (number_of o) 2 xs 2)) l
    ∙ (ap (λ x. header_tail (length ys) x (λ o. number_at (number_of o) 2 xs 2)) o
    ∙ (tail_same (length ys) (order_of ys) (λ o. number_at (number_of o) 2 xs 2)
    (λ o. number_at (number_of o) 2 ys 2)
    (λ o. number_same o 2 (drop 2 xs) (drop 2 ys)
    (λ k l. at_behind xs 2 k ∙ (h (2 + k) (omega arith) ∙ sym (at_behind ys 2 k))))
    ∙ sym (header_is ys))))

-- ---- an empty chain

-- zeros from 8 on are an empty directory at 8, which is the last
end_at_8 : (order : Order) (xs : List ℕ) → 14 ≤ length xs → ((i : ℕ) → 8 ≤ i → get_or xs i 0 ≡ 0)
    → directory_end (number_of order) xs 8 ≡ Ok 0
end_at_8 order xs l z =
    let c : number_at (number_of order) 2 xs 8 ≡ 0 =
    number_zero order 2 (drop 8 xs) (λ k. at_behind xs 8 k ∙ z (8 + k) (omega arith)) in
    let n : number_at (number_of order) 4 xs (8 + 2 + 12 * 0) ≡ 0 =
    number_zero order 4 (drop 10 xs) (λ k. at_behind xs 10 k ∙ z (10 + k) (omega arith)) in
    let a : nat_lt (length xs) (8 + 2) ≡ false = grind (arith, nat_tests) in
    let b : nat_lt ((length xs - 8 - 2) / 12) 0 ≡ false = grind (arith, nat_tests) in
    let d : nat_lt (length xs) (8 + 2 + 12 * 0 + 4) ≡ false = grind (arith, nat_tests) in
    rw (c, a, b, d, n) refl

zero_least : (x : ℕ) → min 0 x ≡ 0
zero_least x = omega arith

no_nodes : (f g : ℕ → List Node) (ps : List ℕ) (e : Result ℕ Fault) → ps ≡ [] → e ≡ Ok 0 → g 0 ≡ []
    → content_of (opened Tiff 8 (flat_map f ps) ++ chain_after g e) ≡ content_of []
no_nodes f g ps e h k l = rw (h, k, l) refl

chain_at_8 : (order : Order) (xs : List ℕ) → 14 ≤ length xs → ((i : ℕ) → 8 ≤ i → get_or xs i 0 ≡ 0)
    → content_of (chain_nodes 8 (number_of order) xs 0 8) ≡ content_of []
chain_at_8 order xs l z =
    no_nodes (entry_nodes (directory_nodes 2 (number_of order) xs 0) (number_of order) xs Tiff 0 8)
    (chain_nodes 7 (number_of order) xs (0 + 1)) (entry_offsets (number_of order) xs 8)
    (directory_end (number_of order) xs 8) offsets (end_at_8 order xs l z) refl
  where
    offsets : entry_offsets (number_of order) xs 8 ≡ []
    offsets =
        let c : number_at (number_of order) 2 xs 8 ≡ 0 =
        number_zero order 2 (drop 8 xs) (λ k. at_behind xs 8 k ∙ z (8 + k) (omega arith)) in
        let w : whole_entries (number_of order) xs 8 ≡ 0 =
        ap (λ n. min n ((length xs - 8 - 2) / 12)) c ∙ zero_least ((length xs - 8 - 2) / 12) in
        ap (λ n. spaced (8 + 2) 12 n) w

-- ---- the bytes

behind_all : (xs : List ℕ) (i : ℕ) → length xs ≤ i → get_or xs i 0 ≡ 0
behind_all xs i h = grind (arith, common_steps)

-- what the patches make of data of eight bytes or more
record Made (order : Order) (xs new : List ℕ) : Type 0 where
  as_long : length new ≡ length xs
  front : (k : ℕ) → k < 4 → get_or new k 0 ≡ get_or xs k 0
  first : number_at (number_of order) 4 new 4 ≡ empty_offset (length xs)
  zeros : (i : ℕ) → 8 ≤ i → get_or new i 0 ≡ 0

small_offset : (n : ℕ) → empty_offset n < 256 ^ 4
small_offset n = by_test (nat_lt n 14)
  where
    by_test : (b : Bool) → (if b then 0 else 8) < 256 ^ 4
    by_test true = omega arith
    by_test false = omega arith

made : (order : Order) (xs : List ℕ) → 8 ≤ length xs
    → Made order xs (patched (clearing order (length xs)) xs)
made order xs h =
    let encoded = spelled order 4 (empty_offset (length xs)) in
    let zs : List ℕ = replicate (length xs - 8) 0 in
    let ls : length encoded ≡ 4 = length_spelled order 4 (empty_offset (length xs)) in
    let lz : length zs ≡ length xs - 8 = length-replicate (length xs - 8) 0 in
    let a = put_at 4 encoded xs in
    let fa : 4 + length encoded ≤ length xs = omega arith in
    let la : length a ≡ length xs = length-put_at 4 encoded xs fa in
    let fz : 8 + length zs ≤ length a = omega arith in
    let fn : 8 + (length xs - 8) ≤ length a = omega arith in
    let ln : length (put_at 8 zs a) ≡ length xs = length-put_at 8 zs a fz ∙ la in
    record {
      as_long = ln;
      front = λ k l. put_before 8 zs a k fz (omega arith) ∙ put_before 4 encoded xs k fa l;
      first =
          number_same order 4 (drop 4 (put_at 8 zs a)) encoded
          (λ k l. at_behind (put_at 8 zs a) 4 k
          ∙ (put_before 8 zs a (4 + k) fz (omega arith)
          ∙ (put_on 4 encoded xs (4 + k) fa (omega arith) (omega arith)
          ∙ ap (λ j. get_or encoded j 0) (less_four k))))
          ∙ number_back order 4 (empty_offset (length xs)) (small_offset (length xs));
      zeros = λ i l. by_test i l (nat_lt i (length xs)) refl a la fn ln;
    }
  where
    less_four : (k : ℕ) → 4 + k - 4 ≡ k
    less_four k = omega arith

    by_test : (i : ℕ) → 8 ≤ i → (b : Bool) → nat_lt i (length xs) ≡ b → (a : List ℕ)
        → length a ≡ length xs → 8 + (length xs - 8) ≤ length a
        → length (put_at 8 (replicate (length xs - 8) 0) a) ≡ length xs
        → get_or (put_at 8 (replicate (length xs - 8) 0) a) i 0 ≡ 0
    by_test i l true e a la fn ln = put_zero 8 (length xs - 8) a i fn l (grind (arith, nat_tests))
    by_test i l false e a la fn ln =
        behind_all (put_at 8 (replicate (length xs - 8) 0) a) i (grind (arith, nat_tests))

-- ---- the whole

no_trace : (order : Order) (xs new : List ℕ) → Made order xs new
    → content_of (ordered_trace (number_of order) new) ≡ content_of []
unfolding ordered_trace
no_trace order xs new m =
    ap (λ q. content_of (chain_nodes 8 (number_of order) new 0 q)) m.first
    ∙ by_test (nat_lt (length xs) 14) refl
  where
    by_test : (b : Bool) → nat_lt (length xs) 14 ≡ b
        → content_of (chain_nodes 8 (number_of order) new 0 (if b then 0 else 8)) ≡ content_of []
    by_test true e = refl
    by_test false e = let l = m.as_long in chain_at_8 order new (grind (arith, nat_tests)) m.zeros

nothing_shown : (lenient : Bool) → answer_of lenient (content_of []) ≡ Whole []
nothing_shown true = refl
nothing_shown false = refl

-- with a good header all fields are erased by a new first offset and zeros behind the header
pub clear_is : (bytes : List ℕ) (order : Order) → header bytes ≡ Ok order
    → clear_patches bytes ≡ Ok (clearing order (length bytes))
unfolding clear_patches
clear_is bytes order h = rw h refl

-- a wrong header refuses the erasing of all fields, with its fault
pub clear_refused : (bytes : List ℕ) (fault : Fault) → header bytes ≡ Err fault
    → clear_patches bytes ≡ Err (wrong_header fault)
unfolding clear_patches
clear_refused bytes fault h = rw h refl

-- with a good header the byte order and the number 42 stay, and no field or fault is left
pub clear_sound : (old : List ℕ) (order : Order) → header old ≡ Ok order
    → IsCleared old (patched (clearing order (length old)) old)
clear_sound old order h =
    let new = patched (clearing order (length old)) old in
    let m = made order old (header_space old order h).0 in
    let same = header_same new old m.as_long m.front in
    record {
      as_long = m.as_long;
      header = same;
      zeros = m.zeros;
      reads = λ lenient. raw_right lenient None new order (same ∙ h)
          ∙ (ap (answer_of lenient) (no_trace order old new m)
          ∙ nothing_shown lenient);
    }

-- the patches lie in the data
clearing_fits : (order : Order) (n : ℕ) → 8 ≤ n → All (FitsIn n) (clearing order n)
clearing_fits order n h =
    let encoded = spelled order 4 (empty_offset n) in
    let zs = zeros_over (record { offset = 8; len = n - 8 }) in
    let ls : length encoded ≡ 4 = length_spelled order 4 (empty_offset n) in
    let lz : length zs.bytes ≡ n - 8 = length-replicate (n - 8) 0 in
    All-cons (FitsIn n) (record { offset = 4; bytes = encoded }) (zs ∷ []) (omega arith)
    (All-cons (FitsIn n) zs [] (omega arith) (All-nil (FitsIn n)))

-- what answered patches are
pub was_cleared : (bytes : List ℕ) (ps : List Patch) → clear_patches bytes ≡ Ok ps
    → (order : Order) × (header bytes ≡ Ok order) × (clearing order (length bytes) ≡ ps)
unfolding clear_patches
was_cleared bytes ps e =
    let a = bound (of_data (header bytes)) (λ order. Ok (clearing order (length bytes))) ps e in
    (a.0, data_read (header bytes) a.0 a.1, ok_same (clearing a.0 (length bytes)) ps a.2)

-- the patches that erase all fields lie in the data
pub clear_fits : (bytes : List ℕ) (ps : List Patch) → clear_patches bytes ≡ Ok ps
    → All (FitsIn (length bytes)) ps
clear_fits bytes ps e =
    let w = was_cleared bytes ps e in
    subst (λ qs. All (FitsIn (length bytes)) qs) w.2
    (clearing_fits w.0 (length bytes) (header_space bytes w.0 w.1).0)

-- what the two steps in place make
pub cleared_bytes : (order : Order) (xs a new : List ℕ) (p : ℕ) → p ≡ empty_offset (length xs)
    → a ≡ put_at 4 (spelled order 4 p) xs → length a ≡ length xs
    → new ≡ put_at 8 (replicate (length a - 8) 0) a → new ≡ patched (clearing order (length xs)) xs
cleared_bytes order xs a new p e f l g =
    g ∙ (ap (λ n. put_at 8 (replicate (n - 8) 0) a) l
    ∙ ap (λ b. put_at 8 (replicate (length xs - 8) 0) b)
    (f ∙ ap (λ q. put_at 4 (spelled order 4 q) xs) e))
