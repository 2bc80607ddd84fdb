-- The bytes at hand in a block.
use Rattle.std.proofs.Common.{◌≡◌, ◌≢◌, ℕ, ◌+◌, ◌-◌, ◌<◌, ◌≤◌, min, List, [], ◌++◌, length, take, drop, slice_index, Option, None, Some, Result, Ok, Err, IfOk, ap, sym, ◌∙◌, arith, append_assoc, length-append, length-drop}
use Rattle.std.proofs.Math.ListN.{drop_of_length-le}
use Rattle.std.proofs.lemmas.List.{drop_at, take_at, take-append-drop, length-take-le, drop-drop, drop-take, get_or-take, get_or-drop}
use Rattle.std.proofs.lemmas.Grind.{get_or_default_zero}
use Rattle.std.specs.Io.KnownBytes.{Consumes, IsAtEnd, Keeps, prepend_known}
use Rattle.exif_base.specs.Told.{PassesOthers}
use Rattle.exif_base.specs.Told.{IsFetchedOnto, Skips}

length_at_hand : (at end : ℕ) (block : List ℕ) → end ≤ length block → length (drop at (take end block)) ≡ end - at
length_at_hand at end block h = length-drop at (take end block) ∙ ap (λ t. t - at) (length-take-le end block h)

part_at_hand : (at end : ℕ) (block : List ℕ) → at ≤ end → take (end - at) (drop at block) ≡ drop at (take end block)
part_at_hand at end block h =
    let e : at + (end - at) ≡ end = omega arith in
    sym (drop-take at (end - at) block) ∙ ap (λ t. drop at (take t block)) e

-- the front of what is at hand was copied
pub at_hand_copied : (block new old : List ℕ) (at end n : ℕ) → at ≤ end → end ≤ length block → n ≤ end - at
    → new ≡ take n (take (end - at) (drop at block)) ++ drop n old → take n new ≡ take n (drop at (take end block))
at_hand_copied block new old at end n h k l e =
    let len : n ≤ length (take (end - at) (drop at block)) = omega (arith, ap length (part_at_hand at end block h), length_at_hand at end block k) in
    ap (take n) e ∙ take_at (take n (take (end - at) (drop at block))) (drop n old) n (length-take-le n (take (end - at) (drop at block)) len)
    ∙ ap (take n) (part_at_hand at end block h)

-- bytes at the front of a head are taken
head_taken : (head : List ℕ) (left : Option (List ℕ)) (n : ℕ) → Consumes (prepend_known head left) (prepend_known (drop n head) left) (take n head)
head_taken head None n = tt
head_taken head (Some ys) n = ap (λ t. t ++ ys) (sym (take-append-drop n head)) ∙ append_assoc (take n head) (drop n head) ys

-- what is at hand is a head before the rest, and its first bytes are taken
pub at_hand_taken : (block : List ℕ) (left : Option (List ℕ)) (at end n : ℕ)
    → Consumes (prepend_known (drop at (take end block)) left) (prepend_known (drop (at + n) (take end block)) left) (take n (drop at (take end block)))
at_hand_taken block left at end n =
    rw (sym (drop-drop n at (take end block))) (head_taken (drop at (take end block)) left n)

-- bytes at hand were skipped
pub at_hand_passed : (block : List ℕ) (left : Option (List ℕ)) (at end n stop : ℕ) → at + n ≤ end → end ≤ length block
    → ((k : ℕ) → k < n → slice_index block (at + k) ≢ stop)
    → PassesOthers (prepend_known (drop at (take end block)) left) (prepend_known (drop (at + n) (take end block)) left) stop n
at_hand_passed block left at end n stop h l others =
    let some : n ≤ length (drop at (take end block)) = omega (arith, length_at_hand at end block l) in
    let len : length (take n (drop at (take end block))) ≡ n = length-take-le n (drop at (take end block)) some in (
      take n (drop at (take end block)),
      at_hand_taken block left at end n,
      len,
      λ k d lt is.
          let below : k < n = omega (arith, len) in
          let inside : at + k < length block = omega arith in
          let before : at + k < end = omega arith in
          others k below (
          sym (get_or_default_zero block (at + k) d inside) ∙ sym (get_or-take end block (at + k) d before)
          ∙ sym (get_or-drop at (take end block) k d) ∙ sym (get_or-take n (drop at (take end block)) k d below) ∙ is
          ),
    )

consumes_kept : (a b c : Option (List ℕ)) (bytes : List ℕ) → Keeps a b → Consumes b c bytes → Consumes a c bytes
consumes_kept None b c bytes h k = tt
consumes_kept (Some x) None c bytes h k = absurd h
consumes_kept (Some x) (Some y) None bytes h k = absurd k
consumes_kept (Some x) (Some y) (Some z) bytes h k = sym h ∙ k

-- bytes at hand were given
pub at_hand_given : (old left : Option (List ℕ)) (block new : List ℕ) (at end n : ℕ)
    → Keeps old (prepend_known (drop at (take end block)) left) → take n new ≡ take n (drop at (take end block))
    → Consumes old (prepend_known (drop (at + n) (take end block)) left) (take n new)
at_hand_given old left block new at end n h e =
    rw e (consumes_kept old _ _ _ h (at_hand_taken block left at end n))

none_at_hand : (head : List ℕ) (left : Option (List ℕ)) → head ≡ [] → IsAtEnd left → IsAtEnd (prepend_known head left)
none_at_hand head None e h = tt
none_at_hand head (Some ys) e h = ap (λ t. t ++ ys) e ∙ h

-- none are given only at the end
pub at_hand_end : (left : Option (List ℕ)) (block : List ℕ) (at end n room : ℕ) → at ≤ end → end ≤ length block
    → (at ≡ end → IsAtEnd left) → n ≡ min (end - at) room → n ≡ 0 → 0 < room → IsAtEnd (prepend_known (drop (at + n) (take end block)) left)
at_hand_end left block at end n room h l ends m z some =
    let len : length (take end block) ≤ at + n = omega (arith, length-take-le end block l) in
    none_at_hand (drop (at + n) (take end block)) left (drop_of_length-le (take end block) len) (ends (omega arith))

-- what was at hand was skipped, and more behind it
pub at_hand_skipped : (block head : List ℕ) (left after : Option (List ℕ)) (at end n k len : ℕ) → end ≤ length block
    → n ≡ min (end - at) len → n ≢ len → head ≡ drop n (drop at (take end block)) → Skips left after k
    → Skips (prepend_known (drop at (take end block)) left) (prepend_known head after) (n + k)
at_hand_skipped block head None after at end n k len l m short e h = tt
at_hand_skipped block head (Some xs) None at end n k len l m short e h = absurd h
at_hand_skipped block head (Some xs) (Some ys) at end n k len l m short e h =
    let old = drop at (take end block) in
    let all : length old ≡ n = omega (arith, length_at_hand at end block l) in
    let none : head ≡ [] = e ∙ drop_of_length-le old (omega arith) in (
      omega (arith, length-append old xs),
      ap (λ t. t ++ ys) none ∙ h.1 ∙ ap (drop k) (sym (drop_at old xs n all)) ∙ drop-drop k n (old ++ xs),
    )

-- some bytes at hand were put at the end of a list
pub at_hand_fetched : (block old new : List ℕ) (left : Option (List ℕ)) (at end n : ℕ) → end ≤ length block → n ≤ end - at
    → new ≡ old ++ take n (drop at (take end block))
    → IsFetchedOnto (prepend_known (drop at (take end block)) left) (prepend_known (drop (at + n) (take end block)) left) old new n
at_hand_fetched block old new left at end n l some e =
    let head = drop at (take end block) in
    let len : length (take n head) ≡ n = length-take-le n head (omega (arith, length_at_hand at end block l)) in
    (take n head, at_hand_taken block left at end n, len, e)

consumed_behind : (head : List ℕ) (a b : Option (List ℕ)) (bytes : List ℕ) → head ≡ [] → Consumes a b bytes
    → Consumes (prepend_known head a) (prepend_known head b) bytes
consumed_behind head None b bytes e h = tt
consumed_behind head (Some x) None bytes e h = absurd h
consumed_behind head (Some x) (Some y) bytes e h = rw e h

none_left : (block : List ℕ) (at end : ℕ) → end ≤ length block → at ≡ end → drop at (take end block) ≡ []
none_left block at end l same = drop_of_length-le (take end block) (omega (arith, length-take-le end block l))

-- what was fetched behind a block of which nothing is at hand
pub fetched_behind : {E : Type 0} (block : List ℕ) (a b : Option (List ℕ)) (old new : List ℕ) (at end : ℕ) (result : Result ℕ E) → end ≤ length block → at ≡ end
    → IfOk result (λ n. IsFetchedOnto a b old new n)
    → let head = drop at (take end block) in IfOk result (λ n. IsFetchedOnto (prepend_known head a) (prepend_known head b) old new n)
fetched_behind block a b old new at end (Ok n) l same h = (h.0, consumed_behind _ a b h.0 (none_left block at end l same) h.1, h.2, h.3)
fetched_behind block a b old new at end (Err e) l same h = tt

-- what was skipped behind such a block
pub passed_behind : (block : List ℕ) (a b : Option (List ℕ)) (at end stop n : ℕ) → end ≤ length block → at ≡ end
    → PassesOthers a b stop n → let head = drop at (take end block) in PassesOthers (prepend_known head a) (prepend_known head b) stop n
passed_behind block a b at end stop n l same h = (h.0, consumed_behind _ a b h.0 (none_left block at end l same) h.1, h.2, h.3)
