-- What the bytes of a header say, and how they are read.
use Rattle.std.proofs.Common.{◌≡◌, ℕ, ◌-◌, ◌≤◌, Bool, true, false, cond, ◌&&◌, ltb, List, [], ◌∷◌, ◌++◌, length, take, drop, get_or, Option, Some, None, Result, Ok, Err, MatchOption, refl, sym, ap, ◌∙◌, subst, arith, length-append}
use Rattle.std.specs.Io.KnownBytes.{Consumes}
use Rattle.std.proofs.lemmas.List.{take_all, take-append-le}
use borrow.Rule.Slice.PartMut.{put_mid}
use Rattle.exif_base.proofs.ReadSteps.{consumes_append, take_filled}
use Rattle.exif_types.specs.Failures.{Failure}
use Rattle.exif_types.specs.Refusals.{Refusal, refusal_of, Refuses, Takes, Front}
use Rattle.exif_isobmff.specs.declared.splitter.Header.{Header}
use Rattle.exif_isobmff.specs.HeifRefusals.{invalid_size}
use Rattle.exif_isobmff.specs.Boxes.{box_size, header_len, header_at, sizes_itself}
use Rattle.exif_isobmff.proofs.SplitterBoxes.{ok_same}
use Rattle.exif_isobmff.proofs.LawsBoxes.{head_of}
use Rattle.exif_formats.specs.Headers.{file_header}
use Rattle.exif_formats.specs.declared.headers.FileHeader.{FileHeader}

-- a header of 8 bytes and 8 more
pub header_taken : (a b c : Option (List ℕ)) (n : ℕ) (first rest second : List ℕ) → n ≡ 8 → length first ≡ 8 → length second ≡ 8
    → Consumes a b (take n first) → Consumes b c second → Consumes a c (take 16 (put_mid 8 8 (first ++ rest) second))
header_taken a b c n first rest second e f s h k =
    let long : 8 ≤ length (first ++ rest) = omega (arith, length-append first rest) in
    let front : take 8 (first ++ rest) ≡ take n first = take-append-le 8 first rest (omega arith) ∙ ap (λ m. take m first) (sym e) in
    let whole : take 8 second ≡ second = take_all 8 second (omega arith) in
    let same : take 16 (put_mid 8 8 (first ++ rest) second) ≡ take n first ++ second =
    take_filled 8 8 8 (first ++ rest) second long (omega arith) ∙ ap (λ t. t ++ take 8 second) front ∙ ap (λ t. take n first ++ t) whole in
    subst (Consumes a c) (sym same) (consumes_append a b c (take n first) second h k)

-- what a header says, by tests on its size
abbrev by_tests : Refusal → List ℕ → List ℕ → Bool → Bool → Result FileHeader Refusal
by_tests wrong_size head name sizes small =
    cond (sizes && small) (Err wrong_size) (Ok (record { name = name; len = cond sizes (Some (box_size head - header_len head)) None }))

-- a header that says no size
pub unsized_header : (wrong_size : Refusal) (head name : List ℕ) → sizes_itself head ≡ false → take 4 (drop 4 head) ≡ name
    → file_header wrong_size head ≡ Ok (record { name = name; len = None })
unsized_header wrong_size head name s n =
    ap (λ b. by_tests wrong_size head (take 4 (drop 4 head)) b (ltb (box_size head) (header_len head))) s
    ∙ ap (λ t. by_tests wrong_size head t false false) n

-- a header that says a size
pub sized_header : (wrong_size : Refusal) (head name after : List ℕ) (h : Header) → sizes_itself head ≡ true → header_at head ≡ Ok (h, after) → take 4 (drop 4 head) ≡ name
    → file_header wrong_size head ≡ Ok (record { name = name; len = Some h.len })
unfolding header_at
sized_header wrong_size head name after h s r n =
    ap (λ b. by_tests wrong_size head (take 4 (drop 4 head)) b (ltb (box_size head) (header_len head))) s
    ∙ ap (λ t. by_tests wrong_size head t true (ltb (box_size head) (header_len head))) n
    ∙ by (ltb (box_size head) (header_len head)) r
  where
    len_of : Header × List ℕ → ℕ
    len_of p = p.0.len

    by : (small : Bool) → (let all : Front Header = cond small (Err invalid_size) (Ok (head_of head)) in all) ≡ Ok (h, after)
        → by_tests wrong_size head name true small ≡ Ok (record { name = name; len = Some h.len })
    by true e = absurd cc
    by false e = ap (λ n. let found : Result FileHeader Refusal = Ok (record { name = name; len = Some n }) in found) (ap len_of (ok_same e))

refused-header : (wrong_size : Refusal) (head : List ℕ) (e : Failure) → sizes_itself head ≡ true → Refuses e (header_at head) → file_header wrong_size head ≡ Err wrong_size
unfolding header_at
refused-header wrong_size head e s r =
    ap (λ b. by_tests wrong_size head (take 4 (drop 4 head)) b (ltb (box_size head) (header_len head))) s
    ∙ by (ltb (box_size head) (header_len head)) (refusal_of e) r
  where
    by : (small : Bool) (o : Option Refusal) → MatchOption o ⊥ (λ r. (let all : Front Header = cond small (Err invalid_size) (Ok (head_of head)) in all) ≡ Err r)
        → by_tests wrong_size head (take 4 (drop 4 head)) true small ≡ Err wrong_size
    by true o h = refl
    by false None h = absurd h
    by false (Some r) h = absurd cc

-- a header that the call refuses
pub wrong_header : (wrong_size : Refusal) (head after : List ℕ) (r : Result Header Failure) → sizes_itself head ≡ true → Takes (λ h. h) r after (header_at head)
    → ((h : Header) → r ≡ Ok h → ⊥) → file_header wrong_size head ≡ Err wrong_size
wrong_header wrong_size head after (Ok h) s t n = absurd (n h refl)
wrong_header wrong_size head after (Err e) s t n = refused-header wrong_size head e s t

-- the four bytes from the fourth on
pub four_at : (b : List ℕ) → 8 ≤ length b → take 4 (drop 4 b) ≡ get_or b 4 0 ∷ get_or b 5 0 ∷ get_or b 6 0 ∷ get_or b 7 0 ∷ []
four_at [] h = absurd (omega arith)
four_at (a ∷ []) h = absurd (omega arith)
four_at (a ∷ b ∷ []) h = absurd (omega arith)
four_at (a ∷ b ∷ c ∷ []) h = absurd (omega arith)
four_at (a ∷ b ∷ c ∷ d ∷ []) h = absurd (omega arith)
four_at (a ∷ b ∷ c ∷ d ∷ e ∷ []) h = absurd (omega arith)
four_at (a ∷ b ∷ c ∷ d ∷ e ∷ f ∷ []) h = absurd (omega arith)
four_at (a ∷ b ∷ c ∷ d ∷ e ∷ f ∷ g ∷ []) h = absurd (omega arith)
four_at (a ∷ b ∷ c ∷ d ∷ e ∷ f ∷ g ∷ i ∷ t) h = refl
