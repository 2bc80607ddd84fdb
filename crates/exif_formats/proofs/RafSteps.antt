-- How the answer of a RAF file follows from its header and its JPEG stream.
use Rattle.std.proofs.Common.{◌≡◌, ℕ, ◌+◌, ◌-◌, ◌^◌, ◌<◌, ◌≤◌, true, false, cond, eqb, ltb, List, ◌++◌, length, take, drop, codes, Option, None, Some, Err, IfSome, MatchOption, ap, sym, ◌∙◌, subst, arith, length-drop, length-append}
use Rattle.std.specs.Cmp.Lexicographic.{pointwise}
use Rattle.std.proofs.lemmas.Bool.{lt-ltb, le-ltb}
use Rattle.std.proofs.lemmas.List.{take-append-le, drop-append-le, drop-drop, drop_at}
use Rattle.std.specs.Io.KnownBytes.{Consumes}
use Rattle.byteorder.specs.Endian.{big_number}
use Rattle.byteorder.specs.Numbers.{big_from-append}
use Rattle.exif_base.specs.Told.{WhereTold, Skips}
use Rattle.exif_types.specs.Failures.{Failure}
use Rattle.exif_types.specs.Refusals.{Refusal, refusal_of, IsInterrupted, Fails}
use Rattle.exif_segments.specs.Answer.{Answer, found, refused, IsShort}
use Rattle.exif_segments.specs.Jpeg.{jpeg_answer}
use Rattle.exif_formats.specs.Raf.{broken_raf, not_raf, invalid_jpeg_offset, begins_raf, jpeg_offset, stream_answer, raf_answer, behind_limit}

-- ---- the header

begins-append : (header ys : List ℕ) → length header ≡ 92 → begins_raf (header ++ ys) ≡ begins_raf header
begins-append header ys e = ap (λ t. pointwise eqb t (codes "FUJIFILMCCD-RAW ")) (take-append-le 16 header ys (omega arith))

offset-append : (header ys : List ℕ) → length header ≡ 92 → jpeg_offset (header ++ ys) ≡ jpeg_offset header
offset-append header ys e =
    ap (big_number 4) (drop-append-le 84 header ys (omega arith)) ∙ big_from-append 4 (drop 84 header) ys (omega (arith, length-drop 84 header))

-- a header, and what follows it
pub raf-header : (header ys : List ℕ) → length header ≡ 92
    → raf_answer (header ++ ys) ≡ cond (begins_raf header) (stream_answer (jpeg_offset header) (header ++ ys)) (refused not_raf)
raf-header header ys e =
    ap (λ t. cond t (refused broken_raf) (cond (begins_raf (header ++ ys)) (stream_answer (jpeg_offset (header ++ ys)) (header ++ ys)) (refused not_raf)))
    (le-ltb (length (header ++ ys)) 92 (omega (arith, length-append header ys)))
    ∙ ap (λ t. cond t (stream_answer (jpeg_offset (header ++ ys)) (header ++ ys)) (refused not_raf)) (begins-append header ys e)
    ∙ ap (λ n. cond (begins_raf header) (stream_answer n (header ++ ys)) (refused not_raf)) (offset-append header ys e)

-- a file with another signature is refused
pub raf_other : (a b : Option (List ℕ)) (header : List ℕ) → length header ≡ 92 → begins_raf header ≡ false → Consumes a b header
    → IfSome a (λ xs. raf_answer xs ≡ refused not_raf)
raf_other None b header e w h = tt
raf_other (Some xs) None header e w h = absurd h
raf_other (Some xs) (Some ys) header e w h =
    ap raf_answer h ∙ raf-header header ys e ∙ ap (λ t. cond t (stream_answer (jpeg_offset header) (header ++ ys)) (refused not_raf)) w

-- a file with the signature is answered as the stream at its offset
pub raf-stream : (header ys : List ℕ) (offset : ℕ) → length header ≡ 92 → begins_raf header ≡ true → offset ≡ jpeg_offset header
    → raf_answer (header ++ ys) ≡ stream_answer offset (header ++ ys)
raf-stream header ys offset e w s =
    raf-header header ys e ∙ ap (λ t. cond t (stream_answer (jpeg_offset header) (header ++ ys)) (refused not_raf)) w
    ∙ ap (λ n. stream_answer n (header ++ ys)) (sym s)

-- an offset in the header
pub stream-early : (offset : ℕ) (xs : List ℕ) → offset < 92 → stream_answer offset xs ≡ refused invalid_jpeg_offset
stream-early offset xs lt =
    ap (λ t. cond t (refused invalid_jpeg_offset) (cond (ltb (length xs) offset) (refused broken_raf) (jpeg_answer (take (2 ^ 64 - 1) (drop offset xs)))))
    (lt-ltb offset 92 lt)

-- a stream in the header is refused
pub raf_early : (a b : Option (List ℕ)) (header : List ℕ) (offset : ℕ) → length header ≡ 92 → begins_raf header ≡ true → offset ≡ jpeg_offset header → offset < 92
    → Consumes a b header → IfSome a (λ xs. raf_answer xs ≡ refused invalid_jpeg_offset)
raf_early None b header offset e w s lt h = tt
raf_early (Some xs) None header offset e w s lt h = absurd h
raf_early (Some xs) (Some ys) header offset e w s lt h =
    ap raf_answer h ∙ raf-stream header ys offset e w s ∙ stream-early offset (header ++ ys) lt

-- what is known of a file behind its header
abbrev pub HasHeader : ℕ → List ℕ → List ℕ → Type 0
HasHeader offset xs ys =
    (raf_answer xs ≡ stream_answer offset xs) × (jpeg_offset xs ≡ offset) × (92 ≤ length xs) × (ys ≡ drop 92 xs)

-- a header was read
pub raf_header : (a b : Option (List ℕ)) (header : List ℕ) (offset : ℕ) → length header ≡ 92 → begins_raf header ≡ true → offset ≡ jpeg_offset header
    → Consumes a b header → WhereTold a b (HasHeader offset)
raf_header None b header offset e w s h = tt
raf_header (Some xs) None header offset e w s h = absurd h
raf_header (Some xs) (Some ys) header offset e w s h = (
  ap raf_answer h ∙ raf-stream header ys offset e w s ∙ ap (stream_answer offset) (sym h),
  ap jpeg_offset h ∙ offset-append header ys e ∙ sym s,
  omega (arith, ap length h, length-append header ys),
  sym (ap (drop 92) h ∙ drop_at header ys 92 e),
)

-- ---- the stream

-- an offset behind the header, and within the file
pub stream-there : (offset : ℕ) (xs : List ℕ) → 92 ≤ offset → offset ≤ length xs
    → stream_answer offset xs ≡ jpeg_answer (take (2 ^ 64 - 1) (drop offset xs))
stream-there offset xs h k =
    ap (λ t. cond t (refused invalid_jpeg_offset) (cond (ltb (length xs) offset) (refused broken_raf) (jpeg_answer (take (2 ^ 64 - 1) (drop offset xs))))) (le-ltb offset 92 h)
    ∙ ap (λ t. cond t (refused broken_raf) (jpeg_answer (take (2 ^ 64 - 1) (drop offset xs)))) (le-ltb (length xs) offset k)

-- an offset behind the end
pub stream-cut : (offset : ℕ) (xs : List ℕ) → 92 ≤ offset → length xs < offset → stream_answer offset xs ≡ refused broken_raf
stream-cut offset xs h k =
    ap (λ t. cond t (refused invalid_jpeg_offset) (cond (ltb (length xs) offset) (refused broken_raf) (jpeg_answer (take (2 ^ 64 - 1) (drop offset xs))))) (le-ltb offset 92 h)
    ∙ ap (λ t. cond t (refused broken_raf) (jpeg_answer (take (2 ^ 64 - 1) (drop offset xs)))) (lt-ltb (length xs) offset k)

-- what is known of a file where its stream begins
abbrev pub IsAtStream : List ℕ → List ℕ → Type 0
IsAtStream xs ys = (raf_answer xs ≡ jpeg_answer (take (2 ^ 64 - 1) ys)) × (ys ≡ drop (jpeg_offset xs) xs)

-- the bytes up to the stream were skipped
pub raf_at_stream : (a b c : Option (List ℕ)) (offset : ℕ) → 92 ≤ offset → WhereTold a b (HasHeader offset) → Skips b c (offset - 92)
    → WhereTold a c IsAtStream
raf_at_stream None b c offset le h s = tt
raf_at_stream (Some xs) None c offset le h s = absurd h
raf_at_stream (Some xs) (Some ys) None offset le h s = absurd s
raf_at_stream (Some xs) (Some ys) (Some zs) offset le h s =
    let long = h.2 in
    let behind : length ys ≡ length xs - 92 = ap length h.3 ∙ length-drop 92 xs in
    let within = s.0 in
    let total : 92 + (offset - 92) ≡ offset = omega arith in
    let at : zs ≡ drop offset xs = s.1 ∙ ap (drop (offset - 92)) h.3 ∙ drop-drop (offset - 92) 92 xs ∙ ap (λ n. drop n xs) total in (
      h.0 ∙ stream-there offset xs le (omega arith) ∙ ap (λ t. jpeg_answer (take (2 ^ 64 - 1) t)) (sym at),
      at ∙ ap (λ n. drop n xs) (sym h.1),
    )

-- the bytes end before the stream
pub raf_cut : (e : Failure) (a b : Option (List ℕ)) (offset : ℕ) → 92 ≤ offset → WhereTold a b (HasHeader offset)
    → IsShort broken_raf e b (λ ys. length ys < offset - 92) → IfSome a (λ xs. Fails e (raf_answer xs))
raf_cut e None b offset le h s = tt
raf_cut e (Some xs) None offset le h s = absurd h
raf_cut e (Some xs) (Some ys) offset le h s = by (refusal_of e) s
  where
    by : (o : Option Refusal) → MatchOption o (IsInterrupted e) (λ r. (r ≡ broken_raf) × (length ys < offset - 92))
        → MatchOption o (IsInterrupted e) (λ r. raf_answer xs ≡ Err r)
    by None s = s
    by (Some r) s =
        let long = h.2 in
        let behind : length ys ≡ length xs - 92 = ap length h.3 ∙ length-drop 92 xs in
        let few = s.1 in
        h.0 ∙ stream-cut offset xs le (omega arith) ∙ ap (λ t. Err t) (sym s.0)

-- what holds of the stream's answer holds of the file's
pub raf_holds : (P : Answer → Type 0) (a c : Option (List ℕ)) → WhereTold a c IsAtStream → IfSome c (λ zs. P (jpeg_answer (take (2 ^ 64 - 1) zs)))
    → IfSome a (λ xs. P (raf_answer xs))
raf_holds P None c h k = tt
raf_holds P (Some xs) None h k = absurd h
raf_holds P (Some xs) (Some zs) h k = subst P (sym h.0) k

-- the payload of the stream is that of the file
pub raf_found : (payload : List ℕ) (a c d : Option (List ℕ)) → WhereTold a c IsAtStream
    → WhereTold c d (λ zs ws. (rest : List ℕ) × (jpeg_answer (take (2 ^ 64 - 1) zs) ≡ found payload rest) × (ws ≡ rest ++ drop (2 ^ 64 - 1) zs))
    → WhereTold a d (λ xs ws. (rest : List ℕ) × (raf_answer xs ≡ found payload rest) × (ws ≡ rest ++ behind_limit xs))
raf_found payload None c d h k = tt
raf_found payload (Some xs) None d h k = absurd h
raf_found payload (Some xs) (Some zs) None h k = absurd k
raf_found payload (Some xs) (Some zs) (Some ws) h k =
    (k.0, h.0 ∙ k.1, k.2 ∙ ap (λ t. k.0 ++ drop (2 ^ 64 - 1) t) h.1)
