-- The answer of a WebP file is that of its tree, and all bytes have a tree.
use Rattle.std.proofs.Common.{◌≡◌, ◌≢◌, ◌⊎◌, inl, inr, subst, ℕ, zero, suc, ◌+◌, ◌-◌, ◌%◌, ◌<◌, ◌≤◌, Bool, true, false, cond, eqb, ltb, ◌&&◌, List, [], ◌∷◌, ◌++◌, length, take, drop, codes, Ok, Err, ap, sym, ◌∙◌, refl, arith, append_assoc, append-nil, length-append, length-drop}
use Rattle.std.specs.List.{flat_map}
use Rattle.std.specs.Str.{bytes_eq}
use Rattle.std.proofs.lemmas.Bool.{ne_eqb, eqb-true, eqb-false, lt-ltb, le-ltb, ltb-true, ltb-false, and_parts}
use Rattle.std.proofs.lemmas.List.{take_at, drop_at, take-append-drop, length-take-le, drop-drop}
use Rattle.std.proofs.lemmas.Slice.Eq.{bytes_eq-Decides}
use Rattle.byteorder.specs.Endian.{little_number}
use Rattle.byteorder.specs.Numbers.{little_from-append}
use Rattle.exif_segments.specs.Answer.{refused}
use Rattle.exif_segments.specs.Webp.{exif as exif_answer, other, broken_webp, not_webp, invalid_file_size, overflowing, no_exif_in_webp, padded, exif_chunk, other_chunk, chunk_body, chunk_at, body_answer, begins_webp, webp_answer}
use Rattle.exif_segments.specs.WebpGrammar.{ChunkTree, print_chunk, chunk_len, pad_len, IsHeader, IsExif, IsOther, AreOthers, space_behind, wanted, BodyEnd, exif, used_up, no_space, too_long, cut_header, cut_payload, print_end, IsEnd, end_answer, print_header, WebpFile, body, small, short, foreign, body_space, HasNoHeader, FileIsAnswered, IsAFile}
use Rattle.exif_segments.proofs.WebpChunks.{webp-twelve, webp-header, begins_webp-append, body-other, body-exif, body-refused}

-- a chunk's name, its size and what follows them are the bytes
name-size-rest : (bytes : List ℕ) → take 4 bytes ++ (take 4 (drop 4 bytes) ++ drop 8 bytes) ≡ bytes
name-size-rest bytes =
    ap (λ t. take 4 bytes ++ (take 4 (drop 4 bytes) ++ t)) (sym (drop-drop 4 4 bytes))
    ∙ ap (λ t. take 4 bytes ++ t) (take-append-drop 4 (drop 4 bytes)) ∙ take-append-drop 4 bytes

-- ---- what the definition makes of an offset

padded-len : (size space : ℕ) → size ≤ space → padded size space ≡ size + pad_len size (space - size)
padded-len size space h = by (eqb (size % 2) 1)
  where
    by : (odd : Bool) → cond (odd && ltb size space) (size + 1) size ≡ size + cond (odd && ltb 0 (space - size)) 1 0
    by false = omega arith
    by true = more (ltb size space) refl
      where
        more : (t : Bool) → ltb size space ≡ t → cond t (size + 1) size ≡ size + cond (ltb 0 (space - size)) 1 0
        more true e = ap (λ t. size + cond t 1 0) (sym (lt-ltb 0 (space - size) (let l = ltb-true size space e in omega arith)))
        more false e =
            let l = ltb-false size space e in
            let none : space - size ≡ 0 = omega arith in
            omega (arith, ap (λ (n : ℕ). size + cond (ltb 0 n) 1 0) none)

-- behind a name and a size comes what they say
chunk-header : (space : ℕ) (name size rest : List ℕ) → IsHeader space name size
    → chunk_at space (name ++ (size ++ rest)) ≡ chunk_body name (little_number 4 size) (space - 8) rest
chunk-header space name size rest h =
    let r = h.space_is in
    let nl = h.name_len in
    let sl = h.size_len in
    let bytes : List ℕ = name ++ (size ++ rest) in
    let eight : length (name ++ size) ≡ 8 = omega (arith, length-append name size) in
    let long : ltb (length (name ++ (size ++ rest))) 8 ≡ false = le-ltb (length (name ++ (size ++ rest))) 8 (omega (arith, length-append name (size ++ rest), length-append size rest)) in
    let some : eqb space 0 ≡ false = ne_eqb space 0 (λ z. omega arith) in
    ap (λ t. cond t (Err no_exif_in_webp) (cond (ltb space 8) (Err overflowing) (cond (ltb (length bytes) 8) (Err broken_webp) (chunk_body (take 4 bytes) (little_number 4 (drop 4 bytes)) (space - 8) (drop 8 bytes))))) some
    ∙ ap (λ t. cond t (Err overflowing) (cond (ltb (length bytes) 8) (Err broken_webp) (chunk_body (take 4 bytes) (little_number 4 (drop 4 bytes)) (space - 8) (drop 8 bytes)))) (le-ltb space 8 r)
    ∙ ap (λ t. cond t (Err broken_webp) (chunk_body (take 4 bytes) (little_number 4 (drop 4 bytes)) (space - 8) (drop 8 bytes))) long
    ∙ ap (λ t. chunk_body t (little_number 4 (drop 4 bytes)) (space - 8) (drop 8 bytes)) (take_at name (size ++ rest) 4 nl)
    ∙ ap (λ t. chunk_body name (little_number 4 t) (space - 8) (drop 8 bytes)) (drop_at name (size ++ rest) 4 nl)
    ∙ ap (λ t. chunk_body name t (space - 8) (drop 8 bytes)) (little_from-append 4 size rest (omega arith))
    ∙ ap (λ t. chunk_body name (little_number 4 size) (space - 8) (drop 8 t)) (sym (append_assoc name size rest))
    ∙ ap (chunk_body name (little_number 4 size) (space - 8)) (drop_at (name ++ size) rest 8 eight)

is-exif : (name : List ℕ) → name ≡ codes "EXIF" → bytes_eq name (codes "EXIF") ≡ true
is-exif name e = (bytes_eq-Decides name (codes "EXIF")).1 e

not-exif : (name : List ℕ) → name ≢ codes "EXIF" → bytes_eq name (codes "EXIF") ≡ false
not-exif name h = by (bytes_eq name (codes "EXIF")) refl
  where
    by : (t : Bool) → bytes_eq name (codes "EXIF") ≡ t → t ≡ false
    by true e = absurd (h ((bytes_eq-Decides name (codes "EXIF")).0 e))
    by false e = refl

body-fits : (name : List ℕ) (size space : ℕ) (bytes : List ℕ) → size ≤ space
    → chunk_body name size space bytes ≡ cond (bytes_eq name (codes "EXIF")) (exif_chunk size bytes) (other_chunk (padded size space) space bytes)
body-fits name size space bytes h =
    ap (λ t. cond t (Err overflowing) (cond (bytes_eq name (codes "EXIF")) (exif_chunk size bytes) (other_chunk (padded size space) space bytes))) (le-ltb space size h)

exif-there : (size : ℕ) (payload rest : List ℕ) → length payload ≡ size → exif_chunk size (payload ++ rest) ≡ Ok (exif_answer payload rest)
exif-there size payload rest e =
    ap (λ t. cond t (Err broken_webp) (Ok (exif_answer (take size (payload ++ rest)) (drop size (payload ++ rest))))) (le-ltb (length (payload ++ rest)) size (omega (arith, length-append payload rest)))
    ∙ ap (λ t. Ok (exif_answer t (drop size (payload ++ rest)))) (take_at payload rest size e)
    ∙ ap (λ t. Ok (exif_answer payload t)) (drop_at payload rest size e)

other-there : (taken space : ℕ) (passed rest : List ℕ) → length passed ≡ taken → other_chunk taken space (passed ++ rest) ≡ Ok (other (space - taken) rest)
other-there taken space passed rest e =
    ap (λ t. cond t (Err broken_webp) (Ok (other (space - taken) (drop taken (passed ++ rest))))) (le-ltb (length (passed ++ rest)) taken (omega (arith, length-append passed rest)))
    ∙ ap (λ t. Ok (other (space - taken) t)) (drop_at passed rest taken e)

-- the bytes of a chunk, and then others
print-chunk : (c : ChunkTree) (rest : List ℕ) → print_chunk c ++ rest ≡ c.name ++ (c.size ++ ((c.payload ++ c.pad) ++ rest))
print-chunk c rest =
    append_assoc c.name (c.size ++ (c.payload ++ c.pad)) rest ∙ ap (λ t. c.name ++ t) (append_assoc c.size (c.payload ++ c.pad) rest)

at-exif : (space : ℕ) (c : ChunkTree) (rest : List ℕ) → IsExif space c → chunk_at space (print_chunk c ++ rest) ≡ Ok (exif_answer c.payload rest)
at-exif space c rest h =
    let n = little_number 4 c.size in
    ap (chunk_at space) (print-chunk c rest)
    ∙ chunk-header space c.name c.size ((c.payload ++ c.pad) ++ rest) h.chunk.header
    ∙ ap (λ t. chunk_body c.name n (space - 8) ((c.payload ++ t) ++ rest)) h.unpadded
    ∙ ap (λ t. chunk_body c.name n (space - 8) (t ++ rest)) (append-nil c.payload)
    ∙ body-fits c.name n (space - 8) (c.payload ++ rest) h.chunk.fits
    ∙ ap (λ t. cond t (exif_chunk n (c.payload ++ rest)) (other_chunk (padded n (space - 8)) (space - 8) (c.payload ++ rest))) (is-exif c.name h.name_is)
    ∙ exif-there n c.payload rest h.chunk.payload_len

at-other : (space : ℕ) (c : ChunkTree) (rest : List ℕ) → IsOther space c → chunk_at space (print_chunk c ++ rest) ≡ Ok (other (space - chunk_len c) rest)
at-other space c rest h =
    let n = little_number 4 c.size in
    let whole : List ℕ = c.payload ++ c.pad in
    let len : length c.payload ≡ n = h.chunk.payload_len in
    let pad : length c.pad ≡ pad_len n (space - 8 - n) = h.padded ∙ ap (λ t. pad_len t (space - 8 - t)) len in
    let taken : length (c.payload ++ c.pad) ≡ padded n (space - 8) = length-append c.payload c.pad ∙ ap (λ t. t + length c.pad) len ∙ ap (λ t. n + t) pad ∙ sym (padded-len n (space - 8) h.chunk.fits) in
    ap (chunk_at space) (print-chunk c rest)
    ∙ chunk-header space c.name c.size (whole ++ rest) h.chunk.header
    ∙ body-fits c.name n (space - 8) (whole ++ rest) h.chunk.fits
    ∙ ap (λ t. cond t (exif_chunk n (whole ++ rest)) (other_chunk (padded n (space - 8)) (space - 8) (whole ++ rest))) (not-exif c.name h.name_is)
    ∙ other-there (padded n (space - 8)) (space - 8) whole rest taken
    ∙ ap (λ r. Ok (other r rest)) (omega (arith, length-append c.payload c.pad, sym taken))

-- too few bytes behind a name and a size
cut-short : (name : List ℕ) (n space : ℕ) (bytes : List ℕ) → n ≤ space → length bytes < wanted name n space → chunk_body name n space bytes ≡ Err broken_webp
cut-short name n space bytes fits h = body-fits name n space bytes fits ∙ by (bytes_eq name (codes "EXIF")) h
  where
    by : (t : Bool) → length bytes < cond t n (n + pad_len n (space - n)) → cond t (exif_chunk n bytes) (other_chunk (padded n space) space bytes) ≡ Err broken_webp
    by true h = ap (λ t. cond t (Err broken_webp) (Ok (exif_answer (take n bytes) (drop n bytes)))) (lt-ltb (length bytes) n h)
    by false h =
        let e = padded-len n space fits in
        ap (λ t. cond t (Err broken_webp) (Ok (other (space - padded n space) (drop (padded n space) bytes)))) (lt-ltb (length bytes) (padded n space) (omega arith))

-- ---- a body is answered as its tree says

answer-end : (space : ℕ) (end : BodyEnd) → IsEnd space end → body_answer space (print_end end) ≡ end_answer end
answer-end space (exif c rest) h = body-exif space (print_chunk c ++ rest) c.payload rest (at-exif space c rest h)
answer-end space (used_up rest) h = body-refused space rest no_exif_in_webp
    (ap (λ t. chunk_at t rest) h)
answer-end space (no_space rest) h = body-refused space rest overflowing
    (ap (λ t. cond t (Err no_exif_in_webp) (cond (ltb space 8) (Err overflowing) (cond (ltb (length rest) 8) (Err broken_webp) (chunk_body (take 4 rest) (little_number 4 (drop 4 rest)) (space - 8) (drop 8 rest))))) (ne_eqb space 0 (λ z. omega (arith, h.0)))
    ∙ ap (λ t. cond t (Err overflowing) (cond (ltb (length rest) 8) (Err broken_webp) (chunk_body (take 4 rest) (little_number 4 (drop 4 rest)) (space - 8) (drop 8 rest)))) (lt-ltb space 8 h.1))
answer-end space (too_long name size rest) h = body-refused space (name ++ (size ++ rest)) overflowing
    (chunk-header space name size rest h.0
    ∙ ap (λ t. cond t (Err overflowing) (cond (bytes_eq name (codes "EXIF")) (exif_chunk (little_number 4 size) rest) (other_chunk (padded (little_number 4 size) (space - 8)) (space - 8) rest))) (lt-ltb (space - 8) (little_number 4 size) h.1))
answer-end space (cut_header bytes) h = body-refused space bytes broken_webp
    (ap (λ t. cond t (Err no_exif_in_webp) (cond (ltb space 8) (Err overflowing) (cond (ltb (length bytes) 8) (Err broken_webp) (chunk_body (take 4 bytes) (little_number 4 (drop 4 bytes)) (space - 8) (drop 8 bytes))))) (ne_eqb space 0 (λ z. omega (arith, h.0)))
    ∙ ap (λ t. cond t (Err overflowing) (cond (ltb (length bytes) 8) (Err broken_webp) (chunk_body (take 4 bytes) (little_number 4 (drop 4 bytes)) (space - 8) (drop 8 bytes)))) (le-ltb space 8 h.0)
    ∙ ap (λ t. cond t (Err broken_webp) (chunk_body (take 4 bytes) (little_number 4 (drop 4 bytes)) (space - 8) (drop 8 bytes))) (lt-ltb (length bytes) 8 h.1))
answer-end space (cut_payload name size bytes) h = body-refused space (name ++ (size ++ bytes)) broken_webp
    (chunk-header space name size bytes h.0 ∙ cut-short name (little_number 4 size) (space - 8) bytes h.1 h.2)

answer-body : (space : ℕ) (cs : List ChunkTree) (end : BodyEnd) → AreOthers space cs → IsEnd (space_behind space cs) end
    → body_answer space (flat_map print_chunk cs ++ print_end end) ≡ end_answer end
answer-body space [] end h k = answer-end space end k
answer-body space (c ∷ cs) end h k =
    ap (body_answer space) (append_assoc (print_chunk c) (flat_map print_chunk cs) (print_end end))
    ∙ body-other space (print_chunk c ++ (flat_map print_chunk cs ++ print_end end)) (space - chunk_len c) (flat_map print_chunk cs ++ print_end end) (at-other space c (flat_map print_chunk cs ++ print_end end) h.0)
    ∙ answer-body (space - chunk_len c) cs end h.1 k

-- ---- the header of a file

four-or-not : (size : List ℕ) → length size ≡ 4 → begins_webp (print_header size) ≡ true
four-or-not [] e = absurd (omega arith)
four-or-not (a ∷ []) e = absurd (omega arith)
four-or-not (a ∷ b ∷ []) e = absurd (omega arith)
four-or-not (a ∷ b ∷ c ∷ []) e = absurd (omega arith)
four-or-not (a ∷ b ∷ c ∷ d ∷ []) e = refl
four-or-not (a ∷ b ∷ c ∷ d ∷ x ∷ xs) e = absurd (omega arith)

header-size : (size : List ℕ) → length size ≡ 4 → little_number 4 (drop 4 (print_header size)) ≡ little_number 4 size
header-size size e = little_from-append 4 size (codes "WEBP") (omega arith)

answer-file : (size rest : List ℕ) → length size ≡ 4
    → webp_answer (print_header size ++ rest) ≡ cond (ltb (little_number 4 size) 4) (refused invalid_file_size) (body_answer (body_space size) rest)
answer-file size rest e =
    let twelve : length (print_header size) ≡ 12 = omega (arith, length-append size (codes "WEBP")) in
    webp-header (print_header size) rest twelve (four-or-not size e)
    ∙ ap (λ n. cond (ltb n 4) (refused invalid_file_size) (body_answer (n - 4) rest)) (header-size size e)

-- bytes that begin with a header
header-split : (bytes : List ℕ) → begins_webp bytes ≡ true → bytes ≡ print_header (take 4 (drop 4 bytes)) ++ drop 12 bytes
header-split bytes h =
    let both = and_parts (bytes_eq (take 4 bytes) (codes "RIFF")) (bytes_eq (take 4 (drop 8 bytes)) (codes "WEBP")) h in
    let riff : take 4 bytes ≡ codes "RIFF" = (bytes_eq-Decides (take 4 bytes) (codes "RIFF")).0 both.0 in
    let webp : take 4 (drop 8 bytes) ≡ codes "WEBP" = (bytes_eq-Decides (take 4 (drop 8 bytes)) (codes "WEBP")).0 both.1 in
    let size : List ℕ = take 4 (drop 4 bytes) in
    sym (take-append-drop 4 bytes)
    ∙ ap (λ t. t ++ drop 4 bytes) riff
    ∙ ap (λ t. codes "RIFF" ++ t) (sym (take-append-drop 4 (drop 4 bytes)))
    ∙ ap (λ t. codes "RIFF" ++ (size ++ t)) (drop-drop 4 4 bytes ∙ sym (take-append-drop 4 (drop 8 bytes)))
    ∙ ap (λ t. codes "RIFF" ++ (size ++ (t ++ drop 4 (drop 8 bytes)))) webp
    ∙ ap (λ t. codes "RIFF" ++ (size ++ (codes "WEBP" ++ t))) (drop-drop 4 8 bytes)
    ∙ sym (append_assoc (codes "RIFF") (size ++ codes "WEBP") (drop 12 bytes) ∙ ap (λ t. codes "RIFF" ++ t) (append_assoc size (codes "WEBP") (drop 12 bytes)))

size-len : (bytes : List ℕ) → 12 ≤ length bytes → length (take 4 (drop 4 bytes)) ≡ 4
size-len bytes h = length-take-le 4 (drop 4 bytes) (omega (arith, length-drop 4 bytes))

foreign-begins : (bytes : List ℕ) → 12 ≤ length bytes → HasNoHeader bytes → begins_webp bytes ≡ false
foreign-begins bytes h none = by (begins_webp bytes) refl
  where
    by : (t : Bool) → begins_webp bytes ≡ t → t ≡ false
    by true e = absurd (none (take 4 (drop 4 bytes)) (drop 12 bytes) (size-len bytes h) (header-split bytes e))
    by false e = refl

answer-foreign : (bytes : List ℕ) → 12 ≤ length bytes → begins_webp bytes ≡ false → webp_answer bytes ≡ refused not_webp
answer-foreign bytes h e =
    ap webp_answer (sym (take-append-drop 12 bytes))
    ∙ webp-twelve (take 12 bytes) (drop 12 bytes) (length-take-le 12 bytes h)
    ∙ ap (λ t. cond t (cond (ltb (little_number 4 (drop 4 (take 12 bytes))) 4) (refused invalid_file_size) (body_answer (little_number 4 (drop 4 (take 12 bytes)) - 4) (drop 12 bytes))) (refused not_webp)) (front ∙ e)
  where
    front : begins_webp (take 12 bytes) ≡ begins_webp bytes
    front =
        sym (begins_webp-append (take 12 bytes) (drop 12 bytes) (length-take-le 12 bytes h)) ∙ ap begins_webp (take-append-drop 12 bytes)

-- a file is answered as its tree says
pub file_is_answered : (f : WebpFile) → FileIsAnswered f
file_is_answered (body size cs end) h =
    answer-file size (flat_map print_chunk cs ++ print_end end) h.0
    ∙ ap (λ t. cond t (refused invalid_file_size) (body_answer (body_space size) (flat_map print_chunk cs ++ print_end end))) (le-ltb (little_number 4 size) 4 h.1)
    ∙ answer-body (body_space size) cs end h.2 h.3
file_is_answered (small size rest) h =
    answer-file size rest h.0
    ∙ ap (λ t. cond t (refused invalid_file_size) (body_answer (body_space size) rest)) (lt-ltb (little_number 4 size) 4 h.1)
file_is_answered (short bytes) h =
    ap (λ t. cond t (refused broken_webp) (cond (begins_webp bytes) (cond (ltb (little_number 4 (drop 4 bytes)) 4) (refused invalid_file_size) (body_answer (little_number 4 (drop 4 bytes) - 4) (drop 12 bytes))) (refused not_webp))) (lt-ltb (length bytes) 12 h)
file_is_answered (foreign bytes) h = answer-foreign bytes h.0 (foreign-begins bytes h.0 h.1)

-- ---- all bytes have a tree

record Ended (space : ℕ) (bytes : List ℕ) : Type 0 where
  end : BodyEnd
  is : IsEnd space end
  whole : print_end end ≡ bytes

record Passed (space : ℕ) (bytes : List ℕ) : Type 0 where
  chunk : ChunkTree
  rest : List ℕ
  is : IsOther space chunk
  whole : print_chunk chunk ++ rest ≡ bytes
  fewer : length rest < length bytes

abbrev chunk_of : List ℕ → List ℕ → List ℕ → List ℕ → ChunkTree
chunk_of name size payload pad = record { name = name; size = size; payload = payload; pad = pad }

exif-offset : (space : ℕ) (name size more : List ℕ) → IsHeader space name size → little_number 4 size ≤ space - 8 → little_number 4 size ≤ length more
    → name ≡ codes "EXIF" → Ended space (name ++ (size ++ more))
exif-offset space name size more h fits there e =
    let n = little_number 4 size in
    let len : length (take n more) ≡ n = length-take-le n more there in
    let c = chunk_of name size (take n more) [] in
    record {
      end = exif c (drop n more);
      is = record { chunk = record { header = h; payload_len = len; fits = fits }; name_is = e; unpadded = refl };
      whole = print-chunk c (drop n more) ∙ ap (λ t. name ++ (size ++ (t ++ drop n more))) (append-nil (take n more)) ∙ ap (λ t. name ++ (size ++ t)) (take-append-drop n more);
    }

other-offset : (space : ℕ) (name size more : List ℕ) → IsHeader space name size → (fits : little_number 4 size ≤ space - 8)
    → little_number 4 size + pad_len (little_number 4 size) (space - 8 - little_number 4 size) ≤ length more
    → name ≢ codes "EXIF" → Passed space (name ++ (size ++ more))
other-offset space name size more h fits there e =
    let n = little_number 4 size in
    let p = pad_len n (space - 8 - n) in
    let payload : List ℕ = take n more in
    let len : length (take n more) ≡ n = length-take-le n more (omega arith) in
    let pad : List ℕ = take p (drop n more) in
    let pad-is : length (take p (drop n more)) ≡ p = length-take-le p (drop n more) (omega (arith, length-drop n more)) in
    let rest : List ℕ = drop p (drop n more) in
    let c = chunk_of name size payload pad in
    let nl = h.name_len in
    let long : length (name ++ (size ++ more)) ≡ length name + (length size + length more) = length-append name (size ++ more) ∙ ap (λ t. length name + t) (length-append size more) in
    record {
      chunk = c;
      rest = rest;
      is = record { chunk = record { header = h; payload_len = len; fits = fits }; name_is = e; padded = pad-is ∙ ap (λ t. pad_len t (space - 8 - t)) (sym len) };
      whole = print-chunk c rest ∙ ap (λ t. name ++ (size ++ t)) (append_assoc payload pad rest ∙ ap (λ t. payload ++ t) (take-append-drop p (drop n more)) ∙ take-append-drop n more);
      fewer = omega (arith, length-drop n more, length-drop p (drop n more));
    }

payload-offset : (space : ℕ) (name size more : List ℕ) → IsHeader space name size → little_number 4 size ≤ space - 8
    → Ended space (name ++ (size ++ more)) ⊎ Passed space (name ++ (size ++ more))
payload-offset space name size more h fits = by (ltb (length more) (wanted name (little_number 4 size) (space - 8))) refl
  where
    there : (t : Bool) → bytes_eq name (codes "EXIF") ≡ t → cond t (little_number 4 size) (little_number 4 size + pad_len (little_number 4 size) (space - 8 - little_number 4 size)) ≤ length more
        → Ended space (name ++ (size ++ more)) ⊎ Passed space (name ++ (size ++ more))
    there true e k = inl (exif-offset space name size more h fits k ((bytes_eq-Decides name (codes "EXIF")).0 e))
    there false e k = inr (other-offset space name size more h fits k (λ is. absurd (let k : true ≡ false = sym (is-exif name is) ∙ e in cc)))

    by : (t : Bool) → ltb (length more) (wanted name (little_number 4 size) (space - 8)) ≡ t → Ended space (name ++ (size ++ more)) ⊎ Passed space (name ++ (size ++ more))
    by true e = inl (record { end = cut_payload name size more; is = (h, fits, ltb-true (length more) (wanted name (little_number 4 size) (space - 8)) e); whole = refl })
    by false e = there (bytes_eq name (codes "EXIF")) refl (ltb-false (length more) (wanted name (little_number 4 size) (space - 8)) e)

header-offset : (space : ℕ) (name size more : List ℕ) → IsHeader space name size → Ended space (name ++ (size ++ more)) ⊎ Passed space (name ++ (size ++ more))
header-offset space name size more h = by (ltb (space - 8) (little_number 4 size)) refl
  where
    by : (t : Bool) → ltb (space - 8) (little_number 4 size) ≡ t → Ended space (name ++ (size ++ more)) ⊎ Passed space (name ++ (size ++ more))
    by true e = inl (record { end = too_long name size more; is = (h, ltb-true (space - 8) (little_number 4 size) e); whole = refl })
    by false e = payload-offset space name size more h (ltb-false (space - 8) (little_number 4 size) e)

offset : (space : ℕ) (bytes : List ℕ) → Ended space bytes ⊎ Passed space bytes
offset space bytes = by-space (eqb space 0) refl
  where
    by-len : (t : Bool) → ltb (length bytes) 8 ≡ t → 8 ≤ space → Ended space bytes ⊎ Passed space bytes
    by-len true e h = inl (record { end = cut_header bytes; is = (h, ltb-true (length bytes) 8 e); whole = refl })
    by-len false e h =
        let long = ltb-false (length bytes) 8 e in
        let P : List ℕ → Type 0 = λ t. Ended space t ⊎ Passed space t in
        subst P (name-size-rest bytes) (header-offset space (take 4 bytes) (take 4 (drop 4 bytes)) (drop 8 bytes) (record {
          space_is = h;
          name_len = length-take-le 4 bytes (omega arith);
          size_len = length-take-le 4 (drop 4 bytes) (omega (arith, length-drop 4 bytes));
        }))

    by-eight : (t : Bool) → ltb space 8 ≡ t → 0 < space → Ended space bytes ⊎ Passed space bytes
    by-eight true e h = inl (record { end = no_space bytes; is = (h, ltb-true space 8 e); whole = refl })
    by-eight false e h = by-len (ltb (length bytes) 8) refl (ltb-false space 8 e)

    by-space : (t : Bool) → eqb space 0 ≡ t → Ended space bytes ⊎ Passed space bytes
    by-space true e = inl (record { end = used_up bytes; is = eqb-true space 0 e; whole = refl })
    by-space false e = by-eight (ltb space 8) refl (let z : space ≢ 0 = eqb-false space 0 e in omega arith)

record Chunks (space : ℕ) (bytes : List ℕ) : Type 0 where
  before : List ChunkTree
  end : BodyEnd
  others : AreOthers space before
  ends : IsEnd (space_behind space before) end
  whole : flat_map print_chunk before ++ print_end end ≡ bytes

chunks-ended : (space : ℕ) (bytes : List ℕ) → Ended space bytes → Chunks space bytes
chunks-ended space bytes e = record { before = []; end = e.end; others = tt; ends = e.is; whole = e.whole }

chunks-passed : (space : ℕ) (bytes : List ℕ) (p : Passed space bytes) → Chunks (space - chunk_len p.chunk) p.rest → Chunks space bytes
chunks-passed space bytes p c = record {
  before = p.chunk ∷ c.before;
  end = c.end;
  others = (p.is, c.others);
  ends = c.ends;
  whole = append_assoc (print_chunk p.chunk) (flat_map print_chunk c.before) (print_end c.end) ∙ ap (λ t. print_chunk p.chunk ++ t) c.whole ∙ p.whole;
}

chunks-within : (n space : ℕ) (bytes : List ℕ) → length bytes < n → Chunks space bytes
chunks-within zero space bytes h = absurd (omega arith)
chunks-within (suc n) space bytes h = first n space bytes h (offset space bytes) (chunks-within n)
  where
    first : (n space : ℕ) (bytes : List ℕ) → length bytes < suc n → Ended space bytes ⊎ Passed space bytes → ((r : ℕ) (rest : List ℕ) → length rest < n → Chunks r rest) → Chunks space bytes
    first n space bytes h (inl e) ih = chunks-ended space bytes e
    first n space bytes h (inr p) ih = chunks-passed space bytes p (ih (space - chunk_len p.chunk) p.rest (omega (arith, p.fewer)))

-- all bytes are those of a file
pub is_a_file : (bytes : List ℕ) → IsAFile bytes
is_a_file bytes = by-len (ltb (length bytes) 12) refl
  where
    with-size : (size rest : List ℕ) → length size ≡ 4 → (t : Bool) → ltb (little_number 4 size) 4 ≡ t → IsAFile (print_header size ++ rest)
    with-size size rest l true e = (small size rest, (l, ltb-true (little_number 4 size) 4 e), refl)
    with-size size rest l false e =
        let c = chunks-within (suc (length rest)) (body_space size) rest (omega arith) in
        (body size c.before c.end, (l, ltb-false (little_number 4 size) 4 e, c.others, c.ends), ap (λ t. print_header size ++ t) c.whole)

    no-header : begins_webp bytes ≡ false → HasNoHeader bytes
    no-header e size rest l is =
        let k : true ≡ false = sym (begins_webp-append (print_header size) rest (omega (arith, length-append size (codes "WEBP"))) ∙ four-or-not size l) ∙ ap begins_webp (sym is) ∙ e in
        cc

    by-header : (t : Bool) → begins_webp bytes ≡ t → 12 ≤ length bytes → IsAFile bytes
    by-header true e h =
        let size : List ℕ = take 4 (drop 4 bytes) in
        subst IsAFile (sym (header-split bytes e)) (with-size size (drop 12 bytes) (size-len bytes h) (ltb (little_number 4 size) 4) refl)
    by-header false e h = (foreign bytes, (h, no-header e), refl)

    by-len : (t : Bool) → ltb (length bytes) 12 ≡ t → IsAFile bytes
    by-len true e = (short bytes, ltb-true (length bytes) 12 e, refl)
    by-len false e = by-header (begins_webp bytes) refl (ltb-false (length bytes) 12 e)
