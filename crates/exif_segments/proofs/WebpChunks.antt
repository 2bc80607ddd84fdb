-- How the answer of a WebP file follows from its header and its first chunk.
use Rattle.std.proofs.Common.{◌≡◌, ℕ, zero, suc, ◌+◌, ◌-◌, ◌<◌, ◌≤◌, Bool, true, false, cond, eqb, ltb, ◌&&◌, List, ◌++◌, length, take, drop, codes, Option, None, Some, Result, Ok, Err, IfSome, MatchOption, ap, sym, ◌∙◌, refl, subst, arith, length-drop, length-append}
use Rattle.std.specs.Cmp.Lexicographic.{pointwise}
use Rattle.std.proofs.lemmas.Bool.Decides.{nat_tests}
use Rattle.std.proofs.lemmas.Bool.{ltb-false, lt-ltb, le-ltb}
use Rattle.std.proofs.lemmas.List.{take-append-le, drop-append-le, take-append-drop, take_at, drop_at}
use Rattle.std.specs.Io.KnownBytes.{Consumes}
use Rattle.byteorder.specs.Endian.{little_number}
use Rattle.byteorder.specs.Numbers.{little_from-append}
use Rattle.exif_base.specs.Told.{WhereTold, Skips}
use Rattle.exif_types.specs.Failures.{Failure}
use Rattle.exif_types.specs.Refusals.{Refusal, refusal_of, IsInterrupted, Fails}
use Rattle.exif_segments.specs.Answer.{Answer, found, refused, IsCollected, IsShort, offset_before}
use Rattle.exif_types.proofs.Refusing.{fails_along}
use Rattle.exif_segments.specs.WebpSteps.{IsPayload}
use Rattle.exif_segments.specs.Webp.{Chunk, exif, other, broken_webp, not_webp, invalid_file_size, overflowing, no_exif_in_webp, padded, exif_chunk, other_chunk, chunk_body, chunk_at, follow, answer_within, body_answer, begins_webp, sized_answer, webp_answer}

-- the first 12 bytes begin a file
pub begins_webp-append : (header ys : List ℕ) → length header ≡ 12 → begins_webp (header ++ ys) ≡ begins_webp header
begins_webp-append header ys e =
    ap (λ t. pointwise eqb t (codes "RIFF") && pointwise eqb (take 4 (drop 8 (header ++ ys))) (codes "WEBP")) (take-append-le 4 header ys (omega arith))
    ∙ ap (λ t. pointwise eqb (take 4 header) (codes "RIFF") && pointwise eqb (take 4 t) (codes "WEBP")) (drop-append-le 8 header ys (omega arith))
    ∙ ap (λ t. pointwise eqb (take 4 header) (codes "RIFF") && pointwise eqb t (codes "WEBP")) (take-append-le 4 (drop 8 header) ys (omega (arith, length-drop 8 header)))

long : (header ys : List ℕ) → length header ≡ 12 → ltb (length (header ++ ys)) 12 ≡ false
long header ys e = let l = length-append header ys in grind (arith, nat_tests)

-- twelve bytes, and what follows them
pub webp-twelve : (header ys : List ℕ) → length header ≡ 12
    → webp_answer (header ++ ys) ≡ cond (begins_webp header) (sized_answer (little_number 4 (drop 4 header)) ys) (refused not_webp)
webp-twelve header ys e =
    ap (λ t. cond t (refused broken_webp) (cond (begins_webp (header ++ ys)) (sized_answer (little_number 4 (drop 4 (header ++ ys))) (drop 12 (header ++ ys))) (refused not_webp))) (long header ys e)
    ∙ ap (λ t. cond t (sized_answer (little_number 4 (drop 4 (header ++ ys))) (drop 12 (header ++ ys))) (refused not_webp)) (begins_webp-append header ys e)
    ∙ ap (λ t. cond (begins_webp header) (sized_answer t (drop 12 (header ++ ys))) (refused not_webp))
    (ap (little_number 4) (drop-append-le 4 header ys (omega arith)) ∙ little_from-append 4 (drop 4 header) ys (omega (arith, length-drop 4 header)))
    ∙ ap (λ t. cond (begins_webp header) (sized_answer (little_number 4 (drop 4 header)) t) (refused not_webp)) (drop_at header ys 12 e)

-- a file with another header is refused
pub webp_other : (a b : Option (List ℕ)) (header : List ℕ) → length header ≡ 12 → begins_webp header ≡ false → Consumes a b header
    → IfSome a (λ xs. webp_answer xs ≡ refused not_webp)
webp_other None b header e w h = tt
webp_other (Some xs) None header e w h = absurd h
webp_other (Some xs) (Some ys) header e w h =
    ap webp_answer h ∙ webp-twelve header ys e ∙ ap (λ t. cond t (sized_answer (little_number 4 (drop 4 header)) ys) (refused not_webp)) w

-- a size below 4 is refused
pub sized-small : (size : ℕ) (ys : List ℕ) → size < 4 → sized_answer size ys ≡ refused invalid_file_size
sized-small size ys h = grind (arith, nat_tests)

-- a size of 4 or more is that of a body
pub sized-body : (size : ℕ) (ys : List ℕ) → 4 ≤ size → sized_answer size ys ≡ body_answer (size - 4) ys
sized-body size ys h = ap (λ t. cond t (refused invalid_file_size) (body_answer (size - 4) ys)) (not_small size h)
  where
    not_small : (n : ℕ) → 4 ≤ n → ltb n 4 ≡ false
    not_small n h = grind (arith, nat_tests)

-- the header of a WebP file, and what follows it
pub webp-header : (header ys : List ℕ) → length header ≡ 12 → begins_webp header ≡ true → webp_answer (header ++ ys) ≡ sized_answer (little_number 4 (drop 4 header)) ys
webp-header header ys e w =
    webp-twelve header ys e ∙ ap (λ t. cond t (sized_answer (little_number 4 (drop 4 header)) ys) (refused not_webp)) w

-- a file with too small a size is refused
pub webp_small : (a b : Option (List ℕ)) (header : List ℕ) (size : ℕ) → length header ≡ 12 → begins_webp header ≡ true → size ≡ little_number 4 (drop 4 header) → size < 4 → Consumes a b header
    → IfSome a (λ xs. webp_answer xs ≡ refused invalid_file_size)
webp_small None b header size e w s small h = tt
webp_small (Some xs) None header size e w s small h = absurd h
webp_small (Some xs) (Some ys) header size e w s small h =
    ap webp_answer h ∙ webp-header header ys e w ∙ ap (λ t. sized_answer t ys) (sym s) ∙ sized-small size ys small

-- a file with a header is answered as its body
pub webp_body : (a b : Option (List ℕ)) (header : List ℕ) (size : ℕ) → length header ≡ 12 → begins_webp header ≡ true → size ≡ little_number 4 (drop 4 header) → 4 ≤ size → Consumes a b header
    → WhereTold a b (λ xs ys. webp_answer xs ≡ body_answer (size - 4) ys)
webp_body None b header size e w s big h = tt
webp_body (Some xs) None header size e w s big h = absurd h
webp_body (Some xs) (Some ys) header size e w s big h =
    ap webp_answer h ∙ webp-header header ys e w ∙ ap (λ t. sized_answer t ys) (sym s) ∙ sized-body size ys big

-- what is behind a chunk is shorter
other-shorter : (t : Bool) (taken space : ℕ) (bytes : List ℕ) (r : ℕ) (rest : List ℕ)
    → cond t (Err broken_webp) (Ok (other (space - taken) (drop taken bytes))) ≡ Ok (other r rest) → length rest ≤ length bytes
other-shorter true taken space bytes r rest e = absurd (cc)
other-shorter false taken space bytes r rest e =
    let same : drop taken bytes ≡ rest = cc in
    let l : length rest ≡ length bytes - taken = ap length (sym same) ∙ length-drop taken bytes in omega arith

exif-no_other : (t : Bool) (payload left : List ℕ) (r : ℕ) (rest : List ℕ) → cond t (Err broken_webp) (Ok (exif payload left)) ≡ Ok (other r rest) → ⊥
exif-no_other true payload left r rest e = cc
exif-no_other false payload left r rest e = cc

body-shorter : (s t : Bool) (size space : ℕ) (bytes : List ℕ) (r : ℕ) (rest : List ℕ)
    → cond s (Err overflowing) (cond t (exif_chunk size bytes) (other_chunk (padded size space) space bytes)) ≡ Ok (other r rest) → length rest ≤ length bytes
body-shorter true t size space bytes r rest e = absurd (cc)
body-shorter false true size space bytes r rest e = absurd (exif-no_other (ltb (length bytes) size) _ _ r rest e)
body-shorter false false size space bytes r rest e = other-shorter (ltb (length bytes) (padded size space)) (padded size space) space bytes r rest e

at-shorter : (s t u : Bool) (space : ℕ) (bytes : List ℕ) (r : ℕ) (rest : List ℕ) → ltb (length bytes) 8 ≡ u
    → cond s (Err no_exif_in_webp) (cond t (Err overflowing) (cond u (Err broken_webp) (chunk_body (take 4 bytes) (little_number 4 (drop 4 bytes)) (space - 8) (drop 8 bytes)))) ≡ Ok (other r rest) → length rest < length bytes
at-shorter true t u space bytes r rest l e = absurd (cc)
at-shorter false true u space bytes r rest l e = absurd (cc)
at-shorter false false true space bytes r rest l e = absurd (cc)
at-shorter false false false space bytes r rest l e =
    let size = little_number 4 (drop 4 bytes) in
    let h = body-shorter (ltb (space - 8) size) (pointwise eqb (take 4 bytes) (codes "EXIF")) size (space - 8) (drop 8 bytes) r rest e in
    let long : 8 ≤ length bytes = ltb-false (length bytes) 8 l in
    omega (arith, length-drop 8 bytes)

-- a chunk has a byte
pub chunk-shorter : (space : ℕ) (bytes : List ℕ) (r : ℕ) (rest : List ℕ) → chunk_at space bytes ≡ Ok (other r rest) → length rest < length bytes
chunk-shorter space bytes r rest e = at-shorter (eqb space 0) (ltb space 8) (ltb (length bytes) 8) space bytes r rest refl e

-- as many chunks as there are bytes are enough
follow_enough : (n m space : ℕ) (xs : List ℕ) (c : Result Chunk Refusal)
    → ((r : ℕ) (ys : List ℕ) → length ys < n → length ys < m → answer_within n r ys ≡ answer_within m r ys)
    → chunk_at space xs ≡ c → length xs < suc n → length xs < suc m → follow c (answer_within n) ≡ follow c (answer_within m)
follow_enough n m space xs (Ok (exif payload rest)) ih e h k = refl
follow_enough n m space xs (Ok (other r rest)) ih e h k = let l = chunk-shorter space xs r rest e in ih r rest (omega arith) (omega arith)
follow_enough n m space xs (Err r) ih e h k = refl

answer_enough : (n m space : ℕ) (xs : List ℕ) → length xs < n → length xs < m → answer_within n space xs ≡ answer_within m space xs
answer_enough zero m space xs h k = absurd (omega arith)
answer_enough (suc n) zero space xs h k = absurd (omega arith)
answer_enough (suc n) (suc m) space xs h k = follow_enough n m space xs (chunk_at space xs) (answer_enough n m) refl h k

-- the answer is that of the first chunk, or of what follows it
pub body-other : (space : ℕ) (xs : List ℕ) (r : ℕ) (rest : List ℕ) → chunk_at space xs ≡ Ok (other r rest) → body_answer space xs ≡ body_answer r rest
body-other space xs r rest e =
    let l = chunk-shorter space xs r rest e in
    ap (λ c. follow c (answer_within (length xs))) e ∙ answer_enough (length xs) (suc (length rest)) r rest l (omega arith)

-- a chunk with Exif data is the answer
pub body-exif : (space : ℕ) (xs payload rest : List ℕ) → chunk_at space xs ≡ Ok (exif payload rest) → body_answer space xs ≡ found payload rest
body-exif space xs payload rest e = ap (λ c. follow c (answer_within (length xs))) e

-- a chunk that is refused is the refusal of the body
pub body-refused : (space : ℕ) (xs : List ℕ) (r : Refusal) → chunk_at space xs ≡ Err r → body_answer space xs ≡ refused r
body-refused space xs r e = ap (λ c. follow c (answer_within (length xs))) e

-- the loop goes on behind another chunk
pub webp_passed : (a b c : Option (List ℕ)) (space r : ℕ) → WhereTold a b (λ xs ys. webp_answer xs ≡ body_answer space ys) → WhereTold b c (λ xs ys. chunk_at space xs ≡ Ok (other r ys))
    → WhereTold a c (λ xs ys. webp_answer xs ≡ body_answer r ys)
webp_passed None b c space r h k = tt
webp_passed (Some xs) None c space r h k = absurd h
webp_passed (Some xs) (Some ys) None space r h k = absurd k
webp_passed (Some xs) (Some ys) (Some zs) space r h k = h ∙ body-other space ys r zs k

-- a padded payload fits where the payload does
padded-fits : (size space : ℕ) → size ≤ space → padded size space ≤ space
padded-fits size space le = grind (arith, nat_tests)

-- a chunk takes as many bytes as it takes of the body
other-counts : (taken space : ℕ) (bytes : List ℕ) (r : ℕ) (rest : List ℕ) → taken ≤ space
    → other_chunk taken space bytes ≡ Ok (other r rest) → length bytes + r ≡ length rest + space
other-counts taken space bytes r rest le e = go (ltb (length bytes) taken) refl e
  where
    go : (t : Bool) → ltb (length bytes) taken ≡ t
        → cond t (Err broken_webp) (Ok (other (space - taken) (drop taken bytes))) ≡ Ok (other r rest)
        → length bytes + r ≡ length rest + space
    go true l e = absurd (cc)
    go false l e =
        let same : drop taken bytes ≡ rest = cc in
        let left : space - taken ≡ r = cc in
        let long : taken ≤ length bytes = ltb-false (length bytes) taken l in
        let len : length rest ≡ length bytes - taken = ap length (sym same) ∙ length-drop taken bytes in omega arith

body-counts : (s t : Bool) (size space : ℕ) (bytes : List ℕ) (r : ℕ) (rest : List ℕ) → ltb space size ≡ s
    → cond s (Err overflowing) (cond t (exif_chunk size bytes) (other_chunk (padded size space) space bytes)) ≡ Ok (other r rest)
    → length bytes + r ≡ length rest + space
body-counts true t size space bytes r rest l e = absurd (cc)
body-counts false true size space bytes r rest l e = absurd (exif-no_other (ltb (length bytes) size) _ _ r rest e)
body-counts false false size space bytes r rest l e =
    other-counts (padded size space) space bytes r rest (padded-fits size space (ltb-false space size l)) e

at-counts : (s t u : Bool) (space : ℕ) (bytes : List ℕ) (r : ℕ) (rest : List ℕ) → ltb space 8 ≡ t → ltb (length bytes) 8 ≡ u
    → cond s (Err no_exif_in_webp) (cond t (Err overflowing) (cond u (Err broken_webp) (chunk_body (take 4 bytes) (little_number 4 (drop 4 bytes)) (space - 8) (drop 8 bytes)))) ≡ Ok (other r rest)
    → length bytes + r ≡ length rest + space
at-counts true t u space bytes r rest k l e = absurd (cc)
at-counts false true u space bytes r rest k l e = absurd (cc)
at-counts false false true space bytes r rest k l e = absurd (cc)
at-counts false false false space bytes r rest k l e =
    let size = little_number 4 (drop 4 bytes) in
    let h = body-counts (ltb (space - 8) size) (pointwise eqb (take 4 bytes) (codes "EXIF")) size (space - 8) (drop 8 bytes) r rest refl e in
    let long : 8 ≤ length bytes = ltb-false (length bytes) 8 l in
    let roomy : 8 ≤ space = ltb-false space 8 k in
    omega (arith, length-drop 8 bytes)

-- a chunk that is passed takes as many bytes of the file as of the body
pub chunk-counts : (space : ℕ) (bytes : List ℕ) (r : ℕ) (rest : List ℕ) → chunk_at space bytes ≡ Ok (other r rest) → length bytes + r ≡ length rest + space
chunk-counts space bytes r rest e = at-counts (eqb space 0) (ltb space 8) (ltb (length bytes) 8) space bytes r rest refl refl e

other-no_exif : (t : Bool) (space : ℕ) (left payload rest : List ℕ) → cond t (Err broken_webp) (Ok (other space left)) ≡ Ok (exif payload rest) → ⊥
other-no_exif true space left payload rest e = cc
other-no_exif false space left payload rest e = cc

exif-counts : (size : ℕ) (bytes payload rest : List ℕ) → exif_chunk size bytes ≡ Ok (exif payload rest) → length bytes ≡ length payload + length rest
exif-counts size bytes payload rest e = go (ltb (length bytes) size) e
  where
    go : (t : Bool) → cond t (Err broken_webp) (Ok (exif (take size bytes) (drop size bytes))) ≡ Ok (exif payload rest)
        → length bytes ≡ length payload + length rest
    go true e = absurd (cc)
    go false e =
        let p : take size bytes ≡ payload = cc in
        let q : drop size bytes ≡ rest = cc in
        ap length (sym (take-append-drop size bytes)) ∙ length-append (take size bytes) (drop size bytes)
        ∙ ap (λ t. length t + length (drop size bytes)) p ∙ ap (λ t. length payload + length t) q

at-payload : (s t u v w : Bool) (space : ℕ) (bytes payload rest : List ℕ) → ltb (length bytes) 8 ≡ u
    → cond s (Err no_exif_in_webp) (cond t (Err overflowing) (cond u (Err broken_webp) (cond v (Err overflowing)
    (cond w (exif_chunk (little_number 4 (drop 4 bytes)) (drop 8 bytes)) (other_chunk (padded (little_number 4 (drop 4 bytes)) (space - 8)) (space - 8) (drop 8 bytes)))))) ≡ Ok (exif payload rest)
    → length bytes ≡ 8 + length payload + length rest
at-payload true t u v w space bytes payload rest l e = absurd (cc)
at-payload false true u v w space bytes payload rest l e = absurd (cc)
at-payload false false true v w space bytes payload rest l e = absurd (cc)
at-payload false false false true w space bytes payload rest l e = absurd (cc)
at-payload false false false false true space bytes payload rest l e =
    let h = exif-counts (little_number 4 (drop 4 bytes)) (drop 8 bytes) payload rest e in
    let long : 8 ≤ length bytes = ltb-false (length bytes) 8 l in omega (arith, length-drop 8 bytes)
at-payload false false false false false space bytes payload rest l e =
    absurd (other-no_exif (ltb (length (drop 8 bytes)) (padded (little_number 4 (drop 4 bytes)) (space - 8))) _ _ payload rest e)

-- a chunk of Exif data is its header, the payload and what follows
pub payload-counts : (space : ℕ) (bytes payload rest : List ℕ) → chunk_at space bytes ≡ Ok (exif payload rest) → length bytes ≡ 8 + length payload + length rest
payload-counts space bytes payload rest e =
    at-payload (eqb space 0) (ltb space 8) (ltb (length bytes) 8) (ltb (space - 8) (little_number 4 (drop 4 bytes)))
    (pointwise eqb (take 4 bytes) (codes "EXIF")) space bytes payload rest refl e

-- the loop counts the bytes that it takes by what is left of the body
pub webp_counted : (a b c : Option (List ℕ)) (body space r : ℕ) → WhereTold a b (λ xs ys. length xs + space ≡ 12 + body + length ys)
    → WhereTold b c (λ xs ys. chunk_at space xs ≡ Ok (other r ys)) → WhereTold a c (λ xs ys. length xs + r ≡ 12 + body + length ys)
webp_counted None b c body space r h k = tt
webp_counted (Some xs) None c body space r h k = absurd h
webp_counted (Some xs) (Some ys) None body space r h k = absurd k
webp_counted (Some xs) (Some ys) (Some zs) body space r h k = let l = chunk-counts space ys r zs k in omega arith

-- the payload, and where it is
pub webp_located : (payload : List ℕ) (a b c : Option (List ℕ)) (body space : ℕ) → space ≤ body
    → WhereTold a b (λ xs ys. webp_answer xs ≡ body_answer space ys) → WhereTold a b (λ xs ys. length xs + space ≡ 12 + body + length ys)
    → WhereTold b c (λ xs ys. chunk_at space xs ≡ Ok (exif payload ys))
    → WhereTold a c (λ xs ys. (webp_answer xs ≡ found payload ys) × (body - space + 20 ≡ offset_before xs payload ys))
webp_located payload None b c body space le h p k = tt
webp_located payload (Some xs) None c body space le h p k = absurd h
webp_located payload (Some xs) (Some ys) None body space le h p k = absurd k
webp_located payload (Some xs) (Some ys) (Some zs) body space le h p k =
    (h ∙ body-exif space ys payload zs k, (let l = payload-counts space ys payload zs k in omega arith))

-- a failure at a chunk is a failure of the file
fails_body : (e : Failure) (space : ℕ) (ys : List ℕ) → Fails e (chunk_at space ys) → Fails e (body_answer space ys)
fails_body e space ys = fails_along e (λ c. follow c (answer_within (length ys))) (chunk_at space ys) (λ r. refl)

-- a chunk that fails is the failure of the file
pub webp_fails : (e : Failure) (a b : Option (List ℕ)) (space : ℕ) → WhereTold a b (λ xs ys. webp_answer xs ≡ body_answer space ys)
    → IfSome b (λ ys. Fails e (chunk_at space ys)) → IfSome a (λ xs. Fails e (webp_answer xs))
webp_fails e None b space h k = tt
webp_fails e (Some xs) None space h k = absurd h
webp_fails e (Some xs) (Some ys) space h k = rw h (fails_body e space ys k)

-- a chunk whose payload is collected
payload-collected : (c : Result Chunk Refusal) (next : ℕ → List ℕ → Answer) → IsPayload c → IsCollected broken_webp (follow c next)
payload-collected (Ok (exif payload rest)) next h = tt
payload-collected (Ok (other space bytes)) next h = absurd h
payload-collected (Err r) next h = h

-- out of memory in a chunk: its payload is collected
pub webp_collects : (a b : Option (List ℕ)) (space : ℕ) → WhereTold a b (λ xs ys. webp_answer xs ≡ body_answer space ys)
    → IfSome b (λ ys. IsPayload (chunk_at space ys)) → IfSome a (λ xs. IsCollected broken_webp (webp_answer xs))
webp_collects None b space h k = tt
webp_collects (Some xs) None space h k = absurd h
webp_collects (Some xs) (Some ys) space h k = rw h (payload-collected (chunk_at space ys) (answer_within (length ys)) k)

-- a body that is used up holds no Exif data
pub webp_used_up : (a b : Option (List ℕ)) (space : ℕ) → space ≡ 0 → WhereTold a b (λ xs ys. webp_answer xs ≡ body_answer space ys) → IfSome a (λ xs. webp_answer xs ≡ refused no_exif_in_webp)
webp_used_up None b space z h = tt
webp_used_up (Some xs) None space z h = absurd h
webp_used_up (Some xs) (Some ys) space z h = h ∙ ap (λ t. body_answer t ys) z

-- ---- what follows the header of a chunk

-- a chunk that fits, by its name
abbrev by_name : Bool → ℕ → ℕ → List ℕ → Result Chunk Refusal
by_name t size space xs = cond t (exif_chunk size xs) (other_chunk (padded size space) space xs)

fits : (t : Bool) (name : List ℕ) (size space : ℕ) (xs : List ℕ) → size ≤ space → t ≡ pointwise eqb name (codes "EXIF")
    → chunk_body name size space xs ≡ by_name t size space xs
fits t name size space xs h e =
    ap (λ s. cond s (Err overflowing) (by_name (pointwise eqb name (codes "EXIF")) size space xs)) (le-ltb space size h)
    ∙ ap (λ s. by_name s size space xs) (sym e)

-- a chunk that does not fit is refused
pub chunk_over : (a : Option (List ℕ)) (name : List ℕ) (size space : ℕ) → space < size
    → IfSome a (λ xs. chunk_body name size space xs ≡ Err overflowing)
chunk_over None name size space h = tt
chunk_over (Some xs) name size space h =
    ap (λ s. cond s (Err overflowing) (by_name (pointwise eqb name (codes "EXIF")) size space xs)) (lt-ltb space size h)

exif_whole : (v ys : List ℕ) (size : ℕ) → length v ≡ size → exif_chunk size (v ++ ys) ≡ Ok (exif v ys)
exif_whole v ys size l =
    ap (λ t. cond t (Err broken_webp) (Ok (exif (take size (v ++ ys)) (drop size (v ++ ys)))))
    (le-ltb (length (v ++ ys)) size (omega (arith, length-append v ys)))
    ∙ ap (λ t. Ok (exif t (drop size (v ++ ys)))) (take_at v ys size l) ∙ ap (λ t. Ok (exif v t)) (drop_at v ys size l)

-- a payload of Exif data that was collected
pub chunk_exif : (a b : Option (List ℕ)) (name v : List ℕ) (size space : ℕ) → size ≤ space
    → true ≡ pointwise eqb name (codes "EXIF") → length v ≡ size → Consumes a b v
    → WhereTold a b (λ xs ys. chunk_body name size space xs ≡ Ok (exif v ys))
chunk_exif None b name v size space h e l k = tt
chunk_exif (Some xs) None name v size space h e l k = absurd k
chunk_exif (Some xs) (Some ys) name v size space h e l k = fits true name size space xs h e ∙ ap (exif_chunk size) k
    ∙ exif_whole v ys size l

-- another payload that was skipped with its pad byte
pub chunk_other : (a b : Option (List ℕ)) (name : List ℕ) (size space taken : ℕ) → size ≤ space
    → false ≡ pointwise eqb name (codes "EXIF") → taken ≡ padded size space → Skips a b taken
    → WhereTold a b (λ xs ys. chunk_body name size space xs ≡ Ok (other (space - taken) ys))
chunk_other None b name size space taken h e p k = tt
chunk_other (Some xs) None name size space taken h e p k = absurd k
chunk_other (Some xs) (Some ys) name size space taken h e p k =
    fits false name size space xs h e ∙ ap (λ n. other_chunk n space xs) (sym p)
    ∙ ap (λ t. cond t (Err broken_webp) (Ok (other (space - taken) (drop taken xs)))) (le-ltb (length xs) taken k.0)
    ∙ ap (λ t. Ok (other (space - taken) t)) (sym k.1)

ends : (e : Failure) (a : Option (List ℕ)) (P : List ℕ → Type 0) (f : List ℕ → Result Chunk Refusal)
    → ((xs : List ℕ) → P xs → f xs ≡ Err broken_webp)
    → IsShort broken_webp e a P → IfSome a (λ xs. Fails e (f xs))
ends e None P f s h = tt
ends e (Some xs) P f s h = by (refusal_of e) h
  where
    by : (o : Option Refusal) → MatchOption o (IsInterrupted e) (λ r. (r ≡ broken_webp) × P xs)
        → MatchOption o (IsInterrupted e) (λ r. f xs ≡ Err r)
    by None h = h
    by (Some r) h = s xs h.1 ∙ ap (λ t. Err t) (sym h.0)

-- a payload of Exif data that is cut
pub exif_short : (e : Failure) (a : Option (List ℕ)) (name : List ℕ) (size space : ℕ) → size ≤ space
    → true ≡ pointwise eqb name (codes "EXIF")
    → IsShort broken_webp e a (λ xs. length xs < size) → IfSome a (λ xs. Fails e (chunk_body name size space xs))
exif_short e a name size space h n =
    ends e a (λ xs. length xs < size) (chunk_body name size space)
    (λ xs l. fits true name size space xs h n
    ∙ ap (λ t. cond t (Err broken_webp) (Ok (exif (take size xs) (drop size xs)))) (lt-ltb (length xs) size l))

-- another payload that is cut
pub other_short : (e : Failure) (a : Option (List ℕ)) (name : List ℕ) (size space taken : ℕ) → size ≤ space
    → false ≡ pointwise eqb name (codes "EXIF") → taken ≡ padded size space
    → IsShort broken_webp e a (λ xs. length xs < taken) → IfSome a (λ xs. Fails e (chunk_body name size space xs))
other_short e a name size space taken h n p =
    ends e a (λ xs. length xs < taken) (chunk_body name size space)
    (λ xs l. fits false name size space xs h n ∙ ap (λ n. other_chunk n space xs) (sym p)
    ∙ ap (λ t. cond t (Err broken_webp) (Ok (other (space - taken) (drop taken xs)))) (lt-ltb (length xs) taken l))

-- where a chunk is named as Exif data are, its payload is collected
pub exif_collects : (a : Option (List ℕ)) (name : List ℕ) (size space : ℕ) → size ≤ space
    → true ≡ pointwise eqb name (codes "EXIF") → IfSome a (λ xs. IsPayload (chunk_body name size space xs))
exif_collects None name size space h e = tt
exif_collects (Some xs) name size space h e = subst IsPayload (sym (fits true name size space xs h e))
    (by (ltb (length xs) size))
  where
    by : (t : Bool) → IsPayload (cond t (Err broken_webp) (Ok (exif (take size xs) (drop size xs))))
    by true = refl
    by false = tt
