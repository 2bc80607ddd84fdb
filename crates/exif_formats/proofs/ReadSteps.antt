-- What reads at the front of a box say of it.
use Rattle.std.proofs.Common.{◌≡◌, ℕ, ◌+◌, ◌-◌, ◌≤◌, Bool, true, false, cond, ltb, List, [], ◌∷◌, ◌++◌, length, take, drop, codes, Option, None, Some, Result, Ok, Err, IfSome, ap, sym, ◌∙◌, refl, subst, arith, length-drop, length-append}
use Rattle.std.specs.Str.{bytes_eq}
use Rattle.std.specs.Io.KnownBytes.{Consumes}
use Rattle.std.proofs.lemmas.Bool.{ne_eqb, le-ltb}
use Rattle.std.proofs.lemmas.List.{take_at, take_all, drop_at, drop-take, drop-drop, take-append-le, drop-append-le, length-take-le}
use Rattle.std.proofs.Math.Seq.{take-append-add, drop-append-add}
use Rattle.byteorder.specs.Endian.{ReadsNumber, big_number}
use Rattle.byteorder.specs.Numbers.{big_from-append, big_from-take}
use Rattle.exif_base.specs.Told.{WhereTold, Skips}
use Rattle.exif_types.specs.Failures.{Failure}
use Rattle.exif_types.specs.Refusals.{Refusal, Fails}
use Rattle.exif_segments.specs.Answer.{refused}
use Rattle.exif_formats.specs.Jxl.{Box, exif, other, broken_jxl, not_jxl, compressed_exif, no_exif_in_jxl, before_tiff, exif_box, brotli_box, sized_box, large_box, headed_box, box_at, begins_codestream, begins_jxl, boxes_answer, max_boxes, signature, jxl_answer}
use Rattle.exif_formats.specs.JxlSteps.{IsCollected, whole_exif, whole_brotli}

-- ---- what a definition says of the bytes before a read, another one says of those behind it

pub told_fails : (e : Failure) (a b : Option (List ℕ)) (f g : List ℕ → Result Box Refusal) → WhereTold a b (λ xs ys. f xs ≡ g ys)
    → IfSome b (λ ys. Fails e (g ys)) → IfSome a (λ xs. Fails e (f xs))
told_fails e None b f g w h = tt
told_fails e (Some xs) None f g w h = absurd w
told_fails e (Some xs) (Some ys) f g w h = let P : Result Box Refusal → Type 0 = λ t. Fails e t in subst P (sym w) h

pub told_collected : (a b : Option (List ℕ)) (f g : List ℕ → Result Box Refusal) → WhereTold a b (λ xs ys. f xs ≡ g ys)
    → IfSome b (λ ys. IsCollected (g ys)) → IfSome a (λ xs. IsCollected (f xs))
told_collected None b f g w h = tt
told_collected (Some xs) None f g w h = absurd w
told_collected (Some xs) (Some ys) f g w h = subst IsCollected (sym w) h

pub told_next : (a b c : Option (List ℕ)) (f g h : List ℕ → Result Box Refusal) → WhereTold a b (λ xs ys. f xs ≡ g ys)
    → WhereTold b c (λ ys zs. g ys ≡ h zs) → WhereTold a c (λ xs zs. f xs ≡ h zs)
told_next None b c f g h w k = tt
told_next (Some xs) None c f g h w k = absurd w
told_next (Some xs) (Some ys) None f g h w k = absurd k
told_next (Some xs) (Some ys) (Some zs) f g h w k = w ∙ k

-- ---- the body of `brob`

pub brotli-held : (held ys rest : List ℕ) (t : Bool) → length held ≡ 4 → t ≡ bytes_eq held (codes "Exif")
    → brotli_box (held ++ ys) rest ≡ cond t (Err compressed_exif) (Ok (other rest))
brotli-held held ys rest t l e =
    ap (λ s. cond s (Err broken_jxl) (cond (bytes_eq (take 4 (held ++ ys)) (codes "Exif")) (Err compressed_exif) (Ok (other rest)))) (le-ltb (length (held ++ ys)) 4 (omega (arith, length-append held ys)))
    ∙ ap (λ h. cond (bytes_eq h (codes "Exif")) (Err compressed_exif) (Ok (other rest))) (take_at held ys 4 l)
    ∙ ap (λ s. cond s (Err compressed_exif) (Ok (other rest))) (sym e)

brotli-whole : (held ys : List ℕ) (len : ℕ) (t : Bool) → length held ≡ 4 → 4 ≤ len → len - 4 ≤ length ys → t ≡ bytes_eq held (codes "Exif")
    → whole_brotli len (held ++ ys) ≡ cond t (Err compressed_exif) (Ok (other (drop (len - 4) ys)))
brotli-whole held ys len t l least fits e =
    let sum : len ≡ length held + (len - 4) = omega arith in
    ap (λ s. cond s (Err broken_jxl) (brotli_box (take len (held ++ ys)) (drop len (held ++ ys)))) (le-ltb (length (held ++ ys)) len (omega (arith, length-append held ys)))
    ∙ ap (λ h. brotli_box h (drop len (held ++ ys))) (ap (λ n. take n (held ++ ys)) sum ∙ take-append-add held ys (len - 4))
    ∙ ap (λ r. brotli_box (held ++ take (len - 4) ys) r) (ap (λ n. drop n (held ++ ys)) sum ∙ drop-append-add held ys (len - 4))
    ∙ brotli-held held (take (len - 4) ys) (drop (len - 4) ys) t l e

-- a type was read, and what it holds was skipped
pub brotli_read : (a b c : Option (List ℕ)) (held : List ℕ) (len : ℕ) (t : Bool) → length held ≡ 4 → 4 ≤ len → Consumes a b held → Skips b c (len - 4)
    → t ≡ bytes_eq held (codes "Exif") → WhereTold a c (λ xs ys. whole_brotli len xs ≡ cond t (Err compressed_exif) (Ok (other ys)))
brotli_read None b c held len t l least r s e = tt
brotli_read (Some xs) None c held len t l least r s e = absurd r
brotli_read (Some xs) (Some ys) None held len t l least r s e = absurd s
brotli_read (Some xs) (Some ys) (Some zs) held len t l least r s e =
    ap (whole_brotli len) r ∙ brotli-whole held ys len t l least s.0 e ∙ ap (λ q. cond t (Err compressed_exif) (Ok (other q))) (sym s.1)

-- the same of compressed Exif data
pub brotli_refused : (a b c : Option (List ℕ)) (held : List ℕ) (len : ℕ) → length held ≡ 4 → 4 ≤ len → Consumes a b held → Skips b c (len - 4)
    → true ≡ bytes_eq held (codes "Exif") → IfSome a (λ xs. whole_brotli len xs ≡ Err compressed_exif)
brotli_refused None b c held len l least r s e = tt
brotli_refused (Some xs) None c held len l least r s e = absurd r
brotli_refused (Some xs) (Some ys) None held len l least r s e = absurd s
brotli_refused (Some xs) (Some ys) (Some zs) held len l least r s e = brotli_read (Some xs) (Some ys) (Some zs) held len true l least r s e

-- a type was read, and the rest is the body
pub brotli_over : (a b : Option (List ℕ)) (held : List ℕ) → length held ≡ 4 → Consumes a b held → false ≡ bytes_eq held (codes "Exif")
    → IfSome a (λ xs. brotli_box xs [] ≡ Ok (other []))
brotli_over None b held l r e = tt
brotli_over (Some xs) None held l r e = absurd r
brotli_over (Some xs) (Some ys) held l r e = ap (λ t. brotli_box t []) r ∙ brotli-held held ys [] false l e

-- ---- the body of `Exif`

pub exif-part : (body rest v : List ℕ) (n : ℕ) → before_tiff body ≡ n → n ≤ length body → drop n body ≡ v → exif_box body rest ≡ Ok (exif v rest)
exif-part body rest v n b l d =
    ap (λ s. cond s (Err broken_jxl) (Ok (exif (drop (before_tiff body) body) rest))) (le-ltb (length body) (before_tiff body) (omega arith))
    ∙ ap (λ k. Ok (exif (drop k body) rest)) b ∙ ap (λ t. Ok (exif t rest)) d

exif-whole : (xs v ws : List ℕ) (len n : ℕ) → 4 ≤ len → n ≤ len → len ≤ length xs → n ≡ before_tiff xs → drop n xs ≡ v ++ ws → length v ≡ len - n
    → whole_exif len xs ≡ Ok (exif v ws)
exif-whole xs v ws len n four least fits o d l =
    let sum : len ≡ n + length v = omega arith in
    ap (λ s. cond s (Err broken_jxl) (exif_box (take len xs) (drop len xs))) (le-ltb (length xs) len fits)
    ∙ exif-part (take len xs) (drop len xs) v n
    (ap (λ k. 4 + k) (big_from-take 0 4 len xs four) ∙ sym o)
    (let t = length-take-le len xs fits in omega arith)
    (ap (λ k. drop n (take k xs)) sum ∙ drop-take n (length v) xs ∙ ap (take (length v)) d ∙ take_at v ws (length v) refl)
    ∙ ap (λ r. Ok (exif v r)) (ap (λ k. drop k xs) sum ∙ sym (drop-drop (length v) n xs) ∙ ap (drop (length v)) d ∙ drop_at v ws (length v) refl)

-- the offset was read, what comes before the TIFF data skipped, and these collected
pub exif_read : (a b c d : Option (List ℕ)) (v : List ℕ) (len o : ℕ) → 4 ≤ len → o ≤ len - 4 → ReadsNumber big_number 4 a b o → Skips b c o → Consumes c d v
    → length v ≡ len - 4 - o → WhereTold a d (λ xs ys. whole_exif len xs ≡ Ok (exif v ys))
exif_read None b c d v len o four least r s k l = tt
exif_read (Some xs) None c d v len o four least r s k l = absurd r
exif_read (Some xs) (Some ys) None d v len o four least r s k l = absurd s
exif_read (Some xs) (Some ys) (Some zs) None v len o four least r s k l = absurd k
exif_read (Some xs) (Some ys) (Some zs) (Some ws) v len o four least r s k l =
    let behind : drop (4 + o) xs ≡ v ++ ws = sym (drop-drop o 4 xs) ∙ ap (drop o) (sym r.2) ∙ sym s.1 ∙ k in
    let ys-len : length ys ≡ length xs - 4 = ap length r.2 ∙ length-drop 4 xs in
    let zs-len : length zs ≡ length ys - o = ap length s.1 ∙ length-drop o ys in
    let long : length zs ≡ length v + length ws = ap length k ∙ length-append v ws in
    let four_there : 4 ≤ length xs = r.0 in
    let o_there : o ≤ length ys = s.0 in
    exif-whole xs v ws len (4 + o) four (omega arith) (omega arith) (ap (λ n. 4 + n) r.1) behind (omega arith)

-- ---- a size of eight bytes

pub large-behind : (name buf ys : List ℕ) → length buf ≡ 8 → large_box name (buf ++ ys) ≡ sized_box 16 (big_number 8 buf) name ys
large-behind name buf ys l =
    ap (λ s. cond s (Err broken_jxl) (sized_box 16 (big_number 8 (buf ++ ys)) name (drop 8 (buf ++ ys)))) (le-ltb (length (buf ++ ys)) 8 (omega (arith, length-append buf ys)))
    ∙ ap (λ n. sized_box 16 n name (drop 8 (buf ++ ys))) (big_from-append 8 buf ys (omega arith))
    ∙ ap (λ t. sized_box 16 (big_number 8 buf) name t) (drop_at buf ys 8 l)

-- ---- the header of a box

pub header-behind : (buf ys : List ℕ) → 8 ≤ length buf → box_at (buf ++ ys) ≡ headed_box (big_number 4 buf) (take 4 (drop 4 buf)) (drop 8 buf ++ ys)
header-behind buf ys l =
    let len = length-append buf ys in
    let all : List ℕ = buf ++ ys in
    ap (λ s. cond s (Err no_exif_in_jxl) (cond (ltb (length all) 8) (Err broken_jxl) (headed_box (big_number 4 all) (take 4 (drop 4 all)) (drop 8 all)))) (ne_eqb (length all) 0 (λ z. omega arith))
    ∙ ap (λ s. cond s (Err broken_jxl) (headed_box (big_number 4 all) (take 4 (drop 4 all)) (drop 8 all))) (le-ltb (length all) 8 (omega arith))
    ∙ ap (λ n. headed_box n (take 4 (drop 4 all)) (drop 8 all)) (big_from-append 4 buf ys (omega arith))
    ∙ ap (λ t. headed_box (big_number 4 buf) (take 4 t) (drop 8 all)) (drop-append-le 4 buf ys (omega arith))
    ∙ ap (λ t. headed_box (big_number 4 buf) t (drop 8 all)) (take-append-le 4 (drop 4 buf) ys (omega (arith, length-drop 4 buf)))
    ∙ ap (λ t. headed_box (big_number 4 buf) (take 4 (drop 4 buf)) t) (drop-append-le 8 buf ys l)

-- ---- the signature of a file

foreign-behind : (buf ys : List ℕ) → length buf ≡ 12 → begins_codestream buf ≡ false → begins_jxl buf ≡ false → jxl_answer (buf ++ ys) ≡ refused not_jxl
foreign-behind buf ys l c s =
    let all : List ℕ = buf ++ ys in
    let two : take 2 (buf ++ ys) ≡ take 2 buf = take-append-le 2 buf ys (omega arith) in
    let twelve : take 12 (buf ++ ys) ≡ take 12 buf = take-append-le 12 buf ys (omega arith) in
    ap (λ t. cond (bytes_eq t (0xff ∷ 0x0a ∷ [])) (refused no_exif_in_jxl) (cond (ltb (length all) 12) (refused broken_jxl) (cond (begins_jxl all) (boxes_answer max_boxes (drop 12 all)) (refused not_jxl)))) two
    ∙ ap (λ t. cond t (refused no_exif_in_jxl) (cond (ltb (length all) 12) (refused broken_jxl) (cond (begins_jxl all) (boxes_answer max_boxes (drop 12 all)) (refused not_jxl)))) c
    ∙ ap (λ t. cond t (refused broken_jxl) (cond (begins_jxl all) (boxes_answer max_boxes (drop 12 all)) (refused not_jxl))) (le-ltb (length all) 12 (omega (arith, length-append buf ys)))
    ∙ ap (λ t. cond (bytes_eq t signature) (boxes_answer max_boxes (drop 12 all)) (refused not_jxl)) twelve
    ∙ ap (λ t. cond t (boxes_answer max_boxes (drop 12 all)) (refused not_jxl)) s

-- twelve bytes that are no signature
pub foreign_read : (a b : Option (List ℕ)) (buf : List ℕ) (n : ℕ) → length buf ≡ 12 → 12 ≤ n → Consumes a b (take n buf) → begins_codestream (take n buf) ≡ false → begins_jxl buf ≡ false
    → IfSome a (λ xs. jxl_answer xs ≡ refused not_jxl)
foreign_read None b buf n l whole r c s = tt
foreign_read (Some xs) None buf n l whole r c s = absurd r
foreign_read (Some xs) (Some ys) buf n l whole r c s =
    let all : take n buf ≡ buf = take_all n buf (omega arith) in
    ap jxl_answer (r ∙ ap (λ t. t ++ ys) all) ∙ foreign-behind buf ys l (ap begins_codestream (sym all) ∙ c) s
