-- A picture's first bytes, and what follows them.
use Rattle.std.proofs.Common.{◌≡◌, ◌<◌, ◌≤◌, ◌++◌, ◌∙◌, ℕ, min, Bool, true, false, ◌||◌, cond, List, [], length, take, drop, codes, Option, None, Some, Result, IfSome, refl, ap, sym, subst, arith}
use Rattle.std.proofs.lemmas.Grind.{common_steps}
use Rattle.std.proofs.lemmas.List.{length-take-le, take_min}
use Rattle.std.proofs.lemmas.Slice.Eq.{bytes_eq-Decides}
use Rattle.std.specs.Io.KnownBytes.{Consumes, IsAtEnd, prepend_known}
use Rattle.std.specs.Str.{bytes_eq}
use Rattle.exif_types.specs.Contents.{ExifContents}
use Rattle.exif_types.specs.Failures.{Failure}
use Rattle.exif_tiff.specs.Answers.{Answer}
use Rattle.exif_containers.specs.Container as container
use Rattle.exif_containers.specs.GoingBack.{BeginsAt}
use Rattle.exif_containers.specs.declared.container.Format.{Format}
use Rattle.exif_containers.proofs.ContainerSteps.{begins_there, head-first}
use Rattle.exif_containers.specs.Png.{begins_png}
use Rattle.exif_formats.specs.Cr3.{begins_cr3}
use Rattle.exif_formats.specs.Raf.{begins_raf}
use Rattle.exif_formats.specs.Formats.{begins_jpeg_xl, begins_orf, begins_rw2, format_in, known_or, other_format_in}
use Rattle.exif_formats.specs.Magic.{as_tiff, tiff_signature}
use Rattle.exif_formats.specs.Pictures.{ReadsAsFormat, ReadsBy, as_read, is_other_tiff, origin_for}
use Rattle.exif_formats.specs.declared.format.PictureFormat.{PictureFormat}
use Rattle.exif_formats.specs.declared.format.PictureFormat.TheVariants.{Png, JpegXl, Raf, Orf, Rw2, Cr3}

-- ---- raw files that are TIFF data have four bytes

never : {P : Type 0} → false ≡ true → P
never e = cc

front_long : (s text : List ℕ) → length text ≡ 4 → bytes_eq (take 4 s) text ≡ true → 4 ≤ length s
front_long s text l e =
    let same : take 4 s ≡ text = (bytes_eq-Decides (take 4 s) text).0 e in
    let long : length (take 4 s) ≡ 4 = ap length same ∙ l in
    grind (arith, common_steps)

either : (P : Type 0) (a b : Bool) → (a ≡ true → P) → (b ≡ true → P) → (a || b) ≡ true → P
either P true b f g e = f refl
either P false b f g e = g e

orf_long : (s : List ℕ) → begins_orf s ≡ true → 4 ≤ length s
orf_long s e =
    either (4 ≤ length s) (bytes_eq (take 4 s) (codes "IIRO") || bytes_eq (take 4 s) (codes "IIRS")) (bytes_eq (take 4 s) (codes "MMOR"))
    (λ h. either (4 ≤ length s) (bytes_eq (take 4 s) (codes "IIRO")) (bytes_eq (take 4 s) (codes "IIRS"))
    (front_long s (codes "IIRO") refl) (front_long s (codes "IIRS") refl) h)
    (front_long s (codes "MMOR") refl) e

other_by : (P : Type 0) (p j r o w c : Bool) → (o ≡ true → P) → (w ≡ true → P)
    → is_other_tiff (cond p (Some Png) (cond j (Some JpegXl) (cond r (Some Raf) (cond o (Some Orf) (cond w (Some Rw2) (cond c (Some Cr3) None)))))) ≡ true → P
other_by P true j r o w c f g e = never e
other_by P false true r o w c f g e = never e
other_by P false false true o w c f g e = never e
other_by P false false false true w c f g e = f refl
other_by P false false false false true c f g e = g refl
other_by P false false false false false true f g e = never e
other_by P false false false false false false f g e = never e

other_long : (s : List ℕ) → is_other_tiff (other_format_in s) ≡ true → 4 ≤ length s
unfolding other_format_in
other_long s e =
    other_by (4 ≤ length s) (begins_png s) (begins_jpeg_xl s) (begins_raf s) (begins_orf s) (begins_rw2 s) (begins_cr3 s)
    (orf_long s) (front_long s (codes "IIU\0") refl) e

known_long : (s : List ℕ) (f : Option Format) → is_other_tiff (known_or f (other_format_in s)) ≡ true → 4 ≤ length s
known_long s (Some f) e = never e
known_long s None e = other_long s e

-- the same of the format of a file
pub other_tiff_long : (s : List ℕ) → is_other_tiff (format_in s) ≡ true → 4 ≤ length s
unfolding format_in
other_tiff_long s e = known_long s (container.format_in s) e

-- ---- the front as it is read, and what follows

tiff_on : (xs ys : List ℕ) → 4 ≤ length xs → as_tiff xs ++ ys ≡ as_tiff (xs ++ ys)
tiff_on xs ys h =
    let one : take 1 (xs ++ ys) ≡ take 1 xs = grind (arith, common_steps) in
    let rest : drop 4 (xs ++ ys) ≡ drop 4 xs ++ ys = grind (arith, common_steps) in
    let by : (front : List ℕ) → (cond (bytes_eq front (codes "M")) (codes "MM\0*") (codes "II*\0") ++ drop 4 xs) ++ ys ≡ cond (bytes_eq front (codes "M")) (codes "MM\0*") (codes "II*\0") ++ (drop 4 xs ++ ys) = λ front. grind (arith, common_steps) in
    by (take 1 xs)
    ∙ ap (λ front. cond (bytes_eq front (codes "M")) (codes "MM\0*") (codes "II*\0") ++ (drop 4 xs ++ ys)) (sym one)
    ∙ ap (λ behind. tiff_signature (xs ++ ys) ++ behind) (sym rest)

read_on : (format : Option PictureFormat) (b : Bool) (xs ys : List ℕ) → (b ≡ true → 4 ≤ length xs)
    → cond b (as_tiff xs) xs ++ ys ≡ cond b (as_tiff (xs ++ ys)) (xs ++ ys)
read_on format true xs ys h = tiff_on xs ys (h refl)
read_on format false xs ys h = refl

tiff_length : (big : Bool) (xs : List ℕ) → 4 ≤ length xs → length (cond big (codes "MM\0*") (codes "II*\0") ++ drop 4 xs) ≡ length xs
tiff_length true xs h = grind (arith, common_steps)
tiff_length false xs h = grind (arith, common_steps)

read_length : (b : Bool) (xs : List ℕ) → (b ≡ true → 4 ≤ length xs) → length (cond b (as_tiff xs) xs) ≡ length xs
read_length true xs h = tiff_length (bytes_eq (take 1 xs) (codes "M")) xs (h refl)
read_length false xs h = refl

take_front : (n : ℕ) (front rest : List ℕ) → length front ≡ n → take n (front ++ rest) ≡ front
take_front n front rest e = grind (arith, common_steps)

-- such a front is whole in its block
pub front_made : (n : ℕ) (block front rest : List ℕ) (format : Option PictureFormat) → n ≤ length block → format ≡ format_in (take n block) → front ≡ as_read format (take n block)
    → take n (front ++ rest) ≡ front
front_made n block front rest format bound e made =
    take_front n front rest
    (ap length made
    ∙ read_length (is_other_tiff format) (take n block) (λ t. other_tiff_long (take n block) (ap is_other_tiff (sym e) ∙ t))
    ∙ length-take-le n block bound)

-- what is known of a front that was read, and of what follows it
pub record Front (n : ℕ) (block front : List ℕ) (format : Option PictureFormat) (origin back : Option ℕ) (stream after a b left : Option (List ℕ)) : Type 0 where
  pub taken : Consumes a b (take n block)
  pub bound : n ≤ length block
  pub most : n ≤ 4096
  pub space : 4096 ≤ length block
  pub end : n < min 4096 (length block) → IsAtEnd b
  pub chosen : format ≡ format_in (take n block)
  pub made_is : front ≡ as_read format (take n block)
  pub left_is : left ≡ prepend_known front b
  pub same : after ≡ stream
  pub goes_back : back ≡ origin_for format origin

begins : (t : Bool) (n : ℕ) (block made : List ℕ) (origin : Option ℕ) (stream after left b : Option (List ℕ)) (xs : List ℕ)
    → Consumes (Some xs) b (take n block) → made ≡ cond t (as_tiff (take n block)) (take n block) → left ≡ prepend_known made b → after ≡ stream
    → BeginsAt origin stream (Some xs) → BeginsAt (cond t None origin) after left
begins true n block made origin stream after left b xs h m e s k = tt
begins false n block made origin stream after left b xs h m e s k =
    begins_there origin stream after left b xs (take n block) h (e ∙ ap (λ front. prepend_known front b) m) s k

some_left : (P : List ℕ → Type 0) (left : Option (List ℕ)) (bytes : List ℕ) → left ≡ Some bytes → IfSome left P → P bytes
some_left P left bytes e h = let Q : Option (List ℕ) → Type 0 = λ o. IfSome o P in subst Q e h

-- what is read of these bytes is what is read of the file
pub picture_begins : (read : List ℕ → Answer) (n : ℕ) (block made : List ℕ) (format : Option PictureFormat) (origin back : Option ℕ) (stream after a b left : Option (List ℕ)) (result : Result ExifContents Failure)
    → Front n block made format origin back stream after a b left
    → IfSome left (λ bytes. BeginsAt back after left → ReadsAsFormat read format bytes result)
    → IfSome a (λ bytes. BeginsAt origin stream a → ReadsBy read bytes result)
unfolding ReadsBy
picture_begins read n block made format origin back stream after None b left result f g = tt
picture_begins read n block made format origin back stream after (Some xs) None left result f g = absurd f.taken
picture_begins read n block made format origin back stream after (Some xs) (Some ys) left result f g = λ k.
    let front : List ℕ = take n block in
    let split : xs ≡ front ++ ys = f.taken in
    let len : length front ≡ n = length-take-le n block f.bound in
    let most : length front ≤ 4096 = omega (arith, f.most) in
    let ends : length front < 4096 → ys ≡ [] = λ lt. f.end (omega (arith, f.space)) in
    let head : take 4096 xs ≡ front = ap (take 4096) split ∙ head-first front ys most ends in
    let chosen : format_in (take 4096 xs) ≡ format = ap format_in head ∙ sym f.chosen in
    let begun : BeginsAt back after left =
    subst (λ (o : Option ℕ). BeginsAt o after left) (sym f.goes_back)
    (begins (is_other_tiff format) n block made origin stream after left (Some ys) xs f.taken f.made_is f.left_is f.same k) in
    let reads : ReadsAsFormat read format (made ++ ys) result =
    some_left (λ bytes. BeginsAt back after left → ReadsAsFormat read format bytes result) left (made ++ ys) f.left_is g begun in
    let long : is_other_tiff format ≡ true → 4 ≤ length front = λ t. other_tiff_long front (ap is_other_tiff (sym f.chosen) ∙ t) in
    let same : made ++ ys ≡ as_read format xs =
    ap (λ bytes. bytes ++ ys) f.made_is
    ∙ read_on format (is_other_tiff format) front ys long
    ∙ ap (as_read format) (sym split) in
    let there : ReadsAsFormat read format (as_read format xs) result = subst (λ (bytes : List ℕ). ReadsAsFormat read format bytes result) same reads in
    subst (λ (o : Option PictureFormat). ReadsAsFormat read o (as_read o xs) result) (sym chosen) there

-- the front of bytes in memory
pub front_taken : (file : List ℕ) (n : ℕ) → n ≡ min 4096 (length file) → take n file ≡ take 4096 file
front_taken file n e = ap (λ k. take k file) e ∙ take_min 4096 file

-- the format that a front shows is that of the whole
pub sniffed : (n : ℕ) (block : List ℕ) (format : Option PictureFormat) (a b : Option (List ℕ))
    → Consumes a b (take n block) → n ≤ length block → n ≤ 4096 → 4096 ≤ length block
    → (n < min 4096 (length block) → IsAtEnd b) → format ≡ format_in (take n block)
    → IfSome a (λ bytes. format ≡ format_in (take 4096 bytes))
sniffed n block format None b h bound most room end f = tt
sniffed n block format (Some xs) None h bound most room end f = absurd h
sniffed n block format (Some xs) (Some ys) h bound most room end f =
    let len : length (take n block) ≡ n = length-take-le n block bound in
    rw (h, head-first (take n block) ys (omega arith) (λ lt. end (omega arith))) f
