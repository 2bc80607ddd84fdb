-- Where the Exif data of a stream are.
use Rattle.std.proofs.Common.{◌≡◌, ℕ, ◌<◌, ◌≤◌, ◌^◌, ◌-◌, ◌++◌, List, length, min, take, drop, Option, None, Some, Result, Ok, IfSome, ap, sym, subst, ◌∙◌, refl, arith}
use Rattle.std.specs.Io.KnownBytes.{Consumes, IsAtEnd, prepend_known}
use Rattle.std.proofs.lemmas.List.{length-take-le}
use Rattle.exif_base.specs.Told.{WhereTold}
use Rattle.exif_types.specs.Failures.{Failure}
use Rattle.exif_types.specs.Refusals.{Fails, Refusal, ◌>>=◌}
use Rattle.exif_types.proofs.Refusing.{fails_along}
use Rattle.exif_isobmff.specs.Extents.{located_exif}
use Rattle.exif_isobmff.specs.Extents as heif
use Rattle.exif_containers.specs.declared.container.Format.{Format}
use Rattle.exif_containers.specs.declared.container.Format.TheVariants.{Heif, Jpeg, Tiff, WebP}
use Rattle.exif_segments.specs.Answer.{found, offset_before}
use Rattle.exif_containers.specs.Container.{format_in}
use Rattle.exif_segments.specs.Jpeg.{jpeg_answer}
use Rattle.exif_segments.specs.Webp.{webp_answer}
use Rattle.exif_containers.specs.Located.{Located, in_one, located_answer, located_as, payload_in}
use Rattle.exif_containers.proofs.ContainerSteps.{head-first}

-- a payload of a JPEG stream
pub jpeg_found : (a b : Option (List ℕ)) (items : List ℕ) (offset : ℕ) (at : Located)
    → WhereTold a b (λ xs ys. (rest : List ℕ) × (jpeg_answer (take (2 ^ 64 - 1) xs) ≡ found items rest) × (ys ≡ rest ++ drop (2 ^ 64 - 1) xs) × (offset ≡ offset_before (take (2 ^ 64 - 1) xs) items rest))
    → at ≡ in_one Jpeg offset items → IfSome a (λ xs. located_as (Some Jpeg) xs ≡ Ok at)
unfolding located_as
jpeg_found None b items offset at h e = tt
jpeg_found (Some xs) None items offset at h e = absurd h
jpeg_found (Some xs) (Some ys) items offset at h e =
    ap (payload_in Jpeg (take (2 ^ 64 - 1) xs)) h.1 ∙ ap Ok (ap (λ n. in_one Jpeg n items) (sym h.3) ∙ sym e)

pub jpeg_fails : (e : Failure) (a : Option (List ℕ)) → IfSome a (λ xs. Fails e (jpeg_answer (take (2 ^ 64 - 1) xs))) → IfSome a (λ xs. Fails e (located_as (Some Jpeg) xs))
unfolding located_as
jpeg_fails e None h = tt
jpeg_fails e (Some xs) h = fails_along e (payload_in Jpeg (take (2 ^ 64 - 1) xs)) (jpeg_answer (take (2 ^ 64 - 1) xs)) (λ r. refl) h

-- a payload of a WebP file
pub webp_found : (a b : Option (List ℕ)) (items : List ℕ) (offset : ℕ) (at : Located)
    → WhereTold a b (λ xs ys. (webp_answer xs ≡ found items ys) × (offset ≡ offset_before xs items ys))
    → at ≡ in_one WebP offset items → IfSome a (λ xs. located_as (Some WebP) xs ≡ Ok at)
unfolding located_as
webp_found None b items offset at h e = tt
webp_found (Some xs) None items offset at h e = absurd h
webp_found (Some xs) (Some ys) items offset at h e =
    ap (payload_in WebP xs) h.0 ∙ ap Ok (ap (λ n. in_one WebP n items) (sym h.1) ∙ sym e)

pub webp_fails : (e : Failure) (a : Option (List ℕ)) → IfSome a (λ xs. Fails e (webp_answer xs)) → IfSome a (λ xs. Fails e (located_as (Some WebP) xs))
unfolding located_as
webp_fails e None h = tt
webp_fails e (Some xs) h = fails_along e (payload_in WebP xs) (webp_answer xs) (λ r. refl) h

-- the data of a HEIF file
pub heif_found : (a : Option (List ℕ)) (held : heif.Located) → IfSome a (λ xs. located_exif xs ≡ Ok held)
    → IfSome a (λ xs. located_as (Some Heif) xs ≡ Ok (record { format = Heif; ranges = held.ranges; bytes = held.bytes }))
unfolding located_as
heif_found None held h = tt
heif_found (Some xs) held h =
    ap (λ r. r >>= λ f. let made : Result Located Refusal = Ok (record { format = Heif; ranges = f.ranges; bytes = f.bytes }) in made) h

pub heif_fails : (e : Failure) (a : Option (List ℕ)) → IfSome a (λ xs. Fails e (located_exif xs)) → IfSome a (λ xs. Fails e (located_as (Some Heif) xs))
unfolding located_as
heif_fails e None h = tt
heif_fails e (Some xs) h =
    fails_along e (λ r. r >>= λ f. let made : Result Located Refusal = Ok (record { format = Heif; ranges = f.ranges; bytes = f.bytes }) in made) (located_exif xs) (λ r. refl) h

-- what holds of the answer of the head's choice holds of the stream's
pub located_holds : (P : Result Located Refusal → Type 0) (n : ℕ) (block : List ℕ) (format : Option Format) (a b left : Option (List ℕ))
    → Consumes a b (take n block) → n ≤ length block → n ≤ 4096 → 4096 ≤ length block → (n < min 4096 (length block) → IsAtEnd b)
    → format ≡ format_in (take n block)
    → left ≡ prepend_known (take n block) b
    → IfSome left (λ bytes. P (located_as format bytes))
    → IfSome a (λ bytes. P (located_answer bytes))
unfolding located_answer
located_holds P n block format None b left h bound most space end f e g = tt
located_holds P n block format (Some xs) None left h bound most space end f e g = absurd h
located_holds P n block format (Some xs) (Some ys) left h bound most space end f e g =
    let whole : IfSome (Some (take n block ++ ys)) (λ bytes. P (located_as format bytes)) = subst (λ t. IfSome t (λ bytes. P (located_as format bytes))) e g in
    let len : length (take n block) ≡ n = length-take-le n block bound in
    rw (h, head-first (take n block) ys (omega arith) (λ lt. end (omega arith)), ← f) whole

-- TIFF data are in one range, which is all of them
pub tiff_found : (a : Option (List ℕ)) (items : List ℕ) (at : Located) → IfSome a (λ bytes. items ≡ bytes) → at ≡ in_one Tiff 0 items
    → IfSome a (λ xs. located_as (Some Tiff) xs ≡ Ok at)
unfolding located_as
tiff_found None items at h e = tt
tiff_found (Some xs) items at h e = ap Ok (ap (in_one Tiff 0) (sym h) ∙ sym e)

-- after an interruption nothing is said of the bytes
pub nothing_said : (a : Option (List ℕ)) → IfSome a (λ bytes. Unit {0})
nothing_said None = tt
nothing_said (Some xs) = tt
