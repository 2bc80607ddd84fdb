-- A file whose first bytes choose, and what each container's call says of it.
use Rattle.std.proofs.Common.{◌≡◌, ℕ, ◌<◌, ◌≤◌, List, ◌∷◌, [], ◌++◌, length, take, Option, None, Some, Result, IfErr, IfSome, OnOk, Ok, Err, sym, subst, arith}
use Rattle.std.proofs.lemmas.List.{length-take-le}
use Rattle.std.proofs.lemmas.List.Elements.{Contains-append_left, Contains-append_right}
use Rattle.std.specs.Io.KnownBytes.{Consumes, IsAtEnd, prepend_known}
use Rattle.exif_types.specs.Failures.{Failure}
use Rattle.exif_types.specs.Refusals.{Refusal}
use Rattle.exif_segments.specs.Answer.{IsNamed}
use Rattle.exif_containers.specs.Container.{format_in, unknown_format}
use Rattle.exif_containers.specs.declared.container.Format.{Format}
use Rattle.exif_containers.specs.declared.container.Format.TheVariants.{Tiff, Jpeg, Heif, WebP}
use Rattle.exif_containers.proofs.ContainerSteps.{head-first}
use Rattle.exif_containers.proofs.ContainerNames.{more_named}
use Rattle.exif_segments.specs.declared.remove.Remove.{Remove}
use Rattle.exif_parts.specs.Webp.{webp_rewritten}
use Rattle.exif_rewrite.specs.RewrittenFile.{file_refusals, file_rewriting, heif_stays, rewriting_as, tiff_stays}
use Rattle.exif_rewrite.specs.RewrittenJpeg.{jpeg_rewriting, jpeg_rewriting_refusals}
use Rattle.exif_rewrite.specs.RewrittenWebp.{webp_rewriting_refusals}

-- ---- the head

-- what holds of the head's choice holds of the file's
pub head_holds : (P : Option Format → Type 0) (n : ℕ) (block : List ℕ) (format : Option Format) (a b : Option (List ℕ))
    → Consumes a b (take n block) → n ≤ length block → length block ≡ 4096 → (n < length block → IsAtEnd b)
    → format ≡ format_in (take n block) → P format
    → IfSome a (λ bytes. P (format_in (take 4096 bytes)))
head_holds P n block format None b h bound len end f g = tt
head_holds P n block format (Some xs) None h bound len end f g = absurd h
head_holds P n block format (Some xs) (Some ys) h bound len end f g =
    let taken : length (take n block) ≡ n = length-take-le n block bound in
    rw (h, head-first (take n block) ys (omega arith) (λ lt. end (omega arith)), ← f) g

-- what holds of what the bytes become by the head's choice holds of what the file becomes
pub file_holds : (P : Result (List ℕ) Refusal → Type 0) (remove : Remove) (put : Option (List ℕ)) (n : ℕ) (block : List ℕ) (format : Option Format) (a b left : Option (List ℕ))
    → Consumes a b (take n block) → n ≤ length block → length block ≡ 4096 → (n < length block → IsAtEnd b)
    → format ≡ format_in (take n block)
    → left ≡ prepend_known (take n block) b
    → IfSome left (λ bytes. P (rewriting_as format remove put bytes))
    → IfSome a (λ bytes. P (file_rewriting remove put bytes))
unfolding file_rewriting
file_holds P remove put n block format None b left h bound len end f e g = tt
file_holds P remove put n block format (Some xs) None left h bound len end f e g = absurd h
file_holds P remove put n block format (Some xs) (Some ys) left h bound len end f e g =
    let whole : IfSome (Some (take n block ++ ys)) (λ bytes. P (rewriting_as format remove put bytes)) = subst (λ t. IfSome t (λ bytes. P (rewriting_as format remove put bytes))) e g in
    let taken : length (take n block) ≡ n = length-take-le n block bound in
    rw (h, head-first (take n block) ys (omega arith) (λ lt. end (omega arith)), ← f) whole

-- ---- what a container's call says

-- what a call says of a file that it wrote, where the two definitions agree
pub sent_as : {T : Type 0} (P : Result (List ℕ) Refusal → Type 0) (result : Result T Failure) (a : Option (List ℕ)) (f g : List ℕ → Result (List ℕ) Refusal) → ((xs : List ℕ) → g xs ≡ f xs)
    → OnOk result (IfSome a (λ xs. P (f xs))) → OnOk result (IfSome a (λ xs. P (g xs)))
sent_as P (Err e) a f g is h = tt
sent_as P (Ok u) None f g is h = tt
sent_as P (Ok u) (Some xs) f g is h = subst P (sym (is xs)) h

-- and of one that it stopped at
pub stopped_as : {T : Type 0} (P : Failure → Result (List ℕ) Refusal → Type 0) (result : Result T Failure) (a : Option (List ℕ)) (f g : List ℕ → Result (List ℕ) Refusal) → ((xs : List ℕ) → g xs ≡ f xs)
    → IfErr result (λ e. IfSome a (λ xs. P e (f xs))) → IfErr result (λ e. IfSome a (λ xs. P e (g xs)))
stopped_as P (Ok u) a f g is h = tt
stopped_as P (Err e) None f g is h = tt
stopped_as P (Err e) (Some xs) f g is h = subst (P e) (sym (is xs)) h

-- a JPEG file becomes what its definition says
pub jpeg_as : (format : Option Format) (remove : Remove) (put : Option (List ℕ)) → format ≡ Some Jpeg → (xs : List ℕ) → rewriting_as format remove put xs ≡ jpeg_rewriting remove put xs
unfolding rewriting_as
jpeg_as format remove put is xs = rw is

-- and so does a WebP file
pub webp_as : (format : Option Format) (remove : Remove) (put : Option (List ℕ)) → format ≡ Some WebP → (xs : List ℕ) → rewriting_as format remove put xs ≡ webp_rewritten remove put xs
unfolding rewriting_as
webp_as format remove put is xs = rw is

-- ---- files that are refused by their head

-- a HEIF file is refused before its first byte, since it is edited in place
pub heif_refused : (format : Option Format) (remove : Remove) (put : Option (List ℕ)) → format ≡ Some Heif → (xs : List ℕ) → rewriting_as format remove put xs ≡ Err heif_stays
unfolding rewriting_as
heif_refused format remove put is xs = rw is

-- a file of TIFF data is refused before its first byte, since it is edited in place
pub tiff_refused : (format : Option Format) (remove : Remove) (put : Option (List ℕ)) → format ≡ Some Tiff → (xs : List ℕ) → rewriting_as format remove put xs ≡ Err tiff_stays
unfolding rewriting_as
tiff_refused format remove put is xs = rw is

-- a file of no known container is refused before its first byte, for its unknown format
pub unknown_refused : (format : Option Format) (remove : Remove) (put : Option (List ℕ)) → format ≡ None → (xs : List ℕ) → rewriting_as format remove put xs ≡ Err unknown_format
unfolding rewriting_as
unknown_refused format remove put is xs = rw is

-- ---- all refusals are named

-- the refusals of files that are refused by their head
by_head : List Refusal
by_head = unknown_format ∷ tiff_stays ∷ heif_stays ∷ []

-- an error that is named for JPEG files is named for files
pub jpeg_named : {T : Type 0} (result : Result T Failure) → IfErr result (IsNamed jpeg_rewriting_refusals) → IfErr result (IsNamed file_refusals)
unfolding by_head
jpeg_named = more_named jpeg_rewriting_refusals file_refusals (λ r h. Contains-append_right by_head (jpeg_rewriting_refusals ++ webp_rewriting_refusals) r (Contains-append_left jpeg_rewriting_refusals webp_rewriting_refusals r h))

-- an error that is named for WebP files is named for files
pub webp_named : {T : Type 0} (result : Result T Failure) → IfErr result (IsNamed webp_rewriting_refusals) → IfErr result (IsNamed file_refusals)
unfolding by_head
webp_named = more_named webp_rewriting_refusals file_refusals (λ r h. Contains-append_right by_head (jpeg_rewriting_refusals ++ webp_rewriting_refusals) r (Contains-append_right jpeg_rewriting_refusals webp_rewriting_refusals r h))
