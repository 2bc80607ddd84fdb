-- Edits of files that are read from a source.
use Rattle.std.proofs.Common.{◌≡◌, ◌≤◌, ◌<◌, ◌-◌, ◌^◌, ℕ, Bool, false, List, ◌++◌, length, min, take, All, Option, Some, None, Result, Ok, Err, IfSome, sym, ap, subst, ◌∙◌, arith}
use Rattle.std.specs.Prelude.{MatchOption}
use Rattle.std.proofs.lemmas.List.{length-take-le}
use Rattle.std.specs.Io.KnownBytes.{Consumes, IsAtEnd, prepend_known}
use Rattle.exif_types.specs.Failures.{Failure}
use Rattle.exif_types.specs.Refusals.{Fails, IsInterrupted}
use Rattle.exif_types.specs.declared.error.Error.TheVariants as failure
use Rattle.exif_containers.specs.Container.{format_in, unknown_format}
use Rattle.exif_containers.specs.Located.{Located, located_answer, located_as}
use Rattle.exif_containers.specs.declared.container.Format.{Format}
use Rattle.exif_containers.specs.declared.container.Format.TheVariants.{Tiff, Jpeg, Heif, WebP}
use Rattle.exif_containers.proofs.ContainerSteps.{head-first}
use Rattle.exif_segments.specs.Jpeg.{jpeg_answer}
use Rattle.exif_segments.specs.Webp.{webp_answer}
use Rattle.exif_isobmff.specs.Extents.{located_exif}
use Rattle.exif_containers.proofs.Replacing.{heif_format, is_heif, none_located, piece_format, tiff_format}
use Rattle.exif_edit_base.specs.Causes.{Cause, Fails as FailsAs, Stops, cause_of, of_container}
use Rattle.exif_edit_base.specs.Patches.{FitsIn, patched}
use Rattle.exif_edit_base.specs.declared.error.Error.{Error}
use Rattle.exif_edit_base.specs.declared.error.Error.TheVariants as error
use Rattle.exif_edit_base.specs.declared.patch.Patch.{Patch}
use Rattle.exif_edit.specs.declared.edits.Edit.{Edit}
use Rattle.exif_edit.specs.InFiles.{IsEditedIn, data_patches, file_patches}
use Rattle.exif_edit.specs.Sources.{FailsOrStops, IsStopped, has_item, is_item}
use Rattle.exif_edit.specs.Spreading.{spread}
use Rattle.exif_edit.proofs.FileSteps.{file_placed, file_unedited, file_unlocated, piece_placed}
use Rattle.exif_edit.proofs.FilesSound.{file_fits, file_sound}

-- ---- the head of a source

-- the bytes of a source, and those at hand behind its head
pub record HasHead (n : ℕ) (block : List ℕ) (test : Bool) (a b left : Option (List ℕ)) : Type 0 where
  pub taken : Consumes a b (take n block)
  pub bound : n ≤ length block
  pub most : n ≤ 4096
  pub space : 4096 ≤ length block
  pub end : n < min 4096 (length block) → IsAtEnd b
  pub chosen : test ≡ is_item (format_in (take n block))
  pub at_hand : left ≡ prepend_known (take n block) b

pub has_head : (n : ℕ) (block : List ℕ) (test : Bool) (a b left : Option (List ℕ))
    → Consumes a b (take n block) → n ≤ length block → n ≤ 4096 → 4096 ≤ length block
    → (n < min 4096 (length block) → IsAtEnd b) → test ≡ is_item (format_in (take n block))
    → left ≡ prepend_known (take n block) b → HasHead n block test a b left
has_head n block test a b left t bound most space end f h = record {
  taken = t;
  bound = bound;
  most = most;
  space = space;
  end = end;
  chosen = f;
  at_hand = h;
}

-- what holds of the bytes at hand, by what the head says of them, holds of the file
pub whole_file_of : (P : List ℕ → Type 0) (n : ℕ) (block : List ℕ) (test : Bool)
    (a b left : Option (List ℕ)) → HasHead n block test a b left
    → IfSome left (λ xs. has_item xs ≡ test → P xs) → IfSome a P
whole_file_of P n block test None b left h k = tt
whole_file_of P n block test (Some xs) None left h k = absurd h.taken
whole_file_of P n block test (Some xs) (Some ys) left h k =
    let len : length (take n block) ≡ n = length-take-le n block h.bound in
    let space = h.space in
    let most = h.most in
    let first : take 4096 (take n block ++ ys) ≡ take n block =
    head-first (take n block) ys (omega arith) (λ lt. h.end (omega arith)) in
    let same : left ≡ Some xs = h.at_hand ∙ ap (λ zs. Some zs) (sym h.taken) in
    let f : has_item xs ≡ test =
    sym (h.chosen ∙ ap (λ zs. is_item (format_in zs)) (sym (ap (take 4096) h.taken ∙ first))) in
    (subst (λ t. IfSome t (λ zs. has_item zs ≡ test → P zs)) same k) f

-- what holds whatever the head says
pub whatever : (P : List ℕ → Type 0) (test : Bool) (left : Option (List ℕ)) → IfSome left P
    → IfSome left (λ xs. has_item xs ≡ test → P xs)
whatever P test None k = tt
whatever P test (Some xs) k = λ e. k

-- ---- errors

-- an error of the answer in memory is one of the source's too
fails_or_stops : {Y : Type 0} (e : Error) (answer : Result Y Cause) → FailsAs e answer
    → FailsOrStops e answer
fails_or_stops {Y = Y} e answer h = by_cause (cause_of e) h
  where
    by_cause : (o : Option Cause)
        → MatchOption o (e ≡ error.OutOfMemory) (λ c. answer ≡ Err c)
        → MatchOption o (IsStopped e) (λ c. answer ≡ Err c)
    by_cause None k = rw k tt
    by_cause (Some c) k = k

-- an error of the edit of a file in memory is one of the file that was read
pub read_refused : (limit : Option ℕ) (edit : Edit) (a : Option (List ℕ)) (file : List ℕ) (e : Error)
    → IfSome a (λ bytes. file ≡ bytes) → FailsAs e (file_patches limit edit file)
    → IfSome a (λ bytes. FailsOrStops e (file_patches limit edit bytes))
read_refused limit edit None file e h f = tt
read_refused limit edit (Some bytes) file e h f =
    fails_or_stops e (file_patches limit edit bytes)
    (subst (λ xs. FailsAs e (file_patches limit edit xs)) h f)

pub read_made : (limit : Option ℕ) (edit : Edit) (a : Option (List ℕ)) (file : List ℕ) (ps : List Patch)
    → IfSome a (λ bytes. file ≡ bytes) → file_patches limit edit file ≡ Ok ps
    → IfSome a (λ bytes. file_patches limit edit bytes ≡ Ok ps)
read_made limit edit None file ps h e = tt
read_made limit edit (Some bytes) file ps h e =
    subst (λ xs. file_patches limit edit xs ≡ Ok ps) h e

-- an interruption says nothing of the bytes
pub interrupted : {Y : Type 0} (f : Failure) (e : Error) (a : Option (List ℕ))
    (answer : List ℕ → Result Y Cause) → Stops f e → IsInterrupted f
    → IfSome a (λ bytes. FailsOrStops e (answer bytes))
interrupted f e None answer s h = tt
interrupted (failure.Io cause) e (Some bytes) answer s h = rw s tt
interrupted failure.OutOfMemory e (Some bytes) answer s h = rw s tt
interrupted (failure.InvalidFormat encoded) e (Some bytes) answer s h = absurd h
interrupted (failure.NotFound encoded) e (Some bytes) answer s h = absurd h
interrupted (failure.BlankValue encoded) e (Some bytes) answer s h = absurd h
interrupted (failure.TooBig encoded) e (Some bytes) answer s h = absurd h
interrupted (failure.NotSupported encoded) e (Some bytes) answer s h = absurd h
interrupted (failure.UnexpectedValue encoded) e (Some bytes) answer s h = absurd h
interrupted (failure.PartialResult partial) e (Some bytes) answer s h = absurd h

-- the container's error, or an interruption
pub unlocated : (limit : Option ℕ) (edit : Edit) (f : Failure) (e : Error) (a : Option (List ℕ))
    → Stops f e → IfSome a (λ file. Fails f (located_answer file))
    → IfSome a (λ file. has_item file ≡ false → FailsOrStops e (file_patches limit edit file))
unlocated limit edit f e None s h = tt
unlocated limit edit (failure.InvalidFormat encoded) e (Some file) s h =
    λ t. rw s (file_unlocated limit edit file _ (ap of_container h))
unlocated limit edit (failure.NotFound encoded) e (Some file) s h =
    λ t. rw s (file_unlocated limit edit file _ (ap of_container h))
unlocated limit edit (failure.BlankValue encoded) e (Some file) s h =
    λ t. rw s (file_unlocated limit edit file _ (ap of_container h))
unlocated limit edit (failure.TooBig encoded) e (Some file) s h =
    λ t. rw s (file_unlocated limit edit file _ (ap of_container h))
unlocated limit edit (failure.NotSupported encoded) e (Some file) s h =
    λ t. rw s (file_unlocated limit edit file _ (ap of_container h))
unlocated limit edit (failure.UnexpectedValue encoded) e (Some file) s h =
    λ t. rw s (file_unlocated limit edit file _ (ap of_container h))
unlocated limit edit (failure.Io cause) e (Some file) s h = λ t. rw s h
unlocated limit edit (failure.PartialResult partial) e (Some file) s h = λ t. absurd h
unlocated limit edit failure.OutOfMemory e (Some file) s h = λ t. rw s tt

-- an error of the edit of located data
pub unedited : (limit : Option ℕ) (edit : Edit) (at : Located) (e : Error) (a : Option (List ℕ))
    → IfSome a (λ file. located_answer file ≡ Ok at) → FailsAs e (data_patches limit edit at)
    → IfSome a (λ file. has_item file ≡ false → FailsOrStops e (file_patches limit edit file))
unedited limit edit at e None l h = tt
unedited limit edit at e (Some file) l h = λ t. by_cause (cause_of e) h
  where
    by_cause : (o : Option Cause)
        → MatchOption o (e ≡ error.OutOfMemory) (λ c. data_patches limit edit at ≡ Err c)
        → MatchOption o (IsStopped e) (λ c. file_patches limit edit file ≡ Err c)
    by_cause None k = rw k tt
    by_cause (Some c) k = file_unedited limit edit file at c (ap of_container l) k

-- out of memory says nothing of the bytes
pub no_memory : (limit : Option ℕ) (edit : Edit) (e : Error) (a : Option (List ℕ))
    → e ≡ error.OutOfMemory
    → IfSome a (λ file. has_item file ≡ false → FailsOrStops e (file_patches limit edit file))
no_memory limit edit e None h = tt
no_memory limit edit e (Some file) h = λ t. rw h tt

-- ---- patches

format_as : (x : Option Format) (file : List ℕ) (at : Located) → located_as x file ≡ Ok at
    → is_heif at.format ≡ is_item x
unfolding located_as
format_as (Some Tiff) file at e = ap is_heif (tiff_format file at e)
format_as (Some Jpeg) file at e =
    ap is_heif (piece_format Jpeg (take (2 ^ 64 - 1) file) (jpeg_answer (take (2 ^ 64 - 1) file)) at e)
format_as (Some WebP) file at e = ap is_heif (piece_format WebP file (webp_answer file) at e)
format_as (Some Heif) file at e = heif_format (located_exif file) at e
format_as None file at e = none_located unknown_format at e

-- the located data of a file are an item if its head says so
piece_has : (file : List ℕ) (at : Located) → located_answer file ≡ Ok at → has_item file ≡ false
    → is_heif at.format ≡ false
unfolding located_answer
piece_has file at l t = format_as (format_in (take 4096 file)) file at l ∙ t

-- patches of located data that are in one extent
pub edited_piece : (limit : Option ℕ) (edit : Edit) (at : Located) (ps qs : List Patch) (a : Option (List ℕ))
    → IfSome a (λ file. located_answer file ≡ Ok at) → data_patches limit edit at ≡ Ok ps
    → qs ≡ spread at.ranges ps
    → IfSome a (λ file. has_item file ≡ false → file_patches limit edit file ≡ Ok qs)
edited_piece limit edit at ps qs None l h e = tt
edited_piece limit edit at ps qs (Some file) l h e =
    λ t. file_placed limit edit file at ps (ap of_container l) h
    ∙ (piece_placed file at ps (piece_has file at l t) ∙ ap (λ xs. Ok xs) (sym e))

-- an answered edit edits the data of the file where they are, if its bytes are known
pub known_edited : (limit : Option ℕ) (edit : Edit) (a : Option (List ℕ)) (qs : List Patch)
    → IfSome a (λ file. file_patches limit edit file ≡ Ok qs)
    → IfSome a (λ file. length file < 2 ^ 64 → IsEditedIn limit edit file (patched qs file))
known_edited limit edit None qs h = tt
known_edited limit edit (Some file) qs h = λ s. file_sound limit edit file qs s h

pub known_fits : (limit : Option ℕ) (edit : Edit) (a : Option (List ℕ)) (qs : List Patch)
    → IfSome a (λ file. file_patches limit edit file ≡ Ok qs)
    → IfSome a (λ file. length file < 2 ^ 64 → All (FitsIn (length file)) qs)
known_fits limit edit None qs h = tt
known_fits limit edit (Some file) qs h = λ s. file_fits limit edit file qs s h
