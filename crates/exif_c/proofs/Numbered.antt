-- Refusals of changes, by their numbers.
use Rattle.std.proofs.Common.{◌≡◌, ◌⊎◌, inl, inr, ℕ, List, Result, Ok, Err, refl, sym, ap, subst, ◌∙◌}
use Rattle.exif_types.specs.Failures.{Failure}
use Rattle.exif_types.specs.Refusals.{invalid_format, not_found, blank_value, too_big, not_supported, unexpected_value}
use Rattle.exif_types.specs.declared.error.Error.TheVariants as failure
use Rattle.exif_edit_base.specs.Causes.{no_field, no_directory, full_directory, unknown_type, offset_named, shared, picture, wrong_header, no_data}
use Rattle.exif_edit_base.specs.Causes as cause
use Rattle.exif_edit_base.specs.declared.error.Error.TheVariants as edit
use Rattle.exif_change.specs.Changed.{Change}
use Rattle.exif_change.specs.Refusals.{Reason, Fails, editing, heif_fault, no_date, no_thumbnail, not_of_its_type, out_of_range, reading, second_exif, tiff_fault, unknown_format}
use Rattle.exif_change.specs.Refusals as why
use Rattle.exif_change.specs.declared.refusal.Refusal.{Refusal}
use Rattle.exif_change.specs.declared.refusal.Refusal.TheVariants as change
use Rattle.exif_c.specs.Buffers.{GivesNothing}
use Rattle.exif_c.specs.Calls.{EndsBy, Puts}
use Rattle.exif_c.specs.Statuses.{number_of, refusal_status, why_status}
use Rattle.exif_c.specs.declared.buffer.Answer.{Answer}
use Rattle.exif_c.specs.declared.status.Status.{Status}
use Rattle.exif_c.specs.declared.status.Status.TheVariants as status

-- a status is that of why the answer is a refusal, or memory ran out
abbrev pub IsNumbered : {Y : Type 0} → Status → Result Y Reason → Type 0
IsNumbered s answer =
    ((w : Reason) × (answer ≡ Err w) × (s ≡ why_status w)) ⊎ (s ≡ status.OutOfMemory)

-- an error of an edit that is no refusal of it is out of memory
memory_alone : {A : Type 0} (e : Failure) → edit.Container e ≡ edit.OutOfMemory → A
memory_alone e h = cc

pub numbered : {Y : Type 0} (e : Refusal) (answer : Result Y Reason) → Fails e answer
    → IsNumbered (refusal_status e) answer
numbered (change.Reading (failure.InvalidFormat t)) answer h = inl (reading (invalid_format t.now), h, refl)
numbered (change.Reading (failure.NotFound t)) answer h = inl (reading (not_found t.now), h, refl)
numbered (change.Reading (failure.BlankValue t)) answer h = inl (reading (blank_value t.now), h, refl)
numbered (change.Reading (failure.TooBig t)) answer h = inl (reading (too_big t.now), h, refl)
numbered (change.Reading (failure.NotSupported t)) answer h = inl (reading (not_supported t.now), h, refl)
numbered (change.Reading (failure.UnexpectedValue t)) answer h = inl (reading (unexpected_value t.now), h, refl)
numbered (change.Reading (failure.PartialResult p)) answer h = absurd h
numbered (change.Reading (failure.Io c)) answer h = inr refl
numbered (change.Reading failure.OutOfMemory) answer h = inr refl
numbered (change.Editing edit.FieldNotFound) answer h = inl (editing no_field, h, refl)
numbered (change.Editing edit.NoDirectory) answer h = inl (editing no_directory, h, refl)
numbered (change.Editing edit.FullDirectory) answer h = inl (editing full_directory, h, refl)
numbered (change.Editing edit.UnknownType) answer h = inl (editing unknown_type, h, refl)
numbered (change.Editing edit.ValueTooLong) answer h = inl (editing cause.too_long, h, refl)
numbered (change.Editing edit.NamesOffsets) answer h = inl (editing offset_named, h, refl)
numbered (change.Editing edit.SharedBytes) answer h = inl (editing shared, h, refl)
numbered (change.Editing edit.PictureData) answer h = inl (editing picture, h, refl)
numbered (change.Editing (edit.Header fault)) answer h = inl (editing (wrong_header fault), h, refl)
numbered (change.Editing (edit.Container (failure.InvalidFormat t))) answer h = inl (editing (no_data (invalid_format t.now)), h, refl)
numbered (change.Editing (edit.Container (failure.NotFound t))) answer h = inl (editing (no_data (not_found t.now)), h, refl)
numbered (change.Editing (edit.Container (failure.BlankValue t))) answer h = inl (editing (no_data (blank_value t.now)), h, refl)
numbered (change.Editing (edit.Container (failure.TooBig t))) answer h = inl (editing (no_data (too_big t.now)), h, refl)
numbered (change.Editing (edit.Container (failure.NotSupported t))) answer h = inl (editing (no_data (not_supported t.now)), h, refl)
numbered (change.Editing (edit.Container (failure.UnexpectedValue t))) answer h = inl (editing (no_data (unexpected_value t.now)), h, refl)
numbered (change.Editing (edit.Container (failure.PartialResult p))) answer h = memory_alone (failure.PartialResult p) h
numbered (change.Editing (edit.Container (failure.Io c))) answer h = memory_alone (failure.Io c) h
numbered (change.Editing (edit.Container failure.OutOfMemory)) answer h = memory_alone failure.OutOfMemory h
numbered (change.Editing edit.OutOfMemory) answer h = inr refl
numbered change.UnknownFormat answer h = inl (unknown_format, h, refl)
numbered (change.Tiff fault) answer h = inl (tiff_fault fault, h, refl)
numbered (change.Heif fault) answer h = inl (heif_fault fault, h, refl)
numbered change.SecondExif answer h = inl (second_exif, h, refl)
numbered (change.TooLong tag) answer h = inl (why.too_long tag, h, refl)
numbered change.FieldNotFound answer h = inl (why.no_field, h, refl)
numbered (change.NotOfItsType tag) answer h = inl (not_of_its_type tag, h, refl)
numbered (change.OutOfRange tag) answer h = inl (out_of_range tag, h, refl)
numbered change.NoDate answer h = inl (no_date, h, refl)
numbered change.NoThumbnail answer h = inl (no_thumbnail, h, refl)
numbered change.OutOfMemory answer h = inr refl

ok_err : {Y A : Type 0} (y : Y) (w : Reason) → ◌≡◌ {A = Result Y Reason} (Ok y) (Err w) → A
ok_err y w h = cc

err_same : {Y : Type 0} (v w : Reason) → ◌≡◌ {A = Result Y Reason} (Err v) (Err w) → v ≡ w
err_same v w h = cc

-- a refusal ends a call by its number
pub ends_refused : (e : Refusal) (n : ℕ) (old new : List ℕ) (answer : Result (List ℕ) Reason)
    → n ≡ number_of (refusal_status e) → new ≡ old → Fails e answer → EndsBy n old new answer
ends_refused e n old new answer is same h = by answer (numbered e answer h)
  where
    by : (a : Result (List ℕ) Reason) → IsNumbered (refusal_status e) a → EndsBy n old new a
    by (Ok made) (inl x) = ok_err made x.0 x.1
    by (Ok made) (inr o) = inr (is ∙ ap number_of o, same)
    by (Err w) (inl x) = (same, inl (is ∙ ap number_of (x.2 ∙ ap why_status (sym (err_same {Y = List ℕ} w x.0 x.1)))))
    by (Err w) (inr o) = (same, inr (is ∙ ap number_of o))

-- a refusal puts nothing into a buffer
pub puts_refused : (e : Refusal) (a : Answer) (out : List ℕ) (answer : Result Change Reason)
    → GivesNothing (number_of (refusal_status e)) a → Fails e answer → Puts a out out answer
puts_refused e a out answer g h = by answer (numbered e answer h)
  where
    nothing : (s : Status) → refusal_status e ≡ s → GivesNothing (number_of s) a
    nothing s is = subst (λ (t : Status). GivesNothing (number_of t) a) is g

    by : (r : Result Change Reason) → IsNumbered (refusal_status e) r → Puts a out out r
    by (Ok made) (inl x) = ok_err made x.0 x.1
    by (Ok made) (inr o) = inr (nothing status.OutOfMemory o, refl)
    by (Err w) (inl x) = (refl, inl (nothing (why_status w) (x.2 ∙ ap why_status (sym (err_same {Y = Change} w x.0 x.1)))))
    by (Err w) (inr o) = (refl, inr (nothing status.OutOfMemory o))
