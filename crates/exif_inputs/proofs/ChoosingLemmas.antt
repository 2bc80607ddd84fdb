-- What is found of bytes that are held, by what was read of them.
use Rattle.std.proofs.Common.{◌≡◌, ℕ, Bool, List, Option, None, Some, inl, inr, refl, true}
use Rattle.std.specs.Prelude.{IfOk, IfSome, Result, Ok, Err}
use Rattle.std.specs.declared.alloc.AllocError.{AllocError}
use Rattle.exif_formats.specs.Pictures.{ReadsPicture}
use Rattle.exif_summary.specs.declared.choice.Choice.{Choice}
use Rattle.exif_types.specs.Contents.{ExifContents}
use Rattle.exif_types.specs.Failures.{Failure}
use Rattle.exif_types.specs.Refusals.{IsInterrupted}
use Rattle.exif_inputs.specs.Chosen.{is_chosen}
use Rattle.exif_inputs.specs.Found.{IsExifIn, exif_read}

-- a picture is chosen by what was read of it
pub by_some : (choice : Choice) (read : Result ExifContents Failure) (result : Result Bool AllocError)
    → IfOk result (λ chosen. chosen ≡ is_chosen choice read)
    → IfOk result (λ chosen. (read : Result ExifContents Failure) × (chosen ≡ is_chosen choice read))
by_some choice read (Ok chosen) is = (read, is)
by_some choice read (Err why) is = tt

-- the Exif data of what was read of the bytes
pub by_read : (bytes : Option (List ℕ)) (read result : Result ExifContents Failure)
    → IfSome bytes (λ held. ReadsPicture true (Some 1000000) held read) → result ≡ exif_read read
    → IfSome bytes (λ held. IsExifIn held result)
by_read None read result reads is = tt
by_read (Some held) read result reads is = inl (read, reads, is)

-- reading was interrupted
pub by_failure : (bytes : Option (List ℕ)) (why : Failure) → IsInterrupted why
    → IfSome bytes (λ held. IsExifIn held (Err why))
by_failure None why interrupted = tt
by_failure (Some held) why interrupted = inr (why, interrupted, refl)
