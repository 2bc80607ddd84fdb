-- What the steps of the WebP reader answer.
use Rattle.std.specs.Prelude.{◌≡◌, ℕ, ◌≤◌, List, ⊤, Result, Ok, Err}
use Rattle.exif_segments.specs.declared.webp.Step.{Step}
use Rattle.exif_segments.specs.declared.webp.Step.TheVariants as step
use Rattle.exif_types.specs.Refusals.{Refusal}
use Rattle.exif_segments.specs.Webp.{Chunk, exif, other, broken_webp}

-- the chunk that a step passed, where these bytes follow it
abbrev pub chunk_of : Step → List ℕ → Chunk
chunk_of (step.Exif payload) rest = exif payload.items rest
chunk_of (step.Other space) rest = other space rest

-- a chunk that was passed leaves at most this space
abbrev pub LeavesAtMost : ℕ → Step → Type 0
LeavesAtMost space (step.Exif payload) = ⊤
LeavesAtMost space (step.Other rest) = rest ≤ space

-- the chunk is the one whose payload is collected, whole or cut
abbrev pub IsPayload : Result Chunk Refusal → Type 0
IsPayload (Ok (exif payload rest)) = ⊤
IsPayload (Ok (other space bytes)) = ⊥
IsPayload (Err r) = r ≡ broken_webp
