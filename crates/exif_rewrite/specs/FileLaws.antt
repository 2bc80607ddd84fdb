-- What holds of files that are written again, whatever container they are.
use Rattle.std.specs.Prelude.{◌≡◌, ◌<◌, ◌^◌, ◌⊎◌, ℕ, List, length, Option, None, Some, Result, Ok, Err}
use Rattle.exif_types.specs.Refusals.{Refusal}
use Rattle.exif_containers.specs.Container.{container_answer}
use Rattle.exif_segments.specs.Jpeg.{no_exif_in_jpeg}
use Rattle.exif_segments.specs.Webp.{no_exif_in_webp}
use Rattle.exif_segments.specs.declared.remove.Remove.{Remove}
use Rattle.exif_rewrite.specs.RewrittenFile.{file_rewriting}

-- a container answers what was put, or that there is nothing
abbrev pub AnswersPut : Option (List ℕ) → Result (List ℕ) Refusal → Type 0
AnswersPut None answer = (answer ≡ Err no_exif_in_jpeg) ⊎ (answer ≡ Err no_exif_in_webp)
AnswersPut (Some payload) answer = answer ≡ Ok payload

-- reading what comes out finds what was put; of a longer file reading takes the front
abbrev pub IsFound : Remove → Option (List ℕ) → List ℕ → Type 0
IsFound remove put bytes =
    (out : List ℕ) → file_rewriting remove put bytes ≡ Ok out → length out < 2 ^ 64
    → AnswersPut put (container_answer out)

-- written again twice is written again once
abbrev pub IsSettled : Remove → Option (List ℕ) → List ℕ → Type 0
IsSettled remove put bytes =
    (out : List ℕ) → file_rewriting remove put bytes ≡ Ok out
    → file_rewriting remove put out ≡ Ok out
