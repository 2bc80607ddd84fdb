-- What the HEIF reader does with a source that reads at an offset.
use Rattle.std.specs.Prelude.{◌≡◌, ℕ, Bool, List, ◌++◌, take, drop, ⊤, Option, Some, None, IfSome, Result, Ok, Err}
use Rattle.std.specs.Option.{option_map}
use Rattle.exif_base.specs.Told.{WhereTold, left_behind}
use Rattle.exif_isobmff.specs.HeifFile.{meta_body, passed}
use Rattle.exif_isobmff.specs.declared.splitter.Header.{Header}
use Rattle.exif_types.specs.Failures.{Failure}
use Rattle.exif_types.specs.Refusals.{Refusal, Fails}

-- the bytes left are those of the stream from this offset on, where one is given
abbrev pub BeginsAt : Option ℕ → Option (List ℕ) → Option (List ℕ) → Type 0
BeginsAt None stream left = ⊤
BeginsAt (Some origin) stream left = left ≡ left_behind (Some origin) stream

-- of a file that begins at this offset of the stream, all was read that is not left
abbrev pub HasRead : ℕ → List ℕ → List ℕ → Option (List ℕ) → Option (List ℕ) → Type 0
HasRead origin front file stream left =
    (option_map (λ rest. front ++ rest) left ≡ Some file)
    × (Some file ≡ left_behind (Some origin) stream)

-- the same of a file of which nothing was read
abbrev pub IsAhead : ℕ → List ℕ → Option (List ℕ) → Option (List ℕ) → Type 0
IsAhead origin file stream left = (left ≡ Some file) × (Some file ≡ left_behind (Some origin) stream)

-- a body of this length was taken, as far as it is there
abbrev pub TakesBody : ℕ → List ℕ → Option (List ℕ) → Option (List ℕ) → Type 0
TakesBody len body old new =
    WhereTold old new (λ xs ys. (body ≡ take len xs) × (ys ≡ drop len xs))

-- the body of a box before `meta` was skipped, and whether an `ftyp` was seen
abbrev pub PassesBody : Header → Bool → Bool → Option (List ℕ) → Option (List ℕ) → Type 0
PassesBody h seen now old new =
    WhereTold old new (λ xs ys. (passed seen h.kind h.len (take h.len xs) ≡ Ok now)
    × (ys ≡ drop h.len xs))

-- the first `meta` of a file has this body
abbrev pub FindsMeta : List ℕ → Option (List ℕ) → Type 0
FindsMeta body known = IfSome known (λ file. meta_body file ≡ Ok body)

-- the bytes that are answered, if any, or the failure, is the answer
abbrev pub MayGive : {V : Type 0} → (V → List ℕ) → Result (Option V) Failure
    → Result (List ℕ) Refusal → Type 0
MayGive view (Ok None) answer = ⊤
MayGive view (Ok (Some bytes)) answer = answer ≡ Ok (view bytes)
MayGive view (Err e) answer = Fails e answer
