-- Which faults are hard, so that nothing is read, and which are soft, so that reading may pass over
-- them.
use Rattle.std.specs.Prelude.{ℕ, ◌≡◌, ◌<◌, ◌↔◌, ◌⊎◌, Bool, true, false, List, length, Option, is_some, Err}
use Rattle.std.specs.List.{All}
use Rattle.exif_types.specs.declared.field.Field.{Field}
use Rattle.exif_tiff.specs.declared.fault.Fault.{Fault}
use Rattle.exif_tiff.specs.declared.fault.Fault.TheVariants.{DataTooLarge, TruncatedHeader, InvalidByteOrder, InvalidFortyTwo, TruncatedCount, TruncatedDirectory, TruncatedNextOffset, TruncatedValue, InvalidPointer, UnexpectedNext, TooManyDirectories, TooManyEntries}
use Rattle.exif_tiff.specs.Trace.{header, trace, limited, faults_of}
use Rattle.exif_tiff.specs.Answers.{Refused, Partial, raw_answer}

-- the four faults of a header
abbrev pub is_hard : Fault → Bool
is_hard DataTooLarge = true
is_hard TruncatedHeader = true
is_hard InvalidByteOrder = true
is_hard InvalidFortyTwo = true
is_hard TruncatedCount = false
is_hard TruncatedDirectory = false
is_hard TruncatedNextOffset = false
is_hard TruncatedValue = false
is_hard InvalidPointer = false
is_hard UnexpectedNext = false
is_hard TooManyDirectories = false
is_hard TooManyEntries = false

-- the seven faults behind a header
abbrev pub is_soft : Fault → Bool
is_soft DataTooLarge = false
is_soft TruncatedHeader = false
is_soft InvalidByteOrder = false
is_soft InvalidFortyTwo = false
is_soft TruncatedCount = true
is_soft TruncatedDirectory = true
is_soft TruncatedNextOffset = true
is_soft TruncatedValue = true
is_soft InvalidPointer = true
is_soft UnexpectedNext = true
is_soft TooManyDirectories = true
is_soft TooManyEntries = false

-- these, and with a limit on the visited entries an eighth
abbrev pub is_soft_under : Option ℕ → Fault → Bool
is_soft_under limit TooManyEntries = is_some limit
is_soft_under limit fault = is_soft fault

-- each fault that data hold is soft
abbrev pub FaultsAreSoft : List ℕ → Type 0
FaultsAreSoft bytes = All (λ fault. is_soft fault ≡ true) (faults_of (trace bytes))

-- also under a limit
abbrev pub FaultsAreSoftUnder : Option ℕ → List ℕ → Type 0
FaultsAreSoftUnder limit bytes =
    All (λ fault. is_soft_under limit fault ≡ true) (faults_of (limited limit (trace bytes)))

-- lenient reading passes over soft faults alone
abbrev pub PassesSoftFaults : Option ℕ → List ℕ → Type 0
PassesSoftFaults limit bytes =
    (fields : List Field) (faults : List Fault)
    → raw_answer true limit bytes ≡ Partial fields faults
    → All (λ fault. is_soft_under limit fault ≡ true) faults

-- a refusal is the header's fault, or in strict mode a soft one
abbrev pub RefusesHardOrSoft : Bool → Option ℕ → List ℕ → Type 0
RefusesHardOrSoft lenient limit bytes =
    (fault : Fault) → raw_answer lenient limit bytes ≡ Refused fault
    → (header bytes ≡ Err fault) ⊎ ((lenient ≡ false) × (is_soft_under limit fault ≡ true))

-- a header's faults are hard
abbrev pub HeaderFaultsAreHard : List ℕ → Type 0
HeaderFaultsAreHard bytes = (fault : Fault) → header bytes ≡ Err fault → is_hard fault ≡ true

-- data are too large exactly where offsets of 32 bits don't reach their end
abbrev pub TooLargeIsExact : List ℕ → Type 0
TooLargeIsExact bytes = (header bytes ≡ Err DataTooLarge) ↔ (4294967295 < length bytes)
