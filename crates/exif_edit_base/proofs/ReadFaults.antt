-- The derived test of faults.
use Rattle.std.proofs.Common.{◌≡◌, List, [], ◌∷◌, refl}
use Rattle.std.specs.Cmp.Lexicographic.{pointwise}
use Rattle.exif_tiff.specs.declared.fault.Fault.{Fault}
use Rattle.exif_tiff.specs.declared.fault.Fault.TheVariants.{DataTooLarge, TruncatedHeader, InvalidByteOrder, InvalidFortyTwo, TruncatedCount, TruncatedDirectory, TruncatedNextOffset, TruncatedValue, InvalidPointer, UnexpectedNext, TooManyDirectories, TooManyEntries}
use Rattle.exif_tiff.specs.contracts.fault.FaultPartialEq.TheImpl.{eq-value}
use Rattle.exif_edit_base.specs.Readings.{fault_eq}

fault_same : (f g : Fault) → eq-value.it f g ≡ fault_eq f g
fault_same DataTooLarge DataTooLarge = refl
fault_same TruncatedHeader TruncatedHeader = refl
fault_same InvalidByteOrder InvalidByteOrder = refl
fault_same InvalidFortyTwo InvalidFortyTwo = refl
fault_same TruncatedCount TruncatedCount = refl
fault_same TruncatedDirectory TruncatedDirectory = refl
fault_same TruncatedNextOffset TruncatedNextOffset = refl
fault_same TruncatedValue TruncatedValue = refl
fault_same InvalidPointer InvalidPointer = refl
fault_same UnexpectedNext UnexpectedNext = refl
fault_same TooManyDirectories TooManyDirectories = refl
fault_same TooManyEntries TooManyEntries = refl
fault_same _ _ = refl

-- the derived test of faults and that of the specification answer the same of two lists
pub faults_same : (xs ys : List Fault) → pointwise eq-value.it xs ys ≡ pointwise fault_eq xs ys
faults_same [] [] = refl
faults_same [] (y ∷ ys) = refl
faults_same (x ∷ xs) [] = refl
faults_same (x ∷ xs) (y ∷ ys) = rw (fault_same x y, faults_same xs ys) refl
