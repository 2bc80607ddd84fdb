-- Bytes that begin with a word, or have it further on.
use Rattle.std.proofs.Common.{◌≡◌, ℕ, ◌<◌, true, false, List, [], ◌∷◌, length, take, drop, nat_eq, refl, ap, ◌∙◌, arith}
use Rattle.std.specs.Prelude.{◌&&◌, ◌||◌}
use Rattle.std.specs.Cmp.Lexicographic.{pointwise}
use Rattle.std.proofs.lemmas.Bool.Decides.{nat_tests}
use Rattle.exif_locations.specs.XmpNames.{begins}
use Rattle.exif_geotag.specs.Formats.{holds}

either_way : (a b : ℕ) → nat_eq a b ≡ nat_eq b a
either_way a b = grind (arith, nat_tests)

-- the test of a slice
pub begins_is : (word bytes : List ℕ) → pointwise nat_eq word (take (length word) bytes) ≡ begins bytes word
begins_is [] bytes = refl
begins_is (w ∷ word) [] = refl
begins_is (w ∷ word) (b ∷ bytes) =
    ap (λ t. t && pointwise nat_eq word (take (length word) bytes)) (either_way w b) ∙ ap (λ t. nat_eq b w && t) (begins_is word bytes)

-- bytes that begin with it have it
pub holds_here : (word bytes : List ℕ) → 0 < length bytes → begins bytes word ≡ true → holds word bytes ≡ true
holds_here word [] h e = absurd (omega arith)
holds_here word (b ∷ bytes) h e = ap (λ t. t || holds word bytes) e

-- others have it further on
pub holds_later : (word bytes : List ℕ) → 0 < length bytes → begins bytes word ≡ false → holds word bytes ≡ holds word (drop 1 bytes)
holds_later word [] h e = absurd (omega arith)
holds_later word (b ∷ bytes) h e = ap (λ t. t || holds word bytes) e
