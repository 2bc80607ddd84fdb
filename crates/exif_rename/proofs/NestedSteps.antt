-- Folders that end in the folders of a new name.
use Rattle.std.proofs.Common.{◌≡◌, ◌≤◌, ◌<◌, ℕ, zero, suc, List, [], ◌∷◌, ◌++◌, ap, sym, ◌∙◌, length, arith}
use Rattle.std.specs.Prelude.{slice_index}
use Rattle.std.specs.Str.{IsCharBoundary, IsUtf8}
use Rattle.std.proofs.lemmas.Str.{IsCharBoundary-start}
use Rattle.std.proofs.lemmas.List.{append_assoc, append_cancel_right}
use Rattle.exif_rename.specs.Nested.{IsNested, folders_of}

pub boundary : (name : List ℕ) (n : ℕ) → IsUtf8 name → n ≤ length name → (0 < n → slice_index name n ≡ 47) → IsCharBoundary name n
boundary name zero utf8 le slash = IsCharBoundary-start name utf8
boundary name (suc n) utf8 le slash = (le, λ lt high. let is = slash (omega arith) in absurd (omega (arith, is, high)))

pub nested_suffix : (folder name sub root : List ℕ) → folders_of name ≡ sub → IsNested folder name root → folder ≡ (root ++ 47 ∷ []) ++ sub
nested_suffix folder name sub root e nested = nested.1 ∙ ap (λ (f : List ℕ). root ++ 47 ∷ f) e ∙ sym (append_assoc root (47 ∷ []) sub)

-- what is before the folders ends in a `/`
pub nested_above : (folder name sub above root : List ℕ) → folders_of name ≡ sub → folder ≡ above ++ sub → IsNested folder name root → above ≡ root ++ 47 ∷ []
nested_above folder name sub above root e split nested = append_cancel_right above (root ++ 47 ∷ []) sub (sym split ∙ nested_suffix folder name sub root e nested)
