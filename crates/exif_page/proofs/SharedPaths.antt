-- What two paths share where one of them is over.
use Rattle.std.proofs.Common.{◌≡◌, ◌≤◌, ℕ, List, [], ◌∷◌, length, drop, refl}
use Rattle.std.proofs.lemmas.List.{drop_all}
use Rattle.exif_page.specs.Links.{common}

-- nothing more is shared behind the end of a path
none_shared : (last at : ℕ) (folder : List ℕ) → common last at folder [] ≡ last
none_shared last at [] = refl
none_shared last at (byte ∷ folder) = refl

-- the same of what is left of a path
pub shared_so_far : (last at : ℕ) (folder path : List ℕ) → length path ≤ at
    → common last at folder (drop at path) ≡ last
shared_so_far last at folder path over = rw (drop_all at path over) (none_shared last at folder)
