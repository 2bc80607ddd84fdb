-- What a reader of files makes of an image.
use Rattle.std.specs.Prelude.{ℕ, ◌≡◌, List, Ok}
use Rattle.exif_containers.specs.Container.{container_answer}

-- an image is its own container, so that it is read through a file as well
abbrev pub ContainsItself : List ℕ → Type 0
ContainsItself image = container_answer image ≡ Ok image
