-- What is promised of writing what was read, of equal images, and of the two byte orders.
use Rattle.std.specs.Prelude.{ℕ, suc, ◌≡◌, ◌↔◌, Bool, List, [], ◌∷◌, length, map, Option, Some, None}
use Rattle.exif_base.specs.declared.endian.Order.{Order}
use Rattle.exif_base.specs.declared.endian.Order.TheVariants.{Big, Little}
use Rattle.exif_types.specs.declared.field.Field.{Field}
use Rattle.exif_tiff.specs.Answers.{Whole, raw_answer}
use Rattle.exif_layout.specs.Groups.{Group, pushed, strips_set, tiles_set, jpeg_set}
use Rattle.exif_layout.specs.Image.{image}
use Rattle.exif_layout.specs.Flat.{flat}
use Rattle.exif_layout.specs.Ranged.{AreReadable}

-- the fields pushed one after the other
abbrev pub pushed_all : List Field → List Group → List Group
pushed_all [] groups = groups
pushed_all (field ∷ fields) groups = pushed_all fields (pushed field groups)

-- blocks that are set, if there are any
abbrev pub set_if :
    {X : Type 0} → (X → ℕ → List Group → List Group) → Option X → ℕ → List Group → List Group
set_if setter None ifd groups = groups
set_if setter (Some blocks) ifd groups = setter blocks ifd groups

-- the blocks of one group set in the directory with a number
abbrev pub blocks_set : Group → ℕ → List Group → List Group
blocks_set group ifd groups =
    set_if jpeg_set group.jpeg ifd
    (set_if tiles_set group.tiles ifd (set_if strips_set group.strips ifd groups))

-- the blocks of each group set in its directory
abbrev pub all_blocks_set : ℕ → List Group → List Group → List Group
all_blocks_set ifd [] groups = groups
all_blocks_set ifd (from ∷ more) groups = all_blocks_set (suc ifd) more (blocks_set from ifd groups)

-- the groups that pushing the flat fields and setting the same blocks makes in a new writer
abbrev pub rewritten : List Group → List Group
rewritten groups = all_blocks_set 0 groups (pushed_all (flat groups) [])

-- writing what an image holds gives the same image
abbrev pub RewritesSame : Order → List Group → Type 0
RewritesSame order groups = image order (rewritten groups) ≡ image order groups

-- what is read of the image in one order, pushed into a new writer with the same blocks, gives the
-- image in each order
abbrev pub RewritesInEachOrder : Order → List Group → Type 0
RewritesInEachOrder order groups =
    (lenient : Bool) (fields : List Field) (other : Order)
    → raw_answer lenient None (image order groups) ≡ Whole fields
    → image other (all_blocks_set 0 groups (pushed_all fields [])) ≡ image other groups

-- the blocks of a directory
pub record BlocksOf : Type 0 where
  pub strips : Option (List (List ℕ))
  pub tiles : Option (List (List ℕ))
  pub jpeg : Option (List ℕ)

-- the blocks of each directory of the chain, in the order of their numbers
abbrev pub all_blocks : List Group → List BlocksOf
all_blocks groups =
    map (λ group. record { strips = group.strips; tiles = group.tiles; jpeg = group.jpeg }) groups

-- two images in one byte order are equal exactly where their fields and their blocks are
abbrev pub EqualByContents : Order → List Group → Type 0
EqualByContents order groups =
    (others : List Group) → AreReadable others
    → (image order groups ≡ image order others)
    ↔ ((flat groups ≡ flat others) × (all_blocks groups ≡ all_blocks others))

-- the two byte orders give images of one length
abbrev pub LengthsAgree : List Group → Type 0
LengthsAgree groups = length (image Big groups) ≡ length (image Little groups)

-- they are read alike
abbrev pub OrdersAgree : List Group → Type 0
OrdersAgree groups =
    (lenient : Bool)
    → raw_answer lenient None (image Big groups) ≡ raw_answer lenient None (image Little groups)
