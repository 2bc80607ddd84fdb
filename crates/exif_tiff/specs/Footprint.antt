-- Where reading looks: the stretches of the data on which what they hold depends.
use Rattle.std.specs.Prelude.{◌≡◌, ℕ, zero, suc, ◌+◌, ◌*◌, ◌==◌, ◌&&◌, nat_le, nat_lt, Bool, if◌then◌else◌, List, [], ◌∷◌, ◌++◌, All, length, map, Option, Some, None, Result, Ok, Err}
use Rattle.std.specs.List.{flat_map}
use Rattle.exif_base.specs.Bytes.{Reading, bytes_at, number_at}
use Rattle.exif_base.specs.Orders.{number_of}
use Rattle.exif_text.specs.FieldTypes.{type_of, known_length}
use Rattle.exif_types.specs.Numbers.{number_in}
use Rattle.exif_types.specs.declared.value.Value.{Value}
use Rattle.exif_table.specs.declared.context.Context.{Context}
use Rattle.exif_table.specs.declared.context.Context.TheVariants.{Tiff}
use Rattle.exif_tiff.specs.declared.fault.Fault.{Fault}
use Rattle.exif_tiff.specs.Answers.{raw_answer}
use Rattle.exif_tiff.specs.declared.offset.DirectoryOffset.{DirectoryOffset}
use Rattle.exif_tiff.specs.Trace.{child_of, depth_of, directories_of, directory_end, entry_offsets, entry_value, header, ordered_trace, trace, whole_entries}

-- this many bytes from an offset on
pub record Stretch : Type 0 where
  pub offset : ℕ
  pub len : ℕ

-- ---- the directories

-- the directory of a context at an offset, and those below it
abbrev pub Below : Type 0
Below = Context → ℕ → List ℕ

-- what a pointer to a directory of context d leads to, if it names an offset
abbrev pub named : Below → Context → Option ℕ → List ℕ
named below d None = []
named below d (Some q) = below d q

-- the same of a value, if the tag has a child and the value lies in the data
abbrev pub pointed : Below → Option Context → Option Value → List ℕ
pointed below (Some d) (Some v) = named below d (number_in v 0)
pointed below _ _ = []

-- the directories below the entry at e of a directory of context c
abbrev pub entry_directories : Below → Reading → List ℕ → Context → ℕ → List ℕ
entry_directories below number bytes c e =
    pointed below (child_of c (number_at number 2 bytes e)) (entry_value number bytes e)

-- the directory of context c at p, and its children down to a depth
abbrev pub directories : ℕ → Reading → List ℕ → Below
directories zero number bytes c p = p ∷ []
directories (suc depth) number bytes c p =
    p ∷ flat_map (entry_directories (directories depth number bytes) number bytes c)
    (entry_offsets number bytes p)

-- what follows a directory of a chain, if that names a next one
abbrev pub following : (ℕ → List ℕ) → Result ℕ Fault → List ℕ
following rest (Err fault) = []
following rest (Ok next) = rest next

-- the directories of a chain from p on, at most so many of them, each with its children
abbrev pub chain_directories : ℕ → Reading → List ℕ → ℕ → List ℕ
chain_directories zero number bytes p = []
chain_directories (suc left) number bytes p =
    if p == 0 then []
    else directories (depth_of Tiff) number bytes Tiff p
    ++ following (chain_directories left number bytes) (directory_end number bytes p)

-- ---- what is looked at

-- the directory at p: its count, its whole entries, and its next offset
abbrev pub directory_stretch : Reading → List ℕ → ℕ → Stretch
directory_stretch number bytes p =
    record { offset = p; len = 2 + 12 * whole_entries number bytes p + 4 }

-- the value of the entry at e, if it is outside of the entry and lies in the data
abbrev pub value_stretch : Reading → List ℕ → ℕ → List Stretch
value_stretch number bytes e =
    let size = known_length (type_of (number_at number 2 bytes (e + 2)))
    * number_at number 4 bytes (e + 4) in
    let offset = number_at number 4 bytes (e + 8) in
    if nat_lt 4 size && nat_le (offset + size) (length bytes)
    then record { offset = offset; len = size } ∷ [] else []

-- the directory at p, and the values of its entries
abbrev pub looked_at : Reading → List ℕ → ℕ → List Stretch
looked_at number bytes p =
    directory_stretch number bytes p
    ∷ flat_map (value_stretch number bytes) (entry_offsets number bytes p)

-- the directories of data of this order, with their values
abbrev pub ordered_footprint : Reading → List ℕ → List Stretch
ordered_footprint number bytes =
    flat_map (looked_at number bytes)
    (chain_directories 8 number bytes (number_at number 4 bytes 4))

-- the header, and all directories with their values; of data with a wrong header it alone
abbrev pub footprint : List ℕ → List Stretch
footprint bytes =
    record { offset = 0; len = 8 }
    ∷ elim (header bytes) [
      | Ok order ↦ ordered_footprint (number_of order) bytes
      | Err fault ↦ []
    ]

-- ---- laws

-- the same bytes are in a stretch of both
abbrev pub Agree : List ℕ → List ℕ → Stretch → Type 0
Agree a b s = bytes_at s.len a s.offset ≡ bytes_at s.len b s.offset

-- data as long that agree on the footprint of the one have it too
abbrev pub FootprintIsShared : List ℕ → List ℕ → Type 0
FootprintIsShared a b =
    length a ≡ length b → All (Agree a b) (footprint a) → footprint a ≡ footprint b

-- they hold the same
abbrev pub FootprintSettlesTrace : List ℕ → List ℕ → Type 0
FootprintSettlesTrace a b =
    length a ≡ length b → All (Agree a b) (footprint a) → trace a ≡ trace b

-- and reading answers the same of both
abbrev pub FootprintSettlesAnswer : Bool → Option ℕ → List ℕ → List ℕ → Type 0
FootprintSettlesAnswer lenient limit a b =
    length a ≡ length b → All (Agree a b) (footprint a)
    → raw_answer lenient limit a ≡ raw_answer lenient limit b

-- the directories that are visited are those that are looked at, in their order
abbrev pub VisitsWhatIsLookedAt : Reading → List ℕ → Type 0
VisitsWhatIsLookedAt number bytes =
    map (λ (d : DirectoryOffset). d.offset) (directories_of (ordered_trace number bytes))
    ≡ chain_directories 8 number bytes (number_at number 4 bytes 4)
