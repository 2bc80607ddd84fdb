-- The directories of TIFF data, as a list of what is in them from first to last (TIFF 6.0,
-- section 2; Exif 2.32, 4.6.3).
use Rattle.std.specs.Prelude.{ℕ, zero, suc, ◌+◌, ◌-◌, ◌*◌, ◌/◌, ◌^◌, ◌==◌, ◌&&◌, true, false, if◌then◌else◌, nat_lt, nat_le, min, List, [], ◌∷◌, ◌++◌, length, slice_index, Option, Some, None, Result, Ok, Err}
use Rattle.std.specs.List.{flat_map}
use Rattle.exif_base.specs.Bytes.{Reading, number_at, spaced}
use Rattle.exif_base.specs.Orders.{number_of}
use Rattle.exif_text.specs.FieldTypes.{type_of, known_length}
use Rattle.exif_tiff.specs.Decode.{decode}
use Rattle.exif_types.specs.Numbers.{number_in}
use Rattle.exif_types.specs.declared.value.Value.{Value}
use Rattle.exif_table.specs.declared.context.Context.{Context}
use Rattle.exif_table.specs.declared.context.Context.TheVariants.{Tiff, Exif, Gps, Interop}
use Rattle.exif_types.specs.declared.field.Field.{Field}
use Rattle.exif_tiff.specs.declared.fault.Fault.{Fault}
use Rattle.exif_tiff.specs.declared.fault.Fault.TheVariants.{DataTooLarge, TruncatedHeader, InvalidByteOrder, InvalidFortyTwo, TruncatedCount, TruncatedDirectory, TruncatedNextOffset, TruncatedValue, InvalidPointer, UnexpectedNext, TooManyDirectories, TooManyEntries}
use Rattle.exif_tiff.specs.declared.offset.DirectoryOffset.{DirectoryOffset}
use Rattle.exif_tiff.specs.declared.offset.EntryOffset.{EntryOffset}
use Rattle.exif_base.specs.declared.endian.Order.{Order}
use Rattle.exif_base.specs.declared.endian.Order.TheVariants.{Big, Little}

-- a field, the offset of the 12 bytes of its entry, and that of the directory which has it
pub record Located : Type 0 where
  pub field : Field
  pub entry : ℕ
  pub directory : ℕ

-- its offsets alone
abbrev pub entry_of : Located → EntryOffset
entry_of l = record { entry = l.entry; directory = l.directory }

-- what is in a trace: a directory is opened, an entry is visited, a field is found, a fault is
-- met
pub data Node : Type 0 where
  Opens : DirectoryOffset → Node
  Visit : Node
  Found : Located → Node
  Met : Fault → Node

-- what the entry at e holds, if its value lies in the data
abbrev pub entry_value : Reading → List ℕ → ℕ → Option Value
entry_value number bytes e =
    let type = number_at number 2 bytes (e + 2) in
    let count = number_at number 4 bytes (e + 4) in
    let size = known_length (type_of type) * count in
    let offset = number_at number 4 bytes (e + 8) in
    if nat_le size 4 then Some (decode number type count bytes (e + 8)) else
    (if nat_le (offset + size) (length bytes)
    then Some (decode number type count bytes offset)
    else None)

-- how many entries of the directory at p are whole
abbrev pub whole_entries : Reading → List ℕ → ℕ → ℕ
whole_entries number bytes p = min (number_at number 2 bytes p) ((length bytes - p - 2) / 12)

-- where they are
abbrev pub entry_offsets : Reading → List ℕ → ℕ → List ℕ
entry_offsets number bytes p = spaced (p + 2) 12 (whole_entries number bytes p)

-- how the directory at p ends: with the offset of the next one, or a fault
abbrev pub directory_end : Reading → List ℕ → ℕ → Result ℕ Fault
directory_end number bytes p =
    let count = number_at number 2 bytes p in
    if nat_lt (length bytes) (p + 2) then Err TruncatedCount else
    (if nat_lt ((length bytes - p - 2) / 12) count then Err TruncatedDirectory else
    (if nat_lt (length bytes) (p + 2 + 12 * count + 4) then Err TruncatedNextOffset else
    Ok (number_at number 4 bytes (p + 2 + 12 * count))))

-- the context of the directory that a tag points to
abbrev pub child_of : Context → ℕ → Option Context
child_of Tiff n = if n == 0x8769 then Some Exif else (if n == 0x8825 then Some Gps else None)
child_of Exif n = if n == 0xa005 then Some Interop else None
child_of Gps n = None
child_of Interop n = None

-- a child must be the last of its chain
abbrev pub child_end : Result ℕ Fault → List Node
child_end (Err fault) = Met fault ∷ []
child_end (Ok next) = if next == 0 then [] else Met UnexpectedNext ∷ []

-- what the directory of context c at offset p holds
abbrev pub Directory : Type 0
Directory = Context → ℕ → List Node

-- a pointer to q, if it names an offset
abbrev pub pointer_nodes : Directory → Reading → List ℕ → Context → Option ℕ → List Node
pointer_nodes child number bytes c None = Met InvalidPointer ∷ []
pointer_nodes child number bytes c (Some q) = child c q ++ child_end (directory_end number bytes q)

-- the field of a value v, of tag n in a directory of context c and number k
abbrev pub field_of : Context → ℕ → ℕ → Value → Field
field_of c k n v =
    record { tag = record { 0 = c; 1 = n }; ifd_num = record { 0 = k }; value = v }

-- a tag n with a value, in the entry at e: a field, or a pointer where the tag has a child
abbrev pub tagged_nodes :
    Directory → Reading → List ℕ → Context → ℕ → ℕ → ℕ → ℕ → Value → Option Context → List Node
tagged_nodes child number bytes c k p n e v None =
    Found (record { field = field_of c k n v; entry = e; directory = p }) ∷ []
tagged_nodes child number bytes c k p n e v (Some d) =
    pointer_nodes child number bytes d (number_in v 0)

-- a tag n with its value, if that lies in the data
abbrev pub valued_nodes :
    Directory → Reading → List ℕ → Context → ℕ → ℕ → ℕ → ℕ → Option Value → List Node
valued_nodes child number bytes c k p n e None = Met TruncatedValue ∷ []
valued_nodes child number bytes c k p n e (Some v) =
    tagged_nodes child number bytes c k p n e v (child_of c n)

-- the entry at e of the directory at p, of context c and number k
abbrev pub entry_nodes : Directory → Reading → List ℕ → Context → ℕ → ℕ → ℕ → List Node
entry_nodes child number bytes c k p e =
    Visit
    ∷ valued_nodes child number bytes c k p (number_at number 2 bytes e) e
    (entry_value number bytes e)

-- a directory is opened, before what its entries hold
abbrev pub opened : Context → ℕ → List Node → List Node
opened c p nodes = Opens (record { offset = p; context = c }) ∷ nodes

-- the directory at p, with its children down to a depth
abbrev pub directory_nodes : ℕ → Reading → List ℕ → ℕ → Directory
directory_nodes zero number bytes k c p = opened c p []
directory_nodes (suc depth) number bytes k c p =
    opened c p (flat_map (entry_nodes (directory_nodes depth number bytes k) number bytes c k p)
    (entry_offsets number bytes p))

-- how deep directories of a context nest: Tiff, Exif, Interop or Tiff, Gps
abbrev pub depth_of : Context → ℕ
depth_of Tiff = 3
depth_of Exif = 2
depth_of Gps = 2
depth_of Interop = 1

-- what comes after a directory of a chain: a fault, or the rest of the chain
abbrev pub chain_after : (ℕ → List Node) → Result ℕ Fault → List Node
chain_after rest (Err fault) = Met fault ∷ []
chain_after rest (Ok next) = rest next

-- the chain from directory k at p on, for at most so many directories
abbrev pub chain_nodes : ℕ → Reading → List ℕ → ℕ → ℕ → List Node
chain_nodes zero number bytes k p = if p == 0 then [] else Met TooManyDirectories ∷ []
chain_nodes (suc left) number bytes k p =
    elim (p == 0) [
      | true ↦ []
      | false ↦ directory_nodes (depth_of Tiff) number bytes k Tiff p
          ++ chain_after (chain_nodes left number bytes (k + 1)) (directory_end number bytes p)
    ]

-- the order that the data begin with, if they begin with one
abbrev pub order_of : List ℕ → Option Order
order_of bytes =
    if (slice_index bytes 0 == 0x4d) && (slice_index bytes 1 == 0x4d) then Some Big else
    (if (slice_index bytes 0 == 0x49) && (slice_index bytes 1 == 0x49) then Some Little else None)

-- the order of a right header, or the first fault of the data's length, the order and the 42
abbrev pub header : List ℕ → Result Order Fault
header bytes =
    if nat_lt (2 ^ 32 - 1) (length bytes) then Err DataTooLarge else
    (if nat_lt (length bytes) 8 then Err TruncatedHeader else
    elim (order_of bytes) [
      | None ↦ Err InvalidByteOrder
      | Some order ↦
          if number_at (number_of order) 2 bytes 2 == 42 then Ok order else Err InvalidFortyTwo
    ])

-- what is in data with this order
unfoldable pub ordered_trace : Reading → List ℕ → List Node
ordered_trace number bytes = chain_nodes 8 number bytes 0 (number_at number 4 bytes 4)

-- what is in the data: nothing behind a wrong header
unfoldable pub trace : List ℕ → List Node
trace bytes =
    elim (header bytes) [ Ok order ↦ ordered_trace (number_of order) bytes | Err fault ↦ [] ]

-- the fields of a trace, from first to last
abbrev pub fields_of : List Node → List Field
fields_of [] = []
fields_of (Opens directory ∷ nodes) = fields_of nodes
fields_of (Visit ∷ nodes) = fields_of nodes
fields_of (Found l ∷ nodes) = l.field ∷ fields_of nodes
fields_of (Met fault ∷ nodes) = fields_of nodes

-- the faults of a trace, from first to last
abbrev pub faults_of : List Node → List Fault
faults_of [] = []
faults_of (Opens directory ∷ nodes) = faults_of nodes
faults_of (Visit ∷ nodes) = faults_of nodes
faults_of (Found l ∷ nodes) = faults_of nodes
faults_of (Met fault ∷ nodes) = fault ∷ faults_of nodes

-- how many entries a trace visits
abbrev pub visits_of : List Node → ℕ
visits_of [] = 0
visits_of (Opens directory ∷ nodes) = visits_of nodes
visits_of (Visit ∷ nodes) = visits_of nodes + 1
visits_of (Found l ∷ nodes) = visits_of nodes
visits_of (Met fault ∷ nodes) = visits_of nodes

-- the fields, each with its offsets
abbrev pub located_of : List Node → List Located
located_of [] = []
located_of (Opens directory ∷ nodes) = located_of nodes
located_of (Visit ∷ nodes) = located_of nodes
located_of (Found l ∷ nodes) = l ∷ located_of nodes
located_of (Met fault ∷ nodes) = located_of nodes

-- the directories, those of the chain and their children
abbrev pub directories_of : List Node → List DirectoryOffset
directories_of [] = []
directories_of (Opens directory ∷ nodes) = directory ∷ directories_of nodes
directories_of (Visit ∷ nodes) = directories_of nodes
directories_of (Found l ∷ nodes) = directories_of nodes
directories_of (Met fault ∷ nodes) = directories_of nodes

-- what was read: the fields and the faults, in order
pub record Content : Type 0 where
  pub fields : List Field
  pub faults : List Fault

-- what was read by a trace: its fields and its faults
abbrev pub content_of : List Node → Content
content_of nodes = record { fields = fields_of nodes; faults = faults_of nodes }

-- strict reading: all the fields, or the first fault
abbrev pub strict_answer : Content → Result (List Field) Fault
strict_answer content = elim content.faults [ [] ↦ Ok content.fields | fault ∷ faults ↦ Err fault ]

-- the trace up to the entry after the first n, and the fault that ends it there
abbrev pub cut : ℕ → List Node → List Node
cut n [] = []
cut n (Opens directory ∷ nodes) = Opens directory ∷ cut n nodes
cut zero (Visit ∷ nodes) = Met TooManyEntries ∷ []
cut (suc n) (Visit ∷ nodes) = Visit ∷ cut n nodes
cut n (Found l ∷ nodes) = Found l ∷ cut n nodes
cut n (Met fault ∷ nodes) = Met fault ∷ cut n nodes

-- the trace under a limit on the entries, if there is one
abbrev pub limited : Option ℕ → List Node → List Node
limited None nodes = nodes
limited (Some n) nodes = cut n nodes
