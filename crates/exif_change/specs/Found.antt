-- Metadata that are found in a new file: what is none of its picture's is answered.
use Rattle.std.specs.Prelude.{◌≡◌, ℕ, ◌==◌, ◌&&◌, not, nat_lt, Bool, true, false, List, [], ◌∷◌, ◌++◌, length, slice_index, map, Contains, Option, None, Some, Result, Ok, Err, if◌then◌else◌}
use Rattle.exif_inventory.specs.declared.kind.Kind.{Kind}
use Rattle.exif_inventory.specs.declared.kind.Kind.TheVariants as kind
use Rattle.exif_inventory.specs.declared.part.Part.{Part}
use Rattle.exif_lengths.specs.Walks.{measured_inventory}
use Rattle.exif_change.specs.Changed.{Change, Undone, still_there}
use Rattle.exif_change.specs.Refusals.{Reason}

-- whether a part is not known
abbrev pub is_unknown : Kind → Bool
is_unknown kind.Unknown = true
is_unknown k = false

-- whether a part of this kind is what a picture needs, or Exif data that were put
abbrev pub is_wanted : Bool → Kind → Bool
is_wanted put kind.Picture = true
is_wanted put kind.Jfif = true
is_wanted put kind.Adobe = true
is_wanted put kind.IccProfile = true
is_wanted put kind.Exif = put
is_wanted put k = false

-- whether a part belongs to a file without metadata: to its first picture
abbrev pub belongs : Bool → Part → Bool
belongs put part = (part.picture == 0) && is_wanted put part.kind

-- the parts that do not, behind others
abbrev pub foreign : Bool → List Part → List Part → List Part
foreign put [] found = found
foreign put (part ∷ parts) found =
    foreign put parts (if belongs put part then found else found ++ part ∷ [])

-- those of a JPEG, WebP, PNG or JPEG XL file; a piece of the picture whose length is not the one
-- that its standard gives is a part that is not known
abbrev pub found_in : Bool → List ℕ → List Part
found_in put file =
    elim (measured_inventory file) [ Some parts ↦ foreign put parts [] | None ↦ [] ]

-- a change that left these parts too, which may hold metadata
abbrev pub with_parts : List Part → Result Change Reason → Result Change Reason
with_parts parts (Ok change) = Ok (record {
  file = change.file;
  undone = change.undone ++ map (λ part. Some (still_there part)) parts;
})
with_parts parts (Err why) = Err why

-- a file that was rewritten, with what is found in it that does not belong there
abbrev pub with_found : Bool → Result Change Reason → Result Change Reason
with_found put (Ok change) = with_parts (found_in put change.file) (Ok change)
with_found put (Err why) = Err why

-- whether a part is bytes outside of segments: no marker is at their front (ITU-T T.81, B.1.1.2)
abbrev pub is_loose : List ℕ → Part → Bool
is_loose file part =
    is_unknown part.kind && nat_lt part.offset (length file)
    && not (slice_index file part.offset == 255)

-- of these parts, behind others, the bytes outside of segments that follow a part which does not
-- belong to a file without metadata: where that goes, they are bytes of the scan before it
abbrev pub loose_behind : List ℕ → Bool → List Part → List Part → List Part
loose_behind file belonged [] found = found
loose_behind file belonged (part ∷ parts) found =
    loose_behind file (belongs false part) parts
    (if not belonged && is_loose file part then found ++ part ∷ [] else found)

-- such bytes of a JPEG file
abbrev pub loose_parts : List ℕ → List Part
loose_parts file =
    elim (measured_inventory file) [ Some parts ↦ loose_behind file true parts [] | None ↦ [] ]

-- a part that does not belong to a file without metadata is among what was left
abbrev pub IsAnswered : Bool → List (Option Undone) → Part → Type 0
IsAnswered put undone part =
    belongs put part ≡ false → Contains undone (Some (still_there part))
