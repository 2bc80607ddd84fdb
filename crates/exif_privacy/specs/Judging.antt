-- Why the parts of a file may hold a location.
use Rattle.std.specs.Prelude.{ℕ, zero, suc, ◌-◌, List, [], ◌∷◌, take}
use Rattle.exif_inventory.specs.declared.kind.Kind.TheVariants as kind
use Rattle.exif_inventory.specs.declared.part.Part.{Part}
use Rattle.exif_privacy.specs.Data.{data_of}
use Rattle.exif_privacy.specs.Parts.{part_reasons}
use Rattle.exif_privacy.specs.Portions.{joined, joined_len}
use Rattle.exif_privacy.specs.declared.reasons.Reasons.{Reasons}
use Rattle.exif_privacy.specs.declared.remaining.Reason.{Reason}
use Rattle.exif_locations.specs.declared.unread.Unread.{Unread}

-- reasons, and of how many parts that follow they are, too
abbrev pub reasons_view : Reasons → List Reason × ℕ
reasons_view reasons = (reasons.whys.items, reasons.left)

-- the reasons of a part, or of the packet whose portions are in the first n parts
abbrev pub front_reasons : Unread → List ℕ → ℕ → Part → List Part → List Reason
front_reasons unread file zero part parts = part_reasons unread part.kind (data_of part file)
front_reasons unread file (suc n) part parts =
    part_reasons unread kind.Xmp (joined (take (suc n) (part ∷ parts)) file)

-- the reasons of the first of these parts
abbrev pub first_reasons : Unread → List ℕ → List Part → List Reason × ℕ
first_reasons unread file [] = ([], 0)
first_reasons unread file (part ∷ parts) =
    let n = joined_len file (part ∷ parts) in (front_reasons unread file n part parts, n - 1)

-- so behind others: those of a packet are of each of its portions
abbrev pub next_reasons : Unread → List ℕ → List Reason × ℕ → List Part → List Reason × ℕ
next_reasons unread file (whys, suc left) parts = (whys, left)
next_reasons unread file (whys, zero) parts = first_reasons unread file parts

-- parts with their reasons, behind others
abbrev pub judged_from : Unread → List ℕ → List Reason × ℕ → List Part → List (Part × List Reason)
judged_from unread file reasons [] = []
judged_from unread file reasons (part ∷ parts) =
    let now = next_reasons unread file reasons (part ∷ parts) in
    (part, now.0) ∷ judged_from unread file now parts

-- all parts of a file with their reasons
abbrev pub judged : Unread → List ℕ → List Part → List (Part × List Reason)
judged unread file parts = judged_from unread file ([], 0) parts
