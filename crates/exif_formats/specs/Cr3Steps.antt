-- What the steps of the CR3 reader answer.
use Rattle.std.specs.Prelude.{◌≡◌, ◌<◌, ◌≤◌, ℕ, suc, nat_lt, Bool, true, false, if◌then◌else◌, List, [], length, take, drop, Option, Some, None, Result, Ok, Err, IfSome}
use Rattle.std.specs.Option.{option_map}
use Rattle.std.specs.Str.{bytes_eq}
use Rattle.exif_base.specs.Told.{WhereTold}
use Rattle.exif_types.specs.Refusals.{Refusal}
use Rattle.exif_formats.specs.Cr3.{Box, Cr3Parts, boxes_of, broken_cr3, first_box, first_within, held_by, held_in, held_of, held_or}
use Rattle.exif_formats.specs.declared.headers.FileHeader.{FileHeader}
use Rattle.exif_formats.specs.declared.raw.cr3.Parts.{Parts}
use Rattle.exif_formats.specs.declared.raw.cr3.boxes.NamedBox.{NamedBox}
use Rattle.exif_formats.specs.declared.raw.cr3.walk.Coming.{Coming}
use Rattle.exif_formats.specs.declared.raw.cr3.walk.Coming.TheVariants as coming
use Rattle.exif_formats.specs.declared.raw.cr3.walk.Held.{Held}
use Rattle.exif_formats.specs.declared.raw.cr3.walk.Step.{Step}
use Rattle.exif_formats.specs.declared.raw.cr3.walk.Step.TheVariants as step

-- parts of the code as those of a definition
abbrev pub parts_view : Parts → Cr3Parts
parts_view p = record {
  primary = p.primary.items;
  exif = option_map (λ v. v.items) p.exif;
  gps = option_map (λ v. v.items) p.gps;
}

-- a box of the code, where these bytes follow it
abbrev pub box_view : NamedBox → List ℕ → Box
box_view b rest = record { name = b.name.now; payload = b.payload.now; rest = rest }

-- a box of this type whose payload has so many bytes, or all, of those that follow its header
abbrev pub box_behind : List ℕ → Option ℕ → List ℕ → Result Box Refusal
box_behind name None bytes = Ok (record { name = name; payload = bytes; rest = [] })
box_behind name (Some len) bytes =
    if nat_lt (length bytes) len then Err broken_cr3 else
    Ok (record { name = name; payload = take len bytes; rest = drop len bytes })

-- the next box, whose header was taken, if there is one
abbrev pub IsHeaded : Option FileHeader → List ℕ → List ℕ → Type 0
IsHeaded None bytes rest = bytes ≡ []
IsHeaded (Some h) bytes rest =
    (0 < length bytes) × (first_box bytes ≡ box_behind h.name h.len rest)

-- the payload of a box with so many bytes, or all, of those that follow its header
abbrev pub IsHeld : Option ℕ → List ℕ → List ℕ → Type 0
IsHeld None payload bytes = payload ≡ bytes
IsHeld (Some len) payload bytes = (len ≤ length bytes) × (payload ≡ take len bytes)

-- a payload with so many bytes is cut
abbrev pub IsCut : Option ℕ → List ℕ → Type 0
IsCut None bytes = ⊥
IsCut (Some len) bytes = length bytes < len

-- what the first box of a type holds among at most n boxes
abbrev pub within : List ℕ → List ℕ → ℕ → List ℕ → Result (Option (List ℕ)) Refusal
within name usertype n bytes = first_within (held_by name usertype) n bytes

-- how many bytes of a payload can be those of a type, which has n
abbrev pub type_len : Option ℕ → ℕ → ℕ
type_len None n = n
type_len (Some len) n = if nat_lt len n then len else n

-- what is found behind the bytes of a box
abbrev pub Next : Type 0
Next = List ℕ → Result (Option (List ℕ)) Refusal

-- a box is found that holds so many of the bytes, or all
abbrev pub held_from : Option ℕ → List ℕ → Result (Option (List ℕ)) Refusal
held_from None bytes = Ok (Some bytes)
held_from (Some len) bytes =
    if nat_lt (length bytes) len then Err broken_cr3 else Ok (Some (take len bytes))

-- what is found behind so many of the bytes, or behind all
abbrev pub passing : Next → Option ℕ → List ℕ → Result (Option (List ℕ)) Refusal
passing next None bytes = next []
passing next (Some len) bytes =
    if nat_lt (length bytes) len then Err broken_cr3 else next (drop len bytes)

-- what a payload holds behind a type, if it begins with it
abbrev pub behind_type : List ℕ → List ℕ → Option (List ℕ)
behind_type usertype payload =
    if bytes_eq (take (length usertype) payload) usertype
    then Some (drop (length usertype) payload) else None

-- what is found in a payload of so many of the bytes, or all, or behind it
abbrev pub typed : List ℕ → Option ℕ → Next → List ℕ → Result (Option (List ℕ)) Refusal
typed usertype None next bytes = held_or (behind_type usertype bytes) next []
typed usertype (Some len) next bytes =
    if nat_lt (length bytes) len then Err broken_cr3 else
    held_or (behind_type usertype (take len bytes)) next (drop len bytes)

-- a type was taken from the front of a payload of so many bytes, or all: it is the one that is
-- sought, or another one
abbrev pub IsTaken : List ℕ → Option ℕ → Coming → Option (List ℕ) → Option (List ℕ) → Type 0
IsTaken usertype len (coming.Sought held) old new =
    WhereTold old new (λ xs ys. (next : Next) → typed usertype len next xs ≡ held_from held.len ys)
IsTaken usertype len (coming.Other held) old new =
    WhereTold old new (λ xs ys. (next : Next)
    → typed usertype len next xs ≡ passing next held.len ys)
IsTaken usertype len coming.End old new = ⊥

-- what the next box says: it is the one that is sought, it is another one, or there is none
abbrev pub Comes : List ℕ → List ℕ → Coming → Option (List ℕ) → Option (List ℕ) → Type 0
Comes name usertype (coming.Sought held) old new =
    WhereTold old new (λ xs ys. (n : ℕ)
    → within name usertype (suc n) xs ≡ held_from held.len ys)
Comes name usertype (coming.Other held) old new =
    WhereTold old new (λ xs ys. (n : ℕ)
    → within name usertype (suc n) xs ≡ passing (within name usertype n) held.len ys)
Comes name usertype coming.End old new =
    IfSome old (λ xs. (n : ℕ) → within name usertype (suc n) xs ≡ Ok None)

-- what a step says of the bytes before it and after it: the next box is the one that is sought;
-- another box was skipped; or no box of the type follows
abbrev pub Goes : List ℕ → List ℕ → Step → Option (List ℕ) → Option (List ℕ) → Type 0
Goes name usertype (step.Found held) old new =
    WhereTold old new (λ xs ys. (n : ℕ)
    → within name usertype (suc n) xs ≡ held_from held.len ys)
Goes name usertype step.Other old new =
    WhereTold old new (λ xs ys. (n : ℕ)
    → within name usertype (suc n) xs ≡ within name usertype n ys)
Goes name usertype step.End old new =
    IfSome old (λ xs. (n : ℕ) → within name usertype (suc n) xs ≡ Ok None)

-- what the first box of a type holds among the boxes that were left is what is left now
abbrev pub IsFoundIn : List ℕ → List ℕ → Option Held → Option (List ℕ) → Option (List ℕ) → Type 0
IsFoundIn name usertype None old new = IfSome old (λ xs. held_in name usertype xs ≡ Ok None)
IsFoundIn name usertype (Some held) old new =
    WhereTold old new (λ xs ys. held_in name usertype xs ≡ held_from held.len ys)

-- the same of a file
abbrev pub IsFoundOf : List ℕ → List ℕ → Option Held → Option (List ℕ) → Option (List ℕ) → Type 0
IsFoundOf name usertype None old new = IfSome old (λ xs. held_of name usertype xs ≡ Ok None)
IsFoundOf name usertype (Some held) old new =
    WhereTold old new (λ xs ys. held_of name usertype xs ≡ held_from held.len ys)

-- the first box was skipped, and what is left are the boxes behind it; or there are none
abbrev pub IsBehind : Bool → Option (List ℕ) → Option (List ℕ) → Type 0
IsBehind true old new = WhereTold old new (λ xs ys. boxes_of xs ≡ Ok ys)
IsBehind false old new = IfSome old (λ xs. boxes_of xs ≡ Ok [])

-- the first bytes, at most so many, of what a box holds
abbrev pub IsFront : Option ℕ → ℕ → List ℕ → List ℕ → Type 0
IsFront None most front bytes = front ≡ take most bytes
IsFront (Some len) most front bytes =
    (len ≤ length bytes) × (front ≡ take most (take len bytes))
