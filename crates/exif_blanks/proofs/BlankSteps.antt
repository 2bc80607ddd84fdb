-- What comes in place of bytes is as long as they are.
use Rattle.std.proofs.Common.{◌≡◌, ◌≤◌, ◌-◌, ℕ, Bool, true, false, cond, eqb, ltb, leb, List, [], ◌++◌, length, replicate, Option, None, Some, refl, ◌∙◌, arith}
use Rattle.std.proofs.lemmas.Bool.Decides.{nat_tests}
use Rattle.std.proofs.lemmas.Grind.{common_steps}
use Rattle.exif_inventory.specs.BoxHeaders.{box_header, large_header, sized_header}
use Rattle.exif_inventory.specs.declared.boxes.BoxHeader.{BoxHeader}
use Rattle.exif_blanks.specs.HeifBlanks.{blanked, cleared_from, free_front, freed, header_front, no_fields, no_properties, padded, renamed}
use Rattle.exif_blanks.specs.declared.blank.Blank.{Blank}
use Rattle.exif_blanks.specs.declared.blank.Blank.TheVariants.{Nothing, Fields, Packet, Zeros, Free, Described}
use Rattle.exif_blanks.specs.declared.steps.Place.TheVariants.{Box}
use Rattle.exif_inventory.proofs.BoxHeads.{first_size, large_size}
use Rattle.exif_blanks.proofs.BareSteps.{bared_long}

padded_if : (t : Bool) (text : List ℕ) (b : ℕ) (bytes : List ℕ) → (t ≡ true → length text ≤ length bytes)
    → length (cond t (text ++ replicate (length bytes - length text) b) (replicate (length bytes) b)) ≡ length bytes
padded_if true text b bytes h = let l = h refl in grind (arith, common_steps)
padded_if false text b bytes h = grind (arith, common_steps)

padded_long : (text : List ℕ) (b : ℕ) (bytes : List ℕ) → length (padded text b bytes) ≡ length bytes
padded_long text b bytes = padded_if (leb (length text) (length bytes)) text b bytes (λ e. grind (arith, nat_tests))

cleared_long : (front : ℕ) (bytes : List ℕ) → front ≤ length bytes → length (cleared_from front bytes) ≡ length bytes
cleared_long front bytes h = grind (arith, common_steps)

pub renamed_long : (bytes : List ℕ) → 8 ≤ length bytes → length (renamed bytes) ≡ length bytes
renamed_long bytes h = grind (arith, common_steps)

freed_if : (t : Bool) (front : ℕ) (bytes : List ℕ) → 8 ≤ front → (t ≡ false → front ≤ length bytes)
    → length (cond t bytes (cleared_from front (renamed bytes))) ≡ length bytes
freed_if true front bytes least h = refl
freed_if false front bytes least h =
    let l = h refl in
    let r = renamed_long bytes (omega arith) in
    cleared_long front (renamed bytes) (omega arith) ∙ r

freed_long : (front : ℕ) (bytes : List ℕ) → 8 ≤ front → length (freed front bytes) ≡ length bytes
freed_long front bytes least = freed_if (ltb (length bytes) front) front bytes least (λ e. grind (arith, nat_tests))

-- a header takes 8 bytes at least
large_least : (t : Bool) (size : Option ℕ) → 8 ≤ header_front (cond t None (Some (record { front = 16; size = size })))
large_least true size = omega arith
large_least false size = omega arith

sized_least : (t u : Bool) (a b : Option ℕ) (large : Option BoxHeader) → 8 ≤ header_front large
    → 8 ≤ header_front (cond t (Some (record { front = 8; size = a })) (cond u large (Some (record { front = 8; size = b }))))
sized_least true u a b large h = omega arith
sized_least false true a b large h = h
sized_least false false a b large h = omega arith

any_least : (t : Bool) (header : Option BoxHeader) → 8 ≤ header_front header → 8 ≤ header_front (cond t None header)
any_least true header h = omega arith
any_least false header h = h

front_least : (bytes : List ℕ) → 8 ≤ free_front bytes
unfolding box_header
front_least bytes =
    let n = first_size bytes in
    let large = large_least (ltb (length bytes) 16) (Some (large_size bytes)) in
    any_least (ltb (length bytes) 8) (sized_header n bytes) (sized_least (eqb n 0) (eqb n 1) None (Some n) (large_header bytes) large)

-- bytes in place of others are as many
pub blanked_long : (how : Blank) (bytes : List ℕ) → length (blanked how bytes) ≡ length bytes
unfolding blanked
blanked_long Nothing bytes = refl
blanked_long Fields bytes = padded_long no_fields 0 bytes
blanked_long Packet bytes = padded_long no_properties 32 bytes
blanked_long Zeros bytes = padded_long [] 0 bytes
blanked_long Free bytes = freed_long (free_front bytes) bytes (front_least bytes)
blanked_long Described bytes = bared_long (length bytes) Box bytes
