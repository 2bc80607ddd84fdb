-- In groups that a writer may hold, which are written and whose texts hold no zero byte, each entry
-- of each directory is read as what it is.
use Rattle.exif_types.specs.Sound.{HasPlainTexts}
use Rattle.exif_layout.proofs.Moved.{moved_by}
use Rattle.std.proofs.Common.{◌≡◌, ℕ, ◌<◌, ◌^◌, List, [], ◌∷◌, length, refl, sym, ap, arith, false, map, Option, Some, None}
use Rattle.std.specs.Prelude.{◌==◌, ◌≢◌}
use Rattle.std.specs.List.{All, AllByRecursion}
use Rattle.std.proofs.lemmas.Bool.{or_parts}
use Rattle.std.proofs.lemmas.List.Elements.{All-head, All-tail, recursion_from_All}
use Rattle.exif_types.specs.declared.value.Value.{Value}
use Rattle.exif_types.specs.declared.value.Value.TheVariants.{Byte, Ascii, Short, Long, Rational, SByte, Undefined, SShort, SLong, SRational, Float, Double, Unknown}
use Rattle.exif_layout.specs.Encoding.{moved_to}
use Rattle.exif_table.specs.declared.context.Context.{Context}
use Rattle.exif_table.specs.declared.context.Context.TheVariants.{Tiff, Exif, Gps, Interop}
use Rattle.exif_tiff.specs.Trace.{child_of}
use Rattle.exif_layout.specs.Groups.{Group, Entry, is_ignored, single, pushed_in, offsets_tag, lengths_tag}
use Rattle.exif_layout.specs.Slots.{Draft, draft_of, known, set_slots, block_list, slots_of}
use Rattle.exif_layout.specs.declared.block_kind.BlockKind.{BlockKind}
use Rattle.exif_layout.specs.declared.block_kind.BlockKind.TheVariants.{Strips, Tiles, Jpeg}
use Rattle.exif_layout.specs.Refused.{is_unknown}
use Rattle.exif_layout.proofs.Images.Words.{Fits, IsAccepted, IsPlain, SlotFits}
use Rattle.exif_layout.specs.Ranged.{IsRanged, IsEntry}
use Rattle.exif_layout.proofs.Images.Slots.{all_slots}

each_text : (texts : List (List ℕ)) → All (All (λ b. b ≢ 0)) texts → AllByRecursion IsPlain texts
each_text [] h = tt
each_text (text ∷ texts) h =
    let plain : List ℕ → Type 0 = All (λ b. b ≢ 0) in
    (recursion_from_All (λ b. b ≢ 0) text (All-head plain text texts h), each_text texts (All-tail plain text texts h))

-- a value fits if its numbers are in range, its texts plain and its type known
pub fits_of : (value : Value) → IsRanged value → HasPlainTexts value → is_unknown value ≡ false → Fits value
fits_of (Byte xs) r z u = tt
fits_of (Ascii xs) r z u = each_text xs z
fits_of (Short xs) r z u = recursion_from_All _ xs r
fits_of (Long xs) r z u = recursion_from_All _ xs r
fits_of (Rational xs) r z u = recursion_from_All _ xs r
fits_of (SByte xs) r z u = recursion_from_All _ xs r
fits_of (Undefined xs offset) r z u = tt
fits_of (SShort xs) r z u = recursion_from_All _ xs r
fits_of (SLong xs) r z u = recursion_from_All _ xs r
fits_of (SRational xs) r z u = recursion_from_All _ xs r
fits_of (Float xs) r z u = recursion_from_All _ xs r
fits_of (Double xs) r z u = recursion_from_All _ xs r
fits_of (Unknown type count offset) r z u = absurd cc

fits_moved : (offset : ℕ) (value : Value) → Fits value → Fits (moved_to offset value)
fits_moved offset value = moved_by (λ v m. Fits v → Fits m) (λ v h. h) (λ xs old new h. h) offset value

-- a tag that isn't the writer's own is no pointer
no_pointer : (context : Context) (tag : ℕ) → is_ignored context tag ≡ false → child_of context tag ≡ None
no_pointer Tiff tag h =
    let a = or_parts (tag == 0x111) _ h in
    let b = or_parts (tag == 0x117) _ a.1 in
    let c = or_parts (tag == 0x144) _ b.1 in
    let d = or_parts (tag == 0x145) _ c.1 in
    let e = or_parts (tag == 0x201) _ d.1 in
    let f = or_parts (tag == 0x202) _ e.1 in
    let g = or_parts (tag == 0x8769) _ f.1 in
    let i = or_parts (tag == 0x8825) false g.1 in
    rw (g.0, i.0) refl
no_pointer Exif tag h = let a = or_parts (tag == 0xa005) false h in rw a.0 refl
no_pointer Gps tag h = refl
no_pointer Interop tag h = refl

pushed_fit : (draft : Draft) (context : Context) (entries : List Entry) → AllByRecursion (IsEntry context) entries
    → AllByRecursion (λ entry. HasPlainTexts entry.value) entries → AllByRecursion (λ entry. is_unknown entry.value ≡ false) entries
    → AllByRecursion (λ entry. SlotFits draft context (known entry)) entries
pushed_fit draft context [] r z u = tt
pushed_fit draft context (entry ∷ entries) r z u = (
  record { tag = r.0.tag; content = (fits_moved 0 entry.value (fits_of entry.value r.0.value z.0 u.0), no_pointer context entry.tag r.0.pushed) },
  pushed_fit draft context entries r.1 z.1 u.1,
)

blocks_fit : (draft : Draft) (kind : BlockKind) (texts : Option (List (List ℕ)))
    → offsets_tag kind < 256 ^ 2 → lengths_tag kind < 256 ^ 2 → child_of Tiff (offsets_tag kind) ≡ None → child_of Tiff (lengths_tag kind) ≡ None
    → draft.blocks kind ≡ block_list texts → AllByRecursion (SlotFits draft Tiff) (set_slots kind texts)
blocks_fit draft kind None p l a b e = tt
blocks_fit draft kind (Some texts) p l a b e = (
  record { tag = p; content = (ap (map length) (sym e), a) },
  (record { tag = l; content = (ap (map length) (sym e), b) }, tt),
)

-- each slot of an accepted group fits, where its values are in range and its texts plain
pub slots_fit : (group : Group)
    → ((context : Context) → AllByRecursion (IsEntry context) (pushed_in group context))
    → ((context : Context) → AllByRecursion (λ entry. HasPlainTexts entry.value) (pushed_in group context)) → IsAccepted group
    → (context : Context) → AllByRecursion (SlotFits (draft_of group) context) (slots_of group context)
slots_fit group entries clean accepted =
    all_slots (SlotFits (draft_of group)) group
    (λ context. pushed_fit (draft_of group) context (pushed_in group context) (entries context) (clean context) (accepted.known context))
    (elim [
      | Strips ↦ blocks_fit (draft_of group) Strips group.strips (omega arith) (omega arith) refl refl refl
      | Tiles ↦ blocks_fit (draft_of group) Tiles group.tiles (omega arith) (omega arith) refl refl refl
      | Jpeg ↦ blocks_fit (draft_of group) Jpeg (single group.jpeg) (omega arith) (omega arith) refl refl refl
    ])
    (λ some. record { tag = omega arith; content = (refl, some) })
    (λ some. record { tag = omega arith; content = (refl, some) })
    (λ some. record { tag = omega arith; content = (refl, some) })
