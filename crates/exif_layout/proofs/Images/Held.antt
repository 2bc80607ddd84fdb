-- Each directory of the image of pushed fields holds what was pushed into it, in tag order.
use Rattle.std.proofs.Common.{◌≡◌, ◌∙◌, ℕ, ◌<◌, ◌≤◌, ◌+◌, ◌++◌, List, [], ◌∷◌, ⊎_elim, length, map, refl, sym, ap, arith}
use Rattle.std.specs.List.{AllByRecursion, flat_map}
use Rattle.std.proofs.lemmas.Bool.{cases_lt}
use Rattle.std.proofs.lemmas.List.{append-nil, append_assoc, map-append}
use Rattle.exif_table.specs.declared.context.Context.{Context}
use Rattle.exif_table.specs.declared.context.Context.TheVariants.{Tiff, Exif, Gps, Interop}
use Rattle.exif_types.specs.declared.field.Field.{Field}
use Rattle.exif_layout.specs.Calls.{entries_into}
use Rattle.exif_layout.specs.Flat.{flat}
use Rattle.exif_layout.specs.Groups.{Group, empty_group, pushed, pushed_in}
use Rattle.exif_layout.specs.Rewriting.{pushed_all}
use Rattle.exif_layout.specs.Slots.{known, in_tag_order}
use Rattle.exif_layout.specs.Pushing.{slots_into, HoldsInTagOrder}
use Rattle.exif_layout.proofs.Images.Pushing.{group_at, added, entries_added, pushed_entries, known_added}
use Rattle.exif_layout.proofs.Images.Calls.{fields_behind}
use Rattle.exif_layout.proofs.Images.Pushed.{always_pushed}
use Rattle.exif_layout.proofs.Images.Rewritten.{added_elsewhere, flat_adds, flat_below, past_end, pushed_sorted}

-- the entries of a directory after pushes
pushed_all_entries : (fields : List Field) (groups : List Group) (m : ℕ) (context : Context)
    → pushed_in (group_at (pushed_all fields groups) m) context ≡ pushed_in (group_at groups m) context ++ entries_into m context fields
pushed_all_entries [] groups m context = sym (append-nil (pushed_in (group_at groups m) context))
pushed_all_entries (field ∷ fields) groups m context =
    pushed_all_entries fields (pushed field groups) m context
    ∙ ap (λ r. r ++ entries_into m context fields) (pushed_entries field groups m context)
    ∙ append_assoc (pushed_in (group_at groups m) context) (entries_added m context field) (entries_into m context fields)
    ∙ ap (λ r. pushed_in (group_at groups m) context ++ r) (sym (fields_behind m context field fields))

-- what fields add is what they push
adds_slots : (m : ℕ) (context : Context) (fields : List Field) → slots_into m context fields ≡ flat_map (added m context) fields
adds_slots m context [] = refl
adds_slots m context (field ∷ fields) =
    ap (map known) (fields_behind m context field fields)
    ∙ map-append known (entries_added m context field) (entries_into m context fields)
    ∙ (λ i. known_added m context field i ++ adds_slots m context fields i)

nothing_above : (m : ℕ) (context : Context) (fields : List Field) (n : ℕ) → n ≤ m → AllByRecursion (λ field. field.ifd_num.0 < n) fields → flat_map (added m context) fields ≡ []
nothing_above m context [] n h low = refl
nothing_above m context (field ∷ fields) n h low =
    λ i. added_elsewhere m context field (λ e. (let k = low.0 in omega arith)) i ++ nothing_above m context fields n h low.1 i

empty_in : (context : Context) → pushed_in empty_group context ≡ []
empty_in Tiff = refl
empty_in Exif = refl
empty_in Gps = refl
empty_in Interop = refl

-- what the fields of the image add
flat_add : (fields : List Field) (m : ℕ) (context : Context)
    → flat_map (added m context) (flat (pushed_all fields [])) ≡ in_tag_order (map known (pushed_in (group_at (pushed_all fields []) m) context))
unfolding flat
flat_add fields m context =
    let made : List Group = pushed_all fields [] in
    let zero_add : 0 + m ≡ m = omega arith in
    ⊎_elim
    (λ low. rw zero_add at (flat_adds made 0 m 8 context low) ∙ pushed_sorted (group_at made m) context (always_pushed fields m context))
    (λ past. nothing_above m context (flat made) (length made) past (flat_below made 0 8 (length made) (omega arith))
    ∙ sym (ap (λ g. in_tag_order (map known (pushed_in g context))) (past_end made m past) ∙ ap (λ es. in_tag_order (map known es)) (empty_in context)))
    (cases_lt m (length made))

-- in each directory the image of pushed fields has those pushed there, in tag order
pub holds_in_tag_order : (fields : List Field) → HoldsInTagOrder fields
holds_in_tag_order fields m context =
    adds_slots m context (flat (pushed_all fields []))
    ∙ flat_add fields m context
    ∙ ap (λ es. in_tag_order (map known es)) (pushed_all_entries fields [] m context ∙ ap (λ es. es ++ entries_into m context fields) (empty_in context))
