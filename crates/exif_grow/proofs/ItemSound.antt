-- What an answered move of the Exif item promises.
use Rattle.std.proofs.Common.{◌≡◌, ◌≤◌, ◌+◌, ℕ, Bool, true, false, if◌then◌else◌, List, [], ◌∷◌, ◌++◌, length, drop, replicate, ◌⊎◌, inl, inr, All, Result, Ok, Err, refl, sym, ap, subst, ◌∙◌, arith, length-append}
use Rattle.std.specs.Prelude.{◌^◌, ◌-◌, nat_lt, not, codes}
use Rattle.std.specs.Int.{to_be_bytes, w32}
use Rattle.std.specs.Str.{bytes_eq}
use Rattle.std.proofs.Math.Seq.{drop-append_seam}
use Rattle.std.proofs.lemmas.Bool.{false≢true}
use Rattle.std.proofs.lemmas.Bool.Decides.{nat_tests}
use Rattle.std.proofs.lemmas.List.{length-replicate}
use Rattle.std.proofs.lemmas.List.Elements.{All-nil, All-cons, All-append}
use Rattle.std.proofs.lemmas.Slice.Eq.{bytes_eq-Decides}
use Rattle.exif_types.specs.Refusals.{Refusal}
use Rattle.exif_containers.specs.Container.{container_answer}
use Rattle.exif_isobmff.specs.declared.locations.Extent.{Extent}
use Rattle.exif_edit_base.specs.Causes.{Cause, of_container, shared, unless, ◌>>=◌}
use Rattle.exif_edit_base.specs.Patches.{FitsIn, inside, patched}
use Rattle.exif_edit_base.specs.declared.patch.Patch.{Patch}
use Rattle.exif_edit_base.proofs.CauseSteps.{bound, data_held, ok_same, passed, tested}
use Rattle.exif_edit_base.proofs.PatchSteps.{length-patched}
use Rattle.exif_edit.specs.InFiles.{holds}
use Rattle.exif_grow.specs.Growing.{Added, grown}
use Rattle.exif_grow.specs.Promises.{KeepsOld, Spares}
use Rattle.exif_grow.proofs.OldKept.{keeps_old}
use Rattle.exif_grow.specs.Entries.{moved_entry}
use Rattle.exif_grow.specs.ItemFields.{ItemFields, are_closed, item_fields}
use Rattle.exif_grow.specs.Items.{entry_patch, fields_offset, first_held, if_held, item_added, item_growth, item_moved, media_box, one_range, range_cleared}
use Rattle.exif_grow.specs.ItemPromises.{IsItemMoved}
use Rattle.exif_grow.specs.Refusals.{large, narrow, open_ended, several}

-- ---- the patches

-- what holds of both patches holds of all
both_patches : (P : Patch → Type 0) (clear : Bool) (e : Extent) (p : Patch)
    → P (record { offset = e.offset; bytes = replicate e.len 0 }) → P p
    → All P (range_cleared clear e ++ p ∷ [])
both_patches P clear e p a b =
    All-append P (range_cleared clear e) _ (by_test clear) (All-cons P p [] b (All-nil P))
  where
    by_test : (c : Bool) → All P (range_cleared c e)
    by_test true = All-cons P _ [] a (All-nil P)
    by_test false = All-nil P

-- the patches of an item lie in a file that has its range and its entry
pub patches_fit : (n : ℕ) (clear : Bool) (e : Extent) (p : Patch) → e.offset + e.len ≤ n
    → FitsIn n p → All (FitsIn n) (range_cleared clear e ++ p ∷ [])
patches_fit n clear e p a b =
    let l : length (replicate {A = ℕ} e.len 0) ≡ e.len = length-replicate e.len 0 in
    both_patches (FitsIn n) clear e p (omega arith) b

-- ---- which of two

-- the first of two that is held is held, and is one of them
first_parts : (file new : List ℕ) (a b c : Added) → first_held file new a b ≡ Ok c
    → (holds (grown c file) new ≡ true) × ((a ≡ c) ⊎ (b ≡ c))
first_parts file new a b c h = by_test (holds (grown a file) new) refl h
  where
    by_test : (t : Bool) → holds (grown a file) new ≡ t
        → (if t then Ok a else if_held file new b) ≡ Ok c
        → (holds (grown c file) new ≡ true) × ((a ≡ c) ⊎ (b ≡ c))
    by_test true e h =
        let s = ok_same a c h in (subst (λ x. holds (grown x file) new ≡ true) s e, inl s)
    by_test false e h =
        let p = tested (holds (grown b file) new) b c shared h in (
          subst (λ x. holds (grown x file) new ≡ true) p.1 p.0,
          inr p.1,
        )

held_by : (x : Result (List ℕ) Refusal) (bytes : List ℕ)
    → (elim x [ Ok found ↦ bytes_eq found bytes | Err r ↦ false ]) ≡ true → x ≡ Ok bytes
held_by (Ok found) bytes e = ap (λ y. Ok y) ((bytes_eq-Decides found bytes).0 e)
held_by (Err r) bytes e = absurd (false≢true e)

-- ---- the steps of an answer

-- an item that was moved, and what was added
record WasMoved (file new : List ℕ) (fields : ItemFields) (range : Extent) (a : Added) : Type 0
  where
    text : List ℕ
    entry : moved_entry fields.entry (length file + 8) (length (fields.header ++ new)) ≡ Ok text
    past : fields_offset fields + length text ≤ length file
    out : range.offset + range.len ≤ length file
    held : holds (grown a file) new ≡ true
    clear : Bool
    is : item_added clear range (entry_patch (fields_offset fields) text)
        (fields.header ++ new) ≡ a

was_moved : (file new : List ℕ) (fields : ItemFields) (range : Extent) (a : Added)
    → item_moved file new fields range ≡ Ok a → WasMoved file new fields range a
unfolding item_moved
was_moved file new fields range a h =
    let item : List ℕ = fields.header ++ new in
    let offset : ℕ = fields_offset fields in
    let last = λ (text : List ℕ). first_held file new
    (item_added true range (entry_patch offset text) item)
    (item_added false range (entry_patch offset text) item) in
    let ranged = λ (text : List ℕ). unless (nat_lt (length file) (range.offset + range.len)) shared
    >>= λ u. last text in
    let placed = λ (text : List ℕ). unless (nat_lt (length file) (offset + length text)) shared
    >>= λ u. ranged text in
    let text_of = moved_entry fields.entry (length file + 8) (length item) in
    let x = passed (nat_lt (2 ^ 64 - 1) (length file + 8)) narrow
    (λ u. unless (nat_lt 65535 (length item)) large >>= λ v. text_of >>= placed) a h in
    let y = passed (nat_lt 65535 (length item)) large (λ u. text_of >>= placed) a x.1 in
    let t = bound text_of placed a y.1 in
    let z = passed (nat_lt (length file) (offset + length t.0)) shared (λ u. ranged t.0) a t.2 in
    let r = passed (nat_lt (length file) (range.offset + range.len)) shared (λ u. last t.0) a z.1 in
    let e : Patch = entry_patch offset t.0 in
    let f = first_parts file new (item_added true range e item) (item_added false range e item) a r.1 in
    let past : offset + length t.0 ≤ length file = let p = z.0 in grind (arith, nat_tests) in
    let out : range.offset + range.len ≤ length file = let p = r.0 in grind (arith, nat_tests) in
    by_one t.0 t.1 past out f.0 f.1
  where
    by_one : (text : List ℕ)
        → moved_entry fields.entry (length file + 8) (length (fields.header ++ new)) ≡ Ok text
        → fields_offset fields + length text ≤ length file
        → range.offset + range.len ≤ length file → holds (grown a file) new ≡ true
        → (item_added true range (entry_patch (fields_offset fields) text)
        (fields.header ++ new) ≡ a)
        ⊎ (item_added false range (entry_patch (fields_offset fields) text)
        (fields.header ++ new) ≡ a)
        → WasMoved file new fields range a
    by_one text m past out held (inl e) = record {
      text = text;
      entry = m;
      past = past;
      out = out;
      held = held;
      clear = true;
      is = e;
    }
    by_one text m past out held (inr e) = record {
      text = text;
      entry = m;
      past = past;
      out = out;
      held = held;
      clear = false;
      is = e;
    }

-- ---- what is promised of them

length-media : (item : List ℕ) → length (media_box item) ≡ 8 + length item
length-media item =
    let a : length (media_box item) ≡ 4 + length (codes "mdat" ++ item) =
    length-append (to_be_bytes w32 (8 + length item)) (codes "mdat" ++ item) in
    let b : length (codes "mdat" ++ item) ≡ 4 + length item = length-append (codes "mdat") item in
    omega arith

spared : (i : ℕ) (e : Extent) → inside i (record { offset = e.offset; len = e.len }) ≡ false
    → Spares i (record { offset = e.offset; bytes = replicate e.len 0 })
spared i e h =
    subst (λ n. inside i (record { offset = e.offset; len = n }) ≡ false)
    (sym (length-replicate e.len 0)) h

-- what was added lies in the file
moved_fits : (file new : List ℕ) (fields : ItemFields) (range : Extent) (a : Added)
    → WasMoved file new fields range a → All (FitsIn (length file)) a.patches
moved_fits file new fields range a w =
    subst (λ (x : Added). All (FitsIn (length file)) x.patches) w.is
    (patches_fit (length file) w.clear range
    (entry_patch (fields_offset fields) w.text) w.out w.past)

moved_is : (file new : List ℕ) (fields : ItemFields) (range : Extent) (a : Added)
    → item_fields file ≡ Ok fields → fields.ranges ≡ range ∷ []
    → WasMoved file new fields range a → IsItemMoved file new (grown a file)
moved_is file new fields range a found one w =
    let fit = moved_fits file new fields range a w in
    let item : List ℕ = fields.header ++ new in
    let tail : a.tail ≡ media_box item = sym (ap (λ (x : Added). x.tail) w.is) in
    let kept : KeepsOld a file = keeps_old a file fit in
    let len : length (patched a.patches file) ≡ length file = length-patched a.patches file fit in
    record {
      fields = fields;
      found = found;
      range = range;
      one = one;
      text = w.text;
      entry = w.entry;
      holds = held_by (container_answer (grown a file)) new w.held;
      longer = kept.longer ∙ ap (λ n. length file + n) (ap (λ (t : List ℕ). length t) tail ∙ length-media item);
      behind = ap (λ n. drop n (grown a file)) (sym len)
          ∙ (drop-append_seam (patched a.patches file) a.tail ∙ tail);
      outside = λ i h in-entry in-range. kept.outside i h
          (subst (λ (x : Added). All (Spares i) x.patches) w.is
          (both_patches (Spares i) w.clear range
          (entry_patch (fields_offset fields) w.text) (spared i range in-range)
          in-entry));
    }

-- ---- the whole

-- the only range of an item is the one that it has
only_range : (es : List Extent) (e : Extent) → one_range es ≡ Ok e → es ≡ e ∷ []
only_range [] e h = absurd (err_ok h)
  where
    err_ok : ◌≡◌ {A = Result Extent Cause} (Err several) (Ok e) → ⊥
    err_ok h = cc
only_range (x ∷ []) e h = ap (λ y. y ∷ []) (ok_same x e h)
only_range (x ∷ y ∷ es) e h = absurd (err_ok h)
  where
    err_ok : ◌≡◌ {A = Result Extent Cause} (Err several) (Ok e) → ⊥
    err_ok h = cc

record WasGrown (file new : List ℕ) (a : Added) : Type 0 where
  fields : ItemFields
  found : item_fields file ≡ Ok fields
  range : Extent
  one : fields.ranges ≡ range ∷ []
  moved : WasMoved file new fields range a

was_grown : (file new : List ℕ) (a : Added) → item_growth file new ≡ Ok a → WasGrown file new a
unfolding item_growth
was_grown file new a h =
    let ranged = λ (f : ItemFields). one_range f.ranges >>= item_moved file new f in
    let x = bound (of_container (item_fields file))
    (λ f. unless (not (are_closed file)) open_ended >>= λ u. ranged f) a h in
    let y = passed (not (are_closed file)) open_ended (λ u. ranged x.0) a x.2 in
    let z = bound (one_range x.0.ranges) (item_moved file new x.0) a y.1 in
    record {
      fields = x.0;
      found = data_held (item_fields file) x.0 x.1;
      range = z.0;
      one = only_range x.0.ranges z.0 z.1;
      moved = was_moved file new x.0 z.0 a z.2;
    }

-- what is added lies in the file
pub growth_fits : (file new : List ℕ) (a : Added) → item_growth file new ≡ Ok a
    → All (FitsIn (length file)) a.patches
growth_fits file new a h =
    let w = was_grown file new a h in moved_fits file new w.fields w.range a w.moved

-- the file with it is as promised
pub growth_sound : (file new : List ℕ) (a : Added) → item_growth file new ≡ Ok a
    → IsItemMoved file new (grown a file)
growth_sound file new a h =
    let w = was_grown file new a h in moved_is file new w.fields w.range a w.found w.one w.moved
