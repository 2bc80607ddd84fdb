-- The parts of a HEIF file whose metadata were taken out.
use Rattle.std.proofs.Common.{◌≡◌, inl, inr, ℕ, true, false, Bool, List, [], ◌∷◌, ◌++◌, map, Option, Some, None, Result, Ok, Err, if◌then◌else◌, refl, sym, ap, subst}
use Rattle.std.proofs.lemmas.List.Elements.{All-weaker, Contains-append_right}
use Rattle.exif_containers.specs.declared.container.Format.TheVariants.{Heif}
use Rattle.exif_edit.specs.declared.edits.Edit.TheVariants.{EraseAll}
use Rattle.exif_inventory.specs.declared.part.Part.{Part}
use Rattle.exif_inventory_heif.specs.Inventories.{heif_inventory, is_heif, layout_of}
use Rattle.exif_scrub.specs.HeifPromises.{AllKnown, IsKnown}
use Rattle.exif_scrub.specs.HeifScrubbing as heif
use Rattle.exif_scrub.specs.declared.heif.fault.Fault as heif_faults
use Rattle.exif_scrub.proofs.Left.{settled_known}
use Rattle.exif_change.specs.Changed.{Change, Undone, still_there}
use Rattle.exif_change.specs.Changes.{erased, heif_emptied, heif_left, scrubbed_as}
use Rattle.exif_change.specs.Refusals.{Reason, heif_fault, ◌>>=◌}
use Rattle.exif_change.specs.declared.scrubbing.Removed.{Removed}
use Rattle.exif_change.specs.declared.scrubbing.Removed.TheVariants as removed
use Rattle.exif_change_laws.specs.Leaving.{parts_left, takes_metadata}

no_ok : {X : Type 0} (why : Reason) (x : X) → ◌≡◌ {A = Result X Reason} (Err why) (Ok x) → ⊥
no_ok why x e = cc

ok_same : (x y : Change) → ◌≡◌ {A = Result Change Reason} (Ok x) (Ok y) → x ≡ y
ok_same x y e = cc

-- a part among more is known all the same
more_known : (file : List ℕ) (more left : List Part) (part : Part) → IsKnown file left part → IsKnown file (more ++ left) part
more_known file more left part (inl h) = inl h
more_known file more left part (inr (inl h)) = inr (inl h)
more_known file more left part (inr (inr h)) = inr (inr (Contains-append_right more left part h))

all_more : (file : List ℕ) (more left : List Part) (parts : Option (List Part)) → AllKnown file left parts → AllKnown file (more ++ left) parts
all_more file more left None h = h
all_more file more left (Some parts) h = All-weaker (IsKnown file left) (IsKnown file (more ++ left)) (more_known file more left) parts h

-- the parts of what was left undone
parts_alone : (parts : List Part) → parts_left (map (λ part. Some (still_there part)) parts) ≡ parts
parts_alone [] = refl
parts_alone (part ∷ parts) = ap (λ (ps : List Part). part ∷ ps) (parts_alone parts)

parts_behind : (undone : List (Option Undone)) (parts : List Part) → parts_left (undone ++ map (λ part. Some (still_there part)) parts) ≡ parts_left undone ++ parts
parts_behind [] parts = parts_alone parts
parts_behind (Some (still_there part) ∷ undone) parts = ap (λ (ps : List Part). part ∷ ps) (parts_behind undone parts)
parts_behind (one ∷ undone) parts = parts_behind undone parts

-- a change and what it leaves
abbrev Known : Change → Type 0
Known change = AllKnown change.file (parts_left change.undone) (heif_inventory change.file)

left_known : (change new : Change) (left : Result (List Part) heif_faults.Fault) → heif.settled change.file ≡ left → heif_left change left ≡ Ok new → Known new
left_known change new (Ok parts) s e =
    subst Known (ok_same (record { file = change.file; undone = change.undone ++ map (λ part. Some (still_there part)) parts }) new e)
    (subst (λ (ps : List Part). AllKnown change.file ps (heif_inventory change.file)) (sym (parts_behind change.undone parts))
    (all_more change.file (parts_left change.undone) parts (heif_inventory change.file) (settled_known change.file parts s)))
left_known change new (Err fault) s e = absurd (no_ok (heif_fault fault) new e)

made_known : (made : Result Change Reason) (new : Change) → (made >>= λ change. heif_left change (heif.settled change.file)) ≡ Ok new → Known new
made_known (Ok change) new e = left_known change new (heif.settled change.file) refl e
made_known (Err why) new e = absurd (no_ok why new e)

emptied_known : (made : Bool × List ℕ) (new : Change) → made.0 ≡ true → heif_emptied made ≡ Ok new → Known new
emptied_known (true, file) new t e = made_known (erased EraseAll file) new e
emptied_known (false, file) new t e = absurd (cc)

-- a HEIF file has a layout
found : (file : List ℕ) → is_heif file ≡ true → (heif.emptied file).0 ≡ true
found file h = ap (λ (b : Bool). (heif.emptied_by file (if b then Some (layout_of file) else None)).0) h

pub heif_known : (file : List ℕ) (new : Change) → is_heif file ≡ true → heif_emptied (heif.emptied file) ≡ Ok new → Known new
heif_known file new h e = emptied_known (heif.emptied file) new (found file h) e

-- what is made of a HEIF file whose metadata are taken out
pub heif_taken : (removed : Removed) (file : List ℕ) → takes_metadata removed ≡ true → scrubbed_as Heif removed file ≡ heif_emptied (heif.emptied file)
heif_taken removed.Metadata file t = refl
heif_taken removed.AllButOrientation file t = refl
heif_taken (removed.Gps unread) file t = absurd (cc)
