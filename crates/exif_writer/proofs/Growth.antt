-- A group changed in grown groups is a change of the groups; and what that keeps of ranges.
use Rattle.std.proofs.Common.{◌≡◌, ℕ, zero, suc, ◌+◌, ◌-◌, ◌≤◌, List, [], ◌∷◌, ◌++◌, length, get_or, set, take, replicate, refl, sym, ap, subst, ◌∙◌, arith, Result, Ok, Err}
use Rattle.std.proofs.lemmas.List.{append-nil, append_assoc, replicate_more, take_at, set-get_or}
use Rattle.std.specs.List.{AllByRecursion}
use Rattle.exif_tiff.proofs.Members.{all_append}
use Rattle.std.specs.Prelude.{Bool, true, false, not, if◌then◌else◌, OnOk, OnErr, is_err}
use Rattle.exif_table.specs.declared.context.Context.{Context}
use Rattle.exif_table.specs.declared.context.Context.TheVariants.{Tiff, Exif, Gps, Interop}
use Rattle.exif_layout.specs.Groups.{Group, Entry, empty_group, changed, pushed_in, with_entry, with_strips, with_tiles, with_jpeg}
use Rattle.exif_layout.specs.Ranged.{IsEntry, AreRanged}
use Rattle.exif_layout.specs.Views.{grown}

grown_nil : (n : ℕ) → grown n [] ≡ replicate (suc n) empty_group
grown_nil n = let e : suc n - 0 ≡ suc n = omega arith in ap (λ m. replicate m empty_group) e

grown_cons : (n : ℕ) (g : Group) (gs : List Group) → grown (suc n) (g ∷ gs) ≡ g ∷ grown n gs
grown_cons n g gs = let e : suc (suc n) - suc (length gs) ≡ suc n - length gs = omega arith in ap (λ m. g ∷ (gs ++ replicate m empty_group)) e

grown_zero : (g : Group) (gs : List Group) → grown 0 (g ∷ gs) ≡ g ∷ gs
grown_zero g gs =
    let e : 1 - suc (length gs) ≡ 0 = omega arith in
    ap (λ m. g ∷ (gs ++ replicate m empty_group)) e ∙ ap (λ r. g ∷ r) (append-nil gs)

set_replicate : (n : ℕ) (f : Group → Group) (d : Group) → set (replicate (suc n) empty_group) n (f (get_or (replicate (suc n) empty_group) n d)) ≡ changed n f []
set_replicate zero f d = refl
set_replicate (suc n) f d = ap (λ r. empty_group ∷ r) (set_replicate n f d)

changed_grown : (n : ℕ) (f : Group → Group) (gs : List Group) (d : Group) → set (grown n gs) n (f (get_or (grown n gs) n d)) ≡ changed n f gs
changed_grown n f [] d = ap (λ r. set r n (f (get_or r n d))) (grown_nil n) ∙ set_replicate n f d
changed_grown zero f (g ∷ gs) d = ap (λ r. set r 0 (f (get_or r 0 d))) (grown_zero g gs)
changed_grown (suc n) f (g ∷ gs) d = ap (λ r. set r (suc n) (f (get_or r (suc n) d))) (grown_cons n g gs) ∙ ap (λ r. g ∷ r) (changed_grown n f gs d)

-- one more new group
pub grow_more : (before made : ℕ) (old gs : List Group) → before ≤ made → gs ≡ old ++ replicate (made - before) empty_group
    → gs ++ empty_group ∷ [] ≡ old ++ replicate (made + 1 - before) empty_group
grow_more before made old gs low e =
    let k : made + 1 - before ≡ made - before + 1 = omega arith in
    ap (λ r. r ++ empty_group ∷ []) e ∙ append_assoc old (replicate (made - before) empty_group) (empty_group ∷ [])
    ∙ ap (λ r. old ++ r) (replicate_more (made - before) empty_group) ∙ ap (λ m. old ++ replicate m empty_group) (sym k)

-- a group of grown groups, written back after a change
pub changed_by : (n m : ℕ) (f : Group → Group) (old items : List Group) (x y : Group) → m ≡ n → items ≡ grown m old → x ≡ get_or items m x → y ≡ f x
    → set items m y ≡ changed n f old
changed_by n m f old items x y k e r c =
    (λ i. set (e i) m ((c ∙ ap f (r ∙ (λ j. get_or (e j) m x))) i)) ∙ changed_grown m f old x ∙ ap (λ j. changed j f old) k

-- the entries of a group are such that a writer may hold them
abbrev pub GroupIsRanged : Group → Type 0
GroupIsRanged group = (context : Context) → AllByRecursion (IsEntry context) (pushed_in group context)

empty_ranged : GroupIsRanged empty_group
empty_ranged Tiff = tt
empty_ranged Exif = tt
empty_ranged Gps = tt
empty_ranged Interop = tt

-- a change of one group that keeps its ranges keeps those of all
pub changed_ranged : (n : ℕ) (f : Group → Group) (groups : List Group) → ((group : Group) → GroupIsRanged group → GroupIsRanged (f group))
    → AreRanged groups → AreRanged (changed n f groups)
changed_ranged zero f [] keep h = (keep empty_group empty_ranged, h)
changed_ranged zero f (group ∷ groups) keep h = (keep group h.0, h.1)
changed_ranged (suc n) f [] keep h = (empty_ranged, changed_ranged n f [] keep h)
changed_ranged (suc n) f (group ∷ groups) keep h = (h.0, changed_ranged n f groups keep h.1)

-- strips that are set leave a group's entries such that a writer may hold them
pub strips_ranged : (strips : List (List ℕ)) (group : Group) → GroupIsRanged group → GroupIsRanged (with_strips strips group)
strips_ranged strips group h Tiff = h Tiff
strips_ranged strips group h Exif = h Exif
strips_ranged strips group h Gps = h Gps
strips_ranged strips group h Interop = h Interop

-- tiles that are set leave a group's entries such that a writer may hold them
pub tiles_ranged : (tiles : List (List ℕ)) (group : Group) → GroupIsRanged group → GroupIsRanged (with_tiles tiles group)
tiles_ranged tiles group h Tiff = h Tiff
tiles_ranged tiles group h Exif = h Exif
tiles_ranged tiles group h Gps = h Gps
tiles_ranged tiles group h Interop = h Interop

-- a JPEG that is set leaves a group's entries such that a writer may hold them
pub jpeg_ranged : (jpeg : List ℕ) (group : Group) → GroupIsRanged group → GroupIsRanged (with_jpeg jpeg group)
jpeg_ranged jpeg group h Tiff = h Tiff
jpeg_ranged jpeg group h Exif = h Exif
jpeg_ranged jpeg group h Gps = h Gps
jpeg_ranged jpeg group h Interop = h Interop

one_more : (context : Context) (entries : List Entry) (entry : Entry) → IsEntry context entry → AllByRecursion (IsEntry context) entries → AllByRecursion (IsEntry context) (entries ++ entry ∷ [])
one_more context entries entry e h = all_append (IsEntry context) entries (entry ∷ []) h (e, tt)

-- one more entry that a writer may hold leaves a group's entries such that it may hold them
pub entry_ranged : (here : Context) (entry : Entry) → IsEntry here entry → (group : Group) → GroupIsRanged group → GroupIsRanged (with_entry here entry group)
entry_ranged Tiff entry e group h Tiff = one_more Tiff group.tiff entry e (h Tiff)
entry_ranged Tiff entry e group h Exif = h Exif
entry_ranged Tiff entry e group h Gps = h Gps
entry_ranged Tiff entry e group h Interop = h Interop
entry_ranged Exif entry e group h Tiff = h Tiff
entry_ranged Exif entry e group h Exif = one_more Exif group.exif entry e (h Exif)
entry_ranged Exif entry e group h Gps = h Gps
entry_ranged Exif entry e group h Interop = h Interop
entry_ranged Gps entry e group h Tiff = h Tiff
entry_ranged Gps entry e group h Exif = h Exif
entry_ranged Gps entry e group h Gps = one_more Gps group.gps entry e (h Gps)
entry_ranged Gps entry e group h Interop = h Interop
entry_ranged Interop entry e group h Tiff = h Tiff
entry_ranged Interop entry e group h Exif = h Exif
entry_ranged Interop entry e group h Gps = h Gps
entry_ranged Interop entry e group h Interop = one_more Interop group.interop entry e (h Interop)

-- what holds of an Ok holds where a test found no Err, and the other way round
pub on_ok : {T E : Type 0} (r : Result T E) (failed : Bool) (P : Type 0) → failed ≡ is_err r → failed ≡ false → OnOk r P → P
on_ok (Ok x) failed P a b h = h
on_ok (Err e) failed P a b h = absurd cc

-- what holds of an Err holds where a test found an Err
pub on_err : {T E : Type 0} (r : Result T E) (failed : Bool) (P : Type 0) → failed ≡ is_err r → failed ≡ true → OnErr r P → P
on_err (Ok x) failed P a b h = absurd cc
on_err (Err e) failed P a b h = h

-- what a push that went well leaves
pub pushed_one : (ok failed : Bool) (new old : List Group) (group : Group) → ok ≡ not failed → failed ≡ false → group ≡ empty_group
    → new ≡ (if ok then old ++ group ∷ [] else old) → new ≡ old ++ empty_group ∷ []
pushed_one ok failed new old group a b g e = e ∙ rw (a, b, g) refl

-- what was there is left of grown groups, of which one was written back as it was
pub cut_back : (n before : ℕ) (old items : List Group) (x y : Group) → items ≡ grown n old → x ≡ get_or items n x → y ≡ x → before ≡ length old
    → take before (set items n y) ≡ old
cut_back n before old items x y e r k h =
    (λ i. take before (set items n ((k ∙ r) i))) ∙ ap (take before) (set-get_or items n x) ∙ ap (take before) e
    ∙ take_at old (replicate (suc n - length old) empty_group) before (sym h)

-- groups equal to ones whose entries a writer may hold have such entries too
pub ranged_as : (new old : List Group) → new ≡ old → AreRanged old → AreRanged new
ranged_as new old e h = subst AreRanged (sym e) h
