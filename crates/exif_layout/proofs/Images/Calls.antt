-- What calls make of groups, in closed form.
use Rattle.std.proofs.Common.{◌≡◌, ◌∙◌, ℕ, suc, ◌+◌, ◌<◌, max, List, [], ◌∷◌, ◌++◌, length, map, refl, sym, ap, arith, Bool, true, false, cond, Option, Some, None}
use Rattle.std.specs.Prelude.{if◌then◌else◌, ◌==◌, ◌&&◌, not}
use Rattle.std.specs.List.{filter, filter_map, cons_option, last_or, range_with_len}
use Rattle.std.proofs.lemmas.Bool.{eqb-true, eqb-false}
use Rattle.std.proofs.lemmas.List.{append-nil, append_assoc}
use Rattle.exif_types.specs.Lookup.{context_eq}
use Rattle.exif_table.specs.declared.context.Context.{Context}
use Rattle.exif_table.specs.declared.context.Context.TheVariants.{Tiff, Exif, Gps, Interop}
use Rattle.exif_types.specs.declared.field.Field.{Field}
use Rattle.exif_layout.specs.Groups.{Group, entry_of, is_ignored, pushed, pushed_in, changed, with_entry, with_strips, with_tiles, with_jpeg}
use Rattle.exif_layout.specs.Rewriting.{BlocksOf}
use Rattle.exif_layout.specs.Calls.{Call, Push, SetStrips, SetTiles, SetJpeg, after_call, after_calls, made, field_pushed, goes_into, entries_in, entries_into, strips_in, tiles_in, jpeg_in, directories_of, directories, group_made, IsMadeOf, PushesAreCalls}
use Rattle.exif_layout.proofs.Images.Pushing.{group_at, changed_same, changed_other, changed_keeps, length-changed, entries_added, pushed_entries, pushed_blocks, or_else}

-- the entries that a call adds, and those of more calls behind it
pub fields_behind : (ifd : ℕ) (context : Context) (field : Field) (fields : List Field)
    → entries_into ifd context (field ∷ fields) ≡ entries_added ifd context field ++ entries_into ifd context fields
fields_behind ifd context field fields = cases (is_ignored field.tag.0 field.tag.1) (field.ifd_num.0 == ifd) (context_eq field.tag.0 context)
  where
    cases : (a b c : Bool) → map entry_of (cond (not a && (b && c)) (field ∷ filter (goes_into ifd context) fields) (filter (goes_into ifd context) fields))
        ≡ (if a then [] else (if b then (if c then entry_of field ∷ [] else []) else [])) ++ map entry_of (filter (goes_into ifd context) fields)
    cases true b c = refl
    cases false true true = refl
    cases false true false = refl
    cases false false c = refl

strips_keep : (strips : List (List ℕ)) (context : Context) (group : Group) → pushed_in (with_strips strips group) context ≡ pushed_in group context
strips_keep strips Tiff group = refl
strips_keep strips Exif group = refl
strips_keep strips Gps group = refl
strips_keep strips Interop group = refl

tiles_keep : (tiles : List (List ℕ)) (context : Context) (group : Group) → pushed_in (with_tiles tiles group) context ≡ pushed_in group context
tiles_keep tiles Tiff group = refl
tiles_keep tiles Exif group = refl
tiles_keep tiles Gps group = refl
tiles_keep tiles Interop group = refl

jpeg_keeps : (jpeg : List ℕ) (context : Context) (group : Group) → pushed_in (with_jpeg jpeg group) context ≡ pushed_in group context
jpeg_keeps jpeg Tiff group = refl
jpeg_keeps jpeg Exif group = refl
jpeg_keeps jpeg Gps group = refl
jpeg_keeps jpeg Interop group = refl

-- the entries of a directory after calls
entries_after : (calls : List Call) (groups : List Group) (m : ℕ) (context : Context)
    → pushed_in (group_at (after_calls calls groups) m) context ≡ pushed_in (group_at groups m) context ++ entries_in calls m context
entries_after [] groups m context = sym (append-nil (pushed_in (group_at groups m) context))
entries_after (Push field ∷ calls) groups m context =
    entries_after calls (pushed field groups) m context
    ∙ ap (λ r. r ++ entries_in calls m context) (pushed_entries field groups m context)
    ∙ append_assoc (pushed_in (group_at groups m) context) (entries_added m context field) (entries_in calls m context)
    ∙ ap (λ r. pushed_in (group_at groups m) context ++ r) (sym (fields_behind m context field (filter_map field_pushed calls)))
entries_after (SetStrips strips ifd ∷ calls) groups m context =
    entries_after calls (changed ifd (with_strips strips) groups) m context
    ∙ ap (λ r. r ++ entries_in calls m context) (changed_keeps (λ g. pushed_in g context) ifd m (with_strips strips) groups (strips_keep strips context))
entries_after (SetTiles tiles ifd ∷ calls) groups m context =
    entries_after calls (changed ifd (with_tiles tiles) groups) m context
    ∙ ap (λ r. r ++ entries_in calls m context) (changed_keeps (λ g. pushed_in g context) ifd m (with_tiles tiles) groups (tiles_keep tiles context))
entries_after (SetJpeg jpeg ifd ∷ calls) groups m context =
    entries_after calls (changed ifd (with_jpeg jpeg) groups) m context
    ∙ ap (λ r. r ++ entries_in calls m context) (changed_keeps (λ g. pushed_in g context) ifd m (with_jpeg jpeg) groups (jpeg_keeps jpeg context))

-- what is set in a directory, where each call sets it anew or leaves it
last_behind : {X : Type 0} (old o : Option X) (rest : List X) → last_or old (cons_option o rest) ≡ last_or (or_else o old) rest
last_behind old None rest = refl
last_behind old (Some x) rest = refl

set_after : {X : Type 0} (see : Group → Option X) (set : Call → Option X) (m : ℕ)
    → ((call : Call) (groups : List Group) → see (group_at (after_call call groups) m) ≡ or_else (set call) (see (group_at groups m)))
    → (calls : List Call) (groups : List Group) → see (group_at (after_calls calls groups) m) ≡ last_or (see (group_at groups m)) (filter_map set calls)
set_after see set m h [] groups = refl
set_after see set m h (call ∷ calls) groups =
    set_after see set m h calls (after_call call groups)
    ∙ ap (λ o. last_or o (filter_map set calls)) (h call groups)
    ∙ sym (last_behind (see (group_at groups m)) (set call) (filter_map set calls))

-- a change that sets a thing in the directory with one number
set_where : {X : Type 0} (see : Group → Option X) (x : X) (change : Group → Group) → ((group : Group) → see (change group) ≡ Some x)
    → (ifd m : ℕ) (groups : List Group) → see (group_at (changed ifd change groups) m) ≡ or_else (if ifd == m then Some x else None) (see (group_at groups m))
set_where {X} see x change h ifd m groups = go (ifd == m) refl
  where
    go : (b : Bool) → (ifd == m) ≡ b → see (group_at (changed ifd change groups) m) ≡ or_else (if ifd == m then Some x else None) (see (group_at groups m))
    go true e =
        let k : ifd ≡ m = eqb-true ifd m e in
        rw e (ap (λ n. see (group_at (changed ifd change groups) n)) (sym k) ∙ ap see (changed_same ifd change groups) ∙ h (group_at groups ifd))
    go false e = rw e (ap see (changed_other ifd m change groups (eqb-false ifd m e)))

strips_after : (m : ℕ) (call : Call) (groups : List Group) → (group_at (after_call call groups) m).strips ≡ or_else (strips_in m call) (group_at groups m).strips
strips_after m (Push field) groups = ap (λ (b : BlocksOf). b.strips) (pushed_blocks field groups m)
strips_after m (SetStrips strips ifd) groups = set_where (λ g. g.strips) strips (with_strips strips) (λ g. refl) ifd m groups
strips_after m (SetTiles tiles ifd) groups = changed_keeps (λ g. g.strips) ifd m (with_tiles tiles) groups (λ g. refl)
strips_after m (SetJpeg jpeg ifd) groups = changed_keeps (λ g. g.strips) ifd m (with_jpeg jpeg) groups (λ g. refl)

tiles_after : (m : ℕ) (call : Call) (groups : List Group) → (group_at (after_call call groups) m).tiles ≡ or_else (tiles_in m call) (group_at groups m).tiles
tiles_after m (Push field) groups = ap (λ (b : BlocksOf). b.tiles) (pushed_blocks field groups m)
tiles_after m (SetStrips strips ifd) groups = changed_keeps (λ g. g.tiles) ifd m (with_strips strips) groups (λ g. refl)
tiles_after m (SetTiles tiles ifd) groups = set_where (λ g. g.tiles) tiles (with_tiles tiles) (λ g. refl) ifd m groups
tiles_after m (SetJpeg jpeg ifd) groups = changed_keeps (λ g. g.tiles) ifd m (with_jpeg jpeg) groups (λ g. refl)

jpeg_after : (m : ℕ) (call : Call) (groups : List Group) → (group_at (after_call call groups) m).jpeg ≡ or_else (jpeg_in m call) (group_at groups m).jpeg
jpeg_after m (Push field) groups = ap (λ (b : BlocksOf). b.jpeg) (pushed_blocks field groups m)
jpeg_after m (SetStrips strips ifd) groups = changed_keeps (λ g. g.jpeg) ifd m (with_strips strips) groups (λ g. refl)
jpeg_after m (SetTiles tiles ifd) groups = changed_keeps (λ g. g.jpeg) ifd m (with_tiles tiles) groups (λ g. refl)
jpeg_after m (SetJpeg jpeg ifd) groups = set_where (λ g. g.jpeg) jpeg (with_jpeg jpeg) (λ g. refl) ifd m groups

-- how many directories there are after calls
length-call : (call : Call) (groups : List Group) → length (after_call call groups) ≡ max (length groups) (directories_of call)
length-call (Push field) groups =
    elim (is_ignored field.tag.0 field.tag.1) as
    (λ b. length (if b then groups else changed field.ifd_num.0 (with_entry field.tag.0 (entry_of field)) groups) ≡ max (length groups) (if b then 0 else suc field.ifd_num.0)) [
      | true ↦ omega arith
      | false ↦ length-changed field.ifd_num.0 (with_entry field.tag.0 (entry_of field)) groups
    ]
length-call (SetStrips strips ifd) groups = length-changed ifd (with_strips strips) groups
length-call (SetTiles tiles ifd) groups = length-changed ifd (with_tiles tiles) groups
length-call (SetJpeg jpeg ifd) groups = length-changed ifd (with_jpeg jpeg) groups

length-after : (calls : List Call) (groups : List Group) → length (after_calls calls groups) ≡ max (length groups) (directories calls)
length-after [] groups = omega arith
length-after (call ∷ calls) groups =
    let more = length-after calls (after_call call groups) in
    let one = length-call call groups in
    omega arith

-- a list from its groups by number
tabulated : (f : ℕ → Group) (a : ℕ) (groups : List Group) → ((m : ℕ) → m < length groups → group_at groups m ≡ f (a + m)) → groups ≡ map f (range_with_len a (length groups))
tabulated f a [] h = refl
tabulated f a (group ∷ groups) h =
    let here : a + 0 ≡ a = omega arith in
    let first : group ≡ f a = h 0 (omega arith) ∙ ap f here in
    let rest : groups ≡ map f (range_with_len (a + 1) (length groups)) =
    tabulated f (a + 1) groups (λ m k. let e : a + suc m ≡ a + 1 + m = omega arith in h (suc m) (omega arith) ∙ ap f e) in
    λ i. first i ∷ rest i

made_at : (calls : List Call) (m : ℕ) → group_at (made calls) m ≡ group_made calls m
made_at calls m =
    let entries : (context : Context) → pushed_in (group_at (made calls) m) context ≡ pushed_in (group_at [] m) context ++ entries_in calls m context = entries_after calls [] m in
    λ i. record {
      tiff = entries Tiff i;
      exif = entries Exif i;
      gps = entries Gps i;
      interop = entries Interop i;
      strips = set_after (λ g. g.strips) (strips_in m) m (strips_after m) calls [] i;
      tiles = set_after (λ g. g.tiles) (tiles_in m) m (tiles_after m) calls [] i;
      jpeg = set_after (λ g. g.jpeg) (jpeg_in m) m (jpeg_after m) calls [] i;
    }

-- calls make a group for each number up to the greatest, with what was pushed and last set
pub is_made_of : (calls : List Call) → IsMadeOf calls
is_made_of calls =
    let n : length (made calls) ≡ directories calls = (let e = length-after calls [] in omega arith) in
    tabulated (group_made calls) 0 (made calls) (λ m k. let e : m ≡ 0 + m = omega arith in made_at calls m ∙ ap (group_made calls) e)
    ∙ ap (λ k. map (group_made calls) (range_with_len 0 k)) n

-- pushing fields one after the other makes the same groups as calls that push them
pub pushes_are_calls : (fields : List Field) (groups : List Group) → PushesAreCalls fields groups
pushes_are_calls [] groups = refl
pushes_are_calls (field ∷ fields) groups = pushes_are_calls fields (pushed field groups)
