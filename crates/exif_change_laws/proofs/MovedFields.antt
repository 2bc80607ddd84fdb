-- The fields of dates that were moved, and moved back.
use Rattle.std.proofs.Common.{◌≡◌, ◌∙◌, List, [], ◌∷◌, Option, Some, None, Result, Ok, Err, refl, ap}
use Rattle.std.specs.Bool.{⊤}
use Rattle.std.specs.Option.{option_map}
use Rattle.exif_types.specs.Lookup.{last_named}
use Rattle.exif_types.specs.declared.field.Field.{Field}
use Rattle.exif_types.specs.declared.tag.Tag.{Tag}
use Rattle.exif_types.specs.declared.value.Value.{Value}
use Rattle.exif_datetime.specs.Shift.{moved_value, opposite}
use Rattle.exif_datetime.specs.declared.shift.ClockShift.{ClockShift}
use Rattle.exif_datetime.specs.declared.shift.Unmoved.{Unmoved}
use Rattle.exif_edit_base.specs.Finding.{replaced, with_value}
use Rattle.exif_change.specs.Reading.{primary}
use Rattle.exif_change_laws.proofs.SetFields.{AreApart, last_kept, last_same, last_value, replaced_turned, twice_replaced}

-- ---- one date

-- the fields with the date of a tag set, or as they are
abbrev pub set_or : Tag → Option Value → List Field → List Field
set_or tag None fs = fs
set_or tag (Some value) fs = replaced tag primary value fs

-- what was moved
abbrev pub if_moved : Result Value Unmoved → Option Value
if_moved (Ok value) = Some value
if_moved (Err why) = None

-- the value of a date, moved
abbrev pub moved_option : ClockShift → Option Field → Option Value
moved_option by None = None
moved_option by (Some field) = if_moved (moved_value by field.value)

-- a date is moved, if there is one
abbrev pub Moves : ClockShift → Option Field → Type 0
Moves by None = ⊤
Moves by (Some field) = (value : Value) × (moved_value by field.value ≡ Ok value)

-- values that are moved are moved back
abbrev pub ValuesBack : ClockShift → Type 0
ValuesBack by = (old new : Value) → moved_value by old ≡ Ok new → moved_value (opposite by) new ≡ Ok old

-- the value of a field
abbrev pub value_option : Option Field → Option Value
value_option o = option_map (λ (f : Field). f.value) o

turned : (t u : Tag) (a b : Option Value) (fs : List Field) → AreApart t u primary → set_or t a (set_or u b fs) ≡ set_or u b (set_or t a fs)
turned t u None None fs h = refl
turned t u None (Some w) fs h = refl
turned t u (Some v) None fs h = refl
turned t u (Some v) (Some w) fs h = replaced_turned t u primary v w fs h

kept : (t u : Tag) (b : Option Value) (fs : List Field) → AreApart t u primary → last_named (set_or u b fs) t primary ≡ last_named fs t primary
kept t u None fs h = refl
kept t u (Some w) fs h = last_kept t u primary w fs h

-- the value that was there is set again
restored : (by : ClockShift) (t : Tag) (fs : List Field) (o : Option Field) → last_named fs t primary ≡ o → Moves by o
    → set_or t (value_option o) (set_or t (moved_option by o) fs) ≡ fs
restored by t fs None h m = refl
restored by t fs (Some field) h m =
    ap (λ (r : Result Value Unmoved). replaced t primary field.value (set_or t (if_moved r) fs)) m.1
    ∙ (twice_replaced t primary field.value m.0 fs ∙ last_same t primary fs field h)

-- what is moved back is the value that was there
back_option : (by : ClockShift) (t : Tag) (fs : List Field) (o : Option Field) → ValuesBack by → last_named fs t primary ≡ o → Moves by o
    → moved_option (opposite by) (last_named (set_or t (moved_option by o) fs) t primary) ≡ value_option o
back_option by t fs None law h m = ap (moved_option (opposite by)) h
back_option by t fs (Some field) law h m =
    ap (λ (r : Result Value Unmoved). moved_option (opposite by) (last_named (set_or t (if_moved r) fs) t primary)) m.1
    ∙ (ap (moved_option (opposite by)) (last_value t primary m.0 fs ∙ ap (option_map (with_value m.0)) h)
    ∙ ap if_moved (law field.value m.0 m.1))

-- ---- dates one after the other

-- the fields with dates moved, by what they were before
abbrev pub dates_set : ClockShift → List Field → List Tag → List Field → List Field
dates_set by fields [] fs = fs
dates_set by fields (tag ∷ tags) fs = dates_set by fields tags (set_or tag (moved_option by (last_named fields tag primary)) fs)

-- each is moved
abbrev pub AllMove : ClockShift → List Field → List Tag → Type 0
AllMove by fields [] = ⊤
AllMove by fields (tag ∷ tags) = Moves by (last_named fields tag primary) × AllMove by fields tags

-- no field has the name of one tag and of another
abbrev pub ApartFrom : Tag → List Tag → Type 0
ApartFrom t [] = ⊤
ApartFrom t (u ∷ us) = (AreApart t u primary × AreApart u t primary) × ApartFrom t us

abbrev pub AllApart : List Tag → Type 0
AllApart [] = ⊤
AllApart (t ∷ ts) = ApartFrom t ts × AllApart ts

-- the same fields have the names
abbrev pub SameLast : List Field → List Field → List Tag → Type 0
SameLast fields fs [] = ⊤
SameLast fields fs (t ∷ ts) = (last_named fs t primary ≡ last_named fields t primary) × SameLast fields fs ts

-- what is moved back is what was there
abbrev pub BackLast : ClockShift → List Field → List Field → List Tag → Type 0
BackLast by fields fs [] = ⊤
BackLast by fields fs (t ∷ ts) = (moved_option (opposite by) (last_named fs t primary) ≡ value_option (last_named fields t primary)) × BackLast by fields fs ts

last_stays : (by : ClockShift) (fields fs : List Field) (t : Tag) (ts : List Tag) → ApartFrom t ts
    → last_named (dates_set by fields ts fs) t primary ≡ last_named fs t primary
last_stays by fields fs t [] h = refl
last_stays by fields fs t (u ∷ us) h =
    let o = moved_option by (last_named fields u primary) in
    last_stays by fields (set_or u o fs) t us h.1 ∙ kept t u o fs h.0.0

set_first : (by : ClockShift) (fields fs : List Field) (t : Tag) (a : Option Value) (ts : List Tag) → ApartFrom t ts
    → set_or t a (dates_set by fields ts fs) ≡ dates_set by fields ts (set_or t a fs)
set_first by fields fs t a [] h = refl
set_first by fields fs t a (u ∷ us) h =
    let o = moved_option by (last_named fields u primary) in
    set_first by fields (set_or u o fs) t a us h.1 ∙ ap (dates_set by fields us) (turned t u a o fs h.0.0)

same_on : (fields fs : List Field) (u : Tag) (o : Option Value) (ts : List Tag) → ApartFrom u ts → SameLast fields fs ts → SameLast fields (set_or u o fs) ts
same_on fields fs u o [] h s = tt
same_on fields fs u o (t ∷ ts) h s = (kept t u o fs h.0.1 ∙ s.0, same_on fields fs u o ts h.1 s.1)

pub all_back : (by : ClockShift) (fields fs : List Field) (ts : List Tag) → ValuesBack by → AllApart ts → AllMove by fields ts → SameLast fields fs ts
    → BackLast by fields (dates_set by fields ts fs) ts
all_back by fields fs [] law h m s = tt
all_back by fields fs (t ∷ ts) law h m s =
    let o = last_named fields t primary in
    let next = set_or t (moved_option by o) fs in (
      ap (moved_option (opposite by)) (last_stays by fields next t ts h.0) ∙ back_option by t fs o law s.0 m.0,
      all_back by fields next ts law h.1 m.1 (same_on fields fs t (moved_option by o) ts h.0 s.1),
    )

undone : (by : ClockShift) (fields all fs : List Field) (ts : List Tag) → AllApart ts → AllMove by fields ts → SameLast fields fs ts → BackLast by fields all ts
    → dates_set (opposite by) all ts (dates_set by fields ts fs) ≡ fs
undone by fields all fs [] h m s b = refl
undone by fields all fs (t ∷ ts) h m s b =
    let o = last_named fields t primary in
    let next = set_or t (moved_option by o) fs in
    ap (λ (a : Option Value). dates_set (opposite by) all ts (set_or t a (dates_set by fields ts next))) b.0
    ∙ (ap (dates_set (opposite by) all ts) (set_first by fields next t (value_option o) ts h.0)
    ∙ (ap (λ (gs : List Field). dates_set (opposite by) all ts (dates_set by fields ts gs)) (restored by t fs o s.0 m.0)
    ∙ undone by fields all fs ts h.1 m.1 s.1 b.1))

pub same_all : (fs : List Field) (ts : List Tag) → SameLast fs fs ts
same_all fs [] = tt
same_all fs (t ∷ ts) = (refl, same_all fs ts)

-- dates that were moved and moved back
pub fields_back : (by : ClockShift) (fields : List Field) (ts : List Tag) → ValuesBack by → AllApart ts → AllMove by fields ts
    → dates_set (opposite by) (dates_set by fields ts fields) ts (dates_set by fields ts fields) ≡ fields
fields_back by fields ts law h m =
    undone by fields (dates_set by fields ts fields) fields ts h m (same_all fields ts)
    (all_back by fields fields ts law h m (same_all fields ts))
