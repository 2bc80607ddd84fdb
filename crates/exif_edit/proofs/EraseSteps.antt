-- The steps of erasing.
use Rattle.std.proofs.Common.{◌≡◌, ◌<◌, ◌+◌, ◌-◌, ℕ, Bool, true, false, List, Result, [], ◌∷◌, ◌++◌, map, append_assoc, refl, sym, ap, ◌∙◌, Ok, Err}
use Rattle.std.specs.List.{flat_map}
use Rattle.exif_base.specs.Bytes.{Reading, spaced}
use Rattle.exif_base.specs.Orders.{number_of, order_named}
use Rattle.exif_base.specs.declared.endian.Order.{Order}
use Rattle.exif_types.specs.declared.field.Field.{Field}
use Rattle.exif_edit_base.specs.Causes.{Cause, of_data, ◌>>=◌}
use Rattle.exif_edit_base.specs.Patches.{patched, zeros_over}
use Rattle.exif_edit_base.specs.Plans.{carried_out, planned}
use Rattle.exif_edit_base.specs.declared.plan.Plan.{Plan}
use Rattle.exif_edit_base.specs.GpsOffsets.{gps_offsets}
use Rattle.exif_edit_base.specs.Readings.{Read, reading}
use Rattle.exif_edit_base.specs.declared.patch.Patch.{Patch}
use Rattle.exif_edit_base.specs.declared.patch.Span.{Span}
use Rattle.exif_edit.specs.Erasing.{cleared, directory_spans, erase_answer, erase_patches, gps_spans, kept, without_gps, zeros_planned}
use Rattle.exif_tiff.proofs.ParserRuns.{spaced_step}

-- one of the entries that are left
pub value_on : (span : ℕ → Span) (at' n i : ℕ) (out new all : List Patch) → i < n
    → new ≡ out ++ zeros_over (span at') ∷ []
    → out ++ map zeros_over (map span (spaced at' 12 (n - i))) ≡ all
    → new ++ map zeros_over (map span (spaced (at' + 12) 12 (n - (i + 1)))) ≡ all
value_on span at' n i out new all h e f =
    let g : out ++ map zeros_over (map span (at' ∷ spaced (at' + 12) 12 (n - (i + 1)))) ≡ all =
    rw (spaced_step n i at' 12 h) at f in
    ap (λ xs. xs ++ map zeros_over (map span (spaced (at' + 12) 12 (n - (i + 1))))) e
    ∙ (append_assoc out (zeros_over (span at') ∷ [])
    (map zeros_over (map span (spaced (at' + 12) 12 (n - (i + 1))))) ∙ g)

-- ---- the whole

-- where the data are refused, so is erasing GPS data of them
pub erase_refused : (bytes : List ℕ) (c : Cause) → of_data (reading bytes) ≡ Err c
    → erase_patches bytes ≡ Err c
unfolding erase_patches
erase_refused bytes c h = rw h refl

erase_cleared : (bytes : List ℕ) (read : Read) → reading bytes ≡ Ok read
    → erase_patches bytes
    ≡ cleared (kept read) bytes
    (map zeros_over (gps_spans (number_of (order_named read.little)) bytes))
unfolding erase_patches
erase_cleared bytes read h = rw h refl

-- the zeros are those of the order that the data name
pub zeros_are : (bytes : List ℕ) (ps : List Patch) (read : Read) (order : Order)
    → order ≡ order_named read.little → ps ≡ map zeros_over (gps_spans (number_of order) bytes)
    → ps ≡ map zeros_over (gps_spans (number_of (order_named read.little)) bytes)
zeros_are bytes ps read order o n =
    n ∙ ap (λ x. map zeros_over (gps_spans (number_of x) bytes)) o

-- the zeros over the GPS directories that were found
pub zeros_found : (number : Reading) (bytes qs : List ℕ) (ps : List Patch)
    → qs ≡ gps_offsets number bytes
    → ps ≡ map zeros_over (flat_map (directory_spans number bytes) qs)
    → ps ≡ map zeros_over (gps_spans number bytes)
unfolding gps_spans
zeros_found number bytes qs ps w n =
    n ∙ ap (λ xs. map zeros_over (flat_map (directory_spans number bytes) xs)) w

-- the patches are the answer if the data are read without the fields then
pub erase_wanted : (bytes : List ℕ) (ps : List Patch) (read : Read) (fs : List Field)
    → reading bytes ≡ Ok read
    → ps ≡ map zeros_over (gps_spans (number_of (order_named read.little)) bytes)
    → fs ≡ without_gps read.fields
    → cleared (record { little = read.little; fields = fs; faults = read.faults }) bytes ps
    ≡ erase_patches bytes
erase_wanted bytes ps read fs h p f =
    ap (λ x. cleared (record { little = read.little; fields = x; faults = read.faults }) bytes ps)
    f
    ∙ (ap (λ x. cleared (kept read) bytes x) p ∙ sym (erase_cleared bytes read h))

-- a plan whose answer is so is that of the edit
pub zeros_answer : (bytes : List ℕ) (ps : List Patch) (b : Bool) (read : Read)
    (answer : Result (List Patch) Cause) → reading bytes ≡ Ok read
    → ps ≡ map zeros_over (gps_spans (number_of (order_named read.little)) bytes)
    → (b ≡ true → erase_patches bytes ≡ Ok ps) → answer ≡ zeros_planned b read bytes ps
    → answer ≡ erase_patches bytes
zeros_answer bytes ps true read answer h z alone e = e ∙ sym (alone refl)
zeros_answer bytes ps false read answer h z alone e =
    e ∙ erase_wanted bytes ps read (without_gps read.fields) h z refl

-- the data with its patches are those of the edit then
pub zeros_carried : (bytes : List ℕ) (plan : Plan) → planned bytes plan ≡ erase_patches bytes
    → carried_out bytes plan ≡ erase_answer bytes
zeros_carried bytes plan e = ap (λ x. x >>= λ patches. Ok (patched patches bytes)) e
