-- A TIFF file without its metadata is settled.
use Rattle.std.proofs.Common.{◌≡◌, ◌∙◌, ◌||◌, ℕ, true, false, Bool, List, length, take, drop, replicate, Option, Some, Result, Ok, Err, if◌then◌else◌, refl, sym, ap, subst}
use Rattle.std.specs.Prelude.{codes, nat_lt}
use Rattle.std.specs.Str.{bytes_eq}
use Rattle.exif_base.specs.declared.endian.Order.{Order}
use Rattle.exif_base.specs.declared.endian.Order.TheVariants.{Big, Little}
use Rattle.exif_containers.specs.Container.{begins_tiff, format_in}
use Rattle.exif_containers.specs.declared.container.Format.{Format}
use Rattle.exif_containers.specs.declared.container.Format.TheVariants.{Tiff}
use Rattle.exif_scrub.specs.Keeping.{◌>>=◌, kept_bytes}
use Rattle.exif_scrub.specs.TiffScrubbing as tiff
use Rattle.exif_scrub.specs.declared.tiff.fault.Fault.{Fault}
use Rattle.exif_scrub.specs.declared.tiff.fault.Fault.TheVariants.{NoHeader, Raw}
use Rattle.exif_scrub.specs.declared.tiff.pass.Pass.TheVariants.{Keep}
use Rattle.exif_scrub.proofs.TiffTwice.{described_alone, stays_alone, twice}
use Rattle.exif_change.specs.Changed.{Change, whole}
use Rattle.exif_change.specs.Changes.{keeps_orientation, scrubbed, scrubbed_as, tiff_emptied}
use Rattle.exif_change.specs.declared.scrubbing.Removed.{Removed}
use Rattle.exif_change.specs.declared.scrubbing.Removed.TheVariants as removed
use Rattle.exif_change_laws.specs.Leaving.{takes_metadata}
use Rattle.exif_change_laws.proofs.ScrubbedFiles.{scrubbed_by}

-- ---- its signature

or_true : (b : Bool) → (b || true) ≡ true
or_true true = refl
or_true false = refl

marked : (a b c d : Bool) (order : Order)
    → ◌≡◌ {A = Result Order Fault} (if a then Err NoHeader else (if b then Err Raw else (if c then Ok Little else (if d then Ok Big else Err NoHeader)))) (Ok order)
    → (d || c) ≡ true
marked true b c d order e = absurd (cc)
marked false true c d order e = absurd (cc)
marked false false true d order e = or_true d
marked false false false true order e = refl
marked false false false false order e = absurd (cc)

-- what is not refused has an order
first_ok : {A B : Type 0} (x : Result A Fault) (f : A → Result B Fault) (b : B) → (x >>= f) ≡ Ok b → (a : A) × (x ≡ Ok a)
first_ok (Ok a) f b e = (a, refl)
first_ok {B = B} (Err r) f b e = absurd (err_ok e)
  where
    err_ok : ◌≡◌ {A = Result B Fault} (Err r) (Ok b) → ⊥
    err_ok e = cc

begins : (o : Bool) (file new : List ℕ) → tiff.kept_once o file ≡ Ok new → begins_tiff file ≡ true
begins o file new e =
    let order = first_ok (tiff.order_in file) (λ order. kept_bytes file 0 8 0 (replicate (length file) 0) >>= tiff.file_walked (Keep o) file) new e in
    marked (nat_lt (length file) 10) (bytes_eq (take 2 (drop 8 file)) (codes "CR")) (bytes_eq (take 4 file) (codes "II*\0")) (bytes_eq (take 4 file) (codes "MM\0*"))
    order.0 order.1

told : (b : Bool) (other : Option Format) → b ≡ true → (if b then Some Tiff else other) ≡ Some Tiff
told true other e = refl
told false other e = absurd (cc)

format_is : (file : List ℕ) → begins_tiff file ≡ true → format_in file ≡ Some Tiff
unfolding format_in
format_is file h = told (begins_tiff file) _ h

-- ---- what is made of it

tiff_taken : (removed : Removed) (file : List ℕ) → takes_metadata removed ≡ true
    → scrubbed_as Tiff removed file ≡ tiff_emptied (tiff.scrubbed (keeps_orientation removed) file)
tiff_taken removed.Metadata file t = refl
tiff_taken removed.AllButOrientation file t = refl
tiff_taken (removed.Gps unread) file t = absurd (cc)

tiff_made : (made : Result (List ℕ) Fault) (change : Change) → tiff_emptied made ≡ Ok change → (new : List ℕ) × (made ≡ Ok new) × (change ≡ whole new)
tiff_made (Ok new) change e = (new, refl, cc)
tiff_made (Err fault) change e = absurd (cc)

tiff_of : (removed : Removed) (file : List ℕ) (change : Change) → takes_metadata removed ≡ true → format_in file ≡ Some Tiff → scrubbed removed file ≡ Ok change
    → (new : List ℕ) × (tiff.scrubbed (keeps_orientation removed) file ≡ Ok new) × (change ≡ whole new)
tiff_of removed file change takes format e =
    tiff_made (tiff.scrubbed (keeps_orientation removed) file) change
    (sym (tiff_taken removed file takes) ∙ sym (scrubbed_by Tiff removed file format) ∙ e)

pub tiff_tags : (removed : Removed) (file : List ℕ) (change : Change) → takes_metadata removed ≡ true → format_in file ≡ Some Tiff
    → scrubbed removed file ≡ Ok change → tiff.only_described (keeps_orientation removed) change.file ≡ true
tiff_tags removed file change takes format e =
    let o = keeps_orientation removed in
    let t = tiff_of removed file change takes format e in
    subst (λ (c : Change). tiff.only_described o c.file ≡ true) (sym t.2) (described_alone o file t.0 t.1)

pub tiff_again : (removed : Removed) (file : List ℕ) (change : Change) → takes_metadata removed ≡ true → format_in file ≡ Some Tiff
    → scrubbed removed file ≡ Ok change → scrubbed removed change.file ≡ Ok change
tiff_again removed file change takes format e =
    let o = keeps_orientation removed in
    let t = tiff_of removed file change takes format e in
    let new = t.0 in
    let still = format_is new (begins o new new (stays_alone o file new t.1)) in
    let again : scrubbed removed new ≡ Ok (whole new) = scrubbed_by Tiff removed new still ∙ tiff_taken removed new takes ∙ ap tiff_emptied (twice o file new t.1) in
    subst (λ (c : Change). scrubbed removed c.file ≡ Ok c) (sym t.2) again
