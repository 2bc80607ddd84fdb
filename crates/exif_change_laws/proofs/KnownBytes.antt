-- Each byte of a scrubbed file is one of a part that belongs there, or of one that was answered.
use Rattle.std.proofs.Common.{◌≡◌, inl, inr, ◌∙◌, ◌<◌, ◌≤◌, ◌+◌, zero, suc, not, ℕ, nat_lt, Bool, true, false, List, [], ◌∷◌, length, All, Contains, is_some, Option, Some, None, Result, Ok, Err, refl, ap, arith, if◌then◌else◌}
use Rattle.std.proofs.lemmas.Bool.{false≢true}
use Rattle.std.proofs.lemmas.Bool.Decides.{nat_tests}
use Rattle.std.proofs.lemmas.List.Elements.{All-contains}
use Rattle.exif_formats.specs.Jxl.{begins_codestream}
use Rattle.exif_formats.specs.Pictures.{png_data}
use Rattle.exif_formats.specs.declared.format.PictureFormat.{PictureFormat}
use Rattle.exif_formats.specs.declared.format.PictureFormat.TheVariants as format
use Rattle.exif_inventory.specs.Promises.{AreInOrder}
use Rattle.exif_inventory.specs.declared.part.Part.{Part}
use Rattle.exif_lengths.specs.Walks.{measured_inventory}
use Rattle.exif_segments.specs.declared.remove.Remove.TheVariants as remove
use Rattle.exif_types.specs.Refusals as types
use Rattle.exif_change.specs.Changed.{Change, Undone, cut_off, whole}
use Rattle.exif_change.specs.Changes.{keeps_orientation}
use Rattle.exif_change.specs.Codestreams.{codestream_of}
use Rattle.exif_change.specs.Found.{IsAnswered, belongs, with_found}
use Rattle.exif_change.specs.JxlChanges as jxl
use Rattle.exif_change.specs.Pictures.{by_codestream, format_of, if_cut_off, scrubbed_by}
use Rattle.exif_change.specs.PngChanges as png
use Rattle.exif_change.specs.Refusals.{Reason, ◌>>=◌}
use Rattle.exif_change.specs.declared.codestream.Codestream.{Codestream}
use Rattle.exif_change.specs.declared.codestream.Codestream.TheVariants as codestream
use Rattle.exif_change.specs.declared.scrubbing.Removed.{Removed}
use Rattle.exif_change.specs.declared.scrubbing.Removed.TheVariants.{AllButOrientation, Gps, Metadata}
use Rattle.exif_change.proofs.FoundParts.{found_answered, still_answered}
use Rattle.exif_change_laws.specs.KnownBytes.{EachByteIsTold, IsIn, IsTold, MadeAnew, is_made_anew}
use Rattle.exif_change_laws.specs.Leaving.{takes_metadata}
use Rattle.exif_change_laws.proofs.FoundFiles.{all_answered, kept_answered, weaker}

no_ok : (why : Reason) (x : Change) → ◌≡◌ {A = Result Change Reason} (Err why) (Ok x) → ⊥
no_ok why x e = cc

-- ---- PNG files

png_all : (file : List ℕ) (d : Result (List ℕ) types.Refusal) (change : Change) (parts : List Part)
    → (png.png_kept Metadata d >>= λ put. with_found (is_some put) (png.rewritten remove.Metadata put file >>= λ new. Ok (whole new))) ≡ Ok change
    → measured_inventory change.file ≡ Some parts → All (IsAnswered false change.undone) parts
png_all file (Ok found) change parts e is = found_answered false (png.rewritten remove.Metadata None file >>= λ new. Ok (whole new)) change parts e is
png_all file (Err why) change parts e is = found_answered false (png.rewritten remove.Metadata None file >>= λ new. Ok (whole new)) change parts e is

png_kept : (file : List ℕ) (k : Result (Option (List ℕ)) Reason) (change : Change) (parts : List Part)
    → (k >>= λ put. with_found (is_some put) (png.rewritten remove.Metadata put file >>= λ new. Ok (whole new))) ≡ Ok change
    → measured_inventory change.file ≡ Some parts → All (IsAnswered true change.undone) parts
png_kept file (Err why) change parts e is = absurd (no_ok why change e)
png_kept file (Ok put) change parts e is = λ k d below.
    weaker (is_some put) change.undone _ (found_answered (is_some put) (png.rewritten remove.Metadata put file >>= λ new. Ok (whole new)) change parts e is k d below)

-- ---- JPEG XL files

jxl_from : (r : Result (List ℕ) Reason) (change : Change) (parts : List Part)
    → (r >>= λ new. with_found false (Ok (whole new))) ≡ Ok change
    → measured_inventory change.file ≡ Some parts → All (IsAnswered false change.undone) parts
jxl_from (Err why) change parts e is = absurd (no_ok why change e)
jxl_from (Ok new) change parts e is = found_answered false (Ok (whole new)) change parts e is

jxl_by : (b : Bool) (file : List ℕ) (change : Change) (parts : List Part) → not b ≡ true
    → (if b then Ok (whole file) else (jxl.rewritten remove.Metadata None file >>= λ new. with_found false (Ok (whole new)))) ≡ Ok change
    → measured_inventory change.file ≡ Some parts → All (IsAnswered false change.undone) parts
jxl_by true file change parts n e is = absurd (false≢true n)
jxl_by false file change parts n e is = jxl_from (jxl.rewritten remove.Metadata None file) change parts e is

cut_all : (r : Result Change Reason) (change : Change) (parts : List Part)
    → ((c : Change) → r ≡ Ok c → measured_inventory c.file ≡ Some parts → All (IsAnswered false c.undone) parts)
    → if_cut_off r ≡ Ok change → measured_inventory change.file ≡ Some parts → All (IsAnswered false change.undone) parts
cut_all (Err why) change parts all e is = absurd (no_ok why change e)
cut_all (Ok old) change parts all e is =
    still_answered false old change (Some cut_off ∷ []) parts
    (ap (λ (x : Result Change Reason). elim x [ Ok c ↦ c.file | Err why ↦ [] ]) e)
    (ap (λ (x : Result Change Reason). elim x [ Ok c ↦ c.undone | Err why ↦ [] ]) e)
    (all old refl) is

jxl_all : (file : List ℕ) (c : Codestream) (change : Change) (parts : List Part) → not (begins_codestream file) ≡ true
    → by_codestream c (jxl.jxl_emptied file) ≡ Ok change
    → measured_inventory change.file ≡ Some parts → All (IsAnswered false change.undone) parts
jxl_all file codestream.Absent change parts n e is = absurd (cc)
jxl_all file codestream.Whole change parts n e is = jxl_by (begins_codestream file) file change parts n e is
jxl_all file codestream.CutOff change parts n e is =
    cut_all (jxl.jxl_emptied file) change parts (λ c. jxl_by (begins_codestream file) file c parts n) e is

-- ---- all formats

all_more : (undone : List (Option Undone)) (parts : List Part) → All (IsAnswered false undone) parts → All (IsAnswered true undone) parts
all_more undone parts all = λ k d below. weaker false undone _ (all k d below)

by_format : (file : List ℕ) (o : Option PictureFormat) (removed : Removed) (change : Change) (parts : List Part) → takes_metadata removed ≡ true
    → is_made_anew file o ≡ true → scrubbed_by o removed file ≡ Ok change → measured_inventory change.file ≡ Some parts
    → All (IsAnswered (keeps_orientation removed) change.undone) parts
by_format file o (Gps unread) change parts t a e is = absurd (false≢true t)
by_format file None Metadata change parts t a e is = all_answered file change (a, e) parts is
by_format file None AllButOrientation change parts t a e is = kept_answered file change (a, e) parts is
by_format file (Some (format.Container known)) Metadata change parts t a e is = all_answered file change (a, e) parts is
by_format file (Some (format.Container known)) AllButOrientation change parts t a e is = kept_answered file change (a, e) parts is
by_format file (Some format.Png) Metadata change parts t a e is = png_all file (png_data file) change parts e is
by_format file (Some format.Png) AllButOrientation change parts t a e is =
    png_kept file (png.png_kept AllButOrientation (png_data file)) change parts e is
by_format file (Some format.JpegXl) Metadata change parts t a e is = jxl_all file (codestream_of file) change parts a e is
by_format file (Some format.JpegXl) AllButOrientation change parts t a e is =
    all_more change.undone parts (jxl_all file (codestream_of file) change parts a e is)
by_format file (Some format.Raf) removed change parts t a e is = absurd (false≢true a)
by_format file (Some format.Orf) removed change parts t a e is = absurd (false≢true a)
by_format file (Some format.Rw2) removed change parts t a e is = absurd (false≢true a)
by_format file (Some format.Cr3) removed change parts t a e is = absurd (false≢true a)

-- ---- bytes

before : (i n : ℕ) → nat_lt i n ≡ true → i < n
before i n e = grind (arith, nat_tests)

behind : (i n : ℕ) → nat_lt i n ≡ false → n ≤ i
behind i n e = grind (arith, nat_tests)

-- a byte of parts in order is one of one of them
byte_in : (at : ℕ) (parts : List Part) (end i : ℕ) → AreInOrder at parts end → at ≤ i → i < end
    → (part : Part) × Contains parts part × IsIn part i
byte_in at [] end i o above below = absurd (none o above below)
  where
    none : at ≡ end → at ≤ i → i < end → ⊥
    none e a b = omega (arith, e, a, b)
byte_in at (part ∷ parts) end i o above below =
    by (nat_lt i (at + part.len)) refl (λ past. byte_in (at + part.len) parts end i o.1 past below)
  where
    by : (b : Bool) → nat_lt i (at + part.len) ≡ b
        → (at + part.len ≤ i → (p : Part) × Contains parts p × IsIn p i)
        → (p : Part) × Contains (part ∷ parts) p × IsIn p i
    by true t later = (part, (zero, omega arith, refl), (omega (arith, o.0, above), let within = before i (at + part.len) t in omega (arith, o.0, within)))
    by false f later =
        let r = later (behind i (at + part.len) f) in
        let c = r.1 in
        let less = c.1 in
        (r.0, (suc c.0, omega arith, c.2), r.2)

told : (put : Bool) (change : Change) (part : Part) (b : Bool) → belongs put part ≡ b → IsAnswered put change.undone part → IsTold put change part
told put change part true e answered = inl e
told put change part false e answered = inr (answered e)

pub each_byte : (s : MadeAnew) → EachByteIsTold s
each_byte s i below =
    let put = keeps_orientation s.removed in
    let all = by_format s.file (format_of s.file) s.removed s.change s.parts s.takes s.anew s.made s.listed in
    let found = byte_in 0 s.parts (length s.change.file) i s.whole (omega arith) below in
    let answered = All-contains (IsAnswered put s.change.undone) s.parts found.0 all found.1 in
    (found.0, found.1, found.2, told put s.change found.0 (belongs put found.0) refl answered)
