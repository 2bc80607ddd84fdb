-- What a scrubbed JPEG or WebP file holds beside its picture is answered.
use Rattle.std.proofs.Common.{◌≡◌, ◌∙◌, ◌==◌, ◌&&◌, true, false, ℕ, Bool, List, All, is_some, Option, Some, None, Result, Ok, Err, refl, sym}
use Rattle.std.proofs.lemmas.Bool.{false≢true}
use Rattle.exif_containers.specs.Container.{format_in}
use Rattle.exif_containers.specs.declared.container.Format.{Format}
use Rattle.exif_containers.specs.declared.container.Format.TheVariants.{Tiff, Jpeg, Heif, WebP}
use Rattle.exif_segments.specs.declared.remove.Remove.TheVariants as remove
use Rattle.exif_inventory.specs.declared.kind.Kind.{Kind}
use Rattle.exif_inventory.specs.declared.kind.Kind.TheVariants as kind
use Rattle.exif_inventory.specs.declared.part.Part.{Part}
use Rattle.exif_lengths.specs.Walks.{measured_inventory}
use Rattle.exif_change.specs.Changed.{Change, Undone}
use Rattle.exif_change.specs.Changes.{kept, scrubbed, without_metadata}
use Rattle.exif_change.specs.Found.{IsAnswered, is_wanted, loose_parts, with_found}
use Rattle.exif_change.specs.Refusals.{Reason, as_read, ◌>>=◌}
use Rattle.exif_change.specs.Rewriting.{rewritten}
use Rattle.exif_change.specs.declared.scrubbing.Removed.TheVariants.{AllButOrientation, Metadata}
use Rattle.exif_change.proofs.FoundParts.{found_answered, more_answered}
use Rattle.exif_change_laws.specs.Scrubbed.{AllAnswered, IsScrubbedTo, is_written_again}
use Rattle.exif_change_laws.proofs.ScrubbedFiles.{scrubbed_by}

no_ok : (why : Reason) (x : Change) → ◌≡◌ {A = Result Change Reason} (Err why) (Ok x) → ⊥
no_ok why x e = cc

by_metadata : (file : List ℕ) (change : Change) (o : Option Format) → format_in file ≡ o → is_written_again o ≡ true → scrubbed Metadata file ≡ Ok change → AllAnswered false change
by_metadata file change (Some Jpeg) f r e = λ parts is.
    more_answered false (loose_parts file) (without_metadata Jpeg Metadata file) change parts
    (λ c. found_answered false (as_read (rewritten Jpeg remove.Metadata None file)) c parts)
    (sym (scrubbed_by Jpeg Metadata file f) ∙ e) is
by_metadata file change (Some WebP) f r e = λ parts is. found_answered false (as_read (rewritten WebP remove.Metadata None file)) change parts (sym (scrubbed_by WebP Metadata file f) ∙ e) is
by_metadata file change (Some Heif) f r e = absurd (false≢true r)
by_metadata file change (Some Tiff) f r e = absurd (false≢true r)
by_metadata file change None f r e = absurd (false≢true r)

pub all_answered : (file : List ℕ) (change : Change) → IsScrubbedTo Metadata file change → AllAnswered false change
all_answered file change h = by_metadata file change (format_in file) refl h.0 h.1

-- what does not belong there with Exif data does not without
fewer : (first : Bool) (k : Kind) → (first && is_wanted true k) ≡ false → (first && is_wanted false k) ≡ false
fewer true kind.Exif e = refl
fewer false kind.Exif e = refl
fewer first kind.Picture e = e
fewer first kind.Jfif e = e
fewer first kind.JfifThumbnail e = e
fewer first kind.Xmp e = e
fewer first kind.ExtendedXmp e = e
fewer first kind.Photoshop e = e
fewer first kind.PhotoshopExif e = e
fewer first kind.PhotoshopXmp e = e
fewer first kind.PhotoshopOther e = e
fewer first kind.Iptc e = e
fewer first kind.Comment e = e
fewer first kind.IccProfile e = e
fewer first kind.Adobe e = e
fewer first kind.MultiPicture e = e
fewer first kind.ContentCredentials e = e
fewer first kind.Trailer e = e
fewer first kind.Unknown e = e
fewer first kind.Broken e = e

-- where nothing is put, no Exif data belong there
pub weaker : (put : Bool) (undone : List (Option Undone)) (part : Part) → IsAnswered put undone part → IsAnswered true undone part
weaker true undone part a = a
weaker false undone part a = λ no. a (fewer (part.picture == 0) part.kind no)

-- by what was kept
by_kept : (format : Format) (file : List ℕ) (k : Result (Option (List ℕ)) Reason) (change : Change) (parts : List Part)
    → (k >>= λ put. with_found (is_some put) (as_read (rewritten format remove.Metadata put file))) ≡ Ok change
    → measured_inventory change.file ≡ Some parts → All (IsAnswered true change.undone) parts
by_kept format file (Err why) change parts e is = absurd (no_ok why change e)
by_kept format file (Ok put) change parts e is = λ k d below.
    weaker (is_some put) change.undone _ (found_answered (is_some put) (as_read (rewritten format remove.Metadata put file)) change parts e is k d below)

by_all_else : (file : List ℕ) (change : Change) (o : Option Format) → format_in file ≡ o → is_written_again o ≡ true → scrubbed AllButOrientation file ≡ Ok change → AllAnswered true change
by_all_else file change (Some Jpeg) f r e = λ parts is.
    more_answered true (loose_parts file) (without_metadata Jpeg AllButOrientation file) change parts
    (λ c. by_kept Jpeg file (kept AllButOrientation file) c parts)
    (sym (scrubbed_by Jpeg AllButOrientation file f) ∙ e) is
by_all_else file change (Some WebP) f r e = λ parts is. by_kept WebP file (kept AllButOrientation file) change parts (sym (scrubbed_by WebP AllButOrientation file f) ∙ e) is
by_all_else file change (Some Heif) f r e = absurd (false≢true r)
by_all_else file change (Some Tiff) f r e = absurd (false≢true r)
by_all_else file change None f r e = absurd (false≢true r)

pub kept_answered : (file : List ℕ) (change : Change) → IsScrubbedTo AllButOrientation file change → AllAnswered true change
kept_answered file change h = by_all_else file change (format_in file) refl h.0 h.1
