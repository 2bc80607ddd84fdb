-- The picture's bytes stay.
use Rattle.std.proofs.Common.{◌≡◌, ℕ, Bool, true, false, List, length, Option, None, Some, Ok, refl, sym, ◌∙◌, ap, subst, arith}
use Rattle.std.proofs.lemmas.List.Elements.{All-weaker}
use Rattle.exif_inventory.specs.declared.kind.Kind.TheVariants as kind
use Rattle.exif_inventory.specs.declared.part.Part.{Part}
use Rattle.exif_inventory_heif.specs.Inventories.{heif_layout}
use Rattle.exif_inventory_heif.specs.Spans.{part_kind}
use Rattle.exif_inventory_heif.specs.declared.role.Role.{Role}
use Rattle.exif_inventory_heif.specs.declared.role.Role.TheVariants.{ItemInfo, ItemLocation, Known, Meta}
use Rattle.exif_inventory_heif.specs.declared.span.Span.{Span}
use Rattle.exif_blanks.specs.HeifBlanks.{blanked, role_blank}
use Rattle.exif_scrub.specs.HeifPromises.{Becomes, KeepsPicture, PictureStays, picture_bytes}
use Rattle.exif_scrub.specs.HeifScrubbing.{bytes_of, emptied, emptied_by, if_emptied, scrubbed, settled, spans_emptied}
use Rattle.exif_scrub.proofs.LayoutOrder.{heif_ordered}
use Rattle.exif_scrub.proofs.SpanSteps.{each_becomes}
use Rattle.exif_scrub.proofs.HeifTwice.{left_is, same_answer}

-- nothing else becomes of the picture's bytes
picture_blank : (judged : Bool) (role : Role) (span : Span) (bytes : List ℕ) → part_kind judged role ≡ kind.Picture
    → blanked (role_blank judged role span) bytes ≡ picture_bytes role bytes
unfolding blanked
picture_blank true Meta span bytes k = refl
picture_blank true ItemInfo span bytes k = refl
picture_blank true ItemLocation span bytes k = refl
picture_blank false Meta span bytes k = absurd (cc)
picture_blank false ItemInfo span bytes k = absurd (cc)
picture_blank false ItemLocation span bytes k = absurd (cc)
picture_blank judged (Known kind.Exif) span bytes k = absurd (cc)
picture_blank judged (Known kind.Xmp) span bytes k = absurd (cc)
picture_blank judged (Known kind.Unknown) span bytes k = absurd (cc)
picture_blank judged (Known kind.ContentCredentials) span bytes k = absurd (cc)
picture_blank judged role span bytes k = refl

pub record Kept (old new : List ℕ) (layout : Option (List Span × Bool)) : Type 0 where
  pub long : length new ≡ length old
  pub picture : PictureStays old new layout

emptied_kept : (old : List ℕ) (spans : List Span) (judged : Bool) → heif_layout old ≡ Some (spans, judged)
    → Kept old (spans_emptied judged spans old) (Some (spans, judged))
emptied_kept old spans judged l =
    let new = spans_emptied judged spans old in
    let e = each_becomes judged 0 spans (length old) old (heif_ordered old spans judged l) (omega arith) in
    record {
      long = e.long;
      picture = All-weaker (Becomes judged old new) (KeepsPicture judged old new)
          (λ span b. λ k. b ∙ picture_blank judged span.role span (bytes_of span old) k) spans e.each;
    }

-- the file is as long as before
pub emptied_long : (file : List ℕ) → length (emptied file).1 ≡ length file
emptied_long file = by (heif_layout file) refl
  where
    by : (layout : Option (List Span × Bool)) → heif_layout file ≡ layout → length (emptied_by file layout).1 ≡ length file
    by None l = refl
    by (Some (spans, judged)) l = (emptied_kept file spans judged l).long

pub kept : (old new : List ℕ) (left : Option (List Part)) → scrubbed old ≡ Ok (new, left) → Kept old new (heif_layout old)
kept old new left e = by (heif_layout old) refl e
  where
    by : (layout : Option (List Span × Bool)) → heif_layout old ≡ layout → if_emptied (emptied_by old layout) ≡ Ok (new, left) → Kept old new layout
    by None l h = let same = (same_answer old new None left h).0 in record { long = ap length (sym same); picture = sym same }
    by (Some (spans, judged)) l h =
        let made = spans_emptied judged spans old in
        subst (λ (f : List ℕ). Kept old f (Some (spans, judged))) (left_is made new left (settled made) h).1 (emptied_kept old spans judged l)
