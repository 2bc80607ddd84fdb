-- The parts of a scrubbed file are the picture's, or say nothing, or are answered.
use Rattle.std.proofs.Common.{◌≡◌, ◌⊎◌, ◌==◌, ℕ, Bool, true, false, ◌&&◌, if◌then◌else◌, List, [], ◌∷◌, map, All, Option, None, Some, Ok, refl, ap, sym, subst, inl, inr, arith}
use Rattle.std.proofs.lemmas.List.Elements.{All-cons, All-nil, Contains-append_left, Contains-append_right}
use Rattle.std.specs.List.{Contains, list_all}
use Rattle.exif_inventory.specs.declared.kind.Kind.TheVariants as kind
use Rattle.exif_inventory.specs.declared.part.Part.{Part}
use Rattle.exif_inventory_heif.specs.Inventories.{heif_inventory, is_heif, judged_parts, layout_of}
use Rattle.exif_inventory_heif.specs.Spans.{data_within, part_kind, part_of}
use Rattle.exif_inventory_heif.specs.declared.role.Role.{Role}
use Rattle.exif_inventory_heif.specs.declared.role.Role.TheVariants.{ItemInfo, ItemLocation, Known, Meta, Movie}
use Rattle.exif_inventory_heif.specs.declared.span.Span.{Span}
use Rattle.exif_blanks.specs.HeifBlanks.{blanked, listed_box, role_blank, span_blank, unknown_box}
use Rattle.exif_scrub.specs.HeifPromises.{AllKnown, IsBlank, IsKnown, empty_of}
use Rattle.exif_scrub.specs.HeifScrubbing.{bytes_of, is_other, is_settled, left_of, left_parts, scrubbed, settled, stays}
use Rattle.exif_blanks.specs.declared.blank.Blank.{Blank}
use Rattle.exif_blanks.specs.declared.blank.Blank.TheVariants.{Nothing, Packet, Zeros, Free}
use Rattle.exif_scrub.proofs.HeifTwice.{both_true, scrubbed_settled, settled_bytes, settled_is}

-- what is to be shown of a part, of whose bytes nothing else becomes
abbrev Shown : Bool → Role → Bool → Blank → List ℕ → Type 0 → Type 0
Shown judged role is_item how bytes Answered =
    blanked how bytes ≡ bytes → ((stays how && is_other (part_kind judged role)) ≡ true → Answered)
    → (part_kind judged role ≡ kind.Picture) ⊎ (IsBlank (empty_of (part_kind judged role) is_item) bytes ⊎ Answered)

shown_xmp : (t judged : Bool) (bytes : List ℕ) (Answered : Type 0) → Shown judged (Known kind.Xmp) t (if t then Packet else Free) bytes Answered
shown_xmp true judged bytes Answered h c = inr (inl (refl, h))
shown_xmp false judged bytes Answered h c = inr (inl (refl, h))

shown_unknown : (t judged : Bool) (bytes : List ℕ) (Answered : Type 0) → Shown judged (Known kind.Unknown) t (if t then Zeros else unknown_box judged) bytes Answered
shown_unknown true judged bytes Answered h c = inr (inl (refl, h))
shown_unknown false true bytes Answered h c = inr (inl (refl, h))
shown_unknown false false bytes Answered h c = inr (inr (c refl))

shown_mixed : (judged is_item : Bool) (bytes : List ℕ) (role : Role) (Answered : Type 0) → part_kind judged role ≡ (if judged then kind.Picture else kind.Unknown)
    → Shown judged role is_item Nothing bytes Answered
shown_mixed true is_item bytes role Answered k h c = inl k
shown_mixed false is_item bytes role Answered k h c = inr (inr (c (ap is_other k)))

shown_listed : (judged is_item : Bool) (bytes : List ℕ) (role : Role) (Answered : Type 0) → part_kind judged role ≡ (if judged then kind.Picture else kind.Unknown)
    → Shown judged role is_item (listed_box judged) bytes Answered
shown_listed true is_item bytes role Answered k h c = inl k
shown_listed false is_item bytes role Answered k h c = inr (inr (c (ap is_other k)))

shown : (judged : Bool) (role : Role) (span : Span) (bytes : List ℕ) (Answered : Type 0)
    → Shown judged role (data_within role span == span.from) (role_blank judged role span) bytes Answered
shown judged (Known kind.Picture) span bytes Answered h c = inl refl
shown judged (Known kind.Exif) span bytes Answered h c = inr (inl (refl, h))
shown judged (Known kind.Xmp) span bytes Answered h c = shown_xmp (span.content == span.from) judged bytes Answered h c
shown judged (Known kind.Unknown) span bytes Answered h c = shown_unknown (span.content == span.from) judged bytes Answered h c
shown judged (Known kind.ContentCredentials) span bytes Answered h c = inr (inl (refl, h))
shown judged (Known k) span bytes Answered h c = inr (inr (c refl))
shown judged Movie span bytes Answered h c = inr (inr (c refl))
shown judged Meta span bytes Answered h c = shown_listed judged (data_within Meta span == span.from) bytes Meta Answered refl h c
shown judged ItemInfo span bytes Answered h c = shown_listed judged (data_within ItemInfo span == span.from) bytes ItemInfo Answered refl h c
shown judged ItemLocation span bytes Answered h c = shown_listed judged (data_within ItemLocation span == span.from) bytes ItemLocation Answered refl h c
shown judged role span bytes Answered h c = shown_mixed judged (data_within role span == span.from) bytes role Answered refl h c

-- ---- all parts

noted : (t : Bool) (part : Part) → t ≡ true → Contains (if t then part ∷ [] else []) part
noted true part e = (0, omega arith, refl)
noted false part e = absurd (cc)

each_known : (judged : Bool) (file : List ℕ) (all : List Part) (spans : List Span) → ((part : Part) → Contains (left_parts judged spans) part → Contains all part)
    → list_all (is_settled judged file) spans ≡ true → All (IsKnown file all) (map (part_of judged) spans)
each_known judged file all [] sub e = All-nil (IsKnown file all)
each_known judged file all (s ∷ spans) sub e =
    let both = both_true (is_settled judged file s) (list_all (is_settled judged file) spans) e in
    let part = part_of judged s in
    let own : IsKnown file all part =
    shown judged s.role s (bytes_of s file) (Contains all part) (settled_bytes judged file s both.0)
    (λ t. sub part (Contains-append_left (left_of judged s) (left_parts judged spans) part (noted (stays (span_blank judged s) && is_other part.kind) part t))) in
    All-cons (IsKnown file all) part (map (part_of judged) spans) own
    (each_known judged file all spans (λ p c. sub p (Contains-append_right (left_of judged s) (left_parts judged spans) p c)) both.1)

inventory_if : (t : Bool) (layout found : List Span × Bool) → ◌≡◌ {A = Option (List Span × Bool)} (if t then Some layout else None) (Some found)
    → ◌≡◌ {A = Option (List Part)} (if t then Some (judged_parts layout) else None) (Some (judged_parts found))
inventory_if true layout found e = let same : layout ≡ found = cc in ap (λ (l : List Span × Bool). Some (judged_parts l)) same
inventory_if false layout found e = absurd (cc)

-- the parts of a settled file
pub settled_known : (file : List ℕ) (left : List Part) → settled file ≡ Ok left → AllKnown file left (heif_inventory file)
settled_known file left e =
    let s = settled_is file left e in
    subst (λ (parts : Option (List Part)). AllKnown file left parts) (sym (inventory_if (is_heif file) (layout_of file) (s.spans, s.judged) s.layout))
    (each_known s.judged file left s.spans (λ p c. subst (λ (parts : List Part). Contains parts p) (sym s.parts) c) s.each)

-- those of a scrubbed file
pub all_known : (file new : List ℕ) (left : List Part) → scrubbed file ≡ Ok (new, Some left) → AllKnown new left (heif_inventory new)
all_known file new left e = settled_known new left (scrubbed_settled file new left e)
