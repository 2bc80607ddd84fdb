-- Equality of fields.
use Rattle.std.specs.Prelude.{◌≡◌, ℕ, ◌==◌, ◌&&◌, Bool, refl}
use Rattle.std.specs.Bool.{Decides}
use Rattle.std.specs.Cmp.{unsigned_Decides}
use Rattle.std.proofs.Common.{ap, sym}
use Rattle.std.proofs.lemmas.Bool.{false≢true}
use Rattle.exif_table.specs.declared.context.Context.{Context}
use Rattle.exif_table.specs.declared.context.Context.TheVariants.{Tiff, Exif, Gps, Interop}
use Rattle.exif_text.specs.declared.ifd.In.{In}
use Rattle.exif_types.specs.declared.tag.Tag.{Tag}
use Rattle.exif_types.specs.declared.value.Value.{Value}
use Rattle.exif_types.specs.declared.field.Field.{Field}
use Rattle.exif_types.specs.Lookup.{context_eq, tag_eq, is_named}
use Rattle.exif_types.specs.ValueEq.{value_eq, value_Decides, both, along}

-- whether two fields have one tag and one directory, and hold the same
abbrev pub field_eq : Field → Field → Bool
field_eq a b = is_named a.tag a.ifd_num b && value_eq a.value b.value

-- ---- the test decides equality

-- the test of contexts
pub context_Decides : (a b : Context) → Decides (context_eq a b) (a ≡ b)
context_Decides Tiff Tiff = (λ t. refl, λ e. refl)
context_Decides Exif Exif = (λ t. refl, λ e. refl)
context_Decides Gps Gps = (λ t. refl, λ e. refl)
context_Decides Interop Interop = (λ t. refl, λ e. refl)
context_Decides _ _ = (λ t. absurd (false≢true t), λ e. cc)

-- the test of tags
pub tag_Decides : (a b : Tag) → Decides (tag_eq a b) (a ≡ b)
tag_Decides a b =
    along {r = tag_eq a b} {P = (a.0 ≡ b.0) × (a.1 ≡ b.1)} {Q = a ≡ b}
    (λ h. same a.0 b.0 a.1 b.1 h.0 h.1)
    (λ e. (ap (λ (t : Tag). t.0) e, ap (λ (t : Tag). t.1) e))
    (both (context_eq a.0 b.0) (a.1 == b.1) (context_Decides a.0 b.0) (unsigned_Decides a.1 b.1))
  where
    same : (c d : Context) (n m : ℕ) → c ≡ d → n ≡ m → ◌≡◌ {A = Tag} (record { 0 = c; 1 = n })
        (record { 0 = d; 1 = m })
    same c d n m p q = rw (p, q) refl

-- the test of directories
pub ifd_Decides : (a b : In) → Decides (a.0 == b.0) (a ≡ b)
ifd_Decides a b =
    along {r = a.0 == b.0} {P = a.0 ≡ b.0} {Q = a ≡ b}
    (λ h. same a.0 b.0 h) (λ e. ap (λ (i : In). i.0) e) (unsigned_Decides a.0 b.0)
  where
    same : (n m : ℕ) → n ≡ m → ◌≡◌ {A = In} (record { 0 = n }) (record { 0 = m })
    same n m p = rw p refl

-- a field's tag and directory, as a test from the other side
named_Decides : (a b : Field) → Decides (is_named a.tag a.ifd_num b) ((a.tag ≡ b.tag)
    × (a.ifd_num ≡ b.ifd_num))
named_Decides a b =
    along {r = is_named a.tag a.ifd_num b} {P = (b.tag ≡ a.tag) × (b.ifd_num ≡ a.ifd_num)}
    {Q = (a.tag ≡ b.tag) × (a.ifd_num ≡ b.ifd_num)}
    (λ h. (sym h.0, sym h.1)) (λ h. (sym h.0, sym h.1))
    (both (tag_eq b.tag a.tag) (b.ifd_num.0 == a.ifd_num.0) (tag_Decides b.tag a.tag)
    (ifd_Decides b.ifd_num a.ifd_num))

-- fields that the test finds equal are equal, and the other way round
pub field_Decides : (a b : Field) → Decides (field_eq a b) (a ≡ b)
field_Decides a b =
    along {r = field_eq a b} {P = ((a.tag ≡ b.tag) × (a.ifd_num ≡ b.ifd_num)) × (a.value ≡ b.value)}
    {Q = a ≡ b}
    (λ h. same a.tag b.tag a.ifd_num b.ifd_num a.value b.value h.0.0 h.0.1 h.1)
    (λ e. (
      (ap (λ (f : Field). f.tag) e, ap (λ (f : Field). f.ifd_num) e),
      ap
          (λ (f : Field). f.value) e,
    ))
    (both (is_named a.tag a.ifd_num b) (value_eq a.value b.value) (named_Decides a b)
    (value_Decides a.value b.value))
  where
    same : (t u : Tag) (i j : In) (v w : Value) → t ≡ u → i ≡ j → v ≡ w
        → ◌≡◌ {A = Field} (record { tag = t; ifd_num = i; value = v })
        (record { tag = u; ifd_num = j; value = w })
    same t u i j v w p q r = rw (p, q, r) refl
