-- The first of some parts.
use Rattle.std.proofs.Common.{◌≡◌, ◌<◌, ◌+◌, ◌-◌, ℕ, zero, suc, List, [], ◌∷◌, length, take, drop, refl, ap, sym, ◌∙◌, arith, length-drop}
use Rattle.std.proofs.lemmas.List.{drop_more, take_all}
use Rattle.exif_inventory.specs.declared.kind.Kind.TheVariants as kind
use Rattle.exif_inventory.specs.declared.part.Part.{Part}
use Rattle.exif_privacy.specs.Erasing.{next_erased, parts_erased}
use Rattle.exif_privacy.specs.Judging.{first_reasons, front_reasons}
use Rattle.exif_privacy.specs.Parts.{part_reasons}
use Rattle.exif_privacy.specs.Portions.{joined, joined_len}
use Rattle.exif_privacy.specs.declared.remaining.Reason.{Reason}
use Rattle.exif_locations.specs.declared.unread.Unread.{Unread}

reasons_of : (unread : Unread) (file : List ℕ) (p : Part) (ps : List Part) (n : ℕ) → (n ≡ 0 → ⊥)
    → front_reasons unread file n p ps ≡ part_reasons unread kind.Xmp (joined (take n (p ∷ ps)) file)
reasons_of unread file p ps zero some = absurd (some refl)
reasons_of unread file p ps (suc n) some = refl

-- the reasons of one that begins a packet are those of the packet
pub first_joined : (unread : Unread) (file : List ℕ) (parts : List Part) (n : ℕ) (whys : List Reason) → n ≡ joined_len file parts → (n ≡ 0 → ⊥)
    → whys ≡ part_reasons unread kind.Xmp (joined (take n parts) file) → (whys, n - 1) ≡ first_reasons unread file parts
first_joined unread file [] n whys e some w = absurd (some e)
first_joined unread file (p ∷ ps) n whys e some w =
    ap (λ list. (list, n - 1)) (w ∙ sym (reasons_of unread file p ps n some))
    ∙ ap (λ m. (front_reasons unread file m p ps, m - 1)) e

-- what is erased of it, and then of the others, is erased of all
pub erased_at : (unread : Unread) (left : ℕ) (parts : List Part) (i : ℕ) (d : Part) (file new : List ℕ) (next : ℕ) → i < length parts → (new, next) ≡ next_erased unread left (take (length parts - i) (drop i parts)) file
    → parts_erased unread next (drop (i + 1) parts) new ≡ parts_erased unread left (drop i parts) file
erased_at unread left parts i d file new next h e =
    let more = drop_more parts i d h in
    let ps : List Part = drop (i + 1) parts in
    let all : take (length parts - i) (drop i parts) ≡ drop i parts = take_all _ _ (omega (arith, length-drop i parts)) in
    ap (λ made. parts_erased unread made.1 ps made.0) (e ∙ ap (λ q. next_erased unread left q file) (all ∙ more))
    ∙ sym (ap (λ q. parts_erased unread left q file) more)
