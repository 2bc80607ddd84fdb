-- How a name is made, part by part.
use Rattle.std.proofs.Common.{◌≡◌, ℕ, ◌-◌, ◌^◌, List, [], ◌∷◌, ◌++◌, false, Result, Ok, Err, ap, sym, refl, ◌∙◌, append_assoc, append-nil, length, get_or, drop, ◌<◌, ◌+◌, ◌≤◌}
use Rattle.std.proofs.Math.Nat.{sub-zero}
use Rattle.std.proofs.lemmas.List.{drop_more, drop_all}
use Rattle.std.specs.Fmt.{padded_integral, format_spec, char_count, decimal}
use Rattle.exif_rename.specs.declared.pattern.Part.{Part}
use Rattle.exif_rename.specs.declared.naming.Missing.{Missing}
use Rattle.exif_rename.specs.Naming.{Known, named, padded, part_text, with_text}

-- a hole with zeros before the digits
pub zero_padded : (width number : ℕ) → padded_integral (format_spec 32 0 4 width (2 ^ 64 - 1)) false [] (decimal number) ≡ padded width number
unfolding padded_integral char_count
zero_padded width number = simp (sub-zero, append-nil)

with_text_more : (front text : List ℕ) (r : Result (List ℕ) Missing) → with_text front (with_text text r) ≡ with_text (front ++ text) r
with_text_more front text (Ok name) = ap (λ bs. Ok bs) (sym (append_assoc front text name))
with_text_more front text (Err lacks) = refl

pub with_text_none : (r : Result (List ℕ) Missing) → r ≡ with_text [] r
with_text_none (Ok name) = refl
with_text_none (Err lacks) = refl

at_text : (parts : List Part) (part : Part) (known : Known) (text : List ℕ) → part_text part known ≡ Ok text → named (part ∷ parts) known ≡ with_text text (named parts known)
at_text parts part known text is =
    ap (λ (r : Result (List ℕ) Missing). elim r [ Err lacks ↦ Err lacks | Ok text ↦ with_text text (named parts known) ]) is

at_lack : (parts : List Part) (part : Part) (known : Known) (lacks : Missing) → part_text part known ≡ Err lacks → named (part ∷ parts) known ≡ Err lacks
at_lack parts part known lacks is =
    ap (λ (r : Result (List ℕ) Missing). elim r [ Err lacks ↦ Err lacks | Ok text ↦ with_text text (named parts known) ]) is

-- one more part
pub named_next : (all : List Part) (i : ℕ) (d : Part) (known : Known) (front front' text : List ℕ) → i < length all
    → Ok text ≡ part_text (get_or all i d) known → front' ≡ front ++ text → named all known ≡ with_text front (named (drop i all) known)
    → named all known ≡ with_text front' (named (drop (i + 1) all) known)
named_next all i d known front front' text h found grown so_far =
    so_far ∙ ap (λ ps. with_text front (named ps known)) (drop_more all i d h) ∙ ap (with_text front) (at_text (drop (i + 1) all) (get_or all i d) known text (sym found))
    ∙ with_text_more front text (named (drop (i + 1) all) known) ∙ ap (λ f. with_text f (named (drop (i + 1) all) known)) (sym grown)

-- a part that is missing
pub named_lacks : (all : List Part) (i : ℕ) (d : Part) (known : Known) (front : List ℕ) (lacks : Missing) → i < length all
    → Err lacks ≡ part_text (get_or all i d) known → named all known ≡ with_text front (named (drop i all) known) → Err lacks ≡ named all known
named_lacks all i d known front lacks h found so_far =
    sym (so_far ∙ ap (λ ps. with_text front (named ps known)) (drop_more all i d h) ∙ ap (with_text front) (at_lack (drop (i + 1) all) (get_or all i d) known lacks (sym found)))

-- all parts
pub named_all : (all : List Part) (i : ℕ) (known : Known) (front : List ℕ) → length all ≤ i → named all known ≡ with_text front (named (drop i all) known) → Ok front ≡ named all known
named_all all i known front h so_far =
    sym (so_far ∙ ap (λ ps. with_text front (named ps known)) (drop_all i all h) ∙ ap (λ bs. Ok bs) (append-nil front))
