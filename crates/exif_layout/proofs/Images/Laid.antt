-- The bytes of parts that are laid one behind the other.
use Rattle.std.proofs.Common.{◌≡◌, ℕ, ◌+◌, ◌-◌, List, [], ◌∷◌, ◌++◌, length, replicate, refl, sym, ap, ◌∙◌, arith, append_assoc}
use Rattle.std.specs.List.{flat_map}
use Rattle.exif_base.specs.declared.endian.Order.{Order}
use Rattle.exif_base.specs.declared.endian.Order.TheVariants.{Big, Little}
use Rattle.exif_layout.specs.Image.{Part, laid, block_parts, header_text}
use Rattle.exif_layout.specs.Layout.{Spans}

-- parts laid behind parts
pub laid_append : (start middle : ℕ) (ps qs : List Part) → Spans start ps middle → laid start (ps ++ qs) ≡ laid start ps ++ laid middle qs
laid_append start middle [] qs s = ap (λ n. laid n qs) s
laid_append start middle (p ∷ ps) qs s =
    let gap : List ℕ = replicate (p.offset - start) 0 in
    let rest : List ℕ = laid (p.offset + length p.text) ps in
    ap (λ r. gap ++ (p.text ++ r)) (laid_append (p.offset + length p.text) middle ps qs s.2)
    ∙ ap (λ r. gap ++ r) (sym (append_assoc p.text rest (laid middle qs)))
    ∙ sym (append_assoc gap (p.text ++ rest) (laid middle qs))

-- two runs of parts, of each of which the bytes are known
pub joined : (start middle : ℕ) (ps qs : List Part) (x y : List ℕ) → Spans start ps middle → laid start ps ≡ x → laid middle qs ≡ y → laid start (ps ++ qs) ≡ x ++ y
joined start middle ps qs x y s a b = laid_append start middle ps qs s ∙ (λ i. a i ++ b i)

-- blocks have no gaps between them
pub laid_blocks : (offset : ℕ) (texts : List (List ℕ)) → laid offset (block_parts offset texts) ≡ flat_map (λ text. text) texts
laid_blocks offset [] = refl
laid_blocks offset (text ∷ texts) =
    let none : offset - offset ≡ 0 = omega arith in
    (λ i. replicate (none i) 0 ++ (text ++ laid (offset + length text) (block_parts (offset + length text) texts)))
    ∙ ap (λ r. text ++ r) (laid_blocks (offset + length text) texts)

-- the header of an image takes 8 bytes, in either byte order
pub length_header : (order : Order) → length (header_text order) ≡ 8
length_header Big = refl
length_header Little = refl
