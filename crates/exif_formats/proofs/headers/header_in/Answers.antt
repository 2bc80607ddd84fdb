use Rattle.std.proofs.Common.{◌≡◌, ℕ, ◌≤◌, ◌∷◌, [], List, Ok, eqb, take, drop, get_or, length, ap, sym, ◌∙◌, rules, arith}
use Rattle.byteorder.specs.Endian.{big_number}
use Rattle.exif_types.specs.Refusals.{Takes, invalid_format}
use Rattle.exif_isobmff.proofs.SplitterBoxes.{eight}
use Rattle.exif_isobmff.specs.Boxes.{header_at, header_len}
use Rattle.exif_formats.proofs.HeaderSteps.{four_at, sized_header, unsized_header, wrong_header}
use Rattle.exif_formats.proofs.headers.header_in.Goals as goal

-- the type of the box
name_is : (b : List ℕ) → length b ≡ header_len b → take 4 (drop 4 b) ≡ get_or b 4 0 ∷ get_or b 5 0 ∷ get_or b 6 0 ∷ get_or b 7 0 ∷ []
name_is b e = let long : 8 ≤ header_len b = eight (eqb (big_number 4 b) 1) in four_at b (omega arith)

pub returns-then-not-sizes_itself : goal.returns-then-not-sizes_itself
returns-then-not-sizes_itself c = unsized_header (invalid_format c.args.wrong_size.now) c.args.bytes.now _ (search rules) (name_is c.args.bytes.now c.requires)

pub returns : goal.returns
returns c =
    let same : header_at c.args.bytes.now ≡ Ok (c.in-Ok.header, c.header.new.self) = ap header_at (sym c.new.ensures) ∙ c.in-Ok.ensures in
    sized_header (invalid_format c.args.wrong_size.now) c.args.bytes.now _ c.header.new.self c.in-Ok.header (search rules) same (name_is c.args.bytes.now c.requires)

pub returns-in_default : goal.returns-in_default
returns-in_default c =
    let taken : Takes (λ h. h) c.header.result c.header.new.self (header_at c.args.bytes.now) = rw c.new.ensures at c.header.ensures in
    wrong_header (invalid_format c.args.wrong_size.now) c.args.bytes.now c.header.new.self c.header.result (search rules) taken c.in_default.not-Ok
