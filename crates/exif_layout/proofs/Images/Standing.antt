-- Texts that are in bytes, and parts side by side.
use Rattle.std.proofs.Math.Seq.{get_or-append_right}
use Rattle.std.specs.Prelude.{slice_index}
use Rattle.std.proofs.Common.{◌≤◌, ⊎_elim, subst, ◌≡◌, ℕ, ◌+◌, ◌-◌, ◌<◌, ◌^◌, List, [], ◌∷◌, ◌++◌, length, take, drop, replicate, refl, sym, ap, ◌∙◌, arith}
use Rattle.std.proofs.lemmas.List.{append_assoc, length-append, length-replicate, take-append-drop, length-take-le, drop_at, take_at, get_or_append_left, get_or-replicate}
use Rattle.std.specs.List.{AllByRecursion}
use Rattle.byteorder.specs.Numbers.{length-bytes_high_first, length-bytes_low_first, big_number-reads_back, little_number-reads_back}
use Rattle.exif_base.specs.declared.endian.Order.{Order}
use Rattle.exif_base.specs.declared.endian.Order.TheVariants.{Big, Little}
use Rattle.exif_base.specs.Orders.{number_of}
use Rattle.exif_base.specs.Bytes.{number_at}
use Rattle.exif_layout.specs.Encoding.{spelled}
use Rattle.exif_layout.specs.Image.{Part, laid}
use Rattle.exif_layout.specs.Layout.{Stands, Spans, IsOutside}
use Rattle.exif_layout.proofs.Images.Words.{AllStand}

-- a text is at an offset if a front of that length comes before it
pub stands_of : (bytes front text back : List ℕ) (offset : ℕ) → bytes ≡ front ++ (text ++ back) → length front ≡ offset → Stands bytes offset text
stands_of bytes front text back offset e h =
    let len : length bytes ≡ length front + (length text + length back) =
    ap length e ∙ length-append front (text ++ back) ∙ ap (λ n. length front + n) (length-append text back) in
    record {
      within = omega arith;
      there = ap (λ x. take (length text) (drop offset x)) e ∙ ap (take (length text)) (drop_at front (text ++ back) offset h) ∙ take_at text back (length text) refl;
    }

-- bytes that hold a part are what is before it, the part, and what follows it
pub stands_split : (bytes text : List ℕ) (offset : ℕ) → Stands bytes offset text → bytes ≡ take offset bytes ++ (text ++ drop (length text) (drop offset bytes))
stands_split bytes text offset s =
    sym (take-append-drop offset bytes)
    ∙ ap (λ x. take offset bytes ++ x) (sym (take-append-drop (length text) (drop offset bytes)) ∙ ap (λ x. x ++ drop (length text) (drop offset bytes)) s.there)

-- what is before a part is as long as its offset
pub stands_front : (bytes text : List ℕ) (offset : ℕ) → Stands bytes offset text → length (take offset bytes) ≡ offset
stands_front bytes text offset s = let h = s.within in length-take-le offset bytes (omega arith)

-- of two joined parts, the first is at their offset
pub stands_left : (bytes x y : List ℕ) (offset : ℕ) → Stands bytes offset (x ++ y) → Stands bytes offset x
stands_left bytes x y offset s =
    stands_of bytes (take offset bytes) x (y ++ drop (length (x ++ y)) (drop offset bytes)) offset
    (stands_split bytes (x ++ y) offset s ∙ ap (λ z. take offset bytes ++ z) (append_assoc x y _))
    (stands_front bytes (x ++ y) offset s)

-- and the second is where the first ends
pub stands_right : (bytes x y : List ℕ) (offset next : ℕ) → Stands bytes offset (x ++ y) → next ≡ offset + length x → Stands bytes next y
stands_right bytes x y offset next s h =
    stands_of bytes (take offset bytes ++ x) y (drop (length (x ++ y)) (drop offset bytes)) next
    (stands_split bytes (x ++ y) offset s ∙ ap (λ z. take offset bytes ++ z) (append_assoc x y _) ∙ sym (append_assoc (take offset bytes) x _))
    (length-append (take offset bytes) x ∙ ap (λ n. n + length x) (stands_front bytes (x ++ y) offset s) ∙ sym h)

-- a number spelled in n bytes takes n bytes, in either byte order
pub length_spelled : (order : Order) (n x : ℕ) → length (spelled order n x) ≡ n
length_spelled Big n x = length-bytes_high_first n x
length_spelled Little n x = length-bytes_low_first 0 n x

-- a number below 256^n, spelled in n bytes, is read from them as it was
pub number_spelled : (order : Order) (n x : ℕ) (rest : List ℕ) → x < 256 ^ n → number_of order n (spelled order n x ++ rest) ≡ x
number_spelled Big n x rest h = big_number-reads_back n x rest h
number_spelled Little n x rest h = little_number-reads_back n x rest h

-- a number in the data is read
pub number_read : (order : Order) (n x offset : ℕ) (bytes : List ℕ) → x < 256 ^ n → Stands bytes offset (spelled order n x) → number_at (number_of order) n bytes offset ≡ x
number_read order n x offset bytes h s =
    let text : List ℕ = spelled order n x in
    ap (number_of order n) (sym (take-append-drop (length text) (drop offset bytes)) ∙ ap (λ z. z ++ drop (length text) (drop offset bytes)) s.there)
    ∙ number_spelled order n x _ h

-- parts side by side up to an offset, and others from there on, are side by side when joined
pub spans_append : (start middle end : ℕ) (ps qs : List Part) → Spans start ps middle → Spans middle qs end → Spans start (ps ++ qs) end
spans_append start middle end [] qs s t = let P : ℕ → Type 0 = λ n. Spans n qs end in rw s t
spans_append start middle end (p ∷ ps) qs s t = (s.0, s.1, spans_append (p.offset + length p.text) middle end ps qs s.2 t)

-- what is laid side by side has the length of all
pub length-laid : (start end : ℕ) (ps : List Part) → Spans start ps end → start + length (laid start ps) ≡ end
length-laid start end [] s = omega arith
length-laid start end (p ∷ ps) s =
    let low = s.0 in
    let more = length-laid (p.offset + length p.text) end ps s.2 in
    let gap : List ℕ = replicate (p.offset - start) 0 in
    let zeros : length gap ≡ p.offset - start = length-replicate (p.offset - start) 0 in
    let b = length-append p.text (laid (p.offset + length p.text) ps) in
    let a : length (laid start (p ∷ ps)) ≡ length gap + length (p.text ++ laid (p.offset + length p.text) ps) =
    length-append gap (p.text ++ laid (p.offset + length p.text) ps) in
    omega arith

-- each part is at its offset
pub laid_stand : (bytes front : List ℕ) (start end : ℕ) (ps : List Part) → Spans start ps end → bytes ≡ front ++ laid start ps → length front ≡ start → AllStand bytes ps
laid_stand bytes front start end [] s e h = tt
laid_stand bytes front start end (p ∷ ps) s e h =
    let zeros : List ℕ = replicate (p.offset - start) 0 in
    let rest : List ℕ = laid (p.offset + length p.text) ps in
    let low = s.0 in
    let zeros_len : length zeros ≡ p.offset - start = length-replicate (p.offset - start) 0 in
    let front_len : length (front ++ zeros) ≡ p.offset = (let a = length-append front zeros in omega arith) in
    let at_front : bytes ≡ (front ++ zeros) ++ (p.text ++ rest) = e ∙ sym (append_assoc front zeros (p.text ++ rest)) in (
      stands_of bytes (front ++ zeros) p.text rest p.offset at_front front_len,
      laid_stand bytes ((front ++ zeros) ++ p.text) (p.offset + length p.text) end ps s.2
          (at_front ∙ sym (append_assoc (front ++ zeros) p.text rest))
          (length-append (front ++ zeros) p.text ∙ ap (λ n. n + length p.text) front_len),
    )

-- what no part is at is zero
pub laid_zero : (start end i : ℕ) (ps : List Part) → Spans start ps end → AllByRecursion (IsOutside (start + i)) ps → slice_index (laid start ps) i ≡ 0
laid_zero start end i [] s h = refl
laid_zero start end i (p ∷ ps) s h =
    let low = s.0 in
    let gap : List ℕ = replicate (p.offset - start) 0 in
    let rest : List ℕ = laid (p.offset + length p.text) ps in
    let gap_len : length gap ≡ p.offset - start = length-replicate (p.offset - start) 0 in
    ⊎_elim
    (λ before. let k : i < p.offset - start = omega arith in
    get_or_append_left gap (p.text ++ rest) 0 i (omega arith) ∙ get_or-replicate (p.offset - start) i 0 0 k)
    (λ behind. let text_len : length p.text ≤ i - length gap = omega arith in
    let next : start + i ≡ p.offset + length p.text + (i - length gap - length p.text) = omega arith in
    get_or-append_right gap (p.text ++ rest) i 0 (omega arith)
    ∙ get_or-append_right p.text rest (i - length gap) 0 text_len
    ∙ laid_zero (p.offset + length p.text) end (i - length gap - length p.text) ps s.2 (subst (λ (n : ℕ). AllByRecursion (IsOutside n) ps) next h.1))
    h.0
