-- Lengths of runs of bytes (Extensible Markup Language 1.0, 2.3).
use Rattle.std.specs.Prelude.{ℕ, suc, ◌-◌, ◌==◌, ◌&&◌, ◌||◌, nat_le, Bool, true, false, if◌then◌else◌, List, [], ◌∷◌, take, drop, Option, Some, None}
use Rattle.std.specs.Option.{option_map}
use Rattle.exif_xml.specs.declared.span.Span.{Span}

-- the bytes of a span, as far as the document has them
abbrev pub slice_of : List ℕ → Span → List ℕ
slice_of bytes s = take (s.end - s.start) (drop s.start bytes)

-- white space
abbrev pub is_space : ℕ → Bool
is_space b = (b == 32) || (b == 9) || (b == 10) || (b == 13)

-- a byte of a name: letters, digits, `:`, `_`, `-`, `.`, and any of a character beyond ASCII
abbrev pub is_name_byte : ℕ → Bool
is_name_byte b =
    (nat_le 97 b && nat_le b 122) || (nat_le 65 b && nat_le b 90) || (nat_le 48 b && nat_le b 58)
    || (b == 95) || (b == 45) || (b == 46) || nat_le 128 b

-- a byte of text, which is any but `<`
abbrev pub is_text : ℕ → Bool
is_text b = if b == 60 then false else true

-- a list begins with another
abbrev pub begins : List ℕ → List ℕ → Bool
begins input [] = true
begins [] (w ∷ word) = false
begins (b ∷ input) (w ∷ word) = (b == w) && begins input word

-- how many bytes at the beginning pass a test
abbrev pub run : (ℕ → Bool) → List ℕ → ℕ
run test [] = 0
run test (b ∷ bs) = if test b then suc (run test bs) else 0

-- the length up to and with the first `>` that follows n or more bytes c; `seen` of these were
-- just before
abbrev pub closed_len : ℕ → ℕ → ℕ → List ℕ → Option ℕ
closed_len c n seen [] = None
closed_len c n seen (b ∷ bs) =
    if (b == 62) && nat_le n seen then Some 1 else
    option_map suc (closed_len c n (if b == c then suc seen else 0) bs)

-- the length up to and with a quote; no attribute value contains `<`
abbrev pub quoted_len : ℕ → List ℕ → Option ℕ
quoted_len q [] = None
quoted_len q (b ∷ bs) =
    if b == q then Some 1 else (if b == 60 then None else option_map suc (quoted_len q bs))

-- the quote that is open behind a byte, or 0
abbrev pub quote_after : ℕ → ℕ → ℕ
quote_after q b =
    if q == 0 then (if (b == 34) || (b == 39) then b else 0) else (if b == q then 0 else q)

-- the length up to and with the first `>` that is in no quotes
abbrev pub tag_len : ℕ → List ℕ → Option ℕ
tag_len q [] = None
tag_len q (b ∷ bs) =
    if (q == 0) && (b == 62) then Some 1 else option_map suc (tag_len (quote_after q b) bs)
