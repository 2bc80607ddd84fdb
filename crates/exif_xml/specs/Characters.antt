-- Characters (Extensible Markup Language 1.0, 2.2), in UTF-8 (RFC 3629, 3 and 4).
use Rattle.std.specs.Prelude.{ℕ, ◌+◌, ◌==◌, ◌&&◌, ◌||◌, nat_le, if◌then◌else◌, List, [], ◌∷◌, Option, Some, None}
use Rattle.exif_xml.specs.declared.characters.Expected.{Expected}
use Rattle.exif_xml.specs.declared.characters.Expected.TheVariants.{First, Last, Last2, Last3, AfterE0, AfterEd, AfterEf, AfterEfBf, AfterF0, AfterF4}

-- what follows a byte that is in a range
abbrev pub within : ℕ → ℕ → ℕ → Expected → Option Expected
within b first last next = if nat_le first b && nat_le b last then Some next else None

-- what follows the first byte of a character; a character of one byte is tab, LF, CR, or above the
-- control characters
abbrev pub after_first : ℕ → Option Expected
after_first b =
    if (b == 9) || (b == 10) || (b == 13) || (nat_le 32 b && nat_le b 127) then Some First else
    (if b == 224 then Some AfterE0 else
    (if b == 237 then Some AfterEd else
    (if b == 239 then Some AfterEf else
    (if b == 240 then Some AfterF0 else
    (if b == 244 then Some AfterF4 else
    (if nat_le 194 b && nat_le b 223 then Some Last else
    (if nat_le 225 b && nat_le b 238 then Some Last2 else within b 241 243 Last3)))))))

abbrev pub after_ef : ℕ → Option Expected
after_ef b = if b == 191 then Some AfterEfBf else within b 128 190 Last

-- what follows a byte, unless it is not allowed (RFC 3629, 4: UTF8-2, UTF8-3, UTF8-4); behind EF BF
-- are U+FFFE and U+FFFF not
abbrev pub after : Expected → ℕ → Option Expected
after First b = after_first b
after Last b = within b 128 191 First
after Last2 b = within b 128 191 Last
after Last3 b = within b 128 191 Last2
after AfterE0 b = within b 160 191 Last
after AfterEd b = within b 128 159 Last
after AfterEf b = after_ef b
after AfterEfBf b = within b 128 189 First
after AfterF0 b = within b 144 191 Last2
after AfterF4 b = within b 128 143 Last2

-- the offset where a character begins, of which a byte at an offset may be the first
abbrev pub begun_at : Expected → ℕ → ℕ → ℕ
begun_at First begun offset = offset
begun_at _ begun offset = begun

-- the offset of a character that the end cuts off
abbrev pub unfinished : Expected → ℕ → Option ℕ
unfinished First begun = None
unfinished _ begun = Some begun

-- a character is not allowed, or else what is behind a byte of it decides
abbrev pub or_invalid : ℕ → (Expected → Option ℕ) → Option Expected → Option ℕ
or_invalid begun rest None = Some begun
or_invalid begun rest (Some next) = rest next

abbrev pub invalid_from : Expected → ℕ → ℕ → List ℕ → Option ℕ
invalid_from expected begun offset [] = unfinished expected begun
invalid_from expected begun offset (b ∷ bs) =
    or_invalid (begun_at expected begun offset)
    (λ next. invalid_from next (begun_at expected begun offset) (offset + 1) bs)
    (after expected b)

-- the offset of the first bytes that are no character
abbrev pub invalid_character : List ℕ → Option ℕ
invalid_character document = invalid_from First 0 0 document
