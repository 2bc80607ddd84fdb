-- Values whose JSON is the same hold the same items.
use Rattle.std.proofs.Common.{◌≡◌, ℕ, ℤ, zero, suc, ◌+◌, ◌-◌, ◌*◌, ◌/◌, ◌%◌, ◌^◌, ◌<◌, ◌≤◌, Bool, true, false, List, [], ◌∷◌, ◌++◌, length, map, nat_lt, replicate, drop, refl, sym, ap, ◌∙◌, arith, cond, codes, ⊎_elim}
use Rattle.std.proofs.lemmas.Bool.{cases_lt}
use Rattle.std.proofs.lemmas.Bool.Decides.{nat_tests}
use Rattle.std.proofs.lemmas.Fmt.{decimal_injective, signed_decimal_injective, digits_is_IsNumeral}
use Rattle.std.specs.Char.{encode_utf8}
use Rattle.std.specs.Fmt.{decimal, signed_decimal, digits, digit_glyph}
use Rattle.std.specs.List.{All, flat_map}
use Rattle.std.specs.Str.{is_utf8}
use Rattle.std.specs.Str.Parse.{digits_value}
use Rattle.json.specs.Json as J
use Rattle.json.specs.Json.{Json}
use Rattle.exif_text.specs.Plain.{bits_text, zero_filled}
use Rattle.exif_text.specs.Quoted.{hex_byte}
use Rattle.exif_text.specs.declared.rational.Rational as R
use Rattle.exif_text.specs.declared.rational.SRational as S
use Rattle.exif_text.proofs.QuotedLemmas.{hex_injective}
use Rattle.exif_types.specs.declared.value.Value.TheVariants.{Byte, Ascii, Short, Long, Rational, SByte, Undefined, SShort, SLong, SRational, Float, Double}
use Rattle.exif_json.specs.Texts.{latin1, latin1_json, text_json}
use Rattle.exif_json.specs.Determined.{JsonDetermines, IsBelow, IsSigned, IsFraction, IsSignedFraction}
use Rattle.exif_json.specs.Trees.{array, items_of, signed, unsigned}
use Rattle.exif_json.specs.Values.{rational_json, srational_json, bits_json, value_json}

items_determined : {A : Type 0} (P : A → Type 0) (f : A → Json) → ((x y : A) → P x → P y → f x ≡ f y → x ≡ y) → (xs ys : List A) → All P xs → All P ys → items_of (map f xs) ≡ items_of (map f ys) → xs ≡ ys
items_determined P f one [] [] h k e = refl
items_determined P f one [] (y ∷ ys) h k e =
    let no : J.no_items ≡ J.item (f y) (items_of (map f ys)) = e in
    absurd cc
items_determined P f one (x ∷ xs) [] h k e =
    let no : J.item (f x) (items_of (map f xs)) ≡ J.no_items = e in
    absurd cc
items_determined P f one (x ∷ xs) (y ∷ ys) h k e =
    let both : J.item (f x) (items_of (map f xs)) ≡ J.item (f y) (items_of (map f ys)) = e in
    let first : f x ≡ f y = cc in
    let others : items_of (map f xs) ≡ items_of (map f ys) = cc in
    let a = one x y (h 0 x (omega arith)) (k 0 y (omega arith)) first in
    let b = items_determined P f one xs ys (λ i d l. h (suc i) d (omega arith)) (λ i d l. k (suc i) d (omega arith)) others in
    rw (a, b) refl

array_determined : {A : Type 0} (P : A → Type 0) (f : A → Json) → ((x y : A) → P x → P y → f x ≡ f y → x ≡ y) → (xs ys : List A) → All P xs → All P ys → array (map f xs) ≡ array (map f ys) → xs ≡ ys
array_determined P f one xs ys h k e =
    let same : J.array (items_of (map f xs)) ≡ J.array (items_of (map f ys)) = e in
    items_determined P f one xs ys h k cc

-- ---- numbers and fractions

unsigned_determined : (m n : ℕ) → m < 2 ^ 64 → n < 2 ^ 64 → unsigned m ≡ unsigned n → m ≡ n
unsigned_determined m n h k e =
    let same : J.number (decimal m) ≡ J.number (decimal n) = e in
    decimal_injective m n h k cc

signed_determined : (m n : ℤ) → IsSigned m → IsSigned n → signed m ≡ signed n → m ≡ n
signed_determined m n h k e =
    let same : J.number (signed_decimal m) ≡ J.number (signed_decimal n) = e in
    signed_decimal_injective m n h k cc

rational_determined : (r s : R.Rational) → IsFraction r → IsFraction s → rational_json r ≡ rational_json s → r ≡ s
rational_determined r s h k e =
    let same : J.array (J.item (unsigned r.num) (J.item (unsigned r.denom) J.no_items)) ≡ J.array (J.item (unsigned s.num) (J.item (unsigned s.denom) J.no_items)) = e in
    let num = unsigned_determined r.num s.num h.0 k.0 cc in
    let denom = unsigned_determined r.denom s.denom h.1 k.1 cc in
    ap (λ n. record { num = n; denom = r.denom }) num ∙ ap (λ d. record { num = s.num; denom = d }) denom

srational_determined : (r s : S.SRational) → IsSignedFraction r → IsSignedFraction s → srational_json r ≡ srational_json s → r ≡ s
srational_determined r s h k e =
    let same : J.array (J.item (signed r.num) (J.item (signed r.denom) J.no_items)) ≡ J.array (J.item (signed s.num) (J.item (signed s.denom) J.no_items)) = e in
    let num = signed_determined r.num s.num h.0 k.0 cc in
    let denom = signed_determined r.denom s.denom h.1 k.1 cc in
    ap (λ n. record { num = n; denom = r.denom }) num ∙ ap (λ d. record { num = s.num; denom = d }) denom

-- lists of bytes with the same JSON are the same
pub bytes_determined : JsonDetermines (IsBelow 64) Byte
bytes_determined = array_determined (IsBelow 64) unsigned unsigned_determined

-- lists of short numbers with the same JSON are the same
pub shorts_determined : JsonDetermines (IsBelow 64) Short
shorts_determined = array_determined (IsBelow 64) unsigned unsigned_determined

-- lists of long numbers with the same JSON are the same
pub longs_determined : JsonDetermines (IsBelow 64) Long
longs_determined = array_determined (IsBelow 64) unsigned unsigned_determined

-- lists of signed bytes with the same JSON are the same
pub signed_bytes_determined : JsonDetermines IsSigned SByte
signed_bytes_determined = array_determined IsSigned signed signed_determined

-- lists of signed short numbers with the same JSON are the same
pub signed_shorts_determined : JsonDetermines IsSigned SShort
signed_shorts_determined = array_determined IsSigned signed signed_determined

-- lists of signed long numbers with the same JSON are the same
pub signed_longs_determined : JsonDetermines IsSigned SLong
signed_longs_determined = array_determined IsSigned signed signed_determined

-- lists of fractions with the same JSON are the same
pub rationals_determined : JsonDetermines IsFraction Rational
rationals_determined = array_determined IsFraction rational_json rational_determined

-- lists of signed fractions with the same JSON are the same
pub srationals_determined : JsonDetermines IsSignedFraction SRational
srationals_determined = array_determined IsSignedFraction srational_json srational_determined

-- ---- bits

zeros_count_nothing : (z : ℕ) (ds : List ℕ) → digits_value 16 (replicate z 48 ++ ds) ≡ digits_value 16 ds
zeros_count_nothing zero ds = refl
zeros_count_nothing (suc z) ds = zeros_count_nothing z ds

bits_value : (k n : ℕ) → n < 16 ^ 64 → digits_value 16 (drop 2 (bits_text k n)) ≡ n
unfolding zero_filled
bits_value k n h =
    let ds = digits 16 false n in
    zeros_count_nothing (k - length ds) ds ∙ (digits_is_IsNumeral 16 false (omega arith) (omega arith) n h).1

bits_determined : (k m n : ℕ) → m < 2 ^ 64 → n < 2 ^ 64 → bits_json k m ≡ bits_json k n → m ≡ n
bits_determined k m n h l e =
    let same : J.string (bits_text k m) ≡ J.string (bits_text k n) = e in
    let texts : bits_text k m ≡ bits_text k n = cc in
    sym (bits_value k m (omega arith)) ∙ ap (λ text. digits_value 16 (drop 2 text)) texts ∙ bits_value k n (omega arith)

-- lists of floating point numbers with the same JSON have the same bits
pub floats_determined : JsonDetermines (IsBelow 64) Float
floats_determined = array_determined (IsBelow 64) (bits_json 8) (bits_determined 8)

-- lists of floating point numbers of double precision with the same JSON have the same bits
pub doubles_determined : JsonDetermines (IsBelow 64) Double
doubles_determined = array_determined (IsBelow 64) (bits_json 16) (bits_determined 16)

-- ---- bytes of any meaning

hex_determined : (xs ys : List ℕ) → All (IsBelow 8) xs → All (IsBelow 8) ys → flat_map hex_byte xs ≡ flat_map hex_byte ys → xs ≡ ys
hex_determined [] [] h k e = refl
hex_determined [] (y ∷ ys) h k e =
    let no : [] ≡ digit_glyph false (y / 16) ∷ digit_glyph false (y % 16) ∷ flat_map hex_byte ys = e in
    absurd cc
hex_determined (x ∷ xs) [] h k e =
    let no : digit_glyph false (x / 16) ∷ digit_glyph false (x % 16) ∷ flat_map hex_byte xs ≡ [] = e in
    absurd cc
hex_determined (x ∷ xs) (y ∷ ys) h k e =
    let both : digit_glyph false (x / 16) ∷ digit_glyph false (x % 16) ∷ flat_map hex_byte xs ≡ digit_glyph false (y / 16) ∷ digit_glyph false (y % 16) ∷ flat_map hex_byte ys = e in
    let tens : digit_glyph false (x / 16) ≡ digit_glyph false (y / 16) = cc in
    let ones : digit_glyph false (x % 16) ≡ digit_glyph false (y % 16) = cc in
    let a = hex_injective x y (h 0 x (omega arith)) (k 0 y (omega arith)) tens ones in
    let b = hex_determined xs ys (λ i d l. h (suc i) d (omega arith)) (λ i d l. k (suc i) d (omega arith)) cc in
    rw (a, b) refl

-- bytes of any meaning with the same JSON are the same, wherever they are
pub undefined_determined : (p q : ℕ) (xs ys : List ℕ) → All (IsBelow 8) xs → All (IsBelow 8) ys → value_json (Undefined xs p) ≡ value_json (Undefined ys q) → xs ≡ ys
undefined_determined p q xs ys h k e =
    let same : J.string (48 ∷ 120 ∷ flat_map hex_byte xs) ≡ J.string (48 ∷ 120 ∷ flat_map hex_byte ys) = e in
    hex_determined xs ys h k cc

-- ---- texts

-- the bytes of a Latin-1 text from its UTF-8
abbrev from_latin1 : List ℕ → List ℕ
from_latin1 [] = []
from_latin1 (a ∷ []) = a ∷ []
from_latin1 (a ∷ b ∷ rest) = cond (nat_lt a 128) (a ∷ from_latin1 (b ∷ rest)) (((a - 192) * 64 + (b - 128)) ∷ from_latin1 rest)

low_first : (a : ℕ) (rest : List ℕ) → a < 128 → from_latin1 (a ∷ rest) ≡ a ∷ from_latin1 rest
low_first a [] h = refl
low_first a (b ∷ rest) h = grind (arith, nat_tests)

high_first : (a b : ℕ) (rest : List ℕ) → 128 ≤ a → from_latin1 (a ∷ b ∷ rest) ≡ ((a - 192) * 64 + (b - 128)) ∷ from_latin1 rest
high_first a b rest h = grind (arith, nat_tests)

low_encoded : (c : ℕ) → c < 128 → encode_utf8 c ≡ c ∷ []
unfolding encode_utf8
low_encoded c h = grind (arith, nat_tests)

high_encoded : (c : ℕ) → 128 ≤ c → c < 256 → encode_utf8 c ≡ (192 + c / 64) ∷ (128 + c % 64) ∷ []
unfolding encode_utf8
high_encoded c h k = grind (arith, nat_tests)

latin1_back : (xs : List ℕ) → All (IsBelow 8) xs → from_latin1 (latin1 xs) ≡ xs
latin1_back [] h = refl
latin1_back (x ∷ xs) h =
    let below = h 0 x (omega arith) in
    let others = latin1_back xs (λ i d l. h (suc i) d (omega arith)) in
    ⊎_elim (λ (low : x < 128). rw (low_encoded x low, low_first x (latin1 xs) low, others) refl)
    (λ (high : 128 ≤ x).
    let code : (192 + x / 64 - 192) * 64 + (128 + x % 64 - 128) ≡ x = omega arith in
    rw (high_encoded x high below, high_first (192 + x / 64) (128 + x % 64) (latin1 xs) (omega arith), others, code) refl)
    (cases_lt x 128)

abbrev by_encoding : Bool → List ℕ → Json
by_encoding true bytes = J.string bytes
by_encoding false bytes = latin1_json bytes

encoded_determined : (a b : Bool) (xs ys : List ℕ) → All (IsBelow 8) xs → All (IsBelow 8) ys → by_encoding a xs ≡ by_encoding b ys → xs ≡ ys
encoded_determined true true xs ys h k e = let same : J.string xs ≡ J.string ys = e in cc
encoded_determined true false xs ys h k e =
    let no : J.string xs ≡ J.object (J.member (codes "latin1") (J.string (latin1 ys)) J.no_members) = e in
    absurd cc
encoded_determined false true xs ys h k e =
    let no : J.object (J.member (codes "latin1") (J.string (latin1 xs)) J.no_members) ≡ J.string ys = e in
    absurd cc
encoded_determined false false xs ys h k e =
    let both : J.object (J.member (codes "latin1") (J.string (latin1 xs)) J.no_members) ≡ J.object (J.member (codes "latin1") (J.string (latin1 ys)) J.no_members) = e in
    let same : latin1 xs ≡ latin1 ys = cc in
    sym (latin1_back xs h) ∙ ap from_latin1 same ∙ latin1_back ys k

text_chosen : (a : Bool) (xs : List ℕ) → cond a (J.string xs) (latin1_json xs) ≡ by_encoding a xs
text_chosen true xs = refl
text_chosen false xs = refl

text_determined : (xs ys : List ℕ) → All (IsBelow 8) xs → All (IsBelow 8) ys → text_json xs ≡ text_json ys → xs ≡ ys
text_determined xs ys h k e =
    encoded_determined (is_utf8 xs) (is_utf8 ys) xs ys h k (sym (text_chosen (is_utf8 xs) xs) ∙ e ∙ text_chosen (is_utf8 ys) ys)

-- lists of texts with the same JSON are the same, byte by byte
pub texts_determined : JsonDetermines (All (IsBelow 8)) Ascii
texts_determined = array_determined (All (IsBelow 8)) text_json text_determined
