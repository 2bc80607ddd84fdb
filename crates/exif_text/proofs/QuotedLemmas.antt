-- Different bytes have different quoted texts.
use Rattle.std.proofs.Common.{◌≡◌, ◌≢◌, ◌⊎◌, ℕ, ◌/◌, ◌%◌, ◌<◌, ◌≤◌, List, [], ◌∷◌, ◌++◌, true, false, refl, sym, ap, ◌∙◌, ⊎_elim, inl, inr, arith, append_assoc, get_or, suc}
use Rattle.std.proofs.lemmas.Bool.{cases_lt, cases_eq, and_parts}
use Rattle.std.proofs.lemmas.Bool.Decides.{nat_tests}
use Rattle.std.specs.List.{flat_map, list_all}
use Rattle.std.specs.Fmt.{digit_glyph}
use Rattle.exif_text.specs.Quoted.{quoted, escaped, hex_byte, is_plain}

-- the three forms of a byte within quotes
data Form (b : ℕ) : Type 0 where
  Special : (b ≢ 120) → (escaped b ≡ 92 ∷ b ∷ []) → Form b
  Itself : (b ≢ 92) → (b ≢ 34) → (escaped b ≡ b ∷ []) → Form b
  Hex : (escaped b ≡ 92 ∷ 120 ∷ hex_byte b) → Form b

special : (b : ℕ) → (b ≡ 34) ⊎ (b ≡ 92) → escaped b ≡ 92 ∷ b ∷ []
special b (inl e) = rw e refl
special b (inr e) = rw e refl

hex : (b : ℕ) → (b < 32) ⊎ (126 < b) → escaped b ≡ 92 ∷ 120 ∷ hex_byte b
hex b (inl h) = grind (arith, nat_tests)
hex b (inr h) = grind (arith, nat_tests)

itself : (b : ℕ) → 32 ≤ b → b ≤ 126 → b ≢ 34 → b ≢ 92 → escaped b ≡ b ∷ []
itself b low high one two = grind (arith, nat_tests)

form_between : (b : ℕ) → 32 ≤ b → b ≤ 126 → Form b
form_between b low high =
    ⊎_elim (λ (is : b ≡ 34). Special (omega arith) (special b (inl is)))
    (λ (one : b ≢ 34). ⊎_elim (λ (is : b ≡ 92). Special (omega arith) (special b (inr is))) (λ (two : b ≢ 92). Itself two one (itself b low high one two)) (cases_eq b 92))
    (cases_eq b 34)

form : (b : ℕ) → Form b
form b = ⊎_elim (λ (h : b < 32). Hex (hex b (inl h)))
    (λ (low : 32 ≤ b). ⊎_elim (λ (h : 126 < b). Hex (hex b (inr h))) (λ (high : b ≤ 126). form_between b low high) (cases_lt 126 b))
    (cases_lt b 32)

glyph_injective : (m n : ℕ) → m < 16 → n < 16 → digit_glyph false m ≡ digit_glyph false n → m ≡ n
glyph_injective m n low high e = grind (arith, nat_tests)

-- two digits tell the byte
pub hex_injective : (a b : ℕ) → a < 256 → b < 256 → digit_glyph false (a / 16) ≡ digit_glyph false (b / 16) → digit_glyph false (a % 16) ≡ digit_glyph false (b % 16) → a ≡ b
hex_injective a b low high e f =
    let tens = glyph_injective (a / 16) (b / 16) (omega arith) (omega arith) e in
    let ones = glyph_injective (a % 16) (b % 16) (omega arith) (omega arith) f in
    omega (arith, tens, ones)

rewritten : (xs ys xs' ys' s t : List ℕ) → xs ≡ xs' → ys ≡ ys' → xs ++ s ≡ ys ++ t → xs' ++ s ≡ ys' ++ t
rewritten xs ys xs' ys' s t e f h = rw (← e, ← f) h

cancel : (a b : ℕ) (s t : List ℕ) → a < 256 → b < 256 → Form a → Form b → escaped a ++ s ≡ escaped b ++ t → (a ≡ b) × (s ≡ t)
cancel a b s t la lb (Special na ea) (Special nb eb) h = let k : 92 ∷ a ∷ s ≡ 92 ∷ b ∷ t = rewritten _ _ _ _ s t ea eb h in (cc, cc)
cancel a b s t la lb (Special na ea) (Itself nb mb eb) h = let k : 92 ∷ a ∷ s ≡ b ∷ t = rewritten _ _ _ _ s t ea eb h in let e : b ≡ 92 = cc in absurd (nb e)
cancel a b s t la lb (Special na ea) (Hex eb) h = let k : 92 ∷ a ∷ s ≡ 92 ∷ 120 ∷ (hex_byte b ++ t) = rewritten _ _ _ _ s t ea eb h in let e : a ≡ 120 = cc in absurd (na e)
cancel a b s t la lb (Itself na ma ea) (Special nb eb) h = let k : a ∷ s ≡ 92 ∷ b ∷ t = rewritten _ _ _ _ s t ea eb h in let e : a ≡ 92 = cc in absurd (na e)
cancel a b s t la lb (Itself na ma ea) (Itself nb mb eb) h = let k : a ∷ s ≡ b ∷ t = rewritten _ _ _ _ s t ea eb h in (cc, cc)
cancel a b s t la lb (Itself na ma ea) (Hex eb) h = let k : a ∷ s ≡ 92 ∷ 120 ∷ (hex_byte b ++ t) = rewritten _ _ _ _ s t ea eb h in let e : a ≡ 92 = cc in absurd (na e)
cancel a b s t la lb (Hex ea) (Special nb eb) h = let k : 92 ∷ 120 ∷ (hex_byte a ++ s) ≡ 92 ∷ b ∷ t = rewritten _ _ _ _ s t ea eb h in let e : b ≡ 120 = cc in absurd (nb e)
cancel a b s t la lb (Hex ea) (Itself nb mb eb) h = let k : 92 ∷ 120 ∷ (hex_byte a ++ s) ≡ b ∷ t = rewritten _ _ _ _ s t ea eb h in let e : b ≡ 92 = cc in absurd (nb e)
cancel a b s t la lb (Hex ea) (Hex eb) h =
    let k : 92 ∷ 120 ∷ digit_glyph false (a / 16) ∷ digit_glyph false (a % 16) ∷ s ≡ 92 ∷ 120 ∷ digit_glyph false (b / 16) ∷ digit_glyph false (b % 16) ∷ t = rewritten _ _ _ _ s t ea eb h in
    let tens : digit_glyph false (a / 16) ≡ digit_glyph false (b / 16) = cc in
    let ones : digit_glyph false (a % 16) ≡ digit_glyph false (b % 16) = cc in
    (hex_injective a b la lb tens ones, cc)

heads : (x y : ℕ) (xs ys : List ℕ) → x ∷ xs ≡ y ∷ ys → x ≡ y
heads x y xs ys e = cc

-- no byte begins as the closing quote does
no_quote : (b : ℕ) (s t : List ℕ) → Form b → 34 ∷ t ≡ escaped b ++ s → ⊥
no_quote b s t (Special n e) h = let k : 34 ∷ t ≡ 92 ∷ b ∷ s = h ∙ ap (λ (w : List ℕ). w ++ s) e in omega (arith, heads 34 92 t (b ∷ s) k)
no_quote b s t (Itself n m e) h = let k : 34 ∷ t ≡ b ∷ s = h ∙ ap (λ (w : List ℕ). w ++ s) e in let f : b ≡ 34 = cc in m f
no_quote b s t (Hex e) h = let k : 34 ∷ t ≡ 92 ∷ 120 ∷ (hex_byte b ++ s) = h ∙ ap (λ (w : List ℕ). w ++ s) e in omega (arith, heads 34 92 t (120 ∷ (hex_byte b ++ s)) k)

abbrev AllBytes : List ℕ → Type 0
AllBytes [] = Unit {0}
AllBytes (x ∷ xs) = (x < 256) × AllBytes xs

bodies : (xs ys : List ℕ) → AllBytes xs → AllBytes ys → flat_map escaped xs ++ (34 ∷ []) ≡ flat_map escaped ys ++ (34 ∷ []) → xs ≡ ys
bodies [] [] ax ay h = refl
bodies [] (y ∷ ys) ax ay h = absurd (no_quote y _ _ (form y) (h ∙ append_assoc (escaped y) (flat_map escaped ys) (34 ∷ [])))
bodies (x ∷ xs) [] ax ay h = absurd (no_quote x _ _ (form x) (sym h ∙ append_assoc (escaped x) (flat_map escaped xs) (34 ∷ [])))
bodies (x ∷ xs) (y ∷ ys) ax ay h =
    let parts = cancel x y _ _ ax.0 ay.0 (form x) (form y) (sym (append_assoc (escaped x) (flat_map escaped xs) (34 ∷ [])) ∙ h ∙ append_assoc (escaped y) (flat_map escaped ys) (34 ∷ [])) in
    let rest = bodies xs ys ax.1 ay.1 parts.1 in
    let first = parts.0 in cc

all_bytes : (xs : List ℕ) → ((k : ℕ) → get_or xs k 0 < 256) → AllBytes xs
all_bytes [] h = tt
all_bytes (x ∷ xs) h = (h 0, all_bytes xs (λ k. h (suc k)))

-- different bytes have different texts
pub quoted_injective : (xs ys : List ℕ) → ((k : ℕ) → get_or xs k 0 < 256) → ((k : ℕ) → get_or ys k 0 < 256) → quoted xs ≡ quoted ys → xs ≡ ys
quoted_injective xs ys hx hy h = bodies xs ys (all_bytes xs hx) (all_bytes ys hy) cc

-- ---- bytes that are between the quotes as they are

plain_itself : (b : ℕ) → is_plain b ≡ true → escaped b ≡ b ∷ []
plain_itself b is = grind (arith, nat_tests)

plain_then : (b : ℕ) (bytes : List ℕ) → (list_all is_plain bytes ≡ true → bytes ≡ flat_map escaped bytes) → is_plain b ≡ true → list_all is_plain bytes ≡ true → b ∷ bytes ≡ flat_map escaped (b ∷ bytes)
plain_then b bytes more is all = rw (plain_itself b is) (ap (λ l. b ∷ l) (more all))

-- where all do, they are their own text
pub plain_escaped : (bytes : List ℕ) → list_all is_plain bytes ≡ true → bytes ≡ flat_map escaped bytes
plain_escaped [] all = refl
plain_escaped (b ∷ bytes) all =
    let each = and_parts (is_plain b) (list_all is_plain bytes) all in
    plain_then b bytes (plain_escaped bytes) each.0 each.1
