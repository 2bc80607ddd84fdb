-- One step after another on known bytes.
use Rattle.std.proofs.Common.{◌≡◌, ℕ, ◌+◌, ◌-◌, ◌<◌, ◌≤◌, List, [], ◌++◌, length, take, drop, Option, None, Some, ap, subst, sym, ◌∙◌, refl, arith, append_assoc, append-nil, length-append, length-drop}
use Rattle.std.proofs.Math.Seq.{take-add, take-append-add}
use Rattle.std.proofs.lemmas.List.{length-take, length-take-le, take_at, take-take, take-append-le, drop-drop, drop_at}
use borrow.Rule.Slice.PartMut.{put_mid, post_of}
use Rattle.std.specs.Io.{StartsWith}
use Rattle.std.specs.Io.KnownBytes.{Consumes, IsAtEnd}
use Rattle.exif_base.specs.Told.{HasFewer, IsFetchedOnto, Skips}

-- bytes, and then more bytes
pub consumes_append : (a b c : Option (List ℕ)) (xs ys : List ℕ) → Consumes a b xs → Consumes b c ys → Consumes a c (xs ++ ys)
consumes_append None b c xs ys h k = tt
consumes_append (Some p) None c xs ys h k = absurd h
consumes_append (Some p) (Some q) None xs ys h k = absurd k
consumes_append (Some p) (Some q) (Some r) xs ys h k = h ∙ ap (λ t. xs ++ t) k ∙ sym (append_assoc xs ys r)

-- nothing was put at the end of a list
pub nothing_fetched : (a : Option (List ℕ)) (list : List ℕ) → IsFetchedOnto a a list list 0
nothing_fetched None list = ([], tt, refl, sym (append-nil list))
nothing_fetched (Some p) list = ([], refl, refl, sym (append-nil list))

-- bytes were put at the end of a list, and then more bytes
pub fetched_more : (a b c : Option (List ℕ)) (old mid new : List ℕ) (m n k : ℕ) → IsFetchedOnto a b old mid m → IsFetchedOnto b c mid new n
    → m + n ≡ k → IsFetchedOnto a c old new k
fetched_more a b c old mid new m n k h e s = (
  h.0 ++ e.0,
  consumes_append a b c h.0 e.0 h.1 e.1,
  omega (arith, length-append h.0 e.0, h.2, e.2),
  e.3 ∙ ap (λ t. t ++ e.0) h.3 ∙ append_assoc old h.0 e.0,
)

-- the same bytes, counted otherwise
pub fetched_count : (a b : Option (List ℕ)) (old new : List ℕ) (m n : ℕ)
    → IsFetchedOnto a b old new m → m ≡ n → IsFetchedOnto a b old new n
fetched_count a b old new m n h e = (h.0, h.1, h.2 ∙ e, h.3)

-- bytes were put at the end of a list, and then a read gave none
pub fetched_none : (a b c : Option (List ℕ)) (old new buf : List ℕ) (m n : ℕ)
    → IsFetchedOnto a b old new m → Consumes b c (take n buf)
    → n ≡ 0 → IsFetchedOnto a c old new m
fetched_none a b c old new buf m n h k z =
    let P : List ℕ → Type 0 = λ bytes. Consumes a c bytes in
    let same : h.0 ++ take n buf ≡ h.0 = ap (λ t. h.0 ++ take t buf) z ∙ append-nil h.0 in
    (h.0, subst P same (consumes_append a b c h.0 (take n buf) h.1 k), h.2, h.3)

-- bytes were put at the end of a list, and then more, which are at the front of a buffer
pub fetched_buffer : (a b c : Option (List ℕ)) (old mid new buf rest : List ℕ) (m n k : ℕ)
    → IsFetchedOnto a b old mid m → Consumes b c (take n buf)
    → n ≤ length buf → new ≡ mid ++ take n (buf ++ rest) → m + n ≡ k → IsFetchedOnto a c old new k
fetched_buffer a b c old mid new buf rest m n k h read some put s =
    fetched_more a b c old mid new m n k h
    (take n buf, read, length-take-le n buf some, put ∙ ap (λ t. mid ++ t) (take-append-le n buf rest some)) s

-- bytes at the end of a list leave its front
pub appended_kept : (old new bytes : List ℕ) → new ≡ old ++ bytes → StartsWith new old
appended_kept old new bytes e = ap (take (length old)) e ∙ take_at old bytes (length old) refl

-- a front of a front is a front
pub kept_more : (old mid new : List ℕ) → StartsWith mid old → StartsWith new mid → StartsWith new old
kept_more old mid new h k =
    let within : length old ≤ length mid = omega (arith, ap length h, length-take (length old) mid) in
    sym (take-take (length old) (length mid) new within) ∙ ap (take (length old)) k ∙ h

-- a skip, and then more bytes
pub skips_more : (a b c : Option (List ℕ)) (m k : ℕ) (bs : List ℕ) → Skips a b m → Consumes b c bs → m + length bs ≡ k → Skips a c k
skips_more None b c m k bs h e s = tt
skips_more (Some p) None c m k bs h e s = absurd h
skips_more (Some p) (Some q) None m k bs h e s = absurd e
skips_more (Some p) (Some q) (Some r) m k bs h e s =
    let rest : drop m p ≡ bs ++ r = sym h.1 ∙ e in
    let total : length p - m ≡ length bs + length r = sym (length-drop m p) ∙ ap length rest ∙ length-append bs r in (
      omega arith,
      sym (ap (λ t. drop t p) (sym s) ∙ sym (drop-drop (length bs) m p) ∙ ap (drop (length bs)) rest ∙ drop_at bs r (length bs) refl),
    )

-- a skip that fell short found all that was left
pub skipped_short : (a b : Option (List ℕ)) (n len : ℕ) → n < len → Skips a b n → IsAtEnd b → HasFewer a len
skipped_short None b n len h k e = tt
skipped_short (Some p) None n len h k e = absurd k
skipped_short (Some p) (Some q) n len h k e =
    let none : length p - n ≡ 0 = sym (length-drop n p) ∙ ap length (sym k.1 ∙ e) in
    omega arith

-- after a read of n bytes into the part from offset `at` on
pub take_filled : (at k n : ℕ) (old new : List ℕ) → at ≤ length old → n ≤ length new → take (at + n) (put_mid at k old new) ≡ take at old ++ take n new
take_filled at k n old new h f =
    ap (λ m. take (m + n) (put_mid at k old new)) (sym (length-take-le at old h))
    ∙ take-append-add (take at old) (new ++ post_of at k old) n
    ∙ ap (λ t. take at old ++ t) (take-append-le n new (post_of at k old) f)

-- after a copy of the bytes from offset `at` up to `end`
pub copied_more : (at end : ℕ) (bytes old before after : List ℕ) → at ≤ end → before ≡ old ++ take at bytes
    → after ≡ before ++ take (end - at) (drop at bytes) → after ≡ old ++ take end bytes
copied_more at end bytes old before after h e f =
    let whole : at + (end - at) ≡ end = omega arith in
    let split : take end bytes ≡ take at bytes ++ take (end - at) (drop at bytes) = ap (λ n. take n bytes) (sym whole) ∙ take-add at (end - at) bytes in
    f ∙ ap (λ t. t ++ take (end - at) (drop at bytes)) e ∙ append_assoc old (take at bytes) _ ∙ ap (λ t. old ++ t) (sym split)
