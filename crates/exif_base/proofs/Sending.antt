-- Sends: one after the other, and of the members of a list in a loop.
use Rattle.std.proofs.Common.{◌≡◌, ℕ, ◌+◌, ◌<◌, ◌≤◌, length, List, [], ◌∷◌, ◌++◌, take, drop, get_or, Result, Ok, Err, is_err, true, ap, subst, sym, refl, ◌∙◌}
use Rattle.std.proofs.lemmas.List.{take-append-drop, take_all, drop_more, take_more, append-nil}
use Rattle.std.proofs.lemmas.Bool.{false≢true}
use Rattle.std.proofs.lemmas.List.Concat.{flat_map-append}
use Rattle.std.specs.List.{flat_map}
use Rattle.std.specs.Result.{IsErr}
use Rattle.std.specs.Io.KnownBytes.{Keeps}
use Rattle.exif_base.specs.Device.{count_after}
use Rattle.exif_base.specs.Sent.{Sends}
use Rattle.exif_base.specs.declared.device.Sink as sink
use Rattle.exif_base.proofs.Sent.{appends_more, appends_none, appends_kept, front_all, front_first, front_second}

-- a text was sent whole: what a loop keeps, whatever the types of its results
abbrev pub HasSent : {S : Type 0} → sink.Ghosts S → S → S → List ℕ → Type 0
HasSent W old new text = let whole : Result (Unit {0}) (Unit {0}) = Ok tt in Sends W old new whole text

-- nothing was sent yet
pub sends_none : {S T E : Type 0} {W : sink.Ghosts S} {a : S} {x : T} → let r : Result T E = Ok x in Sends W a a r []
sends_none {W = W} {a = a} = record { sent = appends_none (W.taken a); front = tt; count = refl; same = refl }

-- a text that was sent whole, under a result of any type
pub sends_whole : {S T U E F : Type 0} {W : sink.Ghosts S} {a b : S} {x : T} {y : U} {text : List ℕ}
    → (let r : Result T E = Ok x in Sends W a b r text) → let s : Result U F = Ok y in Sends W a b s text
sends_whole h = record { sent = h.sent; front = tt; count = h.count; same = h.same }

-- a whole text, and then another or a front of it
pub sends_then : {S T U E F : Type 0} {W : sink.Ghosts S} {a b c : S} {x : T} {r : Result U F} {xs ys : List ℕ}
    → (let s : Result T E = Ok x in Sends W a b s xs) → Sends W b c r ys → Sends W a c r (xs ++ ys)
sends_then {r = Ok y} {xs = xs} {ys = ys} h k =
    record { sent = appends_more _ _ _ xs ys h.sent k.sent; front = tt; count = k.count ∙ h.count; same = k.same ∙ h.same }
sends_then {r = Err e} {xs = xs} {ys = ys} h k =
    record { sent = tt; front = front_second _ _ _ xs ys h.sent k.front; count = k.count ∙ ap (count_after true) h.count; same = k.same ∙ h.same }

-- a failure in the first of two texts is a failure in both
pub sends_stop : {S T U E F : Type 0} {W : sink.Ghosts S} {a b : S} {e : E} {r : Result U F} {xs : List ℕ} (ys : List ℕ)
    → (let s : Result T E = Err e in Sends W a b s xs) → IsErr r → Sends W a b r (xs ++ ys)
sends_stop {r = Ok y} ys h k = absurd (false≢true k)
sends_stop {r = Err f} ys h k = record { sent = tt; front = front_first _ _ _ _ h.front; count = h.count; same = h.same }

-- a failure under another error
pub sends_failed : {S T U E F : Type 0} {W : sink.Ghosts S} {a b : S} {e : E} {r : Result U F} {text : List ℕ}
    → (let s : Result T E = Err e in Sends W a b s text) → IsErr r → Sends W a b r text
sends_failed {r = Ok y} h k = absurd (false≢true k)
sends_failed {r = Err f} h k = record { sent = tt; front = h.front; count = h.count; same = h.same }

-- the texts of a list about one of its members
around : {X : Type 0} (f : X → List ℕ) (xs : List X) (i : ℕ) (x d : X) → i < length xs → x ≡ get_or xs i d
    → flat_map f (take i xs) ++ (f x ++ flat_map f (drop (i + 1) xs)) ≡ flat_map f xs
around f xs i x d h e =
    let members : xs ≡ take i xs ++ (x ∷ drop (i + 1) xs) =
    sym (take-append-drop i xs) ∙ ap (λ r. take i xs ++ r) (drop_more xs i d h ∙ ap (λ y. y ∷ drop (i + 1) xs) (sym e)) in
    sym (ap (flat_map f) members ∙ flat_map-append f (take i xs) (x ∷ drop (i + 1) xs))

-- the texts of one member more
one_more : {X : Type 0} (f : X → List ℕ) (xs : List X) (i : ℕ) (x d : X) → i < length xs → x ≡ get_or xs i d
    → flat_map f (take i xs) ++ f x ≡ flat_map f (take (i + 1) xs)
one_more f xs i x d h e =
    let more : take (i + 1) xs ≡ take i xs ++ (x ∷ []) = take_more xs i d h ∙ ap (λ y. take i xs ++ y ∷ []) (sym e) in
    ap (λ t. flat_map f (take i xs) ++ t) (sym (append-nil (f x))) ∙ sym (ap (flat_map f) more ∙ flat_map-append f (take i xs) (x ∷ []))

-- a member's text after those before it
pub sends_member : {S X T E : Type 0} {W : sink.Ghosts S} {a b c : S} {y : T} (f : X → List ℕ) (xs : List X) (i : ℕ) (x d : X) → i < length xs → x ≡ get_or xs i d
    → HasSent W a b (flat_map f (take i xs)) → (let r : Result T E = Ok y in Sends W b c r (f x)) → HasSent W a c (flat_map f (take (i + 1) xs))
sends_member {W = W} {a = a} {c = c} f xs i x d h e sent one =
    let P : List ℕ → Type 0 = λ text. HasSent W a c text in
    subst P (one_more f xs i x d h e) (sends_then sent (sends_whole one))

-- a failure in a member's text, after those before it
pub sends_stop_member : {S X T U E F : Type 0} {W : sink.Ghosts S} {a b c : S} {e : E} {r : Result U F} (f : X → List ℕ) (xs : List X) (i : ℕ) (x d : X) → i < length xs → x ≡ get_or xs i d
    → HasSent W a b (flat_map f (take i xs)) → (let s : Result T E = Err e in Sends W b c s (f x)) → IsErr r → Sends W a c r (flat_map f xs)
sends_stop_member {W = W} {a = a} {c = c} {r = r} f xs i x d h is sent one k =
    let P : List ℕ → Type 0 = λ text. Sends W a c r text in
    subst P (around f xs i x d h is) (sends_then sent (sends_stop _ one k))

-- the texts of all members
pub sends_members : {S X T E : Type 0} {W : sink.Ghosts S} {a b : S} {y : T} (f : X → List ℕ) (xs : List X) (i : ℕ) → length xs ≤ i
    → HasSent W a b (flat_map f (take i xs)) → let r : Result T E = Ok y in Sends W a b r (flat_map f xs)
sends_members {X = X} {T = T} {E = E} {W = W} {a = a} {b = b} {y = y} f xs i h sent =
    let r : Result T E = Ok y in
    let P : List X → Type 0 = λ members. Sends W a b r (flat_map f members) in
    subst P (take_all i xs h) (sends_whole sent)

-- a whole text, and then a call that sends nothing
pub sends_kept : {S T U E F : Type 0} {W : sink.Ghosts S} {a b c : S} {x : T} {r : Result U F} {text : List ℕ}
    → (let s : Result T E = Ok x in Sends W a b s text) → Keeps (W.taken b) (W.taken c) → W.failures c ≡ count_after (is_err r) (W.failures b) → W.through c ≡ W.through b
    → Sends W a c r text
sends_kept {r = Ok y} h keeps count same =
    record { sent = appends_kept _ _ _ _ h.sent keeps; front = tt; count = count ∙ h.count; same = same ∙ h.same }
sends_kept {r = Err e} h keeps count same =
    record { sent = tt; front = front_all _ _ _ _ h.sent keeps; count = count ∙ ap (count_after true) h.count; same = same ∙ h.same }
