-- Lines that are written one after the other.
use Rattle.std.proofs.Common.{◌≡◌, ℕ, ◌+◌, ◌<◌, ◌≤◌, length, List, [], ◌∷◌, ◌++◌, get_or, map, Result, Ok, Err, refl, take, drop, ap, sym, subst, ◌∙◌, append-nil}
use Rattle.std.proofs.lemmas.List.{take-append-drop, take_all, take_more, drop_more}
use Rattle.std.proofs.lemmas.List.Concat.{flat_map-append}
use Rattle.std.specs.List.{flat_map}
use Rattle.std.specs.Io.KnownBytes.{Keeps}
use Rattle.exif_base.specs.Sent.{Sends}
use Rattle.exif_base.specs.declared.device.Sink as sink
use Rattle.exif_base.proofs.Sent.{appends_kept, appends_more, appends_none, front_all, front_first, front_none, front_second, keeps_same}
use Rattle.exif_decisions.specs.Listing.{WritesText}

-- a text was written whole, whatever the types of the results
abbrev pub HasWrittenText : {S : Type 0} → sink.Ghosts S → S → S → List ℕ → Type 0
HasWrittenText W old new text = let whole : Result (Unit {0}) (Unit {0}) = Ok tt in WritesText W old new whole text

-- nothing yet
pub writes_none : {S : Type 0} {W : sink.Ghosts S} {a : S} → HasWrittenText W a a []
writes_none {W = W} {a = a} = record { sent = appends_none (W.taken a); front = tt; same = refl }

-- memory ran out before anything was written
pub writes_nothing : {S T E : Type 0} {W : sink.Ghosts S} {a : S} {e : E} {text : List ℕ}
    → let r : Result T E = Err e in WritesText W a a r text
writes_nothing {W = W} {a = a} {text = text} = record { sent = tt; front = front_none _ _ text (keeps_same (W.taken a)); same = refl }

-- what was sent was written
pub writes_sent : {S T E : Type 0} {W : sink.Ghosts S} {a b : S} {r : Result T E} {text : List ℕ} → Sends W a b r text → WritesText W a b r text
writes_sent h = record { sent = h.sent; front = h.front; same = h.same }

-- under another result
pub writes_whole : {S T U E F : Type 0} {W : sink.Ghosts S} {a b : S} {x : T} {y : U} {text : List ℕ}
    → (let r : Result T E = Ok x in WritesText W a b r text) → let s : Result U F = Ok y in WritesText W a b s text
writes_whole h = record { sent = h.sent; front = tt; same = h.same }

-- a failure under another error
pub writes_failed : {S T U E F : Type 0} {W : sink.Ghosts S} {a b : S} {e : E} {f : F} {text : List ℕ}
    → (let s : Result T E = Err e in WritesText W a b s text) → let r : Result U F = Err f in WritesText W a b r text
writes_failed h = record { sent = tt; front = h.front; same = h.same }

-- a whole text, and then another or a front of it
pub writes_then : {S T U E F : Type 0} {W : sink.Ghosts S} {a b c : S} {x : T} {r : Result U F} {xs ys : List ℕ}
    → (let s : Result T E = Ok x in WritesText W a b s xs) → WritesText W b c r ys → WritesText W a c r (xs ++ ys)
writes_then {r = Ok y} {xs = xs} {ys = ys} h k =
    record { sent = appends_more _ _ _ xs ys h.sent k.sent; front = tt; same = k.same ∙ h.same }
writes_then {r = Err e} {xs = xs} {ys = ys} h k =
    record { sent = tt; front = front_second _ _ _ xs ys h.sent k.front; same = k.same ∙ h.same }

-- a failure in the first of two texts is one in both
pub writes_stop : {S T U E F : Type 0} {W : sink.Ghosts S} {a b : S} {e : E} {f : F} {xs : List ℕ} (ys : List ℕ)
    → (let s : Result T E = Err e in WritesText W a b s xs) → let r : Result U F = Err f in WritesText W a b r (xs ++ ys)
writes_stop ys h = record { sent = tt; front = front_first _ _ _ _ h.front; same = h.same }

-- a whole text, and then a call that writes nothing
pub writes_kept : {S T U E F : Type 0} {W : sink.Ghosts S} {a b c : S} {x : T} {r : Result U F} {text : List ℕ}
    → (let s : Result T E = Ok x in WritesText W a b s text) → Keeps (W.taken b) (W.taken c) → W.through c ≡ W.through b → WritesText W a c r text
writes_kept {r = Ok y} h keeps same = record { sent = appends_kept _ _ _ _ h.sent keeps; front = tt; same = same ∙ h.same }
writes_kept {r = Err e} h keeps same = record { sent = tt; front = front_all _ _ _ _ h.sent keeps; same = same ∙ h.same }

-- the texts of a list about one of its members
around : {X : Type 0} (f : X → List ℕ) (xs : List X) (i : ℕ) (x d : X) → i < length xs → x ≡ get_or xs i d
    → flat_map f (take i xs) ++ (f x ++ flat_map f (drop (i + 1) xs)) ≡ flat_map f xs
around f xs i x d h e =
    let members : xs ≡ take i xs ++ (x ∷ drop (i + 1) xs) =
    sym (take-append-drop i xs) ∙ ap (λ r. take i xs ++ r) (drop_more xs i d h ∙ ap (λ y. y ∷ drop (i + 1) xs) (sym e)) in
    sym (ap (flat_map f) members ∙ flat_map-append f (take i xs) (x ∷ drop (i + 1) xs))

-- the texts of one member more
one_more : {X : Type 0} (f : X → List ℕ) (xs : List X) (i : ℕ) (x d : X) → i < length xs → x ≡ get_or xs i d
    → flat_map f (take i xs) ++ f x ≡ flat_map f (take (i + 1) xs)
one_more f xs i x d h e =
    let more : take (i + 1) xs ≡ take i xs ++ (x ∷ []) = take_more xs i d h ∙ ap (λ y. take i xs ++ y ∷ []) (sym e) in
    ap (λ t. flat_map f (take i xs) ++ t) (sym (append-nil (f x))) ∙ sym (ap (flat_map f) more ∙ flat_map-append f (take i xs) (x ∷ []))

-- the texts of members that are seen as others
flat_map-map : {X Y : Type 0} (view : X → Y) (f : Y → List ℕ) (xs : List X) → flat_map f (map view xs) ≡ flat_map (λ x. f (view x)) xs
flat_map-map view f [] = refl
flat_map-map view f (x ∷ xs) = ap (λ t. f (view x) ++ t) (flat_map-map view f xs)

-- a member's text after those before it
pub writes_member : {S X T E : Type 0} {W : sink.Ghosts S} {a b c : S} {y : T} (f : X → List ℕ) (xs : List X) (i : ℕ) (x d : X) → i < length xs → x ≡ get_or xs i d
    → HasWrittenText W a b (flat_map f (take i xs)) → (let r : Result T E = Ok y in WritesText W b c r (f x)) → HasWrittenText W a c (flat_map f (take (i + 1) xs))
writes_member {W = W} {a = a} {c = c} f xs i x d h e sent one =
    let P : List ℕ → Type 0 = λ text. HasWrittenText W a c text in
    subst P (one_more f xs i x d h e) (writes_then sent (writes_whole one))

-- a failure in a member's text, after those before it
pub writes_stop_member : {S X Y T U E F : Type 0} {W : sink.Ghosts S} {a b c : S} {e : E} {g : F} (view : X → Y) (f : Y → List ℕ) (xs : List X) (i : ℕ) (x d : X) → i < length xs → x ≡ get_or xs i d
    → HasWrittenText W a b (flat_map (λ x. f (view x)) (take i xs)) → (let s : Result T E = Err e in WritesText W b c s (f (view x)))
    → let r : Result U F = Err g in WritesText W a c r (flat_map f (map view xs))
writes_stop_member {U = U} {F = F} {W = W} {a = a} {c = c} {g = g} view f xs i x d h is sent one =
    let r : Result U F = Err g in
    let P : List ℕ → Type 0 = λ text. WritesText W a c r text in
    subst P (around (λ x. f (view x)) xs i x d h is ∙ sym (flat_map-map view f xs)) (writes_then sent (writes_stop _ one))

-- the texts of all members
pub writes_members : {S X Y T E : Type 0} {W : sink.Ghosts S} {a b : S} {y : T} (view : X → Y) (f : Y → List ℕ) (xs : List X) (i : ℕ) → length xs ≤ i
    → HasWrittenText W a b (flat_map (λ x. f (view x)) (take i xs)) → let r : Result T E = Ok y in WritesText W a b r (flat_map f (map view xs))
writes_members {T = T} {E = E} {W = W} {a = a} {b = b} {y = y} view f xs i h sent =
    let r : Result T E = Ok y in
    let P : List ℕ → Type 0 = λ text. WritesText W a b r text in
    subst P (ap (flat_map (λ x. f (view x))) (take_all i xs h) ∙ sym (flat_map-map view f xs)) (writes_whole sent)
