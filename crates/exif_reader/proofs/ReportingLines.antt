-- Lines written one after the other, and in a loop.
use Rattle.std.proofs.Common.{◌≡◌, ℕ, ◌+◌, ◌<◌, ◌≤◌, length, List, [], ◌∷◌, ◌++◌, get_or, Result, Ok, Err, is_err, take, drop, ap, sym, subst, ◌∙◌, append_assoc, append-nil}
use Rattle.std.proofs.lemmas.List.{take-append-drop, take_all, take_more}
use Rattle.std.proofs.lemmas.List.Concat.{flat_map-append}
use Rattle.std.specs.List.{flat_map}
use Rattle.std.specs.Prelude.{IfErr}
use Rattle.std.specs.Result.{IsErr}
use Rattle.std.specs.Io.KnownBytes.{Keeps}
use Rattle.exif_base.specs.Device.{count_after}
use Rattle.exif_base.specs.Sent.{Sends}
use Rattle.exif_base.specs.declared.device.Sink as sink
use Rattle.exif_base.proofs.Sent.{appends_more, appends_kept, front_all, front_first, front_second, keeps_same}
use Rattle.exif_types.specs.Failures.{Failure}
use Rattle.exif_types.specs.Refusals.{is_io, is_io_error, IsInterrupted}
use Rattle.exif_types.specs.declared.error.Error.TheVariants as error
use Rattle.exif_reader.specs.Writes.{Writes}
pub use Rattle.exif_base.proofs.Sending.{HasSent, sends_none, sends_then, sends_whole, sends_stop, sends_failed, sends_member, sends_stop_member, sends_members}

-- what was sent was written, where the sink's failure is the error
pub writes_sent : {S T : Type 0} {W : sink.Ghosts S} {a b : S} {r : Result T Failure} {text : List ℕ}
    → Sends W a b r text → is_err r ≡ is_io r → IfErr r IsInterrupted → Writes W a b r text
writes_sent {W = W} {a = a} {r = r} h io i =
    record { sent = h.sent; front = h.front; interrupted = i; count = h.count ∙ ap (λ failed. count_after failed (W.failures a)) io; same = h.same }

-- a part was sent, and then memory ran out
pub writes_part : {S T : Type 0} {W : sink.Ghosts S} {a b : S} {e : Failure} (done rest : List ℕ)
    → HasSent W a b done → e ≡ error.OutOfMemory → let r : Result T Failure = Err e in Writes W a b r (done ++ rest)
writes_part {T = T} {W = W} {a = a} {b = b} done rest h memory =
    let P : Failure → Type 0 = λ e. (let r : Result T Failure = Err e in Writes W a b r (done ++ rest)) in
    subst P (sym memory) (record { sent = tt; front = front_first _ _ done rest (front_all _ _ _ done h.sent (keeps_same _)); interrupted = tt; count = h.count; same = h.same })

-- the lines of the first members were sent, and then memory ran out
pub writes_members : {S X T : Type 0} {W : sink.Ghosts S} {a b : S} {e : Failure} (f : X → List ℕ) (xs : List X) (i : ℕ)
    → HasSent W a b (flat_map f (take i xs)) → e ≡ error.OutOfMemory → let r : Result T Failure = Err e in Writes W a b r (flat_map f xs)
writes_members {T = T} {W = W} {a = a} {b = b} {e = e} f xs i h memory =
    let r : Result T Failure = Err e in
    let P : List ℕ → Type 0 = λ text. Writes W a b r text in
    subst P (sym (flat_map-append f (take i xs) (drop i xs)) ∙ ap (flat_map f) (take-append-drop i xs))
    (writes_part (flat_map f (take i xs)) (flat_map f (drop i xs)) h memory)

-- a whole text, and then another or a front of it
pub writes_then : {S T U : Type 0} {W : sink.Ghosts S} {a b c : S} {x : T} {r : Result U Failure} {xs ys : List ℕ}
    → (let s : Result T Failure = Ok x in Writes W a b s xs) → Writes W b c r ys → Writes W a c r (xs ++ ys)
writes_then {r = Ok y} {xs = xs} {ys = ys} h k =
    record { sent = appends_more _ _ _ xs ys h.sent k.sent; front = tt; interrupted = tt; count = k.count ∙ h.count; same = k.same ∙ h.same }
writes_then {r = Err e} {xs = xs} {ys = ys} h k =
    record { sent = tt; front = front_second _ _ _ xs ys h.sent k.front; interrupted = k.interrupted; count = k.count ∙ ap (count_after (is_io_error e)) h.count; same = k.same ∙ h.same }

-- an interruption in the first of two texts is one in both
pub writes_stop : {S T U : Type 0} {W : sink.Ghosts S} {a b : S} {e : Failure} {xs : List ℕ} (ys : List ℕ)
    → (let s : Result T Failure = Err e in Writes W a b s xs) → let r : Result U Failure = Err e in Writes W a b r (xs ++ ys)
writes_stop ys h = record { sent = tt; front = front_first _ _ _ _ h.front; interrupted = h.interrupted; count = h.count; same = h.same }

-- a whole text, and then a call that writes nothing
pub writes_kept : {S T U : Type 0} {W : sink.Ghosts S} {a b c : S} {x : T} {r : Result U Failure} {text : List ℕ}
    → (let s : Result T Failure = Ok x in Writes W a b s text) → Keeps (W.taken b) (W.taken c) → W.failures c ≡ count_after (is_io r) (W.failures b) → W.through c ≡ W.through b
    → IfErr r IsInterrupted → Writes W a c r text
writes_kept {r = Ok y} h keeps count same i =
    record { sent = appends_kept _ _ _ _ h.sent keeps; front = tt; interrupted = tt; count = count ∙ h.count; same = same ∙ h.same }
writes_kept {r = Err e} h keeps count same i =
    record { sent = tt; front = front_all _ _ _ _ h.sent keeps; interrupted = i; count = count ∙ ap (count_after (is_io_error e)) h.count; same = same ∙ h.same }

-- ---- lines that are held before they are sent

-- a text was sent but for what is held of it
abbrev pub IsHeld : {S : Type 0} → sink.Ghosts S → S → S → List ℕ → List ℕ → Type 0
IsHeld W a b held text = (sent : List ℕ) × HasSent W a b sent × (sent ++ held ≡ text)

-- the line of one member more is held, and then some of what is held is sent
pub held_member : {S X T E : Type 0} {W : sink.Ghosts S} {a b c : S} {y : T} (f : X → List ℕ) (xs : List X) (i : ℕ) (x d : X) (held more after sent : List ℕ)
    → i < length xs → x ≡ get_or xs i d → IsHeld W a b held (flat_map f (take i xs)) → more ≡ held ++ f x
    → (let r : Result T E = Ok y in Sends W b c r sent) → sent ++ after ≡ more → IsHeld W a c after (flat_map f (take (i + 1) xs))
held_member f xs i x d held more after sent h e before line sends rest =
    let front = flat_map f (take i xs) in
    let members : take (i + 1) xs ≡ take i xs ++ (x ∷ []) = take_more xs i d h ∙ ap (λ y. take i xs ++ y ∷ []) (sym e) in
    let text : flat_map f (take (i + 1) xs) ≡ front ++ f x =
    ap (flat_map f) members ∙ flat_map-append f (take i xs) (x ∷ []) ∙ ap (λ t. front ++ t) (append-nil (f x)) in (
      before.0 ++ sent,
      sends_then before.1 (sends_whole sends),
      append_assoc before.0 sent after ∙ ap (λ t. before.0 ++ t) (rest ∙ line) ∙ sym (append_assoc before.0 held (f x))
          ∙ ap (λ t. t ++ f x) before.2 ∙ sym text,
    )

-- what is held of the lines of the first members, and what comes behind it
held_front : {X : Type 0} (f : X → List ℕ) (xs : List X) (i : ℕ) (sent held : List ℕ) → sent ++ held ≡ flat_map f (take i xs)
    → sent ++ (held ++ flat_map f (drop i xs)) ≡ flat_map f xs
held_front f xs i sent held e =
    sym (append_assoc sent held (flat_map f (drop i xs))) ∙ ap (λ t. t ++ flat_map f (drop i xs)) e
    ∙ sym (flat_map-append f (take i xs) (drop i xs)) ∙ ap (flat_map f) (take-append-drop i xs)

-- memory ran out where some lines are held
pub held_memory : {S X T : Type 0} {W : sink.Ghosts S} {a b : S} {e : Failure} (f : X → List ℕ) (xs : List X) (i : ℕ) (held : List ℕ)
    → IsHeld W a b held (flat_map f (take i xs)) → e ≡ error.OutOfMemory → let r : Result T Failure = Err e in Writes W a b r (flat_map f xs)
held_memory {T = T} {W = W} {a = a} {b = b} {e = e} f xs i held before memory =
    let r : Result T Failure = Err e in
    let P : List ℕ → Type 0 = λ text. Writes W a b r text in
    subst P (held_front f xs i before.0 held before.2) (writes_part before.0 (held ++ flat_map f (drop i xs)) before.1 memory)

-- the sink failed where a line more was held
pub held_stop : {S X T U E F : Type 0} {W : sink.Ghosts S} {a b c : S} {e : E} {r : Result U F} (f : X → List ℕ) (xs : List X) (i : ℕ) (x d : X) (held more sent : List ℕ)
    → i < length xs → x ≡ get_or xs i d → IsHeld W a b held (flat_map f (take i xs)) → more ≡ held ++ f x
    → (let s : Result T E = Err e in Sends W b c s sent) → sent ≡ more → IsErr r → Sends W a c r (flat_map f xs)
held_stop {W = W} {a = a} {c = c} {r = r} f xs i x d held more sent h e before line sends all failed =
    let rest = flat_map f (drop (i + 1) xs) in
    let members : take (i + 1) xs ≡ take i xs ++ (x ∷ []) = take_more xs i d h ∙ ap (λ y. take i xs ++ y ∷ []) (sym e) in
    let front : before.0 ++ sent ≡ flat_map f (take (i + 1) xs) =
    ap (λ t. before.0 ++ t) (all ∙ line) ∙ sym (append_assoc before.0 held (f x)) ∙ ap (λ t. t ++ f x) before.2
    ∙ sym (ap (flat_map f) members ∙ flat_map-append f (take i xs) (x ∷ []) ∙ ap (λ t. flat_map f (take i xs) ++ t) (append-nil (f x))) in
    let P : List ℕ → Type 0 = λ text. Sends W a c r text in
    subst P (held_front f xs (i + 1) before.0 sent front) (sends_then before.1 (sends_stop rest sends failed))

-- what is held at last was sent, or a front of it
pub held_last : {S X U F : Type 0} {W : sink.Ghosts S} {a b c : S} {r : Result U F} (f : X → List ℕ) (xs : List X) (i : ℕ) (held : List ℕ)
    → length xs ≤ i → IsHeld W a b held (flat_map f (take i xs)) → Sends W b c r held → Sends W a c r (flat_map f xs)
held_last {W = W} {a = a} {c = c} {r = r} f xs i held h before sends =
    let P : List ℕ → Type 0 = λ text. Sends W a c r text in
    subst P (before.2 ∙ ap (flat_map f) (take_all i xs h)) (sends_then before.1 sends)
