-- What holds of packets whose locations were erased.
use Rattle.std.proofs.Common.{◌≡◌, ℕ, zero, suc, ◌+◌, ◌-◌, ◌<◌, ◌≤◌, Bool, true, false, cond, List, [], ◌∷◌, ◌++◌, length, take, drop, replicate, Result, Ok, Err, refl, ap, sym, ◌∙◌, arith, inl, inr, eqb, subst, length-drop, length-append}
use Rattle.std.proofs.lemmas.Bool.{eqb-true}
use Rattle.std.proofs.lemmas.List.{drop_at, length-replicate, length-take-le, take-append-drop}
use Rattle.std.specs.List.{AllByRecursion}
use Rattle.exif_locations.specs.declared.xmp.fault.Fault.{Fault}
use Rattle.exif_locations.specs.declared.xmp.fault.Fault.TheVariants.{Cut}
use Rattle.exif_locations.specs.declared.xmp.step.State.{State}
use Rattle.exif_locations.specs.declared.xmp.step.Step.{Step}
use Rattle.exif_locations.specs.XmpTokens.{content_at, tag_at}
use Rattle.exif_locations.specs.XmpErasing.{◌>>=◌, behind, chunk, either, erased_by, found_by, may_end, step_at, to}
use Rattle.exif_locations.specs.XmpPieces.{Piece, between, inside, depth_after, goes, mode_after, names_location, onto, piece_at, piece_bytes, pieces_by, space, spaced, spaces, is_in_tag}
use Rattle.exif_locations.specs.Spaced.{IsSpaced}
use Rattle.exif_locations.proofs.XmpAgreeing.{Agree, agree_front, agree_take, chosen}
use Rattle.exif_locations.proofs.XmpStepSteps.{bind_ok, step_token}
use Rattle.exif_locations.proofs.XmpTokenSteps.{content_token, ok_same, tag_token}
use Rattle.exif_locations.proofs.XmpWalkSteps.{bind_same, erased_any, erased_end, erased_step, shorter}
use Rattle.exif_locations.proofs.XmpPieceSteps.{IsOver, outer_tag, over}

-- ---- tokens, one after another

-- a token has a byte, and no more than its input
piece_some : (in_tag : Bool) (a : List ℕ) (p : Piece) → 0 < length a → piece_at in_tag a ≡ Ok p → (0 < length (piece_bytes p)) × (length (piece_bytes p) ≤ length a)
unfolding piece_at
piece_some true a p h e =
    let o = bind_ok (tag_at a) (λ t. Ok (inside t.kind (take t.len a))) p e in
    let r = tag_token a o.0 h o.1 in
    let some : 0 < o.0.len = r.some in
    let within : o.0.len ≤ length a = r.within in
    let l : length (piece_bytes p) ≡ o.0.len = ap (λ q. length (piece_bytes q)) (sym (ok_same o.2)) ∙ length-take-le o.0.len a within in
    (omega arith, omega arith)
piece_some false a p h e =
    let o = bind_ok (content_at a) (λ t. Ok (between t.kind (take t.len a))) p e in
    let r = content_token a o.0 h o.1 in
    let some : 0 < o.0.len = r.some in
    let within : o.0.len ≤ length a = r.within in
    let l : length (piece_bytes p) ≡ o.0.len = ap (λ q. length (piece_bytes q)) (sym (ok_same o.2)) ∙ length-take-le o.0.len a within in
    (omega arith, omega arith)

fewer : (in_tag : Bool) (a : List ℕ) (p : Piece) (n : ℕ) → 0 < length a → length a ≤ suc n → piece_at in_tag a ≡ Ok p → length (drop (length (piece_bytes p)) a) ≤ n
fewer in_tag a p n h l e =
    let r = piece_some in_tag a p h e in
    let some : 0 < length (piece_bytes p) = r.0 in
    let d : length (drop (length (piece_bytes p)) a) ≡ length a - length (piece_bytes p) = length-drop (length (piece_bytes p)) a in
    omega arith

pieces_any : (n k : ℕ) (in_tag : Bool) (a : List ℕ) → length a ≤ n → length a ≤ k → pieces_by n in_tag a ≡ pieces_by k in_tag a
unfolding pieces_by
pieces_any zero zero b [] h l = refl
pieces_any zero (suc k) b [] h l = refl
pieces_any (suc n) zero b [] h l = refl
pieces_any (suc n) (suc k) b [] h l = refl
pieces_any zero k b (x ∷ xs) h l = absurd (omega arith)
pieces_any (suc n) zero b (x ∷ xs) h l = absurd (omega arith)
pieces_any (suc n) (suc k) b (x ∷ xs) h l =
    bind_same (piece_at b (x ∷ xs)) (λ p. onto p (pieces_by n (mode_after p) (drop (length (piece_bytes p)) (x ∷ xs)))) (λ p. onto p (pieces_by k (mode_after p) (drop (length (piece_bytes p)) (x ∷ xs))))
    (λ p e. ap (onto p) (pieces_any n k (mode_after p) (drop (length (piece_bytes p)) (x ∷ xs)) (fewer b (x ∷ xs) p n (omega arith) h e) (fewer b (x ∷ xs) p k (omega arith) l e)))

pieces_step : (k : ℕ) (in_tag : Bool) (a : List ℕ) (p : Piece) → 0 < length a → length a ≤ k → piece_at in_tag a ≡ Ok p → pieces_by k in_tag a ≡ onto p (pieces_by (length (drop (length (piece_bytes p)) a)) (mode_after p) (drop (length (piece_bytes p)) a))
unfolding pieces_by
pieces_step k b [] p h l e = absurd (omega arith)
pieces_step zero b (x ∷ xs) p h l e = absurd (omega arith)
pieces_step (suc k) b (x ∷ xs) p h l e =
    ap (λ r. r >>= λ p. onto p (pieces_by k (mode_after p) (drop (length (piece_bytes p)) (x ∷ xs)))) e
    ∙ ap (onto p) (pieces_any k (length (drop (length (piece_bytes p)) (x ∷ xs))) (mode_after p) (drop (length (piece_bytes p)) (x ∷ xs)) (fewer b (x ∷ xs) p k h l e) (omega arith))

-- ---- spaces

top : Bool → State
top in_tag = record { in_tag = in_tag; depth = 0 }

space_step : (o : Bool) (xs : List ℕ) → step_at (top o) (32 ∷ xs) ≡ Ok (to o 0 1 false)
unfolding top step_at tag_at content_at
space_step true xs = refl
space_step false xs = refl

space_piece : (o : Bool) (xs : List ℕ) → piece_at o (32 ∷ xs) ≡ Ok (space o)
unfolding piece_at tag_at content_at
space_piece true xs = refl
space_piece false xs = refl

space_text : (o : Bool) → length (piece_bytes (space o)) ≡ 1
space_text true = refl
space_text false = refl

space_mode : (o : Bool) → mode_after (space o) ≡ o
space_mode true = refl
space_mode false = refl

-- spaces before what stays stay
spaces_stay : (n : ℕ) (o : Bool) (rest : List ℕ) → erased_by (length rest) (top o) rest ≡ Ok rest → erased_by (length (replicate n 32 ++ rest)) (top o) (replicate n 32 ++ rest) ≡ Ok (replicate n 32 ++ rest)
unfolding top
spaces_stay zero o rest e = e
spaces_stay (suc n) o rest e =
    let xs : List ℕ = replicate n 32 ++ rest in
    let a : List ℕ = 32 ∷ xs in
    erased_step (length a) (top o) a (to o 0 1 false) (omega arith) (omega arith) (space_step o xs) ∙ ap (behind (32 ∷ [])) (spaces_stay n o rest e)

-- spaces are tokens, one each
spaces_read : (n : ℕ) (o : Bool) (rest : List ℕ) (ps : List Piece) → pieces_by (length rest) o rest ≡ Ok ps → pieces_by (length (replicate n 32 ++ rest)) o (replicate n 32 ++ rest) ≡ Ok (spaces o n ++ ps)
spaces_read zero o rest ps e = e
spaces_read (suc n) o rest ps e =
    let xs : List ℕ = replicate n 32 ++ rest in
    let a : List ℕ = 32 ∷ xs in
    pieces_step (length a) o a (space o) (omega arith) (omega arith) (space_piece o xs)
    ∙ ap (λ k. onto (space o) (pieces_by (length (drop k a)) (mode_after (space o)) (drop k a))) (space_text o)
    ∙ ap (λ b. onto (space o) (pieces_by (length xs) b xs)) (space_mode o)
    ∙ ap (onto (space o)) (spaces_read n o rest ps e)

abbrev pub AllFree : List Piece → Type 0
AllFree ps = AllByRecursion (λ p. names_location p ≡ false) ps

space_free : (o : Bool) → names_location (space o) ≡ false
space_free true = refl
space_free false = refl

spaces_free : (n : ℕ) (o : Bool) (ps : List Piece) → AllFree ps → AllFree (spaces o n ++ ps)
spaces_free zero o ps h = h
spaces_free (suc n) o ps h = (space_free o, spaces_free n o ps h)

-- ---- bytes that are as they were, or spaces

spaced_same : (a : List ℕ) → IsSpaced a a
spaced_same [] = tt
spaced_same (x ∷ a) = (inl refl, spaced_same a)

spaced_blank : (a : List ℕ) (n : ℕ) → length a ≡ n → IsSpaced a (replicate n 32)
spaced_blank [] zero e = tt
spaced_blank [] (suc n) e = absurd (omega arith)
spaced_blank (x ∷ a) zero e = absurd (omega arith)
spaced_blank (x ∷ a) (suc n) e = (inr refl, spaced_blank a n (omega arith))

spaced_both : (a b c d : List ℕ) → IsSpaced a b → IsSpaced c d → IsSpaced (a ++ c) (b ++ d)
spaced_both [] [] c d h l = l
spaced_both [] (y ∷ b) c d h l = absurd h
spaced_both (x ∷ a) [] c d h l = absurd h
spaced_both (x ∷ a) (y ∷ b) c d h l = (h.0, spaced_both a b c d h.1 l)

-- ---- all of it, behind a state

pub record Holds (in_tag : Bool) (depth : ℕ) (input out : List ℕ) : Type 0 where
  pub len : length out ≡ length input
  pub bytes : IsSpaced input out
  pub again : erased_by (length out) (record { in_tag = outer_tag in_tag depth; depth = 0 }) out ≡ Ok out
  pub ps : List Piece
  pub read : pieces_by (length input) in_tag input ≡ Ok ps
  pub kept : pieces_by (length out) (outer_tag in_tag depth) out ≡ Ok (spaced depth ps)
  pub free : AllFree (spaced depth ps)

-- the tokens behind one
read_on : (in_tag : Bool) (a b : List ℕ) (n : ℕ) (mode : Bool) (p : Piece) (ps : List Piece) → 0 < length a → piece_at in_tag a ≡ Ok p → length (piece_bytes p) ≡ n → mode_after p ≡ mode → drop n a ≡ b → pieces_by (length b) mode b ≡ Ok ps → pieces_by (length a) in_tag a ≡ Ok (p ∷ ps)
read_on in_tag a b n mode p ps h e l m d o =
    pieces_step (length a) in_tag a p h (omega arith) e
    ∙ ap (λ k. onto p (pieces_by (length (drop k a)) (mode_after p) (drop k a))) l
    ∙ ap (λ z. onto p (pieces_by (length z) (mode_after p) z)) d
    ∙ ap (λ z. onto p (pieces_by (length b) z b)) m
    ∙ ap (onto p) o

-- how a token that goes is spaced
spaced_going : (depth : ℕ) (p : Piece) (ps : List Piece) (o : Bool) (n next : ℕ) → goes depth p ≡ true → is_in_tag depth p ≡ o → length (piece_bytes p) ≡ n → depth_after depth p ≡ next → spaced depth (p ∷ ps) ≡ spaces o n ++ spaced next ps
spaced_going depth p ps o n next g s l d =
    ap (λ b. cond b (spaces (is_in_tag depth p) (length (piece_bytes p))) (p ∷ []) ++ spaced (depth_after depth p) ps) g
    ∙ ap (λ b. spaces b (length (piece_bytes p)) ++ spaced (depth_after depth p) ps) s
    ∙ ap (λ k. spaces o k ++ spaced (depth_after depth p) ps) l
    ∙ ap (λ k. spaces o n ++ spaced k ps) d

-- how one that stays is
spaced_staying : (depth : ℕ) (p : Piece) (ps : List Piece) (next : ℕ) → goes depth p ≡ false → depth_after depth p ≡ next → spaced depth (p ∷ ps) ≡ p ∷ spaced next ps
spaced_staying depth p ps next g d =
    ap (λ b. cond b (spaces (is_in_tag depth p) (length (piece_bytes p))) (p ∷ []) ++ spaced (depth_after depth p) ps) g
    ∙ ap (λ k. p ∷ spaced k ps) d

after_blank : (in_tag : Bool) (depth : ℕ) (a rest : List ℕ) (t : Step) → 0 < length a → t.len ≤ length a → IsOver in_tag depth a t → t.blank ≡ true → Holds t.state.in_tag t.state.depth (drop t.len a) rest → Holds in_tag depth a (replicate t.len 32 ++ rest)
unfolding top
after_blank in_tag depth a rest t h w v b r =
    let o : Bool = outer_tag in_tag depth in
    let e : o ≡ outer_tag t.state.in_tag t.state.depth = v.does.outer b in
    let g : goes depth v.p ≡ true = v.does.going ∙ b in
    let eq : spaced depth (v.p ∷ r.ps) ≡ spaces o t.len ++ spaced t.state.depth r.ps = spaced_going depth v.p r.ps o t.len t.state.depth g v.does.stands v.long v.does.deep in
    record {
      len = length-append (replicate t.len 32) rest ∙ ap (λ n. n + length rest) (length-replicate t.len 32) ∙ (let q = r.len in let d : length (drop t.len a) ≡ length a - t.len = length-drop t.len a in omega arith);
      bytes = subst (λ z. IsSpaced z (replicate t.len 32 ++ rest)) (take-append-drop t.len a) (spaced_both (take t.len a) (replicate t.len 32) (drop t.len a) rest (spaced_blank (take t.len a) t.len (length-take-le t.len a w)) r.bytes);
      again = spaces_stay t.len o rest (subst (λ z. erased_by (length rest) (top z) rest ≡ Ok rest) (sym e) r.again);
      ps = v.p ∷ r.ps;
      read = read_on in_tag a (drop t.len a) t.len t.state.in_tag v.p r.ps h v.here v.long v.does.mode refl r.read;
      kept = spaces_read t.len o rest (spaced t.state.depth r.ps) (subst (λ z. pieces_by (length rest) z rest ≡ Ok (spaced t.state.depth r.ps)) (sym e) r.kept) ∙ ap Ok (sym eq);
      free = subst AllFree (sym eq) (spaces_free t.len o (spaced t.state.depth r.ps) r.free);
    }

after_kept : (in_tag : Bool) (a rest : List ℕ) (t : Step) → 0 < length a → t.len ≤ length a → step_at (record { in_tag = in_tag; depth = 0 }) a ≡ Ok t → IsOver in_tag 0 a t → t.blank ≡ false → t.state.depth ≡ 0 → Holds t.state.in_tag 0 (drop t.len a) rest → Holds in_tag 0 a (take t.len a ++ rest)
unfolding top
after_kept in_tag a rest t h w s v b z r =
    let out : List ℕ = take t.len a ++ rest in
    let tok = step_token (top in_tag) a t h s in
    let some : 0 < t.len = tok.some in
    let ag : Agree t.len a out = agree_take t.len a rest w in
    let lt : length (take t.len a) ≡ t.len = length-take-le t.len a w in
    let dr : drop t.len out ≡ rest = drop_at (take t.len a) rest t.len lt in
    let n : t.len ≤ t.len = omega arith in
    let lo : length out ≡ length (take t.len a) + length rest = length-append (take t.len a) rest in
    let long : 0 < length out = omega arith in
    let g : goes 0 v.p ≡ false = v.does.going ∙ b in
    let eq : spaced 0 (v.p ∷ r.ps) ≡ v.p ∷ spaced 0 r.ps = spaced_staying 0 v.p r.ps 0 g (v.does.deep ∙ z) in
    record {
      len = lo ∙ (let q = r.len in let d : length (drop t.len a) ≡ length a - t.len = length-drop t.len a in omega arith);
      bytes = subst (λ y. IsSpaced y out) (take-append-drop t.len a) (spaced_both (take t.len a) (take t.len a) (drop t.len a) rest (spaced_same (take t.len a)) r.bytes);
      again =
          erased_step (length out) (top in_tag) out t long (omega arith) (tok.same out ag)
          ∙ ap (λ y. behind (chunk t out) (erased_by (length y) t.state y)) dr
          ∙ ap (λ k. behind (chunk t out) (erased_by (length rest) (record { in_tag = t.state.in_tag; depth = k }) rest)) z
          ∙ ap (behind (chunk t out)) r.again
          ∙ ap (λ y. Ok (cond y (replicate t.len 32) (take t.len out) ++ rest)) b
          ∙ ap (λ y. Ok (y ++ rest)) (sym (agree_front t.len t.len a out n ag));
      ps = v.p ∷ r.ps;
      read = read_on in_tag a (drop t.len a) t.len t.state.in_tag v.p r.ps h v.here v.long v.does.mode refl r.read;
      kept = read_on in_tag out rest t.len t.state.in_tag v.p (spaced 0 r.ps) long (v.again out ag) v.long v.does.mode dr r.kept ∙ ap Ok (sym eq);
      free = subst AllFree (sym eq) (g, r.free);
    }

behind_ok : (c : List ℕ) (r : Result (List ℕ) Fault) (out : List ℕ) → behind c r ≡ Ok out → (rest : List ℕ) × (r ≡ Ok rest) × (c ++ rest ≡ out)
behind_ok c (Ok rest) out e = (rest, refl, ok_same e)
behind_ok c (Err d) out e = absurd cc

-- the first step of a packet that is erased
pub record First (s : State) (a out : List ℕ) : Type 0 where
  pub t : Step
  pub step : step_at s a ≡ Ok t
  pub rest : List ℕ
  pub more : erased_by (length (drop t.len a)) t.state (drop t.len a) ≡ Ok rest
  pub is : chunk t a ++ rest ≡ out

first : (s : State) (b : ℕ) (bs out : List ℕ) → erased_by (length (b ∷ bs)) s (b ∷ bs) ≡ Ok out → First s (b ∷ bs) out
unfolding erased_by
first s b bs out e =
    let o = bind_ok (step_at s (b ∷ bs)) (λ t. behind (chunk t (b ∷ bs)) (erased_by (length bs) t.state (drop t.len (b ∷ bs)))) out e in
    let r = behind_ok (chunk o.0 (b ∷ bs)) (erased_by (length bs) o.0.state (drop o.0.len (b ∷ bs))) out o.2 in
    record {
      t = o.0;
      step = o.1;
      rest = r.0;
      more = erased_any (length (drop o.0.len (b ∷ bs))) (length bs) o.0.state (drop o.0.len (b ∷ bs)) (omega arith) (shorter s (b ∷ bs) o.0 (length bs) (omega arith) (omega arith) o.1) ∙ r.1;
      is = r.2;
    }

ended : (in_tag : Bool) (depth : ℕ) (out : List ℕ) → cond (may_end (record { in_tag = in_tag; depth = depth })) (Ok []) (Err Cut) ≡ Ok out → (in_tag ≡ false) × (depth ≡ 0) × (out ≡ [])
ended true depth out e = absurd cc
ended false depth out e =
    elim (chosen (eqb depth 0) e)
    [ inl w ↦ (refl, eqb-true depth 0 w.0, sym (ok_same w.1)) | inr w ↦ absurd (let v = w.1 in cc) ]

nothing : Holds false 0 [] []
unfolding erased_by pieces_by
nothing = record { len = refl; bytes = tt; again = refl; ps = []; read = refl; kept = refl; free = tt }

pub holds : (n : ℕ) (in_tag : Bool) (depth : ℕ) (a out : List ℕ) → length a ≤ n → erased_by (length a) (record { in_tag = in_tag; depth = depth }) a ≡ Ok out → Holds in_tag depth a out
holds n in_tag depth [] out l e =
    let q = ended in_tag depth out (sym (erased_end 0 (record { in_tag = in_tag; depth = depth })) ∙ e) in
    subst (λ x. Holds x depth [] out) (sym q.0) (subst (λ x. Holds false x [] out) (sym q.1) (subst (λ x. Holds false 0 [] x) (sym q.2) nothing))
holds zero in_tag depth (b ∷ bs) out l e = absurd (omega arith)
holds (suc n) in_tag depth (b ∷ bs) out l e =
    let a : List ℕ = b ∷ bs in
    let s : State = record { in_tag = in_tag; depth = depth } in
    let f = first s b bs out e in
    let t = f.t in
    let h : 0 < length a = omega arith in
    let w : t.len ≤ length a = (step_token s a t h f.step).within in
    let v = over in_tag depth a t h f.step in
    let r = holds n t.state.in_tag t.state.depth (drop t.len a) f.rest (shorter s a t n h l f.step) f.more in
    subst (λ x. Holds in_tag depth a x) f.is (by_blank in_tag depth a f.rest t h w f.step v r t.blank refl)
  where
    by_blank : (in_tag : Bool) (depth : ℕ) (a rest : List ℕ) (t : Step) → 0 < length a → t.len ≤ length a → step_at (record { in_tag = in_tag; depth = depth }) a ≡ Ok t → IsOver in_tag depth a t → Holds t.state.in_tag t.state.depth (drop t.len a) rest → (x : Bool) → t.blank ≡ x → Holds in_tag depth a (chunk t a ++ rest)
    by_blank in_tag depth a rest t h w s v r true b =
        subst (λ x. Holds in_tag depth a (cond x (replicate t.len 32) (take t.len a) ++ rest)) (sym b) (after_blank in_tag depth a rest t h w v b r)
    by_blank in_tag depth a rest t h w s v r false b =
        let q = v.does.top b in
        subst (λ x. Holds in_tag depth a (cond x (replicate t.len 32) (take t.len a) ++ rest)) (sym b)
        (at_top in_tag depth a rest t h w s v b q.1 (subst (λ k. Holds t.state.in_tag k (drop t.len a) rest) q.1 r) q.0)
      where
        at_top : (in_tag : Bool) (depth : ℕ) (a rest : List ℕ) (t : Step) → 0 < length a → t.len ≤ length a → step_at (record { in_tag = in_tag; depth = depth }) a ≡ Ok t → IsOver in_tag depth a t → t.blank ≡ false → t.state.depth ≡ 0 → Holds t.state.in_tag 0 (drop t.len a) rest → depth ≡ 0 → Holds in_tag depth a (take t.len a ++ rest)
        at_top in_tag zero a rest t h w s v b z r q = after_kept in_tag a rest t h w s v b z r
        at_top in_tag (suc d) a rest t h w s v b z r q = absurd (omega arith)

either_false : (f : Bool) (x : Result Bool Fault) → either f x ≡ Ok false → (f ≡ false) × (x ≡ Ok false)
either_false true (Ok m) e = absurd cc
either_false false (Ok m) e = (refl, e)
either_false f (Err d) e = absurd cc

-- a token that stays, where all behind it stays
others_on : (n : ℕ) (s : State) (b : ℕ) (bs : List ℕ) (t : Step) → length (b ∷ bs) ≤ suc n → step_at s (b ∷ bs) ≡ Ok t → t.blank ≡ false → erased_by n t.state (drop t.len (b ∷ bs)) ≡ Ok (drop t.len (b ∷ bs)) → erased_by (suc n) s (b ∷ bs) ≡ Ok (b ∷ bs)
unfolding erased_by
others_on n s b bs t l e k r =
    ap (λ x. x >>= λ t. behind (chunk t (b ∷ bs)) (erased_by n t.state (drop t.len (b ∷ bs)))) e
    ∙ ap (behind (chunk t (b ∷ bs))) r
    ∙ ap (λ y. Ok (cond y (replicate t.len 32) (take t.len (b ∷ bs)) ++ drop t.len (b ∷ bs))) k
    ∙ ap Ok (take-append-drop t.len (b ∷ bs))

rests_so : (r : Bool) → cond {A = Result Bool Fault} r (Ok false) (Err Cut) ≡ Ok false → cond {A = Result (List ℕ) Fault} r (Ok []) (Err Cut) ≡ Ok []
rests_so true e = refl
rests_so false e = absurd cc

-- where nothing is found all stays
pub others : (n : ℕ) (s : State) (a : List ℕ) → length a ≤ n → found_by n s a ≡ Ok false → erased_by n s a ≡ Ok a
unfolding found_by erased_by
others zero s [] l e = rests_so (may_end s) e
others (suc n) s [] l e = rests_so (may_end s) e
others zero s (b ∷ bs) l e = absurd (omega arith)
others (suc n) s (b ∷ bs) l e =
    let o = bind_ok (step_at s (b ∷ bs)) (λ t. either t.blank (found_by n t.state (drop t.len (b ∷ bs)))) false e in
    others_on n s b bs o.0 l o.1 (either_false o.0.blank (found_by n o.0.state (drop o.0.len (b ∷ bs))) o.2).0
    (others n o.0.state (drop o.0.len (b ∷ bs)) (shorter s (b ∷ bs) o.0 n (omega arith) l o.1) (either_false o.0.blank (found_by n o.0.state (drop o.0.len (b ∷ bs))) o.2).1)
