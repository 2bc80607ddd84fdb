-- What no extent has, stretch after stretch.
use Rattle.std.proofs.Common.{◌≡◌, ◌<◌, ◌≤◌, ◌-◌, ℕ, zero, suc, Bool, true, false, cond, ltb, min, List, [], ◌∷◌, ◌++◌, refl, ap, sym, ◌∙◌, subst, arith, append_assoc}
use Rattle.std.proofs.lemmas.Bool.Decides.{nat_tests}
use Rattle.exif_inventory_heif.specs.Carving.{may_hold}
use Rattle.exif_inventory_heif.specs.Gaps.{gaps_from, next_at, next_of, reach_of, span_gaps, stretch_at, unused_at}
use Rattle.exif_inventory_heif.specs.declared.extents.Extent.{Extent}
use Rattle.exif_inventory_heif.specs.declared.gaps.Stretch.{Stretch}
use Rattle.exif_inventory_heif.specs.declared.span.Span.{Span}

near_ahead : (t : Bool) (at near from : ℕ) → (t ≡ true → at < from) → at < near → at < cond t (min near from) near
near_ahead true at near from h l = let f = h refl in omega arith
near_ahead false at near from h l = l

one_ahead : (at near : ℕ) (e : Extent) → at < near → at < next_at at near e
one_ahead at near e l = near_ahead (ltb at e.from) at near e.from (λ t. grind (arith, nat_tests)) l

next_ahead : (at near : ℕ) (es : List Extent) → at < near → at < next_of at near es
next_ahead at near [] l = l
next_ahead at near (e ∷ es) l = next_ahead at (next_at at near e) es (one_ahead at near e l)

end_ahead : (t : Bool) (at reach next : ℕ) → (t ≡ true → at < reach) → at < next
    → at < (let s : Stretch = cond t (record { used = true; end = reach }) (record { used = false; end = next }) in s.end)
end_ahead true at reach next h l = h refl
end_ahead false at reach next h l = l

-- a stretch has a byte
stretch_ahead : (at end : ℕ) (es : List Extent) → at < end → at < (stretch_at at end es).end
stretch_ahead at end es l =
    end_ahead (ltb at (reach_of at at es)) at (reach_of at at es) (next_of at end es) (λ t. grind (arith, nat_tests)) (next_ahead at end es l)

gaps_if : (t : Bool) (file : List ℕ) (es : List Extent) (end n k at : ℕ)
    → (t ≡ true → gaps_from file es end n (stretch_at at end es).end ≡ gaps_from file es end k (stretch_at at end es).end)
    → cond t (unused_at file at (stretch_at at end es) ++ gaps_from file es end n (stretch_at at end es).end) []
    ≡ cond t (unused_at file at (stretch_at at end es) ++ gaps_from file es end k (stretch_at at end es).end) []
gaps_if true file es end n k at h = ap (λ gaps. unused_at file at (stretch_at at end es) ++ gaps) (h refl)
gaps_if false file es end n k at h = refl

none_if : (t : Bool) (some : List Extent) → t ≡ false → cond t some [] ≡ []
none_if true some h = absurd (cc)
none_if false some h = refl

some_if : (t : Bool) (some : List Extent) → t ≡ true → cond t some [] ≡ some
some_if true some h = refl
some_if false some h = absurd (cc)

-- no byte is left
pub gaps_over : (file : List ℕ) (es : List Extent) (end n at : ℕ) → end ≤ at → gaps_from file es end n at ≡ []
unfolding gaps_from
gaps_over file es end zero at h = refl
gaps_over file es end (suc n) at h = none_if (ltb at end) _ (grind (arith, nat_tests))

-- any bound that is large enough serves
gaps_any : (file : List ℕ) (es : List Extent) (end n k at : ℕ) → end - at ≤ n → end - at ≤ k
    → gaps_from file es end n at ≡ gaps_from file es end k at
unfolding gaps_from
gaps_any file es end zero k at h l = sym (gaps_over file es end k at (omega arith))
gaps_any file es end (suc n) zero at h l = gaps_over file es end (suc n) at (omega arith)
gaps_any file es end (suc n) (suc k) at h l =
    gaps_if (ltb at end) file es end n k at
    (λ t. let less : at < end = grind (arith, nat_tests) in
    let ahead = stretch_ahead at end es less in
    gaps_any file es end n k (stretch_at at end es).end (omega arith) (omega arith))

first_gap : (file : List ℕ) (es : List Extent) (end n at : ℕ) → at < end
    → gaps_from file es end (suc n) at ≡ unused_at file at (stretch_at at end es) ++ gaps_from file es end n (stretch_at at end es).end
unfolding gaps_from
first_gap file es end n at h = some_if (ltb at end) _ (grind (arith, nat_tests))

-- one stretch
pub gaps_on : (file : List ℕ) (es : List Extent) (end at : ℕ) → at < end
    → let s = stretch_at at end es in
    gaps_from file es end (end - at) at ≡ unused_at file at s ++ gaps_from file es end (end - s.end) s.end
gaps_on file es end at h =
    let s = stretch_at at end es in
    let ahead = stretch_ahead at end es h in
    gaps_any file es end (end - at) (suc (end - at - 1)) at (omega arith) (omega arith)
    ∙ first_gap file es end (end - at - 1) at h
    ∙ ap (λ gaps. unused_at file at s ++ gaps) (gaps_any file es end (end - at - 1) (end - s.end) s.end (omega arith) (omega arith))

none_behind : (found : List Extent) → found ++ [] ≡ found
none_behind [] = refl
none_behind (e ∷ found) = ap (λ more. e ∷ more) (none_behind found)

-- a stretch more
pub stretch_made : (file : List ℕ) (es : List Extent) (end at : ℕ) (found new all : List Extent) (s : Stretch) → at < end → s ≡ stretch_at at end es
    → new ≡ found ++ unused_at file at s → found ++ gaps_from file es end (end - at) at ≡ all
    → new ++ gaps_from file es end (end - s.end) s.end ≡ all
stretch_made file es end at found new all s h is made e =
    let one = gaps_on file es end at h in
    let by_stretch : gaps_from file es end (end - at) at ≡ unused_at file at s ++ gaps_from file es end (end - s.end) s.end =
    subst (λ (t : Stretch). gaps_from file es end (end - at) at ≡ unused_at file at t ++ gaps_from file es end (end - t.end) t.end) (sym is) one in
    ap (λ (gaps : List Extent). gaps ++ gaps_from file es end (end - s.end) s.end) made
    ∙ append_assoc found (unused_at file at s) (gaps_from file es end (end - s.end) s.end)
    ∙ ap (λ (gaps : List Extent). found ++ gaps) (sym by_stretch) ∙ e

-- all of a span
pub span_made : (file : List ℕ) (es : List Extent) (span : Span) (at : ℕ) (found old : List Extent) → may_hold span.role ≡ true → span.end ≤ at
    → found ++ gaps_from file es span.end (span.end - at) at ≡ old ++ gaps_from file es span.end (span.end - span.content) span.content
    → found ≡ old ++ span_gaps file es span
span_made file es span at found old holds over e =
    sym (none_behind found)
    ∙ ap (λ (gaps : List Extent). found ++ gaps) (sym (gaps_over file es span.end (span.end - at) at over))
    ∙ e ∙ ap (λ (gaps : List Extent). old ++ gaps) (sym (some_if (may_hold span.role) _ holds))
