-- An item is its extents' texts joined.
use Rattle.std.proofs.Common.{◌≡◌, ℕ, ◌≤◌, cond, ltb, List, [], ◌∷◌, ◌++◌, length, Result, Ok, Err, ap, sym, ◌∙◌, arith, length-append, subst, append_assoc, append-nil}
use Rattle.std.proofs.lemmas.Bool.{le-ltb, ltb-false}
use Rattle.exif_types.specs.Refusals.{Refusal}
use Rattle.exif_isobmff.specs.HeifRefusals.{data_too_large}
use Rattle.exif_isobmff.specs.declared.locations.Extent.{Extent}
use Rattle.exif_isobmff.specs.ItemLocations.{gathered}
use Rattle.exif_isobmff.specs.LocationGrammar.{AreTexts, joined_texts, ItemIsJoined, IsAnItem}
use Rattle.exif_isobmff.proofs.SplitterBoxes.{bind_ok, ok_same}
use Rattle.exif_isobmff.proofs.LawsSteps.{then_ok, unless-ok}

gathered-more : (bytes_of : Extent → Result (List ℕ) Refusal) (front : List ℕ) (es : List Extent) (texts : List (List ℕ)) → AreTexts bytes_of es texts
    → length (front ++ joined_texts texts) ≤ 65535 → gathered bytes_of front es ≡ Ok (front ++ joined_texts texts)
gathered-more bytes_of front [] [] h most = ap (λ t. ok t) (sym (append-nil front))
  where
    ok : List ℕ → Result (List ℕ) Refusal
    ok t = Ok t
gathered-more bytes_of front [] (t ∷ texts) h most = absurd h
gathered-more bytes_of front (e ∷ es) [] h most = absurd h
gathered-more bytes_of front (e ∷ es) (text ∷ texts) h most =
    let same : (front ++ text) ++ joined_texts texts ≡ front ++ (text ++ joined_texts texts) = append_assoc front text (joined_texts texts) in
    let total : length ((front ++ text) ++ joined_texts texts) ≡ length (front ++ (text ++ joined_texts texts)) = ap (λ (t : List ℕ). length t) same in
    let room : length (front ++ text) ≤ 65535 = omega (arith, length-append (front ++ text) (joined_texts texts)) in
    then_ok (bytes_of e) text (λ bytes. cond (ltb 65535 (length (front ++ bytes))) (Err data_too_large) (gathered bytes_of (front ++ bytes) es)) h.0
    ∙ ap (λ t. cond t (Err data_too_large) (gathered bytes_of (front ++ text) es)) (le-ltb 65535 (length (front ++ text)) room)
    ∙ gathered-more bytes_of (front ++ text) es texts h.1 (omega arith)
    ∙ ap (λ t. ok t) same
  where
    ok : List ℕ → Result (List ℕ) Refusal
    ok t = Ok t

-- an item is its extents' texts, joined
pub item_is_joined : (bytes_of : Extent → Result (List ℕ) Refusal) (es : List Extent) (texts : List (List ℕ)) → ItemIsJoined bytes_of es texts
item_is_joined bytes_of es texts h most = gathered-more bytes_of [] es texts h most

record Gathered (bytes_of : Extent → Result (List ℕ) Refusal) (front : List ℕ) (es : List Extent) (item : List ℕ) : Type 0 where
  texts : List (List ℕ)
  are : AreTexts bytes_of es texts
  most : length (front ++ joined_texts texts) ≤ 65535
  whole : front ++ joined_texts texts ≡ item

gathered-from : (bytes_of : Extent → Result (List ℕ) Refusal) (front : List ℕ) (es : List Extent) (item : List ℕ) → length front ≤ 65535
    → gathered bytes_of front es ≡ Ok item → Gathered bytes_of front es item
gathered-from bytes_of front [] item room e = record {
  texts = [];
  are = tt;
  most = omega (arith, length-append front (joined_texts []));
  whole = append-nil front ∙ ok_same e;
}
gathered-from bytes_of front (x ∷ es) item room e =
    let b = bind_ok (bytes_of x) (λ bytes. cond (ltb 65535 (length (front ++ bytes))) (Err data_too_large) (gathered bytes_of (front ++ bytes) es)) item e in
    let u = unless-ok (ltb 65535 (length (front ++ b.0))) data_too_large (gathered bytes_of (front ++ b.0) es) item b.2 in
    let g = gathered-from bytes_of (front ++ b.0) es item (ltb-false 65535 (length (front ++ b.0)) u.0) u.1 in
    let same : (front ++ b.0) ++ joined_texts g.texts ≡ front ++ (b.0 ++ joined_texts g.texts) = append_assoc front b.0 (joined_texts g.texts) in
    record {
      texts = b.0 ∷ g.texts;
      are = (b.1, g.are);
      most = subst (λ (t : List ℕ). length t ≤ 65535) same g.most;
      whole = sym same ∙ g.whole;
    }

-- an item that is read is such texts
pub is_an_item : (bytes_of : Extent → Result (List ℕ) Refusal) (es : List Extent) (item : List ℕ) → IsAnItem bytes_of es item
is_an_item bytes_of es item e = let g = gathered-from bytes_of [] es item (omega arith) e in (g.texts, g.are, g.most, g.whole)
