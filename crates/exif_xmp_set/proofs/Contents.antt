-- Properties that compare alike say the same.
use Rattle.std.proofs.Common.{◌≡◌, ℕ, Bool, true, false, cond, List, [], ◌∷◌, length, Option, Some, None, refl, ap, sym, ◌∙◌, arith, ◌&&◌}
use Rattle.std.specs.Prelude.{map, not, ◌||◌}
use Rattle.std.specs.Str.{bytes_eq}
use Rattle.std.proofs.lemmas.Slice.Eq.{bytes_eq-Decides}
use Rattle.exif_xmp.specs.declared.property.Form.{Form}
use Rattle.exif_xmp.specs.declared.property.Form.TheVariants.{Text, Unread}
use Rattle.exif_xmp.specs.Properties.{PropertyView}
use Rattle.exif_xmp_set.specs.Contents.{Content, content_of, is_replaced, replaced_from, same_content, same_form, same_language, with_text_if}
use Rattle.exif_xmp_set.specs.Found.{is_named}

pub both : (a b : Bool) → (a && b) ≡ true → (a ≡ true) × (b ≡ true)
both true b e = (refl, e)
both false b e = absurd cc

pub bytes_same : (a b : List ℕ) → bytes_eq a b ≡ true → a ≡ b
bytes_same a b e = (bytes_eq-Decides a b).0 e

pub language_same : (a b : Option (List ℕ)) → same_language a b ≡ true → a ≡ b
language_same None None e = refl
language_same None (Some b) e = absurd cc
language_same (Some a) None e = absurd cc
language_same (Some a) (Some b) e = ap (λ (x : List ℕ). Some x) (bytes_same a b e)

pub form_same : (a b : Form) → same_form a b ≡ true → a ≡ b
form_same Text Text e = refl
form_same Text Unread e = absurd cc
form_same Unread Text e = absurd cc
form_same Unread Unread e = refl

unfoldable pub content : List ℕ → List ℕ → List ℕ → Option (List ℕ) → Form → Content
content n p t l f = record { namespace = n; path = p; text = t; language = l; form = f }

content_same : (p q : PropertyView) → same_content p q ≡ true → content_of p ≡ content_of q
unfolding content
content_same p q e =
    let a = both (bytes_eq p.namespace q.namespace && bytes_eq p.path q.path && bytes_eq p.text q.text) (same_language p.language q.language && same_form p.form q.form) e in
    let b = both (bytes_eq p.namespace q.namespace && bytes_eq p.path q.path) (bytes_eq p.text q.text) a.0 in
    let c = both (bytes_eq p.namespace q.namespace) (bytes_eq p.path q.path) b.0 in
    let d = both (same_language p.language q.language) (same_form p.form q.form) a.1 in
    ap (λ (x : List ℕ). content x p.path p.text p.language p.form) (bytes_same p.namespace q.namespace c.0)
    ∙ ap (λ (x : List ℕ). content q.namespace x p.text p.language p.form) (bytes_same p.path q.path c.1)
    ∙ ap (λ (x : List ℕ). content q.namespace q.path x p.language p.form) (bytes_same p.text q.text b.1)
    ∙ ap (λ x. content q.namespace q.path q.text x p.form) (language_same p.language q.language d.0)
    ∙ ap (λ x. content q.namespace q.path q.text q.language x) (form_same p.form q.form d.1)

chosen : (b c : Bool) → cond b c false ≡ true → (b ≡ true) × (c ≡ true)
chosen true c e = (refl, e)
chosen false c e = absurd cc

-- properties that pass the test have what those have whose text is replaced
pub says_replaced : (is_done : Bool) (namespace path text : List ℕ) (old new : List PropertyView) → is_replaced is_done namespace path text old new ≡ true → map content_of new ≡ replaced_from is_done namespace path text old
says_replaced d n p t [] [] e = refl
says_replaced d n p t [] (q ∷ qs) e = absurd cc
says_replaced d n p t (o ∷ os) [] e = absurd cc
says_replaced d n p t (o ∷ os) (q ∷ qs) e =
    let s = not d && is_named o n p in
    let w = chosen (same_content (with_text_if s t o) q) (is_replaced (d || s) n p t os qs) e in
    let head : content_of q ≡ content_of (with_text_if s t o) = sym (content_same (with_text_if s t o) q w.0) in
    let tail = says_replaced (d || s) n p t os qs w.1 in
    ap (λ (x : Content). x ∷ map content_of qs) head ∙ ap (λ (xs : List Content). content_of (with_text_if s t o) ∷ xs) tail

-- of two lists of different lengths one is longer
pub uneven : (is_done : Bool) (namespace path text : List ℕ) (old new : List PropertyView) → (length old ≡ length new → ⊥) → is_replaced is_done namespace path text old new ≡ false
uneven d n p t [] [] h = absurd (h refl)
uneven d n p t [] (q ∷ qs) h = refl
uneven d n p t (o ∷ os) [] h = refl
uneven d n p t (o ∷ os) (q ∷ qs) h =
    let s = not d && is_named o n p in
    step (same_content (with_text_if s t o) q) (is_replaced (d || s) n p t os qs) (uneven (d || s) n p t os qs (λ e. h (omega (arith, e))))
  where
    step : (b c : Bool) → c ≡ false → cond b c false ≡ false
    step true c e = e
    step false c e = refl
