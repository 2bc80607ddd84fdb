-- What becomes of tokens.
use Rattle.std.proofs.Common.{◌≡◌, ℕ, zero, suc, ◌+◌, ◌<◌, ◌≤◌, Bool, true, false, cond, List, length, Result, Ok, Err, IfOk, refl, ap, sym, ◌∙◌, arith, ◌||◌, subst}
use Rattle.exif_locations.specs.declared.xmp.fault.Fault.{Fault}
use Rattle.exif_locations.specs.declared.xmp.fault.Fault.TheVariants.{Unbalanced}
use Rattle.exif_locations.specs.declared.xmp.step.State.{State}
use Rattle.exif_locations.specs.declared.xmp.step.Step.{Step}
use Rattle.exif_locations.specs.declared.xmp.token.Content.{Content}
use Rattle.exif_locations.specs.declared.xmp.token.Content.TheVariants.{Text, Opens, Opened, Whole, Closes}
use Rattle.exif_locations.specs.declared.xmp.token.ContentToken.{ContentToken}
use Rattle.exif_locations.specs.declared.xmp.token.TagToken.{TagToken}
use Rattle.exif_locations.specs.declared.xmp.token.Within.{Within}
use Rattle.exif_locations.specs.declared.xmp.token.Within.TheVariants.{Space, Attribute, Ends, Shuts}
use Rattle.exif_locations.specs.XmpTokens.{content_at, tag_at}
use Rattle.exif_locations.specs.XmpErasing.{◌>>=◌, closes, content_step, is_deep, less, opens, step_at, tag_step, to}
use Rattle.exif_locations.proofs.XmpTokenSteps.{IsToken, content_token, ok_same, tag_token}

-- two steps that succeed, each
pub bind_ok : {A B : Type 0} (r : Result A Fault) (f : A → Result B Fault) (y : B) → (r >>= f) ≡ Ok y → (x : A) × (r ≡ Ok x) × (f x ≡ Ok y)
bind_ok (Ok x) f y e = (x, refl, e)
bind_ok (Err d) f y e = absurd cc

-- the lengths of steps are those of their tokens
pub tag_len : (depth : ℕ) (kind : Within) (len : ℕ) → (tag_step depth kind len).len ≡ len
tag_len depth Space len = refl
tag_len depth (Attribute p) len = refl
tag_len depth Ends len = refl
tag_len depth Shuts len = refl

closes_by : (d p : Bool) (x y z t : Step) (n : ℕ) → x.len ≡ n → z.len ≡ n → cond d (Ok x) (cond p (Err Unbalanced) (Ok z)) ≡ Ok t → t.len ≡ n
closes_by true p x y z t n a b e = sym (ap (λ (s : Step). s.len) (ok_same e)) ∙ a
closes_by false true x y z t n a b e = absurd cc
closes_by false false x y z t n a b e = sym (ap (λ (s : Step). s.len) (ok_same e)) ∙ b

closes_len : (depth len : ℕ) (p : Bool) (t : Step) → closes depth len p ≡ Ok t → t.len ≡ len
closes_len depth len p t e = closes_by (is_deep depth) p (to false (less depth) len true) (to false 0 len false) (to false 0 len false) t len refl refl e

pub content_len : (depth : ℕ) (kind : Content) (len : ℕ) (t : Step) → content_step depth kind len ≡ Ok t → t.len ≡ len
content_len depth Text len t e = sym (ap (λ (s : Step). s.len) (ok_same e))
content_len depth (Opens p) len t e = sym (ap (λ (s : Step). s.len) (ok_same e))
content_len depth (Opened p) len t e = sym (ap (λ (s : Step). s.len) (ok_same e))
content_len depth (Whole p) len t e = sym (ap (λ (s : Step). s.len) (ok_same e))
content_len depth (Closes p) len t e = closes_len depth len p t e

-- a step is seen in the bytes of its token alone
step_of : (in_tag : Bool) (depth : ℕ) (a : List ℕ) (t : Step) → 0 < length a → step_at (record { in_tag = in_tag; depth = depth }) a ≡ Ok t → IsToken (step_at (record { in_tag = in_tag; depth = depth })) t t.len a
unfolding step_at
step_of true depth a t h e =
    let o = bind_ok (tag_at a) (λ x. Ok (tag_step depth x.kind x.len)) t e in
    let r = tag_token a o.0 h o.1 in
    let l : t.len ≡ o.0.len = ap (λ (s : Step). s.len) (sym (ok_same o.2)) ∙ tag_len depth o.0.kind o.0.len in
    subst (λ n. IsToken (step_at (record { in_tag = true; depth = depth })) t n a) (sym l)
    (record { some = r.some; within = r.within; same = λ b g. ap (λ x. x >>= λ y. Ok (tag_step depth y.kind y.len)) (r.same b g) ∙ o.2 })
step_of false depth a t h e =
    let o = bind_ok (content_at a) (λ x. content_step depth x.kind x.len) t e in
    let r = content_token a o.0 h o.1 in
    let l : t.len ≡ o.0.len = content_len depth o.0.kind o.0.len t o.2 in
    subst (λ n. IsToken (step_at (record { in_tag = false; depth = depth })) t n a) (sym l)
    (record { some = r.some; within = r.within; same = λ b g. ap (λ x. x >>= λ y. content_step depth y.kind y.len) (r.same b g) ∙ o.2 })

pub step_token : (s : State) (a : List ℕ) (t : Step) → 0 < length a → step_at s a ≡ Ok t → IsToken (step_at s) t t.len a
step_token s a t h e = step_of s.in_tag s.depth a t h e

-- a step goes one deeper at most
pub deeper : (s : State) (a : List ℕ) (t : Step) → step_at s a ≡ Ok t → t.state.depth ≤ s.depth + 1
unfolding step_at
deeper s a t e = deep s.in_tag s.depth e
  where
    at_less : (depth : ℕ) → less depth ≤ depth
    at_less zero = omega arith
    at_less (suc depth) = omega arith

    tag_deep : (depth : ℕ) (kind : Within) (len : ℕ) → (tag_step depth kind len).state.depth ≤ depth + 1
    tag_deep depth Space len = omega arith
    tag_deep depth (Attribute p) len = omega arith
    tag_deep depth Ends len = omega arith
    tag_deep depth Shuts len = let l = at_less depth in omega arith

    one : (b : Bool) (depth : ℕ) → cond b (suc depth) 0 ≤ depth + 1
    one true depth = omega arith
    one false depth = omega arith

    depth_of : (x y : Step) (n : ℕ) → x ≡ y → x.state.depth ≤ n → y.state.depth ≤ n
    depth_of x y n e h = subst (λ z. z.state.depth ≤ n) e h

    closes_deep_by : (d p : Bool) (x z : Step) (n : ℕ) → x.state.depth ≤ n → z.state.depth ≤ n → cond d (Ok x) (cond p (Err Unbalanced) (Ok z)) ≡ Ok t → t.state.depth ≤ n
    closes_deep_by true p x z n a b e = depth_of x t n (ok_same e) a
    closes_deep_by false true x z n a b e = absurd cc
    closes_deep_by false false x z n a b e = depth_of z t n (ok_same e) b

    closes_deep : (depth len : ℕ) (p : Bool) → closes depth len p ≡ Ok t → t.state.depth ≤ depth + 1
    closes_deep depth len p e = closes_deep_by (is_deep depth) p (to false (less depth) len true) (to false 0 len false) (depth + 1) (let l = at_less depth in omega arith) (omega arith) e

    content_deep : (depth : ℕ) (kind : Content) (len : ℕ) → content_step depth kind len ≡ Ok t → t.state.depth ≤ depth + 1
    content_deep depth Text len e = depth_of (to false depth len (is_deep depth)) t (depth + 1) (ok_same e) (omega arith)
    content_deep depth (Opens p) len e = depth_of (opens true depth len (is_deep depth || p)) t (depth + 1) (ok_same e) (one (is_deep depth || p) depth)
    content_deep depth (Opened p) len e = depth_of (opens false depth len (is_deep depth || p)) t (depth + 1) (ok_same e) (one (is_deep depth || p) depth)
    content_deep depth (Whole p) len e = depth_of (to false depth len (is_deep depth || p)) t (depth + 1) (ok_same e) (omega arith)
    content_deep depth (Closes p) len e = closes_deep depth len p e

    deep : (b : Bool) (depth : ℕ) → step_at (record { in_tag = b; depth = depth }) a ≡ Ok t → t.state.depth ≤ depth + 1
    deep true depth e =
        let o = bind_ok (tag_at a) (λ x. Ok (tag_step depth x.kind x.len)) t e in
        depth_of (tag_step depth o.0.kind o.0.len) t (depth + 1) (ok_same o.2) (tag_deep depth o.0.kind o.0.len)
    deep false depth e =
        let o = bind_ok (content_at a) (λ x. content_step depth x.kind x.len) t e in
        content_deep depth o.0.kind o.0.len o.2

-- a token within a tag moves on
pub tag_moves : (a : List ℕ) (tok : TagToken) (depth : ℕ) (r : Step) → 0 < length a → tag_at a ≡ Ok tok → r ≡ tag_step depth tok.kind tok.len → (0 < r.len) × (r.len ≤ length a)
tag_moves a tok depth r h e q =
    let t = tag_token a tok h e in
    let l : r.len ≡ tok.len = ap (λ (s : Step). s.len) q ∙ tag_len depth tok.kind tok.len in
    let some : 0 < tok.len = t.some in
    let within : tok.len ≤ length a = t.within in
    (omega arith, omega arith)

-- and so does one between tags
pub content_moves : (a : List ℕ) (tok : ContentToken) (depth : ℕ) (r : Result Step Fault) → 0 < length a → content_at a ≡ Ok tok → r ≡ content_step depth tok.kind tok.len → IfOk r (λ t. 0 < t.len) × IfOk r (λ t. t.len ≤ length a)
content_moves a tok depth (Err e) h o q = (tt, tt)
content_moves a tok depth (Ok r) h o q =
    let t = content_token a tok h o in
    let l : r.len ≡ tok.len = content_len depth tok.kind tok.len r (sym q) in
    let some : 0 < tok.len = t.some in
    let within : tok.len ≤ length a = t.within in
    (omega arith, omega arith)
