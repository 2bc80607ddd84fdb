-- Steps of erasing, and the tokens that they are over.
use Rattle.std.proofs.Common.{◌≡◌, ℕ, zero, suc, ◌<◌, ◌≤◌, Bool, true, false, List, length, take, Ok, refl, ap, sym, ◌∙◌, arith, subst}
use Rattle.std.proofs.lemmas.List.{length-take-le}
use Rattle.exif_locations.specs.declared.xmp.step.Step.{Step}
use Rattle.exif_locations.specs.declared.xmp.token.Content.{Content}
use Rattle.exif_locations.specs.declared.xmp.token.Content.TheVariants.{Text, Opens, Opened, Whole, Closes}
use Rattle.exif_locations.specs.declared.xmp.token.Within.{Within}
use Rattle.exif_locations.specs.declared.xmp.token.Within.TheVariants.{Space, Attribute, Ends, Shuts}
use Rattle.exif_locations.specs.XmpTokens.{content_at, tag_at}
use Rattle.exif_locations.specs.XmpErasing.{◌>>=◌, content_step, step_at, tag_step}
use Rattle.exif_locations.specs.XmpPieces.{Piece, between, inside, depth_after, goes, mode_after, piece_at, piece_bytes, is_in_tag}
use Rattle.exif_locations.proofs.XmpAgreeing.{Agree, agree_front}
use Rattle.exif_locations.proofs.XmpStepSteps.{bind_ok, content_len, tag_len}
use Rattle.exif_locations.proofs.XmpTokenSteps.{content_token, ok_same, tag_token}

-- blanks are read within the tag that stays
abbrev pub outer_tag : Bool → ℕ → Bool
outer_tag in_tag zero = in_tag
outer_tag in_tag (suc depth) = false

outer_between : (depth : ℕ) → outer_tag false depth ≡ false
outer_between zero = refl
outer_between (suc depth) = refl

-- what a step does to a token
pub record Does (in_tag : Bool) (depth : ℕ) (p : Piece) (t : Step) : Type 0 where
  pub mode : mode_after p ≡ t.state.in_tag
  pub deep : depth_after depth p ≡ t.state.depth
  pub going : goes depth p ≡ t.blank
  pub outer : t.blank ≡ true → outer_tag in_tag depth ≡ outer_tag t.state.in_tag t.state.depth
  pub stands : is_in_tag depth p ≡ outer_tag in_tag depth
  pub top : t.blank ≡ false → (depth ≡ 0) × (t.state.depth ≡ 0)

does_tag : (depth : ℕ) (kind : Within) (len : ℕ) (input : List ℕ) → Does true depth (inside kind input) (tag_step depth kind len)
does_tag zero Space len input = record { mode = refl; deep = refl; going = refl; outer = λ e. refl; stands = refl; top = λ e. (refl, refl) }
does_tag zero (Attribute p) len input = record { mode = refl; deep = refl; going = refl; outer = λ e. refl; stands = refl; top = λ e. (refl, refl) }
does_tag zero Ends len input = record { mode = refl; deep = refl; going = refl; outer = λ e. absurd cc; stands = refl; top = λ e. (refl, refl) }
does_tag zero Shuts len input = record { mode = refl; deep = refl; going = refl; outer = λ e. absurd cc; stands = refl; top = λ e. (refl, refl) }
does_tag (suc d) Space len input = record { mode = refl; deep = refl; going = refl; outer = λ e. refl; stands = refl; top = λ e. absurd cc }
does_tag (suc d) (Attribute p) len input = record { mode = refl; deep = refl; going = refl; outer = λ e. refl; stands = refl; top = λ e. absurd cc }
does_tag (suc d) Ends len input = record { mode = refl; deep = refl; going = refl; outer = λ e. refl; stands = refl; top = λ e. absurd cc }
does_tag (suc d) Shuts len input = record { mode = refl; deep = refl; going = refl; outer = λ e. sym (outer_between d); stands = refl; top = λ e. absurd cc }

does_as : (in_tag : Bool) (depth : ℕ) (p : Piece) (x t : Step) → x ≡ t → Does in_tag depth p x → Does in_tag depth p t
does_as in_tag depth p x t e d = subst (λ y. Does in_tag depth p y) e d

does_content : (depth : ℕ) (kind : Content) (len : ℕ) (input : List ℕ) (t : Step) → content_step depth kind len ≡ Ok t → Does false depth (between kind input) t
does_content zero Text len input t e = does_as false zero (between Text input) _ t (ok_same e) (record { mode = refl; deep = refl; going = refl; outer = λ e. refl; stands = refl; top = λ e. (refl, refl) })
does_content zero (Opens true) len input t e = does_as false zero (between (Opens true) input) _ t (ok_same e) (record { mode = refl; deep = refl; going = refl; outer = λ e. refl; stands = refl; top = λ e. absurd cc })
does_content zero (Opens false) len input t e = does_as false zero (between (Opens false) input) _ t (ok_same e) (record { mode = refl; deep = refl; going = refl; outer = λ e. absurd cc; stands = refl; top = λ e. (refl, refl) })
does_content zero (Opened true) len input t e = does_as false zero (between (Opened true) input) _ t (ok_same e) (record { mode = refl; deep = refl; going = refl; outer = λ e. refl; stands = refl; top = λ e. absurd cc })
does_content zero (Opened false) len input t e = does_as false zero (between (Opened false) input) _ t (ok_same e) (record { mode = refl; deep = refl; going = refl; outer = λ e. absurd cc; stands = refl; top = λ e. (refl, refl) })
does_content zero (Whole p) len input t e = does_as false zero (between (Whole p) input) _ t (ok_same e) (record { mode = refl; deep = refl; going = refl; outer = λ e. refl; stands = refl; top = λ e. (refl, refl) })
does_content zero (Closes true) len input t e = absurd cc
does_content zero (Closes false) len input t e = does_as false zero (between (Closes false) input) _ t (ok_same e) (record { mode = refl; deep = refl; going = refl; outer = λ e. refl; stands = refl; top = λ e. (refl, refl) })
does_content (suc d) Text len input t e = does_as false (suc d) (between Text input) _ t (ok_same e) (record { mode = refl; deep = refl; going = refl; outer = λ e. refl; stands = refl; top = λ e. absurd cc })
does_content (suc d) (Opens p) len input t e = does_as false (suc d) (between (Opens p) input) _ t (ok_same e) (record { mode = refl; deep = refl; going = refl; outer = λ e. refl; stands = refl; top = λ e. absurd cc })
does_content (suc d) (Opened p) len input t e = does_as false (suc d) (between (Opened p) input) _ t (ok_same e) (record { mode = refl; deep = refl; going = refl; outer = λ e. refl; stands = refl; top = λ e. absurd cc })
does_content (suc d) (Whole p) len input t e = does_as false (suc d) (between (Whole p) input) _ t (ok_same e) (record { mode = refl; deep = refl; going = refl; outer = λ e. refl; stands = refl; top = λ e. absurd cc })
does_content (suc d) (Closes p) len input t e = does_as false (suc d) (between (Closes p) input) _ t (ok_same e) (record { mode = refl; deep = refl; going = refl; outer = λ e. sym (outer_between d); stands = refl; top = λ e. absurd cc })

-- a step is over a token, which is seen in its bytes alone
pub record IsOver (in_tag : Bool) (depth : ℕ) (a : List ℕ) (t : Step) : Type 0 where
  pub p : Piece
  pub here : piece_at in_tag a ≡ Ok p
  pub input : piece_bytes p ≡ take t.len a
  pub long : length (piece_bytes p) ≡ t.len
  pub does : Does in_tag depth p t
  pub again : (b : List ℕ) → Agree t.len a b → piece_at in_tag b ≡ Ok p

pub over : (in_tag : Bool) (depth : ℕ) (a : List ℕ) (t : Step) → 0 < length a → step_at (record { in_tag = in_tag; depth = depth }) a ≡ Ok t → IsOver in_tag depth a t
unfolding step_at piece_at
over true depth a t h e =
    let o = bind_ok (tag_at a) (λ x. Ok (tag_step depth x.kind x.len)) t e in
    let tok = o.0 in
    let r = tag_token a tok h o.1 in
    let l : t.len ≡ tok.len = ap (λ (s : Step). s.len) (sym (ok_same o.2)) ∙ tag_len depth tok.kind tok.len in
    record {
      p = inside tok.kind (take tok.len a);
      here = ap (λ x. x >>= λ y. Ok (inside y.kind (take y.len a))) o.1;
      input = ap (λ n. take n a) (sym l);
      long = length-take-le tok.len a r.within ∙ sym l;
      does = does_as true depth (inside tok.kind (take tok.len a)) _ t (ok_same o.2) (does_tag depth tok.kind tok.len (take tok.len a));
      again = λ b g.
          (let g2 : Agree tok.len a b = subst (λ n. Agree n a b) l g in
          let n : tok.len ≤ tok.len = omega arith in
          ap (λ x. x >>= λ y. Ok (inside y.kind (take y.len b))) (r.same b g2) ∙ ap (λ x. Ok (inside tok.kind x)) (sym (agree_front tok.len tok.len a b n g2)));
    }
over false depth a t h e =
    let o = bind_ok (content_at a) (λ x. content_step depth x.kind x.len) t e in
    let tok = o.0 in
    let r = content_token a tok h o.1 in
    let l : t.len ≡ tok.len = content_len depth tok.kind tok.len t o.2 in
    record {
      p = between tok.kind (take tok.len a);
      here = ap (λ x. x >>= λ y. Ok (between y.kind (take y.len a))) o.1;
      input = ap (λ n. take n a) (sym l);
      long = length-take-le tok.len a r.within ∙ sym l;
      does = does_content depth tok.kind tok.len (take tok.len a) t o.2;
      again = λ b g.
          (let g2 : Agree tok.len a b = subst (λ n. Agree n a b) l g in
          let n : tok.len ≤ tok.len = omega arith in
          ap (λ x. x >>= λ y. Ok (between y.kind (take y.len b))) (r.same b g2) ∙ ap (λ x. Ok (between tok.kind x)) (sym (agree_front tok.len tok.len a b n g2)));
    }
