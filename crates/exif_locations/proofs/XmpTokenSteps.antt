-- Tokens look at their own bytes alone, and have one at least.
use Rattle.std.proofs.Common.{◌≡◌, ℕ, zero, suc, ◌+◌, ◌-◌, ◌<◌, ◌≤◌, Bool, true, false, cond, List, [], ◌∷◌, length, take, drop, get_or, Option, Some, None, Result, Ok, Err, refl, ap, sym, ◌∙◌, arith, ◌||◌, ◌&&◌, ◌⊎◌, inl, inr, eqb, subst, length-drop, codes}
use Rattle.std.proofs.lemmas.Bool.{eqb-true}
use Rattle.exif_locations.specs.declared.xmp.fault.Fault.{Fault}
use Rattle.exif_locations.specs.declared.xmp.fault.Fault.TheVariants.{Malformed, Doctype}
use Rattle.exif_locations.specs.declared.xmp.token.Content.TheVariants.{Text, Opens, Opened, Whole}
use Rattle.exif_locations.specs.declared.xmp.token.ContentToken.{ContentToken}
use Rattle.exif_locations.specs.declared.xmp.token.TagToken.{TagToken}
use Rattle.exif_locations.specs.declared.xmp.token.Within.TheVariants.{Space, Ends, Shuts}
use Rattle.exif_locations.specs.XmpNames.{begins, is_location}
use Rattle.exif_locations.specs.XmpScans.{ended, is_name_byte, is_space, quoted, run}
use Rattle.exif_locations.specs.XmpTokens.{attribute_at, attribute_with, closed, closing_at, content_at, declared_at, equals, equals_with, markup_at, named, opened, opening_at, opening_with, passed, tag_at, value_at, valued}
use Rattle.exif_locations.proofs.XmpAgreeing.{Agree, agree_begins, agree_drop, agree_front, agree_index, agree_run, chosen, ended_front, name_before, quoted_front}

-- an answer that is there is one
pub ok_same : {A : Type 0} {x y : A} → let r : Result A Fault = Ok x in r ≡ Ok y → x ≡ y
ok_same e = cc

-- a byte that is not 0 is there
there : (a : List ℕ) (i : ℕ) → 0 < get_or a i 0 → i < length a
there [] zero h = absurd (omega arith)
there [] (suc i) h = absurd (omega arith)
there (x ∷ a) zero h = omega arith
there (x ∷ a) (suc i) h = let l = there a i h in omega arith

agree_as : (m k : ℕ) (a b : List ℕ) → m ≡ k → Agree m a b → Agree k a b
agree_as m k a b e g = subst (λ n. Agree n a b) e g

-- a token behind the `<` of its input: m bytes, seen in those alone
pub record IsRest (f : List ℕ → Result ContentToken Fault) (t : ContentToken) (a : List ℕ) : Type 0 where
  pub m : ℕ
  pub len : t.len ≡ suc m
  pub some : 0 < m
  pub within : m ≤ length a
  pub same : (b : List ℕ) → Agree m a b → f b ≡ Ok t

-- ---- start tags

opened_by : Bool → ℕ → Bool → Bool → Bool → Bool → Result ContentToken Fault
opened_by p n x y z w =
    cond x (Ok (record { kind = Opened p; len = n + 2 })) (cond y (Ok (record { kind = Opens p; len = n + 2 }))
    (cond (z && w) (Ok (record { kind = Whole p; len = n + 3 })) (Err Malformed)))

opened_again : (p : Bool) (n : ℕ) (x y z w v : Bool) (t : ContentToken) → opened_by p n x y z w ≡ Ok t → (t.len ≡ n + 3 → w ≡ v) → opened_by p n x y z v ≡ Ok t
unfolding opened_by
opened_again p n true y z w v t e h = e
opened_again p n false true z w v t e h = e
opened_again p n false false false w v t e h = absurd cc
opened_again p n false false true false v t e h = absurd cc
opened_again p n false false true true v t e h =
    let l : n + 3 ≡ t.len = ap (λ (s : ContentToken). s.len) (ok_same e) in
    ap (λ u. opened_by p n false false true u) (sym (h (sym l))) ∙ e

opened_cases : (p : Bool) (n : ℕ) (x y z w : Bool) (t : ContentToken) → opened_by p n x y z w ≡ Ok t → ((t.len ≡ n + 2) × ((x ≡ true) ⊎ (y ≡ true))) ⊎ ((t.len ≡ n + 3) × (w ≡ true))
unfolding opened_by
opened_cases p n true y z w t e = inl (sym (ap (λ (s : ContentToken). s.len) (ok_same e)), inl refl)
opened_cases p n false true z w t e = inl (sym (ap (λ (s : ContentToken). s.len) (ok_same e)), inr refl)
opened_cases p n false false false w t e = absurd cc
opened_cases p n false false true false t e = absurd cc
opened_cases p n false false true true t e = inr (sym (ap (λ (s : ContentToken). s.len) (ok_same e)), refl)

is_byte : (c k : ℕ) → 0 < k → eqb c k ≡ true → 0 < c
is_byte c k l e = let q : c ≡ k = eqb-true c k e in omega arith

space_byte : (c : ℕ) → is_space c ≡ true → 0 < c
space_byte zero e = absurd cc
space_byte (suc c) e = omega arith

opened_byte : (p : Bool) (n c d : ℕ) (t : ContentToken) → opened p n c d ≡ Ok t → ((t.len ≡ n + 2) × (0 < c)) ⊎ ((t.len ≡ n + 3) × (0 < d))
unfolding opened_by
opened_byte p n c d t e =
    elim (opened_cases p n (eqb c 62) (is_space c) (eqb c 47) (eqb d 62) t e) [
      | inl w ↦ inl (w.0, elim w.1 [ inl h ↦ is_byte c 62 (omega arith) h | inr h ↦ space_byte c h ])
      | inr w ↦ inr (w.0, is_byte d 62 (omega arith) w.1)
    ]

opening_rest : (n : ℕ) (a : List ℕ) (t : ContentToken) → run is_name_byte a ≡ n → opening_with n a ≡ Ok t → IsRest opening_at t a
unfolding opened_by opening_at
opening_rest n a t r e =
    elim (chosen (eqb n 0) e) [
      | inl w ↦ absurd (let v = w.1 in cc)
      | inr w ↦ record {
        m = t.len - 1;
        len = (let l = long w.1 in omega arith);
        some = (let l = long w.1 in omega arith);
        within = within w.1;
        same = λ b g. same w.0 w.1 b g;
      }
    ]
  where
    long : opened (is_location (take n a)) n (get_or a n 0) (get_or a (n + 1) 0) ≡ Ok t → n + 2 ≤ t.len
    long o = elim (opened_byte (is_location (take n a)) n (get_or a n 0) (get_or a (n + 1) 0) t o) [ inl w ↦ (let q = w.0 in omega arith) | inr w ↦ (let q = w.0 in omega arith) ]

    within : opened (is_location (take n a)) n (get_or a n 0) (get_or a (n + 1) 0) ≡ Ok t → t.len - 1 ≤ length a
    within o =
        elim (opened_byte (is_location (take n a)) n (get_or a n 0) (get_or a (n + 1) 0) t o) [
          | inl w ↦ (let q = w.0 in let l = there a n w.1 in omega arith)
          | inr w ↦ (let q = w.0 in let l = there a (n + 1) w.1 in omega arith)
        ]

    same : eqb n 0 ≡ false → opened (is_location (take n a)) n (get_or a n 0) (get_or a (n + 1) 0) ≡ Ok t → (b : List ℕ) → Agree (t.len - 1) a b → opening_at b ≡ Ok t
    same z o b g =
        let l : n + 2 ≤ t.len = long o in
        let e1 : run is_name_byte a ≡ run is_name_byte b = agree_run is_name_byte (t.len - 1) a b (omega arith) g in
        let e2 : take n a ≡ take n b = agree_front n (t.len - 1) a b (omega arith) g in
        let e3 : get_or a n 0 ≡ get_or b n 0 = agree_index n (t.len - 1) a b (omega arith) g in
        let last : t.len ≡ n + 3 → eqb (get_or a (n + 1) 0) 62 ≡ eqb (get_or b (n + 1) 0) 62 = λ q. ap (λ d. eqb d 62) (agree_index (n + 1) (t.len - 1) a b (omega arith) g) in
        ap (λ k. opening_with k b) (sym e1 ∙ r)
        ∙ ap (λ k. cond k (Err Malformed) (opened (is_location (take n b)) n (get_or b n 0) (get_or b (n + 1) 0))) z
        ∙ ap (λ s. opened (is_location s) n (get_or b n 0) (get_or b (n + 1) 0)) (sym e2)
        ∙ ap (λ c. opened (is_location (take n a)) n c (get_or b (n + 1) 0)) (sym e3)
        ∙ opened_again (is_location (take n a)) n (eqb (get_or a n 0) 62) (is_space (get_or a n 0)) (eqb (get_or a n 0) 47) (eqb (get_or a (n + 1) 0) 62) (eqb (get_or b (n + 1) 0) 62) t o last

opening_token : (a : List ℕ) (t : ContentToken) → opening_at a ≡ Ok t → IsRest opening_at t a
unfolding opening_at
opening_token a t e = opening_rest (run is_name_byte a) a t refl e

-- ---- input that is skipped, and end tags

passed_some : (front : ℕ) (x : Option ℕ) (t : ContentToken) → passed front x ≡ Ok t → (n : ℕ) × (x ≡ Some n) × (t.len ≡ front + n)
passed_some front None t e = absurd cc
passed_some front (Some n) t e = (n, refl, sym (ap (λ (s : ContentToken). s.len) (ok_same e)))

-- behind so many bytes a input ends
passed_rest : (front c n : ℕ) (a : List ℕ) (t : ContentToken) → passed (suc front) (ended c n 0 (drop front a)) ≡ Ok t → (r : IsRest (λ b. passed (suc front) (ended c n 0 (drop front b))) t a) × (front < r.m)
passed_rest front c n a t e =
    let o = passed_some (suc front) (ended c n 0 (drop front a)) t e in
    let r = ended_front c n 0 (drop front a) o.0 o.1 in
    let some : 0 < o.0 = r.some in
    let within : o.0 ≤ length (drop front a) = r.within in
    let len : t.len ≡ suc front + o.0 = o.2 in
    let d : length (drop front a) ≡ length a - front = length-drop front a in (
      record {
        m = front + o.0;
        len = omega arith;
        some = omega arith;
        within = omega arith;
        same = λ b g. ap (passed (suc front)) (r.same (drop front b) (agree_drop front o.0 a b g) ∙ sym o.1) ∙ e;
      },
      omega arith,
    )

closed_some : (p : Bool) (x : Option ℕ) (t : ContentToken) → closed p x ≡ Ok t → (n : ℕ) × (x ≡ Some n) × (t.len ≡ n + 2)
closed_some p None t e = absurd cc
closed_some p (Some n) t e = (n, refl, sym (ap (λ (s : ContentToken). s.len) (ok_same e)))

closing_rest : (a : List ℕ) (t : ContentToken) → closing_at (drop 1 a) ≡ Ok t → IsRest (λ b. closing_at (drop 1 b)) t a
unfolding closing_at
closing_rest a t e =
    let rest = drop 1 a in
    let o = closed_some (is_location (take (run is_name_byte rest) rest)) (ended 0 0 0 rest) t e in
    let r = ended_front 0 0 0 rest o.0 o.1 in
    let some : 0 < o.0 = r.some in
    let within : o.0 ≤ length rest = r.within in
    let len : t.len ≡ o.0 + 2 = o.2 in
    let d : length rest ≡ length a - 1 = length-drop 1 a in
    let before : run is_name_byte rest < o.0 = name_before 0 rest o.0 o.1 in
    record {
      m = 1 + o.0;
      len = omega arith;
      some = omega arith;
      within = omega arith;
      same = λ b g.
          (let h : Agree o.0 rest (drop 1 b) = agree_drop 1 o.0 a b g in
          let e1 : run is_name_byte rest ≡ run is_name_byte (drop 1 b) = agree_run is_name_byte o.0 rest (drop 1 b) before h in
          let e2 : take (run is_name_byte rest) rest ≡ take (run is_name_byte rest) (drop 1 b) = agree_front (run is_name_byte rest) o.0 rest (drop 1 b) (omega arith) h in
          ap (λ k. closed (is_location (take k (drop 1 b))) (ended 0 0 0 (drop 1 b))) (sym e1)
          ∙ ap (λ s. closed (is_location s) (ended 0 0 0 (drop 1 b))) (sym e2)
          ∙ ap (closed (is_location (take (run is_name_byte rest) rest))) (r.same (drop 1 b) h ∙ sym o.1)
          ∙ e);
    }

-- a token seen by one function is seen by another that gives the same on inputs that begin so
rest_by : (f h : List ℕ → Result ContentToken Fault) (t : ContentToken) (a : List ℕ) (r : IsRest f t a) → ((b : List ℕ) → Agree r.m a b → h b ≡ f b) → IsRest h t a
rest_by f h t a r e = record { m = r.m; len = r.len; some = r.some; within = r.within; same = λ b g. e b g ∙ r.same b g }

declared_rest : (a : List ℕ) (t : ContentToken) → declared_at a ≡ Ok t → IsRest declared_at t a
unfolding declared_at
declared_rest a t e =
    elim (chosen (begins a (codes "!--")) e) [
      | inl w ↦ comment w.0 w.1
      | inr w ↦ elim (chosen (begins a (codes "![CDATA[")) w.1) [ inl v ↦ data_of w.0 v.0 v.1 | inr v ↦ absurd (let n = v.1 in cc) ]
    ]
  where
    comment : begins a (codes "!--") ≡ true → passed 4 (ended 45 2 0 (drop 3 a)) ≡ Ok t → IsRest declared_at t a
    comment z o =
        let r = passed_rest 3 45 2 a t o in
        let l : 3 < r.0.m = r.1 in
        rest_by (λ b. passed 4 (ended 45 2 0 (drop 3 b))) declared_at t a r.0
        (λ b g. ap (λ x. cond x (passed 4 (ended 45 2 0 (drop 3 b))) (cond (begins b (codes "![CDATA[")) (passed 9 (ended 93 2 0 (drop 8 b))) (Err Doctype)))
        (sym (agree_begins (codes "!--") r.0.m a b (let h : 3 ≤ r.0.m = omega arith in h) g) ∙ z))

    data_of : begins a (codes "!--") ≡ false → begins a (codes "![CDATA[") ≡ true → passed 9 (ended 93 2 0 (drop 8 a)) ≡ Ok t → IsRest declared_at t a
    data_of z y o =
        let r = passed_rest 8 93 2 a t o in
        let l : 8 < r.0.m = r.1 in
        rest_by (λ b. passed 9 (ended 93 2 0 (drop 8 b))) declared_at t a r.0
        (λ b g. ap (λ x. cond x (passed 4 (ended 45 2 0 (drop 3 b))) (cond (begins b (codes "![CDATA[")) (passed 9 (ended 93 2 0 (drop 8 b))) (Err Doctype)))
        (sym (agree_begins (codes "!--") r.0.m a b (let h : 3 ≤ r.0.m = omega arith in h) g) ∙ z)
        ∙ ap (λ x. cond x (passed 9 (ended 93 2 0 (drop 8 b))) (Err Doctype))
        (sym (agree_begins (codes "![CDATA[") r.0.m a b (let h : 8 ≤ r.0.m = omega arith in h) g) ∙ y))

-- ---- markup, by the byte behind its `<`

markup_by : ℕ → List ℕ → Result ContentToken Fault
markup_by c b =
    cond (eqb c 47) (closing_at (drop 1 b)) (cond (eqb c 63) (passed 2 (ended 63 1 0 (drop 1 b))) (cond (eqb c 33) (declared_at b) (opening_at b)))

markup_rest : (a : List ℕ) (t : ContentToken) → markup_at a ≡ Ok t → IsRest markup_at t a
unfolding markup_at markup_by
markup_rest a t e =
    elim (chosen (eqb c 47) e) [
      | inl w ↦ as_seen (λ b. closing_at (drop 1 b)) (closing_rest a t w.1) (λ b. ap (λ x. cond x (closing_at (drop 1 b)) (others b)) w.0)
      | inr w ↦ elim (chosen (eqb c 63) w.1) [
        | inl v ↦ as_seen (λ b. passed 2 (ended 63 1 0 (drop 1 b))) (passed_rest 1 63 1 a t v.1).0
            (λ b. ap (λ x. cond x (closing_at (drop 1 b)) (others b)) w.0 ∙ ap (λ x. cond x (passed 2 (ended 63 1 0 (drop 1 b))) (cond (eqb c 33) (declared_at b) (opening_at b))) v.0)
        | inr v ↦ elim (chosen (eqb c 33) v.1) [
          | inl u ↦ as_seen declared_at (declared_rest a t u.1)
              (λ b. ap (λ x. cond x (closing_at (drop 1 b)) (others b)) w.0 ∙ ap (λ x. cond x (passed 2 (ended 63 1 0 (drop 1 b))) (cond (eqb c 33) (declared_at b) (opening_at b))) v.0
              ∙ ap (λ x. cond x (declared_at b) (opening_at b)) u.0)
          | inr u ↦ as_seen opening_at (opening_token a t u.1)
              (λ b. ap (λ x. cond x (closing_at (drop 1 b)) (others b)) w.0 ∙ ap (λ x. cond x (passed 2 (ended 63 1 0 (drop 1 b))) (cond (eqb c 33) (declared_at b) (opening_at b))) v.0
              ∙ ap (λ x. cond x (declared_at b) (opening_at b)) u.0)
        ]
      ]
    ]
  where
    c : ℕ
    c = get_or a 0 0

    others : List ℕ → Result ContentToken Fault
    others b = cond (eqb c 63) (passed 2 (ended 63 1 0 (drop 1 b))) (cond (eqb c 33) (declared_at b) (opening_at b))

    as_seen : (f : List ℕ → Result ContentToken Fault) → IsRest f t a → ((b : List ℕ) → markup_by c b ≡ f b) → IsRest markup_at t a
    as_seen f r h = rest_by f markup_at t a r (λ b g. ap (λ k. markup_by k b) (sym (agree_index 0 r.m a b r.some g)) ∙ h b)

-- ---- tokens

-- a token at the front of a input: its bytes are there, one at least, and it is seen in those alone
pub record IsToken {T : Type 0} (f : List ℕ → Result T Fault) (t : T) (len : ℕ) (a : List ℕ) : Type 0 where
  pub some : 0 < len
  pub within : len ≤ length a
  pub same : (b : List ℕ) → Agree len a b → f b ≡ Ok t

pub content_token : (a : List ℕ) (t : ContentToken) → 0 < length a → content_at a ≡ Ok t → IsToken content_at t t.len a
unfolding content_at
content_token a t long e = elim (chosen (eqb (get_or a 0 0) 60) e) [ inl w ↦ mark w.0 w.1 | inr w ↦ input w.0 w.1 ]
  where
    mark : eqb (get_or a 0 0) 60 ≡ true → markup_at (drop 1 a) ≡ Ok t → IsToken content_at t t.len a
    mark z o =
        let r = markup_rest (drop 1 a) t o in
        let l : t.len ≡ suc r.m = r.len in
        let s : 0 < r.m = r.some in
        let w : r.m ≤ length (drop 1 a) = r.within in
        let d : length (drop 1 a) ≡ length a - 1 = length-drop 1 a in
        record {
          some = omega arith;
          within = omega arith;
          same = λ b g.
              ap (λ x. cond x (markup_at (drop 1 b)) (Ok (record { kind = Text; len = 1 }))) (ap (λ x. eqb x 60) (sym (agree_index 0 t.len a b (omega arith) g)) ∙ z)
              ∙ r.same (drop 1 b) (agree_drop 1 r.m a b (agree_as t.len (1 + r.m) a b (omega arith) g));
        }

    input : eqb (get_or a 0 0) 60 ≡ false → (let x : Result ContentToken Fault = Ok (record { kind = Text; len = 1 }) in x ≡ Ok t) → IsToken content_at t t.len a
    input z o =
        let l : 1 ≡ t.len = ap (λ (s : ContentToken). s.len) (ok_same o) in
        record {
          some = omega arith;
          within = omega arith;
          same = λ b g.
              ap (λ x. cond x (markup_at (drop 1 b)) (Ok (record { kind = Text; len = 1 }))) (ap (λ x. eqb x 60) (sym (agree_index 0 t.len a b (omega arith) g)) ∙ z) ∙ o;
        }

-- ---- attributes

-- what is between a name and its value: e bytes and one behind them at least
pub record IsEquals (e : ℕ) (a : List ℕ) : Type 0 where
  pub same : (m : ℕ) (b : List ℕ) → e < m → Agree m a b → equals b ≡ Some e

equals_token : (a : List ℕ) (e : ℕ) → equals a ≡ Some e → IsEquals e a
equals_token a e o = elim (chosen (eqb (get_or a n 0) 61) o) [ inl w ↦ is w.0 w.1 | inr w ↦ absurd (let v = w.1 in cc) ]
  where
    n : ℕ
    n = run is_space a

    is : eqb (get_or a n 0) 61 ≡ true → (let x : Option ℕ = Some (n + 1 + run is_space (drop (n + 1) a)) in x ≡ Some e) → IsEquals e a
    is z v = record { same = same }
      where
        q : n + 1 + run is_space (drop (n + 1) a) ≡ e
        q = cc

        same : (m : ℕ) (b : List ℕ) → e < m → Agree m a b → equals b ≡ Some e
        same m b l g =
            let w : n + 1 + run is_space (drop (n + 1) a) ≡ e = q in
            let e1 : run is_space a ≡ run is_space b = agree_run is_space m a b (omega arith) g in
            let h : Agree (m - (n + 1)) (drop (n + 1) a) (drop (n + 1) b) = agree_drop (n + 1) (m - (n + 1)) a b (agree_as m ((n + 1) + (m - (n + 1))) a b (omega arith) g) in
            let e2 : run is_space (drop (n + 1) a) ≡ run is_space (drop (n + 1) b) = agree_run is_space (m - (n + 1)) (drop (n + 1) a) (drop (n + 1) b) (omega arith) h in
            ap (λ k. equals_with k b) (sym e1)
            ∙ ap (λ x. cond x (Some (n + 1 + run is_space (drop (n + 1) b))) None) (ap (λ x. eqb x 61) (sym (agree_index n m a b (omega arith) g)) ∙ z)
            ∙ ap (λ k. Some (n + 1 + k)) (sym e2) ∙ ap Some w

valued_some : (p : Bool) (front : ℕ) (x : Option ℕ) (t : TagToken) → valued p front x ≡ Ok t → (n : ℕ) × (x ≡ Some n) × (t.len ≡ front + n)
valued_some p front None t e = absurd cc
valued_some p front (Some n) t e = (n, refl, sym (ap (λ (s : TagToken). s.len) (ok_same e)))

-- a value behind so many bytes
pub record IsValue (p : Bool) (front : ℕ) (t : TagToken) (a : List ℕ) : Type 0 where
  pub n : ℕ
  pub len : t.len ≡ front + n
  pub some : 0 < n
  pub within : n ≤ length a
  pub same : (b : List ℕ) → Agree n a b → value_at p front b ≡ Ok t

value_token : (p : Bool) (front : ℕ) (a : List ℕ) (t : TagToken) → value_at p front a ≡ Ok t → IsValue p front t a
value_token p front a t e = elim (chosen (eqb q 34 || eqb q 39) e) [ inl w ↦ is w.0 w.1 | inr w ↦ absurd (let v = w.1 in cc) ]
  where
    q : ℕ
    q = get_or a 0 0

    is : (eqb q 34 || eqb q 39) ≡ true → valued p (front + 1) (quoted q (drop 1 a)) ≡ Ok t → IsValue p front t a
    is z v =
        let o = valued_some p (front + 1) (quoted q (drop 1 a)) t v in
        let r = quoted_front q (drop 1 a) o.0 o.1 in
        let some : 0 < o.0 = r.some in
        let within : o.0 ≤ length (drop 1 a) = r.within in
        let len : t.len ≡ front + 1 + o.0 = o.2 in
        let d : length (drop 1 a) ≡ length a - 1 = length-drop 1 a in
        record {
          n = 1 + o.0;
          len = omega arith;
          some = omega arith;
          within = omega arith;
          same = λ b g.
              ap (λ c. cond (eqb c 34 || eqb c 39) (valued p (front + 1) (quoted c (drop 1 b))) (Err Malformed)) (sym (agree_index 0 (1 + o.0) a b (omega arith) g))
              ∙ ap (λ x. cond x (valued p (front + 1) (quoted q (drop 1 b))) (Err Malformed)) z
              ∙ ap (valued p (front + 1)) (r.same (drop 1 b) (agree_drop 1 o.0 a b g) ∙ sym o.1)
              ∙ v;
        }

named_some : (p : Bool) (n : ℕ) (x : Option ℕ) (a : List ℕ) (t : TagToken) → named p n x a ≡ Ok t → (e : ℕ) × (x ≡ Some e) × (value_at p (n + e) (drop e a) ≡ Ok t)
named_some p n None a t e = absurd cc
named_some p n (Some k) a t e = (k, refl, e)

attribute_token : (a : List ℕ) (t : TagToken) → attribute_at a ≡ Ok t → IsToken attribute_at t t.len a
unfolding attribute_at
attribute_token a t e = elim (chosen (eqb n 0) e) [ inl w ↦ absurd (let v = w.1 in cc) | inr w ↦ is w.0 w.1 ]
  where
    n : ℕ
    n = run is_name_byte a

    is : eqb n 0 ≡ false → named (is_location (take n a)) n (equals (drop n a)) (drop n a) ≡ Ok t → IsToken attribute_at t t.len a
    is z v =
        let p = is_location (take n a) in
        let o = named_some p n (equals (drop n a)) (drop n a) t v in
        let k = o.0 in
        let q = equals_token (drop n a) k o.1 in
        let r = value_token p (n + k) (drop k (drop n a)) t o.2 in
        let some : 0 < r.n = r.some in
        let within : r.n ≤ length (drop k (drop n a)) = r.within in
        let len : t.len ≡ n + k + r.n = r.len in
        let d : length (drop k (drop n a)) ≡ length (drop n a) - k = length-drop k (drop n a) in
        let d2 : length (drop n a) ≡ length a - n = length-drop n a in
        record {
          some = omega arith;
          within = omega arith;
          same = λ b g.
              (let e1 : run is_name_byte a ≡ run is_name_byte b = agree_run is_name_byte t.len a b (omega arith) g in
              let e2 : take n a ≡ take n b = agree_front n t.len a b (omega arith) g in
              let h : Agree (k + r.n) (drop n a) (drop n b) = agree_drop n (k + r.n) a b (agree_as t.len (n + (k + r.n)) a b (omega arith) g) in
              let i : Agree r.n (drop k (drop n a)) (drop k (drop n b)) = agree_drop k r.n (drop n a) (drop n b) h in
              ap (λ m. attribute_with m b) (sym e1)
              ∙ ap (λ x. cond x (Err Malformed) (named (is_location (take n b)) n (equals (drop n b)) (drop n b))) z
              ∙ ap (λ s. named (is_location s) n (equals (drop n b)) (drop n b)) (sym e2)
              ∙ ap (λ x. named p n x (drop n b)) (q.same (k + r.n) (drop n b) (omega arith) h)
              ∙ r.same (drop k (drop n b)) i);
        }

pub tag_token : (a : List ℕ) (t : TagToken) → 0 < length a → tag_at a ≡ Ok t → IsToken tag_at t t.len a
unfolding tag_at
tag_token a t long e =
    elim (chosen (is_space c) e) [
      | inl w ↦ one (record { kind = Space; len = 1 }) w.1 (λ b s. ap (λ x. cond x (Ok (record { kind = Space; len = 1 })) (more (get_or b 0 0) b)) (ap is_space (sym s) ∙ w.0)) refl
      | inr w ↦ elim (chosen (eqb c 62) w.1) [
        | inl v ↦ one (record { kind = Ends; len = 1 }) v.1
            (λ b s. ap (λ k. tag_by k b) (sym s) ∙ ap (λ x. cond x (Ok (record { kind = Space; len = 1 })) (more c b)) w.0 ∙ ap (λ x. cond x (Ok (record { kind = Ends; len = 1 })) (last c b)) v.0) refl
        | inr v ↦ elim (chosen (eqb c 47) v.1) [
          | inl u ↦ elim (chosen (eqb (get_or a 1 0) 62) u.1) [
            | inl y ↦ two w.0 v.0 u.0 y.0 y.1
            | inr y ↦ absurd (let n = y.1 in cc)
          ]
          | inr u ↦ name w.0 v.0 u.0 (attribute_token a t u.1)
        ]
      ]
    ]
  where
    c : ℕ
    c = get_or a 0 0

    last : ℕ → List ℕ → Result TagToken Fault
    last k b = cond (eqb k 47) (cond (eqb (get_or b 1 0) 62) (Ok (record { kind = Shuts; len = 2 })) (Err Malformed)) (attribute_at b)

    more : ℕ → List ℕ → Result TagToken Fault
    more k b = cond (eqb k 62) (Ok (record { kind = Ends; len = 1 })) (last k b)

    tag_by : ℕ → List ℕ → Result TagToken Fault
    tag_by k b = cond (is_space k) (Ok (record { kind = Space; len = 1 })) (more k b)

    one : (s : TagToken) → (let x : Result TagToken Fault = Ok s in x ≡ Ok t) → ((b : List ℕ) → c ≡ get_or b 0 0 → tag_at b ≡ Ok s) → s.len ≡ 1 → IsToken tag_at t t.len a
    one s o h n =
        let l : s.len ≡ t.len = ap (λ (s : TagToken). s.len) (ok_same o) in
        record {
          some = omega arith;
          within = omega arith;
          same = λ b g. h b (agree_index 0 t.len a b (omega arith) g) ∙ o;
        }

    two : is_space c ≡ false → eqb c 62 ≡ false → eqb c 47 ≡ true → eqb (get_or a 1 0) 62 ≡ true → (let x : Result TagToken Fault = Ok (record { kind = Shuts; len = 2 }) in x ≡ Ok t) → IsToken tag_at t t.len a
    two z y x w o =
        let l : 2 ≡ t.len = ap (λ (s : TagToken). s.len) (ok_same o) in
        let i : 1 < length a = there a 1 (is_byte (get_or a 1 0) 62 (omega arith) w) in
        record {
          some = omega arith;
          within = omega arith;
          same = λ b g.
              ap (λ k. tag_by k b) (sym (agree_index 0 t.len a b (omega arith) g))
              ∙ ap (λ x. cond x (Ok (record { kind = Space; len = 1 })) (more c b)) z
              ∙ ap (λ x. cond x (Ok (record { kind = Ends; len = 1 })) (last c b)) y
              ∙ ap (λ x. cond x (cond (eqb (get_or b 1 0) 62) (Ok (record { kind = Shuts; len = 2 })) (Err Malformed)) (attribute_at b)) x
              ∙ ap (λ x. cond x (Ok (record { kind = Shuts; len = 2 })) (Err Malformed)) (ap (λ k. eqb k 62) (sym (agree_index 1 t.len a b (omega arith) g)) ∙ w)
              ∙ o;
        }

    name : is_space c ≡ false → eqb c 62 ≡ false → eqb c 47 ≡ false → IsToken attribute_at t t.len a → IsToken tag_at t t.len a
    name z y x r = record {
      some = r.some;
      within = r.within;
      same = λ b g.
          ap (λ k. tag_by k b) (sym (agree_index 0 t.len a b r.some g))
          ∙ ap (λ x. cond x (Ok (record { kind = Space; len = 1 })) (more c b)) z
          ∙ ap (λ x. cond x (Ok (record { kind = Ends; len = 1 })) (last c b)) y
          ∙ ap (λ x. cond x (cond (eqb (get_or b 1 0) 62) (Ok (record { kind = Shuts; len = 2 })) (Err Malformed)) (attribute_at b)) x
          ∙ r.same b g;
    }
