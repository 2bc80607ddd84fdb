-- The portions of a packet, one after the other.
use Rattle.std.proofs.Common.{◌≡◌, ◌≤◌, ◌<◌, ◌+◌, ◌-◌, ℕ, suc, Bool, true, false, List, [], ◌∷◌, length, drop, get_or, cond, nat_le, ◌&&◌, All, refl, ap, sym, ◌∙◌, arith, eq-eqb, length-append}
use Rattle.std.proofs.lemmas.Bool.{ne_eqb}
use Rattle.std.proofs.lemmas.Grind.{common_steps}
use Rattle.std.proofs.lemmas.List.{drop_more}
use Rattle.std.proofs.lemmas.List.Sums.{sum_by-cons}
use Rattle.exif_inventory.specs.Promises.{EndsIn}
use Rattle.exif_inventory.specs.declared.part.Part.{Part}
use Rattle.exif_privacy.specs.Data.{data_of}
use Rattle.exif_privacy.specs.Portions.{full_len, goes_on, joined, portion_of, portions_len, run_len}

-- a packet that is whole
pub run_ends : (file : List ℕ) (first : Part) (n at : ℕ) (parts : List Part) → at ≡ full_len (data_of first file) → run_len file first n at parts ≡ n
unfolding run_len
run_ends file first n at [] e = ap (λ b. cond b n 0) (eq-eqb _ _ e)
run_ends file first n at (p ∷ ps) e =
    ap (λ b. cond b n (cond (goes_on file first at p) (run_len file first (n + 1) (at + (p.data_len - 40)) ps) 0))
    (eq-eqb _ _ e)

-- one that is not
pub run_lacks : (file : List ℕ) (first : Part) (n at : ℕ) → (at ≡ full_len (data_of first file) → ⊥) → run_len file first n at [] ≡ 0
unfolding run_len
run_lacks file first n at e = ap (λ b. cond b n 0) (ne_eqb _ _ e)

-- a part behind one that is not the last
run_more : (file : List ℕ) (first : Part) (n at : ℕ) (p : Part) (ps : List Part) (goes : Bool) → (at ≡ full_len (data_of first file) → ⊥) → goes_on file first at p ≡ goes
    → run_len file first n at (p ∷ ps) ≡ cond goes (run_len file first (n + 1) (at + (p.data_len - 40)) ps) 0
unfolding run_len
run_more file first n at p ps goes e g =
    ap (λ b. cond b n (cond (goes_on file first at p) (run_len file first (n + 1) (at + (p.data_len - 40)) ps) 0))
    (ne_eqb _ _ e)
    ∙ ap (λ b. cond b (run_len file first (n + 1) (at + (p.data_len - 40)) ps) 0) g

-- one that goes on with the packet
pub run_goes : (file : List ℕ) (first : Part) (n at i : ℕ) (parts : List Part) (d : Part) → i < length parts → (at ≡ full_len (data_of first file) → ⊥) → goes_on file first at (get_or parts i d) ≡ true
    → run_len file first n at (drop i parts) ≡ run_len file first (n + 1) (at + ((get_or parts i d).data_len - 40)) (drop (i + 1) parts)
run_goes file first n at i parts d h e g =
    ap (run_len file first n at) (drop_more parts i d h)
    ∙ run_more file first n at (get_or parts i d) (drop (i + 1) parts) true e g

-- one that does not
pub run_stops : (file : List ℕ) (first : Part) (n at i : ℕ) (parts : List Part) (d : Part) → i < length parts → (at ≡ full_len (data_of first file) → ⊥) → goes_on file first at (get_or parts i d) ≡ false
    → run_len file first n at (drop i parts) ≡ 0
run_stops file first n at i parts d h e g =
    ap (run_len file first n at) (drop_more parts i d h)
    ∙ run_more file first n at (get_or parts i d) (drop (i + 1) parts) false e g

-- which ends within it
data_long : (file : List ℕ) (p : Part) → EndsIn (length file) p → length (data_of p file) ≡ p.data_len
data_long file p h = grind (arith, common_steps)

within : (at k l n : ℕ) → k ≡ l → at ≤ n → nat_le (k - 40) (n - at) ≡ true → at + (l - 40) ≤ n
within at k l n e w t = grind (arith, common_steps)

and_last : (a b : Bool) → (a && b) ≡ true → b ≡ true
and_last true b e = e
and_last false b e = cc

pub run_within : (file : List ℕ) (first : Part) (at n : ℕ) (p : Part) → EndsIn (length file) p → n ≡ full_len (data_of first file) → at ≤ n → goes_on file first at p ≡ true
    → at + (p.data_len - 40) ≤ n
run_within file first at n p h e w g =
    let last : nat_le (length (data_of p file) - 40) (full_len (data_of first file) - at) ≡ true = and_last _ _ (and_last _ _ g) in
    within at (length (data_of p file)) p.data_len n (data_long file p h) w
    (ap (λ m. nat_le (length (data_of p file) - 40) (m - at)) e ∙ last)

-- the bytes of a portion
pub portion_long : (file : List ℕ) (part : Part) → EndsIn (length file) part → length (portion_of part file) ≡ part.data_len - 40
portion_long file part h = grind (arith, common_steps)

others_of : (n : ℕ) (p : Part) (ps : List Part) → All (EndsIn n) (p ∷ ps) → All (EndsIn n) ps
others_of n p ps w = λ k d h. w (suc k) d (omega arith)

-- and of all of them
pub joined_long : (file : List ℕ) (parts : List Part) → All (EndsIn (length file)) parts → length (joined parts file) ≡ portions_len parts
joined_long file [] h = refl
joined_long file (p ∷ ps) h =
    let len : Part → ℕ = λ part. part.data_len - 40 in
    let one : length (portion_of p file) ≡ p.data_len - 40 = portion_long file p (h 0 p (omega arith)) in
    length-append (portion_of p file) (joined ps file)
    ∙ (ap (λ n. n + length (joined ps file)) one
    ∙ (ap (λ n. len p + n) (joined_long file ps (others_of (length file) p ps h))
    ∙ sym (sum_by-cons len p ps)))
