-- Bytes that stay where locations are erased.
use Rattle.std.proofs.Common.{◌≡◌, ◌≤◌, ◌<◌, ◌+◌, ◌-◌, ◌⊎◌, inl, inr, ℕ, suc, Bool, true, false, ◌||◌, ◌&&◌, nat_le, nat_lt, List, [], ◌∷◌, ◌++◌, length, take, drop, get_or, min, All, Option, Some, None, refl, ap, sym, ◌∙◌, subst, arith, length-take, length-drop}
use Rattle.std.proofs.lemmas.Grind.{common_steps}
use Rattle.std.proofs.lemmas.Bool.Decides.{nat_tests}
use Rattle.std.proofs.lemmas.List.{drop-drop, take-append-drop}
use Rattle.std.proofs.lemmas.List.Elements.{All-cons, All-nil}
use Rattle.std.proofs.lemmas.List.Folds.{list_any-append}
use Rattle.std.proofs.lemmas.List.Sums.{sum_by-cons}
use Rattle.std.specs.List.{list_any}
use Rattle.exif_inventory.specs.Promises.{EndsIn}
use Rattle.exif_inventory.specs.declared.kind.Kind.{Kind}
use Rattle.exif_inventory.specs.declared.kind.Kind.TheVariants as kind
use Rattle.exif_inventory.specs.declared.part.Part.{Part}
use Rattle.exif_privacy.specs.Data.{data_of, with_data}
use Rattle.exif_privacy.specs.Portions.{is_extended, portion, portion_of, portions_len, put_back, run_len}
use Rattle.exif_privacy.specs.Promises.{AllSearched, OthersStay, OthersStayIn, is_searched, may_change}
use Rattle.exif_privacy.proofs.AnsweredSteps.{AllExtended, run_extended}
use Rattle.exif_privacy.proofs.PortionSteps.{portion_long}
use Rattle.exif_privacy.proofs.TwiceSteps.{same_data}

pub neither : (a b : Bool) → (a || b) ≡ false → (a ≡ false) × (b ≡ false)
neither true b e = absurd (never e)
  where
    never : true ≡ false → ⊥
    never e = cc
neither false b e = (refl, e)

-- a file that is as it was
pub all_stay : (parts : List Part) (file : List ℕ) → OthersStay parts file file
all_stay parts file = record { long = refl; bytes = λ k e. refl }

pub all_stay_in : (parts : Option (List Part)) (file : List ℕ) → OthersStayIn parts file file
all_stay_in None file = refl
all_stay_in (Some parts) file = record { long = refl; bytes = λ k e. refl }

-- one change after the other
pub both_stay : (parts : List Part) (old mid new : List ℕ) → OthersStay parts old mid → OthersStay parts mid new → OthersStay parts old new
both_stay parts old mid new a b = record { long = b.long ∙ a.long; bytes = λ k e. b.bytes k e ∙ a.bytes k e }

-- more parts
pub of_more : (before parts behind : List Part) (old new : List ℕ) → OthersStay parts old new → OthersStay (before ++ (parts ++ behind)) old new
of_more before parts behind old new s = record {
  long = s.long;
  bytes = λ k e.
      s.bytes k (neither _ _ (sym (list_any-append (may_change k) parts behind)
      ∙ (neither _ _ (sym (list_any-append (may_change k) before (parts ++ behind)) ∙ e)).1)).0;
}

pub of_take : (n : ℕ) (parts : List Part) (old new : List ℕ) → OthersStay (take n parts) old new → OthersStay parts old new
of_take n parts old new s =
    subst (λ (ps : List Part). OthersStay ps old new) (take-append-drop n parts) (of_more [] (take n parts) (drop n parts) old new s)

pub of_drop : (n : ℕ) (parts : List Part) (old new : List ℕ) → OthersStay (drop n parts) old new → OthersStay parts old new
of_drop n parts old new s = record {
  long = s.long;
  bytes = λ k e. s.bytes k (neither _ _ (sym (list_any-append (may_change k) (take n parts) (drop n parts)) ∙ (ap (list_any (may_change k)) (take-append-drop n parts) ∙ e))).1;
}

-- the parts that are left
pub next_stays : (n : ℕ) (parts : List Part) (old new : List ℕ) → OthersStay (take (length parts - n) (drop n parts)) old new → OthersStay parts old new
next_stays n parts old new s = of_drop n parts old new (of_take (length parts - n) (drop n parts) old new s)

-- bytes before and behind a span
before : (at n k : ℕ) (old new : List ℕ) → at + n ≤ length old → length new ≡ n → k < at → get_or (take at old ++ (new ++ drop (at + n) old)) k 0 ≡ get_or old k 0
before at n k old new h e lt = grind (arith, common_steps)

behind : (at n k : ℕ) (old new : List ℕ) → at + n ≤ length old → length new ≡ n → at + n ≤ k → get_or (take at old ++ (new ++ drop (at + n) old)) k 0 ≡ get_or old k 0
behind at n k old new h e le = grind (arith, common_steps)

pub outside : (at end k : ℕ) → (nat_le at k && nat_lt k end) ≡ false → (k < at) ⊎ (end ≤ k)
outside at end k e = grind (arith, nat_tests)

pub span_stays : (at n k : ℕ) (old new : List ℕ) → at + n ≤ length old → length new ≡ n → (k < at) ⊎ (at + n ≤ k) → get_or (take at old ++ (new ++ drop (at + n) old)) k 0 ≡ get_or old k 0
span_stays at n k old new h e (inl lt) = before at n k old new h e lt
span_stays at n k old new h e (inr le) = behind at n k old new h e le

pub span_long : (at n : ℕ) (old new : List ℕ) → at + n ≤ length old → length new ≡ n → length (take at old ++ (new ++ drop (at + n) old)) ≡ length old
span_long at n old new h e = grind (arith, common_steps)

-- other data in a part
changed : (searched : Bool) (part : Part) (old new : List ℕ) → is_searched part.kind ≡ searched → EndsIn (length old) part → length new ≡ part.data_len → (is_searched part.kind ≡ false → new ≡ data_of part old)
    → (k : ℕ) → may_change k part ≡ false → get_or (with_data part new old) k 0 ≡ get_or old k 0
changed false part old new s h e same k out =
    ap (λ bytes. get_or bytes k 0) (ap (λ bytes. with_data part bytes old) (same s) ∙ same_data part old)
changed true part old new s h e same k out =
    span_stays part.data_offset part.data_len k old new h e
    (outside part.data_offset (part.data_offset + part.data_len) k
    (sym (ap (λ b. b && (nat_le part.data_offset k && nat_lt k (part.data_offset + part.data_len))) s) ∙ out))

pub one_stays : (part : Part) (old new : List ℕ) → EndsIn (length old) part → length new ≡ part.data_len → (is_searched part.kind ≡ false → new ≡ data_of part old)
    → OthersStay (part ∷ []) old (with_data part new old)
one_stays part old new h e same = record {
  long = span_long part.data_offset part.data_len old new h e;
  bytes = λ k out. changed (is_searched part.kind) part old new refl h e same k (neither _ _ out).0;
}

pub part_stays : (part : Part) (old new : List ℕ) (n : ℕ) → n ≡ part.data_len → EndsIn (length old) part → length new ≡ part.data_len → (is_searched part.kind ≡ false → new ≡ data_of part old)
    → OthersStay (part ∷ []) old (take part.data_offset old ++ (new ++ drop n (drop part.data_offset old)))
part_stays part old new n m h e same =
    let behind : drop (part.data_offset + part.data_len) old ≡ drop n (drop part.data_offset old) = ap (λ k. drop (part.data_offset + k) old) (sym m) ∙ sym (drop-drop n part.data_offset old) in
    subst (λ (bytes : List ℕ). OthersStay (part ∷ []) old (take part.data_offset old ++ (new ++ bytes))) behind (one_stays part old new h e same)

-- ---- portions

portion_out : (at n k : ℕ) → (k < at) ⊎ (at + n ≤ k) → (k < at + min 40 n) ⊎ (at + min 40 n + (n - 40) ≤ k)
portion_out at n k (inl lt) = inl (omega arith)
portion_out at n k (inr le) = inr (omega arith)

portion_stays : (p : Part) (old new : List ℕ) → EndsIn (length old) p → length new ≡ p.data_len - 40 → is_searched p.kind ≡ true → OthersStay (p ∷ []) old (with_data (portion p) new old)
portion_stays p old new h e s =
    let ends : EndsIn (length old) (portion p) = omega arith in
    record {
      long = span_long (portion p).data_offset (portion p).data_len old new ends e;
      bytes = λ k out.
          span_stays (portion p).data_offset (portion p).data_len k old new ends e
          (portion_out p.data_offset p.data_len k
          (outside p.data_offset (p.data_offset + p.data_len) k
          (sym (ap (λ b. b && (nat_le p.data_offset k && nat_lt k (p.data_offset + p.data_len))) s) ∙ (neither _ _ out).0)));
    }

others_of : (P : Part → Type 0) (p : Part) (ps : List Part) → All P (p ∷ ps) → All P ps
others_of P p ps w = λ k d h. w (suc k) d (omega arith)

pub portions_stay : (parts : List Part) (packet file : List ℕ) → All (EndsIn (length file)) parts → length packet ≡ portions_len parts → AllSearched parts → OthersStay parts file (put_back parts packet file)
portions_stay [] packet file h e s = all_stay [] file
portions_stay (p ∷ ps) packet file h e s =
    let len : Part → ℕ = λ part. part.data_len - 40 in
    let n : ℕ = length (portion_of p file) in
    let long : n ≡ p.data_len - 40 = portion_long file p (h 0 p (omega arith)) in
    let sum : portions_len (p ∷ ps) ≡ (p.data_len - 40) + portions_len ps = sum_by-cons len p ps in
    let front : length (take n packet) ≡ p.data_len - 40 = grind (arith, length-take) in
    let rest : length (drop n packet) ≡ portions_len ps = grind (arith, length-drop) in
    let mid : List ℕ = with_data (portion p) (take n packet) file in
    let one : OthersStay (p ∷ []) file mid = portion_stays p file (take n packet) (h 0 p (omega arith)) front (s 0 p (omega arith)) in
    let same : length file ≡ length mid = sym one.long in
    let more : OthersStay ps mid (put_back ps (drop n packet) mid) =
    portions_stay ps (drop n packet) mid (subst (λ (m : ℕ). All (EndsIn m) ps) same (others_of (EndsIn (length file)) p ps h)) rest
    (others_of (λ part. is_searched part.kind ≡ true) p ps s) in
    both_stay (p ∷ ps) file mid (put_back ps (drop n packet) mid) (of_more [] (p ∷ []) ps file mid one) (of_drop 1 (p ∷ ps) mid (put_back ps (drop n packet) mid) more)

searched_kind : (k : Kind) → is_extended k ≡ true → is_searched k ≡ true
searched_kind kind.ExtendedXmp e = refl
searched_kind _ e = cc

all_searched : (parts : List Part) → AllExtended parts → AllSearched parts
all_searched [] h = All-nil (λ part. is_searched part.kind ≡ true)
all_searched (p ∷ ps) h = All-cons (λ part. is_searched part.kind ≡ true) p ps (searched_kind p.kind h.0) (all_searched ps h.1)

-- the portions of a packet are searched
pub run_searched : (file : List ℕ) (first : Part) (parts : List Part) (n : ℕ) → n ≡ run_len file first 0 0 parts → AllSearched (take n parts)
run_searched file first parts n e =
    let same : run_len file first 0 0 parts - 0 ≡ n = omega arith in
    all_searched (take n parts) (subst (λ k. AllExtended (take k parts)) same (run_extended file first 0 0 parts))
