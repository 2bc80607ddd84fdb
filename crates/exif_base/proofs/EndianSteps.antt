-- Bytes put over the front of what lies behind an offset.
use Rattle.std.proofs.Common.{◌≡◌, ℕ, ◌+◌, ◌-◌, List, [], ◌++◌, length, take, drop, refl, arith, append-nil, length-drop}
use Rattle.std.proofs.lemmas.List.{drop-drop, take_all}
use Rattle.std.proofs.Math.ListN.{drop_of_length-le}
use borrow.Rule.Slice.PartMut.{mid_of, post_of, put_mid}

-- the part behind an offset is what lies behind it
whole_part : (from : ℕ) (old : List ℕ) → mid_of from (length old - from) old ≡ drop from old
whole_part from old = take_all (length old - from) (drop from old) (rw length-drop (omega arith))

-- nothing lies behind that part
none_after : (from : ℕ) (old : List ℕ) → post_of from (length old - from) old ≡ []
none_after from old = drop_of_length-le (drop from old) (rw length-drop (omega arith))

-- n bytes put over the front of the part behind an offset
pub put_over : (from n : ℕ) (old bytes new : List ℕ) → new ≡ bytes ++ drop n (mid_of from (length old - from) old)
    → put_mid from (length old - from) old new ≡ take from old ++ (bytes ++ drop (from + n) old)
put_over from n old bytes new over =
    rw (none_after from old, append-nil, over, whole_part from old, drop-drop) refl
