-- Pictures by their hashes.
use Rattle.std.proofs.Common.{◌≡◌, ◌∙◌, ap, refl, List, ℕ, Bool, true, false, Some}
use Rattle.std.specs.Prelude.{if◌then◌else◌, string_bytes}
use Rattle.std.specs.BTreeMap.{BTreeMap, Updates, get_by_text}
use Rattle.std.specs.String.{string_cmp}
use Rattle.std.specs.declared.string.String.{String}
use Rattle.std.specs.Str.{bytes_eq}
use Rattle.std.proofs.lemmas.Map.Text.{btree_map_updates_text}
use Rattle.std.proofs.lemmas.Slice.Eq.{bytes_eq-Decides}
use Rattle.exif_catalog.specs.Moves.{held, joined}
use Rattle.exif_catalog.specs.declared.moving.Holder.{Holder}

-- what a map has of the hashes, with one picture more
pub noted_more : {Y : Type 0} (m n : BTreeMap (String Y) Holder) (key : String Y) (hash path : List ℕ) (holder : Holder) → string_bytes key ≡ hash → held (Some holder) ≡ joined (held (get_by_text m hash)) path
    → Updates string_cmp m n key (Some holder) → (q : List ℕ)
    → held (get_by_text n q) ≡ (if bytes_eq hash q then joined (held (get_by_text m q)) path else held (get_by_text m q))
noted_more m n key hash path holder e new updates q =
    ap held (btree_map_updates_text (string_bytes key) m n (Some holder) updates q ∙ ap (λ (bs : List ℕ). if bytes_eq bs q then Some holder else get_by_text m q) e)
    ∙ whether (bytes_eq hash q) refl
  where
    whether : (b : Bool) → bytes_eq hash q ≡ b → held (if b then Some holder else get_by_text m q) ≡ (if b then joined (held (get_by_text m q)) path else held (get_by_text m q))
    whether true is = new ∙ ap (λ (t : List ℕ). joined (held (get_by_text m t)) path) ((bytes_eq-Decides hash q).0 is)
    whether false is = refl
