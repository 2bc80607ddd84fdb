-- The entries of items, one after the other.
use Rattle.std.proofs.Common.{◌≡◌, ◌<◌, ◌+◌, ◌-◌, ℕ, List, [], ◌∷◌, ◌++◌, drop, Some, None, ap}
use Rattle.std.specs.Option.{option_map}
use Rattle.exif_inventory_heif.specs.Items.{item_entry, item_step}
use Rattle.exif_inventory_heif.specs.Loops.{repeated}
use Rattle.exif_inventory_heif.specs.declared.items.Item.{Item}
use Rattle.exif_inventory_heif.specs.declared.items.ItemEntry.{ItemEntry}
use Rattle.exif_inventory_heif.proofs.LoopSteps.{step_on, step_fails}

-- what an entry gives
abbrev with_entry : List ℕ → List Item → ItemEntry → List ℕ × List Item
with_entry rest found entry = (drop entry.len rest, found ++ entry.item ∷ [])

-- one item more
pub item_on : (n i : ℕ) (rest more : List ℕ) (found items : List Item) (entry : ItemEntry) → i < n
    → Some entry ≡ item_entry rest → more ≡ drop entry.len rest → items ≡ found ++ entry.item ∷ []
    → repeated item_step (n - i) (rest, found) ≡ repeated item_step (n - (i + 1)) (more, items)
item_on n i rest more found items entry h e m f =
    step_on item_step n i (rest, found) (more, items) h (rw (m, f) (ap (option_map (with_entry rest found)) e))

-- bytes that begin no entry
pub item_fails : (n i : ℕ) (rest : List ℕ) (found : List Item) → i < n → None ≡ item_entry rest
    → repeated item_step (n - i) (rest, found) ≡ None
item_fails n i rest found h e =
    step_fails item_step n i (rest, found) h (ap (option_map (with_entry rest found)) e)
