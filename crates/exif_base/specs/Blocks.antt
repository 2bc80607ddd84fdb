-- What a clause reads of a `Blocks`.
use Rattle.std.specs.Prelude.{ℕ, List, drop, take, Option, None, Some}
use Rattle.exif_base.specs.declared.blocks.Blocks.{Blocks}

-- the bytes that were read and not taken
abbrev pub at_hand : {R : Type 0} → Blocks R → List ℕ
at_hand b = drop b.at (take b.end b.block.now)

-- the source that fills the block
abbrev pub blocks_source : {R : Type 0} → Blocks R → R
blocks_source b = b.source.now

-- the name of the reference to it, by which a caller knows the source again
abbrev pub blocks_name : {R : Type 0} → Blocks R → ℕ
blocks_name b = b.source.ghost_name

-- how many more bytes it gives as a `Feed`
abbrev pub blocks_budget : {R : Type 0} → Blocks R → ℕ
blocks_budget b = b.budget

-- the known bytes, as far as they count
abbrev pub cut_known : ℕ → Option (List ℕ) → Option (List ℕ)
cut_known n None = None
cut_known n (Some xs) = Some (take n xs)
