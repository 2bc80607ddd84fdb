use Rattle.std.proofs.Common.{◌≡◌, ℕ, ◌<◌, length}
use Rattle.std.specs.Prelude.{nat_lt, slice_index_or}
use Rattle.exif_rename.specs.declared.present.Presence.{Presence}
use Rattle.exif_rename_commands.proofs.present.presences.Given as goal

-- the files so far
abbrev pub invariant-loop-index : goal.invariant-loop-index
invariant-loop-index l = record {
  all : length l.found.items ≡ l.index;
  sidecar : (k : ℕ) (other : Presence) → k < l.index
      → (slice_index_or l.found.items k other).is_sidecar ≡ nat_lt k l.sidecars;
}
