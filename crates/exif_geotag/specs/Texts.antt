-- Values without white space around them.
use Rattle.std.specs.Prelude.{ℕ, suc, ◌==◌, ◌&&◌, if◌then◌else◌, List, [], ◌∷◌, drop, take}
use Rattle.exif_locations.specs.XmpScans.{is_space, run}

-- how many bytes there are up to the last one that is no white space, and it
abbrev pub kept_len : List ℕ → ℕ
kept_len [] = 0
kept_len (byte ∷ bytes) = if (kept_len bytes == 0) && is_space byte then 0 else suc (kept_len bytes)

-- a text without the white space before and behind it
abbrev pub trimmed : List ℕ → List ℕ
trimmed text =
    take (kept_len (drop (run is_space text) text)) (drop (run is_space text) text)
