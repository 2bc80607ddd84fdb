-- One more entry of an index of pictures.
use Rattle.std.proofs.Common.{◌≡◌, ℕ, suc, ◌+◌, Bool, List, drop, refl}
use Rattle.exif_lengths.specs.Pictures.{entries_len, entry_len}

pub entries_step : (little : Bool) (left k : ℕ) (rest : List ℕ) → left ≡ suc k
    → entries_len little left rest ≡ entry_len little rest + entries_len little k (drop 12 rest)
entries_step little left k rest is = rw is refl
