-- Whether a byte of GPS data is looked at as anything else.
use Rattle.std.specs.Prelude.{◌≡◌, ℕ, zero, suc, ◌==◌, not, Bool, true, List, [], ◌∷◌, ◌++◌, map, if◌then◌else◌, Ok}
use Rattle.std.specs.List.{flat_map, list_any}
use Rattle.exif_base.specs.Bytes.{Reading, number_at}
use Rattle.exif_base.specs.Orders.{number_of}
use Rattle.exif_base.specs.declared.endian.Order.{Order}
use Rattle.exif_table.specs.declared.context.Context.TheVariants.{Tiff}
use Rattle.exif_tiff.specs.Footprint.{Below, Stretch, entry_directories, following, looked_at}
use Rattle.exif_tiff.specs.Trace.{depth_of, directory_end, entry_offsets, header}
use Rattle.exif_edit_base.specs.Patches.{zeros_over}
use Rattle.exif_edit.specs.Erasing.{erase_patches, gps_spans, is_gps}
use Rattle.exif_edit.specs.Sharing.{overlaps}

-- the directories below, but those of GPS data
abbrev pub below_kept : Below → Below
below_kept below c q = if is_gps c then [] else below c q

-- the directory of context c at p, and its children but those of GPS data
abbrev pub directories_kept : ℕ → Reading → List ℕ → Below
directories_kept zero number bytes c p = p ∷ []
directories_kept (suc depth) number bytes c p =
    p ∷ flat_map
    (entry_directories (below_kept (directories_kept depth number bytes)) number bytes c)
    (entry_offsets number bytes p)

-- those of a chain from p on
abbrev pub chain_kept : ℕ → Reading → List ℕ → ℕ → List ℕ
chain_kept zero number bytes p = []
chain_kept (suc left) number bytes p =
    if p == 0 then []
    else directories_kept (depth_of Tiff) number bytes Tiff p
    ++ following (chain_kept left number bytes) (directory_end number bytes p)

-- what reading looks at but for GPS directories and their values
abbrev pub all_kept : Reading → List ℕ → List Stretch
all_kept number bytes =
    record { offset = 0; len = 8 }
    ∷ flat_map (looked_at number bytes) (chain_kept 8 number bytes (number_at number 4 bytes 4))

-- whether it looks there at no byte of GPS directories and their values
abbrev pub gps_is_unshared : Reading → List ℕ → Bool
gps_is_unshared number bytes =
    not
    (list_any (λ t. list_any (λ s. overlaps s t) (gps_spans number bytes)) (all_kept number bytes))

-- unshared GPS data are erased
abbrev pub AreErasedUnshared : List ℕ → Type 0
AreErasedUnshared bytes =
    (order : Order) → header bytes ≡ Ok order → gps_is_unshared (number_of order) bytes ≡ true
    → erase_patches bytes ≡ Ok (map zeros_over (gps_spans (number_of order) bytes))
