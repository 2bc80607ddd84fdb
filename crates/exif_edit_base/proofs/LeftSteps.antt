-- The steps of what is left over.
use Rattle.std.proofs.Common.{◌≡◌, ◌==◌, ℕ, Bool, List, length, Ok, Err, refl, ap, ◌∙◌}
use Rattle.std.specs.Prelude.{◌||◌}
use Rattle.std.specs.List.{filter, flat_map, list_any}
use Rattle.exif_base.specs.Bytes.{Reading}
use Rattle.exif_base.specs.declared.endian.Order.{Order}
use Rattle.exif_base.specs.Orders.{number_of, order_named}
use Rattle.exif_tiff.specs.declared.stop.Stop.{Stop}
use Rattle.exif_tiff.specs.declared.stop.Stop.TheVariants as stop
use Rattle.exif_edit_base.specs.Causes.{Becomes, Fails}
use Rattle.exif_edit_base.specs.GpsOffsets.{all_directories, gps_offsets, gps_pointers, is_full, is_left, left_pointers, leftovers, max_directories, meets_limit, pointers}
use Rattle.exif_edit_base.specs.declared.offsets.Target.TheVariants.{Gps}
use Rattle.exif_edit_base.specs.Readings.{Read, ReadsTo, reading}
use Rattle.exif_edit_base.specs.declared.error.Error.{Error}

-- where reading stops, the answer is the error that the stop becomes
pub left_fault : (s : Stop) (bytes : List ℕ) (e : Error) → ReadsTo (Err s) (reading bytes)
    → Becomes s e → Fails e (leftovers bytes)
unfolding leftovers
left_fault stop.OutOfMemory bytes e h b = rw b refl
left_fault (stop.Fault fault) bytes e h b = rw (b, h) refl

module _ (number : Reading) (bytes : List ℕ) where
  -- the pointers of the directories that were found
  pub pointers_found : (ds ps : List ℕ) → ds ≡ all_directories number bytes
      → ps ≡ flat_map (pointers Gps number bytes) ds → ps ≡ gps_pointers number bytes
  unfolding gps_pointers
  pointers_found ds ps d p = p ∙ ap (λ xs. flat_map (pointers Gps number bytes) xs) d

  -- those of them that lead to no directory of these
  pub left_found : (os ps ls : List ℕ) → os ≡ gps_offsets number bytes
      → ps ≡ gps_pointers number bytes → ls ≡ filter (is_left bytes os) ps
      → ls ≡ left_pointers number bytes
  left_found os ps ls o p l =
      l
      ∙ (ap (λ xs. filter (is_left bytes xs) ps) o
      ∙ ap (λ xs. filter (is_left bytes (gps_offsets number bytes)) xs) p)

  -- whether there may be more
  pub met_found : (ds : List ℕ) (met : Bool) → ds ≡ all_directories number bytes
      → met ≡ ((length ds == max_directories) || list_any (is_full number bytes) ds)
      → met ≡ meets_limit number bytes
  met_found ds met d m =
      m
      ∙ ap (λ xs. (length xs == max_directories) || list_any (is_full number bytes) xs) d

-- of data that are read
pub left_read : (bytes : List ℕ) (read : Read) (order : Order) (ps : List ℕ) (met : Bool)
    → reading bytes ≡ Ok read → order ≡ order_named read.little
    → ps ≡ left_pointers (number_of order) bytes → met ≡ meets_limit (number_of order) bytes
    → leftovers bytes ≡ Ok (record { pointers = ps; meets_limit = met })
unfolding leftovers
left_read bytes read order ps met h o p m = rw (h, ← o, p, m) refl
