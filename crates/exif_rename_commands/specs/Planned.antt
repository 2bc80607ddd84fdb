-- What becomes of the files of a stem.
use Rattle.std.specs.Prelude.{◌≡◌, ℕ, Bool, true, false, ⊤, List, [], slice_get, string_bytes}
use Rattle.std.specs.Global.{Global}
use Rattle.std.specs.Option.{option_map_or}
use Rattle.std.specs.declared.string.String.{String}
use Rattle.exif_rename.specs.declared.plan.PlanError.{PlanError}
use Rattle.exif_rename.specs.declared.plan.PlanError.TheVariants as plan
use Rattle.exif_rename.specs.RenameRequests.{Wanted}
use Rattle.exif_rename_commands.specs.Members.{looks_there}
use Rattle.exif_rename_commands.specs.Present.{AreMoves, IsThere}
use Rattle.exif_rename_commands.specs.declared.planned.Fate.{Fate}
use Rattle.exif_rename_commands.specs.declared.planned.Fate.TheVariants.{Plan, Finish, Leave}

-- No copy is taken for a move that was begun, and files are looked for only where all are copied or
-- another folder is given.
abbrev pub IsFate : Bool → Bool → ℕ → Wanted → Fate → Type 0
IsFate copy has_folder sidecars wanted Plan = ⊤
IsFate copy has_folder sidecars wanted (Finish moves) =
    (copy ≡ false) × AreMoves wanted moves.items
IsFate copy has_folder sidecars wanted (Leave there) =
    (looks_there copy has_folder ≡ true) × IsThere sidecars wanted there

-- the path that is named where there is no plan: that of the picture whose new name too many files
-- have
abbrev pub path_refused : List (String Global) → PlanError → List ℕ
path_refused paths (plan.Crowded index) = option_map_or string_bytes (slice_get paths index) []
path_refused paths (plan.Io cause) = []
path_refused paths plan.OutOfMemory = []
