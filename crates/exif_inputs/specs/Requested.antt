-- The new name that the files of a stem are to have.
use Rattle.std.specs.Prelude.{ℕ, ◌==◌, nat_eq, if◌then◌else◌, List, [], ◌∷◌, ◌++◌, codes, drop, length, map, Option, None, Some}
use Rattle.std.specs.List.{flat_map, starts_with}
use Rattle.exif_decisions.specs.Paths.{name_of, slash_after}
use Rattle.exif_rename.specs.Grouped.{ending_of, stem_of}
use Rattle.exif_rename.specs.RenameRequests.{File, Wanted}

-- what follows a stem in a path that begins with it
abbrev pub ending_behind : List ℕ → List ℕ → List ℕ
ending_behind stem path =
    if starts_with nat_eq path stem then drop (length stem) path else []

-- a file: what follows the stem in its path follows the new name in its new one
abbrev pub file_for : List ℕ → List ℕ → File
file_for stem path = record { old = path; ending = ending_behind stem path }

-- a name in a folder
abbrev pub in_folder : List ℕ → List ℕ → List ℕ
in_folder folder name = folder ++ (slash_after folder ++ name)

-- the name of a path in a folder, if both are there; else the path itself
abbrev pub named_in : Option (List ℕ) → List ℕ → List ℕ
named_in None path = path
named_in (Some folder) path =
    if length (name_of path) == 0 then path else in_folder folder (name_of path)

-- where the links of a path end, if something has it, or else its name where those of its folder do
abbrev pub absolute_by : List ℕ → Option (List ℕ) → Option (List ℕ) → List ℕ
absolute_by path None folder = named_in folder path
absolute_by path (Some found) folder = found

-- files of a stem that are to have a name in a folder
abbrev pub wanted_for : List ℕ → List ℕ → List ℕ → List (List ℕ) → Wanted
wanted_for folder stem name paths =
    record { base = in_folder folder name; files = map (file_for stem) paths }

-- what follows the name of a picture, or its whole name, in those of its sidecars: XMP packets
-- (ISO 16684-1), edits of Apple's, and thumbnails of videos
abbrev pub suffixes : List (List ℕ)
suffixes =
    codes ".xmp" ∷ codes ".XMP" ∷ codes ".aae" ∷ codes ".AAE" ∷ codes ".thm" ∷ codes ".THM" ∷ []

-- the sidecars that a path may have with a suffix: behind its stem, and behind all of it
abbrev pub sidecars_by : List ℕ → List ℕ → List (List ℕ)
sidecars_by path suffix =
    (stem_of path ++ suffix)
    ∷ (if length (ending_of path) == 0 then [] else (path ++ suffix) ∷ [])

-- all of them
abbrev pub sidecars_of : List ℕ → List (List ℕ)
sidecars_of path = flat_map (sidecars_by path) suffixes
