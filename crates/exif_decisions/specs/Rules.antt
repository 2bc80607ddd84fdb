-- What the program does with a name, an OUT and a word.
use Rattle.std.specs.Prelude.{ℕ, List, [], ◌∷◌, Bool, true, false, ◌||◌, ◌&&◌, ◌==◌, if◌then◌else◌, nat_eq, nat_lt, length, drop, codes, Option, Some, None, Result, Ok, Err}
use Rattle.std.specs.Char.{is_ascii_digit}
use Rattle.std.specs.List.{starts_with, ends_with, list_all, list_any}
use Rattle.std.specs.Str.{bytes_eq}
use Rattle.exif_decisions.specs.declared.rules.Kind.{Kind}
use Rattle.exif_decisions.specs.declared.rules.Kind.TheVariants.{File, Folder, Link, Other}
use Rattle.exif_decisions.specs.declared.rules.Look.{Look}
use Rattle.exif_decisions.specs.declared.rules.Look.TheVariants.{Input, Unreadable, Path}
use Rattle.exif_decisions.specs.declared.rules.Action.{Action}
use Rattle.exif_decisions.specs.declared.rules.Action.TheVariants.{Process, ProcessPicture, Enter, RefuseFolder, SkipLink, SkipOwn, SkipTemporary, Ignore}
use Rattle.exif_decisions.specs.declared.rules.Existing.{Existing}
use Rattle.exif_decisions.specs.declared.rules.Existing.TheVariants.{Absent, Regular}
use Rattle.exif_decisions.specs.declared.rules.Existing.TheVariants as existing
use Rattle.exif_decisions.specs.declared.rules.Destination.{Destination}
use Rattle.exif_decisions.specs.declared.rules.Destination.TheVariants.{StandardOutput, New, Replace}
use Rattle.exif_decisions.specs.declared.rules.NoDestination.{NoDestination}
use Rattle.exif_decisions.specs.declared.rules.NoDestination.TheVariants.{Same, Exists, Special}

-- The kind of a path, by whether the system says that it is a folder, a regular file, or a link.
abbrev pub kind_for : Bool → Bool → Bool → Kind
kind_for true is_file is_link = Folder
kind_for false true is_link = File
kind_for false false true = Link
kind_for false false false = Other

-- whether a name has a zero byte, which no file's name has: so are bytes written that are no UTF-8
abbrev pub is_unreadable : List ℕ → Bool
is_unreadable name = list_any (λ byte. byte == 0) name

-- What a path is before the system is asked. `-` stands for standard input where it was named
-- (POSIX.1-2017, Base Definitions, 12.2, Guideline 13).
abbrev pub look_for : List ℕ → Bool → Look
look_for path is_named =
    if is_named && bytes_eq path (codes "-") then Input
    else (if is_unreadable path then Unreadable else Path)

-- the names of files that are being written: a word and a number
abbrev pub is_temporary : List ℕ → Bool
is_temporary name =
    starts_with nat_eq name (codes ".mexaldor-")
    && (nat_lt 10 (length name) && list_all is_ascii_digit (drop 10 name))

-- the names of backups, and of files that are being written
abbrev pub is_own : List ℕ → Bool
is_own name = starts_with nat_eq name (codes ".mexaldor-") || ends_with nat_eq name (codes ".orig")

-- What is done with a file of this name that was found in a folder: the program's own files are
-- not taken for pictures, and those that a run left are reported.
abbrev pub action_by_name : List ℕ → Action
action_by_name name =
    if is_temporary name then SkipTemporary
    else (if is_own name then SkipOwn else ProcessPicture)

-- What is done with a path. One that was named is processed, whatever its name and kind; a folder
-- is entered only where folders are. Of those found in folders, links are never followed.
abbrev pub action_for : Kind → Bool → List ℕ → Bool → Action
action_for Folder true name recursive = if recursive then Enter else RefuseFolder
action_for Folder false name recursive = Enter
action_for File true name recursive = Process
action_for Link true name recursive = Process
action_for Other true name recursive = Process
action_for Link false name recursive = SkipLink
action_for Other false name recursive = Ignore
action_for File false name recursive = action_by_name name

-- What an OUT is: whether the file that it leads to is a regular one, if it leads to one, and
-- whether the name itself is there.
abbrev pub existing_for : Option Bool → Bool → Existing
existing_for (Some true) is_there = Regular
existing_for (Some false) is_there = existing.Special
existing_for None true = existing.Special
existing_for None false = Absent

-- Where OUT is written: never over FILE itself, nor over what is no regular file, and over a file
-- only if that is forced.
abbrev pub destination_for : Bool → Bool → Existing → Bool → Result Destination NoDestination
destination_for true is_same there force = Ok StandardOutput
destination_for false true there force = Err Same
destination_for false false Absent force = Ok New
destination_for false false Regular force = if force then Ok Replace else Err Exists
destination_for false false existing.Special force =
    if force then Err Special else Err Exists

-- an assignment has a `=` (61) and before it no `/` (47)
abbrev pub assigns : List ℕ → Bool
assigns [] = false
assigns (byte ∷ rest) = if byte == 61 then true else if byte == 47 then false else assigns rest
