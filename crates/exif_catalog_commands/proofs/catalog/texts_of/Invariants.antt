use Rattle.std.proofs.Common.{◌≡◌, map, take}
use Rattle.std.specs.String.{string_bytes}
use Rattle.exif_catalog_commands.proofs.catalog.texts_of.Given as goal

-- the texts so far are those of the strings so far
abbrev pub invariant-loop-string : goal.invariant-loop-string
invariant-loop-string l =
    map (λ text. text.now) l.texts.items ≡ map string_bytes (take l.string-index l.strings)
