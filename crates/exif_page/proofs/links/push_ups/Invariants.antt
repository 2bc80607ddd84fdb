use Rattle.std.proofs.Common.{◌≡◌, ◌++◌, string_bytes, take}
use Rattle.exif_page.specs.Links.{ups}
use Rattle.exif_page.proofs.links.push_ups.Given as goal

-- the steps up for the bytes so far
abbrev pub invariant-loop-byte : goal.invariant-loop-byte
invariant-loop-byte l =
    string_bytes l.out ≡ string_bytes l.initial.out ++ ups (take l.byte-index l.rest)
