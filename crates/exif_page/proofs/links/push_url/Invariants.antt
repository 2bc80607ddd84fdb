use Rattle.std.proofs.Common.{◌≡◌, ◌++◌, string_bytes, take}
use Rattle.exif_page.specs.Links.{url_of}
use Rattle.exif_page.proofs.links.push_url.Given as goal

-- the bytes so far are written
abbrev pub invariant-loop-byte : goal.invariant-loop-byte
invariant-loop-byte l =
    string_bytes l.out ≡ string_bytes l.initial.out ++ url_of (take l.byte-index l.path)
