use Rattle.std.proofs.Common.{◌≡◌, drop}
use Rattle.std.specs.String.{string_bytes}
use Rattle.exif_rename.specs.Naming.{known_of, named, with_text}
use Rattle.exif_rename.proofs.pattern.Pattern.name.Given as goal

abbrev pub invariant-loop-part : goal.invariant-loop-part
invariant-loop-part l = record {
  all : l.part-items ≡ l.self.parts.items;
  so_far : named l.part-items (known_of l.facts) ≡ with_text (string_bytes l.name) (named (drop l.part-index l.part-items) (known_of l.facts));
}
