-- The order of tags.
use Rattle.std.specs.declared.cmp.Ordering.{Ordering}
use Rattle.std.specs.Ordering.{nat_cmp, ordering_then}
use Rattle.exif_table.specs.Contexts.{context_order}
use Rattle.exif_types.specs.declared.tag.Tag.{Tag}

-- tags by their contexts, and in one context by their numbers
abbrev pub tag_order : Tag → Tag → Ordering
tag_order a b = ordering_then (context_order a.0 b.0) (nat_cmp a.1 b.1)
