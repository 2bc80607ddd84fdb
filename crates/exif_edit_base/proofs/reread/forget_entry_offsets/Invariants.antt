use Rattle.std.proofs.Common.{◌≡◌, ◌++◌, drop, take, map}
use Rattle.exif_edit_base.specs.Rereading.{field_at_entry, without_entry_offsets}
use Rattle.exif_edit_base.proofs.reread.forget_entry_offsets.Given as goal

-- those behind the index are as they were
abbrev pub invariant-loop-field : goal.invariant-loop-field
invariant-loop-field l =
    take l.field-index l.fields ++ map (field_at_entry 0) (drop l.field-index l.fields)
    ≡ without_entry_offsets l.fn.fields
