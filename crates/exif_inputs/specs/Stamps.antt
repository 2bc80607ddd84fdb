-- What is known of a file at a moment.
use Rattle.std.specs.Prelude.{Bool, true, false, Option, None, Result, Ok, Err}
use Rattle.exif_inputs.specs.declared.stamps.FileStamp.{FileStamp}

-- nothing
abbrev pub unknown : FileStamp
unknown = record {
  size = None;
  modified = None;
  modified_ns = None;
  changed = None;
  changed_ns = None;
  device = None;
  inode = None;
}

-- what a regular file is; nothing is known of anything else, nor of what can't be followed
abbrev pub stamp_by : {E : Type 0} → Result (Bool × FileStamp) E → FileStamp
stamp_by (Ok (true, stamp)) = stamp
stamp_by (Ok (false, stamp)) = unknown
stamp_by (Err cause) = unknown
