use Rattle.std.proofs.Common.{◌≡◌, false, take}
use Rattle.std.specs.List.{list_any}
use Rattle.exif_edit_base.specs.EntryLimit.{is_limit_fault}
use Rattle.exif_edit_base.proofs.limit.has_limit_fault.Given as goal

-- no fault so far is one
abbrev pub invariant-loop-fault : goal.invariant-loop-fault
invariant-loop-fault l = list_any is_limit_fault (take l.fault-index l.faults) ≡ false
