use Rattle.exif_json.specs.Files.{fault_json}
use Rattle.exif_json.proofs.Prints.{listed_all, listed_more}
use Rattle.exif_json.proofs.files.write_faults.Goals as goal

pub loop-fault-preserved : goal.loop-fault-preserved
loop-fault-preserved c =
    let said = c.in_ok-write_fault.ensures in
    listed_more fault_json _ _ _ _ _ _ _ c.loop-fault-test.true c.fault-item.is c.loop-fault.invariant said.written said.before

pub returns : goal.returns
returns c = listed_all _ fault_json _ _ _ _ _ _ c.in_ok-begin_array.ensures.ok c.in_ok-begin_array.ensures.room.0 c.loop-fault-test.false c.loop-fault.invariant c.end_array.ensures.ok c.end_array.ensures.room.0
