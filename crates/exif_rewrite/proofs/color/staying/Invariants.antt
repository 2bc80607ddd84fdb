use Rattle.std.proofs.Common.{◌≡◌, [], drop}
use Rattle.exif_rewrite.specs.Color.{with_staying}
use Rattle.exif_rewrite.proofs.color.staying.Given as goal

-- the parts that are left add to what is there what all of them add to nothing
abbrev pub invariant-loop-part : goal.invariant-loop-part
invariant-loop-part l =
    with_staying (drop l.part-index l.parts) l.rest l.new.items ≡ with_staying l.parts l.fn.file []
