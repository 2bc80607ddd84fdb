use Rattle.std.proofs.Common.{take}
use Rattle.std.specs.List.{flat_map}
use Rattle.std.specs.Fmt.{HasWritten, IsPlainFormatter}
use Rattle.exif_table.specs.View.{piece_view}
use Rattle.exif_types.specs.Units.{piece_text}
use Rattle.exif_types.proofs.unit.write_pieces.Given as goal

-- the pieces so far are written
abbrev pub invariant-loop-piece : goal.invariant-loop-piece
invariant-loop-piece g l =
    IsPlainFormatter l.initial.f
    → HasWritten g.W.Write.write_str_gives l.initial.f
    (flat_map (λ piece. piece_text l.field (g.T.ProvideUnit.fields l.unit) (piece_view piece)) (take l.piece-index l.pieces)) l.f
