use Rattle.std.proofs.Common.{◌≡◌, ℕ, ◌≤◌, List, [], ◌∷◌, ◌++◌, length, take, map, refl, ap, arith}
use Rattle.std.proofs.lemmas.List.{take_all}
use Rattle.std.proofs.Output.{has_written_of_eq}
use Rattle.std.specs.List.{flat_map}
use Rattle.exif_table.specs.declared.row.UnitPiece.{UnitPiece}
use Rattle.exif_table.specs.View.{piece_view}
use Rattle.exif_types.specs.declared.field.Field.{Field}
use Rattle.exif_types.specs.Units.{piece_text, pieces_text}
use Rattle.exif_types.proofs.unit.write_pieces.Goals as goal

module _ (field : Field) (fields : List Field) where
  -- each piece of the code is one of the table
  viewed : (xs : List UnitPiece) → flat_map (λ x. piece_text field fields (piece_view x)) xs ≡ flat_map (piece_text field fields) (map piece_view xs)
  viewed [] = refl
  viewed (x ∷ xs) = ap (λ t. piece_text field fields (piece_view x) ++ t) (viewed xs)

  -- after the last piece, where there is one
  all_pieces : (xs : List UnitPiece) (i : ℕ) → (length xs ≡ 0 → ⊥) → length xs ≤ i
      → flat_map (λ x. piece_text field fields (piece_view x)) (take i xs) ≡ pieces_text field fields (map piece_view xs)
  all_pieces [] i some all = absurd (some refl)
  all_pieces (x ∷ xs) i some all = rw (take_all i (x ∷ xs) all) (viewed (x ∷ xs))

pub returns : goal.returns
returns g c plain ok =
    let some : length c.args.pieces.now ≡ 0 → ⊥ = grind (arith, c.if-is_empty.ensures) in
    has_written_of_eq _ _ _ _ _ (all_pieces c.args.field.now (g.T.ProvideUnit.fields c.args.unit) c.args.pieces.now c.loop-piece.piece-index some c.loop-piece-test.false) (c.loop-piece.invariant plain)
