-- One piece more of a JPEG stream that is filtered.
use Rattle.std.proofs.Common.{◌≡◌, ◌<◌, ◌≤◌, ◌-◌, ℕ, zero, suc, Bool, true, false, cond, List, [], ◌∷◌, ◌++◌, length, take, drop, Option, None, Some, Ok, Err, refl, ap, sym, ◌∙◌, arith, length-drop}
use Rattle.exif_types.specs.Refusals.{invalid_format}
use Rattle.exif_segments.specs.Removing.{behind}
use Rattle.exif_segments.specs.declared.remove.Remove.{Remove}
use Rattle.exif_inventory.specs.JpegPieces.{stream_piece}
use Rattle.exif_inventory.specs.declared.piece.Piece.{Piece}
use Rattle.exif_parts.specs.Jpeg.{Rewriting, filtered, inserted, is_scanned, pending, unless_flawed, with_len, with_piece}
use Rattle.exif_parts.specs.Kept.{kept}
use Rattle.exif_parts.specs.Markers.{flaw, is_broken, is_end, is_insertion_point, marker_of}
use Rattle.exif_parts.specs.Written.{finished}
use Rattle.exif_parts.specs.declared.rewritten.Ended.TheVariants.{Whole, Cut}
use Rattle.exif_parts.proofs.Pieces.{full_len}

-- what is left becomes what all becomes
pub record Runs (remove : Remove) (answer : Rewriting) (scanned : Bool) (new bytes made : List ℕ) : Type 0 where
  pub n : ℕ
  pub enough : length bytes ≤ n
  pub same : filtered n remove scanned new bytes made ≡ answer

-- the start
pub runs : (remove : Remove) (new bytes made : List ℕ)
    → Runs remove (filtered (length bytes) remove false new bytes made) false new bytes made
runs remove new bytes made = record { n = length bytes; enough = omega arith; same = refl }

-- the first piece
pub record Begun (remove : Remove) (answer : Rewriting) (scanned : Bool) (new bytes made : List ℕ) : Type 0 where
  pub n : ℕ
  pub enough : length bytes ≤ suc n
  pub same : with_len remove new bytes made (stream_piece 0 scanned bytes) (full_len (stream_piece 0 scanned bytes)) (filtered n remove) ≡ answer

begun : (remove : Remove) (answer : Rewriting) (scanned : Bool) (new bytes made : List ℕ) (n : ℕ) → 0 < length bytes → length bytes ≤ n
    → filtered n remove scanned new bytes made ≡ answer → Begun remove answer scanned new bytes made
unfolding filtered
begun remove answer scanned new [] made n some h e = absurd (omega arith)
begun remove answer scanned new (b ∷ bytes) made zero some h e = absurd (omega arith)
begun remove answer scanned new (b ∷ bytes) made (suc n) some h e = record { n = n; enough = h; same = e }

-- the answer where the piece is cut off
pub runs_cut : (remove : Remove) (answer : Rewriting) (scanned : Bool) (new bytes made : List ℕ) (piece : Piece)
    → Runs remove answer scanned new bytes made → 0 < length bytes → piece ≡ stream_piece 0 scanned bytes
    → is_broken piece.kind ≡ true → answer ≡ Ok (finished made new Cut)
runs_cut remove answer scanned new bytes made piece r some p c =
    let b = begun remove answer scanned new bytes made r.n some r.enough r.same in
    let len = full_len piece in
    sym b.same
    ∙ ap (λ (q : Piece). with_len remove new bytes made q (full_len q) (filtered b.n remove)) (sym p)
    ∙ ap (λ t. cond t (Ok (finished made new Cut)) (unless_flawed (flaw (take len bytes)) (with_piece remove new made piece (take len bytes) (drop len bytes) (filtered b.n remove)))) c

-- else, by the piece
unless_cut : (remove : Remove) (answer : Rewriting) (scanned : Bool) (new bytes made : List ℕ) (piece : Piece) (span : List ℕ)
    → (b : Begun remove answer scanned new bytes made) → piece ≡ stream_piece 0 scanned bytes → is_broken piece.kind ≡ false
    → span ≡ take (full_len piece) bytes
    → answer ≡ unless_flawed (flaw span) (with_piece remove new made piece span (drop (full_len piece) bytes) (filtered b.n remove))
unless_cut remove answer scanned new bytes made piece span b p c t =
    let next = filtered b.n remove in
    let rest = drop (full_len piece) bytes in
    sym b.same
    ∙ ap (λ (q : Piece). with_len remove new bytes made q (full_len q) next) (sym p)
    ∙ ap (λ (x : List ℕ). cond (is_broken piece.kind) (Ok (finished made new Cut)) (unless_flawed (flaw x) (with_piece remove new made piece x rest next))) (sym t)
    ∙ ap (λ b. cond b (Ok (finished made new Cut)) (unless_flawed (flaw span) (with_piece remove new made piece span rest next))) c

-- the answer where the piece is refused
pub runs_flawed : (remove : Remove) (answer : Rewriting) (scanned : Bool) (new bytes made : List ℕ) (piece : Piece) (span wrong : List ℕ)
    → Runs remove answer scanned new bytes made → 0 < length bytes → piece ≡ stream_piece 0 scanned bytes → is_broken piece.kind ≡ false
    → span ≡ take (full_len piece) bytes → flaw span ≡ Some wrong → answer ≡ Err (invalid_format wrong)
runs_flawed remove answer scanned new bytes made piece span wrong r some p c t f =
    let b = begun remove answer scanned new bytes made r.n some r.enough r.same in
    unless_cut remove answer scanned new bytes made piece span b p c t
    ∙ ap (λ (o : Option (List ℕ)). unless_flawed o (with_piece remove new made piece span (drop (full_len piece) bytes) (filtered b.n remove))) f

-- else, by the piece
with_it : (remove : Remove) (answer : Rewriting) (scanned : Bool) (new bytes made : List ℕ) (piece : Piece) (span rest : List ℕ)
    → (b : Begun remove answer scanned new bytes made) → piece ≡ stream_piece 0 scanned bytes → is_broken piece.kind ≡ false
    → span ≡ take (full_len piece) bytes → rest ≡ drop (full_len piece) bytes → flaw span ≡ None
    → answer ≡ with_piece remove new made piece span rest (filtered b.n remove)
with_it remove answer scanned new bytes made piece span rest b p c t d f =
    let next = filtered b.n remove in
    unless_cut remove answer scanned new bytes made piece span b p c t
    ∙ ap (λ (y : List ℕ). unless_flawed (flaw span) (with_piece remove new made piece span y next)) (sym d)
    ∙ ap (λ (o : Option (List ℕ)). unless_flawed o (with_piece remove new made piece span rest next)) f

-- the end of the image
pub runs_ended : (remove : Remove) (answer : Rewriting) (scanned : Bool) (new bytes made : List ℕ) (piece : Piece) (span rest made' : List ℕ)
    → Runs remove answer scanned new bytes made → 0 < length bytes → piece ≡ stream_piece 0 scanned bytes → is_broken piece.kind ≡ false
    → span ≡ take (full_len piece) bytes → rest ≡ drop (full_len piece) bytes → flaw span ≡ None
    → is_end (marker_of span) ≡ true → made' ≡ (made ++ inserted (is_insertion_point (marker_of span)) new) ++ kept remove piece.kind span
    → answer ≡ Ok (finished made' (behind remove rest) Whole)
runs_ended remove answer scanned new bytes made piece span rest made' r some p c t d f e m =
    let b = begun remove answer scanned new bytes made r.n some r.enough r.same in
    let next = filtered b.n remove in
    let whole : List ℕ = (made ++ inserted (is_insertion_point (marker_of span)) new) ++ kept remove piece.kind span in
    with_it remove answer scanned new bytes made piece span rest b p c t d f
    ∙ ap (λ x. cond x (Ok (finished whole (behind remove rest) Whole)) (next (is_scanned piece.next) (pending (is_insertion_point (marker_of span)) new) rest whole)) e
    ∙ ap (λ (w : List ℕ). Ok (finished w (behind remove rest) Whole)) (sym m)

-- the next piece
pub runs_on : (remove : Remove) (answer : Rewriting) (scanned : Bool) (new bytes made : List ℕ) (piece : Piece) (span rest left made' : List ℕ)
    → Runs remove answer scanned new bytes made → 0 < length bytes → piece ≡ stream_piece 0 scanned bytes → 0 < full_len piece → is_broken piece.kind ≡ false
    → span ≡ take (full_len piece) bytes → rest ≡ drop (full_len piece) bytes → flaw span ≡ None
    → is_end (marker_of span) ≡ false → made' ≡ (made ++ inserted (is_insertion_point (marker_of span)) new) ++ kept remove piece.kind span
    → left ≡ pending (is_insertion_point (marker_of span)) new
    → Runs remove answer (is_scanned piece.next) left rest made'
runs_on remove answer scanned new bytes made piece span rest left made' r some p long c t d f e m l =
    let b = begun remove answer scanned new bytes made r.n some r.enough r.same in
    let next = filtered b.n remove in
    let whole : List ℕ = (made ++ inserted (is_insertion_point (marker_of span)) new) ++ kept remove piece.kind span in
    let enough : length bytes ≤ suc b.n = b.enough in
    let short : length rest ≡ length bytes - full_len piece = ap length d ∙ length-drop (full_len piece) bytes in
    let on : answer ≡ next (is_scanned piece.next) left rest made' =
    with_it remove answer scanned new bytes made piece span rest b p c t d f
    ∙ ap (λ x. cond x (Ok (finished whole (behind remove rest) Whole)) (next (is_scanned piece.next) (pending (is_insertion_point (marker_of span)) new) rest whole)) e
    ∙ ap (λ (w : List ℕ). next (is_scanned piece.next) (pending (is_insertion_point (marker_of span)) new) rest w) (sym m)
    ∙ ap (λ (w : List ℕ). next (is_scanned piece.next) w rest made') (sym l) in
    record { n = b.n; enough = omega arith; same = sym on }

none_left : (n : ℕ) (remove : Remove) (scanned : Bool) (new bytes made : List ℕ) → length bytes ≡ 0 → filtered n remove scanned new bytes made ≡ Ok (finished made new Cut)
unfolding filtered
none_left zero remove scanned new [] made h = refl
none_left (suc n) remove scanned new [] made h = refl
none_left n remove scanned new (b ∷ bytes) made h = absurd (omega arith)

-- no piece is left
pub runs_over : (remove : Remove) (answer : Rewriting) (scanned : Bool) (new bytes made : List ℕ)
    → Runs remove answer scanned new bytes made → length bytes ≡ 0 → answer ≡ Ok (finished made new Cut)
runs_over remove answer scanned new bytes made r h = sym r.same ∙ none_left r.n remove scanned new bytes made h
