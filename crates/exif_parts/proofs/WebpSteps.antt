-- One chunk more of a WebP file that is filtered.
use Rattle.std.proofs.Common.{◌≡◌, ◌<◌, ◌≤◌, ◌-◌, ℕ, zero, suc, Bool, cond, List, ◌++◌, drop, Result, Ok, Err, refl, ap, sym, ◌∙◌, arith}
use Rattle.std.proofs.lemmas.Bool.{ne_eqb}
use Rattle.exif_types.specs.Refusals.{Refusal, ◌>>=◌}
use Rattle.exif_inventory.specs.declared.piece.Piece.{Piece}
use Rattle.exif_segments.specs.declared.remove.Remove.{Remove}
use Rattle.exif_parts.specs.Webp.{Kept, filtered, kept_chunk}
use Rattle.exif_parts.specs.WebpChunks.{space_behind, whole_chunk}

-- what is left becomes what all becomes
pub record Runs (remove : Remove) (put : Bool) (answer : Result Kept Refusal) (space : ℕ) (bytes out : List ℕ) : Type 0 where
  pub n : ℕ
  pub enough : space ≤ n
  pub same : filtered n remove put space bytes out ≡ answer

-- the start
pub runs : (remove : Remove) (put : Bool) (space : ℕ) (bytes out : List ℕ)
    → Runs remove put (filtered space remove put space bytes out) space bytes out
runs remove put space bytes out = record { n = space; enough = omega arith; same = refl }

-- what the first chunk becomes, and what follows it
abbrev pub with_first : ℕ → Remove → Bool → ℕ → List ℕ → List ℕ → Result Piece Refusal → Result Kept Refusal
with_first n remove put space bytes out first =
    first >>= λ piece. filtered n remove put (space_behind piece.next) (drop (space - space_behind piece.next) bytes) (out ++ kept_chunk remove put piece bytes)

-- where there is space, the first chunk is what comes next
pub filtered_step : (n : ℕ) (remove : Remove) (put : Bool) (space : ℕ) (bytes out : List ℕ) → 0 < space
    → filtered (suc n) remove put space bytes out ≡ with_first n remove put space bytes out (whole_chunk space bytes)
unfolding filtered
filtered_step n remove put space bytes out some =
    ap (λ t. cond t (Ok (record { chunks = out; rest = bytes })) (with_first n remove put space bytes out (whole_chunk space bytes)))
    (ne_eqb space 0 (λ e. omega (arith, some, e)))

-- where there is none, all is kept
pub filtered_over : (n : ℕ) (remove : Remove) (put : Bool) (bytes out : List ℕ)
    → filtered n remove put 0 bytes out ≡ Ok (record { chunks = out; rest = bytes })
unfolding filtered
filtered_over zero remove put bytes out = refl
filtered_over (suc n) remove put bytes out = refl

-- the first chunk
pub record Begun (remove : Remove) (put : Bool) (answer : Result Kept Refusal) (space : ℕ) (bytes out : List ℕ) : Type 0 where
  pub n : ℕ
  pub enough : space ≤ suc n
  pub same : with_first n remove put space bytes out (whole_chunk space bytes) ≡ answer

begun : (remove : Remove) (put : Bool) (answer : Result Kept Refusal) (space : ℕ) (bytes out : List ℕ) (n : ℕ) → 0 < space → space ≤ n
    → filtered n remove put space bytes out ≡ answer → Begun remove put answer space bytes out
begun remove put answer space bytes out zero some h e = absurd (omega arith)
begun remove put answer space bytes out (suc n) some h e = record { n = n; enough = h; same = sym (filtered_step n remove put space bytes out some) ∙ e }

-- the answer where no space is left
pub runs_over : (remove : Remove) (put : Bool) (answer : Result Kept Refusal) (space : ℕ) (bytes out : List ℕ)
    → Runs remove put answer space bytes out → space ≤ 0 → answer ≡ Ok (record { chunks = out; rest = bytes })
runs_over remove put answer space bytes out r none =
    let zero_is : space ≡ 0 = omega arith in
    sym r.same ∙ ap (λ k. filtered r.n remove put k bytes out) zero_is ∙ filtered_over r.n remove put bytes out

-- the answer where the chunk is refused
pub runs_refused : (remove : Remove) (put : Bool) (answer : Result Kept Refusal) (space : ℕ) (bytes out : List ℕ) (why : Refusal)
    → Runs remove put answer space bytes out → 0 < space → whole_chunk space bytes ≡ Err why → answer ≡ Err why
runs_refused remove put answer space bytes out why r some e =
    let b = begun remove put answer space bytes out r.n some r.enough r.same in
    sym b.same ∙ ap (with_first b.n remove put space bytes out) e

-- the next chunk
pub runs_on : (remove : Remove) (put : Bool) (answer : Result Kept Refusal) (space : ℕ) (bytes out : List ℕ) (piece : Piece) (rest out' : List ℕ)
    → Runs remove put answer space bytes out → 0 < space → whole_chunk space bytes ≡ Ok piece → space_behind piece.next < space
    → rest ≡ drop (space - space_behind piece.next) bytes → out' ≡ out ++ kept_chunk remove put piece bytes
    → Runs remove put answer (space_behind piece.next) rest out'
runs_on remove put answer space bytes out piece rest out' r some e less d o =
    let b = begun remove put answer space bytes out r.n some r.enough r.same in
    let k = b.enough in record {
      n = b.n;
      enough = omega arith;
      same = ap (λ (l : List ℕ). filtered b.n remove put (space_behind piece.next) l out') d
          ∙ ap (λ (l : List ℕ). filtered b.n remove put (space_behind piece.next) (drop (space - space_behind piece.next) bytes) l) o
          ∙ sym (ap (with_first b.n remove put space bytes out) e)
          ∙ b.same;
    }
