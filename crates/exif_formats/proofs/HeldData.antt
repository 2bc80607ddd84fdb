-- What the calls that find Exif data answer of files in memory, from their clauses.
use Rattle.std.proofs.Common.{◌≡◌, ℕ, ◌-◌, ◌^◌, List, ◌++◌, Option, None, Some, Result, Ok, Err, Vec, Global, IfOk, IfErr, MatchOption, ap, subst}
use Rattle.exif_types.specs.Failures.{Failure}
use Rattle.exif_types.specs.Refusals.{Fails, Gives, IsInterrupted, Refusal, refusal_of}
use Rattle.exif_segments.specs.Answer.{Answer, found}
use Rattle.exif_containers.specs.Container.{data_of}
use Rattle.exif_containers.specs.Png.{png_answer}
use Rattle.exif_formats.specs.Jxl.{jxl_answer}
use Rattle.exif_formats.specs.Raf.{behind_limit, raf_answer}
use Rattle.exif_formats.specs.Pictures.{png_data}

abbrev pub items_of : Vec ℕ Global → List ℕ
items_of v = v.items

fails_data : (o : Option Refusal) (I : Type 0) (a : Answer) → MatchOption o I (λ r. a ≡ Err r) → MatchOption o I (λ r. data_of a ≡ Err r)
fails_data None I a h = h
fails_data (Some r) I a h = ap data_of h

-- the data of a container whose reader answers this of the bytes that it had
gives_by : (answer : List ℕ → Answer) (result : Result (Vec ℕ Global) Failure) (xs ys : List ℕ)
    → IfOk result (λ v. answer xs ≡ found v.items ys) → IfErr result (λ e. Fails e (answer xs))
    → Gives items_of result (data_of (answer xs))
gives_by answer (Ok v) xs ys f r = ap data_of f
gives_by answer (Err x) xs ys f r = fails_data (refusal_of x) (IsInterrupted x) (answer xs) r

-- the same of a PNG file
pub gives_png : (result : Result (Vec ℕ Global) Failure) (xs ys file : List ℕ)
    → IfOk result (λ v. png_answer (2 ^ 64 - 1) xs ≡ found v.items ys)
    → IfErr result (λ e. Fails e (png_answer (2 ^ 64 - 1) xs))
    → xs ≡ file
    → Gives items_of result (png_data file)
unfolding png_data
gives_png result xs ys file f r e =
    subst (λ (bytes : List ℕ). Gives items_of result (png_data bytes)) e (gives_by (png_answer (2 ^ 64 - 1)) result xs ys f r)

-- of a JPEG XL file
pub gives_jxl : (result : Result (Vec ℕ Global) Failure) (xs ys file : List ℕ)
    → IfOk result (λ v. jxl_answer xs ≡ found v.items ys)
    → IfErr result (λ e. Fails e (jxl_answer xs))
    → xs ≡ file
    → Gives items_of result (data_of (jxl_answer file))
gives_jxl result xs ys file f r e =
    subst (λ (bytes : List ℕ). Gives items_of result (data_of (jxl_answer bytes))) e (gives_by jxl_answer result xs ys f r)

-- the data of a raw file of Fujifilm, whatever follows them
raf_by : (result : Result (Vec ℕ Global) Failure) (xs ys : List ℕ)
    → IfOk result (λ v. (rest : List ℕ) × (raf_answer xs ≡ found v.items rest) × (ys ≡ rest ++ behind_limit xs))
    → IfErr result (λ e. Fails e (raf_answer xs))
    → Gives items_of result (data_of (raf_answer xs))
raf_by (Ok v) xs ys f r = ap data_of f.1
raf_by (Err x) xs ys f r = fails_data (refusal_of x) (IsInterrupted x) (raf_answer xs) r

-- of such a file
pub gives_raf : (result : Result (Vec ℕ Global) Failure) (xs ys file : List ℕ)
    → IfOk result (λ v. (rest : List ℕ) × (raf_answer xs ≡ found v.items rest) × (ys ≡ rest ++ behind_limit xs))
    → IfErr result (λ e. Fails e (raf_answer xs))
    → xs ≡ file
    → Gives items_of result (data_of (raf_answer file))
gives_raf result xs ys file f r e =
    subst (λ (bytes : List ℕ). Gives items_of result (data_of (raf_answer bytes))) e (raf_by result xs ys f r)
