-- How many bytes texts take, counted text by text.
use Rattle.std.proofs.Common.{◌≡◌, ℕ, ◌+◌, ◌<◌, ◌≤◌, List, [], ◌∷◌, ◌++◌, length, take, drop, get_or, length-append, ap, sym, ◌∙◌, arith}
use Rattle.std.proofs.lemmas.List.{take-append-drop, take_more}
use Rattle.std.proofs.lemmas.List.Concat.{flat_map-append}
use Rattle.std.specs.List.{flat_map}
use Rattle.exif_types.specs.Texts.{ended, ended_length}

-- texts one behind the other take what each part takes
ended_length-append : (xs ys : List (List ℕ)) → ended_length (xs ++ ys) ≡ ended_length xs + ended_length ys
ended_length-append xs ys =
    ap length (flat_map-append ended xs ys) ∙ length-append (flat_map ended xs) (flat_map ended ys)

-- one text takes its bytes and the zero behind them
ended_length-one : (text : List ℕ) (texts : List (List ℕ)) → ended_length (text ∷ texts) ≡ length text + 1 + ended_length texts
ended_length-one text texts =
    length-append (ended text) (flat_map ended texts) ∙ ap (λ n. n + ended_length texts) (length-append text (0 ∷ []))

-- the texts up to one and that one take what they take apart
ended_more : (xs : List (List ℕ)) (i : ℕ) (x d : List ℕ) → i < length xs → x ≡ get_or xs i d
    → ended_length (take (i + 1) xs) ≡ ended_length (take i xs) + (length x + 1)
ended_more xs i x d h e =
    let a : take (i + 1) xs ≡ take i xs ++ (x ∷ []) = take_more xs i d h ∙ ap (λ y. take i xs ++ y ∷ []) (sym e) in
    let b = ended_length-append (take i xs) (x ∷ []) in
    let c = ended_length-one x [] in
    let k = ap ended_length a in
    omega arith

-- and no more than all take
pub ended_within : (xs : List (List ℕ)) (i : ℕ) (x d : List ℕ) → i < length xs → x ≡ get_or xs i d
    → ended_length (take i xs) + (length x + 1) ≤ ended_length xs
ended_within xs i x d h e =
    let a = ended_more xs i x d h e in
    let b = ended_length-append (take (i + 1) xs) (drop (i + 1) xs) in
    let k : ended_length (take (i + 1) xs ++ drop (i + 1) xs) ≡ ended_length xs = ap ended_length (take-append-drop (i + 1) xs) in
    omega arith
