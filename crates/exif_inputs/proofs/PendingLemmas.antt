use Rattle.std.proofs.Common.{◌≡◌, ◌∙◌, ◌≤◌, ℕ, List, [], ◌∷◌, ◌++◌, ap, append-nil, append_assoc, arith, drop, false, length, map, refl, reverse, string_bytes, sym, take, true, Bool, Option, None, Some, IfSome}
use Rattle.std.proofs.lemmas.Grind.{common_steps}
use Rattle.std.proofs.lemmas.List.{map-append, reverse-append}
use Rattle.std.specs.Global.{Global}
use Rattle.std.specs.Io.KnownBytes.{Consumes, IsAtEnd}
use Rattle.std.specs.declared.string.String.{String}
use Rattle.exif_inputs.specs.Pending.{AreAdded, turned, waiting_of}
use Rattle.exif_inputs.specs.declared.pending.Waiting.{Waiting}

-- the last of them is the next
turned_last : (b : Bool) (paths : List (String Global)) (path : String Global)
    → turned b (paths ++ path ∷ []) ≡ (string_bytes path, b) ∷ turned b paths
turned_last b paths path =
    let wait : List ℕ → List ℕ × Bool = λ path. (path, b) in
    ap reverse (ap (map wait) (map-append string_bytes paths (path ∷ [])) ∙ map-append wait (map string_bytes paths) (string_bytes path ∷ []))
    ∙ reverse-append (map wait (map string_bytes paths)) (wait (string_bytes path) ∷ [])

-- nothing has changed
pub none_yet : (old all : List (List ℕ × Bool)) → AreAdded old old all all
none_yet old all = record { added = []; waits = sym (append-nil old); parts = refl }

-- one more of them waits
pub one_added : (b : Bool) (before now next : List Waiting) (had left : List (String Global)) (one : Waiting) (all : List (List ℕ × Bool))
    → one.is_named ≡ b → next ≡ now ++ one ∷ [] → had ≡ left ++ one.path ∷ []
    → AreAdded (map waiting_of before) (map waiting_of now) (turned b had) all
    → AreAdded (map waiting_of before) (map waiting_of next) (turned b left) all
one_added b before now next had left one all is e cut so_far =
    let pair : Bool → List ℕ × Bool = λ c. (string_bytes one.path, c) in
    let last : waiting_of one ≡ (string_bytes one.path, b) = ap pair is in
    let parts : so_far.added ++ ((string_bytes one.path, b) ∷ turned b left) ≡ all =
    ap (λ t. so_far.added ++ t) (sym (turned_last b left one.path)) ∙ ap (λ t. so_far.added ++ turned b t) (sym cut) ∙ so_far.parts in
    record {
      added = so_far.added ++ waiting_of one ∷ [];
      waits = ap (map waiting_of) e ∙ map-append waiting_of now (one ∷ [])
          ∙ ap (λ t. t ++ waiting_of one ∷ []) so_far.waits
          ∙ append_assoc (map waiting_of before) so_far.added (waiting_of one ∷ []);
      parts = append_assoc so_far.added (waiting_of one ∷ []) (turned b left)
          ∙ ap (λ w. so_far.added ++ (w ∷ turned b left)) last ∙ parts;
    }

-- where none is left all wait
pub all_added : (b : Bool) (before now : List Waiting) (left : List (String Global)) (all : List (List ℕ × Bool)) → length left ≡ 0
    → AreAdded (map waiting_of before) (map waiting_of now) (turned b left) all
    → map waiting_of now ≡ map waiting_of before ++ all
all_added b before now [] all none so_far =
    so_far.waits ∙ ap (λ t. map waiting_of before ++ t) (sym (append-nil so_far.added) ∙ so_far.parts)
all_added b before now (path ∷ left) all none so_far = absurd (omega arith)

-- a view of a list that is turned
pub reverse_of_view : {A B : Type 0} (f : A → B) (xs : List A) → map f (reverse xs) ≡ reverse (map f xs)
reverse_of_view f [] = refl
reverse_of_view f (x ∷ xs) =
    ap (map f) (reverse-append (x ∷ []) xs) ∙ map-append f (reverse xs) (x ∷ [])
    ∙ ap (λ t. t ++ f x ∷ []) (reverse_of_view f xs) ∙ sym (reverse-append (f x ∷ []) (map f xs))

-- behind the last element nothing is left
pub none_is_left : {A B : Type 0} (f : A → B) (xs : List A) (i : ℕ) (ys zs : List B)
    → length xs ≤ i → ys ++ map f (drop i xs) ≡ zs → ys ≡ zs
none_is_left f xs i ys zs within e = grind (arith, common_steps)

-- ---- blocks of a listing

-- no byte was read yet
pub none_read : (a : Option (List ℕ)) → Consumes a a []
none_read None = tt
none_read (Some xs) = refl

-- one more block was read
pub one_read : (a b c : Option (List ℕ)) (bytes block : List ℕ) → Consumes a b bytes → Consumes b c block → Consumes a c (bytes ++ block)
one_read None b c bytes block h k = tt
one_read (Some xs) None c bytes block h k = absurd h
one_read (Some xs) (Some ys) None bytes block h k = absurd k
one_read (Some xs) (Some ys) (Some zs) bytes block h k = grind (arith, common_steps)

-- all were read where nothing is left
pub all_read : (a b c : Option (List ℕ)) (n : ℕ) (bytes block : List ℕ) → Consumes a b bytes → Consumes b c (take n block) → n ≡ 0 → IsAtEnd c → IfSome a (λ all. bytes ≡ all)
all_read None b c n bytes block h k e end = tt
all_read (Some xs) None c n bytes block h k e end = absurd h
all_read (Some xs) (Some ys) None n bytes block h k e end = absurd k
all_read (Some xs) (Some ys) (Some zs) n bytes block h k e end = grind (arith, common_steps)
