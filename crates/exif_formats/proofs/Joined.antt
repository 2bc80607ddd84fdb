-- What was read of two directories, as one answer.
use Rattle.std.proofs.Common.{◌≡◌, ◌≤◌, ℕ, suc, List, [], ◌∷◌, ◌++◌, length, take, drop, map, All, Option, None, Some, refl, ap, sym, ◌∙◌, append-nil, arith, Bool, Result, Ok, Err, IfOk}
use Rattle.std.proofs.lemmas.List.{drop_all, take_all}
use Rattle.std.proofs.lemmas.List.Elements.{All-append, All-cons, All-nil}
use Rattle.exif_table.specs.declared.context.Context.{Context}
use Rattle.exif_table.specs.declared.context.Context.TheVariants as context
use Rattle.exif_types.specs.Sound.{IsRead}
use Rattle.exif_types.specs.declared.field.Field.{Field}
use Rattle.exif_tiff.specs.Answers.{Answer, Partial, Refused, raw_answer, shown}
use Rattle.exif_tiff.specs.declared.fault.Fault.{Fault}
use Rattle.exif_tiff.specs.Results.{Says}
use Rattle.exif_tiff.specs.declared.stop.Stop.{Stop}
use Rattle.exif_tiff.specs.declared.tiff.Parsed.{Parsed}
use Rattle.exif_formats.specs.Cr3.{Cr3Parts}
use Rattle.exif_formats.specs.Pictures.{answer_in, directories_answer, field_in, joined, joined_with}

-- two of them with all their fields
pub joined_shown : (c : Context) (a b : List Field) (f g : List Fault)
    → shown (a ++ map (field_in c) b) (f ++ g) ≡ joined (shown a f) (answer_in c (shown b g))
joined_shown c a b [] [] = refl
joined_shown c a b [] (y ∷ ys) = refl
joined_shown c a b (x ∷ xs) [] = ap (λ zs. Partial (a ++ map (field_in c) b) (x ∷ zs)) (append-nil xs)
joined_shown c a b (x ∷ xs) (y ∷ ys) = refl

-- the second is refused
pub joined_refused : (c : Context) (a : List Field) (f : List Fault) (fault : Fault)
    → joined (shown a f) (answer_in c (Refused fault)) ≡ Refused fault
joined_refused c a [] fault = refl
joined_refused c a (x ∷ xs) fault = refl

-- the first is
pub with_refused : (read : List ℕ → Answer) (c : Context) (bytes : Option (List ℕ)) (fault : Fault)
    → joined_with read c bytes (Refused fault) ≡ Refused fault
with_refused read c None fault = refl
with_refused read c (Some bytes) fault = refl

in_is_read : (c : Context) (f : Field) → IsRead f → IsRead (field_in c f)
in_is_read c f r = record { plain = r.plain; number = r.number }

others_of : (f : Field) (fs : List Field) → All IsRead (f ∷ fs) → All IsRead fs
others_of f fs h = λ k d l. h (suc k) d (omega arith)

-- fields that were read are so in another context
pub all_read : (c : Context) (fs : List Field) → All IsRead fs → All IsRead (map (field_in c) fs)
all_read c [] h = All-nil IsRead
all_read c (f ∷ fs) h = All-cons IsRead (field_in c f) (map (field_in c) fs) (in_is_read c f (h 0 f (omega arith))) (all_read c fs (others_of f fs h))

-- the same with others before them
pub both_read : (c : Context) (a b : List Field) → All IsRead a → All IsRead b → All IsRead (a ++ map (field_in c) b)
both_read c a b h k = All-append IsRead a (map (field_in c) b) h (all_read c b k)

-- no fields are left
pub all_over : (f : Field → Field) (n : ℕ) (fs : List Field) → length fs ≤ n → take n fs ++ map f (drop n fs) ≡ fs
all_over f n fs h =
    ap (λ rest. take n fs ++ map f rest) (drop_all n fs h) ∙ (append-nil (take n fs) ∙ take_all n fs h)

-- ---- what the steps say

-- what was read of one directory
pub parsed_read : ((lenient : Bool) (limit : Option ℕ) (bytes : List ℕ) (fields : List Field) (faults : List Fault) → raw_answer lenient limit bytes ≡ shown fields faults → All IsRead fields)
    → (lenient : Bool) (limit : Option ℕ) (bytes : List ℕ) (r : Result Parsed Stop) → Says r (raw_answer lenient limit bytes) → IfOk r (λ p. All IsRead p.fields.items)
parsed_read law lenient limit bytes (Ok p) says = law lenient limit bytes p.fields.items p.faults.items says
parsed_read law lenient limit bytes (Err stop) says = tt

-- a directory more
pub add_says : (read : List ℕ → Answer) (c : Context) (o : Option (List ℕ)) (bytes : List ℕ) (first second all : Answer)
    → o ≡ Some bytes → read bytes ≡ second → all ≡ joined first (answer_in c second) → joined_with read c o first ≡ all
add_says read c o bytes first second all is says made =
    ap (λ x. joined_with read c x first) is ∙ (ap (λ x. joined first (answer_in c x)) says ∙ sym made)

-- all of them
pub all_say : (read : List ℕ → Answer) (d : Cr3Parts) (first next all : Answer)
    → read d.primary ≡ first → joined_with read context.Exif d.exif first ≡ next → joined_with read context.Gps d.gps next ≡ all
    → directories_answer read d ≡ all
all_say read d first next all p e g =
    ap (λ x. joined_with read context.Gps d.gps (joined_with read context.Exif d.exif x)) p
    ∙ (ap (joined_with read context.Gps d.gps) e ∙ g)

-- a list whose slice was written
pub written : (n : ℕ) (xs ys : List Field) → length ys ≡ length xs → n ≡ length xs → take n (ys ++ drop (length ys) xs) ≡ ys
written n xs ys l m =
    ap (λ rest. take n (ys ++ rest)) (drop_all (length ys) xs (omega arith))
    ∙ (ap (take n) (append-nil ys) ∙ take_all n ys (omega arith))
