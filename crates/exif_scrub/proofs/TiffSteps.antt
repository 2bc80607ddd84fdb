-- One more entry, strip or directory, and those that are left.
use Rattle.std.proofs.Common.{◌≡◌, ◌≢◌, ℕ, zero, suc, ◌+◌, ◌*◌, ◌==◌, Bool, false, if◌then◌else◌, List, Option, Some, Result, Ok, Err, ap, sym, refl, arith, ◌∙◌}
use Rattle.std.proofs.lemmas.Bool.Decides.{nat_tests}
use Rattle.exif_base.specs.Bytes.{Reading}
use Rattle.exif_base.specs.Orders.{number_of}
use Rattle.exif_base.specs.declared.endian.Order.{Order}
use Rattle.exif_scrub.specs.Directories.{chain_walked, child_walked, children_from, children_walked, children_named, directory_visited, entries_kept, next_of, one_more, tags_tested}
use Rattle.exif_scrub.specs.Entries.{count_of, entry_kept, entry_named, entry_tested, item_at}
use Rattle.exif_scrub.specs.Keeping.{◌>>=◌, number_in, stretch_visited}
use Rattle.exif_scrub.specs.Pictures.{strip_visited, strips_from}
use Rattle.exif_scrub.specs.Shapes.{entries_shaped, entry_shaped}
use Rattle.exif_scrub.specs.declared.tiff.fault.Fault.{Fault}
use Rattle.exif_scrub.specs.declared.tiff.fault.Fault.TheVariants.{TooManyDirectories}
use Rattle.exif_scrub.specs.declared.tiff.pass.Handling.{Handling}
use Rattle.exif_scrub.specs.declared.tiff.pass.Pass.{Pass}

-- ---- entries

pub entries_step : (number : Reading) (old : List ℕ) (o n : Bool) (first left k e next to kept : ℕ) (new : List ℕ) (b : Bool) (made : List ℕ)
    → left ≡ suc k → next ≡ e + 12 → to ≡ first + 12 * kept → entry_kept number old o n e to new ≡ Ok (b, made)
    → entries_kept number old o n first left e kept new ≡ entries_kept number old o n first k next (one_more b kept) made
entries_step number old o n first left k e next to kept new b made is at there put =
    rw (is, at) (ap (λ t. entry_kept number old o n e t new >>= λ (m : Bool × List ℕ). entries_kept number old o n first k (e + 12) (one_more m.0 kept) m.1) (sym there)
    ∙ ap (λ (r : Result (Bool × List ℕ) Fault). r >>= λ (m : Bool × List ℕ). entries_kept number old o n first k (e + 12) (one_more m.0 kept) m.1) put)

pub entries_stop : (number : Reading) (old : List ℕ) (o n : Bool) (first left k e to kept : ℕ) (new : List ℕ) (f : Fault)
    → left ≡ suc k → to ≡ first + 12 * kept → entry_kept number old o n e to new ≡ Err f
    → entries_kept number old o n first left e kept new ≡ Err f
entries_stop number old o n first left k e to kept new f is there put =
    rw is (ap (λ t. entry_kept number old o n e t new >>= λ (m : Bool × List ℕ). entries_kept number old o n first k (e + 12) (one_more m.0 kept) m.1) (sym there)
    ∙ ap (λ (r : Result (Bool × List ℕ) Fault). r >>= λ (m : Bool × List ℕ). entries_kept number old o n first k (e + 12) (one_more m.0 kept) m.1) put)

-- ---- tags

pub tags_step : (number : Reading) (old : List ℕ) (o : Bool) (left k e next : ℕ) → left ≡ suc k → next ≡ e + 12
    → Ok tt ≡ entry_tested number old o e → tags_tested number old o left e ≡ tags_tested number old o k next
tags_step number old o left k e next is at test =
    rw (is, at) (ap (λ (x : Result Unit Fault). x >>= λ u. tags_tested number old o k (e + 12)) (sym test))

pub tags_stop : (number : Reading) (old : List ℕ) (o : Bool) (left k e : ℕ) (f : Fault) → left ≡ suc k
    → Err f ≡ entry_tested number old o e → tags_tested number old o left e ≡ Err f
tags_stop number old o left k e f is test =
    rw is (ap (λ (x : Result Unit Fault). x >>= λ u. tags_tested number old o k (e + 12)) (sym test))

-- ---- values

pub shapes_step : (number : Reading) (old : List ℕ) (o : Bool) (count first left k e next : ℕ) → left ≡ suc k → next ≡ e + 12
    → Ok tt ≡ entry_shaped number old o count first e → entries_shaped number old o count first left e ≡ entries_shaped number old o count first k next
shapes_step number old o count first left k e next is at test =
    rw (is, at) (ap (λ (x : Result Unit Fault). x >>= λ u. entries_shaped number old o count first k (e + 12)) (sym test))

pub shapes_stop : (number : Reading) (old : List ℕ) (o : Bool) (count first left k e : ℕ) (f : Fault) → left ≡ suc k
    → Err f ≡ entry_shaped number old o count first e → entries_shaped number old o count first left e ≡ Err f
shapes_stop number old o count first left k e f is test =
    rw is (ap (λ (x : Result Unit Fault). x >>= λ u. entries_shaped number old o count first k (e + 12)) (sym test))

-- ---- strips

pub strips_step : (number : Reading) (old : List ℕ) (how : Handling) (offsets lengths left k index : ℕ) (new made : List ℕ)
    → left ≡ suc k → strip_visited number old how offsets lengths index new ≡ Ok made
    → strips_from number old how offsets lengths left index new ≡ strips_from number old how offsets lengths k (index + 1) made
strips_step number old how offsets lengths left k index new made is put =
    rw is (ap (λ (r : Result (List ℕ) Fault). r >>= strips_from number old how offsets lengths k (index + 1)) put)

pub strips_stop : (number : Reading) (old : List ℕ) (how : Handling) (offsets lengths left k index : ℕ) (new : List ℕ) (f : Fault)
    → left ≡ suc k → strip_visited number old how offsets lengths index new ≡ Err f
    → strips_from number old how offsets lengths left index new ≡ Err f
strips_stop number old how offsets lengths left k index new f is put =
    rw is (ap (λ (r : Result (List ℕ) Fault). r >>= strips_from number old how offsets lengths k (index + 1)) put)

-- ---- directories below one

pub children_step : (order : Order) (old : List ℕ) (o : Pass) (e left k index p : ℕ) (new made : List ℕ)
    → left ≡ suc k → item_at (number_of order) old e index ≡ Ok p → child_walked order old o p new ≡ Ok made
    → children_from order old o e left index new ≡ children_from order old o e k (index + 1) made
children_step order old o e left k index p new made is item put =
    rw is (ap (λ (r : Result ℕ Fault). r >>= λ q. child_walked order old o q new >>= children_from order old o e k (index + 1)) item
    ∙ ap (λ (r : Result (List ℕ) Fault). r >>= children_from order old o e k (index + 1)) put)

pub children_stop : (order : Order) (old : List ℕ) (o : Pass) (e left k index p : ℕ) (new : List ℕ) (f : Fault)
    → left ≡ suc k → item_at (number_of order) old e index ≡ Ok p → child_walked order old o p new ≡ Err f
    → children_from order old o e left index new ≡ Err f
children_stop order old o e left k index p new f is item put =
    rw is (ap (λ (r : Result ℕ Fault). r >>= λ q. child_walked order old o q new >>= children_from order old o e k (index + 1)) item
    ∙ ap (λ (r : Result (List ℕ) Fault). r >>= children_from order old o e k (index + 1)) put)

pub children_halt : (order : Order) (old : List ℕ) (o : Pass) (e left k index : ℕ) (new : List ℕ) (f : Fault)
    → left ≡ suc k → item_at (number_of order) old e index ≡ Err f
    → children_from order old o e left index new ≡ Err f
children_halt order old o e left k index new f is item =
    rw is (ap (λ (r : Result ℕ Fault). r >>= λ q. child_walked order old o q new >>= children_from order old o e k (index + 1)) item)

-- the directories below one are those of its entry
pub children_whole : (order : Order) (old : List ℕ) (o : Pass) (p count e n : ℕ) (new : List ℕ)
    → Ok count ≡ number_in (number_of order) 2 old p → Ok (Some e) ≡ entry_named (number_of order) old 330 count (p + 2)
    → Ok n ≡ count_of (number_of order) old e
    → children_walked order old o p new ≡ children_from order old o e n 0 new
children_whole order old o p count e n new a b c =
    ap (λ (x : Result ℕ Fault). x >>= λ k. entry_named (number_of order) old 330 k (p + 2) >>= λ found. children_named order old o found new) (sym a)
    ∙ ap (λ (x : Result (Option ℕ) Fault). x >>= λ found. children_named order old o found new) (sym b)
    ∙ ap (λ (x : Result ℕ Fault). x >>= λ k. children_from order old o e k 0 new) (sym c)

-- ---- a strip

pub strip_is : (number : Reading) (old : List ℕ) (how : Handling) (offsets lengths index at len : ℕ) (new : List ℕ) (r : Result (List ℕ) Fault)
    → Ok at ≡ item_at number old offsets index → Ok len ≡ item_at number old lengths index → stretch_visited how old at len new ≡ r
    → strip_visited number old how offsets lengths index new ≡ r
strip_is number old how offsets lengths index at len new r a b put =
    ap (λ (x : Result ℕ Fault). x >>= λ p. item_at number old lengths index >>= λ n. stretch_visited how old p n new) (sym a)
    ∙ ap (λ (x : Result ℕ Fault). x >>= λ n. stretch_visited how old at n new) (sym b) ∙ put

pub strip_first : (number : Reading) (old : List ℕ) (how : Handling) (offsets lengths index : ℕ) (new : List ℕ) (f : Fault)
    → Err f ≡ item_at number old offsets index → strip_visited number old how offsets lengths index new ≡ Err f
strip_first number old how offsets lengths index new f a =
    ap (λ (x : Result ℕ Fault). x >>= λ p. item_at number old lengths index >>= λ n. stretch_visited how old p n new) (sym a)

pub strip_second : (number : Reading) (old : List ℕ) (how : Handling) (offsets lengths index at : ℕ) (new : List ℕ) (f : Fault)
    → Ok at ≡ item_at number old offsets index → Err f ≡ item_at number old lengths index
    → strip_visited number old how offsets lengths index new ≡ Err f
strip_second number old how offsets lengths index at new f a b =
    ap (λ (x : Result ℕ Fault). x >>= λ p. item_at number old lengths index >>= λ n. stretch_visited how old p n new) (sym a)
    ∙ ap (λ (x : Result ℕ Fault). x >>= λ n. stretch_visited how old at n new) (sym b)

-- ---- entries by their tags

no_other : (t tag : ℕ) → t ≢ tag → (t == tag) ≡ false
no_other t tag h = grind (arith, nat_tests)

pub named_next : (number : Reading) (old : List ℕ) (tag left k e next t : ℕ)
    → left ≡ suc k → next ≡ e + 12 → Ok t ≡ number_in number 2 old e → t ≢ tag
    → entry_named number old tag left e ≡ entry_named number old tag k next
named_next number old tag left k e next t is there read other =
    rw (is, there) (ap (λ (x : Result ℕ Fault). x >>= λ n. if n == tag then Ok (Some e) else entry_named number old tag k (e + 12)) (sym read)
    ∙ ap (λ b. if b then Ok (Some e) else entry_named number old tag k (e + 12)) (no_other t tag other))

-- ---- directories in a row

no_zero : (p : ℕ) → p ≢ 0 → (p == 0) ≡ false
no_zero p some = grind (arith, nat_tests)

-- what a directory at an offset, those below it and the next ones make of the new file
abbrev chained : Order → List ℕ → Pass → ℕ → ℕ → List ℕ → Result (List ℕ) Fault
chained order old o k p new =
    directory_visited order old o false p new
    >>= λ made. children_walked order old o p made
    >>= λ with. next_of (number_of order) old p
    >>= λ next. chain_walked order old o k next with

chain_is : (order : Order) (old : List ℕ) (o : Pass) (left k p : ℕ) (new : List ℕ) → left ≡ suc k → p ≢ 0
    → chain_walked order old o left p new ≡ chained order old o k p new
unfolding chain_walked
chain_is order old o left k p new is some = rw is (ap (λ b. if b then Ok new else chained order old o k p new) (no_zero p some))

pub chain_next : (order : Order) (old : List ℕ) (o : Pass) (left k p next : ℕ) (new made with : List ℕ)
    → left ≡ suc k → p ≢ 0 → directory_visited order old o false p new ≡ Ok made → children_walked order old o p made ≡ Ok with
    → Ok next ≡ next_of (number_of order) old p
    → chain_walked order old o left p new ≡ chain_walked order old o k next with
chain_next order old o left k p next new made with is some a b c =
    chain_is order old o left k p new is some
    ∙ ap (λ (x : Result (List ℕ) Fault). x >>= λ m. children_walked order old o p m >>= λ w. next_of (number_of order) old p >>= λ n. chain_walked order old o k n w) a
    ∙ ap (λ (x : Result (List ℕ) Fault). x >>= λ w. next_of (number_of order) old p >>= λ n. chain_walked order old o k n w) b
    ∙ ap (λ (x : Result ℕ Fault). x >>= λ n. chain_walked order old o k n with) (sym c)

pub chain_first : (order : Order) (old : List ℕ) (o : Pass) (left k p : ℕ) (new : List ℕ) (f : Fault)
    → left ≡ suc k → p ≢ 0 → directory_visited order old o false p new ≡ Err f → chain_walked order old o left p new ≡ Err f
chain_first order old o left k p new f is some a =
    chain_is order old o left k p new is some
    ∙ ap (λ (x : Result (List ℕ) Fault). x >>= λ m. children_walked order old o p m >>= λ w. next_of (number_of order) old p >>= λ n. chain_walked order old o k n w) a

pub chain_second : (order : Order) (old : List ℕ) (o : Pass) (left k p : ℕ) (new made : List ℕ) (f : Fault)
    → left ≡ suc k → p ≢ 0 → directory_visited order old o false p new ≡ Ok made → children_walked order old o p made ≡ Err f
    → chain_walked order old o left p new ≡ Err f
chain_second order old o left k p new made f is some a b =
    chain_is order old o left k p new is some
    ∙ ap (λ (x : Result (List ℕ) Fault). x >>= λ m. children_walked order old o p m >>= λ w. next_of (number_of order) old p >>= λ n. chain_walked order old o k n w) a
    ∙ ap (λ (x : Result (List ℕ) Fault). x >>= λ w. next_of (number_of order) old p >>= λ n. chain_walked order old o k n w) b

pub chain_third : (order : Order) (old : List ℕ) (o : Pass) (left k p : ℕ) (new made with : List ℕ) (f : Fault)
    → left ≡ suc k → p ≢ 0 → directory_visited order old o false p new ≡ Ok made → children_walked order old o p made ≡ Ok with
    → Err f ≡ next_of (number_of order) old p
    → chain_walked order old o left p new ≡ Err f
chain_third order old o left k p new made with f is some a b c =
    chain_is order old o left k p new is some
    ∙ ap (λ (x : Result (List ℕ) Fault). x >>= λ m. children_walked order old o p m >>= λ w. next_of (number_of order) old p >>= λ n. chain_walked order old o k n w) a
    ∙ ap (λ (x : Result (List ℕ) Fault). x >>= λ w. next_of (number_of order) old p >>= λ n. chain_walked order old o k n w) b
    ∙ ap (λ (x : Result ℕ Fault). x >>= λ n. chain_walked order old o k n with) (sym c)

-- the end of a chain
pub chain_ends : (order : Order) (old : List ℕ) (o : Pass) (left p : ℕ) (new : List ℕ) → p ≡ 0 → chain_walked order old o left p new ≡ Ok new
unfolding chain_walked
chain_ends order old o zero p new is = rw is refl
chain_ends order old o (suc left) p new is = rw is refl

-- no directory is left to keep
pub chain_full : (order : Order) (old : List ℕ) (o : Pass) (left p : ℕ) (new : List ℕ) → left ≡ 0 → p ≢ 0
    → chain_walked order old o left p new ≡ Err TooManyDirectories
unfolding chain_walked
chain_full order old o left p new is some = rw is (ap (λ b. if b then Ok new else Err TooManyDirectories) (no_zero p some))
