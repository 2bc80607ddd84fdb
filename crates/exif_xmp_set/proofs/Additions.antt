-- What is read of packets with one property more.
use Rattle.std.proofs.Common.{◌≡◌, ℕ, ◌+◌, ◌&&◌, ◌||◌, nat_lt, Bool, true, false, cond, List, [], ◌∷◌, ◌++◌, length, map, take, drop, Option, Some, None, Ok, refl, ap, sym, ◌∙◌, subst}
use Rattle.std.proofs.lemmas.List.{map-append, take-append-drop}
use Rattle.std.specs.Str.{bytes_eq}
use Rattle.exif_xml.specs.Characters.{invalid_character}
use Rattle.exif_xml.specs.Refusals.{◌>>=◌}
use Rattle.exif_xml.specs.Scans.{slice_of}
use Rattle.exif_xml.proofs.Walks.{ok_is}
use Rattle.exif_xmp.specs.Paths.{with_index}
use Rattle.exif_xmp.specs.Properties.{PropertyView}
use Rattle.exif_xmp.specs.Reading.{read}
use Rattle.exif_xmp_set.specs.declared.items.Array.{Array}
use Rattle.exif_xmp_set.specs.declared.items.LastItem.{LastItem}
use Rattle.exif_xmp_set.specs.Added.{add_item, add_text, array_added, array_description, block_added, checked_more, if_absent, if_place, is_present, item, item_added, item_by, rdf_end, text_content, text_description, with_block}
use Rattle.exif_xmp_set.specs.Contents.{Content, all_same, content_of, contents, is_followed, is_given, is_inserted, replaced_from, same_form, same_language, with_more}
use Rattle.exif_xmp_set.specs.Contexts.{tag_name}
use Rattle.exif_xmp_set.specs.Items.{last_item}
use Rattle.exif_xmp_set.specs.Promises.{item_more}
use Rattle.exif_xmp_set.specs.Refusals.{of_reader}
use Rattle.exif_xmp_set.specs.Setting.{if_valid}
use Rattle.exif_xmp_set.proofs.Contents.{both, bytes_same, content, form_same, language_same, says_replaced}
use Rattle.exif_xmp_set.proofs.Settings.{again, bound, read_is}

-- nothing is replaced behind the one
kept : (n p t : List ℕ) (ps : List PropertyView) → replaced_from true n p t ps ≡ map content_of ps
kept n p t [] = refl
kept n p t (q ∷ qs) = ap (λ (xs : List Content). content_of q ∷ xs) (kept n p t qs)

same_contents : (old new : List PropertyView) → all_same old new ≡ true → map content_of new ≡ map content_of old
same_contents old new e = says_replaced true [] [] [] old new e ∙ kept [] [] [] old

given_same : (given : Content) (q : PropertyView) → is_given given q ≡ true → content_of q ≡ given
unfolding content
given_same given q e =
    let a = both (bytes_eq given.namespace q.namespace && bytes_eq given.path q.path && bytes_eq given.text q.text) (same_language given.language q.language && same_form given.form q.form) e in
    let b = both (bytes_eq given.namespace q.namespace && bytes_eq given.path q.path) (bytes_eq given.text q.text) a.0 in
    let c = both (bytes_eq given.namespace q.namespace) (bytes_eq given.path q.path) b.0 in
    let d = both (same_language given.language q.language) (same_form given.form q.form) a.1 in
    sym (ap (λ (x : List ℕ). content x given.path given.text given.language given.form) (bytes_same given.namespace q.namespace c.0)
    ∙ ap (λ (x : List ℕ). content q.namespace x given.text given.language given.form) (bytes_same given.path q.path c.1)
    ∙ ap (λ (x : List ℕ). content q.namespace q.path x given.language given.form) (bytes_same given.text q.text b.1)
    ∙ ap (λ x. content q.namespace q.path q.text x given.form) (language_same given.language q.language d.0)
    ∙ ap (λ x. content q.namespace q.path q.text q.language x) (form_same given.form q.form d.1))

first : (b c : Bool) → cond b c false ≡ true → (b ≡ true) × (c ≡ true)
first true c e = (refl, e)
first false c e = absurd cc

second : (b c : Bool) → cond b false c ≡ true → c ≡ true
second true c e = absurd cc
second false c e = e

followed : (given : Content) (old new : List PropertyView) → is_followed given old new ≡ true → map content_of new ≡ given ∷ map content_of old
followed given old [] e = absurd cc
followed given old (q ∷ qs) e =
    let w = first (is_given given q) (all_same old qs) e in
    ap (λ (x : Content). x ∷ map content_of qs) (given_same given q w.0) ∙ ap (λ (xs : List Content). given ∷ xs) (same_contents old qs w.1)

-- properties that pass the test have one more
inserted : (at : ℕ) (given : Content) (old new : List PropertyView) → is_inserted at given old new ≡ true → map content_of new ≡ with_more at given old
unfolding is_inserted
inserted at given old new e =
    let w = first (all_same (take at old) (take at new)) (is_followed given (drop at old) (drop at new)) (second (nat_lt (length old) at || nat_lt (length new) at) _ e) in
    let front : map content_of (take at new) ≡ map content_of (take at old) = same_contents (take at old) (take at new) w.0 in
    let back : map content_of (drop at new) ≡ given ∷ map content_of (drop at old) = followed given (drop at old) (drop at new) w.1 in
    ap (map content_of) (sym (take-append-drop at new))
    ∙ (map-append content_of (take at new) (drop at new)
    ∙ (ap (λ (xs : List Content). xs ++ map content_of (drop at new)) front
    ∙ ap (λ (xs : List Content). map content_of (take at old) ++ xs) back))

checked_reads : (old : List PropertyView) (at : ℕ) (given : Content) (made new : List ℕ) → checked_more old at given made ≡ Ok new → contents (read new) ≡ Ok (with_more at given old)
checked_reads old at given made new e =
    let a = again (is_inserted at given old) made new (read made) e in
    let now_is : read new ≡ Ok a.now = subst (λ (x : List ℕ). read x ≡ Ok a.now) a.same a.is in
    ap contents now_is ∙ ap (λ (xs : List Content). Ok xs) (inserted at given old a.now a.passes)

block_reads : (old : List PropertyView) (packet : List ℕ) (given : Content) (block new : List ℕ) → block_added old packet given block ≡ Ok new → contents (read new) ≡ Ok (with_more (length old) given old)
block_reads old packet given block new e =
    let a = bound (if_absent (is_present given.namespace given.path old)) (λ u. if_place (rdf_end None 0 packet) >>= λ at. (if_valid (invalid_character given.text) (with_block packet at block) >>= λ new. checked_more old (length old) given new)) new e in
    let b = bound (if_place (rdf_end None 0 packet)) (λ at. if_valid (invalid_character given.text) (with_block packet at block) >>= λ new. checked_more old (length old) given new) new a.gives in
    let c = bound (if_valid (invalid_character given.text) (with_block packet b.value block)) (λ new. checked_more old (length old) given new) new b.gives in
    checked_reads old (length old) given c.value new c.gives

item_reads : (old : List PropertyView) (packet : List ℕ) (last : LastItem) (namespace path text new : List ℕ) → item_added old packet last namespace path text ≡ Ok new
    → contents (read new) ≡ Ok (with_more (last.position + 1) (text_content namespace (with_index path (last.count + 1)) text) old)
item_reads old packet last namespace path text new e =
    let given = text_content namespace (with_index path (last.count + 1)) text in
    let a = bound (if_valid (invalid_character text) (with_block packet last.whole.end (item (tag_name (slice_of packet last.whole)) text))) (λ new. checked_more old (last.position + 1) given new) new e in
    checked_reads old (last.position + 1) given a.value new a.gives

array_reads : (array : Array) (old : List PropertyView) (packet namespace path text new : List ℕ) → array_added array old packet namespace path text ≡ Ok new
    → contents (read new) ≡ Ok (with_more (length old) (text_content namespace (with_index path 1) text) old)
array_reads array old packet namespace path text new e =
    let given = text_content namespace (with_index path 1) text in
    let block = array_description array namespace path text in
    let a = bound (if_absent (is_present namespace path old)) (λ u. block_added old packet given block) new e in
    block_reads old packet given block new a.gives

by_item : (array : Array) (old : List PropertyView) (packet : List ℕ) (last : Option LastItem) (namespace path text new : List ℕ) → item_by array old packet last namespace path text ≡ Ok new
    → contents (read new) ≡ Ok (item_more last namespace path text old)
by_item array old packet (Some last) namespace path text new e = item_reads old packet last namespace path text new e
by_item array old packet None namespace path text new e = array_reads array old packet namespace path text new e

pub text_reads : (packet namespace path text new : List ℕ) (old : List PropertyView) → add_text packet namespace path text ≡ Ok new → read packet ≡ Ok old
    → contents (read new) ≡ Ok (with_more (length old) (text_content namespace path text) old)
unfolding add_text
text_reads packet namespace path text new old e r =
    let given = text_content namespace path text in
    let block = text_description namespace path text in
    let a = bound (of_reader (read packet)) (λ old. block_added old packet given block) new e in
    let same : a.value ≡ old = ok_is (sym (read_is (read packet) a.value a.is) ∙ r) in
    block_reads old packet given block new (subst (λ (ps : List PropertyView). block_added ps packet given block ≡ Ok new) same a.gives)

pub items_read : (packet namespace path : List ℕ) (array : Array) (text new : List ℕ) (old : List PropertyView) → add_item packet namespace path array text ≡ Ok new → read packet ≡ Ok old
    → contents (read new) ≡ Ok (item_more (last_item namespace path old) namespace path text old)
unfolding add_item
items_read packet namespace path array text new old e r =
    let a = bound (of_reader (read packet)) (λ old. item_by array old packet (last_item namespace path old) namespace path text) new e in
    let same : a.value ≡ old = ok_is (sym (read_is (read packet) a.value a.is) ∙ r) in
    by_item array old packet (last_item namespace path old) namespace path text new
    (subst (λ (ps : List PropertyView). item_by array ps packet (last_item namespace path ps) namespace path text ≡ Ok new) same a.gives)
