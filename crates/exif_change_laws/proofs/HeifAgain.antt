-- A HEIF file without its metadata stays as it is where it is scrubbed again.
use Rattle.std.proofs.Common.{◌≡◌, ◌∙◌, ◌≤◌, ◌<◌, ◌+◌, ◌-◌, ◌^◌, inl, inr, ℕ, Bool, true, false, List, [], ◌∷◌, ◌++◌, length, take, drop, map, replicate, All, None, Some, Result, Ok, Err, if◌then◌else◌, refl, sym, ap, subst, arith, append_assoc}
use Rattle.std.specs.Prelude.{◌⊎◌}
use Rattle.std.proofs.lemmas.Grind.{common_steps}
use Rattle.std.proofs.lemmas.List.{drop-drop, length-append, length-take-le, take-append-drop}
use Rattle.std.proofs.lemmas.List.Elements.{All-nil, All-cons}
use Rattle.std.proofs.Math.Seq.{drop-append-add}
use Rattle.std.specs.List.{list_all}
use Rattle.exif_base.specs.declared.endian.Order.{Order}
use Rattle.exif_types.specs.Refusals.{Refusal, invalid_format, not_found, blank_value, too_big, not_supported, unexpected_value}
use Rattle.exif_tiff.specs.Trace.{header}
use Rattle.exif_tiff.specs.declared.fault.Fault.{Fault}
use Rattle.exif_tiff.specs.declared.fault.Fault.TheVariants.{TooManyEntries}
use Rattle.exif_layout.specs.Encoding.{spelled}
use Rattle.exif_layout.proofs.Images.Standing.{length_spelled}
use Rattle.exif_isobmff.specs.Extents.{joined_bytes}
use Rattle.exif_containers.specs.Container.{container_answer}
use Rattle.exif_containers.proofs.Replacing.{data_are_located}
use Rattle.exif_inventory.specs.declared.part.Part.{Part}
use Rattle.exif_inventory_heif.specs.Inventories.{is_heif, layout_of}
use Rattle.exif_inventory_heif.specs.Walks.{AreSpans}
use Rattle.exif_inventory_heif.specs.declared.span.Span.{Span}
use Rattle.exif_edit_base.specs.Causes.{Cause, no_field, no_directory, full_directory, unknown_type, too_long, offset_named, shared, picture, wrong_header, no_data}
use Rattle.exif_edit_base.specs.Patches.{patched, put_at}
use Rattle.exif_edit_base.specs.declared.patch.Patch.{Patch}
use Rattle.exif_edit_base.proofs.CauseSteps.{bound, ok_same, passed}
use Rattle.exif_edit_base.proofs.ReadSteps.{header_space}
use Rattle.exif_edit.specs.Clearing.{clearing, empty_offset}
use Rattle.exif_edit.specs.Edits.{edit_patches, edited, reads_past}
use Rattle.exif_edit.specs.declared.edits.Edit.TheVariants.{EraseAll}
use Rattle.exif_edit.proofs.ClearSound.{clear_sound, was_cleared}
use Rattle.exif_edit.specs.InFiles.{edited_file, file_patches}
use Rattle.exif_edit.proofs.EditsSound.{unlimited}
use Rattle.exif_edit.proofs.FilesSound.{file_sound, was_placed}
use Rattle.exif_scrub.specs.HeifScrubbing as heif
use Rattle.exif_scrub.specs.declared.heif.fault.Fault as heif_faults
use Rattle.exif_scrub.proofs.LayoutOrder.{heif_ordered}
use Rattle.exif_scrub.proofs.Stays.{emptied_long}
use Rattle.exif_scrub.proofs.HeifTwice.{both_true, settled_bytes, settled_is}
use Rattle.exif_change.specs.Changed.{Change, still_there, whole}
use Rattle.exif_change.specs.Changes.{heif_emptied, heif_left, if_edited}
use Rattle.exif_change.specs.Reading.{entry_limit}
use Rattle.exif_change.specs.Refusals.{Reason, heif_fault, ◌>>=◌}
use Rattle.exif_change_laws.proofs.PatchedSame.{HasAt, patched_same, spread_held}

-- ---- data without fields hold what erasing all fields puts over them

take_front : (n : ℕ) (front rest : List ℕ) → length front ≡ n → take n (front ++ rest) ≡ front
take_front n front rest e = grind (arith, common_steps)

drop_front : (n : ℕ) (front rest : List ℕ) → length front ≡ n → drop n (front ++ rest) ≡ rest
drop_front n front rest e =
    let k : n ≡ length front + 0 = omega arith in
    ap (λ (i : ℕ). drop i (front ++ rest)) k ∙ drop-append-add front rest 0

both_long : (a b : List ℕ) (n m k : ℕ) → length a ≡ n → length b ≡ m → n + m ≡ k → length (a ++ b) ≡ k
both_long a b n m k l h s = length-append a b ∙ omega arith

-- bytes behind four others, and bytes behind these
held_in_order : (a encoded zs rest : List ℕ) → length a ≡ 4 → length encoded ≡ 4
    → All (HasAt (a ++ (encoded ++ (zs ++ rest)))) (record { offset = 4; bytes = encoded } ∷ record { offset = 8; bytes = zs } ∷ [])
held_in_order a encoded zs rest l m =
    let bytes : List ℕ = a ++ (encoded ++ (zs ++ rest)) in
    let first : HasAt bytes (record { offset = 4; bytes = encoded }) =
    ap (take (length encoded)) (drop_front 4 a (encoded ++ (zs ++ rest)) l)
    ∙ take_front (length encoded) encoded (zs ++ rest) refl in
    let second : HasAt bytes (record { offset = 8; bytes = zs }) =
    ap (λ (xs : List ℕ). take (length zs) (drop 8 xs)) (sym (append_assoc a encoded (zs ++ rest)))
    ∙ (ap (take (length zs)) (drop_front 8 (a ++ encoded) (zs ++ rest) (both_long a encoded 4 4 8 l m refl))
    ∙ take_front (length zs) zs rest refl) in
    All-cons (HasAt bytes) (record { offset = 4; bytes = encoded }) (record { offset = 8; bytes = zs } ∷ []) first
    (All-cons (HasAt bytes) (record { offset = 8; bytes = zs }) [] second (All-nil (HasAt bytes)))

put_in_order : (old encoded zs : List ℕ) → 8 ≤ length old → length encoded ≡ 4
    → put_at 8 zs (put_at 4 encoded old) ≡ take 4 old ++ (encoded ++ (zs ++ drop (8 + length zs) (put_at 4 encoded old)))
put_in_order old encoded zs h m =
    let behind : List ℕ = drop (4 + length encoded) old in
    let l : length (take 4 old) ≡ 4 = length-take-le 4 old (omega arith) in
    let front : take 8 (take 4 old ++ (encoded ++ behind)) ≡ take 4 old ++ encoded =
    ap (take 8) (sym (append_assoc (take 4 old) encoded behind))
    ∙ take_front 8 (take 4 old ++ encoded) behind (both_long (take 4 old) encoded 4 4 8 l m refl) in
    ap (λ (xs : List ℕ). xs ++ (zs ++ drop (8 + length zs) (put_at 4 encoded old))) front
    ∙ append_assoc (take 4 old) encoded (zs ++ drop (8 + length zs) (put_at 4 encoded old))

clearing_held : (order : Order) (old : List ℕ) → 8 ≤ length old → All (HasAt (patched (clearing order (length old)) old)) (clearing order (length old))
clearing_held order old h =
    let encoded : List ℕ = spelled order 4 (empty_offset (length old)) in
    let zs : List ℕ = replicate (length old - 8) 0 in
    let m : length encoded ≡ 4 = length_spelled order 4 (empty_offset (length old)) in
    let l : length (take 4 old) ≡ 4 = length-take-le 4 old (omega arith) in
    subst (λ (bytes : List ℕ). All (HasAt bytes) (clearing order (length old)))
    (sym (put_in_order old encoded zs h m))
    (held_in_order (take 4 old) encoded zs (drop (8 + length zs) (put_at 4 encoded old)) l m)

order_same : (a b : Order) → ◌≡◌ {A = Result Order Fault} (Ok a) (Ok b) → a ≡ b
order_same a b e = cc

bytes_same : (a b : List ℕ) → ◌≡◌ {A = Result (List ℕ) Refusal} (Ok a) (Ok b) → a ≡ b
bytes_same a b e = cc

-- ---- and so does a file

-- a file of which all fields were erased: its data hold what erasing them again puts over them
record Cleared (file : List ℕ) : Type 0 where
  bytes : List ℕ
  holds : container_answer file ≡ Ok bytes
  each : (ps : List Patch) (order : Order) → header bytes ≡ Ok order → clearing order (length bytes) ≡ ps → All (HasAt bytes) ps

was_erased : (file new : List ℕ) → length file < 2 ^ 64 → edited_file entry_limit EraseAll file ≡ Ok new → Cleared new
was_erased file new short e =
    let b = bound (file_patches entry_limit EraseAll file) (λ ps. Ok (patched ps file)) new e in
    let made = file_sound entry_limit EraseAll file b.0 short b.1 in
    let out : patched b.0 file ≡ new = ok_same (patched b.0 file) new b.2 in
    let old : List ℕ = made.at.bytes in
    let edit = (passed (reads_past entry_limit EraseAll old) (wrong_header TooManyEntries) (λ a. edited EraseAll old) made.new made.edited).1 in
    let d = bound (edit_patches EraseAll old) (λ ps. Ok (patched ps old)) made.new edit in
    let c = was_cleared old d.0 d.1 in
    let kept = clear_sound old c.0 c.1 in
    let cleared : List ℕ = patched (clearing c.0 (length old)) old in
    let same : cleared ≡ made.new =
    ap (λ (ps : List Patch). patched ps old) c.2 ∙ ok_same (patched d.0 old) made.new d.2 in
    record {
      bytes = cleared;
      holds = ap container_answer (sym out) ∙ (made.holds ∙ ap (λ (xs : List ℕ). let r : Result (List ℕ) Refusal = Ok xs in r) (sym same));
      each = λ ps order h p.
          let o : order ≡ c.0 = order_same order c.0 (sym h ∙ (kept.header ∙ c.1)) in
          let patches : clearing c.0 (length old) ≡ ps =
          ap (λ (x : Order). clearing x (length old)) (sym o) ∙ (ap (clearing order) (sym kept.as_long) ∙ p) in
          subst (All (HasAt cleared)) patches (clearing_held c.0 old (header_space old c.0 c.1).0);
    }

erased_again : (file again : List ℕ) → length file < 2 ^ 64 → Cleared file → edited_file entry_limit EraseAll file ≡ Ok again → again ≡ file
erased_again file again short k e =
    let b = bound (file_patches entry_limit EraseAll file) (λ ps. Ok (patched ps file)) again e in
    let w = was_placed entry_limit EraseAll file b.0 b.1 in
    let out : patched b.0 file ≡ again = ok_same (patched b.0 file) again b.2 in
    let at = data_are_located file w.at short w.located in
    let alike : w.at.bytes ≡ k.bytes = bytes_same w.at.bytes k.bytes (sym at.answered ∙ k.holds) in
    let c = was_cleared w.at.bytes w.patches (unlimited entry_limit EraseAll w.at.bytes w.patches w.limited) in
    let each : All (HasAt k.bytes) w.patches =
    k.each w.patches c.0 (ap header (sym alike) ∙ c.1)
    (ap (λ (xs : List ℕ). clearing c.0 (length xs)) (sym alike) ∙ c.2) in
    let held : All (HasAt (joined_bytes file w.at.ranges)) w.patches =
    subst (λ (xs : List ℕ). All (HasAt xs) w.patches) (sym (at.joined ∙ alike)) each in
    sym out
    ∙ patched_same b.0 file
    (subst (All (HasAt file)) w.are (spread_held file w.at.ranges w.patches short at.whole held))

-- ---- a settled file is emptied already

same_bytes : (span : Span) (file : List ℕ) → span.from ≤ span.end → heif.with_bytes span (heif.bytes_of span file) file ≡ file
same_bytes span file h =
    let n : span.end ≡ span.from + (span.end - span.from) = omega arith in
    let back : drop span.end file ≡ drop (span.end - span.from) (drop span.from file) =
    ap (λ k. drop k file) n ∙ sym (drop-drop (span.end - span.from) span.from file) in
    ap (λ (bs : List ℕ). take span.from file ++ (heif.bytes_of span file ++ bs)) back
    ∙ ap (λ (bs : List ℕ). take span.from file ++ bs) (take-append-drop (span.end - span.from) (drop span.from file))
    ∙ take-append-drop span.from file

spans_stay : (judged : Bool) (from : ℕ) (spans : List Span) (end : ℕ) (file : List ℕ) → AreSpans from spans end
    → list_all (heif.is_settled judged file) spans ≡ true → heif.spans_emptied judged spans file ≡ file
spans_stay judged from [] end file o e = refl
spans_stay judged from (s ∷ spans) end file o e =
    let f : s.from ≤ s.content = o.1 in
    let c : s.content ≤ s.end = o.2 in
    let both = both_true (heif.is_settled judged file s) (list_all (heif.is_settled judged file) spans) e in
    let one : heif.span_emptied judged s file ≡ file =
    ap (λ (bs : List ℕ). heif.with_bytes s bs file) (settled_bytes judged file s both.0) ∙ same_bytes s file (omega arith) in
    ap (heif.spans_emptied judged spans) one ∙ spans_stay judged s.end spans end file o.3 both.1

settled_emptied : (file : List ℕ) (left : List Part) → heif.settled file ≡ Ok left → heif.emptied file ≡ (true, file)
settled_emptied file left e =
    let s = settled_is file left e in
    ap (heif.emptied_by file) s.layout
    ∙ ap (λ (new : List ℕ). let made : Bool × List ℕ = (true, new) in made)
    (spans_stay s.judged 0 s.spans (length file) file (heif_ordered file s.spans s.judged s.layout) s.each)

-- ---- what is made of a HEIF file

no_ok : {X : Type 0} (why : Reason) (x : X) → ◌≡◌ {A = Result X Reason} (Err why) (Ok x) → ⊥
no_ok why x e = cc

change_same : (x y : Change) → ◌≡◌ {A = Result Change Reason} (Ok x) (Ok y) → x ≡ y
change_same x y e = cc

-- a file with the parts that are left of it
abbrev with_left : List ℕ → List Part → Change
with_left file parts = record { file = file; undone = map (λ part. Some (still_there part)) parts }

-- a file whose fields were all erased, or which has no Exif data
abbrev Erased : List ℕ → List ℕ → Type 0
Erased from file =
    (edited_file entry_limit EraseAll from ≡ Ok file)
    ⊎ ((from ≡ file) × ((new : List ℕ) → edited_file entry_limit EraseAll from ≡ Ok new → ⊥))

-- the file that came of erasing all fields, and what is left of it
record Made (from : List ℕ) (change : Change) : Type 0 where
  parts : List Part
  settled : heif.settled change.file ≡ Ok parts
  is : change ≡ with_left change.file parts
  how : Erased from change.file

left_made : (from file : List ℕ) (change : Change) (left : Result (List Part) heif_faults.Fault) → heif.settled file ≡ left
    → Erased from file → heif_left (whole file) left ≡ Ok change → Made from change
left_made from file change (Err fault) s how e = absurd (no_ok (heif_fault fault) change e)
left_made from file change (Ok parts) s how e =
    let is : with_left file parts ≡ change = change_same (with_left file parts) change e in
    let same : file ≡ change.file = ap (λ (c : Change). c.file) is in
    record {
      parts = parts;
      settled = ap heif.settled (sym same) ∙ s;
      is = sym is ∙ ap (λ (xs : List ℕ). with_left xs parts) same;
      how = subst (Erased from) same how;
    }

no_cause : (cause : Cause) (new : List ℕ) → ◌≡◌ {A = Result (List ℕ) Cause} (Err cause) (Ok new) → ⊥
no_cause cause new e = cc

made_from : (from : List ℕ) (change : Change) → heif_emptied (true, from) ≡ Ok change → Made from change
made_from from change e = by (edited_file entry_limit EraseAll from) refl e
  where
    Then : Result Change Reason → Type 0
    Then r = (r >>= (λ c. heif_left c (heif.settled c.file))) ≡ Ok change

    by : (x : Result (List ℕ) Cause) → edited_file entry_limit EraseAll from ≡ x → Then (if_edited from x) → Made from change
    by (Ok file) h e = left_made from file change (heif.settled file) refl (inl h) e
    by (Err (no_data (not_found what))) h e = left_made from from change (heif.settled from) refl (inr (refl, λ new k. no_cause _ new (sym h ∙ k))) e
    by (Err no_field) h e = absurd (no_ok _ change e)
    by (Err no_directory) h e = absurd (no_ok _ change e)
    by (Err full_directory) h e = absurd (no_ok _ change e)
    by (Err unknown_type) h e = absurd (no_ok _ change e)
    by (Err too_long) h e = absurd (no_ok _ change e)
    by (Err offset_named) h e = absurd (no_ok _ change e)
    by (Err shared) h e = absurd (no_ok _ change e)
    by (Err picture) h e = absurd (no_ok _ change e)
    by (Err (wrong_header fault)) h e = absurd (no_ok _ change e)
    by (Err (no_data (invalid_format text))) h e = absurd (no_ok _ change e)
    by (Err (no_data (blank_value text))) h e = absurd (no_ok _ change e)
    by (Err (no_data (too_big text))) h e = absurd (no_ok _ change e)
    by (Err (no_data (not_supported text))) h e = absurd (no_ok _ change e)
    by (Err (no_data (unexpected_value text))) h e = absurd (no_ok _ change e)

-- the file of the second time is that of the first
file_stays : (from first again : List ℕ) → length from < 2 ^ 64 → length first < 2 ^ 64 → Erased from first → Erased first again → again ≡ first
file_stays from first again s t a (inr (same, none)) = sym same
file_stays from first again s t (inl e) (inl e') = erased_again first again t (was_erased from first s e) e'
file_stays from first again s t (inr (same, none)) (inl e') = absurd (none again (ap (edited_file entry_limit EraseAll) same ∙ e'))

-- as long as it was
still_long : (from file : List ℕ) → length from < 2 ^ 64 → Erased from file → length file < 2 ^ 64
still_long from file s (inr (same, none)) = subst (λ (xs : List ℕ). length xs < 2 ^ 64) same s
still_long from file s (inl e) =
    let b = bound (file_patches entry_limit EraseAll from) (λ ps. Ok (patched ps from)) file e in
    let long = (file_sound entry_limit EraseAll from b.0 s b.1).as_long in
    let out : patched b.0 from ≡ file = ok_same (patched b.0 from) file b.2 in
    subst (λ (n : ℕ). n < 2 ^ 64) (sym long ∙ ap (λ (xs : List ℕ). length xs) out) s

-- a HEIF file is emptied
emptied_is : (file : List ℕ) → is_heif file ≡ true → heif.emptied file ≡ (true, (heif.emptied file).1)
emptied_is file h =
    by (heif.emptied file) (ap (λ (b : Bool). (heif.emptied_by file (if b then Some (layout_of file) else None)).0) h)
  where
    by : (made : Bool × List ℕ) → made.0 ≡ true → made ≡ (true, made.1)
    by (true, new) e = refl
    by (false, new) e = absurd (cc)

parts_same : (a b : List Part) → ◌≡◌ {A = Result (List Part) heif_faults.Fault} (Ok a) (Ok b) → a ≡ b
parts_same a b e = cc

-- the second time nothing changes, and the same is left
pub heif_stays : (file : List ℕ) (first second : Change) → length file < 2 ^ 64 → is_heif file ≡ true
    → heif_emptied (heif.emptied file) ≡ Ok first → heif_emptied (heif.emptied first.file) ≡ Ok second → second ≡ first
heif_stays file first second short h e e' =
    let from : List ℕ = (heif.emptied file).1 in
    let a = made_from from first (ap heif_emptied (sym (emptied_is file h)) ∙ e) in
    let b = made_from first.file second (ap heif_emptied (sym (settled_emptied first.file a.parts a.settled)) ∙ e') in
    let short' : length from < 2 ^ 64 = subst (λ (n : ℕ). n < 2 ^ 64) (sym (emptied_long file)) short in
    let same : second.file ≡ first.file =
    file_stays from first.file second.file short' (still_long from first.file short' a.how) a.how b.how in
    let left : b.parts ≡ a.parts = parts_same b.parts a.parts (sym b.settled ∙ (ap heif.settled same ∙ a.settled)) in
    b.is
    ∙ (ap (λ (xs : List ℕ). with_left xs b.parts) same
    ∙ (ap (with_left first.file) left ∙ sym a.is))
