-- An image is read back as its flat fields, in either byte order.
use Rattle.std.proofs.Common.{◌≡◌, ℕ, zero, suc, ◌+◌, ◌-◌, ◌<◌, ◌≤◌, ◌^◌, ◌==◌, List, [], ◌∷◌, ◌++◌, length, take, refl, ap, ◌∙◌, arith, map, None, Some, Bool, true, false, Ok, Err}
use Rattle.std.specs.Prelude.{nat_lt}
use Rattle.std.proofs.lemmas.Bool.{le-ltb, ne_eqb}
use Rattle.std.proofs.lemmas.List.{take_all}
use Rattle.std.specs.List.{AllByRecursion}
use Rattle.exif_base.specs.declared.endian.Order.{Order}
use Rattle.exif_base.specs.declared.endian.Order.TheVariants.{Big, Little}
use Rattle.exif_base.specs.Bytes.{Reading, number_at}
use Rattle.exif_base.specs.Orders.{number_of}
use Rattle.exif_table.specs.declared.context.Context.TheVariants.{Tiff}
use Rattle.exif_types.specs.declared.field.Field.{Field}
use Rattle.exif_tiff.specs.declared.fault.Fault.{Fault}
use Rattle.exif_tiff.specs.declared.fault.Fault.TheVariants.{TooManyDirectories}
use Rattle.exif_tiff.specs.Trace.{Node, Met, directory_end, directory_nodes, chain_nodes, chain_after, fields_of, faults_of, order_of, header, ordered_trace, content_of, limited}
use Rattle.exif_tiff.specs.Answers.{Answer, Refused, raw_answer, answer_of}
use Rattle.exif_layout.specs.Ranged.{AreRanged, HavePlainTexts}
use Rattle.exif_layout.specs.Groups.{Group}
use Rattle.exif_layout.specs.Slots.{draft_of}
use Rattle.exif_layout.specs.Offsets.{even, tiff_offset, draft_end, next_offset}
use Rattle.exif_layout.specs.Image.{Part, draft_parts, parts_from, image}
use Rattle.exif_layout.specs.Flat.{flat_from, flat}
use Rattle.exif_layout.specs.Refused.{write_fault}
use Rattle.exif_layout.specs.Layout.{Stands, Spans}
use Rattle.exif_tiff.proofs.ReportBound.{fields-append, faults-append}
use Rattle.exif_layout.proofs.Images.Words.{AllStand, DraftStands, IsAccepted}
use Rattle.exif_tiff.proofs.Members.{all_left, all_right}
use Rattle.exif_layout.proofs.Images.Offsets.{draft_spans, even_low}
use Rattle.exif_layout.proofs.Images.Whole.{known_slots, not_refused, length-image, parts_stand}
use Rattle.exif_layout.proofs.Images.Families.{draft_stands, each_read, nodes_give}
use Rattle.exif_layout.proofs.Images.Fitting.{slots_fit}

spans_le : (start end : ℕ) (ps : List Part) → Spans start ps end → start ≤ end
spans_le start end [] s = omega arith
spans_le start end (p ∷ ps) s =
    let low = s.0 in
    let more = spans_le (p.offset + length p.text) end ps s.2 in
    omega arith

-- the draft of an accepted group ends no lower than it starts
pub draft_end_le : (order : Order) (group : Group) (start : ℕ) → IsAccepted group → start ≤ draft_end (draft_of group) start
draft_end_le order group start h = spans_le start (draft_end (draft_of group) start) _ (draft_spans order (draft_of group) start 0 h.some (known_slots group h))

otherwise : (b : Bool) (nodes : List Node) → b ≡ false → elim b as (λ _. List Node) [ true ↦ [] | false ↦ nodes ] ≡ nodes
otherwise b nodes h = rw h refl

-- one more directory of a chain
chain_step : (number : Reading) (bytes : List ℕ) (left ifd offset next : ℕ) → 0 < offset → directory_end number bytes offset ≡ Ok next
    → chain_nodes (suc left) number bytes ifd offset ≡ directory_nodes 3 number bytes ifd Tiff offset ++ chain_nodes left number bytes (suc ifd) next
chain_step number bytes left ifd offset next some e =
    let there : (offset == 0) ≡ false = ne_eqb offset 0 (λ k. omega arith) in
    let after : ifd + 1 ≡ suc ifd = omega arith in
    otherwise (offset == 0) _ there ∙ (λ i. directory_nodes 3 number bytes ifd Tiff offset ++ chain_after (chain_nodes left number bytes (after i)) (e i))

chain_over : (number : Reading) (bytes : List ℕ) (ifd offset : ℕ) → 0 < offset → chain_nodes 0 number bytes ifd offset ≡ Met TooManyDirectories ∷ []
chain_over number bytes ifd offset some = let there : (offset == 0) ≡ false = ne_eqb offset 0 (λ k. omega arith) in rw there refl

-- the fault of a chain that has more directories than are followed
abbrev pub faults_over : ℕ → List Group → List Fault
faults_over count [] = []
faults_over zero (group ∷ groups) = TooManyDirectories ∷ []
faults_over (suc count) (group ∷ groups) = faults_over count groups

-- the nodes have these fields and these faults
pub record Leaves (nodes : List Node) (fields : List Field) (faults : List Fault) : Type 0 where
  pub seen : fields_of nodes ≡ fields
  pub failed : faults_of nodes ≡ faults

module _ (order : Order) (bytes : List ℕ) (small : length bytes < 256 ^ 4) where
  -- where the parts of accepted groups are, 32 bits hold the offset of the first directory
  pub next_low : (start : ℕ) (groups : List Group) → AllByRecursion IsAccepted groups → AllStand bytes (parts_from order start (map draft_of groups)) → next_offset start (map draft_of groups) < 256 ^ 4
  unfolding tiff_offset
  next_low start [] h stands = omega arith
  next_low start (group ∷ groups) h stands =
      let first = draft_stands order bytes (draft_of group) start (next_offset (draft_end (draft_of group) start) (map draft_of groups)) (all_left _ _ _ stands) in
      let within = (first.directory Tiff h.0.some).within in
      omega arith

  -- of accepted groups of values that fit, those followed are read, and more are a fault
  pub chain_leaves : (groups : List Group) (count ifd start : ℕ) → 0 < start → AllByRecursion IsAccepted groups → AreRanged groups → HavePlainTexts groups
      → AllStand bytes (parts_from order start (map draft_of groups))
      → Leaves (chain_nodes count (number_of order) bytes ifd (next_offset start (map draft_of groups))) (flat_from ifd start (map draft_of (take count groups))) (faults_over count groups)
  unfolding tiff_offset
  chain_leaves [] zero ifd start some h ranged clean stands = record { seen = refl; failed = refl }
  chain_leaves [] (suc count) ifd start some h ranged clean stands = record { seen = refl; failed = refl }
  chain_leaves (group ∷ groups) zero ifd start some h ranged clean stands =
      let low = even_low start in
      rw (chain_over (number_of order) bytes ifd (even start) (omega arith)) (record { seen = refl; failed = refl })
  chain_leaves (group ∷ groups) (suc count) ifd start some h ranged clean stands =
      let next : ℕ = next_offset (draft_end (draft_of group) start) (map draft_of groups) in
      let here = all_left (λ part. Stands bytes part.offset part.text) (draft_parts order (draft_of group) start next) (parts_from order (draft_end (draft_of group) start) (map draft_of groups)) stands in
      let there = all_right (λ part. Stands bytes part.offset part.text) (draft_parts order (draft_of group) start next) (parts_from order (draft_end (draft_of group) start) (map draft_of groups)) stands in
      let group_stand : DraftStands order bytes (draft_of group) start next = draft_stands order bytes (draft_of group) start next here in
      let fit = slots_fit group ranged.0 clean.0 h.0 in
      let low : next < 256 ^ 4 = next_low (draft_end (draft_of group) start) groups h.1 there in
      let read = each_read order bytes small (draft_of group) start next low group_stand h.0.few fit Tiff h.0.some in
      let one = nodes_give order bytes small (draft_of group) start next low group_stand h.0.few fit 3 ifd Tiff h.0.some in
      let up = even_low start in
      let on = draft_end_le order group start h.0 in
      let more = chain_leaves groups count (suc ifd) (draft_end (draft_of group) start) (omega arith) h.1 ranged.1 clean.1 there in
      rw (chain_step (number_of order) bytes count ifd (even start) next (omega arith) read.end) (record {
        seen = fields-append (directory_nodes 3 (number_of order) bytes ifd Tiff (even start)) (chain_nodes count (number_of order) bytes (suc ifd) next) ∙ (λ i. one.seen i ++ more.seen i);
        failed = faults-append (directory_nodes 3 (number_of order) bytes ifd Tiff (even start)) (chain_nodes count (number_of order) bytes (suc ifd) next) ∙ (λ i. one.clean i ++ more.failed i);
      })

-- The header of an image is whole: it names the byte order, and the first directory is behind it.
header_is : (order : Order) (bytes : List ℕ) → nat_lt (2 ^ 32 - 1) (length bytes) ≡ false → nat_lt (length bytes) 8 ≡ false
    → order_of bytes ≡ Some order → (number_at (number_of order) 2 bytes 2 == 42) ≡ true → header bytes ≡ Ok order
header_is order bytes a b c d = rw (a, b, c, d) refl

image_order : (order : Order) (groups : List Group) → order_of (image order groups) ≡ Some order
unfolding image
image_order Big groups = refl
image_order Little groups = refl

image_mark : (order : Order) (groups : List Group) → (number_at (number_of order) 2 (image order groups) 2 == 42) ≡ true
unfolding image
image_mark Big groups = refl
image_mark Little groups = refl

-- the header of an image names 8 as the offset of the first directory
pub image_first : (order : Order) (groups : List Group) → number_at (number_of order) 4 (image order groups) 4 ≡ 8
unfolding image
image_first Big groups = refl
image_first Little groups = refl

header_len : (order : Order) (groups : List Group) → 8 ≤ length (image order groups)
unfolding image
header_len Big groups = omega arith
header_len Little groups = omega arith

-- an image that is written has a good header, which names its byte order
pub image_header : (order : Order) (groups : List Group) → write_fault groups ≡ None → header (image order groups) ≡ Ok order
image_header order groups h =
    let accepted = not_refused groups h in
    let end = accepted.small in
    let len = length-image order groups accepted.each in
    let low = header_len order groups in
    header_is order (image order groups) (le-ltb (2 ^ 32 - 1) (length (image order groups)) (omega arith)) (le-ltb (length (image order groups)) 8 (omega arith))
    (image_order order groups) (image_mark order groups)

-- a chain that is followed for some directories
pub image_chain : (order : Order) (groups : List Group) (count : ℕ) → AreRanged groups → HavePlainTexts groups → write_fault groups ≡ None
    → Leaves (chain_nodes count (number_of order) (image order groups) 0 8) (flat (take count groups)) (faults_over count groups)
unfolding write_fault image flat
image_chain order [] count ranged clean h = absurd cc
image_chain order (group ∷ groups) count ranged clean h =
    let all : List Group = group ∷ groups in
    let accepted = not_refused all h in
    let end = accepted.small in
    let len = length-image order all accepted.each in
    let stands = parts_stand order all accepted.each in
    chain_leaves order (image order all) (omega arith) all count 0 8 (omega arith) accepted.each ranged clean stands.1

-- The fields of an image are the flat ones of the first eight groups, and the only fault is that there are more.
pub image_leaves : (order : Order) (groups : List Group) → AreRanged groups → HavePlainTexts groups → write_fault groups ≡ None
    → Leaves (ordered_trace (number_of order) (image order groups)) (flat (take 8 groups)) (faults_over 8 groups)
unfolding ordered_trace
image_leaves order groups ranged clean h = rw (image_first order groups) (image_chain order groups 8 ranged clean h)

-- what is answered to an image
pub image_answer : (order : Order) (groups : List Group) (fields : List Field) (faults : List Fault) → write_fault groups ≡ None
    → Leaves (ordered_trace (number_of order) (image order groups)) fields faults
    → (lenient : Bool) → raw_answer lenient None (image order groups) ≡ answer_of lenient (record { fields = fields; faults = faults })
unfolding raw_answer
image_answer order groups fields faults h leaves lenient =
    let bytes : List ℕ = image order groups in
    (λ i. elim (image_header order groups h i) as (λ _. Answer) [ Err fault ↦ Refused fault | Ok read ↦ answer_of lenient (content_of (limited None (ordered_trace (number_of read) bytes))) ])
    ∙ (λ i. answer_of lenient (record { fields = leaves.seen i; faults = leaves.failed i }))

-- a chain of no more groups than are followed has no fault
pub faults_under : (count : ℕ) (groups : List Group) → length groups ≤ count → faults_over count groups ≡ []
faults_under count [] h = refl
faults_under zero (group ∷ groups) h = absurd (omega arith)
faults_under (suc count) (group ∷ groups) h = faults_under count groups (omega arith)

-- a chain of more groups than are followed has one fault, that there are too many
pub faults_more : (count : ℕ) (groups : List Group) → count < length groups → faults_over count groups ≡ TooManyDirectories ∷ []
faults_more count [] h = absurd (omega arith)
faults_more zero (group ∷ groups) h = refl
faults_more (suc count) (group ∷ groups) h = faults_more count groups (omega arith)

-- An image of at most eight groups is read as its flat fields, and no fault.
pub read_back : (order : Order) (groups : List Group) → AreRanged groups → HavePlainTexts groups → length groups ≤ 8 → write_fault groups ≡ None
    → Leaves (ordered_trace (number_of order) (image order groups)) (flat groups) []
read_back order groups ranged clean few h =
    let leaves = image_leaves order groups ranged clean h in
    record { seen = leaves.seen ∙ ap flat (take_all 8 groups few); failed = leaves.failed ∙ faults_under 8 groups few }
