-- The Exif data of a file are the bytes of its ranges.
use Rattle.std.proofs.Common.{◌≡◌, ℕ, ◌^◌, ◌+◌, ◌-◌, ◌<◌, ◌≤◌, ◌⊎◌, inl, inr, Bool, true, false, cond, eqb, ltb, List, [], ◌∷◌, ◌++◌, length, map, take, drop, Option, None, Some, Result, Ok, Err, ap, sym, ◌∙◌, refl, subst, arith, append_assoc, length-append, length-drop, slice_index, take-append-drop, ltb-false, unwrap_or}
use Rattle.std.specs.List.{All, last_or}
use Rattle.std.specs.Io.Iter.{u64_saturate}
use Rattle.std.proofs.Math.Seq.{drop-append-add}
use Rattle.std.proofs.lemmas.Bool.{cases_lt}
use Rattle.std.proofs.lemmas.List.{drop-append-le, take-append-le}
use Rattle.std.proofs.lemmas.List.Elements.{All-cons, All-head, All-nil, All-tail}
use Rattle.byteorder.specs.Endian.{big_number}
use Rattle.exif_types.specs.Refusals.{Refusal, ◌>>=◌, last_read, or_refuse}
use Rattle.exif_isobmff.specs.declared.kind.Kind.TheVariants.{ItemData, ItemInfo}
use Rattle.exif_isobmff.specs.declared.extents.Within.TheVariants.{File, ItemDataBox}
use Rattle.exif_isobmff.specs.declared.locations.Extent.{Extent}
use Rattle.exif_isobmff.specs.HeifRefusals.{block_too_small, by_item_offset, invalid_header_offset, invalid_method, no_exif, no_iloc, no_idat, no_matching_item, too_small, unsupported_meta}
use Rattle.exif_isobmff.specs.Boxes.{bodies, children, read_each, version_at}
use Rattle.exif_isobmff.specs.Items.{exif_numbers}
use Rattle.exif_isobmff.specs.HeifFile.{meta_body}
use Rattle.exif_isobmff.specs.ItemLocations.{extent_bytes, gathered, item_bytes, locations}
use Rattle.exif_isobmff.specs.Heif.{FoundItem, Tables, after_header, exif_block, exif_of, exif_item, meta_tables, tables_of}
use Rattle.exif_isobmff.specs.Extents.{ExifIsLocated, IsLocated, IsWhole, behind_last, behind_meta, idat_offset, item_ranges, joined_bytes, located_exif, located_in, meta_end, moved_by, range_beside, range_bytes, range_of}
use Rattle.exif_isobmff.proofs.ExifNames.{Only, after_header_only, exif_item_only, item_bytes_only, meta_body_only, only_then}
use Rattle.exif_isobmff.proofs.SplitterBoxes.{bind_ok, ok_same}
use Rattle.exif_isobmff.proofs.BehindMeta.{IsAt, meta_is_at}
use Rattle.exif_isobmff.proofs.IdatAt.{idat_is_at}
use Rattle.exif_isobmff.proofs.ExtentRanges.{AreRanges, gathered_ranges, range_fits, small, without_first_bytes, without_first_whole}

-- ---- the ranges of an `idat`

-- a range of the body of an `idat` is one of the file
beside-range : (file front idat rest : List ℕ) (e : Extent) → length file < 2 ^ 64 → file ≡ front ++ (idat ++ rest) → IsWhole idat e
    → range_bytes file (moved_by (length front) e) ≡ range_bytes idat e
beside-range file front idat rest e short whole h = by (cases_lt 0 e.len)
  where
    by : (0 < e.len) ⊎ (e.len ≤ 0) → range_bytes file (moved_by (length front) e) ≡ range_bytes idat e
    by (inl some) =
        let fits = range_fits idat e h some in
        let left = length-drop e.offset idat in
        let total : length file ≡ length front + (length idat + length rest) =
        ap length whole ∙ length-append front (idat ++ rest) ∙ ap (λ n. length front + n) (length-append idat rest) in
        ap (λ n. take e.len (drop n file)) (small (length front + e.offset) (omega arith))
        ∙ ap (λ t. take e.len (drop (length front + e.offset) t)) whole
        ∙ ap (take e.len) (drop-append-add front (idat ++ rest) e.offset ∙ drop-append-le e.offset idat rest (omega arith))
        ∙ take-append-le e.len (drop e.offset idat) rest (omega arith)
    by (inr none) =
        let zero-len : e.len ≡ 0 = omega arith in
        ap (λ n. take n (drop (u64_saturate (length front + e.offset)) file)) zero-len ∙ sym (ap (λ n. take n (drop e.offset idat)) zero-len)

beside-joined : (file front idat rest : List ℕ) (base : ℕ) (es : List Extent) → length file < 2 ^ 64 → file ≡ front ++ (idat ++ rest) → All (IsWhole idat) (map (range_of idat base) es)
    → joined_bytes file (map (range_beside (length front) idat base) es) ≡ joined_bytes idat (map (range_of idat base) es)
beside-joined file front idat rest base [] short whole h = refl
beside-joined file front idat rest base (e ∷ es) short whole h =
    let first = beside-range file front idat rest (range_of idat base e) short whole (All-head (IsWhole idat) (range_of idat base e) (map (range_of idat base) es) h) in
    let others = beside-joined file front idat rest base es short whole (All-tail (IsWhole idat) (range_of idat base e) (map (range_of idat base) es) h) in
    ap (λ t. t ++ joined_bytes file (map (range_beside (length front) idat base) es)) first ∙ ap (λ t. range_bytes idat (range_of idat base e) ++ t) others

beside-whole : (file front idat rest : List ℕ) (base : ℕ) (es : List Extent) → length file < 2 ^ 64 → file ≡ front ++ (idat ++ rest) → All (IsWhole idat) (map (range_of idat base) es)
    → All (IsWhole file) (map (range_beside (length front) idat base) es)
beside-whole file front idat rest base [] short whole h = All-nil (IsWhole file)
beside-whole file front idat rest base (e ∷ es) short whole h =
    let first : IsWhole idat (range_of idat base e) = All-head (IsWhole idat) (range_of idat base e) (map (range_of idat base) es) h in
    All-cons (IsWhole file) (range_beside (length front) idat base e) (map (range_beside (length front) idat base) es)
    (ap length (beside-range file front idat rest (range_of idat base e) short whole first) ∙ first)
    (beside-whole file front idat rest base es short whole (All-tail (IsWhole idat) (range_of idat base e) (map (range_of idat base) es) h))

-- ---- where the `idat` is

version-rest : (meta : List ℕ) (v : ℕ × List ℕ) → version_at meta ≡ Ok v → v.1 ≡ drop 4 meta
version-rest meta v e = by (ltb (length meta) 4) e
  where
    by : (b : Bool) → (let r : Result (ℕ × List ℕ) Refusal = cond b (Err too_small) (Ok (slice_index meta 0, drop 4 meta)) in r ≡ Ok v) → v.1 ≡ drop 4 meta
    by true e = absurd (cc)
    by false e = sym (ap (λ p. p.1) (ok_same e))

when-same : {A : Type 0} (b : Bool) (x : Result A Refusal) (r : Refusal) (y : A) → cond b x (Err r) ≡ Ok y → x ≡ Ok y
when-same true x r y e = e
when-same false x r y e = absurd (cc)

tables-idat : (meta : List ℕ) (t : Tables) → meta_tables meta ≡ Ok t → t.idat ≡ last_or None (bodies ItemData (children (drop 4 meta)))
unfolding meta_tables
tables-idat meta t e =
    let v = bind_ok (version_at meta) _ t e in
    let parts = when-same (eqb v.0.0 0) (tables_of (children v.0.1)) unsupported_meta t v.2 in
    let item = bind_ok (last_read None (read_each ItemInfo exif_numbers (children v.0.1))) _ t parts in
    sym (ap (λ u. u.idat) (ok_same item.2)) ∙ ap (λ text. last_or None (bodies ItemData (children text))) (version-rest meta v.0 v.1)

item-idat : (meta : List ℕ) (found : FoundItem) → exif_item meta ≡ Ok found → found.idat ≡ last_or None (bodies ItemData (children (drop 4 meta)))
unfolding exif_item
item-idat meta found e =
    let t = bind_ok (meta_tables meta) _ found e in
    let item = bind_ok (or_refuse t.0.item no_exif) _ found t.2 in
    let iloc = bind_ok (or_refuse t.0.iloc no_iloc) _ found item.2 in
    let all = bind_ok (last_read None (locations item.0 iloc.0)) _ found iloc.2 in
    let matched = bind_ok (or_refuse all.0 no_matching_item) _ found all.2 in
    sym (ap (λ f. f.idat) (ok_same matched.2)) ∙ tables-idat meta t.0 t.1

idat-in : (meta idat : List ℕ) (found : FoundItem) → exif_item meta ≡ Ok found → found.idat ≡ Some idat → IsAt meta idat (behind_last ItemData [] (drop 4 meta))
idat-in meta idat found e some =
    let all : take 4 meta ++ drop 4 meta ≡ meta = take-append-drop 4 meta in
    let at = idat_is_at meta (take 4 meta) (drop 4 meta) (sym all) in
    rw (sym (item-idat meta found e) ∙ some) at at

-- the body of an `idat` in the file
record IsInFile (file meta idat : List ℕ) : Type 0 where
  front : List ℕ
  rest : List ℕ
  whole : file ≡ front ++ (idat ++ rest)
  offset : idat_offset (meta_end file) meta idat ≡ length front

idat-in-file : (file meta idat : List ℕ) (found : FoundItem) → meta_body file ≡ Ok meta → exif_item meta ≡ Ok found → found.idat ≡ Some idat → IsInFile file meta idat
idat-in-file file meta idat found m e some =
    let a = meta_is_at file meta m in
    let b = idat-in meta idat found e some in
    let bm : List ℕ = behind_meta file in
    let bi : List ℕ = behind_last ItemData [] (drop 4 meta) in
    let la : length file ≡ length a.front + (length meta + length bm) =
    ap length a.whole ∙ length-append a.front (meta ++ bm) ∙ ap (λ n. length a.front + n) (length-append meta bm) in
    let lb : length meta ≡ length b.front + (length idat + length bi) =
    ap length b.whole ∙ length-append b.front (idat ++ bi) ∙ ap (λ n. length b.front + n) (length-append idat bi) in
    let lf : length (a.front ++ b.front) ≡ length a.front + length b.front = length-append a.front b.front in
    record {
      front = a.front ++ b.front;
      rest = bi ++ bm;
      whole = a.whole
          ∙ ap (λ t. a.front ++ (t ++ bm)) b.whole
          ∙ ap (λ t. a.front ++ t) (append_assoc b.front (idat ++ bi) bm)
          ∙ ap (λ t. a.front ++ (b.front ++ t)) (append_assoc idat bi bm)
          ∙ sym (append_assoc a.front b.front (idat ++ (bi ++ bm)));
      offset = omega arith;
    }

-- ---- the item

beside-item : (file meta idat block : List ℕ) (base : ℕ) (es : List Extent) → length file < 2 ^ 64 → IsInFile file meta idat → AreRanges idat [] block (map (range_of idat base) es)
    → AreRanges file [] block (map (range_beside (idat_offset (meta_end file) meta idat) idat base) es)
beside-item file meta idat block base es short at r =
    subst (λ n. AreRanges file [] block (map (range_beside n idat base) es)) (sym at.offset)
    (record {
      same = r.same ∙ sym (beside-joined file at.front idat at.rest base es short at.whole r.whole);
      whole = beside-whole file at.front idat at.rest base es short at.whole r.whole;
    })

some-of : (o : Option (List ℕ)) (r : Refusal) (x : List ℕ) → or_refuse o r ≡ Ok x → o ≡ Some x
some-of None r x e = absurd (cc)
some-of (Some y) r x e = ap Some (ok_same e)

item-beside : (file meta block : List ℕ) (found : FoundItem) → length file < 2 ^ 64 → meta_body file ≡ Ok meta → exif_item meta ≡ Ok found
    → (or_refuse found.idat no_idat >>= λ beside. gathered (extent_bytes ItemDataBox beside found.location.base) [] found.location.extents) ≡ Ok block
    → AreRanges file [] block (map (range_beside (idat_offset (meta_end file) meta (unwrap_or found.idat [])) (unwrap_or found.idat []) found.location.base) found.location.extents)
item-beside file meta block found short m e h =
    let b = bind_ok (or_refuse found.idat no_idat) _ block h in
    let some : found.idat ≡ Some b.0 = some-of found.idat no_idat b.0 b.1 in
    rw some
    (beside-item file meta b.0 block found.location.base found.location.extents short (idat-in-file file meta b.0 found m e some)
    (gathered_ranges ItemDataBox b.0 [] block found.location.base found.location.extents b.2))

pub item_is_ranges : (file meta block : List ℕ) (found : FoundItem) → length file < 2 ^ 64 → meta_body file ≡ Ok meta → exif_item meta ≡ Ok found
    → item_bytes file found.idat found.location ≡ Ok block → AreRanges file [] block (item_ranges file meta found)
unfolding item_bytes
item_is_ranges file meta block found short m e h = by (eqb found.location.method 0) refl h
  where
    other : (b c : Bool) → cond b (or_refuse found.idat no_idat >>= λ beside. gathered (extent_bytes ItemDataBox beside found.location.base) [] found.location.extents) (cond c (Err by_item_offset) (Err invalid_method)) ≡ Ok block
        → AreRanges file [] block (map (range_beside (idat_offset (meta_end file) meta (unwrap_or found.idat [])) (unwrap_or found.idat []) found.location.base) found.location.extents)
    other true c h = item-beside file meta block found short m e h
    other false true h = absurd (cc)
    other false false h = absurd (cc)

    by : (b : Bool) → eqb found.location.method 0 ≡ b
        → cond b (gathered (extent_bytes File file found.location.base) [] found.location.extents)
        (cond (eqb found.location.method 1) (or_refuse found.idat no_idat >>= λ beside. gathered (extent_bytes ItemDataBox beside found.location.base) [] found.location.extents) (cond (eqb found.location.method 2) (Err by_item_offset) (Err invalid_method)))
        ≡ Ok block → AreRanges file [] block (item_ranges file meta found)
    by true z h = rw z (gathered_ranges File file [] block found.location.base found.location.extents h)
    by false z h = rw z (other (eqb found.location.method 1) (eqb found.location.method 2) h)

-- ---- the data behind the header

header-gone : (block data' : List ℕ) → after_header block ≡ Ok data' → drop (length block - length data') block ≡ data'
unfolding after_header
header-gone block data' e = by (ltb (length block) 4) (ltb (length block - 4) (big_number 4 block)) refl refl e
  where
    by : (a b : Bool) → ltb (length block) 4 ≡ a → ltb (length block - 4) (big_number 4 block) ≡ b
        → cond a (Err block_too_small) (cond b (Err invalid_header_offset) (Ok (drop (4 + big_number 4 block) block))) ≡ Ok data' → drop (length block - length data') block ≡ data'
    by true b h k e = absurd (cc)
    by false true h k e = absurd (cc)
    by false false h k e =
        let same : drop (4 + big_number 4 block) block ≡ data' = ok_same e in
        let len : length data' ≡ length block - (4 + big_number 4 block) = ap length (sym same) ∙ length-drop (4 + big_number 4 block) block in
        let one = ltb-false (length block) 4 h in
        let two = ltb-false (length block - 4) (big_number 4 block) k in
        let n : length block - length data' ≡ 4 + big_number 4 block = omega arith in
        ap (λ n. drop n block) n ∙ same

answered : (file meta block data' : List ℕ) (found : FoundItem) → meta_body file ≡ Ok meta → exif_item meta ≡ Ok found → item_bytes file found.idat found.location ≡ Ok block
    → after_header block ≡ Ok data' → exif_of file ≡ Ok data'
unfolding exif_of exif_block
answered file meta block data' found m e i a = rw (m, e, i) a

-- the Exif data of a file are in its ranges
pub exif_is_located : (file : List ℕ) → ExifIsLocated file
unfolding located_exif located_in
exif_is_located file found short h =
    let m = bind_ok (meta_body file) _ found h in
    let p = bind_ok (exif_item m.0) _ found m.2 in
    let b = bind_ok (item_bytes file p.0.idat p.0.location) _ found p.2 in
    let d = bind_ok (after_header b.0) _ found b.2 in
    let same = ok_same d.2 in
    let r = item_is_ranges file m.0 b.0 p.0 short m.1 p.1 b.1 in
    subst (IsLocated file) same
    (record {
      answered = answered file m.0 b.0 d.0 p.0 m.1 p.1 b.1 d.1;
      joined = without_first_bytes file (length b.0 - length d.0) (item_ranges file m.0 p.0) short r.whole
          ∙ ap (drop (length b.0 - length d.0)) (sym r.same) ∙ header-gone b.0 d.0 d.1;
      whole = without_first_whole file (length b.0 - length d.0) (item_ranges file m.0 p.0) short r.whole;
    })

located-in-only : (ranges : List Extent) (block : List ℕ) → Only (located_in ranges block)
unfolding located_in
located-in-only ranges block = only_then (after_header block) _ (after_header_only block) (λ data'. tt)

-- where the Exif data of a file are, is refused by a refusal of the list
pub located_exif_only : (file : List ℕ) → Only (located_exif file)
unfolding located_exif
located_exif_only file =
    only_then (meta_body file) _ (meta_body_only file) (λ meta.
    only_then (exif_item meta) _ (exif_item_only meta) (λ found.
    only_then (item_bytes file found.idat found.location) _ (item_bytes_only file found.idat found.location) (λ block.
    located-in-only (item_ranges file meta found) block)))
