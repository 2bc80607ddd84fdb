-- The Exif data of a file are where they are located, and others as long can be put there.
use Rattle.std.proofs.Common.{◌≡◌, ◌≤◌, ◌<◌, ◌+◌, ◌-◌, ◌^◌, ℕ, Bool, true, false, List, [], ◌∷◌, ◌++◌, length, take, drop, Option, Some, None, Result, Ok, Err, refl, sym, ap, subst, ◌∙◌, arith, append_assoc, append-nil, length-append}
use Rattle.std.specs.Prelude.{codes, ◌||◌, nat_le, nat_lt}
use Rattle.std.specs.List.{All, find}
use Rattle.std.proofs.lemmas.Bool.Decides.{nat_tests}
use Rattle.std.proofs.lemmas.Bool.{false≢true}
use Rattle.std.proofs.lemmas.List.{length-take, take-take, take_all}
use Rattle.std.proofs.lemmas.List.Elements.{All-nil, All-cons}
use Rattle.std.proofs.Math.Seq.{drop-append_seam, take-append_seam}
use Rattle.std.specs.Str.{bytes_eq}
use Rattle.exif_base.specs.Bytes.{bytes_at}
use Rattle.exif_types.specs.Refusals.{Refusal, ◌>>=◌}
use Rattle.exif_isobmff.specs.Boxes.{all_boxes, and_then, box_at, box_size, filling, header_at, header_len}
use Rattle.exif_isobmff.specs.Extents.{IsWhole, item_ranges, joined_bytes, located_exif, located_in, without_first}
use Rattle.exif_isobmff.specs.Extents as heif
use Rattle.exif_isobmff.specs.Heif.{FoundItem, after_header, exif_block, exif_item, exif_of}
use Rattle.exif_isobmff.specs.ItemLocations.{item_bytes}
use Rattle.exif_isobmff.specs.HeifRefusals.{too_small}
use Rattle.exif_isobmff.specs.Kinds.{kind_of}
use Rattle.exif_isobmff.specs.HeifFile.{begins_heif, has_heif_brand, is_ftyp, meta_body}
use Rattle.exif_isobmff.specs.declared.locations.Extent.{Extent}
use Rattle.exif_isobmff.proofs.ItemRanges.{exif_is_located}
use Rattle.exif_segments.specs.Answer.{Answer, found, offset_before}
use Rattle.exif_containers.specs.Container.{answer_as, begins_tiff, container_answer, data_of, format_in, unknown_format}
use Rattle.exif_segments.specs.Jpeg.{jpeg_answer}
use Rattle.exif_segments.specs.Webp.{webp_answer}
use Rattle.exif_segments.specs.WebpGrammar.{print_header}
use Rattle.exif_containers.specs.Located.{DataAreLocated, IsLocated, Located, RefusedAlike, heif_located, in_one, located_answer, located_as, payload_in}
use Rattle.exif_containers.specs.Replacing.{CanStandIn, DataAreReplaced, put_in}
use Rattle.exif_containers.specs.declared.container.Format.{Format}
use Rattle.exif_containers.specs.declared.container.Format.TheVariants.{Tiff, Jpeg, Heif, WebP}
use Rattle.exif_segments.proofs.Splicing.{jpeg_around, refused_found, webp_around}

-- ---- the container of a file whose data are replaced

format_jpeg : (bytes : List ℕ) → format_in (take 4096 (255 ∷ 216 ∷ bytes)) ≡ Some Jpeg
unfolding format_in
format_jpeg bytes = refl

header_read : (bytes : List ℕ) (k : ℕ) → header_len bytes ≡ 8 → box_size bytes ≡ k → 8 ≤ k
    → header_at bytes
    ≡ Ok (record { kind = kind_of (take 4 (drop 4 bytes)); len = k - 8 }, drop 8 bytes)
unfolding header_at
header_read bytes k h b m =
    let t : nat_lt k 8 ≡ false = grind (arith, nat_tests) in rw (h, b, t) refl

-- a box that is longer than what there is of it
box_cut : (bytes : List ℕ) (k : ℕ) → header_len bytes ≡ 8 → box_size bytes ≡ k → 8 ≤ k
    → 8 ≤ length bytes → length (drop 8 bytes) < k - 8 → box_at bytes ≡ Err too_small
unfolding box_at
box_cut bytes k h b m l c =
    let a = header_read bytes k h b m in
    let t : nat_le 8 (length bytes) ≡ true = grind (arith, nat_tests) in
    let u : nat_lt (length (drop 8 bytes)) (k - 8) ≡ true = grind (arith, nat_tests) in
    rw (h, t, a, u) refl

no_heif : (a b c d : ℕ) (bytes : List ℕ) → length bytes ≤ 4096
    → begins_heif (82 ∷ 73 ∷ 70 ∷ 70 ∷ a ∷ b ∷ c ∷ d ∷ bytes) ≡ false
unfolding begins_heif all_boxes
no_heif a b c d bytes h =
    let e : box_at (82 ∷ 73 ∷ 70 ∷ 70 ∷ a ∷ b ∷ c ∷ d ∷ bytes) ≡ Err too_small =
    box_cut (82 ∷ 73 ∷ 70 ∷ 70 ∷ a ∷ b ∷ c ∷ d ∷ bytes) 1380533830 refl refl (omega arith)
    (omega arith) (omega arith) in
    ap (λ x. elim (find is_ftyp
    (and_then x (filling box_at (length (73 ∷ 70 ∷ 70 ∷ a ∷ b ∷ c ∷ d ∷ bytes)))).whole)
    as (λ o. Bool) [ Some p ↦ has_heif_brand p.body | None ↦ false ]) e

format_webp : (a b c d : ℕ) (bytes : List ℕ)
    → format_in (take 4096 (82 ∷ 73 ∷ 70 ∷ 70 ∷ a ∷ b ∷ c ∷ d ∷ 87 ∷ 69 ∷ 66 ∷ 80 ∷ bytes))
    ≡ Some WebP
unfolding format_in
format_webp a b c d bytes =
    let l : length (87 ∷ 69 ∷ 66 ∷ 80 ∷ take 4084 bytes) ≤ 4096 = let m =
    length-take 4084 bytes in omega arith in
    rw (no_heif a b c d (87 ∷ 69 ∷ 66 ∷ 80 ∷ take 4084 bytes) l) refl

head_begins : (bytes : List ℕ) → begins_tiff bytes ≡ true → begins_tiff (take 4096 bytes) ≡ true
head_begins bytes h =
    ap (λ t. bytes_eq t (codes "MM\0*") || bytes_eq t (codes "II*\0"))
    (take-take 4 4096 bytes (omega arith)) ∙ h

format_tiff : (bytes : List ℕ) → begins_tiff bytes ≡ true → format_in (take 4096 bytes) ≡ Some Tiff
unfolding format_in
format_tiff bytes h = rw (head_begins bytes h) refl

-- of fewer than 2^64 bytes the first 2^64 - 1 are all of them
pub take_small : (bytes : List ℕ) → length bytes < 2 ^ 64 → take (2 ^ 64 - 1) bytes ≡ bytes
take_small bytes h = take_all (2 ^ 64 - 1) bytes (omega arith)

-- ---- a payload between a front and a rest

-- a payload that follows a front is at the offset that is the length of the front
payload_found : (format : Format) (front new rest : List ℕ)
    → payload_in format (front ++ (new ++ rest)) (found new rest)
    ≡ Ok (in_one format (length front) new)
payload_found format front new rest =
    let a = length-append front (new ++ rest) in
    let b = length-append new rest in
    let n : offset_before (front ++ (new ++ rest)) new rest ≡ length front = omega arith in
    ap (λ k. let at : Result Located Refusal = Ok (in_one format k new) in at) n

same_length : (file front p rest new : List ℕ) → file ≡ front ++ (p ++ rest) → length new ≡ length p
    → length (front ++ (new ++ rest)) ≡ length file
same_length file front p rest new w l =
    let a = length-append front (new ++ rest) in
    let b = length-append new rest in
    let c = length-append front (p ++ rest) in
    let d = length-append p rest in
    let e = ap (λ (xs : List ℕ). length xs) w in
    omega arith

jpeg_located : (bytes front new rest : List ℕ) → 255 ∷ 216 ∷ bytes ≡ front ++ (new ++ rest)
    → jpeg_answer (255 ∷ 216 ∷ bytes) ≡ found new rest → length (255 ∷ 216 ∷ bytes) < 2 ^ 64
    → located_answer (255 ∷ 216 ∷ bytes) ≡ Ok (in_one Jpeg (length front) new)
unfolding located_answer located_as
jpeg_located bytes front new rest w e h =
    ap (λ f. located_as f (255 ∷ 216 ∷ bytes)) (format_jpeg bytes)
    ∙ (ap (λ xs. payload_in Jpeg xs (jpeg_answer xs)) (take_small (255 ∷ 216 ∷ bytes) h)
    ∙ (ap (payload_in Jpeg (255 ∷ 216 ∷ bytes)) e
    ∙ (ap (λ xs. payload_in Jpeg xs (found new rest)) w ∙ payload_found Jpeg front new rest)))

webp_located : (size bytes front new rest : List ℕ) → length size ≡ 4
    → print_header size ++ bytes ≡ front ++ (new ++ rest)
    → webp_answer (print_header size ++ bytes) ≡ found new rest
    → located_answer (print_header size ++ bytes) ≡ Ok (in_one WebP (length front) new)
unfolding located_answer located_as
webp_located (a ∷ b ∷ c ∷ d ∷ []) bytes front new rest l w e =
    ap (λ f. located_as f (print_header (a ∷ b ∷ c ∷ d ∷ []) ++ bytes)) (format_webp a b c d bytes)
    ∙ (ap (payload_in WebP (print_header (a ∷ b ∷ c ∷ d ∷ []) ++ bytes)) e
    ∙ (ap (λ xs. payload_in WebP xs (found new rest)) w ∙ payload_found WebP front new rest))
webp_located [] bytes front new rest l w e = absurd (omega arith)
webp_located (a ∷ []) bytes front new rest l w e = absurd (omega arith)
webp_located (a ∷ b ∷ []) bytes front new rest l w e = absurd (omega arith)
webp_located (a ∷ b ∷ c ∷ []) bytes front new rest l w e = absurd (omega arith)
webp_located (a ∷ b ∷ c ∷ d ∷ x ∷ xs) bytes front new rest l w e = absurd (omega arith)

-- TIFF data are located from their first byte on
pub tiff_located : (bytes : List ℕ) → begins_tiff bytes ≡ true
    → located_answer bytes ≡ Ok (in_one Tiff 0 bytes)
unfolding located_answer located_as
tiff_located bytes h = ap (λ f. located_as f bytes) (format_tiff bytes h)

-- ---- a file around its data

-- whether the data of a container are the bytes of items
abbrev pub is_heif : Format → Bool
is_heif Heif = true
is_heif Tiff = false
is_heif Jpeg = false
is_heif WebP = false

-- located data that are in one range, and what is located if others are there
pub record Around (file : List ℕ) (at : Located) : Type 0 where
  pub front : List ℕ
  pub rest : List ℕ
  pub whole : file ≡ front ++ (at.bytes ++ rest)
  pub is : at ≡ in_one at.format (length front) at.bytes
  pub others : (new : List ℕ) → length new ≡ length at.bytes → CanStandIn at.format new
      → located_answer (front ++ (new ++ rest)) ≡ Ok (in_one at.format (length front) new)

ok_located : (a b : Located) → ◌≡◌ {A = Result Located Refusal} (Ok a) (Ok b) → a ≡ b
ok_located a b e = cc

err_located : {Y : Type 0} (r : Refusal) (at : Located)
    → ◌≡◌ {A = Result Located Refusal} (Err r) (Ok at) → Y
err_located r at e = absurd (err_ok e)
  where
    err_ok : ◌≡◌ {A = Result Located Refusal} (Err r) (Ok at) → ⊥
    err_ok e = cc

-- a refusal locates nothing
pub none_located : {Y : Type 0} (r : Refusal) (at : Located)
    → ◌≡◌ {A = Result Located Refusal} (Err r) (Ok at) → Y
none_located r at e = err_located r at e

-- what is located of TIFF data, and of a payload, has their format
pub tiff_format : (file : List ℕ) (at : Located)
    → ◌≡◌ {A = Result Located Refusal} (Ok (in_one Tiff 0 file)) (Ok at) → at.format ≡ Tiff
tiff_format file at e =
    sym (ap (λ (l : Located). l.format) (ok_located (in_one Tiff 0 file) at e))

pub piece_format : (format : Format) (bytes : List ℕ) (x : Answer) (at : Located)
    → payload_in format bytes x ≡ Ok at → at.format ≡ format
piece_format format bytes (Ok piece) at e =
    sym (ap (λ (l : Located). l.format)
    (ok_located (in_one format (offset_before bytes piece.0 piece.1) piece.0) at e))
piece_format format bytes (Err r) at e = err_located r at e

-- what is around the data that are in one range is around the located data that they are
around_in_one : (file : List ℕ) (at : Located) (format : Format) (offset : ℕ) (bytes : List ℕ)
    → Around file (in_one format offset bytes) → in_one format offset bytes ≡ at → Around file at
around_in_one file at format offset bytes a e = subst (λ l. Around file l) e a

jpeg_is_around : (file : List ℕ) (at : Located) (x : Answer) → length file < 2 ^ 64
    → jpeg_answer file ≡ x → payload_in Jpeg file x ≡ Ok at → Around file at
jpeg_is_around file at (Err r) h j e = err_located r at e
jpeg_is_around file at (Ok piece) h j e =
    let p = piece.0 in
    let rest = piece.1 in
    let a = jpeg_around file p rest j in
    let front = 255 ∷ 216 ∷ a.front in
    let n : offset_before file p rest ≡ length front =
    let k = ap (λ (xs : List ℕ). length xs) a.whole in
    let l = length-append front (p ++ rest) in
    let m = length-append p rest in omega arith in
    around_in_one file at Jpeg (offset_before file p rest) p
    (record {
      front = front;
      rest = rest;
      whole = a.whole;
      is = ap (λ k. in_one Jpeg k p) n;
      others = λ new l c.
          let s = same_length file front p rest new a.whole l in
          jpeg_located (a.front ++ (new ++ rest)) front new rest refl (a.others new l)
          (omega (arith, s, h));
    })
    (ok_located (in_one Jpeg (offset_before file p rest) p) at e)

webp_is_around : (file : List ℕ) (at : Located) (x : Answer) → webp_answer file ≡ x
    → payload_in WebP file x ≡ Ok at → Around file at
webp_is_around file at (Err r) j e = err_located r at e
webp_is_around file at (Ok piece) j e =
    let p = piece.0 in
    let rest = piece.1 in
    let a = webp_around file p rest j in
    let front = print_header a.size ++ a.front in
    let whole : file ≡ front ++ (p ++ rest) =
    a.whole ∙ sym (append_assoc (print_header a.size) a.front (p ++ rest)) in
    let n : offset_before file p rest ≡ length front =
    let k = ap (λ (xs : List ℕ). length xs) whole in
    let l = length-append front (p ++ rest) in
    let m = length-append p rest in omega arith in
    around_in_one file at WebP (offset_before file p rest) p
    (record {
      front = front;
      rest = rest;
      whole = whole;
      is = ap (λ k. in_one WebP k p) n;
      others = λ new l c.
          let w = append_assoc (print_header a.size) a.front (new ++ rest) in
          ap located_answer w
          ∙ webp_located a.size (a.front ++ (new ++ rest)) front new rest a.four (sym w)
          (a.others new l);
    })
    (ok_located (in_one WebP (offset_before file p rest) p) at e)

tiff_is_around : (file : List ℕ) → Around file (in_one Tiff 0 file)
tiff_is_around file = record {
  front = [];
  rest = [];
  whole = sym (append-nil file);
  is = refl;
  others = λ new l c. ap located_answer (append-nil new) ∙ tiff_located new c;
}

-- the located data of an item
abbrev pub of_item : Result heif.Located Refusal → Result Located Refusal
of_item x =
    x >>= λ f. let made : Result Located Refusal =
    Ok (record { format = Heif; ranges = f.ranges; bytes = f.bytes }) in made

-- the data of an item are those of a HEIF file
pub heif_format : (x : Result heif.Located Refusal) (at : Located) → of_item x ≡ Ok at
    → is_heif at.format ≡ true
heif_format (Ok f) at e =
    ap (λ (l : Located). is_heif l.format)
    (sym (ok_located (record { format = Heif; ranges = f.ranges; bytes = f.bytes }) at e))
heif_format (Err r) at e = err_located r at e

around_by : (x : Option Format) (file : List ℕ) (at : Located) → length file < 2 ^ 64
    → located_as x file ≡ Ok at → is_heif at.format ≡ false → Around file at
unfolding located_as
around_by (Some Tiff) file at h e n =
    around_in_one file at Tiff 0 file (tiff_is_around file) (ok_located (in_one Tiff 0 file) at e)
around_by (Some Jpeg) file at h e n =
    let t = take_small file h in
    jpeg_is_around file at (jpeg_answer file) h refl
    (sym (ap (λ xs. payload_in Jpeg xs (jpeg_answer xs)) t) ∙ e)
around_by (Some WebP) file at h e n = webp_is_around file at (webp_answer file) refl e
around_by (Some Heif) file at h e n =
    absurd (false≢true (sym n ∙ heif_format (located_exif file) at e))
around_by None file at h e n = err_located unknown_format at e

-- located data that are not those of items are in one range, where others as long can be
pub located_around : (file : List ℕ) (at : Located) → length file < 2 ^ 64
    → located_answer file ≡ Ok at → is_heif at.format ≡ false → Around file at
unfolding located_answer
located_around file at h e n = around_by (format_in (take 4096 file)) file at h e n

-- ---- laws

put_here : (file front p rest new : List ℕ) → file ≡ front ++ (p ++ rest) → length new ≡ length p
    → put_in (record { offset = length front; len = length p } ∷ []) new file
    ≡ front ++ (new ++ rest)
put_here file front p rest new w l =
    let a : take (length front) file ≡ front =
    ap (take (length front)) w ∙ take-append_seam front (p ++ rest) in
    let b : drop (length front + length p) file ≡ rest =
    ap (drop (length front + length p)) (w ∙ sym (append_assoc front p rest))
    ∙ (ap (λ n. drop n ((front ++ p) ++ rest)) (sym (length-append front p))
    ∙ drop-append_seam (front ++ p) rest) in
    let c : take (length p) new ≡ new = take_all (length p) new (omega arith) in
    rw (a, b, c) refl

-- others as long, put where located data are
pub data_are_replaced : (file : List ℕ) → DataAreReplaced file
data_are_replaced file at new h e l c =
    let a = located_around file at h e (no_item at.format c) in
    let is : at.ranges ≡ record { offset = length a.front; len = length at.bytes } ∷ [] =
    ap (λ (x : Located). x.ranges) a.is in
    ap (λ rs. located_answer (put_in rs new file)) is
    ∙ (ap located_answer (put_here file a.front at.bytes a.rest new a.whole l)
    ∙ (a.others new l c
    ∙ ap (λ n. let made : Result Located Refusal = Ok (record { format = at.format; ranges = record { offset = length a.front; len = n } ∷ []; bytes = new }) in made) l
    ∙ ap (λ rs. let made : Result Located Refusal = Ok (record { format = at.format; ranges = rs; bytes = new }) in made) (sym is)))
  where
    no_item : (f : Format) → CanStandIn f new → is_heif f ≡ false
    no_item Tiff c = refl
    no_item Jpeg c = refl
    no_item WebP c = refl
    no_item Heif c = absurd c

-- the bytes of a file at a range between a front and a rest
range_here : (file front p rest : List ℕ) → file ≡ front ++ (p ++ rest)
    → bytes_at (length p) file (length front) ≡ p
range_here file front p rest w =
    ap (λ xs. take (length p) (drop (length front) xs)) w
    ∙ (ap (take (length p)) (drop-append_seam front (p ++ rest)) ∙ take-append_seam p rest)

by_piece : (format : Format) (bytes : List ℕ) (at : Located) (x : Answer)
    → payload_in format bytes x ≡ Ok at → data_of x ≡ Ok at.bytes
by_piece format bytes at (Ok piece) e =
    ap (λ xs. Ok xs) (ap (λ (l : Located). l.bytes)
    (ok_located (in_one format (offset_before bytes piece.0 piece.1) piece.0) at e))
by_piece format bytes at (Err r) e = err_located r at e

-- what is located is what the container answers
located_held : (x : Option Format) (file : List ℕ) (at : Located) → length file < 2 ^ 64
    → located_as x file ≡ Ok at → answer_as x file ≡ Ok at.bytes
unfolding located_as answer_as
located_held (Some Tiff) file at h e =
    ap (λ xs. Ok xs) (ap (λ (l : Located). l.bytes) (ok_located (in_one Tiff 0 file) at e))
located_held (Some Jpeg) file at h e =
    by_piece Jpeg (take (2 ^ 64 - 1) file) at (jpeg_answer (take (2 ^ 64 - 1) file)) e
located_held (Some WebP) file at h e = by_piece WebP file at (webp_answer file) e
located_held (Some Heif) file at h e =
    by_item (located_exif file) refl e
  where
    by_item : (x : Result heif.Located Refusal) → located_exif file ≡ x → of_item x ≡ Ok at
        → exif_of file ≡ Ok at.bytes
    by_item (Ok f) is k =
        (exif_is_located file f h is).answered
        ∙ ap (λ xs. Ok xs) (ap (λ (l : Located). l.bytes) (ok_located (record { format = Heif; ranges = f.ranges; bytes = f.bytes }) at k))
    by_item (Err r) is k = err_located r at k
located_held None file at h e = err_located unknown_format at e

-- the data of an item are in its ranges
heif_in_ranges : (file : List ℕ) (at : Located) (x : Result heif.Located Refusal)
    → length file < 2 ^ 64 → located_exif file ≡ x → of_item x ≡ Ok at
    → (joined_bytes file at.ranges ≡ at.bytes) × All (IsWhole file) at.ranges
heif_in_ranges file at (Ok f) h is k =
    let l = exif_is_located file f h is in
    let same = ok_located (record { format = Heif; ranges = f.ranges; bytes = f.bytes }) at k in
    subst (λ (l : Located). (joined_bytes file l.ranges ≡ l.bytes) × All (IsWhole file) l.ranges) same
    (l.joined, l.whole)
heif_in_ranges file at (Err r) h is k = err_located r at k

-- data in one range are in it
one_in_range : (file : List ℕ) (at : Located) → Around file at
    → (joined_bytes file at.ranges ≡ at.bytes) × All (IsWhole file) at.ranges
one_in_range file at a =
    let e : Extent = record { offset = length a.front; len = length at.bytes } in
    let here = range_here file a.front at.bytes a.rest a.whole in
    subst (λ rs. (joined_bytes file rs ≡ at.bytes) × All (IsWhole file) rs)
    (sym (ap (λ (x : Located). x.ranges) a.is)) (
      append-nil (bytes_at (length at.bytes) file (length a.front)) ∙ here,
      All-cons (IsWhole file) e [] (ap (λ (xs : List ℕ). length xs) here) (All-nil (IsWhole file)),
    )

in_ranges : (x : Option Format) (file : List ℕ) (at : Located) → length file < 2 ^ 64
    → located_as x file ≡ Ok at
    → (joined_bytes file at.ranges ≡ at.bytes) × All (IsWhole file) at.ranges
unfolding located_as
in_ranges (Some Heif) file at h e = heif_in_ranges file at (located_exif file) h refl e
in_ranges (Some Tiff) file at h e =
    one_in_range file at (around_in_one file at Tiff 0 file (tiff_is_around file)
    (ok_located (in_one Tiff 0 file) at e))
in_ranges (Some Jpeg) file at h e =
    let t = take_small file h in
    one_in_range file at (jpeg_is_around file at (jpeg_answer file) h refl
    (sym (ap (λ xs. payload_in Jpeg xs (jpeg_answer xs)) t) ∙ e))
in_ranges (Some WebP) file at h e =
    one_in_range file at (webp_is_around file at (webp_answer file) refl e)
in_ranges None file at h e = err_located unknown_format at e

-- what is located is what the container answers, and is in its ranges
pub data_are_located : (file : List ℕ) → DataAreLocated file
unfolding located_answer container_answer
data_are_located file at h e =
    let r = in_ranges (format_in (take 4096 file)) file at h e in
    record {
      answered = located_held (format_in (take 4096 file)) file at h e;
      joined = r.0;
      whole = r.1;
    }

-- ---- refusals

same_refusal : {A : Type 0} (q r : Refusal) → ◌≡◌ {A = Result A Refusal} (Err q) (Err r) → q ≡ r
same_refusal q r e = cc

ok_refused : {A Y : Type 0} (a : A) (r : Refusal) → ◌≡◌ {A = Result A Refusal} (Ok a) (Err r) → Y
ok_refused {A = A} a r e = absurd (ok_err e)
  where
    ok_err : ◌≡◌ {A = Result A Refusal} (Ok a) (Err r) → ⊥
    ok_err e = cc

piece_refused : (format : Format) (bytes : List ℕ) (x : Answer) (r : Refusal)
    → payload_in format bytes x ≡ Err r → data_of x ≡ Err r
piece_refused format bytes (Ok piece) r e =
    ok_refused (in_one format (offset_before bytes piece.0 piece.1) piece.0) r e
piece_refused format bytes (Err q) r e = ap (λ y. Err y) (same_refusal {A = Located} q r e)

header_refused : (ranges : List Extent) (block : List ℕ) (x : Result (List ℕ) Refusal) (r : Refusal)
    → (x >>= λ data'. let made : Result heif.Located Refusal = Ok (record { bytes = data'; ranges = without_first (length block - length data') ranges }) in made) ≡ Err r
    → x ≡ Err r
header_refused ranges block (Ok data') r e =
    ok_refused (record { bytes = data'; ranges = without_first (length block - length data') ranges }) r e
header_refused ranges block (Err q) r e = ap (λ y. Err y) (same_refusal {A = heif.Located} q r e)

block_refused : (ranges : List Extent) (x : Result (List ℕ) Refusal) (r : Refusal)
    → (x >>= located_in ranges) ≡ Err r → (x >>= after_header) ≡ Err r
unfolding located_in
block_refused ranges (Ok block) r e = header_refused ranges block (after_header block) r e
block_refused ranges (Err q) r e = ap (λ y. Err y) (same_refusal {A = heif.Located} q r e)

item_refused : (file meta : List ℕ) (x : Result FoundItem Refusal) (r : Refusal)
    → (x >>= λ found. item_bytes file found.idat found.location >>= located_in (item_ranges file meta found)) ≡ Err r
    → ((x >>= λ found. item_bytes file found.idat found.location) >>= after_header) ≡ Err r
item_refused file meta (Ok found) r e =
    block_refused (item_ranges file meta found) (item_bytes file found.idat found.location) r e
item_refused file meta (Err q) r e = ap (λ y. Err y) (same_refusal {A = heif.Located} q r e)

meta_refused : (file : List ℕ) (x : Result (List ℕ) Refusal) (r : Refusal)
    → (x >>= λ meta. exif_item meta >>= λ found. item_bytes file found.idat found.location >>= located_in (item_ranges file meta found)) ≡ Err r
    → (x >>= λ meta. exif_block file meta >>= after_header) ≡ Err r
unfolding exif_block
meta_refused file (Ok meta) r e = item_refused file meta (exif_item meta) r e
meta_refused file (Err q) r e = ap (λ y. Err y) (same_refusal {A = heif.Located} q r e)

heif_refused : (file : List ℕ) (x : Result heif.Located Refusal) (r : Refusal)
    → located_exif file ≡ x → of_item x ≡ Err r → exif_of file ≡ Err r
unfolding located_exif exif_of
heif_refused file (Ok f) r is e =
    ok_refused (record { format = Heif; ranges = f.ranges; bytes = f.bytes }) r e
heif_refused file (Err q) r is e =
    meta_refused file (meta_body file) r (is ∙ ap (λ y. Err y) (same_refusal {A = Located} q r e))

refused_as : (x : Option Format) (file : List ℕ) (r : Refusal) → located_as x file ≡ Err r
    → answer_as x file ≡ Err r
unfolding located_as answer_as
refused_as (Some Tiff) file r e = ok_refused (in_one Tiff 0 file) r e
refused_as (Some Jpeg) file r e =
    piece_refused Jpeg (take (2 ^ 64 - 1) file) (jpeg_answer (take (2 ^ 64 - 1) file)) r e
refused_as (Some WebP) file r e = piece_refused WebP file (webp_answer file) r e
refused_as (Some Heif) file r e = heif_refused file (located_exif file) r refl e
refused_as None file r e = ap (λ y. Err y) (same_refusal {A = Located} unknown_format r e)

-- what is not located is refused alike by the container
pub refused_alike : (file : List ℕ) → RefusedAlike file
unfolding located_answer container_answer
refused_alike file r e = refused_as (format_in (take 4096 file)) file r e
