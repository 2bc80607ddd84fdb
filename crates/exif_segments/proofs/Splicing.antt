-- The Exif data of JPEG streams and WebP files can be replaced where they are.
use Rattle.std.proofs.Common.{◌≡◌, ◌+◌, ◌*◌, ℕ, Bool, true, false, eqb, if◌then◌else◌, List, [], ◌∷◌, ◌++◌, length, replicate, Option, Some, None, Result, Ok, Err, refl, sym, ap, subst, ◌∙◌, append_assoc, append-nil}
use Rattle.std.specs.Prelude.{nat_lt, ◌==◌}
use Rattle.std.specs.List.{All, flat_map}
use Rattle.exif_types.specs.Refusals.{Refusal}
use Rattle.exif_segments.specs.Answer.{Answer, found, refused}
use Rattle.exif_segments.specs.Jpeg.{broken_jpeg, not_jpeg, unexpected_soi, no_exif_in_jpeg, invalid_length, jpeg_answer}
use Rattle.exif_segments.specs.JpegGrammar.{Brought, nothing, sized, exif, exif_id, UnitTree, print_brought, print_unit, IsBrought, IsUnit, IsSilent, unit_says, brought_says, Ending, speaking, cut, Stream, short, foreign, units, IsStream, print_stream, stream_answer}
use Rattle.exif_segments.specs.Webp.{webp_answer, broken_webp, not_webp, invalid_file_size, overflowing, no_exif_in_webp}
use Rattle.exif_segments.specs.WebpGrammar as webp
use Rattle.exif_segments.proofs.LawsJpeg.{is_a_stream, stream_is_answered}
use Rattle.exif_segments.proofs.LawsWebp.{file_is_answered, is_a_file}

-- a refusal is never data that were found
pub refused_found : {Y : Type 0} (r : Refusal) (p rest : List ℕ)
    → ◌≡◌ {A = Answer} (refused r) (found p rest) → Y
refused_found r p rest e = absurd (err_ok e)
  where
    err_ok : ◌≡◌ {A = Answer} (Err r) (Ok (p, rest)) → ⊥
    err_ok e = cc

found_same : (p q rest behind : List ℕ) → ◌≡◌ {A = Answer} (found p rest) (found q behind)
    → (p ≡ q) × (rest ≡ behind)
found_same p q rest behind e = (ap data' e, ap left e)
  where
    data' : Answer → List ℕ
    data' (Ok x) = x.0
    data' (Err r) = []

    left : Answer → List ℕ
    left (Ok x) = x.1
    left (Err r) = []

-- ---- JPEG streams

-- a unit that says Exif data brings them
pub record SaysExif (u : UnitTree) (p : List ℕ) : Type 0 where
  pub high : ℕ
  pub low : ℕ
  pub brought : u.brought ≡ exif high low p

says_exif : (u : UnitTree) (p : List ℕ) → unit_says u ≡ Some (Ok p) → SaysExif u p
says_exif u p e = by_code (eqb u.code 216) (eqb u.code 217) e
  where
    by_brought : (b : Brought) → u.brought ≡ b → brought_says u.code b ≡ Some (Ok p) → SaysExif u p
    by_brought nothing h k = absurd (none_some k)
      where
        none_some : ◌≡◌ {A = Option (Result (List ℕ) Refusal)} None (Some (Ok p)) → ⊥
        none_some k = cc
    by_brought (sized high low content) h k = by_len (nat_lt (256 * high + low) 2) k
      where
        by_len : (b : Bool)
            → ◌≡◌ {A = Option (Result (List ℕ) Refusal)}
            (if b then Some (Err invalid_length) else None) (Some (Ok p)) → SaysExif u p
        by_len true k = absurd (err_some k)
          where
            err_some : ◌≡◌ {A = Option (Result (List ℕ) Refusal)} (Some (Err invalid_length))
                (Some (Ok p)) → ⊥
            err_some k = cc
        by_len false k = absurd (none_some k)
          where
            none_some : ◌≡◌ {A = Option (Result (List ℕ) Refusal)} None (Some (Ok p)) → ⊥
            none_some k = cc
    by_brought (exif high low payload) h k = let s : payload ≡ p =
        same k in record { high = high; low = low; brought = h ∙ ap (λ x. exif high low x) s }
      where
        same : ◌≡◌ {A = Option (Result (List ℕ) Refusal)} (Some (Ok payload)) (Some (Ok p))
            → payload ≡ p
        same k = cc

    refusal_says : (r : Refusal)
        → ◌≡◌ {A = Option (Result (List ℕ) Refusal)} (Some (Err r)) (Some (Ok p)) → ⊥
    refusal_says r k = cc

    by_code : (a b : Bool)
        → (if a then Some (Err unexpected_soi) else
        (if b then Some (Err no_exif_in_jpeg) else brought_says u.code u.brought)) ≡ Some (Ok p)
        → SaysExif u p
    by_code true b k = absurd (refusal_says unexpected_soi k)
    by_code false true k = absurd (refusal_says no_exif_in_jpeg k)
    by_code false false k = by_brought u.brought refl k

-- the same unit with other data
abbrev with_data : UnitTree → ℕ → ℕ → List ℕ → UnitTree
with_data u high low new =
    record { passed = u.passed; fill = u.fill; code = u.code; brought = exif high low new }

-- what is in front of the data of a unit
abbrev before_data : UnitTree → ℕ → ℕ → List ℕ
before_data u high low =
    u.passed ++ (255 ∷ (replicate u.fill 255 ++ (u.code ∷ high ∷ low ∷ exif_id)))

print_with : (u : UnitTree) (high low : ℕ) (new rest : List ℕ)
    → print_unit (with_data u high low new) ++ rest ≡ before_data u high low ++ (new ++ rest)
print_with u high low new rest =
    let b = append_assoc (replicate u.fill 255) (u.code ∷ high ∷ low ∷ exif_id) new in
    let c = append_assoc u.passed (255 ∷ (replicate u.fill 255 ++ (u.code ∷ high ∷ low ∷ exif_id)))
    new in
    ap (λ xs. xs ++ rest) (ap (λ xs. u.passed ++ (255 ∷ xs)) (sym b) ∙ sym c)
    ∙ append_assoc (before_data u high low) new rest

-- a JPEG stream in which such a unit speaks
pub record JpegTree (file p rest : List ℕ) : Type 0 where
  pub us : List UnitTree
  pub silent : All IsSilent us
  pub u : UnitTree
  pub valid : IsUnit u
  pub says : SaysExif u p
  pub printed : print_stream (units us (speaking u (Ok p) rest)) ≡ file

jpeg_tree : (file p rest : List ℕ) → jpeg_answer file ≡ found p rest → JpegTree file p rest
jpeg_tree file p rest e =
    let s = is_a_stream file in
    by_stream s.0 s.1 s.2 (sym (stream_is_answered s.0 s.1) ∙ (ap jpeg_answer s.2 ∙ e))
  where
    by_end : (us : List UnitTree) (end : Ending) → IsStream (units us end)
        → print_stream (units us end) ≡ file → stream_answer (units us end) ≡ found p rest
        → JpegTree file p rest
    by_end us (cut bytes) v h a = refused_found broken_jpeg p rest a
    by_end us (speaking u (Err r) behind) v h a = refused_found r p rest a
    by_end us (speaking u (Ok payload) behind) v h a =
        let q = found_same payload p behind rest a in
        record {
          us = us;
          silent = v.0;
          u = u;
          valid = v.1.0;
          says = says_exif u p (v.1.1 ∙ ap (λ x. Some (Ok x)) q.0);
          printed = ap (λ x. print_stream (units us (speaking u (Ok p) x))) (sym q.1) ∙ h;
        }

    by_stream : (s : Stream) → IsStream s → print_stream s ≡ file → stream_answer s ≡ found p rest
        → JpegTree file p rest
    by_stream (short bytes) v h a = refused_found broken_jpeg p rest a
    by_stream (foreign x y bytes) v h a = refused_found not_jpeg p rest a
    by_stream (units us end) v h a = by_end us end v h a

-- a stream around its data
pub record JpegAround (file p rest : List ℕ) : Type 0 where
  pub front : List ℕ
  pub whole : file ≡ 255 ∷ 216 ∷ (front ++ (p ++ rest))
  pub others : (new : List ℕ) → length new ≡ length p
      → jpeg_answer (255 ∷ 216 ∷ (front ++ (new ++ rest))) ≡ found new rest

-- a JPEG stream surrounds its data, and others as long are answered in their place
pub jpeg_around : (file p rest : List ℕ) → jpeg_answer file ≡ found p rest → JpegAround file p rest
jpeg_around file p rest e =
    let t = jpeg_tree file p rest e in
    let high = t.says.high in
    let low = t.says.low in
    let u = t.u in
    let brings : IsBrought u.code (exif high low p) =
    subst (IsBrought u.code) t.says.brought t.valid.brought in
    let same : print_unit u ≡ print_unit (with_data u high low p) =
    ap (λ b. u.passed ++ (255 ∷ (replicate u.fill 255 ++ (u.code ∷ print_brought b))))
    t.says.brought in
    record {
      front = flat_map print_unit t.us ++ before_data u high low;
      whole = sym t.printed
          ∙ (ap (λ xs. 255 ∷ 216 ∷ (flat_map print_unit t.us ++ (xs ++ rest))) same
          ∙ shape t.us u high low p);
      others = λ new l.
          let valid : IsUnit (with_data u high low new) =
          record {
            passed = t.valid.passed;
            code = t.valid.code;
            brought =
                (brings.0, brings.1 ∙ ap (λ x. 8 + x) (sym l));
          } in
          ap jpeg_answer (sym (shape t.us u high low new))
          ∙ stream_is_answered (units t.us (speaking (with_data u high low new) (Ok new) rest))
          (t.silent, (valid, says u.code high low new brings.0));
    }
  where
    shape : (us : List UnitTree) (u : UnitTree) (high low : ℕ) (new : List ℕ)
        → print_stream (units us (speaking (with_data u high low new) (Ok new) rest)) ≡ 255 ∷ 216
        ∷ ((flat_map print_unit us ++ before_data u high low) ++ (new ++ rest))
    shape us u high low new =
        ap (λ xs. 255 ∷ 216 ∷ (flat_map print_unit us ++ xs)) (print_with u high low new rest)
        ∙ ap (λ xs. 255 ∷ 216 ∷ xs)
        (sym (append_assoc (flat_map print_unit us) (before_data u high low) (new ++ rest)))

    says : (code high low : ℕ) (new : List ℕ) → code ≡ 225
        → (if code == 216 then Some (Err unexpected_soi) else
        (if code == 217 then Some (Err no_exif_in_jpeg) else brought_says code (exif high low new)))
        ≡ Some (Ok new)
    says code high low new h =
        subst (λ c. ◌≡◌ {A = Option (Result (List ℕ) Refusal)}
        (if c == 216 then Some (Err unexpected_soi) else
        (if c == 217 then Some (Err no_exif_in_jpeg) else brought_says c (exif high low new)))
        (Some (Ok new))) (sym h) refl

-- ---- WebP files

-- the same chunk with other data
abbrev chunk_with : webp.ChunkTree → List ℕ → webp.ChunkTree
chunk_with c new = record { name = c.name; size = c.size; payload = new; pad = [] }

print_chunk_with : (c : webp.ChunkTree) (new rest : List ℕ)
    → webp.print_chunk (chunk_with c new) ++ rest ≡ (c.name ++ c.size) ++ (new ++ rest)
print_chunk_with c new rest =
    ap (λ xs. (c.name ++ (c.size ++ xs)) ++ rest) (append-nil new)
    ∙ (ap (λ xs. xs ++ rest) (sym (append_assoc c.name c.size new))
    ∙ append_assoc (c.name ++ c.size) new rest)

-- a file whose chunks end with such a one
pub record WebpTree (file p rest : List ℕ) : Type 0 where
  pub size : List ℕ
  pub cs : List webp.ChunkTree
  pub c : webp.ChunkTree
  pub valid : webp.IsFile (webp.body size cs (webp.exif c rest))
  pub payload : c.payload ≡ p
  pub printed : webp.print_file (webp.body size cs (webp.exif c rest)) ≡ file

webp_tree : (file p rest : List ℕ) → webp_answer file ≡ found p rest → WebpTree file p rest
webp_tree file p rest e =
    let f = is_a_file file in
    by_file f.0 f.1 f.2 (sym (file_is_answered f.0 f.1) ∙ (ap webp_answer f.2 ∙ e))
  where
    by_end : (size : List ℕ) (cs : List webp.ChunkTree) (end : webp.BodyEnd)
        → webp.IsFile (webp.body size cs end) → webp.print_file (webp.body size cs end) ≡ file
        → webp.end_answer end ≡ found p rest → WebpTree file p rest
    by_end size cs (webp.exif c behind) v h a =
        let q = found_same c.payload p behind rest a in
        record {
          size = size;
          cs = cs;
          c = c;
          valid = v;
          payload = q.0;
          printed = ap (λ x. webp.print_file (webp.body size cs (webp.exif c x))) (sym q.1) ∙ h;
        }
    by_end size cs (webp.used_up behind) v h a = refused_found no_exif_in_webp p rest a
    by_end size cs (webp.no_space behind) v h a = refused_found overflowing p rest a
    by_end size cs (webp.too_long name len behind) v h a = refused_found overflowing p rest a
    by_end size cs (webp.cut_header bytes) v h a = refused_found broken_webp p rest a
    by_end size cs (webp.cut_payload name len bytes) v h a = refused_found broken_webp p rest a

    by_file : (f : webp.WebpFile) → webp.IsFile f → webp.print_file f ≡ file
        → webp.file_answer f ≡ found p rest → WebpTree file p rest
    by_file (webp.body size cs end) v h a = by_end size cs end v h a
    by_file (webp.small size behind) v h a = refused_found invalid_file_size p rest a
    by_file (webp.short bytes) v h a = refused_found broken_webp p rest a
    by_file (webp.foreign bytes) v h a = refused_found not_webp p rest a

-- a file around its data
pub record WebpAround (file p rest : List ℕ) : Type 0 where
  pub size : List ℕ
  pub four : length size ≡ 4
  pub front : List ℕ
  pub whole : file ≡ webp.print_header size ++ (front ++ (p ++ rest))
  pub others : (new : List ℕ) → length new ≡ length p
      → webp_answer (webp.print_header size ++ (front ++ (new ++ rest))) ≡ found new rest

-- a WebP file surrounds its data, and others as long are answered in their place
pub webp_around : (file p rest : List ℕ) → webp_answer file ≡ found p rest → WebpAround file p rest
webp_around file p rest e =
    let t = webp_tree file p rest e in
    let c = t.c in
    let is_exif = t.valid.3 in
    let same : webp.print_chunk c ≡ webp.print_chunk (chunk_with c p) =
    ap (λ xs. c.name ++ (c.size ++ (xs ++ c.pad))) t.payload
    ∙ ap (λ xs. c.name ++ (c.size ++ (p ++ xs))) is_exif.unpadded in
    record {
      size = t.size;
      four = t.valid.0;
      front = flat_map webp.print_chunk t.cs ++ (c.name ++ c.size);
      whole = sym t.printed
          ∙ (ap (λ xs. webp.print_header t.size ++ (flat_map webp.print_chunk t.cs ++ (xs ++ rest)))
          same ∙ shape t.size t.cs c p);
      others = λ new l.
          let chunk : webp.IsChunk (webp.space_behind (webp.body_space t.size) t.cs)
          (chunk_with c new) = record {
            header = is_exif.chunk.header;
            payload_len =
                l ∙ (ap (λ (xs : List ℕ). length xs) (sym t.payload) ∙ is_exif.chunk.payload_len);
            fits = is_exif.chunk.fits;
          } in
          let whole_chunk : webp.IsExif (webp.space_behind (webp.body_space t.size) t.cs)
          (chunk_with c new) =
          record { chunk = chunk; name_is = is_exif.name_is; unpadded = refl } in
          ap webp_answer (sym (shape t.size t.cs c new))
          ∙ file_is_answered (webp.body t.size t.cs (webp.exif (chunk_with c new) rest))
          (t.valid.0, t.valid.1, t.valid.2, whole_chunk);
    }
  where
    shape : (size : List ℕ) (cs : List webp.ChunkTree) (c : webp.ChunkTree) (new : List ℕ)
        → webp.print_file (webp.body size cs (webp.exif (chunk_with c new) rest))
        ≡ webp.print_header size
        ++ ((flat_map webp.print_chunk cs ++ (c.name ++ c.size)) ++ (new ++ rest))
    shape size cs c new =
        ap (λ xs. webp.print_header size ++ (flat_map webp.print_chunk cs ++ xs))
        (print_chunk_with c new rest)
        ∙ ap (λ xs. webp.print_header size ++ xs)
        (sym (append_assoc (flat_map webp.print_chunk cs) (c.name ++ c.size) (new ++ rest)))
