-- What each field of a trace has.
use Rattle.std.proofs.Common.{◌≡◌, ◌≢◌, ◌≤◌, ◌<◌, ◌+◌, ◌*◌, ◌==◌, ℕ, zero, suc, Bool, true, false, List, [], ◌∷◌, ◌++◌, length, Option, Some, None, Result, Ok, Err, refl, arith, cond}
use Rattle.std.proofs.lemmas.Bool.Decides.{nat_tests}
use Rattle.std.proofs.lemmas.List.Elements.{All-nil, All-cons, All-head, All-tail, All-append}
use Rattle.std.specs.List.{flat_map, All, slice_split, onto_first}
use Rattle.std.specs.Prelude.{if◌then◌else◌, ⊤, nat_le}
use Rattle.exif_base.specs.Bytes.{Reading, number_at, bytes_at}
use Rattle.exif_text.specs.FieldTypes.{type_of, known_length}
use Rattle.exif_types.specs.Texts.{without_empty_last}
use Rattle.exif_tiff.specs.Decode.{decode, decode_as}
use Rattle.exif_types.specs.Numbers.{number_in}
use Rattle.exif_types.specs.Sound.{HasPlainTexts, IsRead}
use Rattle.exif_types.specs.declared.value.Value.{Value}
use Rattle.exif_types.specs.declared.value.Value.TheVariants as value
use Rattle.exif_text.specs.declared.field_type.FieldType.{FieldType}
use Rattle.exif_text.specs.declared.field_type.FieldType.TheVariants as field_type
use Rattle.exif_tiff.specs.declared.fault.Fault.{Fault}
use Rattle.exif_tiff.specs.declared.fault.Fault.TheVariants.{UnexpectedNext, TooManyDirectories}
use Rattle.exif_table.specs.declared.context.Context.{Context}
use Rattle.exif_table.specs.declared.context.Context.TheVariants.{Tiff}
use Rattle.exif_tiff.specs.Trace.{Node, Visit, Found, Met, Directory, fields_of, cut, limited, ordered_trace, chain_nodes, chain_after, directory_nodes, directory_end, entry_nodes, entry_offsets, entry_value, valued_nodes, tagged_nodes, pointer_nodes, child_end, child_of, Opens, field_of}
use Rattle.exif_tiff.proofs.ReportBound.{fields-append}

-- a text without zero bytes
abbrev IsPlain : List ℕ → Type 0
IsPlain = All (λ b. b ≢ 0)

onto_plain : (b : ℕ) → b ≢ 0 → (parts : List (List ℕ)) → All IsPlain parts → All IsPlain (onto_first b parts)
onto_plain b n [] h = All-cons IsPlain (b ∷ []) [] (All-cons (λ b. b ≢ 0) b [] n (All-nil (λ b. b ≢ 0))) (All-nil IsPlain)
onto_plain b n (part ∷ parts) h =
    All-cons IsPlain (b ∷ part) parts (All-cons (λ b. b ≢ 0) b part n (All-head IsPlain part parts h)) (All-tail IsPlain part parts h)

split_cases : (t : Bool) (b : ℕ) (parts : List (List ℕ)) → (t ≡ false → b ≢ 0) → All IsPlain parts → All IsPlain (cond t ([] ∷ parts) (onto_first b parts))
split_cases true b parts n h = All-cons IsPlain [] parts (All-nil (λ b. b ≢ 0)) h
split_cases false b parts n h = onto_plain b (n refl) parts h

split_plain : (bytes : List ℕ) → All IsPlain (slice_split (λ b. b == 0) bytes)
split_plain [] = All-cons IsPlain [] [] (All-nil (λ b. b ≢ 0)) (All-nil IsPlain)
split_plain (b ∷ bytes) = split_cases (b == 0) b (slice_split (λ b. b == 0) bytes) (λ e. grind (arith, nat_tests)) (split_plain bytes)

last_cases : (t : Bool) (text : List ℕ) → IsPlain text → All IsPlain (if t then [] else text ∷ [])
last_cases true text h = All-nil IsPlain
last_cases false text h = All-cons IsPlain text [] h (All-nil IsPlain)

without_plain : (parts : List (List ℕ)) → All IsPlain parts → All IsPlain (without_empty_last parts)
without_plain [] h = h
without_plain (text ∷ []) h = last_cases (length text == 0) text (All-head IsPlain text [] h)
without_plain (text ∷ next ∷ parts) h =
    All-cons IsPlain text (without_empty_last (next ∷ parts)) (All-head IsPlain text (next ∷ parts) h) (without_plain (next ∷ parts) (All-tail IsPlain text (next ∷ parts) h))

type_plain : (number : Reading) (k : FieldType) (count : ℕ) (bytes : List ℕ) (p : ℕ) → HasPlainTexts (decode_as number k count bytes p)
type_plain number field_type.Byte count bytes p = tt
type_plain number field_type.Ascii count bytes p = without_plain (slice_split (λ b. b == 0) (bytes_at count bytes p)) (split_plain (bytes_at count bytes p))
type_plain number field_type.Short count bytes p = tt
type_plain number field_type.Long count bytes p = tt
type_plain number field_type.Rational count bytes p = tt
type_plain number field_type.SByte count bytes p = tt
type_plain number field_type.Undefined count bytes p = tt
type_plain number field_type.SShort count bytes p = tt
type_plain number field_type.SLong count bytes p = tt
type_plain number field_type.SRational count bytes p = tt
type_plain number field_type.Float count bytes p = tt
type_plain number field_type.Double count bytes p = tt

decode_plain : (number : Reading) (type count : ℕ) (bytes : List ℕ) (p : ℕ) → HasPlainTexts (decode number type count bytes p)
decode_plain number type count bytes p = elim (type_of type) as (λ o. HasPlainTexts (elim o [ Some k ↦ decode_as number k count bytes p | None ↦ value.Unknown type count p ])) [ Some k ↦ type_plain number k count bytes p | None ↦ tt ]

-- an entry's value, if there is one
abbrev IfPlain : Option Value → Type 0
IfPlain None = ⊤
IfPlain (Some v) = HasPlainTexts v

if_plain : (b : Bool) (v : Value) (o : Option Value) → HasPlainTexts v → IfPlain o → IfPlain (if b then Some v else o)
if_plain true v o h g = h
if_plain false v o h g = g

entry_plain : (number : Reading) (bytes : List ℕ) (e : ℕ) → IfPlain (entry_value number bytes e)
entry_plain number bytes e =
    let type = number_at number 2 bytes (e + 2) in
    let count = number_at number 4 bytes (e + 4) in
    let size = known_length (type_of type) * count in
    let offset = number_at number 4 bytes (e + 8) in
    let there = decode number type count bytes offset in
    if_plain (nat_le size 4) (decode number type count bytes (e + 8)) (if nat_le (offset + size) (length bytes) then Some there else None) (decode_plain number type count bytes (e + 8))
    (if_plain (nat_le (offset + size) (length bytes)) there None (decode_plain number type count bytes offset) tt)

-- each field of a piece is one that reading gives
record AreRead (nodes : List Node) : Type 0 where
  each : All IsRead (fields_of nodes)

none_read : AreRead []
none_read = record { each = All-nil IsRead }

join_read : (xs ys : List Node) → AreRead xs → AreRead ys → AreRead (xs ++ ys)
join_read xs ys a b = record { each = rw (fields-append xs ys) (All-append IsRead (fields_of xs) (fields_of ys) a.each b.each) }

flat_read : (f : ℕ → List Node) → ((e : ℕ) → AreRead (f e)) → (offsets : List ℕ) → AreRead (flat_map f offsets)
flat_read f h [] = none_read
flat_read f h (e ∷ es) = join_read (f e) (flat_map f es) (h e) (flat_read f h es)

if_read : (b : Bool) (fault : Fault) → AreRead (if b then [] else Met fault ∷ [])
if_read true fault = none_read
if_read false fault = record { each = All-nil IsRead }

child_end_read : (x : Result ℕ Fault) → AreRead (child_end x)
child_end_read (Err fault) = record { each = All-nil IsRead }
child_end_read (Ok next) = if_read (next == 0) UnexpectedNext

module _ (child : Directory) (number : Reading) (bytes : List ℕ) (k : ℕ) (small : k < 8) (h : (c : Context) (q : ℕ) → AreRead (child c q)) where
  pointer_read : (c : Context) (o : Option ℕ) → AreRead (pointer_nodes child number bytes c o)
  pointer_read c None = record { each = All-nil IsRead }
  pointer_read c (Some q) = join_read (child c q) (child_end (directory_end number bytes q)) (h c q) (child_end_read (directory_end number bytes q))

  tagged_read : (c : Context) (p n e : ℕ) (v : Value) → HasPlainTexts v → (o : Option Context) → AreRead (tagged_nodes child number bytes c k p n e v o)
  tagged_read c p n e v plain None = record {
    each = All-cons IsRead (field_of c k n v) [] (record { plain = plain; number = small }) (All-nil IsRead);
  }
  tagged_read c p n e v plain (Some d) = pointer_read d (number_in v 0)

  valued_read : (c : Context) (p n e : ℕ) (o : Option Value) → IfPlain o → AreRead (valued_nodes child number bytes c k p n e o)
  valued_read c p n e None plain = record { each = All-nil IsRead }
  valued_read c p n e (Some v) plain = tagged_read c p n e v plain (child_of c n)

  entry_read : (c : Context) (p e : ℕ) → AreRead (entry_nodes child number bytes c k p e)
  entry_read c p e =
      record { each = (valued_read c p (number_at number 2 bytes e) e (entry_value number bytes e) (entry_plain number bytes e)).each }

directory_read : (d : ℕ) (number : Reading) (bytes : List ℕ) (k : ℕ) → k < 8 → (c : Context) (p : ℕ) → AreRead (directory_nodes d number bytes k c p)
directory_read zero number bytes k small c p = record { each = All-nil IsRead }
directory_read (suc d) number bytes k small c p =
    let child : Directory = directory_nodes d number bytes k in
    let entries = flat_read (entry_nodes child number bytes c k p)
    (entry_read child number bytes k small (directory_read d number bytes k small) c p) (entry_offsets number bytes p) in
    record { each = entries.each }

after_read : (rest : ℕ → List Node) (x : Result ℕ Fault) → ((p : ℕ) → AreRead (rest p)) → AreRead (chain_after rest x)
after_read rest (Err fault) h = record { each = All-nil IsRead }
after_read rest (Ok next) h = h next

either_read : (b : Bool) (nodes : List Node) → AreRead nodes → AreRead (elim b as (λ _. List Node) [ true ↦ [] | false ↦ nodes ])
either_read true nodes h = none_read
either_read false nodes h = h

chain_read : (left : ℕ) (number : Reading) (bytes : List ℕ) (k p : ℕ) → left + k ≤ 8 → AreRead (chain_nodes left number bytes k p)
chain_read zero number bytes k p small = if_read (p == 0) TooManyDirectories
chain_read (suc left) number bytes k p small =
    either_read (p == 0) (directory_nodes 3 number bytes k Tiff p ++ chain_after (chain_nodes left number bytes (k + 1)) (directory_end number bytes p))
    (join_read (directory_nodes 3 number bytes k Tiff p) (chain_after (chain_nodes left number bytes (k + 1)) (directory_end number bytes p)) (directory_read 3 number bytes k (omega arith) Tiff p)
    (after_read (chain_nodes left number bytes (k + 1)) (directory_end number bytes p) (λ q. chain_read left number bytes (k + 1) q (omega arith))))

-- a cut leaves a front of the fields
cut_read : (n : ℕ) (nodes : List Node) → All IsRead (fields_of nodes) → All IsRead (fields_of (cut n nodes))
cut_read n [] h = h
cut_read n (Opens directory ∷ nodes) h = cut_read n nodes h
cut_read zero (Visit ∷ nodes) h = All-nil IsRead
cut_read (suc n) (Visit ∷ nodes) h = cut_read n nodes h
cut_read n (Found l ∷ nodes) h =
    All-cons IsRead l.field (fields_of (cut n nodes)) (All-head IsRead l.field (fields_of nodes) h) (cut_read n nodes (All-tail IsRead l.field (fields_of nodes) h))
cut_read n (Met fault ∷ nodes) h = cut_read n nodes h

-- where each field is one that reading gives, each that a limit leaves is so too
pub limited_read : (limit : Option ℕ) (nodes : List Node) → All IsRead (fields_of nodes) → All IsRead (fields_of (limited limit nodes))
limited_read None nodes h = h
limited_read (Some n) nodes h = cut_read n nodes h

-- the fields of any data are such
pub ordered_read : (number : Reading) (bytes : List ℕ) → All IsRead (fields_of (ordered_trace number bytes))
unfolding ordered_trace
ordered_read number bytes = (chain_read 8 number bytes 0 (number_at number 4 bytes 4) (omega arith)).each
