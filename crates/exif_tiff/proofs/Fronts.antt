-- A front of data that meets no fault holds what all of them hold.
use Rattle.std.proofs.Common.{◌≡◌, ◌≤◌, ◌<◌, ◌+◌, ◌-◌, ◌*◌, ◌/◌, ◌^◌, ◌==◌, ℕ, zero, suc, Bool, true, false, if◌then◌else◌, List, [], ◌∷◌, ◌++◌, length, take, drop, Option, Some, None, Result, Ok, Err, refl, sym, ap, ◌∙◌, arith}
use Rattle.std.proofs.lemmas.Bool.Decides.{nat_tests}
use Rattle.std.proofs.lemmas.List.{take-append-le, drop-append-le, length-append, length-drop}
use Rattle.std.specs.Prelude.{nat_le, nat_lt}
use Rattle.std.specs.List.{flat_map, AllByRecursion}
use Rattle.exif_base.specs.Bytes.{Reading, bytes_at, number_at, spaced}
use Rattle.exif_base.specs.Orders.{number_of}
use Rattle.exif_base.specs.declared.endian.Order.{Order}
use Rattle.exif_tiff.specs.Decode.{decode}
use Rattle.exif_text.specs.FieldTypes.{known_length, type_of}
use Rattle.exif_types.specs.Numbers.{number_in}
use Rattle.exif_types.specs.declared.field.Field.{Field}
use Rattle.exif_types.specs.declared.value.Value.{Value}
use Rattle.exif_table.specs.declared.context.Context.{Context}
use Rattle.exif_table.specs.declared.context.Context.TheVariants.{Tiff}
use Rattle.exif_tiff.specs.declared.fault.Fault.{Fault}
use Rattle.exif_tiff.specs.declared.fault.Fault.TheVariants.{DataTooLarge, TruncatedHeader, TooManyEntries, TruncatedValue}
use Rattle.exif_tiff.specs.Answers.{Answer, Refused, Whole, answer_of, raw_answer}
use Rattle.exif_tiff.specs.Fronts.{FrontHasHeader, FrontSaysAll, TooLargeIsRefused}
use Rattle.exif_tiff.specs.Trace.{Content, Node, Opens, Visit, Found, Met, Directory, chain_after, chain_nodes, child_end, child_of, content_of, cut, depth_of, directory_end, directory_nodes, entry_nodes, entry_offsets, entry_value, faults_of, header, limited, order_of, ordered_trace, pointer_nodes, tagged_nodes, valued_nodes, whole_entries, opened}
use Rattle.exif_tiff.proofs.Agreement.{Same, decode_alike, number_same, same_of}
use Rattle.exif_tiff.proofs.FootprintAnswers.{ordered, ordered_alike}
use Rattle.exif_tiff.proofs.Footprints.{each_same, ends}

-- ---- nodes without a fault

not_none : (fault : Fault) (faults : List Fault) → ◌≡◌ {A = List Fault} (fault ∷ faults) [] → ⊥
not_none fault faults e = cc

not_ok : {X : Type 0} (fault : Fault) (x : X) → ◌≡◌ {A = Result X Fault} (Err fault) (Ok x) → ⊥
not_ok fault x e = cc

not_some : (v : Value) → ◌≡◌ {A = Option Value} None (Some v) → ⊥
not_some v e = cc

abbrev IsClean : List Node → Type 0
IsClean nodes = faults_of nodes ≡ []

clean_left : (xs ys : List Node) → IsClean (xs ++ ys) → IsClean xs
clean_left [] ys h = refl
clean_left (Opens d ∷ xs) ys h = clean_left xs ys h
clean_left (Visit ∷ xs) ys h = clean_left xs ys h
clean_left (Found l ∷ xs) ys h = clean_left xs ys h
clean_left (Met fault ∷ xs) ys h = absurd (not_none fault (faults_of (xs ++ ys)) h)

clean_right : (xs ys : List Node) → IsClean (xs ++ ys) → IsClean ys
clean_right [] ys h = h
clean_right (Opens d ∷ xs) ys h = clean_right xs ys h
clean_right (Visit ∷ xs) ys h = clean_right xs ys h
clean_right (Found l ∷ xs) ys h = clean_right xs ys h
clean_right (Met fault ∷ xs) ys h = absurd (not_none fault (faults_of (xs ++ ys)) h)

clean_each : (f : ℕ → List Node) (ps : List ℕ) → IsClean (flat_map f ps)
    → AllByRecursion (λ p. IsClean (f p)) ps
clean_each f [] h = tt
clean_each f (p ∷ ps) h = (
  clean_left (f p) (flat_map f ps) h,
  clean_each f ps (clean_right (f p) (flat_map f ps) h),
)

-- a limit that cuts nodes leaves a fault
clean_cut : (n : ℕ) (nodes : List Node) → IsClean (cut n nodes) → IsClean nodes
clean_cut n [] h = refl
clean_cut n (Opens d ∷ nodes) h = clean_cut n nodes h
clean_cut zero (Visit ∷ nodes) h = absurd (not_none TooManyEntries [] h)
clean_cut (suc n) (Visit ∷ nodes) h = clean_cut n nodes h
clean_cut n (Found l ∷ nodes) h = clean_cut n nodes h
clean_cut n (Met fault ∷ nodes) h = absurd (not_none fault (faults_of (cut n nodes)) h)

clean_limited : (limit : Option ℕ) (nodes : List Node) → IsClean (limited limit nodes)
    → IsClean nodes
clean_limited None nodes h = h
clean_limited (Some n) nodes h = clean_cut n nodes h

-- ---- the ends of directories, and values, by their tests

ends_well : (s t u : Bool) (x next : ℕ) → ends s t u x ≡ Ok next → (u ≡ false) × (x ≡ next)
ends_well true t u x next e = absurd (not_ok _ next e)
ends_well false true u x next e = absurd (not_ok _ next e)
ends_well false false true x next e = absurd (not_ok _ next e)
ends_well false false false x next e = (refl, cc)

well_ended : (s t u : Bool) (x next : ℕ) → s ≡ false → t ≡ false → u ≡ false → x ≡ next
    → ends s t u x ≡ Ok next
well_ended s t u x next e f g h = rw (e, f, g, h) refl

-- a test that holds of the front holds of all
valued_in : (s t u : Bool) (v w x y z : Value) → (s ≡ true → v ≡ w)
    → (t ≡ true → (u ≡ true) × (x ≡ y))
    → (if s then Some v else (if t then Some x else None)) ≡ Some z
    → (if s then Some w else (if u then Some y else None)) ≡ Some z
valued_in true t u v w x y z h k e = ap Some (sym (h refl)) ∙ e
valued_in false true u v w x y z h k e = let p = k refl in rw p.0 (ap Some (sym p.1) ∙ e)
valued_in false false u v w x y z h k e = absurd (not_some z e)

-- ---- data that begin with a front

module _ (order : Order) (a b : List ℕ) (longer : length a ≤ length b)
    (fronts : (p n : ℕ) → p + n ≤ length a → bytes_at n a p ≡ bytes_at n b p) where
  abbrev number : Reading
  number = number_of order

  same : (p n : ℕ) → p + n ≤ length a → Same a b p n
  same p n h = same_of a b p n (fronts p n h)

  -- a directory that ends well in the front ends so in all, and has the same entries
  record EndsWell (p next : ℕ) : Type 0 where
    room : p + 2 + 12 * whole_entries number a p ≤ length a
    whole : whole_entries number a p ≡ whole_entries number b p
    end : directory_end number b p ≡ Ok next

  ends_in : (p next : ℕ) → directory_end number a p ≡ Ok next → EndsWell p next
  ends_in p next e =
      let m = number_at number 2 a p in
      let tests = ends_well (nat_lt (length a) (p + 2)) (nat_lt ((length a - p - 2) / 12) m)
      (nat_lt (length a) (p + 2 + 12 * m + 4)) (number_at number 4 a (p + 2 + 12 * m)) next e in
      let last : nat_lt (length a) (p + 2 + 12 * m + 4) ≡ false = tests.0 in
      let room : p + 2 + 12 * m + 4 ≤ length a = grind (arith, nat_tests) in
      let count : m ≡ number_at number 2 b p =
      number_same order 2 a b p (same p 2 (omega (arith, room))) in
      let at : number_at number 4 a (p + 2 + 12 * m) ≡ number_at number 4 b (p + 2 + 12 * m) =
      number_same order 4 a b (p + 2 + 12 * m) (same (p + 2 + 12 * m) 4 (omega (arith, room))) in
      let first : nat_lt (length b) (p + 2) ≡ false = grind (arith, nat_tests) in
      let second : nat_lt ((length b - p - 2) / 12) m ≡ false = grind (arith, nat_tests) in
      let third : nat_lt (length b) (p + 2 + 12 * m + 4) ≡ false = grind (arith, nat_tests) in
      record {
        room = grind arith;
        whole = rw (← count) (grind arith);
        end = rw (← count) (well_ended (nat_lt (length b) (p + 2))
            (nat_lt ((length b - p - 2) / 12) m) (nat_lt (length b) (p + 2 + 12 * m + 4))
            (number_at number 4 b (p + 2 + 12 * m)) next first second third (sym at ∙ tests.1));
      }

  -- the entries are in the front
  abbrev StandsIn : ℕ → Type 0
  StandsIn e = e + 12 ≤ length a

  spaced_in : (q w : ℕ) → q + 12 * w ≤ length a → AllByRecursion StandsIn (spaced q 12 w)
  spaced_in q zero h = tt
  spaced_in q (suc w) h = (omega (arith, h), spaced_in (q + 12) w (omega (arith, h)))

  value_in : (e : ℕ) (v : Value) → StandsIn e → entry_value number a e ≡ Some v
      → entry_value number b e ≡ Some v
  value_in e v h is =
      let type = number_at number 2 a (e + 2) in
      let count = number_at number 4 a (e + 4) in
      let offset = number_at number 4 a (e + 8) in
      let size = known_length (type_of type) * count in
      let types : type ≡ number_at number 2 b (e + 2) =
      number_same order 2 a b (e + 2) (same (e + 2) 2 (omega (arith, h))) in
      let counts : count ≡ number_at number 4 b (e + 4) =
      number_same order 4 a b (e + 4) (same (e + 4) 4 (omega (arith, h))) in
      let offsets : offset ≡ number_at number 4 b (e + 8) =
      number_same order 4 a b (e + 8) (same (e + 8) 4 (omega (arith, h))) in
      rw (← types, ← counts, ← offsets)
      (valued_in (nat_le size 4) (nat_le (offset + size) (length a)) (nat_le (offset + size) (length b))
      (decode number type count a (e + 8)) (decode number type count b (e + 8))
      (decode number type count a offset) (decode number type count b offset) v
      (λ s. decode_alike order type count a b (e + 8)
      (fronts (e + 8) size (grind (arith, nat_tests))))
      (λ t. (
        grind (arith, nat_tests),
        decode_alike order type count a b offset
            (fronts offset size (grind (arith, nat_tests))),
      ))
      is)

  -- a pointer, where what is below it is the same
  module _ (f g : Directory)
      (below : (d : Context) (q next : ℕ) → directory_end number a q ≡ Ok next
      → IsClean (f d q) → f d q ≡ g d q) where
    child_in : (d : Context) (q : ℕ) (x : Result ℕ Fault) → directory_end number a q ≡ x
        → IsClean (f d q ++ child_end x)
        → f d q ++ child_end x ≡ g d q ++ child_end (directory_end number b q)
    child_in d q (Err fault) e h =
        absurd (not_none fault [] (clean_right (f d q) (Met fault ∷ []) h))
    child_in d q (Ok next) e h =
        let well = ends_in q next e in
        let held = below d q next e (clean_left (f d q) (child_end (Ok next)) h) in
        let end = well.end in
        rw (held, end) refl

    pointer_in : (d : Context) (o : Option ℕ) → IsClean (pointer_nodes f number a d o)
        → pointer_nodes f number a d o ≡ pointer_nodes g number b d o
    pointer_in d None h = refl
    pointer_in d (Some q) h = child_in d q (directory_end number a q) refl h

    tagged_in : (c : Context) (k p n e : ℕ) (v : Value) (o : Option Context)
        → IsClean (tagged_nodes f number a c k p n e v o)
        → tagged_nodes f number a c k p n e v o ≡ tagged_nodes g number b c k p n e v o
    tagged_in c k p n e v None h = refl
    tagged_in c k p n e v (Some d) h = pointer_in d (number_in v 0) h

    nodes_in : (c : Context) (k p n e : ℕ) (o : Option Value) → StandsIn e
        → entry_value number a e ≡ o → IsClean (valued_nodes f number a c k p n e o)
        → valued_nodes f number a c k p n e o
        ≡ valued_nodes g number b c k p n e (entry_value number b e)
    nodes_in c k p n e None s is h = absurd (not_none TruncatedValue [] h)
    nodes_in c k p n e (Some v) s is h =
        let value = value_in e v s is in rw value (tagged_in c k p n e v (child_of c n) h)

    entry_in : (c : Context) (k p e : ℕ) → StandsIn e → IsClean (entry_nodes f number a c k p e)
        → entry_nodes f number a c k p e ≡ entry_nodes g number b c k p e
    entry_in c k p e s h =
        let tags : number_at number 2 a e ≡ number_at number 2 b e =
        number_same order 2 a b e (same e 2 (omega (arith, s))) in
        rw (← tags) (ap (λ nodes. Visit ∷ nodes)
        (nodes_in c k p (number_at number 2 a e) e (entry_value number a e) s refl h))

  directory_in : (depth k : ℕ) (c : Context) (p next : ℕ) → directory_end number a p ≡ Ok next
      → IsClean (directory_nodes depth number a k c p)
      → directory_nodes depth number a k c p ≡ directory_nodes depth number b k c p
  directory_in zero k c p next e h = refl
  directory_in (suc depth) k c p next e h =
      let well = ends_in p next e in
      let offsets : entry_offsets number a p ≡ entry_offsets number b p =
      ap (spaced (p + 2) 12) well.whole in
      let stand = spaced_in (p + 2) (whole_entries number a p) well.room in
      let nodes : Directory → List ℕ → ℕ → List Node =
      λ child bytes q. entry_nodes child number bytes c k p q in
      let f = directory_nodes depth number a k in
      let g = directory_nodes depth number b k in
      rw (← offsets) (ap (opened c p)
      (each_same (nodes f a) (nodes g b) StandsIn (λ q. IsClean (nodes f a q)) StandsIn
      (entry_offsets number a p)
      (λ q s clean t. entry_in f g (directory_in depth k) c k p q s clean)
      stand (clean_each (nodes f a) (entry_offsets number a p) h) stand))

  -- what follows a directory of a chain
  linked_in : (left k p : ℕ) (x : Result ℕ Fault)
      → ((q : ℕ) → IsClean (chain_nodes left number a (k + 1) q)
      → chain_nodes left number a (k + 1) q ≡ chain_nodes left number b (k + 1) q)
      → directory_end number a p ≡ x
      → IsClean (directory_nodes (depth_of Tiff) number a k Tiff p
      ++ chain_after (chain_nodes left number a (k + 1)) x)
      → directory_nodes (depth_of Tiff) number a k Tiff p
      ++ chain_after (chain_nodes left number a (k + 1)) x
      ≡ directory_nodes (depth_of Tiff) number b k Tiff p
      ++ chain_after (chain_nodes left number b (k + 1)) (directory_end number b p)
  linked_in left k p (Err fault) rest e h =
      absurd (not_none fault [] (clean_right (directory_nodes (depth_of Tiff) number a k Tiff p) (Met fault ∷ []) h))
  linked_in left k p (Ok next) rest e h =
      let well = ends_in p next e in
      let first = directory_nodes (depth_of Tiff) number a k Tiff p in
      let nodes = directory_in (depth_of Tiff) k Tiff p next e
      (clean_left first (chain_nodes left number a (k + 1) next) h) in
      let others = rest next (clean_right first (chain_nodes left number a (k + 1) next) h) in
      let end = well.end in
      rw end (λ i. nodes i ++ others i)

  either_in : (t : Bool) (ns ms : List Node) → (IsClean ns → ns ≡ ms)
      → IsClean (elim t as (λ _. List Node) [ true ↦ [] | false ↦ ns ])
      → elim t as (λ _. List Node) [ true ↦ [] | false ↦ ns ]
      ≡ elim t as (λ _. List Node) [ true ↦ [] | false ↦ ms ]
  either_in true ns ms each h = refl
  either_in false ns ms each h = each h

  chain_in : (left k p : ℕ) → IsClean (chain_nodes left number a k p)
      → chain_nodes left number a k p ≡ chain_nodes left number b k p
  chain_in zero k p h = refl
  chain_in (suc left) k p h =
      either_in (p == 0)
      (directory_nodes (depth_of Tiff) number a k Tiff p
      ++ chain_after (chain_nodes left number a (k + 1)) (directory_end number a p))
      (directory_nodes (depth_of Tiff) number b k Tiff p
      ++ chain_after (chain_nodes left number b (k + 1)) (directory_end number b p))
      (linked_in left k p (directory_end number a p) (chain_in left (k + 1)) refl) h

  ordered_in : 8 ≤ length a → IsClean (ordered_trace number a)
      → ordered_trace number a ≡ ordered_trace number b
  unfolding ordered_trace
  ordered_in long h =
      let first : number_at number 4 a 4 ≡ number_at number 4 b 4 =
      number_same order 4 a b 4 (same 4 4 (omega (arith, long))) in
      rw (← first) (chain_in 8 0 (number_at number 4 a 4) h)

-- ---- answers

-- bytes of a front are those of all
fronts_of : (front rest : List ℕ) (p n : ℕ) → p + n ≤ length front
    → bytes_at n front p ≡ bytes_at n (front ++ rest) p
fronts_of front rest p n h =
    let dropped = drop-append-le p front rest (omega (arith, h)) in
    let enough : n ≤ length (drop p front) = omega (arith, h, length-drop p front) in
    sym (ap (take n) dropped ∙ take-append-le n (drop p front) rest enough)

-- fields without a fault
record IsWhole (content : Content) (fields : List Field) : Type 0 where
  clean : content.faults ≡ []
  all : content.fields ≡ fields

not_whole : (fault : Fault) (fields : List Field) → ◌≡◌ {A = Answer} (Refused fault) (Whole fields) → ⊥
not_whole fault fields e = cc

whole_by : (fields found : List Field) (faults : List Fault)
    → answer_of false (record { fields = found; faults = faults }) ≡ Whole fields
    → IsWhole (record { fields = found; faults = faults }) fields
whole_by fields found [] e = record { clean = refl; all = cc }
whole_by fields found (fault ∷ faults) e = absurd (not_whole fault fields e)

-- without faults the answer is the fields, in both modes
pub shown_by : (lenient : Bool) (fields : List Field)
    → answer_of lenient (record { fields = fields; faults = [] }) ≡ Whole fields
shown_by true fields = refl
shown_by false fields = refl

answered : (lenient : Bool) (content : Content) (fields : List Field) → IsWhole content fields
    → answer_of lenient content ≡ Whole fields
answered lenient content fields h =
    let clean = h.clean in
    let all = h.all in
    ap (answer_of lenient) (λ i. record { fields = all i; faults = clean i }) ∙ shown_by lenient fields

-- a header by its tests
headed : (s t : Bool) (x : Result Order Fault) (order : Order)
    → (if s then Err DataTooLarge else (if t then Err TruncatedHeader else x)) ≡ Ok order
    → (t ≡ false) × (x ≡ Ok order)
headed true t x order e = absurd (not_ok DataTooLarge order e)
headed false true x order e = absurd (not_ok TruncatedHeader order e)
headed false false x order e = (refl, e)

heading : (s t : Bool) (x : Result Order Fault) (order : Order) → s ≡ false → t ≡ false
    → x ≡ Ok order
    → (if s then Err DataTooLarge else (if t then Err TruncatedHeader else x)) ≡ Ok order
heading s t x order e f g = rw (e, f, g) refl

module _ (front rest : List ℕ) (small : length (front ++ rest) < 2 ^ 32) where
  abbrev all_bytes : List ℕ
  all_bytes = front ++ rest

  long_enough : (order : Order) → header front ≡ Ok order → 8 ≤ length front
  long_enough order e =
      let tests = headed (nat_lt (2 ^ 32 - 1) (length front)) (nat_lt (length front) 8)
      (ordered front (order_of front)) order e in
      let long : nat_lt (length front) 8 ≡ false = tests.0 in
      grind (arith, nat_tests)

  -- all bytes have the header of their front, where it is right and they are fewer than 2^32
  pub header_in : (order : Order) → header front ≡ Ok order → header all_bytes ≡ Ok order
  header_in order e =
      let long = long_enough order e in
      let tests = headed (nat_lt (2 ^ 32 - 1) (length front)) (nat_lt (length front) 8)
      (ordered front (order_of front)) order e in
      let alike = ordered_alike front all_bytes
      (same_of front all_bytes 0 8 (fronts_of front rest 0 8 (omega (arith, long)))) in
      let lengths = length-append front rest in
      let first : nat_lt (2 ^ 32 - 1) (length all_bytes) ≡ false = grind (arith, nat_tests) in
      let second : nat_lt (length all_bytes) 8 ≡ false = grind (arith, nat_tests) in
      heading (nat_lt (2 ^ 32 - 1) (length all_bytes)) (nat_lt (length all_bytes) 8)
      (ordered all_bytes (order_of all_bytes)) order first second (sym alike ∙ tests.1)

  abbrev answer_by : Bool → Option ℕ → List ℕ → Result Order Fault → Answer
  answer_by lenient limit bytes x = elim x [
    | Err fault ↦ Refused fault
    | Ok order ↦
        answer_of lenient (content_of (limited limit (ordered_trace (number_of order) bytes)))
  ]

  says : (lenient : Bool) (limit : Option ℕ) (fields : List Field) (x : Result Order Fault)
      → header front ≡ x → answer_by false limit front x ≡ Whole fields
      → answer_by lenient limit all_bytes (header all_bytes) ≡ Whole fields
  says lenient limit fields (Err fault) e h = absurd (not_whole fault fields h)
  says lenient limit fields (Ok order) e h =
      let nodes = ordered_trace (number_of order) front in
      let content = content_of (limited limit nodes) in
      let whole = whole_by fields content.fields content.faults h in
      let lengths = length-append front rest in
      let trace = ordered_in order front all_bytes (omega (arith, lengths)) (fronts_of front rest)
      (long_enough order e) (clean_limited limit nodes whole.clean) in
      let head = header_in order e in
      rw (head, ← trace) (answered lenient content fields whole)

-- the fields of a front read without a fault are those of all data, below 2^32 bytes
pub front_says_all : (lenient : Bool) (limit : Option ℕ) (front rest : List ℕ)
    → FrontSaysAll lenient limit front rest
unfolding raw_answer
front_says_all lenient limit front rest fields h small =
    says front rest small lenient limit fields (header front) refl h

-- a good header of a front is that of all data that begin with it, below 2^32 bytes
pub front_has_header : (front rest : List ℕ) → FrontHasHeader front rest
front_has_header front rest order h small = header_in front rest small order h

-- ---- too much

refused_by : (lenient : Bool) (limit : Option ℕ) (bytes : List ℕ) (s : Bool) (x : Result Order Fault)
    → s ≡ true
    → (elim (if s then Err DataTooLarge else x) as (λ _. Answer) [
      | Err fault ↦ Refused fault
      | Ok order ↦
          answer_of lenient (content_of (limited limit (ordered_trace (number_of order) bytes)))
    ]) ≡ Refused DataTooLarge
refused_by lenient limit bytes s x e = rw e refl

-- data of 2^32 bytes or more are refused as too large, in both modes, under any limit
pub too_large_refused : (lenient : Bool) (limit : Option ℕ) (bytes : List ℕ)
    → TooLargeIsRefused lenient limit bytes
unfolding raw_answer
too_large_refused lenient limit bytes h =
    let long : nat_lt (2 ^ 32 - 1) (length bytes) ≡ true = grind (arith, nat_tests) in
    refused_by lenient limit bytes (nat_lt (2 ^ 32 - 1) (length bytes))
    (if nat_lt (length bytes) 8 then Err TruncatedHeader else ordered bytes (order_of bytes)) long
