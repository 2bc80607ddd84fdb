-- Item locations are read as their trees say, and what is read is the print of a tree.
use Rattle.std.proofs.Common.{◌≡◌, ◌⊎◌, inl, inr, ℕ, ◌+◌, ◌*◌, ◌/◌, ◌%◌, ◌<◌, ◌≤◌, cond, eqb, ltb, List, [], ◌∷◌, ◌++◌, length, map, Result, Ok, Err, ap, sym, ◌∙◌, refl, arith}
use Rattle.std.specs.List.{flat_map}
use Rattle.std.proofs.lemmas.Bool.{cases_lt, le-ltb, ltb-false}
use Rattle.byteorder.specs.Endian.{big_number}
use Rattle.exif_types.specs.Refusals.{Refusal, ◌>>=◌}
use Rattle.exif_isobmff.specs.declared.locations.Sizes.{Sizes}
use Rattle.exif_isobmff.specs.HeifRefusals.{too_small, unsupported_iloc}
use Rattle.exif_isobmff.specs.Boxes.{number_at, version_at, times, times_joined}
use Rattle.exif_isobmff.specs.ItemGrammar.{print_full}
use Rattle.exif_isobmff.specs.ItemLocations.{ItemExtents, sizes, item_width, location_at, locations}
use Rattle.exif_isobmff.specs.LocationGrammar.{print_location, IsLocation, location_said, LocationsTree, print_locations, sizes_in, AreLocations, locations_said, LocationsAreRead, IsAnIloc}
use Rattle.exif_isobmff.proofs.SplitterBoxes.{bind_ok, ok_same}
use Rattle.exif_isobmff.proofs.LawsSteps.{then_ok, then_err, unless-ok, number_read, full_read, full_short, Fronted, fronted, times-read, times-only, number-taken}
use Rattle.exif_isobmff.proofs.LawsItemLocations.{location-read, location-only}

packed-sizes : (version n : ℕ) (s : Sizes) → n ≡ 4096 * s.offset + 256 * s.len + 16 * s.base + s.index → s.len < 16 → s.base < 16 → s.index < 16 → sizes version n ≡ sizes_in version s
packed-sizes version n s e l b i =
    ap (λ k. made k (n / 256 % 16) (n / 16 % 16) (n % 16)) first
    ∙ ap (λ k. made s.offset k (n / 16 % 16) (n % 16)) second
    ∙ ap (λ k. made s.offset s.len k (n % 16)) third
    ∙ ap (λ k. made s.offset s.len s.base k) last
  where
    made : ℕ → ℕ → ℕ → ℕ → Sizes
    made offset len base index = record { offset = offset; len = len; base = base; index = cond (eqb version 0) 0 index }

    first : n / 4096 ≡ s.offset
    first = omega arith

    second : n / 256 % 16 ≡ s.len
    second = omega arith

    third : n / 16 % 16 ≡ s.base
    third = omega arith

    last : n % 16 ≡ s.index
    last = omega arith

joined-map : {X A : Type 0} (f : X → List A) (xs : List X) → flat_map (λ ys. ys) (map f xs) ≡ flat_map f xs
joined-map f [] = refl
joined-map f (x ∷ xs) = ap (λ ys. f x ++ ys) (joined-map f xs)

abbrev counted : ℕ → ℕ → ℕ × List ℕ → Result (List ItemExtents) Refusal
counted wanted version packed =
    cond (ltb 2 version) (Err unsupported_iloc) (number_at (item_width version) packed.1)
    >>= λ count. times_joined count.0 (location_at wanted version (sizes version packed.0)) count.1

locations-headed : (wanted : ℕ) (body : List ℕ) → locations wanted body ≡ (version_at body >>= λ v. number_at 2 v.1 >>= λ packed. counted wanted v.0 packed)
unfolding locations
locations-headed wanted body = refl

-- an `iloc` is read as its tree says
pub locations_are_read : (wanted : ℕ) (t : LocationsTree) → LocationsAreRead wanted t
locations_are_read wanted t is =
    let v = t.head.version in
    let s = sizes_in t.head.version t.sizes in
    let items = flat_map print_location t.items ++ t.rest in
    locations-headed wanted (print_locations t)
    ∙ then_ok (version_at (print_locations t)) (t.head.version, t.packed ++ (t.count ++ (flat_map print_location t.items ++ t.rest))) (λ v. number_at 2 v.1 >>= λ packed. counted wanted v.0 packed)
    (full_read t.head (t.packed ++ (t.count ++ (flat_map print_location t.items ++ t.rest))) is.head)
    ∙ then_ok (number_at 2 (t.packed ++ (t.count ++ (flat_map print_location t.items ++ t.rest)))) (big_number 2 t.packed, t.count ++ (flat_map print_location t.items ++ t.rest)) (λ packed. counted wanted t.head.version packed)
    (number_read 2 t.packed (t.count ++ (flat_map print_location t.items ++ t.rest)) is.packed.two)
    ∙ then_ok (cond (ltb 2 t.head.version) (Err unsupported_iloc) (number_at (item_width t.head.version) (t.count ++ (flat_map print_location t.items ++ t.rest)))) (big_number (length t.count) t.count, flat_map print_location t.items ++ t.rest)
    (λ count. times_joined count.0 (location_at wanted t.head.version (sizes t.head.version (big_number 2 t.packed))) count.1)
    (ap (λ b. cond b (Err unsupported_iloc) (number_at (item_width t.head.version) (t.count ++ (flat_map print_location t.items ++ t.rest)))) (le-ltb 2 t.head.version is.version)
    ∙ ap (λ n. number_at n (t.count ++ (flat_map print_location t.items ++ t.rest))) (sym is.count)
    ∙ number_read (length t.count) t.count (flat_map print_location t.items ++ t.rest) refl)
    ∙ ap (λ n. times_joined n (location_at wanted t.head.version (sizes t.head.version (big_number 2 t.packed))) (flat_map print_location t.items ++ t.rest)) is.counted
    ∙ ap (λ (z : Sizes). times_joined (length t.items) (location_at wanted t.head.version z) (flat_map print_location t.items ++ t.rest))
    (packed-sizes t.head.version (big_number 2 t.packed) t.sizes is.packed.spelt is.packed.len is.packed.base is.packed.index)
    ∙ then_ok (times (length t.items) (location_at wanted t.head.version (sizes_in t.head.version t.sizes)) (flat_map print_location t.items ++ t.rest)) (map (location_said wanted t.head.version) t.items, t.rest)
    (λ found. all_of found.0)
    (times-read (location_at wanted t.head.version (sizes_in t.head.version t.sizes)) print_location (location_said wanted t.head.version) (IsLocation wanted t.head.version (sizes_in t.head.version t.sizes))
    (λ p r k. location-read wanted t.head.version (sizes_in t.head.version t.sizes) p r k) t.items t.rest is.items)
    ∙ ap (λ ps. ok ps) (joined-map (location_said wanted t.head.version) t.items)
  where
    ok : List ItemExtents → Result (List ItemExtents) Refusal
    ok ps = Ok ps

    all_of : List (List ItemExtents) → Result (List ItemExtents) Refusal
    all_of found = Ok (flat_map (λ xs. xs) found)

abbrev four_bits : ℕ → Sizes
four_bits n = record { offset = n / 4096; len = n / 256 % 16; base = n / 16 % 16; index = n % 16 }

spelt-again : (n : ℕ) → n ≡ 4096 * (n / 4096) + 256 * (n / 256 % 16) + 16 * (n / 16 % 16) + n % 16
spelt-again n = omega arith

under-sixteen : (n : ℕ) → n % 16 < 16
under-sixteen n = omega arith

locations-fronted : (wanted : ℕ) (body : List ℕ) (f : Fronted body) (listed : List ItemExtents) → locations wanted body ≡ Ok listed
    → (t : LocationsTree) × AreLocations wanted t × (locations_said wanted t ≡ listed) × (print_locations t ≡ body)
locations-fronted wanted body f listed e =
    let version = f.head.version in
    let there : (number_at 2 f.rest >>= λ packed. counted wanted f.head.version packed) ≡ Ok listed =
    sym (then_ok (version_at (print_full f.head f.rest)) (f.head.version, f.rest) (λ v. number_at 2 v.1 >>= λ packed. counted wanted v.0 packed) (full_read f.head f.rest f.is))
    ∙ sym (locations-headed wanted (print_full f.head f.rest)) ∙ ap (locations wanted) f.whole ∙ e in
    let p = bind_ok (number_at 2 f.rest) (λ packed. counted wanted f.head.version packed) listed there in
    let c = bind_ok (cond (ltb 2 f.head.version) (Err unsupported_iloc) (number_at (item_width f.head.version) p.0.1))
    (λ count. times_joined count.0 (location_at wanted f.head.version (sizes f.head.version p.0.0)) count.1) listed p.2 in
    let u = unless-ok (ltb 2 f.head.version) unsupported_iloc (number_at (item_width f.head.version) p.0.1) c.0 c.1 in
    let m = bind_ok (times c.0.0 (location_at wanted f.head.version (sizes f.head.version p.0.0)) c.0.1) all_of listed c.2 in
    let pt = number-taken 2 f.rest p.0 p.1 in
    let ct = number-taken (item_width f.head.version) p.0.1 c.0 u.1 in
    let ts = times-only (location_at wanted f.head.version (sizes f.head.version p.0.0)) print_location (location_said wanted f.head.version) (IsLocation wanted f.head.version (sizes f.head.version p.0.0))
    (λ text x k. location-only wanted f.head.version (sizes f.head.version p.0.0) text x k) c.0.0 c.0.1 m.0 m.1 in (
      record { head = f.head; packed = pt.bytes; sizes = four_bits p.0.0; count = ct.bytes; items = ts.trees; rest = m.0.1 },
      record {
        head = f.is;
        version = ltb-false 2 f.head.version u.0;
        packed = record {
          two = pt.len;
          spelt = ap (λ k. big_number k pt.bytes) (sym pt.len) ∙ pt.value ∙ spelt-again p.0.0;
          len = under-sixteen (p.0.0 / 256);
          base = under-sixteen (p.0.0 / 16);
          index = under-sixteen p.0.0;
        };
        count = ct.len;
        counted = ct.value ∙ sym ts.count;
        items = ts.are;
      },
      sym (joined-map (location_said wanted f.head.version) ts.trees) ∙ ap (λ ps. flat_map (λ ys. ys) ps) ts.vals ∙ ok_same m.2,
      ap (λ t. print_full f.head (pt.bytes ++ (ct.bytes ++ t))) ts.whole
          ∙ ap (λ t. print_full f.head (pt.bytes ++ t)) ct.whole ∙ ap (λ t. print_full f.head t) pt.whole ∙ f.whole,
    )
  where
    all_of : List (List ItemExtents) × List ℕ → Result (List ItemExtents) Refusal
    all_of found = Ok (flat_map (λ xs. xs) found.0)

-- an `iloc` that is read has a tree
pub is_an_iloc : (wanted : ℕ) (body : List ℕ) (listed : List ItemExtents) → IsAnIloc wanted body listed
is_an_iloc wanted body listed e = by (cases_lt (length body) 4)
  where
    by : (length body < 4) ⊎ (4 ≤ length body) → (t : LocationsTree) × AreLocations wanted t × (locations_said wanted t ≡ listed) × (print_locations t ≡ body)
    by (inl lt) =
        let none : Result (List ItemExtents) Refusal = Err too_small in
        let k : none ≡ Ok listed =
        sym (then_err (version_at body) too_small (λ v. number_at 2 v.1 >>= λ packed. counted wanted v.0 packed) (full_short body lt)) ∙ sym (locations-headed wanted body) ∙ e in absurd cc
    by (inr le) = locations-fronted wanted body (fronted body le) listed e
