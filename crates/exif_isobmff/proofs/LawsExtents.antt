-- An extent is read as the text that is at its offset, and what is read is there.
use Rattle.std.proofs.Common.{◌≡◌, ◌⊎◌, inl, inr, ℕ, ◌+◌, ◌<◌, ◌≤◌, ◌^◌, Bool, true, false, cond, eqb, ltb, leb, List, [], ◌++◌, length, take, drop, Result, Ok, Err, ap, sym, ◌∙◌, refl, arith, length-append, length-drop}
use Rattle.std.proofs.lemmas.Bool.{cases_lt, eq-eqb, ne_eqb, eqb-true, eqb-false, le-ltb, ltb-false, lt-leb, leb-false}
use Rattle.std.proofs.lemmas.List.{take_at, drop_at, drop_all, take-append-drop, length-take-le}
use Rattle.exif_types.specs.Refusals.{Refusal}
use Rattle.exif_isobmff.specs.declared.extents.Within.{Within}
use Rattle.exif_isobmff.specs.declared.extents.Within.TheVariants.{File, ItemDataBox}
use Rattle.exif_isobmff.specs.declared.locations.Extent.{Extent}
use Rattle.exif_isobmff.specs.HeifRefusals.{invalid_offset, invalid_length, broken_file, out_of_idat}
use Rattle.exif_isobmff.specs.ItemLocations.{file_extent, idat_extent}
use Rattle.exif_isobmff.specs.LocationGrammar.{StandsAt, RunsToEnd, IsFileText, IsIdatText, TextIsRead, IsAText}
use Rattle.exif_isobmff.proofs.SplitterBoxes.{ok_same}
use Rattle.exif_isobmff.proofs.LawsSteps.{unless-ok}

-- a text between others
stands-read : (bytes : List ℕ) (from len : ℕ) (text : List ℕ) → length text ≡ len → StandsAt bytes from text → (from + len ≤ length bytes) × (take len (drop from bytes) ≡ text)
stands-read bytes from len text e s = (
  (let total : length (s.front ++ (text ++ s.behind)) ≡ length bytes = ap (λ (t : List ℕ). length t) s.whole in
      omega (arith, s.begins, length-append s.front (text ++ s.behind), length-append text s.behind)),
  ap (λ t. take len (drop from t)) (sym s.whole) ∙ ap (take len) (drop_at s.front (text ++ s.behind) from s.begins) ∙ take_at text s.behind len e,
)

stands-only : (bytes : List ℕ) (from len : ℕ) (text : List ℕ) → from + len ≤ length bytes → take len (drop from bytes) ≡ text → (length text ≡ len) × StandsAt bytes from text
stands-only bytes from len text room e = (
  ap (λ (t : List ℕ). length t) (sym e) ∙ length-take-le len (drop from bytes) (omega (arith, length-drop from bytes)),
  record {
    front = take from bytes;
    behind = drop len (drop from bytes);
    begins = length-take-le from bytes (omega arith);
    whole = ap (λ t. take from bytes ++ (t ++ drop len (drop from bytes))) (sym e) ∙ ap (λ t. take from bytes ++ t) (take-append-drop len (drop from bytes)) ∙ take-append-drop from bytes;
  },
)

-- a text that runs to the end
end-read : (bytes : List ℕ) (from : ℕ) (text : List ℕ) → RunsToEnd bytes from text → (from ≤ length bytes) × (drop from bytes ≡ text)
end-read bytes from text s = (
  (let total : length (s.front ++ text) ≡ length bytes = ap (λ (t : List ℕ). length t) s.whole in omega (arith, s.begins, length-append s.front text)),
  ap (drop from) (sym s.whole) ∙ drop_at s.front text from s.begins,
)

end-only : (bytes : List ℕ) (from : ℕ) (text : List ℕ) → from ≤ length bytes → drop from bytes ≡ text → RunsToEnd bytes from text
end-only bytes from text room e = record {
  front = take from bytes;
  begins = length-take-le from bytes room;
  whole = ap (λ t. take from bytes ++ t) (sym e) ∙ take-append-drop from bytes;
}

abbrev text_or : Bool → Refusal → List ℕ → Result (List ℕ) Refusal
text_or t r text = cond t (Err r) (Ok text)

-- ---- in the file

abbrev file_part : List ℕ → ℕ → ℕ → Result (List ℕ) Refusal
file_part file from len = cond (eqb len 0) (Ok (drop from file)) (text_or (ltb (length file) (from + len)) broken_file (take len (drop from file)))

file-unfolded : (file : List ℕ) (base : ℕ) (e : Extent) → file_extent file base e ≡ cond (leb (2 ^ 64) (base + e.offset)) (Err invalid_offset) (file_part file (base + e.offset) e.len)
unfolding file_extent
file-unfolded file base e = refl

file-read : (file : List ℕ) (from len : ℕ) (text : List ℕ) → IsFileText file from len text → file_part file from len ≡ Ok text
file-read file from len text (inl k) =
    ap (λ t. cond t (ok (drop from file)) (text_or (ltb (length file) (from + len)) broken_file (take len (drop from file)))) (eq-eqb len 0 k.0) ∙ ap ok (rest k.1)
  where
    ok : List ℕ → Result (List ℕ) Refusal
    ok t = Ok t

    rest : RunsToEnd file from text ⊎ ((length file < from) × (text ≡ [])) → drop from file ≡ text
    rest (inl s) = (end-read file from text s).1
    rest (inr p) = let lt = p.0 in drop_all from file (omega arith) ∙ sym p.1
file-read file from len text (inr k) =
    let s = stands-read file from len text k.1 k.2 in
    ap (λ t. cond t (ok (drop from file)) (text_or (ltb (length file) (from + len)) broken_file (take len (drop from file)))) (ne_eqb len 0 (λ z. let pos = k.0 in omega arith))
    ∙ ap (λ t. text_or t broken_file (take len (drop from file))) (le-ltb (length file) (from + len) s.0) ∙ ap ok s.1
  where
    ok : List ℕ → Result (List ℕ) Refusal
    ok t = Ok t

file-only : (file : List ℕ) (from len : ℕ) (text : List ℕ) → file_part file from len ≡ Ok text → IsFileText file from len text
file-only file from len text = by (eqb len 0) refl
  where
    past : (length file < from) ⊎ (from ≤ length file) → drop from file ≡ text → RunsToEnd file from text ⊎ ((length file < from) × (text ≡ []))
    past (inl lt) e = inr (lt, sym e ∙ drop_all from file (omega arith))
    past (inr le) e = inl (end-only file from text le e)

    by : (t : Bool) → eqb len 0 ≡ t → cond t (Ok (drop from file)) (text_or (ltb (length file) (from + len)) broken_file (take len (drop from file))) ≡ Ok text → IsFileText file from len text
    by true z e = inl (eqb-true len 0 z, past (cases_lt (length file) from) (ok_same e))
    by false z e =
        let u = unless-ok (ltb (length file) (from + len)) broken_file (Ok (take len (drop from file))) text e in
        let s = stands-only file from len text (ltb-false (length file) (from + len) u.0) (ok_same u.1) in
        let some = eqb-false len 0 z in
        inr (omega arith, s.0, s.1)

-- ---- in `idat`

abbrev idat_part : List ℕ → ℕ → ℕ → Result (List ℕ) Refusal
idat_part idat from len = cond (ltb (length idat) (from + len)) (Err out_of_idat) (cond (eqb len 0) (Ok (drop from idat)) (Ok (take len (drop from idat))))

idat-unfolded : (idat : List ℕ) (base : ℕ) (e : Extent)
    → idat_extent idat base e ≡ cond (leb (2 ^ 64) (base + e.offset)) (Err invalid_offset) (cond (leb (2 ^ 64) (base + e.offset + e.len)) (Err invalid_length) (idat_part idat (base + e.offset) e.len))
unfolding idat_extent
idat-unfolded idat base e = refl

idat-read : (idat : List ℕ) (from len : ℕ) (text : List ℕ) → IsIdatText idat from len text → idat_part idat from len ≡ Ok text
idat-read idat from len text (inl k) =
    let s = end-read idat from text k.1 in
    let zero_len = k.0 in
    let room = s.0 in
    ap (λ t. cond t (Err out_of_idat) (cond (eqb len 0) (ok (drop from idat)) (ok (take len (drop from idat))))) (le-ltb (length idat) (from + len) (omega arith))
    ∙ ap (λ t. cond t (ok (drop from idat)) (ok (take len (drop from idat)))) (eq-eqb len 0 k.0) ∙ ap ok s.1
  where
    ok : List ℕ → Result (List ℕ) Refusal
    ok t = Ok t
idat-read idat from len text (inr k) =
    let s = stands-read idat from len text k.1 k.2 in
    ap (λ t. cond t (Err out_of_idat) (cond (eqb len 0) (ok (drop from idat)) (ok (take len (drop from idat))))) (le-ltb (length idat) (from + len) s.0)
    ∙ ap (λ t. cond t (ok (drop from idat)) (ok (take len (drop from idat)))) (ne_eqb len 0 (λ z. let pos = k.0 in omega arith)) ∙ ap ok s.1
  where
    ok : List ℕ → Result (List ℕ) Refusal
    ok t = Ok t

idat-only : (idat : List ℕ) (from len : ℕ) (text : List ℕ) → idat_part idat from len ≡ Ok text → IsIdatText idat from len text
idat-only idat from len text e =
    let u = unless-ok (ltb (length idat) (from + len)) out_of_idat (cond (eqb len 0) (Ok (drop from idat)) (Ok (take len (drop from idat)))) text e in
    by (eqb len 0) refl (ltb-false (length idat) (from + len) u.0) u.1
  where
    by : (t : Bool) → eqb len 0 ≡ t → from + len ≤ length idat → cond {A = Result (List ℕ) Refusal} t (Ok (drop from idat)) (Ok (take len (drop from idat))) ≡ Ok text → IsIdatText idat from len text
    by true z room e = inl (eqb-true len 0 z, end-only idat from text (omega arith) (ok_same e))
    by false z room e =
        let s = stands-only idat from len text room (ok_same e) in
        let some = eqb-false len 0 z in
        inr (omega arith, s.0, s.1)

-- ---- in either

-- an extent is read as the text that is there
pub text_is_read : (within : Within) (bytes : List ℕ) (base : ℕ) (e : Extent) (text : List ℕ) → TextIsRead within bytes base e text
text_is_read File bytes base e text h =
    file-unfolded bytes base e ∙ ap (λ t. cond t (Err invalid_offset) (file_part bytes (base + e.offset) e.len)) (lt-leb (2 ^ 64) (base + e.offset) h.0)
    ∙ file-read bytes (base + e.offset) e.len text h.1
text_is_read ItemDataBox bytes base e text h =
    let room = h.0 in
    idat-unfolded bytes base e
    ∙ ap (λ t. cond t (Err invalid_offset) (cond (leb (2 ^ 64) (base + e.offset + e.len)) (Err invalid_length) (idat_part bytes (base + e.offset) e.len))) (lt-leb (2 ^ 64) (base + e.offset) (omega arith))
    ∙ ap (λ t. cond t (Err invalid_length) (idat_part bytes (base + e.offset) e.len)) (lt-leb (2 ^ 64) (base + e.offset + e.len) h.0)
    ∙ idat-read bytes (base + e.offset) e.len text h.1

-- what is read of an extent is there
pub is_a_text : (within : Within) (bytes : List ℕ) (base : ℕ) (e : Extent) (text : List ℕ) → IsAText within bytes base e text
is_a_text File bytes base e text k =
    let u = unless-ok (leb (2 ^ 64) (base + e.offset)) invalid_offset (file_part bytes (base + e.offset) e.len) text (sym (file-unfolded bytes base e) ∙ k) in
    (leb-false (2 ^ 64) (base + e.offset) u.0, file-only bytes (base + e.offset) e.len text u.1)
is_a_text ItemDataBox bytes base e text k =
    let u = unless-ok (leb (2 ^ 64) (base + e.offset)) invalid_offset (cond (leb (2 ^ 64) (base + e.offset + e.len)) (Err invalid_length) (idat_part bytes (base + e.offset) e.len)) text (sym (idat-unfolded bytes base e) ∙ k) in
    let w = unless-ok (leb (2 ^ 64) (base + e.offset + e.len)) invalid_length (idat_part bytes (base + e.offset) e.len) text u.1 in
    (leb-false (2 ^ 64) (base + e.offset + e.len) w.0, idat-only bytes (base + e.offset) e.len text w.1)
