-- What a reading under a limit shows of the data.
use Rattle.std.proofs.Common.{◌≡◌, ◌≤◌, ℕ, Bool, true, false, List, Some, Ok, Err, refl, sym, ap, subst, ◌∙◌, arith}
use Rattle.std.proofs.lemmas.Bool.Decides.{nat_tests}
use Rattle.std.specs.List.{list_any}
use Rattle.exif_tiff.specs.Answers.{Refused, raw_answer, shown}
use Rattle.exif_tiff.specs.Results.{Says, SaysOrder}
use Rattle.exif_tiff.specs.Trace.{Node, cut, trace, visits_of}
use Rattle.exif_tiff.specs.declared.fault.Fault.{Fault}
use Rattle.exif_tiff.specs.declared.fault.Fault.TheVariants.{TooManyEntries}
use Rattle.exif_tiff.specs.declared.stop.Stop.{Stop}
use Rattle.exif_tiff.specs.declared.stop.Stop.TheVariants as stop
use Rattle.exif_tiff.specs.declared.tiff.Parsed.{Parsed}
use Rattle.exif_tiff.proofs.Limits.{answers_within, kept_within}
use Rattle.exif_edit_base.specs.Causes.{Becomes, Fails, of_data, unless, wrong_header, ◌>>=◌}
use Rattle.exif_edit_base.specs.declared.error.Error.{Error}
use Rattle.exif_edit_base.specs.EntryLimit.{has_more, is_limit_fault, limited_reading}
use Rattle.exif_edit_base.specs.Locations.{directory_offsets, located, visited_gps}
use Rattle.exif_edit_base.specs.Readings.{read_of, reading}
use Rattle.exif_edit_base.specs.Walked.{Finds, Walked, WalksTo}
use Rattle.exif_edit_base.proofs.LimitSteps.{answer_tells, refusal_tells}
use Rattle.exif_edit_base.proofs.ReadSteps.{says_reads}

-- where there are no more entries, that is the number of visits
few : (n : ℕ) (bytes : List ℕ) → has_more n bytes ≡ false → visits_of (trace bytes) ≤ n
few n bytes h = grind (arith, nat_tests)

-- the answer by whether there are more entries
limited_by : (n : ℕ) (bytes : List ℕ) (b : Bool) → has_more n bytes ≡ b
    → limited_reading (Some n) bytes
    ≡ (unless b (wrong_header TooManyEntries) >>= λ u. of_data (reading bytes))
limited_by n bytes b h =
    ap (λ (x : Bool). unless x (wrong_header TooManyEntries) >>= λ u. of_data (reading bytes)) h

-- a stop is that of a wrong header
pub limited_refusal : (n : ℕ) (bytes : List ℕ) (fault : Fault)
    → raw_answer true (Some n) bytes ≡ Refused fault
    → limited_reading (Some n) bytes ≡ Err (wrong_header fault)
limited_refusal n bytes fault h =
    let none = sym (refusal_tells n bytes fault h) in
    let whole = sym (answers_within n bytes true (few n bytes none)) ∙ h in
    limited_by n bytes false none
    ∙ ap of_data (says_reads (Err (stop.Fault fault)) bytes whole tt)

-- and the error that it becomes is the refusal
pub limited_stop : (s : Stop) (n : ℕ) (bytes : List ℕ) (e : Error)
    → Says (Err s) (raw_answer true (Some n) bytes) → Becomes s e
    → Fails e (limited_reading (Some n) bytes)
limited_stop stop.OutOfMemory n bytes e h b = rw b refl
limited_stop (stop.Fault fault) n bytes e h b = rw b (limited_refusal n bytes fault h)

-- the fault of the limit shows that there are more entries
pub limited_many : (n : ℕ) (bytes : List ℕ) (parsed : Parsed)
    → raw_answer true (Some n) bytes ≡ shown parsed.fields.items parsed.faults.items
    → list_any is_limit_fault parsed.faults.items ≡ true
    → limited_reading (Some n) bytes ≡ Err (wrong_header TooManyEntries)
limited_many n bytes parsed h many =
    limited_by n bytes true
    (sym (answer_tells n bytes parsed.fields.items parsed.faults.items h) ∙ many)

-- without it there are no more
pub none_more : (n : ℕ) (bytes : List ℕ) (parsed : Parsed)
    → raw_answer true (Some n) bytes ≡ shown parsed.fields.items parsed.faults.items
    → list_any is_limit_fault parsed.faults.items ≡ false → has_more n bytes ≡ false
none_more n bytes parsed h none =
    sym (answer_tells n bytes parsed.fields.items parsed.faults.items h) ∙ none

-- and all was read
pub limited_whole : (n : ℕ) (bytes : List ℕ) (parsed : Parsed)
    → raw_answer true (Some n) bytes ≡ shown parsed.fields.items parsed.faults.items
    → SaysOrder (Ok parsed) bytes
    → list_any is_limit_fault parsed.faults.items ≡ false
    → limited_reading (Some n) bytes ≡ Ok (read_of parsed)
limited_whole n bytes parsed h order none =
    let fit = none_more n bytes parsed h none in
    let whole = sym (answers_within n bytes true (few n bytes fit)) ∙ h in
    limited_by n bytes false fit ∙ ap of_data (says_reads (Ok parsed) bytes whole order)

-- the offsets of a trace are those of the data
pub walk_found : (bytes : List ℕ) (w : Walked) → WalksTo (trace bytes) w → Finds bytes w
unfolding located directory_offsets visited_gps
walk_found bytes w t = record {
  entries = t.entries;
  gps = t.gps;
  directories = t.directories;
}

-- so are those up to a limit, where there are no more entries
pub limited_found : (n : ℕ) (bytes : List ℕ) (w : Walked) → has_more n bytes ≡ false
    → WalksTo (cut n (trace bytes)) w → Finds bytes w
limited_found n bytes w fit t =
    let P : List Node → Type 0 = λ nodes. WalksTo nodes w in
    walk_found bytes w (subst P (kept_within n (trace bytes) (few n bytes fit)) t)
