-- A parser's answer is that of the definitions.
use Rattle.std.proofs.Common.{◌≡◌, ℕ, Bool, List, [], Option, Some, Ok, Err, refl, sym, ap, ◌∙◌}
use Rattle.exif_base.specs.Orders.{number_of}
use Rattle.exif_base.specs.Bytes.{Reading, number_at}
use Rattle.exif_base.specs.declared.endian.Order.{Order}
use Rattle.exif_tiff.specs.declared.fault.Fault.{Fault}
use Rattle.exif_tiff.specs.Trace.{content_of, limited, cut, header, ordered_trace, trace, chain_nodes}
use Rattle.exif_tiff.specs.Answers.{Answer, answer_of, raw_answer}
use Rattle.exif_tiff.specs.Noted.{Noted}
use Rattle.exif_tiff.specs.Running.{Progress, on_met, run, outcome}
use Rattle.exif_tiff.specs.Results.{Says}
use Rattle.exif_tiff.specs.Stops.{Follows}
use Rattle.exif_tiff.specs.declared.stop.Stop.{Stop}
use Rattle.exif_tiff.specs.declared.stop.Stop.TheVariants as stop
use Rattle.exif_tiff.proofs.TiffOutcomes.{at_work, outcome_run, met_refused}

-- a header that is right leads to the directories
pub raw_right : (lenient : Bool) (limit : Option ℕ) (bytes : List ℕ) (order : Order) → header bytes ≡ Ok order → raw_answer lenient limit bytes ≡ answer_of lenient (content_of (limited limit (ordered_trace (number_of order) bytes)))
unfolding raw_answer
raw_right lenient limit bytes order e = rw (e, raw_answer) refl

-- the same of what is in the data
pub trace_right : (bytes : List ℕ) (order : Order) → header bytes ≡ Ok order → trace bytes ≡ ordered_trace (number_of order) bytes
unfolding trace
trace_right bytes order e = rw (e, trace) refl

-- what running the chain comes to is the answer
pub answered : (number : Reading) (bytes : List ℕ) (lenient : Bool) (most : ℕ) (offsets : Noted) (start : Progress) (x : Progress × Option Fault) → start ≡ at_work lenient most [] [] offsets → run (chain_nodes 8 number bytes 0 (number_at number 4 bytes 4)) start ≡ x → answer_of lenient (content_of (cut most (ordered_trace number bytes))) ≡ outcome x
unfolding ordered_trace
answered number bytes lenient most offsets start x s e =
    sym (outcome_run (chain_nodes 8 number bytes 0 (number_at number 4 bytes 4)) lenient most offsets)
    ∙ (ap (λ (p : Progress). outcome (run (chain_nodes 8 number bytes 0 (number_at number 4 bytes 4)) p)) (sym s) ∙ ap (λ (y : Progress × Option Fault). outcome y) e)

-- where noting a fault stops, it is a refusal
pub says_stop : (e : Stop) (p q : Progress) (fault : Fault) (answer : Answer) → answer ≡ outcome (p, Some fault) → Follows (Err e) q (on_met p fault) → Says (Err e) answer
says_stop stop.OutOfMemory p q fault answer a f = tt
says_stop (stop.Fault other) p q fault answer a f = a ∙ met_refused p q fault other f
