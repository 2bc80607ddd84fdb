use Rattle.std.proofs.Common.{rules, ◌≡◌, ℕ, List, subst, sym}
use Rattle.exif_change.specs.Changed.{change_of}
use Rattle.exif_change.specs.Refusals.{Answers}
use Rattle.exif_session.specs.Answers.{answer_of}
use Rattle.exif_session.specs.declared.request.Change.{Change}
use Rattle.exif_session.specs.declared.request.Change.TheVariants.{Set, Shift}
use Rattle.exif_session.proofs.change.change_bytes.Goals as goal

pub returns-in-Shift : goal.returns-in-Shift
returns-in-Shift c =
    let P : Change → List ℕ → Type 0 = λ change file. Answers change_of c.shift.result (answer_of change file) in
    let same : c.in_ok-file.file.items ≡ c.args.old.now = search rules in
    let is : Shift c.in-Shift.by c.in-Shift.dates ≡ c.args.change.now = search rules in
    subst (λ (change : Change). P change c.args.old.now) is (subst (P (Shift c.in-Shift.by c.in-Shift.dates)) same c.shift.ensures)

pub returns-in-Set : goal.returns-in-Set
returns-in-Set c =
    let P : Change → List ℕ → Type 0 = λ change file. Answers change_of c.set.result (answer_of change file) in
    let same : c.in_ok-file.file.items ≡ c.args.old.now = search rules in
    let is : Set c.in-Set.values ≡ c.args.change.now = search rules in
    let told : Answers change_of c.set.result (answer_of (Set c.in-Set.values) c.in_ok-file.file.items) = rw (sym c.as_slice.ensures.value) c.set.ensures in
    subst (λ (change : Change). P change c.args.old.now) is (subst (P (Set c.in-Set.values)) same told)
