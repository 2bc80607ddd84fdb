use Rattle.std.proofs.Common.{rules, ◌≡◌, ◌∙◌, Some, true, false, arith, map, sym}
use Rattle.std.specs.List.{slice_get}
use Rattle.std.specs.String.{string_bytes}
use Rattle.exif_rename.specs.Planned.{all_own}
use Rattle.exif_rename.specs.RenameRequests.{candidate, file_of}
use Rattle.exif_rename.proofs.Kept.{no_own, not_all_own, some_files, with_own}
use Rattle.exif_rename.proofs.request.RenameRequest.kept_number.Goals as goal

pub returns-in_default-own_number : goal.returns-in_default-own_number
returns-in_default-own_number c =
    no_own (string_bytes c.args.self.now.base) (map file_of c.args.self.now.files.items) c.own_number.result c.own_number.ensures (λ k lt e. c.in_default-own_number.not-Some k e)

pub returns-then-number-ge-TRIES : goal.returns-then-number-ge-TRIES
returns-then-number-ge-TRIES c =
    no_own (string_bytes c.args.self.now.base) (map file_of c.args.self.now.files.items) c.own_number.result c.own_number.ensures
    (λ k lt e. let both : Some c.in-Some-own_number.number ≡ Some k = sym c.in-Some-own_number.is ∙ e in let one : c.in-Some-own_number.number ≡ k = cc in absurd (omega arith))

pub returns-then-branch : goal.returns-then-branch
returns-then-branch c =
    let base = string_bytes c.args.self.now.base in
    let files = map file_of c.args.self.now.files.items in
    let first : slice_get c.args.self.now.files.items 0 ≡ Some c.in-Some._first.now = search rules in
    let all : all_own (candidate base c.in-Some-own_number.number) files ≡ true = search rules in
    with_own base files c.own_number.result c.in-Some-own_number.number (some_files c.args.self.now.files.items c.in-Some._first.now first) c.own_number.ensures c.in-Some-own_number.is (omega arith) all

pub returns : goal.returns
returns c =
    let base = string_bytes c.args.self.now.base in
    let files = map file_of c.args.self.now.files.items in
    let off : all_own (candidate base c.in-Some-own_number.number) files ≡ false = search rules in
    not_all_own base files c.own_number.result c.in-Some-own_number.number c.own_number.ensures c.in-Some-own_number.is off
