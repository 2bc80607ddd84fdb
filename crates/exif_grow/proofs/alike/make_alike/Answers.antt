use Rattle.std.proofs.Common.{◌<◌, ◌≤◌, length, sym, arith}
use Rattle.std.proofs.lemmas.Result.{err_from_is_err_and}
use Rattle.exif_edit_base.specs.Finding.{find_answer}
use Rattle.exif_edit_base.specs.Readings.{read_of}
use Rattle.exif_edit_base.proofs.CauseSteps.{refused_on}
use Rattle.exif_edit_base.proofs.FindSteps.{index_below}
use Rattle.exif_edit.proofs.RemoveSteps.{as_many}
use Rattle.exif_grow.specs.Alike.{made_alike}
use Rattle.exif_grow.proofs.AlikeSteps.{alike_again, alike_missing, alike_once, all_near, entry_whole, found_read, named_whole}
use Rattle.exif_grow.proofs.alike.make_alike.Goals as goal

pub returns-in_err-found : goal.returns-in_err-found
returns-in_err-found c =
    let p = err_from_is_err_and c.from_residual.result c.from_residual.ensures.1 in
    record {
      answer = rw (p.1, p.2)
          (refused_on c.in_err-found.field-0.0
          (find_answer c.args.data.items c.args.tag c.args.ifd_num)
          (made_alike c.args.data.items c.args.tag c.args.ifd_num)
          (rw c.as_slice.ensures.value at c.in_err-found.ensures.answer)
          (λ r h. alike_missing c.args.data.items c.args.tag c.args.ifd_num r h));
    }

pub entries_named-requires : goal.entries_named-requires
entries_named-requires c =
    let bytes = c.args.data.items in
    let found = c.in_ok-found.found in
    let read = read_of found.parsed in
    rw (c.as_slice-fields.ensures.value, c.entries.ensures)
    (as_many bytes read found.walk.entries
    (found_read bytes c.args.tag c.args.ifd_num read found.entry
    (rw c.as_slice.ensures.value at c.in_ok-found.ensures.answer))
    (rw c.as_slice.ensures.value at c.in_ok-found.ensures.offsets.entries))

pub returns-then-len-lt2 : goal.returns-then-len-lt2
returns-then-len-lt2 c =
    let bytes = c.args.data.items in
    let found = c.in_ok-found.found in
    let read = read_of found.parsed in
    let few : length c.in_ok-entries.entries.items < 2 = omega arith in
    record {
      answer = alike_once bytes c.args.tag c.args.ifd_num read found.entry found.walk.entries
          c.in_ok-entries.entries.items
          (rw c.as_slice.ensures.value at c.in_ok-found.ensures.answer)
          (rw c.as_slice.ensures.value at c.in_ok-found.ensures.offsets.entries)
          (rw (c.as_slice-fields.ensures.value, c.entries.ensures) at c.in_ok-entries.ensures)
          few;
    }

pub value_at-requires : goal.value_at-requires
value_at-requires c =
    let found = c.in_ok-found.found in
    rw c.as_slice-fields.ensures.value
    (index_below c.args.tag c.args.ifd_num found.parsed.fields.items found.index
    c.in_ok-found.ensures.last)

pub wanted-requires : goal.wanted-requires
wanted-requires c =
    let bytes = c.args.data.items in
    let found = c.in_ok-found.found in
    let read = read_of found.parsed in
    let reads = found_read bytes c.args.tag c.args.ifd_num read found.entry
    (rw c.as_slice.ensures.value at c.in_ok-found.ensures.answer) in
    let offsets = rw c.as_slice.ensures.value at c.in_ok-found.ensures.offsets.entries in
    record {
      paired = rw c.entries-2.ensures (as_many bytes read found.walk.entries reads offsets);
      near = rw c.entries-2.ensures (all_near bytes read found.walk.entries reads offsets);
    }

pub entries_alike-requires : goal.entries_alike-requires
entries_alike-requires c =
    let bytes = c.args.data.items in
    let found = c.in_ok-found.found in
    let read = read_of found.parsed in
    let answer = rw c.as_slice.ensures.value at c.in_ok-found.ensures.answer in
    let reads = found_read bytes c.args.tag c.args.ifd_num read found.entry answer in
    record {
      whole = rw c.as_slice-2.ensures.value
          (entry_whole bytes c.args.tag c.args.ifd_num read found.entry answer);
      all_whole = rw (c.as_slice-3.ensures.value, c.as_slice-2.ensures.value)
          (named_whole bytes c.args.tag c.args.ifd_num read found.walk.entries
          c.in_ok-entries.entries.items reads
          (rw c.as_slice.ensures.value at c.in_ok-found.ensures.offsets.entries)
          (rw (c.as_slice-fields.ensures.value, c.entries.ensures) at c.in_ok-entries.ensures));
    }

pub returns : goal.returns
returns c =
    let bytes = c.args.data.items in
    let found = c.in_ok-found.found in
    let many : 2 ≤ length c.in_ok-entries.entries.items = omega arith in
    record {
      answer = rw (sym (alike_again bytes c.args.tag c.args.ifd_num (read_of found.parsed) found.entry
          found.index c.in_ok-value.value found.walk.entries c.in_ok-entries.entries.items
          (read_of c.in_ok-wanted.wanted)
          (rw c.as_slice.ensures.value at c.in_ok-found.ensures.answer)
          c.in_ok-found.ensures.last
          (rw c.as_slice-fields.ensures.value at c.in_ok-value.ensures)
          (rw c.as_slice.ensures.value at c.in_ok-found.ensures.offsets.entries)
          (rw (c.as_slice-fields.ensures.value, c.entries.ensures) at c.in_ok-entries.ensures)
          many (rw c.entries-2.ensures at c.in_ok-wanted.ensures)))
          (rw (c.as_slice-2.ensures.value, c.as_slice-3.ensures.value)
          at c.entries_alike.ensures.answer);
    }
