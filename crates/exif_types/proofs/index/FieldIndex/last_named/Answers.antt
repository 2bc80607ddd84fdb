use Rattle.std.proofs.Common.{◌≡◌, ◌+◌, ◌<◌, ◌∙◌, sym, arith}
use Rattle.std.specs.Prelude.{slice_get}
use Rattle.std.specs.Option.{option_copied}
use Rattle.std.proofs.Math.Nat.{lt_of_not-le}
use Rattle.exif_types.specs.Located.{entry_of, key_of}
use Rattle.exif_types.proofs.IndexLemmas.{searched, none_behind, none_ends, none_reaches, last_found, got_is}
use Rattle.exif_types.proofs.index.FieldIndex.last_named.Goals as goal

pub returns-then-ifd_num-ge8 : goal.returns-then-ifd_num-ge8
returns-then-ifd_num-ge8 c =
    sym (none_behind c.args.self.now c.args.fields.now c.args.tag c.args.ifd_num c.requires c.if-ifd_num-ge8.true)

pub returns-in_err-last : goal.returns-in_err-last
returns-in_err-last c =
    let key = c.key_of-key.ensures in
    let count = c.count_up_to.ensures in
    let s = searched c.args.self.now c.args.fields.now c.args.tag c.args.ifd_num _ _ c.requires key.value key.number count.within count.parted in
    rw c.from_residual.ensures (sym (none_ends c.args.self.now c.args.fields.now c.args.tag c.args.ifd_num _ s (lt_of_not-le c.in_err-last.ensures)))

pub returns-in_err-position : goal.returns-in_err-position
returns-in_err-position c =
    let key = c.key_of-key.ensures in
    let count = c.count_up_to.ensures in
    let s = searched c.args.self.now c.args.fields.now c.args.tag c.args.ifd_num _ _ c.requires key.value key.number count.within count.parted in
    let is = rw (c.deref.ensures.value, c.in_ok-last.ensures.1) at (sym c.in_ok-entry.ensures.lookup.1) in
    let low = rw (c.entry_of.ensures, c.key_of-key.ensures.value) at (lt_of_not-le c.in_err-position.ensures) in
    rw c.from_residual-in_err-position.ensures (sym (none_reaches c.args.self.now c.args.fields.now c.args.tag c.args.ifd_num _ _ s is low))

pub returns : goal.returns
returns c =
    let key = c.key_of-key.ensures in
    let count = c.count_up_to.ensures in
    let s = searched c.args.self.now c.args.fields.now c.args.tag c.args.ifd_num _ _ c.requires key.value key.number count.within count.parted in
    let is = rw (c.deref.ensures.value, c.in_ok-last.ensures.1) at (sym c.in_ok-entry.ensures.lookup.1) in
    let some : 0 < c.count_up_to.result = omega (arith, c.in_ok-last.ensures.0) in
    let least = entry_of (key_of c.args.tag c.args.ifd_num) 0 in
    let low = rw (c.entry_of.ensures, c.key_of-key.ensures.value) at c.in_ok-position.ensures in
    let sum : c.in_ok-entry.entry.now ≡ least + c.in_ok-position.position = omega (arith, low.0, low.1) in
    let got : option_copied c.get-2.result ≡ slice_get c.args.fields.now c.in_ok-position.position = got_is _ _ _ c.get-2.ensures.lookup.3 in
    got ∙ sym (last_found c.args.self.now c.args.fields.now c.args.tag c.args.ifd_num _ _ _ s is some sum)
