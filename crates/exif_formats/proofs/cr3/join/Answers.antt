use Rattle.std.proofs.Common.{◌≡◌, ◌++◌, ◌∙◌, All, List, length, map, ap, sym, subst, arith}
use Rattle.std.proofs.lemmas.List.{length-map}
use Rattle.exif_types.specs.Sound.{IsRead}
use Rattle.exif_types.specs.declared.field.Field.{Field}
use Rattle.exif_formats.specs.Pictures.{field_in}
use Rattle.exif_formats.proofs.Joined.{both_read, joined_shown, written}
use Rattle.exif_formats.proofs.cr3.join.Goals as goal

pub returns-clause-joined : goal.returns-clause-joined
returns-clause-joined c =
    let first = c.args.first in
    let second = c.args.second in
    let f : Field → Field = field_in c.args.context in
    let put : c.put_all_in.new.fields ≡ map f second.fields.items = c.put_all_in.ensures ∙ ap (map f) c.as_mut_slice.ensures.value in
    let long : length c.put_all_in.new.fields ≡ length second.fields.items = ap length put ∙ length-map second.fields.items f in
    let n : second.fields.len ≡ length second.fields.items = omega (arith, ap length c.as_mut_slice.ensures.value, c.as_mut_slice.ensures.len) in
    let fields : c.append.new.self.items ≡ first.fields.items ++ map f second.fields.items =
    c.in_ok-append.ensures.items
    ∙ ap (λ xs. first.fields.items ++ xs) (written second.fields.len second.fields.items c.put_all_in.new.fields long n ∙ put) in
    let faults : c.append-2.new.self.items ≡ first.faults.items ++ second.faults.items = c.in_ok-append-2.ensures.items in
    rw (fields, faults) (joined_shown c.args.context first.fields.items second.fields.items first.faults.items second.faults.items)

pub returns-clause-read : goal.returns-clause-read
returns-clause-read c =
    let first = c.args.first in
    let second = c.args.second in
    let f : Field → Field = field_in c.args.context in
    let put : c.put_all_in.new.fields ≡ map f second.fields.items = c.put_all_in.ensures ∙ ap (map f) c.as_mut_slice.ensures.value in
    let long : length c.put_all_in.new.fields ≡ length second.fields.items = ap length put ∙ length-map second.fields.items f in
    let n : second.fields.len ≡ length second.fields.items = omega (arith, ap length c.as_mut_slice.ensures.value, c.as_mut_slice.ensures.len) in
    let fields : c.append.new.self.items ≡ first.fields.items ++ map f second.fields.items =
    c.in_ok-append.ensures.items
    ∙ ap (λ xs. first.fields.items ++ xs) (written second.fields.len second.fields.items c.put_all_in.new.fields long n ∙ put) in
    subst (λ (fs : List Field). All IsRead fs) (sym fields)
    (both_read c.args.context first.fields.items second.fields.items c.requires.first c.requires.second)
