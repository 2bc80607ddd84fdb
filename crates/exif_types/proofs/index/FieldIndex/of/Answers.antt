use Rattle.std.proofs.Common.{rules, ◌≡◌, ◌+◌, ◌∷◌, ◌<◌, ◌^◌, [], ◌++◌, take, length, refl, arith, sym, ap, ◌∙◌}
use Rattle.std.proofs.lemmas.List.{take_more, take_all, length-take-le}
use Rattle.std.proofs.lemmas.List.Elements.{All-push, All-weaker}
use Rattle.std.proofs.lemmas.List.Sorted.{IsNonDecreasingBy-from_sort}
use Rattle.exif_types.specs.declared.field.Field.{Field}
use Rattle.exif_types.specs.Sound.{IsRead}
use Rattle.exif_types.proofs.IndexLemmas.{entries_push}
use Rattle.exif_types.proofs.index.FieldIndex.of.Goals as goal

pub loop-position-preserved : goal.loop-position-preserved
loop-position-preserved c =
    let field : Field = c.index-fields-position.result in
    let before = take c.loop-position.position c.args.fields.now in
    let next : take (c.loop-position.position + 1) c.args.fields.now ≡ before ++ field ∷ [] =
    take_more c.args.fields.now c.loop-position.position field c.loop-position-test.true ∙ ap (λ x. before ++ x ∷ []) (sym c.index-fields-position.is) in
    let count : length before ≡ c.loop-position.position = length-take-le c.loop-position.position c.args.fields.now (omega arith) in
    let more = entries_push before field in
    rw next (record {
      entries = rw (c.in_ok-push.ensures.items, c.loop-position.invariant.entries, c.entry_of.ensures, c.key_of.ensures.value, more, count) refl;
      numbers = All-push (λ f. f.tag.1 < 2 ^ 16) before field c.loop-position.invariant.numbers c.key_of.ensures.number;
    })

pub returns : goal.returns
returns c =
    let all = take_all c.loop-position.position c.args.fields.now c.loop-position-test.false in
    record {
      entries = rw (c.loop-position.invariant.entries, all) at c.sort_unstable.ensures.permutation;
      ascending = IsNonDecreasingBy-from_sort (λ x. x) _ c.sort_unstable.ensures.sorted;
      directories = All-weaker IsRead (λ f. f.ifd_num.0 < 8) (λ f h. h.number) _ c.requires;
      numbers = rw all at c.loop-position.invariant.numbers;
      positions = search rules;
    }
