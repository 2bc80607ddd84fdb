use Rattle.exif_rename.proofs.Named.{named_all, named_lacks, named_next, with_text_none}
use Rattle.std.proofs.Common.{◌≡◌, ◌∙◌, ◌<◌, ◌≤◌, ◌++◌, ap, sym, length, arith, rules}
use Rattle.std.specs.String.{string_bytes}
use Rattle.exif_rename.specs.Naming.{known_of, named, with_text}
use Rattle.exif_rename.specs.Views.{ok_as}
use Rattle.exif_rename.proofs.pattern.Pattern.name.Goals as goal

pub loop-part-init : goal.loop-part-init
loop-part-init c = record {
  all = c.deref-part-items.ensures.value;
  so_far = with_text_none (named c.deref-part-items.result.now (known_of c.args.facts.now))
      ∙ ap (λ front. with_text front (named c.deref-part-items.result.now (known_of c.args.facts.now))) (sym c.new-name.ensures.bytes);
}

pub returns-in-Err : goal.returns-in-Err
returns-in-Err c =
    let within : c.loop-part.part-index < length c.deref-part-items.result.now = omega arith in
    named_lacks c.deref-part-items.result.now c.loop-part.part-index _ (known_of c.args.facts.now) (string_bytes c.loop-part.name) c.in-Err.missing within
    (sym (ap (ok_as string_bytes) c.in-Err.is) ∙ c.in_ok-text.ensures) c.loop-part.invariant.so_far
    ∙ ap (λ ps. named ps (known_of c.args.facts.now)) c.loop-part.invariant.all

pub loop-part-preserved : goal.loop-part-preserved
loop-part-preserved c =
    let within : c.loop-part.part-index < length c.deref-part-items.result.now = omega arith in
    let grown : string_bytes c.push_str.new.self ≡ string_bytes c.loop-part.name ++ string_bytes c.in-Ok.text = search rules in
    record {
      all = c.loop-part.invariant.all;
      so_far = named_next c.deref-part-items.result.now c.loop-part.part-index _ (known_of c.args.facts.now) (string_bytes c.loop-part.name) (string_bytes c.push_str.new.self) (string_bytes c.in-Ok.text)
          within (sym (ap (ok_as string_bytes) c.in-Ok.is) ∙ c.in_ok-text.ensures) grown c.loop-part.invariant.so_far;
    }

pub returns : goal.returns
returns c =
    let all : length c.deref-part-items.result.now ≤ c.loop-part.part-index = omega arith in
    named_all c.deref-part-items.result.now c.loop-part.part-index (known_of c.args.facts.now) (string_bytes c.loop-part.name) all c.loop-part.invariant.so_far
    ∙ ap (λ ps. named ps (known_of c.args.facts.now)) c.loop-part.invariant.all
