use Rattle.std.proofs.Common.{rules, ◌≡◌, ◌<◌, ◌++◌, ◌∷◌, [], ◌∙◌, ap, length, map, arith, List, ℕ, Option, Some, None}
use Rattle.std.specs.BTreeMap.{get_by_text}
use Rattle.std.specs.Option.{option_or, unwrap_or}
use Rattle.std.specs.Prelude.{if◌then◌else◌}
use Rattle.std.specs.Str.{bytes_eq}
use Rattle.std.specs.String.{string_bytes}
use Rattle.std.proofs.lemmas.List.{length-map}
use Rattle.exif_rename.proofs.GroupSteps.{first_step, leaders_step}
use Rattle.exif_rename.proofs.Plans.{next_of}
use Rattle.exif_rename.proofs.grouping.leaders.Goals as goal

pub loop-index-preserved : goal.loop-index-preserved
loop-index-preserved c =
    let all = map string_bytes c.args.stems.now in
    let index = c.loop-index.index in
    let stem = c.index-stems-index.result in
    let within : index < length c.args.stems.now = omega arith in
    let lt : index < length all = omega (arith, within, length-map c.args.stems.now string_bytes) in
    let next = next_of string_bytes c.args.stems.now index stem within c.index-stems-index.is in
    let more : c.push.new.self.items ≡ c.loop-index.numbers.items ++ c.in_ok-leader.leader ∷ [] = search rules in
    record {
      first = λ q. c.in_ok-leader.ensures.more q ∙ ap (λ (t : List ℕ). option_or (get_by_text c.loop-index.first q) (if bytes_eq t q then Some index else None)) c.as_str.ensures.value ∙ ap (λ (o : Option ℕ). option_or o (if bytes_eq (string_bytes stem) q then Some index else None)) (c.loop-index.invariant.first q) ∙ first_step all (string_bytes stem) q index lt next.0;
      same = leaders_step all (string_bytes stem) index c.in_ok-leader.leader c.loop-index.numbers.items c.push.new.self.items (get_by_text c.loop-index.first (string_bytes stem)) lt next.1 more
          (c.loop-index.invariant.first (string_bytes stem)) (c.in_ok-leader.ensures.leader ∙ ap (λ (t : List ℕ). unwrap_or (get_by_text c.loop-index.first t) index) c.as_str.ensures.value) c.loop-index.invariant.same;
    }
