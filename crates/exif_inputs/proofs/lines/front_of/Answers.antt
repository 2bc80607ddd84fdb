use Rattle.std.proofs.Common.{◌≡◌, ◌+◌, ◌-◌, ◌++◌, [], ◌∷◌, arith, drop, length, string_bytes, take}
use Rattle.std.proofs.lemmas.Iterator.{YieldsList-from_chars}
use Rattle.std.proofs.lemmas.Iterator.Consumers.{YieldsList-end, YieldsList-turn}
use Rattle.std.proofs.lemmas.List.{length_push}
use Rattle.std.specs.Char.{encode_utf8}
use Rattle.std.specs.List.{flat_map}
use Rattle.std.specs.Str.{chars}
use Rattle.exif_inputs.specs.Lines.{added, front_of}
use Rattle.exif_inputs.proofs.LineLemmas.{no_more, one_taken}
use Rattle.exif_inputs.proofs.lines.front_of.Goals as goal

pub loop-c-preserved : goal.loop-c-preserved
loop-c-preserved c =
    let cs = chars c.args.value.now in
    let k = length c.loop-c.yielded in
    let t = YieldsList-turn (YieldsList-from_chars c.args.value.now c.utf8.value cc) c.loop-c.yielded _ c.loop-c.yielded_by _ _ c.in-Some.c c.in-Some.is c.next.ensures.steps in
    let n : length (c.loop-c.yielded ++ c.in-Some.c ∷ []) ≡ k + 1 = length_push c.loop-c.yielded c.in-Some.c in
    let step : (string_bytes c.loop-c.front ++ added c.loop-c.left c.in-Some.c) ++ flat_map encode_utf8 (take (c.loop-c.left - 1) (drop (k + 1) cs)) ≡ front_of c.args.value.now =
    one_taken (string_bytes c.loop-c.front) cs (front_of c.args.value.now) k c.loop-c.left c.in-Some.c t.0 t.1 c.loop-c.invariant in
    cc (n, c.in_ok-left.ensures.text, c.in_ok-left.ensures.left)

pub returns : goal.returns
returns c =
    let cs = chars c.args.value.now in
    let end = YieldsList-end (YieldsList-from_chars c.args.value.now c.utf8.value cc) c.loop-c.yielded _ c.loop-c.yielded_by _ _ c.in-None.is c.next.ensures.steps in
    no_more (string_bytes c.loop-c.front) cs (front_of c.args.value.now) (length c.loop-c.yielded) c.loop-c.left (omega (arith, end.1)) c.loop-c.invariant
