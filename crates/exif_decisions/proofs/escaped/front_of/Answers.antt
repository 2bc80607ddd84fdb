use Rattle.std.proofs.Common.{◌≡◌, ◌∙◌, arith, length, sym}
use Rattle.std.proofs.lemmas.List.{drop_all, take_all}
use Rattle.std.proofs.lemmas.Str.{utf8_valid_len-IsUtf8}
use Rattle.std.specs.Str.Lossy.{utf8_valid_len}
use Rattle.exif_decisions.proofs.escaped.front_of.Goals as goal

pub returns-in-Ok-clause-front : goal.returns-in-Ok-clause-front
returns-in-Ok-clause-front c =
    let bytes = c.args.bytes.now in
    let all : utf8_valid_len bytes ≡ length bytes = utf8_valid_len-IsUtf8 bytes c.in-Ok.ensures.cases.1 in
    c.in-Ok.ensures.cases.0 ∙ sym (take_all (utf8_valid_len bytes) bytes (omega arith))

pub returns-in-Ok-clause-behind : goal.returns-in-Ok-clause-behind
returns-in-Ok-clause-behind c =
    let bytes = c.args.bytes.now in
    let all : utf8_valid_len bytes ≡ length bytes = utf8_valid_len-IsUtf8 bytes c.in-Ok.ensures.cases.1 in
    sym (drop_all (utf8_valid_len bytes) bytes (omega arith))
