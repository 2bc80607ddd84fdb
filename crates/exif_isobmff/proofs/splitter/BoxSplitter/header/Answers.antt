use Rattle.std.proofs.Common.{rules}
use Rattle.std.proofs.lemmas.List.{take_rest}
use Rattle.exif_isobmff.proofs.BoxHeaders.{is_read, is_refused}
use Rattle.exif_isobmff.proofs.splitter.BoxSplitter.header.Goals as goal

pub returns-then-size-header : goal.returns-then-size-header
returns-then-size-header c =
    is_refused c.args.self.now c.in-Some.header c.unwrap_or-size.result (search rules) (search rules) (search rules)

pub returns : goal.returns
returns c =
    is_read c.args.self.now c.in-Some.header c.unwrap_or-size.result c.of.result _ (search rules) (search rules) (search rules) (search rules)
    (search (rules, take_rest c.self.inside.rest.now c.in-Some.header.front))
