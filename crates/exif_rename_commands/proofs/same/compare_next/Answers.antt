use Rattle.std.proofs.Common.{◌≡◌, length, rules}
use Rattle.exif_rename_commands.proofs.Comparing.{next_step}
use Rattle.exif_rename_commands.proofs.same.compare_next.Goals as goal

pub returns : goal.returns
returns g c = λ same.
    let left = c.read_front.new.buf in
    let right = c.read_front-2.new.buf in
    let one_length : length left ≡ length right = search rules in
    rw (c.known_by.ensures, c.front_of.ensures, c.front_of-2.ensures, c.is_last-is_last.ensures)
    (next_step (g.A.Source.left c.args.a.now) (g.B.Source.left c.args.b.now) (g.A.Source.left c.read_front.new.source)
    (g.B.Source.left c.read_front-2.new.source) left right c.in_ok-n.n c.in_ok-m.m one_length
    c.in_ok-n.ensures.bound c.in_ok-m.ensures.bound c.in_ok-n.ensures.taken c.in_ok-m.ensures.taken c.in_ok-n.ensures.end c.in_ok-m.ensures.end)
