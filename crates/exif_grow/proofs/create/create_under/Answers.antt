use Rattle.std.proofs.Common.{sym}
use Rattle.exif_edit_base.specs.Readings.{read_of}
use Rattle.exif_grow.proofs.CreateSteps.{create_nowhere, create_there}
use Rattle.exif_grow.proofs.create.create_under.Goals as goal

pub returns-in-None : goal.returns-in-None
returns-in-None c = record {
  answer = create_nowhere c.args.bytes.now c.args.tag c.args.ifd_num c.args.value.now
      (read_of c.args.parsed) c.args.order c.args.parent c.requires.order
      (sym c.in-None.ensures.value);
}

pub returns-in-Some : goal.returns-in-Some
returns-in-Some c = record {
  answer = rw (create_there c.args.bytes.now c.args.tag c.args.ifd_num c.args.value.now
      (read_of c.args.parsed) c.args.order c.args.parent c.in-Some.directory c.requires.order
      (sym c.in-Some.ensures.value)) c.create_in.ensures.answer;
}
