use Rattle.exif_data_locations.proofs.reason.ReasonDisplay.fmt.Goals as goal

pub returns-in-XmpNotRead-clause-writes : goal.returns-in-XmpNotRead-clause-writes
returns-in-XmpNotRead-clause-writes g c =
    rw c.in-XmpNotRead.is c.write-in-XmpNotRead.ensures.writes

pub returns-in-IptcNotRead-clause-writes : goal.returns-in-IptcNotRead-clause-writes
returns-in-IptcNotRead-clause-writes g c =
    rw c.in-IptcNotRead.is c.write-in-IptcNotRead.ensures.writes

pub returns-in-Texts-clause-writes : goal.returns-in-Texts-clause-writes
returns-in-Texts-clause-writes g c = rw c.in-Texts.is c.write-in-Texts.ensures.writes
