use Rattle.exif_layout.proofs.Images.Laws.{rewrites_in_each_order, equal_by_contents, lengths_agree, orders_agree}
use Rattle.exif_layout.proofs.laws.writing.images_are_canonical.Goals as goal
use Rattle.exif_layout.proofs.Images.Rewritten.{rewrites_same}

pub returns-clause-rewriting : goal.returns-clause-rewriting
returns-clause-rewriting c = rewrites_same

pub returns-clause-each_order : goal.returns-clause-each_order
returns-clause-each_order c = rewrites_in_each_order

pub returns-clause-equality : goal.returns-clause-equality
returns-clause-equality c = equal_by_contents

pub returns-clause-lengths : goal.returns-clause-lengths
returns-clause-lengths c = lengths_agree

pub returns-clause-orders : goal.returns-clause-orders
returns-clause-orders c = orders_agree
