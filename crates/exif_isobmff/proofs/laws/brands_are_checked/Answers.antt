use Rattle.exif_isobmff.proofs.LawsBrands.{brands_are_checked, is_a_brands}
use Rattle.exif_isobmff.proofs.laws.brands_are_checked.Goals as goal

pub returns-clause-checked : goal.returns-clause-checked
returns-clause-checked c = brands_are_checked

pub returns-clause-every : goal.returns-clause-every
returns-clause-every c = is_a_brands
