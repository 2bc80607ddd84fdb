use Rattle.exif_change_laws.proofs.ApartFields.{erased_apart, erased_in_image, set_apart, set_in_image}
use Rattle.exif_change_laws.proofs.edits.what_is_looked_at_once_is_edited.Goals as goal

pub returns-clause-values : goal.returns-clause-values
returns-clause-values c = set_apart

pub returns-clause-offsets : goal.returns-clause-offsets
returns-clause-offsets c = erased_apart

pub returns-clause-values_in_images : goal.returns-clause-values_in_images
returns-clause-values_in_images c = set_in_image

pub returns-clause-offsets_in_images : goal.returns-clause-offsets_in_images
returns-clause-offsets_in_images c = erased_in_image
