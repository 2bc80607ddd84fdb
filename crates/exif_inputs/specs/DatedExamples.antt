-- Worked examples of names that say a day, or none.
use Rattle.std.specs.Prelude.{◌≡◌, true, false, codes}
use Rattle.std.proofs.Common.{refl}
use Rattle.exif_inputs.specs.Dated.{names_day}

-- names of phones, cameras and programs
phone : names_day (codes "IMG_20240501_123000.jpg") ≡ true
phone = refl

sent : names_day (codes "IMG-20240229-WA0001.jpg") ≡ true
sent = refl

synced : names_day (codes "2024-05-01 12.30.00.jpg") ≡ true
synced = refl

joined : names_day (codes "20240501123000.png") ≡ true
joined = refl

-- a number of a camera, a day that no year has, and digits of a longer number
camera : names_day (codes "DSC_0042.NEF") ≡ false
camera = refl

no_day : names_day (codes "IMG_20230229.jpg") ≡ false
no_day = refl

longer : names_day (codes "a120240501.jpg") ≡ false
longer = refl

mixed : names_day (codes "2024-05_01.jpg") ≡ false
mixed = refl
