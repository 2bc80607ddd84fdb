use Rattle.exif_json.proofs.Determined.{bytes_determined, texts_determined, shorts_determined, longs_determined, rationals_determined, signed_bytes_determined, undefined_determined, signed_shorts_determined, signed_longs_determined, srationals_determined, floats_determined, doubles_determined}
use Rattle.exif_json.proofs.laws.json_determines_values.Goals as goal

pub returns-clause-bytes : goal.returns-clause-bytes
returns-clause-bytes c = bytes_determined

pub returns-clause-texts : goal.returns-clause-texts
returns-clause-texts c = texts_determined

pub returns-clause-shorts : goal.returns-clause-shorts
returns-clause-shorts c = shorts_determined

pub returns-clause-longs : goal.returns-clause-longs
returns-clause-longs c = longs_determined

pub returns-clause-fractions : goal.returns-clause-fractions
returns-clause-fractions c = rationals_determined

pub returns-clause-signed_bytes : goal.returns-clause-signed_bytes
returns-clause-signed_bytes c = signed_bytes_determined

pub returns-clause-any_bytes : goal.returns-clause-any_bytes
returns-clause-any_bytes c = (λ offset. undefined_determined offset offset)

pub returns-clause-signed_shorts : goal.returns-clause-signed_shorts
returns-clause-signed_shorts c = signed_shorts_determined

pub returns-clause-signed_longs : goal.returns-clause-signed_longs
returns-clause-signed_longs c = signed_longs_determined

pub returns-clause-signed_fractions : goal.returns-clause-signed_fractions
returns-clause-signed_fractions c = srationals_determined

pub returns-clause-floats : goal.returns-clause-floats
returns-clause-floats c = floats_determined

pub returns-clause-doubles : goal.returns-clause-doubles
returns-clause-doubles c = doubles_determined
