use Rattle.std.proofs.Common.{refl, arith}
use Rattle.std.proofs.lemmas.Grind.{common_steps}
use Rattle.std.specs.Fmt.{decimal, signed_decimal}
use Rattle.exif_text.specs.Rational.{rational_text, srational_text}
use Rattle.exif_text.proofs.plain.write_plain.Goals as goal

pub returns-in-Byte : goal.returns-in-Byte
returns-in-Byte g c = rw c.in-Byte.is (c.write_list.ensures decimal (λ _. refl))

pub returns-in-Short : goal.returns-in-Short
returns-in-Short g c = rw c.in-Short.is (c.write_list-in-Short.ensures decimal (λ _. refl))

pub returns-in-Long : goal.returns-in-Long
returns-in-Long g c = rw c.in-Long.is (c.write_list-in-Long.ensures decimal (λ _. refl))

pub returns-in-Rational : goal.returns-in-Rational
returns-in-Rational g c = rw c.in-Rational.is (c.write_list-in-Rational.ensures rational_text (λ _. refl))

pub returns-in-SByte : goal.returns-in-SByte
returns-in-SByte g c = rw c.in-SByte.is (c.write_list-in-SByte.ensures signed_decimal (λ _. refl))

pub returns-in-SShort : goal.returns-in-SShort
returns-in-SShort g c = rw c.in-SShort.is (c.write_list-in-SShort.ensures signed_decimal (λ _. refl))

pub returns-in-SLong : goal.returns-in-SLong
returns-in-SLong g c = rw c.in-SLong.is (c.write_list-in-SLong.ensures signed_decimal (λ _. refl))

pub returns-in-SRational : goal.returns-in-SRational
returns-in-SRational g c = rw c.in-SRational.is (c.write_list-in-SRational.ensures srational_text (λ _. refl))

pub returns-in-Unknown : goal.returns-in-Unknown
returns-in-Unknown g c = rw c.in-Unknown.is (grind (arith, common_steps))
