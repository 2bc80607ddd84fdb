-- What a flash did, bit by bit (Exif 2.32, section 4.6.5, Flash).
use Rattle.std.specs.Prelude.{ℕ, ◌/◌, ◌%◌, ◌==◌, if◌then◌else◌, List, [], ◌++◌, codes, Option, Some, None}
use Rattle.exif_text.specs.Contents.{Plain}
use Rattle.exif_text.specs.Plain.{plain_text}
use Rattle.exif_text.specs.Unsigned.{number_at}

-- one of four texts, by a number of two bits
abbrev choose : ℕ → List ℕ → List ℕ → List ℕ → List ℕ → List ℕ
choose n a b c d = if n == 0 then a else (if n == 1 then b else (if n == 2 then c else d))

-- the text where the bits are not all 0
abbrev pub only_if : ℕ → List ℕ → List ℕ
only_if bits text = if bits == 0 then [] else text

-- bits 1 and 2
abbrev pub flash_return : ℕ → List ℕ
flash_return n =
    choose n (codes ", no return light detection function")
    (codes ", return light status 1 (reserved)")
    (codes ", return light not detected") (codes ", return light detected")

-- bits 3 and 4
abbrev pub flash_mode : ℕ → List ℕ
flash_mode n = choose n (codes ", auto mode 0 (unknown)") (codes ", forced") (codes ", suppressed")
    (codes ", auto")

-- what all bits say
unfoldable pub flash_bits : ℕ → List ℕ
flash_bits n =
    (if n % 2 == 0 then codes "not fired" else codes "fired")
    ++ (flash_return (n / 2 % 4)
    ++ (flash_mode (n / 8 % 4)
    ++ (only_if (n / 32 % 2) (codes ", no function present")
    ++ (only_if (n / 64 % 2) (codes ", red-eye reduction")
    ++ only_if (n / 128) (codes ", unknown MSB bits")))))

-- the text of the bits, if there are bits
abbrev pub flash_of : Option ℕ → List ℕ → List ℕ
flash_of None otherwise = otherwise
flash_of (Some bits) otherwise = flash_bits bits

-- the text of a value whose first number has the bits
abbrev pub flash_text : Plain → List ℕ
flash_text v = flash_of (number_at v 0) (plain_text v)
