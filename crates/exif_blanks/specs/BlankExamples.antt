-- Worked examples: what becomes of bytes, by bytes written by hand.
use Rattle.std.specs.Prelude.{◌≡◌, refl, ℕ, List, [], ◌∷◌, ◌++◌, codes, replicate}
use Rattle.exif_inventory.specs.BoxHeaders.{box_header, head_of}
use Rattle.exif_inventory_heif.specs.Extents.{widths_of}
use Rattle.exif_inventory_heif.specs.Numbers.{number}
use Rattle.exif_blanks.specs.HeifBlanks.{blanked}
use Rattle.exif_blanks.specs.Steps.{bared_from}
use Rattle.exif_blanks.specs.declared.blank.Blank.TheVariants.{Fields, Packet, Zeros, Free, Described}

-- Exif data, with room for a directory without entries, and without
fields : blanked Fields (replicate 20 7)
    ≡ 0 ∷ 0 ∷ 0 ∷ 0 ∷ 0x4d ∷ 0x4d ∷ 0 ∷ 42 ∷ 0 ∷ 0 ∷ 0 ∷ 8 ∷ replicate 8 0
unfolding blanked
fields = refl

no_room : blanked Fields (replicate 17 7) ≡ replicate 17 0
unfolding blanked
no_room = refl

-- an XMP packet
packet : blanked Packet (replicate 40 7) ≡ codes "<x:xmpmeta xmlns:x='adobe:ns:meta/'/>   "
unfolding blanked
packet = refl

-- an item that is not known
zeros : blanked Zeros (1 ∷ 2 ∷ []) ≡ 0 ∷ 0 ∷ []
unfolding blanked
zeros = refl

-- a box with its size behind its name
large : blanked Free (0 ∷ 0 ∷ 0 ∷ 1 ∷ codes "udta" ++ 0 ∷ 0 ∷ 0 ∷ 0 ∷ 0 ∷ 0 ∷ 0 ∷ 18 ∷ 5 ∷ 6 ∷ [])
    ≡ 0 ∷ 0 ∷ 0 ∷ 1 ∷ codes "free" ++ 0 ∷ 0 ∷ 0 ∷ 0 ∷ 0 ∷ 0 ∷ 0 ∷ 18 ∷ 0 ∷ 0 ∷ []
unfolding blanked box_header
large = refl

-- properties: a size with a byte behind its fields, and a description; the entry of an item, with a
-- byte behind it
abbrev properties : ℕ → List ℕ → List ℕ
properties more text =
    0 ∷ 0 ∷ 0 ∷ 69 ∷ codes "iprp" ++ 0 ∷ 0 ∷ 0 ∷ 39 ∷ codes "ipco"
    ++ 0 ∷ 0 ∷ 0 ∷ 21 ∷ codes "ispe" ++ 0 ∷ 0 ∷ 0 ∷ 0 ∷ 0 ∷ 0 ∷ 0 ∷ 2 ∷ 0 ∷ 0 ∷ 0 ∷ 3 ∷ more
    ∷ 0 ∷ 0 ∷ 0 ∷ 10 ∷ codes "udes" ++ text
    ++ 0 ∷ 0 ∷ 0 ∷ 22 ∷ codes "ipma" ++ 0 ∷ 0 ∷ 0 ∷ 0 ∷ 0 ∷ 0 ∷ 0 ∷ 1 ∷ 0 ∷ 1 ∷ 2 ∷ 1 ∷ 2 ∷ more ∷ []

described_properties : blanked Described (properties 9 (5 ∷ 6 ∷ [])) ≡ properties 0 (0 ∷ 0 ∷ [])
unfolding blanked bared_from head_of box_header
described_properties = refl

-- the handler, with a name
abbrev handler : List ℕ → List ℕ
handler name =
    0 ∷ 0 ∷ 0 ∷ 35 ∷ codes "hdlr" ++ replicate 8 0 ++ codes "pict" ++ replicate 12 0 ++ name
    ++ 0 ∷ []

described_handler : blanked Described (handler (codes "Me")) ≡ handler (0 ∷ 0 ∷ [])
unfolding blanked bared_from head_of box_header
described_handler = refl

-- the list of items, of which one has a name
abbrev listed : List ℕ → List ℕ
listed name =
    0 ∷ 0 ∷ 0 ∷ 37 ∷ codes "iinf" ++ 0 ∷ 0 ∷ 0 ∷ 0 ∷ 0 ∷ 1 ∷ 0 ∷ 0 ∷ 0 ∷ 23 ∷ codes "infe"
    ++ 2 ∷ 0 ∷ 0 ∷ 0 ∷ 0 ∷ 1 ∷ 0 ∷ 0 ∷ codes "hvc1" ++ name ++ 0 ∷ []

described_items : blanked Described (listed (codes "Me")) ≡ listed (codes "  ")
unfolding blanked bared_from head_of box_header
described_items = refl

-- names that encoders give every file stay, and others that are longer do not
abbrev known_item : List ℕ
known_item =
    0 ∷ 0 ∷ 0 ∷ 40 ∷ codes "iinf" ++ 0 ∷ 0 ∷ 0 ∷ 0 ∷ 0 ∷ 1 ∷ 0 ∷ 0 ∷ 0 ∷ 26 ∷ codes "infe"
    ++ 2 ∷ 0 ∷ 0 ∷ 0 ∷ 0 ∷ 1 ∷ 0 ∷ 0 ∷ codes "av01Color\0"

described_color : blanked Described known_item ≡ known_item
unfolding blanked bared_from head_of box_header
described_color = refl

abbrev known_handler : List ℕ
known_handler =
    0 ∷ 0 ∷ 0 ∷ 47 ∷ codes "hdlr" ++ replicate 8 0 ++ codes "pict" ++ replicate 12 0
    ++ codes "PictureHandler\0"

described_picture : blanked Described known_handler ≡ known_handler
unfolding blanked bared_from head_of box_header
described_picture = refl

-- bits for each channel, with a byte behind them
abbrev channels : ℕ → List ℕ
channels more =
    0 ∷ 0 ∷ 0 ∷ 33 ∷ codes "iprp" ++ 0 ∷ 0 ∷ 0 ∷ 25 ∷ codes "ipco"
    ++ 0 ∷ 0 ∷ 0 ∷ 17 ∷ codes "pixi" ++ 0 ∷ 0 ∷ 0 ∷ 0 ∷ 3 ∷ 8 ∷ 8 ∷ 8 ∷ more ∷ []

described_channels : blanked Described (channels 9) ≡ channels 0
unfolding blanked bared_from head_of box_header
described_channels = refl

-- the number of the first picture, with a byte behind it
abbrev first : ℕ → List ℕ
first more = 0 ∷ 0 ∷ 0 ∷ 15 ∷ codes "pitm" ++ 0 ∷ 0 ∷ 0 ∷ 0 ∷ 0 ∷ 1 ∷ more ∷ []

described_first : blanked Described (first 9) ≡ first 0
unfolding blanked bared_from head_of box_header
described_first = refl

-- groups, of which one has a byte behind its fields, and one is not known
abbrev groups : ℕ → List ℕ → List ℕ
groups more content =
    0 ∷ 0 ∷ 0 ∷ 43 ∷ codes "grpl" ++ 0 ∷ 0 ∷ 0 ∷ 25 ∷ codes "altr" ++ 0 ∷ 0 ∷ 0 ∷ 0
    ∷ 0 ∷ 0 ∷ 0 ∷ 9 ∷ 0 ∷ 0 ∷ 0 ∷ 1 ∷ 0 ∷ 0 ∷ 0 ∷ 7 ∷ more ∷ 0 ∷ 0 ∷ 0 ∷ 10
    ∷ codes "abcd" ++ content

described_groups : blanked Described (groups 9 (5 ∷ 6 ∷ [])) ≡ groups 0 (0 ∷ 0 ∷ [])
unfolding blanked bared_from head_of box_header
described_groups = refl

-- the type of an auxiliary picture, with bytes behind it
abbrev auxiliary : List ℕ → List ℕ → List ℕ
auxiliary text more =
    0 ∷ 0 ∷ 0 ∷ 57 ∷ codes "iprp" ++ 0 ∷ 0 ∷ 0 ∷ 49 ∷ codes "ipco"
    ++ 0 ∷ 0 ∷ 0 ∷ 41 ∷ codes "auxC" ++ 0 ∷ 0 ∷ 0 ∷ 0 ∷ text ++ 0 ∷ more

described_auxiliary : blanked Described (auxiliary (codes "urn:mpeg:hevc:2015:auxid:1") (5 ∷ 6 ∷ []))
    ≡ auxiliary (codes "urn:mpeg:hevc:2015:auxid:1") (0 ∷ 0 ∷ [])
unfolding blanked bared_from head_of box_header
described_auxiliary = refl

-- one that is not known
described_unknown : blanked Described (auxiliary (codes "urn:mpeg:hevc:2015:auxid:x") (5 ∷ 6 ∷ []))
    ≡ auxiliary (replicate 26 0) (0 ∷ 0 ∷ [])
unfolding blanked bared_from head_of box_header
described_unknown = refl

-- the configuration of a decoder: parameters of a video, a message, and a byte behind them
abbrev configuration : List ℕ → ℕ → List ℕ
configuration message more =
    0 ∷ 0 ∷ 0 ∷ 66 ∷ codes "iprp" ++ 0 ∷ 0 ∷ 0 ∷ 58 ∷ codes "ipco"
    ++ 0 ∷ 0 ∷ 0 ∷ 50 ∷ codes "hvcC" ++ 1 ∷ replicate 21 0 ++ 2
    ∷ 0x20 ∷ 0 ∷ 1 ∷ 0 ∷ 3 ∷ 0x40 ∷ 1 ∷ 7
    ∷ 0x27 ∷ 0 ∷ 1 ∷ 0 ∷ 5 ∷ 0x4e ∷ 1 ∷ message ++ more ∷ []

described_configuration : blanked Described (configuration (5 ∷ 6 ∷ 7 ∷ []) 9)
    ≡ configuration (0 ∷ 0 ∷ 0 ∷ []) 0
unfolding blanked bared_from head_of box_header
described_configuration = refl

-- what items refer to, with a byte behind the fields, and bytes that are no box
abbrev references : ℕ → List ℕ → List ℕ
references more rest =
    0 ∷ 0 ∷ 0 ∷ 30 ∷ codes "iref" ++ 0 ∷ 0 ∷ 0 ∷ 0
    ∷ 0 ∷ 0 ∷ 0 ∷ 15 ∷ codes "thmb" ++ 0 ∷ 2 ∷ 0 ∷ 1 ∷ 0 ∷ 1 ∷ more ∷ rest

described_references : blanked Described (references 9 (4 ∷ 5 ∷ 6 ∷ [])) ≡ references 0 (0 ∷ 0 ∷ 0 ∷ [])
unfolding blanked bared_from head_of box_header
described_references = refl

-- where an item is, with a byte behind it
abbrev located : ℕ → List ℕ
located more =
    0 ∷ 0 ∷ 0 ∷ 31 ∷ codes "iloc" ++ 0 ∷ 0 ∷ 0 ∷ 0 ∷ 0x44 ∷ 0 ∷ 0 ∷ 1
    ∷ 0 ∷ 1 ∷ 0 ∷ 0 ∷ 0 ∷ 1 ∷ 0 ∷ 0 ∷ 0 ∷ 9 ∷ 0 ∷ 0 ∷ 0 ∷ 3 ∷ more ∷ []

described_located : blanked Described (located 9) ≡ located 0
unfolding blanked bared_from head_of box_header widths_of number
described_located = refl

-- an item with a content type, and a byte behind its encoding
abbrev typed : List ℕ → ℕ → List ℕ
typed name more =
    0 ∷ 0 ∷ 0 ∷ 43 ∷ codes "iinf" ++ 0 ∷ 0 ∷ 0 ∷ 0 ∷ 0 ∷ 1 ∷ 0 ∷ 0 ∷ 0 ∷ 29 ∷ codes "infe"
    ++ 2 ∷ 0 ∷ 0 ∷ 0 ∷ 0 ∷ 1 ∷ 0 ∷ 0 ∷ codes "mime" ++ name ++ 0 ∷ codes "a/b" ++ 0 ∷ 0 ∷ more ∷ []

described_typed : blanked Described (typed (codes "Me") 9) ≡ typed (codes "  ") 0
unfolding blanked bared_from head_of box_header
described_typed = refl

-- that of an AV1 decoder: the header of a sequence, and metadata
abbrev av1_configuration : List ℕ → List ℕ
av1_configuration metadata =
    0 ∷ 0 ∷ 0 ∷ 36 ∷ codes "iprp" ++ 0 ∷ 0 ∷ 0 ∷ 28 ∷ codes "ipco"
    ++ 0 ∷ 0 ∷ 0 ∷ 20 ∷ codes "av1C" ++ 0x81 ∷ 0 ∷ 12 ∷ 0
    ∷ 0x0a ∷ 1 ∷ 7 ∷ 0x2a ∷ 3 ∷ metadata

described_av1 : blanked Described (av1_configuration (4 ∷ 5 ∷ 6 ∷ []))
    ≡ av1_configuration (0 ∷ 0 ∷ 0 ∷ [])
unfolding blanked bared_from head_of box_header
described_av1 = refl
