-- Worked examples: text that is no value of a property.
use Rattle.std.specs.Prelude.{◌≡◌, refl, true, false, [], ◌∷◌, map, replicate, codes}
use Rattle.exif_locations.specs.Stray.{has_stray_text}

-- values of elements and of attributes, with white space between elements, as programs write them
values : map has_stray_text
    (codes "<?xpacket begin='' id='W5M0MpCehiHzreSzNTczkc9d'?>\n<x:xmpmeta xmlns:x='adobe:ns:meta/'>"
    ∷ codes "<dc:format>image/jpeg</dc:format>\n <dc:subject><rdf:Bag><rdf:li>a</rdf:li></rdf:Bag>"
    ∷ codes "<rdf:Description rdf:about='' xmp:Rating='4'/>\n</rdf:RDF>\n   <?xpacket end='w'?>\0\0"
    ∷ codes "<xmp:Label/>\t<xmp:Label>a > b</xmp:Label>" ∷ codes "" ∷ codes " \r\n" ∷ [])
    ≡ replicate 6 false
values = refl

-- text alone, in front of the first tag, behind the last one, behind an end tag, in front of a
-- start tag, behind an element without content, and behind an instruction
strays : map has_stray_text
    (codes "Basel" ∷ codes "Basel<a></a>" ∷ codes "<a></a>Basel" ∷ codes "<a><b></b>Basel</a>"
    ∷ codes "<a>Basel<b></b></a>" ∷ codes "<a><b/>Basel</a>" ∷ codes "<?a?>Basel</a>"
    ∷ codes "<a>Basel" ∷ codes "<a>Basel<" ∷ [])
    ≡ replicate 9 true
strays = refl
