-- Worked examples.
use Rattle.std.specs.Prelude.{ℕ, ◌≡◌, refl, true, ◌∷◌, [], codes, Some, None, Ok, Err}
use Rattle.exif_xml.specs.declared.attribute.Attribute.{Attribute}
use Rattle.exif_xml.specs.declared.fault.Fault.TheVariants.{Doctype, InvalidReference, Malformed, Truncated, UndeclaredPrefix}
use Rattle.exif_xml.specs.declared.token.Kind.TheVariants.{Cdata, Start}
use Rattle.exif_xml.specs.Attributes.{attribute_at, attributes, next_at}
use Rattle.exif_xml.specs.Characters.{invalid_character}
use Rattle.exif_xml.specs.Names.{resolve}
use Rattle.exif_xml.specs.Prefixes.{core_prefix, usual_prefix}
use Rattle.exif_xml.specs.Refusals.{walk}
use Rattle.exif_xml.specs.Roots.{nested_at, nesting_of, root_fault}
use Rattle.exif_xml.specs.Texts.{chunk_at, reference_at, text_of}
use Rattle.exif_xml.specs.Tokens.{declaration_at, end_at, markup_at, start_at, token_at}

-- a `>` in quotes does not end a tag
start_tag : token_at (codes "<a b='>'/> ") ≡ Ok (record { kind = Start 1 true; len = 10 })
unfolding token_at markup_at start_at
start_tag = refl

-- a CDATA section ends at the first `]]>`
section : token_at (codes "<![CDATA[a]]]>b]]>") ≡ Ok (record { kind = Cdata; len = 14 })
unfolding token_at markup_at declaration_at
section = refl

doctype : token_at (codes "<!DOCTYPE a>") ≡ Err Doctype
unfolding token_at markup_at declaration_at
doctype = refl

no_end : token_at (codes "<!-- a -->") ≡ token_at (codes "<!-- b -->x")
unfolding token_at markup_at declaration_at
no_end = refl

cut_comment : token_at (codes "<!-- a --") ≡ Err Truncated
unfolding token_at markup_at declaration_at
cut_comment = refl

abbrev attribute : ℕ → ℕ → ℕ → ℕ → Attribute
attribute a b c d =
    record { name = record { start = a; end = b }; value = record { start = c; end = d } }

-- two attributes, of a tag that begins at offset 8
two_attributes : attributes 10 (codes " b = 'x' c=\"\"") ≡
    Ok (attribute 11 12 16 17 ∷ attribute 19 20 22 22 ∷ [])
unfolding attributes walk next_at attribute_at
two_attributes = refl

-- references, a CDATA section and a comment
text : text_of 0 (codes "a&lt;&#x41;<![CDATA[<&]]><!--c-->d") ≡ Ok (codes "a<A<&d")
unfolding text_of walk chunk_at reference_at token_at markup_at declaration_at
text = refl

-- U+20AC and U+1D11E in UTF-8 (RFC 3629, 7)
euro : text_of 0 (codes "&#8364;&#x1D11E;") ≡ Ok (226 ∷ 130 ∷ 172 ∷ 240 ∷ 157 ∷ 132 ∷ 158 ∷ [])
unfolding text_of walk chunk_at reference_at
euro = refl

-- a refusal and its offset
no_entity : text_of 100 (codes "ab&c;") ≡ Err (record { fault = InvalidReference; offset = 102 })
unfolding text_of walk chunk_at reference_at
no_entity = refl

no_prefix : resolve (codes "<a:b/>") [] (record { start = 1; end = 4 }) ≡ Err UndeclaredPrefix
unfolding resolve
no_prefix = refl

dublin_core : usual_prefix (codes "http://purl.org/dc/elements/1.1/") (codes "x") ≡ codes "dc"
unfolding core_prefix
dublin_core = refl

-- the examples of RFC 3629, 7: `A`, U+2262, U+0391 and `.`, and U+FEFF and U+233B4
latin_and_greek : invalid_character
    (65 ∷ 226 ∷ 137 ∷ 162 ∷ 206 ∷ 145 ∷ 46 ∷ []) ≡ None
latin_and_greek = refl

beyond_the_plane : invalid_character (239 ∷ 187 ∷ 191 ∷ 240 ∷ 163 ∷ 142 ∷ 180 ∷ []) ≡ None
beyond_the_plane = refl

-- `a`, and then NUL, a surrogate, `/` in two bytes, U+FFFF, a byte of Latin-1, a character that is
-- cut off
no_nul : invalid_character (97 ∷ 0 ∷ []) ≡ Some 1
no_nul = refl

no_surrogate : invalid_character (97 ∷ 237 ∷ 160 ∷ 128 ∷ []) ≡ Some 1
no_surrogate = refl

no_long_form : invalid_character (97 ∷ 192 ∷ 175 ∷ []) ≡ Some 1
no_long_form = refl

no_noncharacter : invalid_character (97 ∷ 239 ∷ 191 ∷ 191 ∷ []) ≡ Some 1
no_noncharacter = refl

no_latin : invalid_character (97 ∷ 228 ∷ 98 ∷ []) ≡ Some 1
no_latin = refl

no_half : invalid_character (97 ∷ 206 ∷ []) ≡ Some 1
no_half = refl

-- one root, none, a second one, and text outside it
one_root : root_fault (codes "<?x?><a>b<c/></a> <!--d-->") ≡ None
unfolding nesting_of nested_at walk token_at markup_at start_at end_at declaration_at
one_root = refl

no_root : root_fault (codes "<!--a-->") ≡ Some (record { fault = Truncated; offset = 8 })
unfolding nesting_of nested_at walk token_at markup_at start_at end_at declaration_at
no_root = refl

second_root : root_fault (codes "<a/> <b/>") ≡ Some (record { fault = Malformed; offset = 5 })
unfolding nesting_of nested_at walk token_at markup_at start_at end_at declaration_at
second_root = refl

text_outside : root_fault (codes "<a></a>b") ≡ Some (record { fault = Malformed; offset = 7 })
unfolding nesting_of nested_at walk token_at markup_at start_at end_at declaration_at
text_outside = refl
