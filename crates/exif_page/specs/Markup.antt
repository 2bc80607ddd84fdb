-- The fixed parts of a page. No standard gives the rules of its style and the lines of its script:
-- they are those of the program, and a law says that they are inert.
use Rattle.std.specs.Prelude.{ℕ, List, [], ◌∷◌, ◌++◌, Bool, ◌||◌, not, nat_eq, codes}
use Rattle.std.specs.List.{list_any, starts_with}
use Rattle.exif_page.specs.declared.markup.TheConstants.{SCRIPT, STYLE}

-- the element that lets a browser load nothing but what is in the page, as data URLs and inline
-- (Content Security Policy Level 3, section 3.3)
unfoldable pub policy : List ℕ
policy =
    codes "<meta http-equiv=\"Content-Security-Policy\" content=\"default-src 'none';\n"
    ++ (codes " img-src data:; style-src 'unsafe-inline'; script-src 'unsafe-inline';\n"
    ++ codes " base-uri 'none'; form-action 'none'\">\n")

-- before the policy: nothing there is loaded
unfoldable pub preamble : List ℕ
preamble =
    codes "<!DOCTYPE html>\n<html lang=\"en\">\n<head>\n<meta charset=\"utf-8\">\n"
    ++ codes "<meta name=\"viewport\" content=\"width=device-width, initial-scale=1\">\n"

-- before the title
unfoldable pub beginning : List ℕ
beginning = preamble ++ policy

-- the style, and the beginning of the body
unfoldable pub style : List ℕ
style = codes "<style>\n" ++ (STYLE.now ++ codes "</style>\n</head>\n<body>\n<header>\n")

-- the filters, which are hidden until the script shows them, and the beginning of the sections
unfoldable pub filters : List ℕ
filters =
    codes "<form hidden>\n"
    ++ (codes "<label>Camera or path <input type=\"search\" name=\"text\""
    ++ (codes " autocomplete=\"off\"></label>\n"
    ++ (codes "<label>From <input type=\"date\" name=\"from\"></label>\n"
    ++ (codes "<label>To <input type=\"date\" name=\"to\"></label>\n"
    ++ (codes "<label><input type=\"checkbox\" name=\"located\"> With location</label>\n"
    ++ (codes "<label><input type=\"checkbox\" name=\"undated\"> Without date</label>\n"
    ++ (codes "<button type=\"reset\">Reset</button>\n<output></output>\n</form>\n"
    ++ codes "<noscript>Thumbnails need the script of this page.</noscript>\n</header>\n<main>\n"
    )))))))

-- the script, and the beginning of what holds the data of the thumbnails, which is never shown
unfoldable pub script : List ℕ
script = codes "</main>\n<script>\n" ++ (SCRIPT.now ++ codes "</script>\n<div hidden>\n")

-- the end of the page
unfoldable pub ending : List ℕ
ending = codes "</div>\n</body>\n</html>\n"

-- a word is in a text
abbrev pub has : List ℕ → List ℕ → Bool
has [] word = starts_with nat_eq [] word
has (byte ∷ text) word = starts_with nat_eq (byte ∷ text) word || has text word

-- what would end the element or begin a comment, load something, or make markup or code of a text
abbrev pub active : List (List ℕ)
active =
    codes "</" ∷ codes "<!--" ∷ codes "://" ∷ codes "url(" ∷ codes "@import" ∷ codes "import("
    ∷ codes "fetch(" ∷ codes "XMLHttpRequest" ∷ codes "HTML" ∷ codes "document.write"
    ∷ codes "eval(" ∷ codes "Function(" ∷ []

-- a text has nothing of that
abbrev pub is_inert : List ℕ → Bool
is_inert text = not (list_any (has text) active)
