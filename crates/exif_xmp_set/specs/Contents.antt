-- What properties say, wherever a packet has them.
use Rattle.std.specs.Prelude.{ℕ, ◌&&◌, ◌||◌, nat_lt, Bool, true, false, not, if◌then◌else◌, List, [], ◌∷◌, ◌++◌, length, take, drop, map, Option, Some, None, Result, Ok, Err}
use Rattle.std.specs.Str.{bytes_eq}
use Rattle.exif_xmp.specs.declared.fault.Refusal.{Refusal}
use Rattle.exif_xmp.specs.declared.property.Form.{Form}
use Rattle.exif_xmp.specs.declared.property.Form.TheVariants.{Text, Unread}
use Rattle.exif_xmp.specs.Properties.{PropertyView}
use Rattle.exif_xmp_set.specs.Found.{is_named}

-- a property without its spans
pub record Content : Type 0 where
  pub namespace : List ℕ
  pub path : List ℕ
  pub text : List ℕ
  pub language : Option (List ℕ)
  pub form : Form

abbrev pub content_of : PropertyView → Content
content_of p = record {
  namespace = p.namespace;
  path = p.path;
  text = p.text;
  language = p.language;
  form = p.form;
}

-- a property, or the same with another text
abbrev pub with_text_if : Bool → List ℕ → PropertyView → PropertyView
with_text_if is_set text p = if is_set then record p { text = text } else p

-- properties, where the first one of a namespace and path has another text, unless it is behind
abbrev pub replaced_from : Bool → List ℕ → List ℕ → List ℕ → List PropertyView → List Content
replaced_from is_done namespace path text [] = []
replaced_from is_done namespace path text (p ∷ ps) =
    let is_set = not is_done && is_named p namespace path in
    content_of (with_text_if is_set text p)
    ∷ replaced_from (is_done || is_set) namespace path text ps

-- what a packet has, and what it has where a text is replaced
abbrev pub contents : Result (List PropertyView) Refusal → Result (List Content) Refusal
contents (Ok ps) = Ok (map content_of ps)
contents (Err r) = Err r

abbrev pub replaced : List ℕ → List ℕ → List ℕ → Result (List PropertyView) Refusal
    → Result (List Content) Refusal
replaced namespace path text (Ok ps) = Ok (replaced_from false namespace path text ps)
replaced namespace path text (Err r) = Err r

-- a property that is one more, without an offset
abbrev pub with_more : ℕ → Content → List PropertyView → List Content
with_more at given ps = map content_of (take at ps) ++ (given ∷ map content_of (drop at ps))

-- the same as tests
abbrev pub same_language : Option (List ℕ) → Option (List ℕ) → Bool
same_language None None = true
same_language None (Some b) = false
same_language (Some a) None = false
same_language (Some a) (Some b) = bytes_eq a b

abbrev pub same_form : Form → Form → Bool
same_form Text Text = true
same_form Text Unread = false
same_form Unread Text = false
same_form Unread Unread = true

abbrev pub same_content : PropertyView → PropertyView → Bool
same_content p q =
    (bytes_eq p.namespace q.namespace && bytes_eq p.path q.path) && bytes_eq p.text q.text
    && (same_language p.language q.language && same_form p.form q.form)

abbrev pub is_replaced : Bool → List ℕ → List ℕ → List ℕ → List PropertyView → List PropertyView
    → Bool
is_replaced is_done namespace path text [] [] = true
is_replaced is_done namespace path text [] (q ∷ qs) = false
is_replaced is_done namespace path text (p ∷ ps) [] = false
is_replaced is_done namespace path text (p ∷ ps) (q ∷ qs) =
    let is_set = not is_done && is_named p namespace path in
    if same_content (with_text_if is_set text p) q
    then is_replaced (is_done || is_set) namespace path text ps qs
    else false

-- properties say what others say
abbrev pub all_same : List PropertyView → List PropertyView → Bool
all_same old new = is_replaced true [] [] [] old new

-- a property says this
abbrev pub is_given : Content → PropertyView → Bool
is_given given q =
    (bytes_eq given.namespace q.namespace && bytes_eq given.path q.path)
    && bytes_eq given.text q.text
    && (same_language given.language q.language && same_form given.form q.form)

-- properties are one that says this, and others that say what others say
abbrev pub is_followed : Content → List PropertyView → List PropertyView → Bool
is_followed given old [] = false
is_followed given old (q ∷ qs) = if is_given given q then all_same old qs else false

-- properties say what others say, and one more in front of the one of an index
unfoldable pub is_inserted : ℕ → Content → List PropertyView → List PropertyView → Bool
is_inserted at given old new =
    if nat_lt (length old) at || nat_lt (length new) at then false else
    if all_same (take at old) (take at new) then is_followed given (drop at old) (drop at new)
    else false
