-- A page whose entries were added one after the other is that of the entries.
use Rattle.std.proofs.Common.{◌≡◌, ◌∙◌, refl, sym, ap, ℕ, List, [], ◌∷◌, ◌++◌, append_assoc, append-nil, Option, Some, None, Result, Ok, Err, is_ok, IfOk, OnOk, slice_get, ◌⊎◌, inl, inr}
use Rattle.std.specs.Borrow.{Bor}
use Rattle.exif_catalog_file.specs.Handing.{Steps}
use Rattle.exif_page.specs.Pages.{end_html, entries_html, entry_html, foot_html, head_html, page_html}
use Rattle.exif_page.specs.Sections.{closing, opening, section_of}
use Rattle.exif_page.specs.Thumbnails.{thumbnail_html, thumbnails_html}
use Rattle.exif_page.specs.declared.entries.Entry.{Entry}
use Rattle.exif_page.specs.declared.sections.Section.{Section}
use Rattle.exif_page.specs.declared.sections.Section.TheVariants.{Closed, Day, Undated}
use Rattle.exif_files.specs.declared.outcome.Status.TheVariants.{Incomplete, Success}
use Rattle.exif_gathering.specs.Pages.{AddsEntry, AddsPicture, IsWhole, last_as, section_as}
use Rattle.exif_gathering.specs.declared.page.Parts.{Parts}

-- the steps of what shows pictures are steps of its page
pub steps_of : {X Y A : Type 0} (view : X → Y) (Step : Y → A → Y → Type 0) (items : List A) (old new : X)
    → Steps (λ was item is. Step (view was) item (view is)) old items new → Steps Step (view old) items (view new)
steps_of view Step [] old new h = ap view h
steps_of view Step (item ∷ items) old new h = (view h.0, h.1, steps_of view Step items h.0 new h.2)

day_text : (x y : Bor (List ℕ)) → section_as (Day x) ≡ section_as (Day y) → x.now ≡ y.now
day_text x y h = cc

-- a section is as another of the same day
same_opening : (x y : Bor (List ℕ)) (next : Section) → x.now ≡ y.now → opening (Day x) next ≡ opening (Day y) next
unfolding opening closing
same_opening x y Closed e = refl
same_opening x y (Day day) e = rw e refl
same_opening x y Undated e = refl

same_entry : (a b : Section) (entry : Entry) → section_as a ≡ section_as b → entry_html a entry ≡ entry_html b entry
unfolding entry_html
same_entry Closed Closed entry h = refl
same_entry Undated Undated entry h = refl
same_entry (Day x) (Day y) entry h = rw (same_opening x y (section_of entry) (day_text x y h)) refl
same_entry Closed (Day y) entry h = absurd (cc)
same_entry Closed Undated entry h = absurd (cc)
same_entry (Day x) Closed entry h = absurd (cc)
same_entry (Day x) Undated entry h = absurd (cc)
same_entry Undated Closed entry h = absurd (cc)
same_entry Undated (Day y) entry h = absurd (cc)

same_foot : (a b : Section) → section_as a ≡ section_as b → foot_html a ≡ foot_html b
unfolding foot_html closing
same_foot Closed Closed h = refl
same_foot Undated Undated h = refl
same_foot (Day x) (Day y) h = refl
same_foot Closed (Day y) h = absurd (cc)
same_foot Closed Undated h = absurd (cc)
same_foot (Day x) Closed h = absurd (cc)
same_foot (Day x) Undated h = absurd (cc)
same_foot Undated Closed h = absurd (cc)
same_foot Undated (Day y) h = absurd (cc)

-- what was added to a page: these entries, and the data of their thumbnails
pub record HasAdded (old : Parts) (entries : List Entry) (new : Parts) : Type 0 where
  pub html : (a b : Section) → section_as a ≡ last_as old.section → section_as b ≡ last_as new.section
      → new.html.items ++ foot_html b ≡ old.html.items ++ entries_html a entries
  pub thumbnails : new.thumbnails.items ≡ old.thumbnails.items ++ thumbnails_html entries

no_entries : (old new : Parts) → new ≡ old → HasAdded old [] new
unfolding entries_html thumbnails_html
no_entries old new e = record {
  html = λ a b is_a is_b. rw e (ap (λ t. old.html.items ++ t) (same_foot b a (is_b ∙ ap (λ p. last_as p.section) e ∙ sym is_a)));
  thumbnails = ap (λ p. p.thumbnails.items) e ∙ sym (append-nil old.thumbnails.items);
}

more_entries : (old mid new : Parts) (row : List (Option (List ℕ))) (step : AddsPicture old row mid) (entries : List Entry)
    → HasAdded mid entries new → HasAdded old (step.entry ∷ entries) new
unfolding entries_html thumbnails_html
more_entries old mid new row step entries rest = record {
  html = λ a b is_a is_b.
      rest.html (section_of step.entry) b (sym step.added.section) is_b
      ∙ ap (λ t. t ++ entries_html (section_of step.entry) entries)
      (step.added.html ∙ ap (λ t. t ++ entry_html step.added.before step.entry) (ap (λ p. p.html.items) step.is_seen)
      ∙ ap (λ t. old.html.items ++ t) (same_entry step.added.before a step.entry
      (step.added.is_open ∙ ap (λ p. last_as p.section) step.is_seen ∙ sym is_a)))
      ∙ append_assoc old.html.items (entry_html a step.entry) (entries_html (section_of step.entry) entries);
  thumbnails =
      rest.thumbnails
      ∙ ap (λ t. t ++ thumbnails_html entries)
      (step.added.thumbnails ∙ ap (λ t. t ++ thumbnail_html step.entry.thumbnail) (ap (λ p. p.thumbnails.items) step.is_seen))
      ∙ append_assoc old.thumbnails.items (thumbnail_html step.entry.thumbnail) (thumbnails_html entries);
}

pub pages_of : (rows : List (List (Option (List ℕ)))) (old new : Parts) → Steps AddsPicture old rows new
    → (entries : List Entry) × HasAdded old entries new
pages_of [] old new h = ([], no_entries old new h)
pages_of (row ∷ rows) old new h =
    let rest = pages_of rows h.0 new h.2 in
    (h.1.entry ∷ rest.0, more_entries old h.0 new row h.1 rest.0 rest.1)

-- the whole page
pub whole_page : (title : List ℕ) (old new : Parts) (entries : List Entry) (page : List ℕ)
    → old.html.items ≡ head_html title → old.thumbnails.items ≡ [] → last_as old.section ≡ None → HasAdded old entries new
    → IsWhole new page → page ≡ page_html title entries
unfolding page_html
whole_page title old new entries page html empty section added whole =
    whole.2
    ∙ sym (append_assoc new.html.items (foot_html whole.0) (new.thumbnails.items ++ end_html))
    ∙ ap (λ t. t ++ (new.thumbnails.items ++ end_html)) (added.html Closed whole.0 (sym section) whole.1)
    ∙ ap (λ t. (old.html.items ++ entries_html Closed entries) ++ (t ++ end_html)) (added.thumbnails ∙ ap (λ t. t ++ thumbnails_html entries) empty)
    ∙ ap (λ t. (t ++ entries_html Closed entries) ++ (thumbnails_html entries ++ end_html)) html
    ∙ append_assoc (head_html title) (entries_html Closed entries) (thumbnails_html entries ++ end_html)

-- the picture of a row, once its file was looked at
pub adds_picture : {T E : Type 0} (r : Result T E) (old seen new : Parts) (row : List (Option (List ℕ))) (entry : Entry)
    → seen ≡ record old { worst = seen.worst } → (seen.worst ≡ old.worst) ⊎ (seen.worst ≡ Incomplete)
    → slice_get row 0 ≡ Some (Some entry.path.now) → OnOk r (AddsEntry seen entry new) → OnOk r (AddsPicture old row new)
adds_picture (Ok x) old seen new row entry is worst path added =
    record { entry = entry; path = path; seen = seen; is_seen = is; worst = worst; added = added }
adds_picture (Err e) old seen new row entry is worst path added = tt

-- the worst status of the pictures
worst_step : (old mid : Parts) (row : List (Option (List ℕ))) → AddsPicture old row mid
    → (old.worst ≡ Success) ⊎ (old.worst ≡ Incomplete) → (mid.worst ≡ Success) ⊎ (mid.worst ≡ Incomplete)
worst_step old mid row step was = elim step.worst [
  | inl same ↦ rw (step.added.worst ∙ same) was
  | inr bad ↦ inr (step.added.worst ∙ bad)
]

pub worst_of : (rows : List (List (Option (List ℕ)))) (old new : Parts) → Steps AddsPicture old rows new
    → (old.worst ≡ Success) ⊎ (old.worst ≡ Incomplete) → (new.worst ≡ Success) ⊎ (new.worst ≡ Incomplete)
worst_of [] old new h was = rw h was
worst_of (row ∷ rows) old new h was = worst_of rows h.0 new h.2 (worst_step old h.0 row h.1 was)

-- what holds of an answer whose error became another one
pub value_of : {T E D : Type 0} (r : Result T E) (s : Result T D) (x : T) (P : T → Type 0) → IfOk r P → is_ok s ≡ is_ok r → s ≡ Ok x
    → (y : T) × P y
value_of (Ok y) s x P h v e = (y, h)
value_of (Err f) (Ok y) x P h v e = absurd (cc)
value_of (Err f) (Err d) x P h v e = absurd (cc)
