-- Sidecars that are added behind the files of a run.
use Rattle.std.proofs.Common.{◌≡◌, ◌∙◌, ℕ, List, [], ◌∷◌, ◌++◌, Bool, true, false, ap, map, refl, sym}
use Rattle.std.specs.Prelude.{◌&&◌, if◌then◌else◌, not}
use Rattle.std.specs.Str.{bytes_eq}
use Rattle.std.proofs.lemmas.Bool.{false_from_ne_true}
use Rattle.std.proofs.lemmas.List.{map-append}
use Rattle.std.proofs.lemmas.List.Elements.{All-push}
use Rattle.exif_rename.specs.Grouped.{Named}
use Rattle.exif_rename.specs.Unused.{given_after}
use Rattle.exif_rename_commands.specs.Entries.{entry_at}
use Rattle.exif_rename_commands.specs.Gathered.{AddsSidecars, if_there, with_sidecar}
use Rattle.exif_rename_commands.specs.declared.gathering.Member.{Member}

abbrev sidecar : List ℕ → Named
sidecar key = (key, true)

sidecar_by : (is_seen : List ℕ → Bool) (old new : List Member) (key : List ℕ) (is_new : Bool) → (is_new ≡ true → is_seen key ≡ false)
    → AddsSidecars is_seen [] old → map entry_at new ≡ (if is_new then map entry_at old ++ (sidecar key ∷ []) else map entry_at old)
    → AddsSidecars is_seen [] new
sidecar_by is_seen old new key true unseen before e = record {
  keys = before.keys ++ (key ∷ []);
  added = e ∙ ap (λ t. t ++ (sidecar key ∷ [])) before.added ∙ sym (map-append sidecar before.keys (key ∷ []));
  unseen = All-push (λ k. is_seen k ≡ false) before.keys key before.unseen (unseen refl);
}
sidecar_by is_seen old new key false unseen before e = record {
  keys = before.keys;
  added = e ∙ before.added;
  unseen = before.unseen;
}

is_new_of : (is_there seen_before seen_now : Bool) → (seen_before ≡ true → seen_now ≡ true) → is_there && not seen_now ≡ true → seen_before ≡ false
is_new_of true seen_before true kept e = false_from_ne_true seen_before (λ h. cc)
is_new_of true seen_before false kept e = false_from_ne_true seen_before (λ h. let now : false ≡ true = kept h in cc)
is_new_of false seen_before seen_now kept e = false_from_ne_true seen_before (λ h. cc)

-- one more that may be added
pub one_sidecar : (is_seen now : List ℕ → Bool) (old new : List Member) (is_there : Bool) (key : List ℕ)
    → ((q : List ℕ) → is_seen q ≡ true → now q ≡ true) → AddsSidecars is_seen [] old
    → map entry_at new ≡ with_sidecar now is_there key (map entry_at old) → AddsSidecars is_seen [] new
one_sidecar is_seen now old new is_there key kept before e =
    sidecar_by is_seen old new key (is_there && not (now key)) (is_new_of is_there (is_seen key) (now key) (kept key)) before e

in_either : (is_given was : Bool) → was ≡ true → (if is_given then true else was) ≡ true
in_either true was h = refl
in_either false was h = h

-- what was a file of the run is one then
pub seen_still : (is_seen now : List ℕ → Bool) (is_there : Bool) (key q : List ℕ) → (is_seen q ≡ true → now q ≡ true)
    → is_seen q ≡ true → given_after now (if_there is_there key) q ≡ true
seen_still is_seen now true key q kept h = in_either (bytes_eq key q) (now q) (kept h)
seen_still is_seen now false key q kept h = kept h

-- all of them behind the files
pub sidecars_behind : (is_seen : List ℕ → Bool) (old new found : List Member) → AddsSidecars is_seen [] found
    → map entry_at new ≡ map entry_at old ++ map entry_at found → AddsSidecars is_seen old new
sidecars_behind is_seen old new found before e = record {
  keys = before.keys;
  added = e ∙ ap (λ t. map entry_at old ++ t) before.added;
  unseen = before.unseen;
}
