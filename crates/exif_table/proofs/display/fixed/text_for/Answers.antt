use Rattle.std.proofs.Common.{◌≡◌, sym, ap, ◌∙◌, List, ℕ, Bor, ◌==◌, map, refl}
use Rattle.std.specs.Option.{option_map}
use Rattle.std.specs.List.{find}
use Rattle.exif_table.proofs.LookupLemmas.{find-map}
use Rattle.exif_table.proofs.display.fixed.text_for.Goals as goal

-- an entry without its reference
abbrev entry_view : ℕ × Bor (List ℕ) → ℕ × List ℕ
entry_view p = (p.0, p.1.now)

abbrev text_of : ℕ × List ℕ → List ℕ
text_of p = p.1

-- a search among the entries is a search among what they say
found_same : (n : ℕ) (xs : List (ℕ × Bor (List ℕ)))
    → option_map text_of (option_map entry_view (find (λ p. p.0 == n) xs)) ≡ option_map text_of (find (λ p. p.0 == n) (map entry_view xs))
found_same n xs = ap (option_map text_of) (sym (find-map entry_view (λ p. p.0) (λ p. p.0) (λ _. refl) n xs))

pub returns-in-Some : goal.returns-in-Some
returns-in-Some c = ap (λ o. option_map text_of (option_map entry_view o)) c.in-Some.ensures ∙ found_same c.args.key c.args.texts.now.texts.now

pub returns-in-None : goal.returns-in-None
returns-in-None c = ap (λ o. option_map text_of (option_map entry_view o)) c.in-None.ensures ∙ found_same c.args.key c.args.texts.now.texts.now
