use Rattle.std.proofs.Common.{◌≡◌, ◌++◌, ◌∷◌, [], ◌∙◌, ap, sym, List, ℕ, subst, take}
use Rattle.std.specs.Str.{IsCharBoundary}
use Rattle.exif_rename.specs.Nested.{folders_of, slash_after}
use Rattle.exif_rename.proofs.NestedSteps.{boundary, nested_above, nested_suffix}
use Rattle.exif_rename.proofs.nested.root_of.Goals as goal

pub split_at-requires : goal.split_at-requires
split_at-requires c =
    let P : List ℕ → Type 0 = λ bytes. IsCharBoundary bytes c.folders_end.result in
    subst P c.as_bytes.ensures.value (boundary c.as_bytes.result.now c.folders_end.result c.as_bytes.ensures.utf8 c.folders_end.ensures.within c.folders_end.ensures.slash)

pub returns-in_default-clause-nested : goal.returns-in_default-clause-nested
returns-in_default-clause-nested c = λ root nested.
    let sub = c.split_at.result.0.now in
    let same : folders_of c.args.name.now ≡ sub = sym (c.split_at.ensures.front ∙ ap (λ (n : ℕ). take n c.args.name.now) (c.folders_end.ensures.end ∙ ap (slash_after 0 0) c.as_bytes.ensures.value)) in
    absurd (c.in_default.ensures.cases (root ++ 47 ∷ []) (nested_suffix c.args.folder.now c.args.name.now sub root same nested))

pub returns-in_default-strip_suffix-clause-nested : goal.returns-in_default-strip_suffix-clause-nested
returns-in_default-strip_suffix-clause-nested c = λ root nested.
    let sub = c.split_at.result.0.now in
    let same : folders_of c.args.name.now ≡ sub = sym (c.split_at.ensures.front ∙ ap (λ (n : ℕ). take n c.args.name.now) (c.folders_end.ensures.end ∙ ap (slash_after 0 0) c.as_bytes.ensures.value)) in
    let at_end = c.in-Some.ensures.cases in
    let split : c.args.folder.now ≡ c.in-Some.above.now ++ sub = at_end.1.1 ∙ ap (λ (m : List ℕ). m ++ sub) (sym at_end.2) in
    absurd (c.in_default-strip_suffix.ensures.cases root (nested_above c.args.folder.now c.args.name.now sub c.in-Some.above.now root same split nested))
