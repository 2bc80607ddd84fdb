use Rattle.exif_rename.proofs.Begun.{start_found, start_kept}
use Rattle.exif_rename.specs.Starts.{series_cmp}
use Rattle.exif_rename.specs.declared.starts.Series.{Series}
use Rattle.std.proofs.Common.{◌≡◌, Some, rules}
use Rattle.std.specs.BTreeMap.{get}
use Rattle.std.specs.BTreeSet.{contains_text}
use Rattle.std.specs.List.{slice_get}
use Rattle.std.specs.Option.{unwrap_or}
use Rattle.std.specs.String.{string_bytes}
use Rattle.exif_rename.proofs.starts.find_start.Goals as goal

pub returns-clause-start : goal.returns-clause-start
returns-clause-start g c =
    let series : Series = record { base = c.in_ok-clone.field-0; ending = c.in_ok-clone-2.field-0 } in
    let known : c.unwrap_or-known.result ≡ unwrap_or (get series_cmp c.args.starts.now series) 0 = search rules in
    let base : string_bytes series.base ≡ string_bytes c.args.request.now.base = search rules in
    let ending : string_bytes series.ending ≡ string_bytes c.in-Some.file.now.ending = search rules in
    let first : slice_get c.args.request.now.files.items 0 ≡ Some c.in-Some.file.now = search rules in
    start_found (g.F.FileSystem.states c.args.files.now) (contains_text c.args.given.now) c.args.starts.now series c.args.request.now c.in-Some.file.now c.unwrap_or-known.result c.in_ok-start.start
    known base ending first c.in_ok-start.ensures.below

pub returns-clause-kept : goal.returns-clause-kept
returns-clause-kept g c =
    let series : Series = record { base = c.in_ok-clone.field-0; ending = c.in_ok-clone-2.field-0 } in
    let known : c.unwrap_or-known.result ≡ unwrap_or (get series_cmp c.args.starts.now series) 0 = search rules in
    start_kept (g.F.FileSystem.states c.args.files.now) (contains_text c.args.given.now) c.args.starts.now c.insert.new.self series c.unwrap_or-known.result c.in_ok-start.start
    known c.in_ok-insert.ensures.updates c.in_ok-start.ensures.below
