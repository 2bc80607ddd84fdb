use Rattle.std.proofs.Common.{◌≡◌, ◌+◌, ◌-◌, ◌∷◌, [], ◌++◌, Some, None, Ok, Err, drop, length, sym, ◌∙◌, ap}
use Rattle.exif_iptc.specs.Datasets.{next_at, placed, scan_by}
use Rattle.exif_iptc.proofs.Scans.{from_here, next_within, scan_ends, scan_goes_on, scan_over, scan_refused}
use Rattle.exif_iptc.proofs.dataset.scan.Goals as goal

pub returns-in-Ok-None : goal.returns-in-Ok-None
returns-in-Ok-None c =
    let e : next_at (drop c.loop.offset c.args.input.now) ≡ Ok None = from_here c.args.input.now c.loop.offset (Ok None) (sym c.next_header.ensures.value ∙ (c.in-Ok-None.is ∙ ap Ok c.in-Ok-None.field-0-is)) in
    scan_ends (length c.args.input.now) c.loop.counter c.loop.offset c.loop.found.items (drop c.loop.offset c.args.input.now) _ c.loop-test.true e c.loop.invariant.rest

pub returns-in-Err : goal.returns-in-Err
returns-in-Err c =
    let e : next_at (drop c.loop.offset c.args.input.now) ≡ Err c.in-Err.fault = from_here c.args.input.now c.loop.offset (Err c.in-Err.fault) (sym c.next_header.ensures.value ∙ c.in-Err.is) in
    scan_refused (length c.args.input.now) c.loop.counter c.loop.offset c.loop.found.items (drop c.loop.offset c.args.input.now) c.in-Err.fault _ c.loop-test.true e c.loop.invariant.rest

pub loop-preserved : goal.loop-preserved
loop-preserved c =
    let p = c.args.input.now in
    let i = c.loop.offset in
    let h = c.in-Ok-Some.header in
    let e : next_at (drop i p) ≡ Ok (Some h) = from_here p i (Ok (Some h)) (sym c.next_header.ensures.value ∙ (c.in-Ok-Some.is ∙ ap Ok c.in-Ok-Some.field-0-is)) in
    let items : c.push.new.self.items ≡ c.loop.found.items ++ placed i h ∷ [] = c.in_ok-push-in-Ok-Some.ensures.items ∙ ap (λ d. c.loop.found.items ++ d ∷ []) c.placed.ensures in
    let within = rw c.in-Ok-Some.field-0-is at c.in-Ok-Some.ensures.within in
    record {
      rest = ap (λ ds. scan_by (length p - (c.loop.counter + 1)) (i + h.len) ds (drop (i + h.len) p)) items
          ∙ scan_goes_on (length p) c.loop.counter i c.loop.found.items p h _ c.loop-test.true e c.loop.invariant.rest;
      within = next_within p i h c.loop.invariant.within within;
    }

pub returns : goal.returns
returns c = scan_over (length c.args.input.now) c.loop.counter c.loop.offset c.loop.found.items (drop c.loop.offset c.args.input.now) _ c.loop-test.false c.loop.invariant.rest
