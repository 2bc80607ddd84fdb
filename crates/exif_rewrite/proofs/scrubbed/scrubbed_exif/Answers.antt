use Rattle.std.proofs.Common.{◌≡◌, ◌∙◌, ◌++◌, [], ap, sym}
use Rattle.std.proofs.lemmas.List.Elements.{All-filter}
use Rattle.exif_base.specs.Orders.{order_named}
use Rattle.exif_types.specs.Sound.{IsRead}
use Rattle.exif_layout.specs.Image.{image}
use Rattle.exif_layout.specs.Rewriting.{pushed_all}
use Rattle.exif_rewrite.specs.ScrubbedExif.{is_wanted, scrubbed_answer, wanted}
use Rattle.exif_rewrite.proofs.ScrubbedSteps.{fails_same, none_wanted, scrubbed_fails, scrubbed_reads, scrubbed_whole, some_wanted}
use Rattle.exif_rewrite.proofs.scrubbed.scrubbed_exif.Goals as goal

pub returns-then-not-some-clause-gives : goal.returns-then-not-some-clause-gives
returns-then-not-some-clause-gives c =
    let fields = c.args.exif.now.fields in
    rw (none_wanted (is_wanted c.args.keep.now) fields (sym c.in_ok-some.ensures.some ∙ c.if-not-some.true))

pub returns-in-Ok-clause-gives : goal.returns-in-Ok-clause-gives
returns-in-Ok-clause-gives c =
    let ws = wanted c.args.keep.now c.args.exif.now.fields in
    let order = order_named c.args.exif.now.little_endian in
    let groups : c.push_wanted.new.writer ≡ pushed_all ws [] = c.in_ok-some.ensures.pushed ∙ ap (pushed_all ws) c.new-writer.ensures in
    let items : c.into_inner.result.items ≡ image order c.push_wanted.new.writer =
    ap (λ v. v.items) c.into_inner.ensures ∙ (rw c.little_endian.ensures at c.in-Ok.ensures.sent)
    ∙ ap (λ t. t ++ image order c.push_wanted.new.writer) (ap (λ v. v.items) c.new-out.ensures.inner ∙ c.new.ensures.items) in
    scrubbed_whole order ws c.push_wanted.new.writer c.into_inner.result.items groups items c.in-Ok.ensures.accepted

pub returns-in-Ok-clause-read_back : goal.returns-in-Ok-clause-read_back
returns-in-Ok-clause-read_back c =
    let fields = c.args.exif.now.fields in
    let ws = wanted c.args.keep.now fields in
    let order = order_named c.args.exif.now.little_endian in
    let groups : c.push_wanted.new.writer ≡ pushed_all ws [] = c.in_ok-some.ensures.pushed ∙ ap (pushed_all ws) c.new-writer.ensures in
    let items : c.into_inner.result.items ≡ image order c.push_wanted.new.writer =
    ap (λ v. v.items) c.into_inner.ensures ∙ (rw c.little_endian.ensures at c.in-Ok.ensures.sent)
    ∙ ap (λ t. t ++ image order c.push_wanted.new.writer) (ap (λ v. v.items) c.new-out.ensures.inner ∙ c.new.ensures.items) in
    scrubbed_reads order ws c.push_wanted.new.writer c.into_inner.result.items groups items (All-filter (is_wanted c.args.keep.now) IsRead fields c.fields.ensures.read)
    (c.pushing_keeps.ensures.plain ws []) (c.pushing_keeps.ensures.few 8 ws []) (c.images_hold_what_was_pushed.ensures.alone ws) (c.images_hold_what_was_pushed.ensures.sorted ws)
    (rw c.little_endian.ensures at c.in-Ok.ensures.read_back)

pub returns-clause-gives : goal.returns-clause-gives
returns-clause-gives c =
    let fields = c.args.exif.now.fields in
    let ws = wanted c.args.keep.now fields in
    let order = order_named c.args.exif.now.little_endian in
    let groups : c.push_wanted.new.writer ≡ pushed_all ws [] = c.in_ok-some.ensures.pushed ∙ ap (pushed_all ws) c.new-writer.ensures in
    let fails = scrubbed_fails order ws c.push_wanted.new.writer c.in-Err.error groups (some_wanted (is_wanted c.args.keep.now) fields (sym c.in_ok-some.ensures.some ∙ c.if-not-some.false))
    c.in-Err.ensures.refused c.in-Err.ensures.interrupted in
    fails_same c.in-Err.error c.in_memory.result (scrubbed_answer order ws) c.in_memory.ensures.refusal c.in_memory.ensures.interrupted fails
