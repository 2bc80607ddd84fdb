use Rattle.std.proofs.Common.{◌∙◌, sym}
use Rattle.exif_rename.proofs.Copying.{run_alike, stay_call, stay_then}
use Rattle.exif_rename.specs.declared.moving.Attributes.TheVariants.{Kept, Lost}
use Rattle.exif_rename.proofs.moving.copy_attributes.Goals as goal

pub returns-then-times-clause-alike : goal.returns-then-times-clause-alike
returns-then-times-clause-alike g c =
    run_alike c.copy_owner.result c.copy_mode.result c.copy_times.result c.args.from.now c.args.to.now _ _ _ _ _ _ _ _ Kept
    (λ kept. (sym c.is_ok-owner.ensures.value ∙ c.if-owner.true, sym c.is_ok-mode.ensures.value ∙ c.if-mode.true, sym c.is_ok-times.ensures.value ∙ c.if-times.true))
    c.copy_owner.ensures.does c.copy_mode.ensures.does c.copy_times.ensures.does

pub returns-else-owner-clause-alike : goal.returns-else-owner-clause-alike
returns-else-owner-clause-alike g c =
    run_alike c.copy_owner.result c.copy_mode.result c.copy_times.result c.args.from.now c.args.to.now _ _ _ _ _ _ _ _ Lost
    (λ kept. cc) c.copy_owner.ensures.does c.copy_mode.ensures.does c.copy_times.ensures.does

pub returns-then-times-clause-count : goal.returns-then-times-clause-count
returns-then-times-clause-count g c =
    stay_then _ _ _ (stay_call c.copy_owner.result _ _ c.copy_owner.ensures.does.count)
    (stay_then _ _ _ (stay_call c.copy_mode.result _ _ c.copy_mode.ensures.does.count) (stay_call c.copy_times.result _ _ c.copy_times.ensures.does.count))

pub returns-else-owner-clause-count : goal.returns-else-owner-clause-count
returns-else-owner-clause-count g c =
    stay_then _ _ _ (stay_call c.copy_owner.result _ _ c.copy_owner.ensures.does.count)
    (stay_then _ _ _ (stay_call c.copy_mode.result _ _ c.copy_mode.ensures.does.count) (stay_call c.copy_times.result _ _ c.copy_times.ensures.does.count))
