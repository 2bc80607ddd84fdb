use Rattle.std.proofs.Common.{◌≡◌, ℕ, List, Bool, Option, ap, ◌∙◌}
use Rattle.std.specs.Option.{option_map}
use Rattle.exif_table.specs.declared.context.Context.TheVariants.{Tiff}
use Rattle.exif_types.specs.declared.field.Field.{Field}
use Rattle.exif_summary.specs.Choices.{AreFacts, fields_in, is_located, meets, takes, takes_fields, taken_in}
use Rattle.exif_summary.specs.Finding.{text_found}
use Rattle.exif_summary.specs.declared.choice.Choice.{Choice}
use Rattle.exif_summary.specs.declared.choice.Facts.{Facts}
use Rattle.exif_summary.proofs.choice.Choice.takes_picture.Goals as goal

-- the facts of fields meet what the fields meet
facts_meet : (choice : Choice) (fields : List Field) (f : Facts) → AreFacts fields f → takes choice f ≡ takes_fields choice fields
facts_meet choice fields f h =
    ap (λ (t : Option ℕ). meets choice t f.is_located (option_map (λ t. t.now) f.make) (option_map (λ t. t.now) f.model)) h.0
    ∙ ap (λ (b : Bool). meets choice (taken_in fields) b (option_map (λ t. t.now) f.make) (option_map (λ t. t.now) f.model)) h.1.0
    ∙ ap (λ (m : Option (List ℕ)). meets choice (taken_in fields) (is_located fields) m (option_map (λ t. t.now) f.model)) h.1.1.0
    ∙ ap (λ (m : Option (List ℕ)). meets choice (taken_in fields) (is_located fields) (text_found fields Tiff 271) m) h.1.1.1

pub returns : goal.returns
returns c = c.takes.ensures ∙ facts_meet c.args.self.now (fields_in c.args.exif) c.facts_of.result c.facts_of.ensures
