-- What is read of a file that got new Exif data.
use Rattle.std.proofs.Common.{◌≡◌, ◌∙◌, ◌<◌, ℕ, Bool, true, All, Contains, List, [], Option, None, Result, Ok, ap, arith}
use Rattle.std.proofs.lemmas.List.Elements.{All-contains, All-contains_itself, All-weaker}
use Rattle.exif_base.specs.declared.endian.Order.{Order}
use Rattle.exif_base.specs.declared.endian.Order.TheVariants.{Big}
use Rattle.exif_types.specs.Refusals as types
use Rattle.exif_types.specs.Refusals.{Refusal}
use Rattle.exif_types.specs.Sound.{HasPlainTexts}
use Rattle.exif_types.specs.declared.field.Field.{Field}
use Rattle.exif_tiff.specs.Answers.{Answer, Whole, raw_answer}
use Rattle.exif_segments.specs.declared.remove.Remove.{Remove}
use Rattle.exif_containers.specs.Container.{container_answer}
use Rattle.exif_layout.specs.Groups.{Group}
use Rattle.exif_layout.specs.Pushing.{HasPushedAlone, HoldsInTagOrder, IsFieldRanged, IsMoved, PushesFew, PushesPlainTexts, PushesRanged}
use Rattle.exif_layout.specs.Ranged.{AreReadable}
use Rattle.exif_layout.specs.ReadBack.{ReadsBack}
use Rattle.exif_layout.specs.Rewriting.{pushed_all}
use Rattle.exif_rewrite.specs.FileLaws.{IsFound}
use Rattle.exif_grow.specs.FieldPromises.{is_set}
use Rattle.exif_change_laws.specs.Assigned.{HasValueOf, IsReadAs, SetAnew, all_new, data_of_new, written}
use Rattle.exif_change_laws.specs.Shifted.{all_read}
use Rattle.exif_change_laws.proofs.NewFields.{among, moved_named, moved_value, pushed_there}
use Rattle.exif_change_laws.proofs.NewFiles.{GetsNew, IsNewField, TypesLaw, new_file}

-- the laws that this rests on
pub record Laws : Type 0 where
  pub types : TypesLaw
  pub found : (remove : Remove) (put : Option (List ℕ)) (bytes : List ℕ) → IsFound remove put bytes
  pub ranged : (fields : List Field) (groups : List Group) → PushesRanged fields groups
  pub plain : (fields : List Field) (groups : List Group) → PushesPlainTexts fields groups
  pub few : (n : ℕ) (fields : List Field) (groups : List Group) → PushesFew n fields groups
  pub alone : (fields : List Field) → HasPushedAlone fields
  pub sorted : (fields : List Field) → HoldsInTagOrder fields
  pub back : (order : Order) (groups : List Group) → AreReadable groups → ReadsBack order groups

-- what is read
pub record IsReadNew (s : SetAnew) : Type 0 where
  pub answered : container_answer s.new ≡ Ok (data_of_new (all_new s))
  pub read : (lenient : Bool) → all_read lenient s.new ≡ Ok (Whole (written (all_new s)))
  pub values : All (IsReadAs (written (all_new s))) (all_new s)
  pub others : All (λ f. is_set (all_new s) f ≡ true) (written (all_new s))

module _ (laws : Laws) where
  -- fields of new data are read as they were
  readable : (fields : List Field) (new : List ℕ) → GetsNew fields new → AreReadable (pushed_all fields [])
  readable fields new g = record {
    ranged = laws.ranged fields [] (All-weaker IsNewField IsFieldRanged (λ f n. n.ranged) fields g.made) tt;
    plain = laws.plain fields [] (All-weaker IsNewField (λ f. HasPlainTexts f.value) (λ f n. n.plain) fields g.made) tt;
    few = laws.few 8 fields [] (All-weaker IsNewField (λ f. f.ifd_num.0 < 8) first fields g.made) (omega arith);
    written = g.data'.written;
  }
    where
      first : (f : Field) → IsNewField f → f.ifd_num.0 < 8
      first f n = let zero : f.ifd_num.0 ≡ 0 = ap (λ k. k.0) n.image in omega (arith, zero)

  -- each with its value
  values_read : (fields : List Field) (new : List ℕ) → GetsNew fields new
      → All (IsReadAs (written fields)) fields
  values_read fields new g =
      All-weaker (Contains fields) (IsReadAs (written fields)) each fields (All-contains_itself fields)
    where
      each : (f : Field) → Contains fields f → IsReadAs (written fields) f
      each f c =
          let a = among fields f c.0 c.1 c.2 in
          record {
            there = pushed_there fields f (laws.sorted fields) (All-contains IsNewField fields f g.made c).pushed a;
            values = All-weaker (IsMoved fields) (HasValueOf f) (λ h m. moved_value fields f g.distinct a h m)
                (written fields) (laws.alone fields);
          }

  pub new_laws : (s : SetAnew) → IsReadNew s
  new_laws s =
      let fields = all_new s in
      let g = new_file laws.types laws.found s.assignments s.field s.others s.file s.new s.what s.short
      s.still_short s.none s.fields s.made in
      record {
        answered = g.data'.read;
        read = λ lenient.
            ap (λ (r : Result (List ℕ) Refusal). types.◌>>=◌ r (λ bytes. let y : Result Answer Refusal = Ok (raw_answer lenient None bytes) in y)) g.data'.read
            ∙ ap (λ (a : Answer). let y : Result Answer Refusal = Ok a in y)
            (laws.back Big (pushed_all fields []) (readable fields s.new g) lenient);
        values = values_read fields s.new g;
        others = All-weaker (IsMoved fields) (λ f. is_set fields f ≡ true) (λ f m. moved_named fields f m)
            (written fields) (laws.alone fields);
      }
