-- The laws, from the words of the proofs to those of the definitions.
use Rattle.std.proofs.Common.{◌≡◌, ◌∙◌, List, [], ◌∷◌, true, false, None, map, sym, ap, arith}
use Rattle.std.proofs.lemmas.List.Elements.{recursion_from_All, All-from_recursion}
use Rattle.exif_base.specs.declared.endian.Order.{Order}
use Rattle.exif_base.specs.declared.endian.Order.TheVariants.{Big, Little}
use Rattle.exif_base.specs.Orders.{number_of}
use Rattle.exif_types.specs.declared.field.Field.{Field}
use Rattle.exif_tiff.specs.declared.fault.Fault.TheVariants.{TooManyDirectories}
use Rattle.exif_tiff.specs.Trace.{ordered_trace}
use Rattle.exif_tiff.specs.Answers.{Whole}
use Rattle.exif_tiff.proofs.Fronts.{shown_by}
use Rattle.exif_layout.specs.Groups.{Group}
use Rattle.exif_layout.specs.Slots.{draft_of}
use Rattle.exif_layout.specs.Image.{parts, image}
use Rattle.exif_layout.specs.Flat.{flat}
use Rattle.exif_layout.specs.Refused.{write_fault}
use Rattle.exif_layout.specs.Ranged.{AreRanged, HavePlainTexts, AreReadable}
use Rattle.exif_layout.specs.Layout.{Stands, IsOutside, LaidOut, LengthIsEnd}
use Rattle.exif_layout.specs.ReadBack.{ReadsBack, ReadsFirstEight, first_eight}
use Rattle.exif_layout.specs.Rewriting.{RewritesInEachOrder, pushed_all, all_blocks_set, EqualByContents, LengthsAgree, OrdersAgree}
use Rattle.exif_layout.proofs.Images.Whole.{not_refused, length-image, parts_span, parts_stand, pads_zero}
use Rattle.exif_layout.proofs.Images.ReadBack.{Leaves, image_answer, image_leaves, read_back, faults_more}
use Rattle.exif_layout.proofs.Images.Rewritten.{rewrites_same}
use Rattle.exif_layout.proofs.Images.Contents.{same_images, reads_front}

-- the parts of an image that is written are side by side, at most one zero byte between two
pub laid_out : (order : Order) (groups : List Group) → write_fault groups ≡ None → LaidOut order groups
laid_out order groups h =
    let each = (not_refused groups h).each in
    record {
      span = rw (length-image order groups each) (parts_span order groups each);
      stand = All-from_recursion (λ part. Stands (image order groups) part.offset part.text) (parts order (map draft_of groups)) (parts_stand order groups each);
      pads = λ offset within outside. pads_zero order groups each offset (recursion_from_All (IsOutside offset) (parts order (map draft_of groups)) outside);
    }

-- an image that is written ends where its last draft does, below 2^32 bytes
pub length_is_end : (order : Order) (groups : List Group) → write_fault groups ≡ None → LengthIsEnd order groups
length_is_end order groups h =
    let accepted = not_refused groups h in
    let small = accepted.small in
    let end = length-image order groups accepted.each in
    record { end = end; small = omega arith }

-- readable groups are read back from their image whole, as their flat fields, in both modes
pub reads_back : (order : Order) (groups : List Group) → AreReadable groups → ReadsBack order groups
reads_back order groups h lenient =
    image_answer order groups (flat groups) [] h.written (read_back order groups h.ranged h.plain h.few h.written) lenient ∙ shown_by lenient (flat groups)

-- of more than eight groups lenient reading gives the first eight, and strict reading none
pub reads_first_eight : (order : Order) (groups : List Group) → AreRanged groups → HavePlainTexts groups → write_fault groups ≡ None → ReadsFirstEight order groups
reads_first_eight order groups ranged plain h many =
    let leaves = reads_front order groups ranged plain h in
    let fields : List Field = first_eight (flat groups) in
    let one : Leaves (ordered_trace (number_of order) (image order groups)) fields (TooManyDirectories ∷ []) =
    record { seen = leaves.seen; failed = leaves.failed ∙ faults_more 8 groups many } in (
      image_answer order groups fields (TooManyDirectories ∷ []) h one true,
      image_answer order groups fields (TooManyDirectories ∷ []) h one false,
    )

-- what is read in one byte order, with the same blocks, gives the image in each order
pub rewrites_in_each_order : (order : Order) (groups : List Group) → AreReadable groups → RewritesInEachOrder order groups
rewrites_in_each_order order groups h lenient fields other read =
    let same : Whole fields ≡ Whole (flat groups) = sym read ∙ reads_back order groups h lenient in
    let exact : fields ≡ flat groups = cc in
    ap (λ fs. image other (all_blocks_set 0 groups (pushed_all fs []))) exact ∙ rewrites_same other groups h.ranged h.written

-- readable groups have equal images in a byte order exactly if their fields and blocks are equal
pub equal_by_contents : (order : Order) (groups : List Group) → AreReadable groups → EqualByContents order groups
equal_by_contents order groups h others k = same_images order groups others h k

-- groups that are written have images of one length in the two byte orders
pub lengths_agree : (groups : List Group) → write_fault groups ≡ None → LengthsAgree groups
lengths_agree groups h =
    let each = (not_refused groups h).each in
    length-image Big groups each ∙ sym (length-image Little groups each)

-- and the two images are read alike, where values are in range and texts plain
pub orders_agree : (groups : List Group) → AreRanged groups → HavePlainTexts groups → write_fault groups ≡ None → OrdersAgree groups
orders_agree groups ranged plain h lenient =
    image_answer Big groups _ _ h (image_leaves Big groups ranged plain h) lenient ∙ sym (image_answer Little groups _ _ h (image_leaves Little groups ranged plain h) lenient)
