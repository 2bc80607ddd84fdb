-- What was read, as JSON, is the answer.
use Rattle.std.proofs.Common.{ℕ, Bool, List, [], take, Some, Result, inl}
use Rattle.exif_types.specs.Contents.{ExifContents}
use Rattle.exif_types.specs.Failures.{Failure}
use Rattle.exif_formats.specs.Formats.{format_in}
use Rattle.exif_formats.specs.Pictures.{ReadsPicture}
use Rattle.exif_json.specs.Answers.{IsJsonOf}
use Rattle.exif_c.specs.Buffers.{Gives}
use Rattle.exif_c.specs.Calls.{IsRead, answer_status, meant}
use Rattle.exif_c.specs.Statuses.{number_of}
use Rattle.exif_c.specs.declared.buffer.Answer.{Answer}

-- what was read of a file, given as JSON in the buffer, is the answer of the call
pub is_read : (lenient : Bool) (limit : ℕ) (file old new : List ℕ) (answer : Answer)
    (read : Result ExifContents Failure) (text : List ℕ)
    → ReadsPicture lenient (Some (meant limit)) file read
    → IsJsonOf [] (format_in (take 4096 file)) read text
    → Gives (number_of (answer_status read)) text old new answer
    → IsRead lenient limit file old new answer
is_read lenient limit file old new answer read text reads json gives = inl (record {
  read = read;
  reads = reads;
  text = text;
  json = json;
  gives = gives;
})
