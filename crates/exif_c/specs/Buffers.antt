-- Answers in the caller's buffers.
use Rattle.std.specs.Prelude.{◌≡◌, ℕ, List, ◌++◌, length, take, drop}
use Rattle.exif_c.specs.declared.buffer.Answer.{Answer}

-- a buffer with the front of a text, and behind that as it was
abbrev pub filled : List ℕ → List ℕ → List ℕ
filled text old = take (length old) text ++ drop (length text) old

-- a text is answered: its length, and its front in the buffer
pub record Gives (status : ℕ) (text old new : List ℕ) (answer : Answer) : Type 0 where
  pub ended : answer.status ≡ status
  pub whole : answer.length ≡ length text
  pub front : new ≡ filled text old

-- nothing is answered
pub record GivesNothing (status : ℕ) (answer : Answer) : Type 0 where
  pub ended : answer.status ≡ status
  pub none : answer.length ≡ 0
