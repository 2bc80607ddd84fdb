-- What a clause reads of a `Seekable`, and of the stream in it.
use Rattle.std.specs.Prelude.{ℕ, List, Option, None, Some}
use Rattle.exif_base.specs.declared.seekable.Seekable.{Seekable}

-- the reader inside
abbrev pub seekable_inner : {R : Type 0} → Seekable R → R
seekable_inner s = s.inner

-- how many of its calls failed
abbrev pub seekable_failures : {R : Type 0} → Seekable R → ℕ
seekable_failures s = s.failures

-- the bytes of a stream whose position is known
abbrev pub known_stream : Option ℕ → Option (List ℕ) → Option (List ℕ)
known_stream None bytes = None
known_stream (Some position) bytes = bytes
