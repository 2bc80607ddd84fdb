-- The headers of videos and of their tracks (ISO/IEC 14496-12:2015, 8.2.2, 8.3.2, 8.4.2). Each
-- content begins with a version in one byte and flags in three (4.2).
use Rattle.std.specs.Prelude.{ℕ, ◌+◌, ◌-◌, ◌*◌, List, [], ◌∷◌, length, drop, nat_lt, ◌&&◌, ◌==◌, Option, Some, None, if◌then◌else◌}
use Rattle.exif_movie_facts.specs.Numbers.{u32_of, u64_of}
use Rattle.exif_movie_facts.specs.declared.header.MovieHeader.{MovieHeader}
use Rattle.exif_movie_facts.specs.declared.header.TrackHeader.{TrackHeader}

-- a duration of four bytes: all ones are an unknown one
abbrev pub short_duration : ℕ → Option ℕ
short_duration n = if n == 0xffffffff then None else Some n

-- a duration of eight bytes
abbrev pub long_duration : ℕ → Option ℕ
long_duration n = if n == 0xffffffffffffffff then None else Some n

-- the duration of eight bytes at an offset
abbrev pub long_duration_at : ℕ → List ℕ → Option ℕ
long_duration_at at content = long_duration (u64_of (drop at content))

-- a movie header of version 0: creation time, modification time, time scale, duration
abbrev pub short_header : List ℕ → Option MovieHeader
short_header content =
    if nat_lt (length content) 20 then None else Some (record {
      created = u32_of (drop 4 content);
      modified = u32_of (drop 8 content);
      timescale = u32_of (drop 12 content);
      duration = short_duration (u32_of (drop 16 content));
    })

-- a movie header of version 1: all but the time scale have eight bytes
abbrev pub long_header : List ℕ → Option MovieHeader
long_header content =
    if nat_lt (length content) 32 then None else Some (record {
      created = u64_of (drop 4 content);
      modified = u64_of (drop 12 content);
      timescale = u32_of (drop 20 content);
      duration = long_duration_at 24 content;
    })

-- the fields of a movie header, by its version
abbrev pub movie_header : List ℕ → Option MovieHeader
movie_header [] = None
movie_header (version ∷ rest) =
    if version == 0 then short_header (version ∷ rest) else
    if version == 1 then long_header (version ∷ rest) else None

-- a time as seconds since the start of 1970: there are 66 years before it, of which 17 are leap
-- years, and a day has 86,400 seconds
abbrev pub unix_seconds : ℕ → Option ℕ
unix_seconds time =
    if nat_lt time ((66 * 365 + 17) * 86400) then None
    else Some (time - (66 * 365 + 17) * 86400)

-- the rotation of a matrix in degrees clockwise, by its numbers a, b, c and d, which are cosine,
-- sine, minus sine and cosine of it, in two bytes before the point and two after it
unfoldable pub rotation : ℕ → ℕ → ℕ → ℕ → Option ℕ
rotation a b c d =
    if (a == 0x10000) && (b == 0) && (c == 0) && (d == 0x10000) then Some 0 else
    if (a == 0) && (b == 0x10000) && (c == 0xffff0000) && (d == 0) then Some 90 else
    if (a == 0xffff0000) && (b == 0) && (c == 0) && (d == 0xffff0000) then Some 180 else
    if (a == 0) && (b == 0xffff0000) && (c == 0x10000) && (d == 0) then Some 270 else None

-- the rotation of a matrix of nine numbers: a, b, u, c, d, v, x, y, w (6.2.2)
abbrev pub rotation_of : List ℕ → Option ℕ
rotation_of bytes =
    rotation (u32_of bytes) (u32_of (drop 4 bytes)) (u32_of (drop 12 bytes))
    (u32_of (drop 16 bytes))

-- a track header with these times, whose matrix, width and height are at an offset
abbrev pub shaped : ℕ → ℕ → Option ℕ → ℕ → List ℕ → TrackHeader
shaped created modified duration at content = record {
  created = created;
  modified = modified;
  duration = duration;
  width = u32_of (drop (at + 36) content);
  height = u32_of (drop (at + 40) content);
  rotation = rotation_of (drop at content);
}

-- a track header of version 0: creation time, modification time, the number of the track, a
-- reserved number, duration, 16 bytes of which none is read, matrix, width, height
abbrev pub short_track : List ℕ → Option TrackHeader
short_track content =
    if nat_lt (length content) 84 then None else
    Some (shaped (u32_of (drop 4 content)) (u32_of (drop 8 content))
    (short_duration (u32_of (drop 20 content))) 40 content)

-- a track header of version 1: times and duration have eight bytes
abbrev pub long_track : List ℕ → Option TrackHeader
long_track content =
    if nat_lt (length content) 96 then None else
    Some (shaped (u64_of (drop 4 content)) (u64_of (drop 12 content))
    (long_duration_at 28 content) 52 content)

-- the fields of a track header, by its version
abbrev pub track_header : List ℕ → Option TrackHeader
track_header [] = None
track_header (version ∷ rest) =
    if version == 0 then short_track (version ∷ rest) else
    if version == 1 then long_track (version ∷ rest) else None
