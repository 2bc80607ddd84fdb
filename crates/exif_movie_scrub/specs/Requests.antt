-- What is taken out of a video.
use Rattle.exif_movie.specs.declared.kind.Kind.{Kind}
use Rattle.exif_movie.specs.declared.kind.Kind.TheVariants as kind
use Rattle.exif_movie.specs.declared.kind.Subject.{Subject}
use Rattle.exif_movie.specs.declared.kind.Subject.TheVariants as subject
use Rattle.exif_movie.specs.declared.part.Part.{Part}
use Rattle.exif_movie_scrub.specs.declared.request.Request.{Request}
use Rattle.exif_movie_scrub.specs.declared.request.Request.TheVariants as request
use Rattle.exif_movie_scrub.specs.declared.zeros.Zeroed.{Zeroed}
use Rattle.exif_movie_scrub.specs.declared.zeros.Zeroed.TheVariants as zeroed

-- what becomes zeros only where all metadata are taken out
abbrev pub if_all : Request → Zeroed → Zeroed
if_all request.Locations what = zeroed.Nothing
if_all request.Metadata what = what

-- what becomes zeros of a text or an item of this subject
abbrev pub subject_zeroed : Request → Subject → Zeroed
subject_zeroed asked subject.Location = zeroed.Content
subject_zeroed asked s = if_all asked zeroed.Content

-- what becomes zeros of a part of this kind
abbrev pub kind_zeroed : Request → Kind → Zeroed
kind_zeroed asked (kind.UserData s) = subject_zeroed asked s
kind_zeroed asked (kind.Item s) = subject_zeroed asked s
kind_zeroed asked kind.Xmp = zeroed.Content
kind_zeroed asked kind.Xml = zeroed.Content
kind_zeroed asked kind.Telemetry = zeroed.Content
kind_zeroed asked kind.Keys = if_all asked zeroed.Content
kind_zeroed asked kind.FilledFree = if_all asked zeroed.Content
kind_zeroed asked kind.Unknown = if_all asked zeroed.Content
kind_zeroed asked kind.MovieHeader = if_all asked zeroed.Dates
kind_zeroed asked kind.TrackHeader = if_all asked zeroed.Dates
kind_zeroed asked kind.MediaHeader = if_all asked zeroed.Dates
kind_zeroed asked k = zeroed.Nothing

-- what becomes zeros of a part
abbrev pub zeroed_of : Request → Part → Zeroed
zeroed_of asked part = kind_zeroed asked part.kind
