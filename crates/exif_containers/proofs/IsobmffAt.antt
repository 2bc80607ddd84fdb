-- Bytes that are read at offsets of a stream.
use Rattle.std.proofs.Common.{◌≡◌, ℕ, ◌+◌, ◌≤◌, List, [], ◌++◌, length, take, drop, Option, None, Some, refl, sym, ap, ◌∙◌, subst, arith}
use borrow.Rule.Slice.PartMut.{put_mid}
use Rattle.std.specs.Io.KnownBytes.{Consumes, IsAtEnd, Keeps}
use Rattle.exif_base.specs.Told.{IsFetchedOnto, left_behind}
use Rattle.exif_base.proofs.ReadSteps.{consumes_append, fetched_buffer, take_filled}

-- the same bytes, at an offset and in a stream that are named otherwise
pub moved : (stream s : Option (List ℕ)) (from next n to : ℕ) (bytes : List ℕ) → s ≡ stream → next ≡ from → to ≡ from + n → Consumes (left_behind (Some next) s) (left_behind (Some (next + n)) s) bytes
    → Consumes (left_behind (Some from) stream) (left_behind (Some to) stream) bytes
moved stream s from next n to bytes same e f h =
    subst (λ m. Consumes (left_behind (Some from) stream) (left_behind (Some m) stream) bytes) (sym f)
    (subst (λ m. Consumes (left_behind (Some m) stream) (left_behind (Some (m + n)) stream) bytes) e
    (subst (λ t. Consumes (left_behind (Some next) t) (left_behind (Some (next + n)) t) bytes) same h))

-- the end, named otherwise
pub moved_end : (stream s : Option (List ℕ)) (from next : ℕ) → s ≡ stream → next ≡ from → IsAtEnd (left_behind (Some next) s) → IsAtEnd (left_behind (Some from) stream)
moved_end stream s from next same e h =
    subst (λ m. IsAtEnd (left_behind (Some m) stream)) e (subst (λ t. IsAtEnd (left_behind (Some next) t)) same h)

-- what was kept is kept on
pub keeps_more : (a b c : Option (List ℕ)) → Keeps a b → Keeps b c → Keeps a c
keeps_more None b c h k = tt
keeps_more (Some xs) None c h k = absurd h
keeps_more (Some xs) (Some ys) None h k = absurd k
keeps_more (Some xs) (Some ys) (Some zs) h k = k ∙ h

-- a buffer that is filled on
pub front_more : (stream s : Option (List ℕ)) (offset at next n k : ℕ) (buf new : List ℕ) → s ≡ stream → next ≡ offset + at → at ≤ length buf → n ≤ length new
    → Consumes (left_behind (Some offset) stream) (left_behind (Some (offset + at)) stream) (take at buf) → Consumes (left_behind (Some next) s) (left_behind (Some (next + n)) s) (take n new)
    → Consumes (left_behind (Some offset) stream) (left_behind (Some (offset + (at + n))) stream) (take (at + n) (put_mid at k buf new))
front_more stream s offset at next n k buf new same e h f t u =
    subst (Consumes (left_behind (Some offset) stream) (left_behind (Some (offset + (at + n))) stream)) (sym (take_filled at k n buf new h f))
    (consumes_append _ (left_behind (Some (offset + at)) stream) _ _ _ t (moved stream s (offset + at) next n (offset + (at + n)) (take n new) same e (omega arith) u))

-- a list that is read on
pub list_more : (stream s : Option (List ℕ)) (offset m next n k : ℕ) (old mid new buf rest : List ℕ) → s ≡ stream → next ≡ offset + m
    → IsFetchedOnto (left_behind (Some offset) stream) (left_behind (Some (offset + m)) stream) old mid m → Consumes (left_behind (Some next) s) (left_behind (Some (next + n)) s) (take n buf)
    → n ≤ length buf → new ≡ mid ++ take n (buf ++ rest) → m + n ≡ k → IsFetchedOnto (left_behind (Some offset) stream) (left_behind (Some (offset + k)) stream) old new k
list_more stream s offset m next n k old mid new buf rest same e t u f put total =
    fetched_buffer _ (left_behind (Some (offset + m)) stream) _ old mid new buf rest m n k t
    (moved stream s (offset + m) next n (offset + k) (take n buf) same e (omega (arith, total)) u) f put total

-- a list of which nothing was read yet
pub list_none : (stream : Option (List ℕ)) (offset k : ℕ) (list : List ℕ) → k ≡ 0 → list ≡ [] → IsFetchedOnto (left_behind (Some offset) stream) (left_behind (Some (offset + k)) stream) [] list k
list_none None offset k list z e = ([], tt, sym z, e)
list_none (Some s) offset k list z e =
    let same : offset ≡ offset + k = omega arith in
    ([], ap (λ m. drop m s) same, sym z, e)

pub keeps_all : (a : Option (List ℕ)) → Keeps a a
keeps_all None = tt
keeps_all (Some xs) = refl
