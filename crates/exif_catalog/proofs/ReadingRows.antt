-- What is read of rows, one after the other.
use Rattle.std.proofs.Common.{◌≡◌, ◌⊎◌, inl, inr, ap, sym, refl, subst, ℕ, List, [], ◌∷◌, ◌++◌, Option, Some, None, Result, Ok, Err, arith}
use Rattle.sqlite_value.specs.Order.{Row}
use Rattle.sqlite.specs.Store.{Ghosts}
use Rattle.sqlite.specs.Held.{Held, state}
use Rattle.sqlite.specs.Given.{HasBegun}
use Rattle.std.specs.Borrow.{Bor}
use Rattle.sqlite.specs.Next.{HasMoved}
use Rattle.sqlite.specs.declared.rows.stream.Rows.{Rows}
use Rattle.sqlite.specs.State.{HasCleanDisk, Survives}
use Rattle.sqlite.specs.declared.error.Error.{Error}
use Rattle.exif_catalog_file.specs.Errors.{database_error}
use Rattle.exif_catalog_file.specs.Handing.{HasShown}
use Rattle.exif_catalog_file.proofs.Streaming.{moved_not, moved_on, moved_past, shown_first}
use Rattle.exif_catalog.specs.Reading.{FailsToRead, ReadsEach, each_of}
use Rattle.exif_catalog_file.specs.declared.errors.CatalogError.{CatalogError}
use Rattle.exif_catalog_file.specs.declared.errors.CatalogError.TheVariants as error

-- where all is read, it is of the first row and of the others
each_rest : {A : Type 0} (read : Row → Result A CatalogError) (row : Row) (rows : List Row)
    (items : List A) (first : Result A CatalogError) → read row ≡ first
    → each_of read (row ∷ rows) ≡ Ok items
    → (item : A) × (rest : List A) × (read row ≡ Ok item) × (each_of read rows ≡ Ok rest)
    × (items ≡ item ∷ rest)
each_rest read row rows items (Err e) is all = absurd (let h = rw is at all in cc)
each_rest read row rows items (Ok item) is all = behind (each_of read rows) refl
  where
    behind : (rest : Result (List _) _) → each_of read rows ≡ rest
        → (item : _) × (rest : List _) × (read row ≡ Ok item) × (each_of read rows ≡ Ok rest)
        × (items ≡ item ∷ rest)
    behind (Err e) such = absurd (let h = rw (is, such) at all in cc)
    behind (Ok rest) such = (item, rest, is, such, let h = rw (is, such) at all in cc)

-- one row more
each_more : {A : Type 0} (read : Row → Result A CatalogError) (rows : List Row) (row : Row)
    (items : List A) (item : A) → each_of read rows ≡ Ok items → read row ≡ Ok item
    → each_of read (rows ++ row ∷ []) ≡ Ok (items ++ item ∷ [])
each_more read [] row items item all one =
    let none : [] ≡ items = cc in
    rw one (ap (λ xs. Ok (xs ++ item ∷ [])) none)
each_more read (first ∷ rows) row items item all one =
    let it = each_rest read first rows items (read first) refl all in
    let more = each_more read rows row it.1 item it.3 one in
    rw (it.2, more) (ap (λ xs. Ok (xs ++ item ∷ [])) (sym it.4))

module _ {S : Type 0} (g : Ghosts S) {A : Type 0} (sql : List ℕ)
    (read : Row → Result A CatalogError) (old : Held S) where
  -- these were read of the rows so far
  abbrev pub HasRead : Held S → List A → Type 0
  HasRead now items = (rows : List Row) × HasShown g sql old now rows × (each_of read rows ≡ Ok items)

  -- and something holds of them
  abbrev pub HasReadSome : Held S → (List A → Type 0) → Type 0
  HasReadSome now Holds = (items : List A) × HasRead now items × Holds items

  pub read_none : (new : Held S) (Holds : List A → Type 0) → HasBegun g sql [] old new → Holds []
      → HasReadSome new Holds
  read_none new Holds begun none = ([], ([], shown_first g sql old new begun, refl), none)

  module _ (before after : Rows S g) (result : Result (Option (Bor Row)) Error)
      (moved : HasMoved g before result after) (Holds : List A → Type 0)
      (had : HasCleanDisk (state g before.conn.now) → HasReadSome before.conn.now Holds)
      (last : Held S) (rests : after.conn.now ≡ last) (clean : HasCleanDisk (state g last)) where
    late : HasCleanDisk (state g after.conn.now)
    late = subst (λ h. HasCleanDisk (state g h)) (sym rests) clean

    was : HasReadSome before.conn.now Holds
    was = had (omega (arith, moved.survives.clean, late))

    pub read_on : (row : Bor Row) (item : A) (Then : List A → Type 0) → result ≡ Ok (Some row)
        → read row.now ≡ Ok item
        → ((items : List A) → Holds items → Then (items ++ item ∷ [])) → HasReadSome last Then
    read_on row item Then is one more = subst (λ h. HasReadSome h Then) rests (
      was.0 ++ item ∷ [],
      (
        was.1.0 ++ row.now ∷ [],
        moved_on g sql old before after result moved late was.1.0 was.1.1 row is,
        each_more read was.1.0 row.now was.0 item was.1.2 one,
      ),
      more was.0 was.2,
    )

    pub read_all : result ≡ Ok None
        → (items : List A) × ReadsEach g sql read old last items × Holds items
    read_all is =
        subst (λ h. (items : List A) × ReadsEach g sql read old h items × Holds items) rests (
          was.0,
          (was.1.0, moved_past g sql old before after result moved late was.1.0 was.1.1 is, was.1.2),
          was.2,
        )

    pub read_fails : (P : _) (why : Error) → Survives (state g old) (state g before.conn.now) P
        → result ≡ Err why → FailsToRead g sql read old last (database_error why)
    read_fails P why survives is =
        subst (λ h. FailsToRead g sql read old h (database_error why)) rests (inl (
          why,
          moved_not g sql old before after result moved late was.1.0 was.1.1 P why survives is,
          refl,
        ))

    pub read_refused : (row : Bor Row) (e : CatalogError) → result ≡ Ok (Some row)
        → (e ≡ error.OutOfMemory) ⊎ (read row.now ≡ Err e)
        → (e ≡ error.OutOfMemory) ⊎ FailsToRead g sql read old last e
    read_refused row e is (inl memory) = inl memory
    read_refused row e is (inr none) =
        inr (subst (λ h. FailsToRead g sql read old h e) rests (inr (
          was.1.0,
          row.now,
          was.0,
          moved_on g sql old before after result moved late was.1.0 was.1.1 row is,
          was.1.2,
          none,
        )))
