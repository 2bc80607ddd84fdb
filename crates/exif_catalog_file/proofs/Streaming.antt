-- Rows that are read one at a time.
use Rattle.std.proofs.Common.{◌≡◌, ◌∙◌, inl, inr, ap, sym, refl, subst, append_assoc, append-nil, length, length-append, ℕ, ◌+◌, ◌-◌, ◌^◌, ◌≤◌, List, [], ◌∷◌, ◌++◌, Option, Some, None, Result, Ok, Err, arith}
use Rattle.sqlite_value.specs.Order.{Row}
use Rattle.sqlite.specs.Store.{Ghosts}
use Rattle.sqlite.specs.Held.{Held, state}
use Rattle.sqlite.specs.Clock.{timed}
use Rattle.sqlite.specs.Given.{Advances, FailsToAdvance, HandsOn, HasBegun}
use Rattle.sqlite.specs.Stream.{returned}
use Rattle.std.specs.Borrow.{Bor}
use Rattle.sqlite.specs.Next.{HasMoved}
use Rattle.sqlite.specs.declared.rows.stream.Rows.{Rows}
use Rattle.sqlite.specs.Effect.{Database}
use Rattle.sqlite.specs.Listing.{IsSourceOf, reads_listing, understood}
use Rattle.sqlite.specs.State.{FailsToQuery, FailsToShow as FailsAs, IsNotRun, HasCleanDisk, IsStatement, IsUnchanged, Shown, ShowsRows, State, Survives, Writes, text_of}
use Rattle.sqlite.specs.Effect.{RefusesToRead}
use Rattle.sqlite.specs.declared.error.Error.{Error}
use Rattle.sqlite.specs.declared.error.Error.TheVariants.{SqliteFailure}
use Rattle.sqlite.specs.declared.error.ErrorCode.TheVariants.{OperationInterrupted}
use Rattle.sqlite.proofs.Callers.{unchanged_then}
use Rattle.sqlite.proofs.StreamLemmas.{fails_since, given_plain}
use Rattle.exif_catalog_file.specs.Errors.{database_error}
use Rattle.exif_catalog_file.specs.Handing.{FailsToHand, FailsToShow, HandsEach, HasShown, Steps}
use Rattle.exif_catalog_file.proofs.Handing.{steps_more}
use Rattle.exif_catalog_file.specs.declared.errors.CatalogError.TheVariants as error

-- ---- a query over a state that is as another

module _ (sql : List ℕ) (old mid new : State) (same : IsUnchanged old mid) where
  since : (c : _) → IsStatement mid sql [] c → IsStatement old sql [] c
  since c h = record {
    is = subst (λ (d : Database). understood d.schema sql ≡ Ok c) same.0.now_is h.is;
    whole = h.whole;
    given = h.given;
    now = h.now;
  }

  shown_since : ((c : _) → understood old.now.schema sql ≡ Ok c → c.returning ≡ None)
      → (rows : List Row) → Shown sql [] mid new rows → Shown sql [] old new rows
  unfolding Shown since
  shown_since plain rows h =
      let none = plain h.0 (since h.0 h.1).is in
      let full = timed [] h.0.formats h.1.now in
      let it = subst (ShowsRows mid new sql h.0 full rows) none h.2 in
      let source = subst (λ (d : Database). IsSourceOf (reads_listing d.schema sql) d it.0) same.0.now_is it.1 in (
        h.0,
        since h.0 h.1,
        subst (ShowsRows old new sql h.0 full rows) (sym none)
            (it.0, source, it.2, unchanged_then old mid new same it.3),
      )

  fails_to_query_since : old.faults ≤ mid.faults → mid.step_limit ≡ old.step_limit
      → ((c : _) → understood old.now.schema sql ≡ Ok c → c.returning ≡ None)
      → (e : Error) → FailsToQuery sql [] mid new e → FailsToQuery sql [] old new e
  unfolding FailsToQuery IsNotRun since
  fails_to_query_since counts limit plain e (inl (inl h)) =
      inl (inl (rw (← same.0.now_is) h.0, unchanged_then old mid new same h.1))
  fails_to_query_since counts limit plain e (inl (inr h)) =
      inl (inr (fails_since old mid new same counts e h))
  fails_to_query_since counts limit plain e (inr h) =
      let none = plain h.0 (since h.0 h.1).is in
      let full = timed [] h.0.formats h.1.now in
      let it = subst (FailsAs mid new sql h.0 full e) none h.2 in
      let source = subst (λ (d : Database). IsSourceOf (reads_listing d.schema sql) d it.0) same.0.now_is it.1 in
      inr (
        h.0,
        since h.0 h.1,
        subst (FailsAs old new sql h.0 full e) (sym none) (
          it.0,
          source,
          subst (λ l. RefusesToRead l h.0.command it.0 full e) limit it.2,
          unchanged_then old mid new same it.3,
        ),
      )

-- ---- a query before a state that stays

module _ (sql : List ℕ) (old mid new : State) (same : IsUnchanged mid new) where
  written_then : (what : _) (c : _) (full : Row) (count : ℕ)
      → Writes old mid (Some what) c.command (text_of sql c) full count
      → Writes old new (Some what) c.command (text_of sql c) full count
  written_then what c full count w = record {
    tally = w.tally;
    changed = rw same.0.now_is w.changed;
    frozen = rw same.0.now_is w.frozen;
    sound = rw same.0.now_is w.sound;
    shown = record {
      was_open = w.shown.was_open;
      is_open = same.0.is_open;
      now_is = refl;
      committed_is = rw same.0.now_is (same.0.committed_is ∙ w.shown.committed_is);
      mode = same.0.mode ∙ w.shown.mode;
    };
    marks = same.2 ∙ w.marks;
    counted = w.counted;
    changes = same.1.changes ∙ w.changes;
    last_rowid = same.1.last_rowid ∙ w.last_rowid;
  }

  shows_then : (c : _) (full : Row) (rows : List Row) (what : Option _)
      → ShowsRows old mid sql c full rows what → ShowsRows old new sql c full rows what
  unfolding written_then
  shows_then c full rows None h = (h.0, h.1, h.2, unchanged_then old mid new h.3 same)
  shows_then c full rows (Some what) h = (h.0, written_then what c full h.0 h.1, h.2)

  shown_then : (rows : List Row) → Shown sql [] old mid rows → Shown sql [] old new rows
  unfolding Shown
  shown_then rows h = (h.0, h.1, shows_then h.0 (timed [] h.0.formats h.1.now) rows h.0.returning h.2)

-- ---- one row after the other

module _ {S : Type 0} (g : Ghosts S) (sql : List ℕ) (old : Held S) where
  pub shown_first : (new : Held S) → HasBegun g sql [] old new → HasShown g sql old new []
  shown_first new (inl given) = inl given
  shown_first new (inr written) = inr written

  module _ (mid new : Held S) (rows : List Row) (shown : HasShown g sql old mid rows) where
    pub shown_more : (row : Row) → Advances g mid new (Some row)
        → IsUnchanged (state g mid) (state g new) → HandsOn mid new (Some row)
        → HasShown g sql old new (rows ++ row ∷ [])
    shown_more row advances same hands = elim shown [
      | inl given ↦ inl (advances sql [] rows given.0, unchanged_then _ _ _ given.1 same)
      | inr written ↦ inr (
        written.0,
        subst (Shown sql [] (state g old) (state g new))
            (ap (λ more. rows ++ more) (hands written.2).0
            ∙ sym (append_assoc rows (row ∷ []) (returned new.reading)))
            (shown_then sql _ _ _ same _ written.1),
        (hands written.2).1,
      )
    ]

    pub shown_all : Advances g mid new None
        → IsUnchanged (state g mid) (state g new) → HandsOn mid new None
        → Shown sql [] (state g old) (state g new) rows
    shown_all advances same hands = elim shown [
      | inl given ↦ shown_since sql _ _ _ given.1
          (subst (λ (d : Database). (c : _) → understood d.schema sql ≡ Ok c → c.returning ≡ None)
          given.1.0.now_is (given_plain g sql [] mid rows given.0))
          rows (advances sql [] rows given.0)
      | inr written ↦ shown_then sql _ _ _ same rows
          (subst (Shown sql [] (state g old) (state g mid))
          (ap (λ more. rows ++ more) (hands written.2).0.0 ∙ append-nil rows) written.1)
    ]

    pub show_fails : (P : _) (why : Error) → FailsToAdvance g mid new why
        → Survives (state g old) (state g mid) P → FailsToShow g sql old new why
    show_fails P why fails survives = elim shown [
      | inl given ↦ inl (fails_to_query_since sql _ _ _ given.1 survives.counts survives.limit
          (subst (λ (d : Database). (c : _) → understood d.schema sql ≡ Ok c → c.returning ≡ None)
          given.1.0.now_is (given_plain g sql [] mid rows given.0))
          why (fails sql [] rows given.0))
      | inr written ↦ inr written.0
    ]

  -- what a move to the next row leaves
  module _ (before after : Rows S g) (result : Result (Option (Bor Row)) Error)
      (moved : HasMoved g before result after) (clean : HasCleanDisk (state g after.conn.now))
      (rows : List Row) (shown : HasShown g sql old before.conn.now rows) where
    pub moved_on : (row : Bor Row) → result ≡ Ok (Some row)
        → HasShown g sql old after.conn.now (rows ++ row.now ∷ [])
    moved_on row is = shown_more before.conn.now after.conn.now rows shown row.now
        (rw is at (moved.ok clean)) (rw is at (moved.same clean)) (rw is at (moved.hands clean))

    pub moved_past : result ≡ Ok None → Shown sql [] (state g old) (state g after.conn.now) rows
    moved_past is = shown_all before.conn.now after.conn.now rows shown
        (rw is at (moved.ok clean)) (rw is at (moved.same clean)) (rw is at (moved.hands clean))

    pub moved_not : (P : _) (why : Error) → Survives (state g old) (state g before.conn.now) P
        → result ≡ Err why → FailsToShow g sql old after.conn.now why
    moved_not P why survives is = show_fails before.conn.now after.conn.now rows shown P why
        (rw is at (moved.err clean)) survives

-- ---- rows that are handed on

module _ {S : Type 0} (g : Ghosts S) {X : Type 0} (Hands : X → Row → X → Type 0) (sql : List ℕ)
    (old : Held S) (first : X) where
  -- the rows so far were handed on
  abbrev pub HasHanded : Held S → X → ℕ → Type 0
  HasHanded now it count = (rows : List Row) × HasShown g sql old now rows × (count ≡ length rows)
      × Steps Hands first rows it

  pub handed_none : (new : Held S) → HasBegun g sql [] old new → HasHanded new first 0
  handed_none new begun = ([], shown_first g sql old new begun, refl, refl)

  pub handed_too_many : (now last : Held S) (it : X) (count : ℕ)
      → (HasCleanDisk (state g now) → HasHanded now it count) → now ≡ last
      → HasCleanDisk (state g last) → count ≡ 2 ^ 64 - 1
      → FailsToHand g sql old last (error.Database (SqliteFailure OperationInterrupted))
  handed_too_many now last it count had rests clean all =
      let handed = had (subst (λ h. HasCleanDisk (state g h)) (sym rests) clean) in
      inr (
        handed.0,
        subst (λ h. HasShown g sql old h handed.0) rests handed.1,
        sym handed.2 ∙ all,
        refl,
      )

  module _ (before after : Rows S g) (result : Result (Option (Bor Row)) Error)
      (moved : HasMoved g before result after) (it : X) (count : ℕ)
      (had : HasCleanDisk (state g before.conn.now) → HasHanded before.conn.now it count)
      (last : Held S) (rests : after.conn.now ≡ last) (clean : HasCleanDisk (state g last)) where
    late_too : HasCleanDisk (state g after.conn.now)
    late_too = subst (λ h. HasCleanDisk (state g h)) (sym rests) clean

    handed : HasHanded before.conn.now it count
    handed = had (omega (arith, moved.survives.clean, late_too))

    pub handed_on : (row : Bor Row) (next : X) → result ≡ Ok (Some row) → Hands it row.now next
        → HasHanded last next (count + 1)
    handed_on row next is hands = subst (λ h. HasHanded h next (count + 1)) rests (
      handed.0 ++ row.now ∷ [],
      moved_on g sql old before after result moved late_too handed.0 handed.1 row is,
      omega (arith, handed.2, length-append handed.0 (row.now ∷ [])),
      steps_more Hands handed.0 row.now first it next handed.3 hands,
    )

    pub handed_all : result ≡ Ok None → HandsEach g Hands sql old last first it count
    handed_all is = subst (λ h. HandsEach g Hands sql old h first it count) rests (
      handed.0,
      moved_past g sql old before after result moved late_too handed.0 handed.1 is,
      handed.2,
      handed.3,
    )

    pub hand_fails : (P : _) (why : Error) → Survives (state g old) (state g before.conn.now) P
        → result ≡ Err why → FailsToHand g sql old last (database_error why)
    hand_fails P why survives is =
        subst (λ h. FailsToHand g sql old h (database_error why)) rests (inl (
          why,
          moved_not g sql old before after result moved late_too handed.0 handed.1 P why survives is,
          refl,
        ))
