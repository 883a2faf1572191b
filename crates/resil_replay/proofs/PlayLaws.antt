-- Rows and the events that they write, one after the other.
use Rattle.resil_replay.proofs.Words.{◌≡◌, ◌<◌, ◌≤◌, ◌+◌, ◌∷◌, [], ◌++◌, ◌∙◌, ℕ, suc, Bool, true, false, ◌||◌, List, length, map, refl, sym, ap, arith, take, drop, drop-cons, get_or, append-nil, IsTrue, inl, inr, OnTrue, OnFalse, true_from_ne_false, list_any-append, is_close, is_closed, IsAllowed, AreAllowedAfter, MachineView, with_event, Event, HasReplayed, IsCarriedOut}
use Rattle.std.specs.List.{list_any}
use Rattle.std.proofs.lemmas.List.{map-append, take_more, take-append-drop, length-take-le}
use Rattle.resil_rule.specs.Limits.{Sizes}
use Rattle.resil_rule.specs.declared.event.Event.TheVariants as event
use Rattle.resil_rule.proofs.LegalLaws.{legal-push}
use Rattle.resil_heads.specs.declared.refusal.RowRefusal.{RowRefusal}
use Rattle.resil_replay.specs.declared.pool.RowError.{RowError}
use Rattle.resil_replay.specs.declared.pool.RowError.TheVariants as row_error
use Rattle.resil_replay.specs.declared.play.ReplayError.TheVariants as error
use Rattle.resil_replay.specs.Play.{IsRowRefusal, IsRowError, IsReplayError, error_at_row, row_of_event, drop_repeated_closings, is_closing, IsHistoryOf}
use Rattle.resil_replay.specs.declared.rows.ReplayRow.{ReplayRow}
use Rattle.resil_replay.specs.declared.rows.ReplayRow.TheVariants as row

-- one more row, after those that may have closed
drop_repeated_closings-push : (c : Bool) (rows : List ReplayRow) (r : ReplayRow) → drop_repeated_closings c (rows ++ r ∷ []) ≡ drop_repeated_closings c rows ++ drop_repeated_closings (c || list_any is_closing rows) (r ∷ [])
drop_repeated_closings-push c [] r = ap (λ b. drop_repeated_closings b (r ∷ [])) (grind arith)
drop_repeated_closings-push true (row.Close ∷ rows) r = drop_repeated_closings-push true rows r
drop_repeated_closings-push false (row.Close ∷ rows) r = ap (λ rs. row.Close ∷ rs) (drop_repeated_closings-push true rows r)
drop_repeated_closings-push c (other ∷ rows) r = ap (λ rs. other ∷ rs) (drop_repeated_closings-push c rows r)

-- the events of the rows with one more of each
rows-push : (h : List Event) (e : Event) (rows : List ReplayRow) → map row_of_event h ≡ drop_repeated_closings false rows
    → drop_repeated_closings (list_any is_closing rows) (row_of_event e ∷ []) ≡ row_of_event e ∷ [] → map row_of_event (h ++ e ∷ []) ≡ drop_repeated_closings false (rows ++ row_of_event e ∷ [])
rows-push h e rows same one = rw (map-append, same, drop_repeated_closings-push false rows (row_of_event e), one) refl

closing-row : (e : Event) → is_close e ≡ is_closing (row_of_event e)
closing-row event.Close = refl
closing-row e = refl

module _ (limits : Sizes) (rows : List ReplayRow) (m n : MachineView) (played : HasReplayed limits rows m) where
  -- the row of an event that is allowed isn't a closing after another one
  row-kept : (e : Event) → IsAllowed m.limits m.history e → drop_repeated_closings (list_any is_closing rows) (row_of_event e ∷ []) ≡ row_of_event e ∷ []
  row-kept event.Close open_ = rw (sym played.closed ∙ open_) refl
  row-kept e allowed = refl

  -- one more row
  pub row-played : (r : ReplayRow) → IsCarriedOut r m n → HasReplayed limits (rows ++ r ∷ []) n
  row-played r (inl (e, is, allowed, same, grown)) = rw (← is) (record {
    same_limits = same ∙ played.same_limits;
    history = rw grown (legal-push limits m.history e played.history.0 (rw played.same_limits at allowed), rows-push m.history e rows played.history.1 (row-kept e allowed));
    closed = rw grown (list_any-append is_close m.history (e ∷ []) ∙ rw (played.closed, closing-row e) (sym (list_any-append is_closing rows (row_of_event e ∷ []))));
  })
  row-played r (inr (is, closed, same)) =
      let any : list_any is_closing rows ≡ true = sym played.closed ∙ closed in
      rw (is, same) (record {
        same_limits = played.same_limits;
        history = (played.history.0, played.history.1 ∙ rw (drop_repeated_closings-push false rows row.Close, any, append-nil) refl);
        closed = closed ∙ sym (list_any-append is_closing rows (row.Close ∷ []) ∙ rw any refl);
      })

-- a closing
pub closing-played : (m n : MachineView) (closes : Bool) → (IsTrue closes → is_closed m.history ≡ false) → (is_closed m.history ≡ false → IsTrue closes)
    → OnTrue closes (n ≡ with_event m event.Close) → OnFalse closes (n ≡ m) → IsCarriedOut row.Close m n
closing-played m n true open_ was grown same = rw grown (inl (event.Close, refl, open_ refl, refl, refl))
closing-played m n false open_ was grown same = inr (refl, true_from_ne_false _ (λ none. cc (was none)), same)

-- a row determines its event after a history: a take's id is that of the job at the front of the queue
one_event : (limits : Sizes) (before : List Event) (e f : Event) (r : ReplayRow) → IsAllowed limits before e → IsAllowed limits before f → row_of_event e ≡ r → row_of_event f ≡ r → e ≡ f
one_event limits before (event.Submit id reply) (event.Submit id' reply') r a b p q = cc (p, q, a.1, b.1)
one_event limits before (event.Take id) (event.Take id') r a b p q = cc (a.0, b.0)
one_event limits before (event.Finish id) (event.Finish id') r a b p q = cc (p, q)
one_event limits before event.IdleEnd event.IdleEnd r a b p q = refl
one_event limits before event.Close event.Close r a b p q = refl
one_event limits before (event.Resized core max) (event.Resized core' max') r a b p q = cc (p, q)
one_event limits before e f r a b p q = cc (p, q)

-- two lists of events that are allowed after a history, and are written by the same rows, are equal
events_unique : (limits : Sizes) (before : List Event) (rows : List ReplayRow) (one other : List Event) → AreAllowedAfter limits before one → AreAllowedAfter limits before other
    → map row_of_event one ≡ rows → map row_of_event other ≡ rows → one ≡ other
events_unique limits before rows [] [] a b p q = refl
events_unique limits before rows [] (f ∷ other) a b p q = cc (p, q)
events_unique limits before rows (e ∷ one) [] a b p q = cc (p, q)
events_unique limits before [] (e ∷ one) (f ∷ other) a b p q = cc p
events_unique limits before (r ∷ rows) (e ∷ one) (f ∷ other) a b p q =
    let first = one_event limits before e f r a.0 b.0 (cc p) (cc q) in
    let rest = events_unique limits (before ++ e ∷ []) rows one other a.1 (rw first b.1) (cc p) (cc q) in
    rw (first, rest) refl

-- rows have one history at most
pub histories-unique : (limits : Sizes) (rows : List ReplayRow) (one other : List Event) → IsHistoryOf limits rows one → IsHistoryOf limits rows other → one ≡ other
histories-unique limits rows one other a b = events_unique limits [] (drop_repeated_closings false rows) one other a.0 b.0 a.1 b.1

module _ (limits : Sizes) (rows : List ReplayRow) (i : ℕ) (d : ReplayRow) (m : MachineView) (within : i < length rows) where
  -- the rows up to a position were carried out, after its row was
  pub row-done : HasReplayed limits (take i rows ++ get_or rows i d ∷ []) m → HasReplayed limits (take (i + 1) rows) m
  row-done played = rw (take_more rows i d within) played

  parted : rows ≡ take i rows ++ get_or rows i d ∷ drop (suc i) rows
  parted = sym (take-append-drop i rows) ∙ ap (λ rest. take i rows ++ rest) (drop-cons rows i d within)

  row-refused : HasReplayed limits (take i rows) m → (why : RowRefusal) → IsRowRefusal m.limits m.history (get_or rows i d) why → IsReplayError limits rows (error.Refused (i + 1) why)
  row-refused played why refusal =
      let few : i ≤ length rows = omega (arith, within) in
      let position : i + 1 ≡ suc (length (take i rows)) = omega (arith, length-take-le i rows few) in
      (take i rows, get_or rows i d, drop (suc i) rows, m.history, parted, position, played.history, rw played.same_limits at refusal)

  -- where the row at a position can't be carried out, why is the error of the replay
  pub row-stopped : HasReplayed limits (take i rows) m → (why : RowError) → IsRowError m.limits m.history (get_or rows i d) why → IsReplayError limits rows (error_at_row (i + 1) why)
  row-stopped played row_error.Memory error_ = tt
  row-stopped played (row_error.Refused why) error_ = row-refused played why error_
