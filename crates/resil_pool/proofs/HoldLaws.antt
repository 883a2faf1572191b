-- Rows that were held are at the beginning of the history.
use Rattle.std.proofs.Common.{◌≡◌, ◌<◌, ◌+◌, ⊎_elim, ℕ, Bool, true, false, List, [], ◌∷◌, ◌++◌, map, length, get_or, refl, sym, ap, ◌∙◌, subst, arith, length-append, append-nil, Option, Some, None}
use Rattle.std.specs.Prelude.{◌↔◌, IsTrue}
use Rattle.std.specs.Bool.{OnTrue}
use Rattle.std.proofs.lemmas.Bool.{OnTrue_from}
use Rattle.std.proofs.lemmas.List.{length-map, get_or_default, append_cancel_right}
use Rattle.std.proofs.lemmas.List.Folds.{list_any_none}
use Rattle.std.proofs.Math.ListN.{get_or-map}
use Rattle.resil_pool.specs.Words.{JobRow, is_close, is_closed, MachineView, Event, Submit, Close, LoggedEvent}
use Rattle.resil_pool.specs.Lock.{log_event, events_in, closer_number, own_in, LockSeatState, WritesAtMost}
use Rattle.resil_pool.specs.Hold.{submitter, row_caller, AreRows, BeginsWithRows, TellsOfRows}
use Rattle.resil_pool.proofs.JoinedCallers.{at_place}
use Rattle.resil_pool.proofs.Logs.{events_in-append}
use Rattle.resil_pool.proofs.TurnLaws.{Turned, saw, sees-more}

pub rows_length : (rows : List JobRow) (events : List Event) → AreRows rows events → length events ≡ length rows
rows_length rows events are = sym (length-map events submitter) ∙ (ap length are ∙ length-map rows row_caller)

pub rows_at : (rows : List JobRow) (events : List Event) (place : ℕ) (e : Event) (r : JobRow) → place < length rows → AreRows rows events → submitter (get_or events place e) ≡ Some (get_or rows place r).caller
rows_at rows events place e r within are =
    let many : length (map row_caller rows) ≡ length rows = length-map rows row_caller in
    let inside : place < length (map row_caller rows) = omega arith in
    sym (get_or-map submitter events place e) ∙ (ap (λ (xs : List (Option ℕ)). get_or xs place (submitter e)) are
    ∙ (get_or_default (map row_caller rows) place (submitter e) (row_caller r) inside ∙ get_or-map row_caller rows place r))

-- submissions are no closing
no_close_here : (e : Event) (caller : ℕ) → submitter e ≡ Some caller → is_close e ≡ false
no_close_here (Submit id reply) caller is = refl
no_close_here _ caller is = absurd (cc)

no_close : (rows : List JobRow) (events : List Event) → AreRows rows events → is_closed events ≡ false
no_close rows events are = list_any_none is_close events (λ k d within.
    let many = rows_length rows events are in
    let row = at_place rows k (omega arith) in
    no_close_here (get_or events k d) _ (rows_at rows events k d row.0 (omega arith) are))

-- no list is itself with one more
no_longer : (xs ys : List LoggedEvent) (x : LoggedEvent) → ys ≡ xs → ¬ (ys ≡ xs ++ x ∷ [])
no_longer xs ys x same more =
    let sum : length (xs ++ x ∷ []) ≡ length xs + 1 = length-append xs (x ∷ []) in
    let equal : length xs ≡ length (xs ++ x ∷ []) = ap length (sym same ∙ more) in omega arith

-- where the history was that of the rows, the closing comes next; and what stands before a closing of the closer's is what the machine had
module _ (in_order : Bool) (rows : List JobRow) {old : LockSeatState} {m : MachineView} {entries : List LoggedEvent} {m' : MachineView} {new : LockSeatState} (t : Turned old m entries m' new) (closes : WritesAtMost Close entries) (iff : IsTrue in_order ↔ AreRows rows m.history) where
  written-after : (e : entries ≡ log_event None Close ∷ []) → events_in new.0.seen ≡ m.history ++ Close ∷ []
  written-after e = ap events_in (saw t ∙ ap (λ (xs : List LoggedEvent). t.me.0.seen ++ xs) e) ∙ (events_in-append t.me.0.seen (log_event None Close ∷ []) ∙ ap (λ (h : List Event). h ++ Close ∷ []) (sym t.acted.took.home.home.history))

  pub begins_after : is_closed (events_in new.0.seen) ≡ true → OnTrue in_order (BeginsWithRows rows (events_in new.0.seen))
  begins_after closed = OnTrue_from in_order _ (λ yes.
      let are : AreRows rows m.history = iff.0 yes in
      ⊎_elim
      (λ (e : entries ≡ []).
      let same : events_in new.0.seen ≡ m.history = ap events_in (saw t ∙ (ap (λ (xs : List LoggedEvent). t.me.0.seen ++ xs) e ∙ append-nil t.me.0.seen)) ∙ sym t.acted.took.home.home.history in
      let no : true ≡ false = sym closed ∙ (ap is_closed same ∙ no_close rows m.history are) in absurd (cc))
      (λ (e : entries ≡ log_event None Close ∷ []). record { submissions = m.history; rest = []; in_order = are; closed_next = written-after e })
      closes)

  pub told_of_rows : old.0.number ≡ closer_number → TellsOfRows in_order rows old.0.key.limits old.0.seen new.0.seen
  told_of_rows first closing = ⊎_elim
      (λ (e : entries ≡ []).
      let kept : own_in closer_number new.0.seen ≡ own_in closer_number old.0.seen = subst (λ (j : ℕ). own_in j new.0.seen ≡ own_in j old.0.seen) first (sees-more t (ap (own_in old.0.number) e)).same_own in
      absurd (no_longer (own_in closer_number old.0.seen) (own_in closer_number new.0.seen) (log_event None Close) kept closing.more_own))
      (λ (e : entries ≡ log_event None Close ∷ []).
      let ends : events_in new.0.seen ≡ events_in closing.before ++ Close ∷ [] = ap events_in closing.ends ∙ events_in-append closing.before (log_event None Close ∷ []) in
      let same : m.history ≡ events_in closing.before = append_cancel_right m.history (events_in closing.before) (Close ∷ []) (sym (written-after e) ∙ ends) in
      subst (λ (events : List Event). IsTrue in_order ↔ AreRows rows events) same iff)
      closes
