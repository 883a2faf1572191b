-- Lemmas on permit histories.
use Rattle.std.proofs.Common.{◌≡◌, ◌≢◌, ℕ, ◌+◌, ◌<◌, ◌≤◌, cond, List, [], ◌∷◌, ◌++◌, length, refl, sym, ap, ◌∙◌, subst, arith, zero-add, append-nil}
use Rattle.std.specs.Prelude.{◌==◌}
use Rattle.std.proofs.lemmas.Bool.{eqb-true}
use Rattle.std.proofs.lemmas.List.{append_assoc}
use Rattle.std.proofs.lemmas.List.Elements.{filter-append}
use Rattle.std.proofs.lemmas.List.Sums.{count_by-le-length, sum_by-append}
use Rattle.resil_permit.specs.declared.event.PermitEvent.{PermitEvent}
use Rattle.resil_permit.specs.History.{seat_of, is_event_of, events_of_seat, copies_of, without_one, holders_after, holders_from, holders, IsAllowed, IsLegalFrom, IsLegal}

pub events_of_seat-append : (s : ℕ) (xs ys : List PermitEvent) → events_of_seat s (xs ++ ys) ≡ events_of_seat s xs ++ events_of_seat s ys
events_of_seat-append s xs ys = filter-append (is_event_of s) xs ys

-- an event is none of another seat's
pub events_of_seat-other : (s : ℕ) (events : List PermitEvent) (e : PermitEvent) → seat_of e ≢ s → events_of_seat s (events ++ e ∷ []) ≡ events_of_seat s events
events_of_seat-other s events e apart = grind (arith, events_of_seat-append s events (e ∷ []), append-nil (events_of_seat s events))

pub copies_of-cons : (s x : ℕ) (multiset : List ℕ) → copies_of s (x ∷ multiset) ≡ cond (x == s) 1 0 + copies_of s multiset
copies_of-cons s x multiset = sum_by-append (λ y. cond (y == s) 1 0) (x ∷ []) multiset ∙ ap (λ n. n + copies_of s multiset) (zero-add (cond (x == s) 1 0))

-- without one entry of a seat, that seat is there once less, and each other seat as often
pub copies_of-without_one : (s t : ℕ) (multiset : List ℕ) → 0 < copies_of t multiset → copies_of s (without_one t multiset) + cond (t == s) 1 0 ≡ copies_of s multiset
copies_of-without_one s t [] h = absurd (omega arith)
copies_of-without_one s t (x ∷ xs) h =
    grind (arith, copies_of-without_one s t xs, copies_of-cons s x xs, copies_of-cons t x xs, copies_of-cons s x (without_one t xs), eqb-true x t)

pub length-without_one : (s : ℕ) (multiset : List ℕ) → 0 < copies_of s multiset → length (without_one s multiset) + 1 ≡ length multiset
length-without_one s [] h = absurd (omega arith)
length-without_one s (x ∷ xs) h = grind (arith, length-without_one s xs, copies_of-cons s x xs)

pub holders_from-append : (multiset : List ℕ) (xs ys : List PermitEvent) → holders_from multiset (xs ++ ys) ≡ holders_from (holders_from multiset xs) ys
holders_from-append multiset [] ys = refl
holders_from-append multiset (e ∷ es) ys = holders_from-append (holders_after multiset e) es ys

pub holders-push : (events : List PermitEvent) (e : PermitEvent) → holders (events ++ e ∷ []) ≡ holders_after (holders events) e
holders-push events e = holders_from-append [] events (e ∷ [])

IsLegalFrom-push : (max : ℕ) (before events : List PermitEvent) (e : PermitEvent) → IsLegalFrom max before events → IsAllowed max (before ++ events) e → IsLegalFrom max before (events ++ e ∷ [])
IsLegalFrom-push max before [] e legal may = (subst (λ es. IsAllowed max es e) (append-nil before) may, tt)
IsLegalFrom-push max before (x ∷ xs) e legal may = (legal.0, IsLegalFrom-push max (before ++ x ∷ []) xs e legal.1 (subst (λ es. IsAllowed max es e) (sym (append_assoc before (x ∷ []) xs)) may))

pub IsLegal-push : (max : ℕ) (events : List PermitEvent) (e : PermitEvent) → IsLegal max events → IsAllowed max events e → IsLegal max (events ++ e ∷ [])
IsLegal-push max events e legal may = IsLegalFrom-push max [] events e legal may

-- what holds of no event, and after each event that is allowed, holds of every legal history
module _ (max : ℕ) (P : List PermitEvent → Type 0) (more : (events : List PermitEvent) (e : PermitEvent) → P events → IsAllowed max events e → P (events ++ e ∷ [])) where
  holds_from : (before events : List PermitEvent) → P before → IsLegalFrom max before events → P (before ++ events)
  holds_from before [] p legal = subst P (sym (append-nil before)) p
  holds_from before (e ∷ es) p legal = subst P (append_assoc before (e ∷ []) es) (holds_from (before ++ e ∷ []) es (more before e p legal.0) legal.1)

  pub by_events : P [] → (events : List PermitEvent) → IsLegal max events → P events
  by_events none events legal = holds_from [] events none legal

-- a prefix of a legal history is legal
IsLegalFrom-prefix : (max : ℕ) (before events rest : List PermitEvent) → IsLegalFrom max before (events ++ rest) → IsLegalFrom max before events
IsLegalFrom-prefix max before [] rest legal = tt
IsLegalFrom-prefix max before (e ∷ es) rest legal = (legal.0, IsLegalFrom-prefix max (before ++ e ∷ []) es rest legal.1)

pub IsLegal-prefix : (max : ℕ) (events rest : List PermitEvent) → IsLegal max (events ++ rest) → IsLegal max events
IsLegal-prefix max events rest legal = IsLegalFrom-prefix max [] events rest legal

pub copies_of_within : (s : ℕ) (multiset : List ℕ) → copies_of s multiset ≤ length multiset
copies_of_within s multiset = count_by-le-length (λ x. x == s) multiset
