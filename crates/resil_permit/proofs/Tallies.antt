-- What the events of a legal history add up to: the permits that are held, those that are retired, and those in use.
use Rattle.std.proofs.Common.{◌≡◌, ℕ, ◌+◌, ◌≤◌, ◌==◌, cond, Bool, List, [], ◌∷◌, ◌++◌, length, refl, ap, ◌∙◌, arith}
use Rattle.std.specs.Prelude.{count_by}
use Rattle.std.proofs.lemmas.List.Sums.{sum_by-append}
use Rattle.resil_permit.specs.declared.event.PermitEvent.{PermitEvent}
use Rattle.resil_permit.specs.declared.event.PermitEvent.TheVariants.{Took, Gave, Refused, Retired, Raised}
use Rattle.resil_permit.specs.History.{seat_of, is_retiring, is_raising, taken_count, events_of_seat, retired_count, raised_count, let_go_count, copies_of, without_one, holders_after, holders, in_use_count, IsAllowed, IsLegal}
use Rattle.resil_permit.proofs.Histories.{copies_of-cons, copies_of-without_one, length-without_one, holders-push, by_events, events_of_seat-append}

-- the multiset of seats that retired a permit and have not raised it, each as often as it has one retired, after one more event
abbrev retirees_after : List ℕ → PermitEvent → List ℕ
retirees_after multiset (Took s) = multiset
retirees_after multiset (Gave s) = multiset
retirees_after multiset (Refused s) = multiset
retirees_after multiset (Retired s) = s ∷ multiset
retirees_after multiset (Raised s) = without_one s multiset

pub all-append : (kind : PermitEvent → Bool) (xs ys : List PermitEvent) → count_by kind (xs ++ ys) ≡ count_by kind xs + count_by kind ys
all-append kind xs ys = sum_by-append (λ x. cond (kind x) 1 0) xs ys

-- what the counts of each seat, and of all, add up to, where these seats hold permits and these have retired some
pub record IsTallied (max : ℕ) (events : List PermitEvent) (holding keeping : List ℕ) : Type 0 where
  pub held : (s : ℕ) → copies_of s holding + let_go_count s events ≡ taken_count s events
  pub retired : (s : ℕ) → copies_of s keeping + raised_count s events ≡ retired_count s events
  pub all : length keeping + count_by is_raising events ≡ count_by is_retiring events
  pub within : length holding + length keeping ≤ max

-- one event more of a seat's own is one more of its kind
pub more : (kind : PermitEvent → Bool) (s : ℕ) (events : List PermitEvent) (e : PermitEvent)
    → count_by kind (events_of_seat s (events ++ e ∷ [])) ≡ count_by kind (events_of_seat s events) + cond (kind e) (cond (seat_of e == s) 1 0) 0
more kind s events e =
    ap (count_by kind) (events_of_seat-append s events (e ∷ []))
    ∙ (sum_by-append (λ x. cond (kind x) 1 0) (events_of_seat s events) (events_of_seat s (e ∷ [])) ∙ grind arith)

-- what one event more changes
pub ruleset one_more = (more, all-append, copies_of-cons, copies_of-without_one, length-without_one)

tallied_more : (max : ℕ) (events : List PermitEvent) (keeping : List ℕ) (e : PermitEvent) → IsTallied max events (holders events) keeping
    → IsAllowed max events e → IsTallied max (events ++ e ∷ []) (holders_after (holders events) e) (retirees_after keeping e)
tallied_more max events keeping (Took t) tallied may = omega (arith, one_more)
tallied_more max events keeping (Gave t) tallied may = omega (arith, one_more)
tallied_more max events keeping (Refused t) tallied may = omega (arith, one_more)
tallied_more max events keeping (Retired t) tallied may = omega (arith, one_more)
tallied_more max events keeping (Raised t) tallied may = omega (arith, one_more)

pub tallied : (max : ℕ) (events : List PermitEvent) → IsLegal max events → (keeping : List ℕ) × IsTallied max events (holders events) keeping
tallied max events legal =
    by_events max (λ es. (keeping : List ℕ) × IsTallied max es (holders es) keeping)
    (λ es e t may. (retirees_after t.0 e, rw holders-push (tallied_more max es t.0 e t.1 may)))
    ([], record { held = λ s. refl; retired = λ s. refl; all = refl; within = omega arith }) events legal

-- no more permits are in use than there are
pub in_use : (max : ℕ) (events : List PermitEvent) → IsLegal max events → in_use_count max events ≤ max
in_use max events legal = let all = tallied max events legal in omega arith
