-- What holds of a lock between any two steps, read for the turn.
use Rattle.std.proofs.Common.{◌≡◌, ◌⊎◌, ℕ, zero, suc, ◌≤◌, Bool, true, false, cond, List, [], ◌∷◌, filter, length, Contains, refl, sym, ap, ◌∙◌, subst, inl, inr, ⊎_elim, arith, eq-eqb, Option}
use Rattle.std.proofs.lemmas.List.Elements.{All-contains, All-contains_itself, All-filter, Contains-append_right}
use mathlib.Core.Option as m
use lib.ListN.{get_elem?}
use Rattle.resil_rule.proofs.RunningLaws.{running-within_workers}
use Rattle.resil_rule.proofs.WorkerLaws.{workers-within_opening}
use Rattle.resil_lock.specs.declared.protocol.Phase.{Phase}
use Rattle.resil_lock.specs.declared.protocol.Phase.TheVariants.{Joined}
use Rattle.resil_lock.specs.Lock.{holds_lock, is_there}
use Rattle.resil_lock.specs.BetweenSteps.{IsSeatAt, HoldsBetweenSteps}
use Rattle.resil_pool.specs.Words.{LoggedEvent, PoolOpening, PoolState}
use Rattle.resil_pool.specs.Lock.{is_own_note, is_own, own_in, View, StandsFor, MayHaveWritten}
use Rattle.resil_pool.proofs.Logs.{numbering, due-runs}
use Rattle.resil_pool.specs.BetweenTurns.{StandWithTheirCallers, HoldsBetweenTurns}

-- the holder of the turn is there
holder_there : (p : Phase LoggedEvent) → holds_lock p ≡ true → is_there p ≡ true
holder_there Joined holds = holds
holder_there _ holds = refl

module _ {A : Type 0} where
  -- a list has an element at an index, or ends before it
  at_or_beyond : (l : List A) (i : ℕ) → ((a : A) × (get_elem? l i ≡ m.some a)) ⊎ (length l ≤ i)
  at_or_beyond [] i = inr (omega arith)
  at_or_beyond (x ∷ xs) zero = inl (x, refl)
  at_or_beyond (x ∷ xs) (suc i) = ⊎_elim (λ t. inl t) (λ le. inr (omega arith)) (at_or_beyond xs i)

  module _ (p : A → Bool) where
    -- an element that passes the test is kept
    Contains-filter : (xs : List A) (y : A) → Contains xs y → p y ≡ true → Contains (filter p xs) y
    Contains-filter [] y (k, inside, is) passes = absurd (omega arith)
    Contains-filter (x ∷ xs) y (zero, inside, is) passes = subst (λ (b : Bool). Contains (cond b (x ∷ filter p xs) (filter p xs)) y) (sym (ap p is ∙ passes)) (0, omega arith, is)
    Contains-filter (x ∷ xs) y (suc k, inside, is) passes = later (p x) (Contains-filter xs y (k, omega arith, is) passes)
      where
        later : (b : Bool) → Contains (filter p xs) y → Contains (cond b (x ∷ filter p xs) (filter p xs)) y
        later true c = Contains-append_right (x ∷ []) (filter p xs) y c
        later false c = c

    -- what is kept was there
    Contains-from_filter : (xs : List A) (y : A) → Contains (filter p xs) y → Contains xs y
    Contains-from_filter xs y c = All-contains (Contains xs) (filter p xs) y (All-filter p (Contains xs) xs (All-contains_itself xs)) c

module _ (opening : PoolOpening) (words : List ℕ) (homes : List (m.Option (Option PoolState))) (views : List View) (k : HoldsBetweenSteps StandsFor MayHaveWritten is_own opening words homes views) where
  submissions : StandWithTheirCallers k.log views
  submissions submission id reply c is =
      let mine_is : is_own id.caller submission ≡ true = ap (is_own_note id.caller) is ∙ eq-eqb id.caller id.caller refl in
      let mine : Contains (own_in id.caller k.log) submission = Contains-filter (is_own id.caller) k.log submission c mine_is in
      ⊎_elim
      (λ (t : (v : View) × IsSeatAt views id.caller v). (
        t.0,
        t.1,
        λ here. Contains-from_filter (is_own id.caller) t.0.seen submission (subst (λ (xs : List LoggedEvent). Contains xs submission) (sym ((k.numbers numbering).all_own id.caller t.0 t.1 here)) mine),
      ))
      (λ (beyond : length views ≤ id.caller). let none = subst (λ (xs : List LoggedEvent). Contains xs submission) ((k.numbers numbering).no_others id.caller beyond) mine in let inside = none.1 in absurd (omega arith))
      (at_or_beyond views id.caller)

  pub holds_between_turns : HoldsBetweenTurns opening.limits words homes views
  holds_between_turns =
      let n = k.numbers numbering in record {
        one_word = k.one_word;
        one_slot = k.one_slot;
        bit = k.bit;
        taken = k.taken;
        free = k.free;
        in_slot = k.in_slot;
        out = k.out;
        history = k.log;
        legal = k.stood.1.legal;
        longest = k.longest;
        at_home = λ state at. (k.at_home state at).home;
        holder = λ index v at is. record { sized = ap (λ (o : PoolOpening). o.limits) (k.keyed index v at (holder_there v.phase is)); whole = k.holder index v at is };
        opened = λ index v at is. ap (λ (o : PoolOpening). o.limits) (k.keyed index v at is);
        numbered = n.numbered;
        apart = λ index other v w at at' differ is is' same. differ (sym (n.numbered index v at is) ∙ (same ∙ n.numbered other w at' is'));
        own = n.all_own;
        no_others = n.no_others;
        submissions = submissions;
        at_once = λ sizes. omega (arith, running-within_workers _ _ k.stood.1.legal, workers-within_opening _ _ sizes.max.0 k.stood.1.legal);
        out_runs = due-runs opening k.log k.stood.0.machine k.stood.1;
        closer = record { seat = k.opener.seat; first = k.opener.first; there = k.opener.there; number = n.numbered 0 k.opener.seat k.opener.first k.opener.there; counted = n.counted k.opener.seat k.opener.first };
      }
