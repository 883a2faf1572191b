-- Each kind of step keeps what holds of a lock.
use Rattle.std.proofs.Common.{◌≡◌, ◌≢◌, ◌≤◌, ◌⊎◌, ◌↔◌, ◌+◌, ℕ, zero, suc, eqb, Bool, true, false, List, [], ◌∷◌, ◌++◌, filter, length, set, get_or, refl, sym, ap, ◌∙◌, subst, inl, inr, ⊎_elim, arith, length-set, length-append, eq-eqb, ne_eqb, Option, Some, None, get_or-set_same, append-nil}
use Rattle.std.proofs.lemmas.List.{set-get_or}
use Rattle.std.proofs.lemmas.List.Elements.{filter-append}
use mathlib.Core.Option as m
use mathlib.Core.List.{IsPrefix}
use mathlib.Core.Logic.{dite}
use native.Mathlib.Decide.{ℕ_discrete}
use lib.ListN.{get_elem?}
use prog.Atomic.{either}
use Rattle.atomic_table.specs.Table.{Step, Me, step, keeps, takes, gives, put_back, stepped, Allows, Enters, Splits, Joins}
use Rattle.atomic_table.proofs.Lists.{set_here, set_else, set_again}
use Rattle.resil_permit.proofs.Log.Prefixes.{prefix_self, prefix_trans, longer_of_whole}
use Rattle.resil_permit.proofs.Log.Places.{place_within}
use Rattle.resil_permit.proofs.Log.Seats.{seen_here, seen_still, log_opens, log_moves, log_enters, log_joins}
use Rattle.resil_lock.specs.declared.protocol.View.{View}
use Rattle.resil_lock.specs.declared.protocol.Phase.{Phase}
use Rattle.resil_lock.specs.declared.protocol.Phase.TheVariants.{Idle, Holding, Joining}
use Rattle.resil_lock.specs.declared.protocol.Rank.{Rank}
use Rattle.resil_lock.specs.declared.protocol.Rank.TheVariants.{Opener, Member, Worker, Visitor}
use Rattle.resil_lock.specs.Lock.{view_of, first_view, visitor_view, worker_view, member_view, made_one, holder_view, left_view, joining_view, joined_view, weigh, total, holds_lock, is_there, IsCovered, IsNumbering, IsSeat, FitsPlace, AreSeats, IsAtHome, LockInvariant, IsLocked, AfterTake, AfterRelease, HasAllOf, HasAllOfJoined, AfterJoin, AfterComing}
use Rattle.resil_lock.proofs.WeightLaws.{weigh-append, total-set, total-more, total-le, total-but}

both-ways : (b : Bool) → b ≡ true → b ≡ false → ⊥
both-ways b is not = let no : true ≡ false = sym is ∙ not in cc

none-kept : {E : Type 0} (log : List E) → filter (λ (e : E). false) log ≡ []
none-kept [] = refl
none-kept (e ∷ log) = none-kept log

abbrev pub state_or : {S : Type 0} → S → Option S → S
state_or other (Some state) = state
state_or other None = other

abbrev carried : {S : Type 0} → S → List (ℕ × Option S) → S
carried other [] = other
carried other (slot ∷ slots) = state_or other slot.1

-- the same seat after a step that left this word, in which the seat wrote this
record Grows {K E : Type 0} (word : ℕ) (v w : View K E) (new : List E) : Type 0 where
  pub key : w.key ≡ v.key
  pub rank : w.rank ≡ v.rank
  pub number : w.number ≡ v.number
  pub made : w.made ≡ v.made
  pub own : w.own ≡ v.own ++ new
  pub there : is_there w.phase ≡ true
  pub holds : (holds_lock w.phase ≡ true) ↔ (word ≡ 1)
  pub joins : (number : ℕ) (other : List E) → w.phase ≢ Joining number other

-- a seat that has the lock, and has seen this
now-holds : {K E : Type 0} (v : View K E) (seen : List E) (word : ℕ) → word ≡ 1 → Grows word v (holder_view v seen) []
now-holds v seen word one = record {
  key = refl;
  rank = refl;
  number = refl;
  made = refl;
  own = sym (append-nil v.own);
  there = refl;
  holds = (λ _. one, λ _. refl);
  joins = λ number other e. let no : ◌≡◌ {A = Phase _} Holding (Joining number other) = e in absurd (cc);
}

module _ {K E S : Type 0} {R : K → List E → S → Type 0} {F : Rank → List E → Type 0} {own : ℕ → E → Bool} {key : K} {words : List ℕ} {homes : List (m.Option (Option S))} {views : List (View K E)}
    (k : LockInvariant R F own key words homes views) where
  -- what a seat wrote weighs at most as much by one weight as by the other, if its rank says so
  lighter : (less more : E → ℕ) → ((who : Rank) (entries : List E) → F who entries → weigh less entries ≤ weigh more entries) → (j : ℕ) (u : View K E) → get_elem? views j ≡ m.some u → weigh less u.own ≤ weigh more u.own
  lighter less more fewer j u at = by_phase (is_there u.phase) refl
    where
      by_phase : (b : Bool) → is_there u.phase ≡ b → weigh less u.own ≤ weigh more u.own
      by_phase true is = fewer u.rank u.own ((k.seats.each j u at).seat.fits is)
      by_phase false not = let none = ap (weigh less) ((k.seats.each j u at).seat.spent not) in omega (arith, none)

  covers : (id : ℕ) (v : View K E) → get_elem? views id ≡ m.some v → IsCovered F k.log v.own
  covers id v at less more fewer =
      let all = total-but (λ (u : View K E). weigh less u.own) (λ (u : View K E). weigh more u.own) views id v at (lighter less more fewer) in
      let away = total-le (λ (u : View K E). weigh less u.own) (λ (u : View K E). weigh more u.own) k.gone (λ j u a. fewer u.rank u.own (k.gone_fits j u a)) in
      let left = k.wrote less in
      let right = k.wrote more in
      omega (arith, all, away, left, right)

  -- nobody holds the lock while the word is 0, and nobody else while this seat holds it
  nobody : get_or words 0 0 ≡ 0 → (j : ℕ) (u : View K E) → get_elem? views j ≡ m.some u → holds_lock u.phase ≡ true → ⊥
  nobody free j u at is = let one = ((k.seats.each j u at).seat.holds.0 is).1 in absurd (omega (arith, one, free))

  alone : (id : ℕ) (v : View K E) → get_elem? views id ≡ m.some v → holds_lock v.phase ≡ true → (j : ℕ) (u : View K E) → j ≢ id → get_elem? views j ≡ m.some u → holds_lock u.phase ≡ true → ⊥
  alone id v at holds j u apart e is = apart (((k.seats.each j u e).seat.holds.0 is).0 ∙ sym (((k.seats.each id v at).seat.holds.0 holds).0))

  -- the entries of the log that belong to another seat stay the same if no new entry belongs to it
  same-own : (new : List E) (j : ℕ) → filter (own j) new ≡ [] → filter (own j) (k.log ++ new) ≡ filter (own j) k.log
  same-own new j none = filter-append (own j) k.log new ∙ (ap (λ (es : List E). filter (own j) k.log ++ es) none ∙ append-nil (filter (own j) k.log))

  -- one seat has seen the whole log as it grows, and what the other seats know still holds
  moved : (n id : ℕ) (homes' : List (m.Option (Option S))) (v w : View K E) (new : List E) → get_elem? views id ≡ m.some v → is_there v.phase ≡ true → Grows n v w new → w.seen ≡ k.log ++ new → F w.rank w.own
      → ((j : ℕ) (u : View K E) → j ≢ id → get_elem? views j ≡ m.some u → holds_lock u.phase ≡ true → ⊥) → (IsNumbering F → (j : ℕ) → j ≢ id → filter (own j) new ≡ [])
      → length homes' ≡ 1 → (n ≡ 0) ⊎ (n ≡ 1) → (n ≡ 0 → IsAtHome R key (k.log ++ new) homes') → (n ≡ 1 → get_elem? homes' 0 ≡ m.some m.none) → (state : S) × R key (k.log ++ new) state
      → LockInvariant R F own key (set words 0 n) homes' (set views id w)
  moved n id homes' v w new at there grows whole fit others theirs slots bit free away stood =
      let one_word = k.one_word in
      let log' = k.log ++ new in
      let word : get_or (set words 0 n) 0 0 ≡ n = get_or-set_same words 0 n 0 (omega arith) in
      let lengths : length (set views id w) ≡ length views = length-set views id w in
      let inside = place_within views id v at in
      let old = k.seats.each id v at in
      let mine : FitsPlace F own key n id k.count log' id w = record {
        seat = record {
          begins = subst (λ (xs : List E). IsPrefix w.seen xs) whole (prefix_self w.seen);
          opener = λ is. ((old.seat.opener (sym grows.rank ∙ is)).0, grows.there);
          first = λ z. grows.rank ∙ old.seat.first z;
          keyed = λ _. grows.key ∙ old.seat.keyed there;
          fits = λ _. fit;
          spent = λ not. absurd (both-ways (is_there w.phase) grows.there not);
          holds = (λ is. (refl, grows.holds.0 is), λ t. grows.holds.1 t.1);
          whole = λ _. whole;
          joins = λ number other is. absurd (grows.joins number other is);
        };
        numbers = λ only. let a = old.numbers only in record { numbered = λ _. grows.number ∙ a.numbered there; counted = λ z. grows.made ∙ a.counted z; all_own = λ _. ap (filter (own id)) whole };
      } in record {
        log = log';
        gone = k.gone;
        holder = id;
        count = k.count;
        one_word = length-set words 0 n ∙ k.one_word;
        one_slot = slots;
        bit = subst (λ (x : ℕ). (x ≡ 0) ⊎ (x ≡ 1)) (sym word) bit;
        at_home = λ z. free (sym word ∙ z);
        away = λ z. away (sym word ∙ z);
        held = λ _. omega (arith, inside, lengths);
        stood = stood;
        seats = subst (λ (x : ℕ). AreSeats F own key x id k.count log' (set views id w)) (sym word)
            (log_moves k.seats log' (FitsPlace F own key n id k.count log') id v w at tt (λ j apart. none-kept log' ∙ sym (none-kept k.log)) mine later (seen_here views id v w at whole));
        wrote = λ weight.
            let one = total-set (λ (y : View K E). weigh weight y.own) views id v w at in
            let before = k.wrote weight in
            let here = ap (weigh weight) grows.own ∙ weigh-append weight v.own new in
            let there = weigh-append weight k.log new in
            omega (arith, one, before, here, there);
        gone_fits = k.gone_fits;
        counted = λ only. let c = k.counted only in (
          c.0 ∙ sym lengths,
          λ j le. let far : j ≢ id = λ e. absurd (omega (arith, le, lengths, inside, e)) in same-own new j (theirs only j far) ∙ c.1 j (omega (arith, le, lengths)),
        );
      }
    where
      later : (j : ℕ) (u : View K E) → j ≢ id → get_elem? views j ≡ m.some u → FitsPlace F own key (get_or words 0 0) k.holder k.count k.log j u → FitsPlace F own key n id k.count (k.log ++ new) j u
      later j u apart e f = record {
        seat = record {
          begins = prefix_trans u.seen k.log (k.log ++ new) f.seat.begins (new, refl);
          opener = f.seat.opener;
          first = f.seat.first;
          keyed = f.seat.keyed;
          fits = f.seat.fits;
          spent = f.seat.spent;
          holds = (λ is. absurd (others j u apart e is), λ t. absurd (apart t.0));
          whole = λ is. absurd (others j u apart e is);
          joins = λ number other is. absurd (others j u apart e (ap holds_lock is));
        };
        numbers = λ only. let a = f.numbers only in record { numbered = a.numbered; counted = a.counted; all_own = λ is. a.all_own is ∙ sym (same-own new j (theirs only j apart)) };
      }

  -- the seats change, and nothing else
  reseated : (count : ℕ) (gone now : List (View K E)) → AreSeats F own key (get_or words 0 0) k.holder count k.log now → length views ≤ length now
      → ((weight : E → ℕ) → total (λ v. weigh weight v.own) now + total (λ v. weigh weight v.own) gone ≡ weigh weight k.log) → ((i : ℕ) (v : View K E) → get_elem? gone i ≡ m.some v → F v.rank v.own)
      → (IsNumbering F → (count ≡ length now) × ((i : ℕ) → length now ≤ i → filter (own i) k.log ≡ [])) → LockInvariant R F own key words homes now
  reseated count gone now seats more wrote gone_fits counted = record {
    log = k.log;
    gone = gone;
    holder = k.holder;
    count = count;
    one_word = k.one_word;
    one_slot = k.one_slot;
    bit = k.bit;
    at_home = k.at_home;
    away = k.away;
    held = λ one. let few = k.held one in omega (arith, few, more);
    stood = k.stood;
    seats = seats;
    wrote = wrote;
    gone_fits = gone_fits;
    counted = counted;
  }

  -- a new last seat, which has seen nothing and written nothing
  newcomer : (from : K) (who : Rank) (number : ℕ) → from ≡ key → F who [] → who ≢ Opener → IsSeat F own key (get_or words 0 0) k.holder k.log (length views) (view_of from who number 0 0 Idle [] [])
  newcomer from who number same fit not =
      let some = place_within views k.seats.longest.index k.seats.longest.seat k.seats.longest.there in record {
        begins = (k.log, refl);
        opener = λ is. absurd (not is);
        first = λ none. absurd (omega (arith, none, some));
        keyed = λ _. same;
        fits = λ _. fit;
        spent = λ away. absurd (both-ways true refl away);
        holds = (λ is. absurd (both-ways false is refl), λ t. let here = t.0 in let within = k.held t.1 in absurd (omega (arith, here, within)));
        whole = λ is. absurd (both-ways false is refl);
        joins = λ number other e. absurd (both-ways false (ap holds_lock e) refl);
      }

  -- a seat without a number comes in
  comes : (from : K) (who : Rank) → from ≡ key → F who [] → who ≢ Opener → who ≢ Member → LockInvariant R F own key words homes (views ++ view_of from who 0 0 0 Idle [] [] ∷ [])
  comes from who same fit no_opener no_member =
      let w : View K E = view_of from who 0 0 0 Idle [] [] in
      let never : IsNumbering F → ⊥ = λ only. ⊎_elim no_opener no_member (only who [] fit) in
      let more = length-append views (w ∷ []) in
      reseated k.count k.gone (views ++ w ∷ []) (log_enters k.seats w (record { seat = newcomer from who 0 same fit no_opener; numbers = λ only. absurd (never only) })) (omega (arith, more))
      (λ weight. let last = total-more (λ (y : View K E). weigh weight y.own) views w in let before = k.wrote weight in omega (arith, last, before)) k.gone_fits (λ only. absurd (never only))

module _ {K E S : Type 0} (R : K → List E → S → Type 0) (F : Rank → List E → Type 0) (own : ℕ → E → Bool) (key : K) where
  pub takes-lock : (slots id : ℕ) (me : Me (Option S) (View K E)) → me.0.phase ≡ Idle → Allows (IsLocked R F own key) slots id me 0 (λ n. either (eqb n 0) 1 n) (AfterTake R F own (step slots 0 0 1 m.none) me)
  takes-lock slots id me idle s k _ at small =
      let n : ℕ = get_or s.words 0 0 in
      let one_slot = k.one_slot in
      let old = k.seats.each id me.0 at in
      let there : is_there me.0.phase ≡ true = ap is_there idle in
      dite (ℕ_discrete n 0)
      (λ hit.
      let home = k.at_home hit in
      let w : View K E = holder_view me.0 k.log in
      let none : k.log ++ [] ≡ k.log = append-nil k.log in
      let kept : LockInvariant R F own key (set s.words 0 1) (set s.homes 0 m.none) (set s.views id w) =
      moved k 1 id (set s.homes 0 m.none) me.0 w [] at there (now-holds me.0 k.log 1 refl) (sym none) (old.seat.fits there) (λ j u apart e is. nobody k hit j u e is) (λ _ j apart. refl)
      (length-set s.homes 0 m.none ∙ k.one_slot) (inr refl) (λ z. absurd (omega arith)) (λ _. set_here s.homes 0 m.none (omega (arith, one_slot)))
      (home.state, subst (λ (xs : List E). R key xs home.state) (sym none) home.stands) in (
        w,
        takes 0 (Some home.state),
        home.there,
        subst (λ b. IsLocked R F own key record { words = set s.words 0 (either b 1 n); homes = set s.homes 0 m.none; views = set s.views id w }) (sym (eq-eqb n 0 hit)) kept,
        record {
          took = λ _. record {
            view = refl;
            begins = old.seat.begins;
            same_own = λ only. let a = old.numbers only in subst (λ (j : ℕ). filter (own j) k.log ≡ filter (own j) me.0.seen) (sym (a.numbered there)) (sym (a.all_own there));
            fits = old.seat.fits there;
            covered = covers k id me.0 at;
            state = home.state;
            home = subst (λ (x : K). R x k.log home.state) (sym (old.seat.keyed there)) home.stands;
            slot = refl;
          };
          lost = λ miss. absurd (miss hit);
        },
      ))
      (λ miss. (
        me.0,
        keeps,
        tt,
        subst (λ b. IsLocked R F own key (stepped s 0 (either b 1 n) id me.1 me.0 keeps)) (sym (ne_eqb n 0 miss))
            (subst (λ (ws : List ℕ). LockInvariant R F own key ws s.homes (set s.views id me.0)) (sym (set-get_or s.words 0 0)) (subst (λ (vs : List (View K E)). LockInvariant R F own key s.words s.homes vs) (sym (set_again s.views id me.0 at)) k)),
        record { took = λ hit. absurd (miss hit); lost = λ _. refl },
      ))

  -- The holder puts the state back.
  pub releases-lock : (written : S → List E) (slots id : ℕ) (me : Me (Option S) (View K E)) (state : S) → me.0.phase ≡ Holding → me.1 ≡ (0, Some state) ∷ []
      → R me.0.key (me.0.seen ++ written state) state → F me.0.rank (me.0.own ++ written state)
      → (IsNumbering F → (j : ℕ) → j ≢ me.0.number → filter (own j) (written state) ≡ [])
      → Allows (IsLocked R F own key) slots id me 0 (λ _. 0) (λ _. AfterRelease written (step slots 0 0 0 m.none) me 0)
  releases-lock written slots id me state is has home fit theirs s k _ at small =
      let new = written state in
      let old = k.seats.each id me.0 at in
      let holds : holds_lock me.0.phase ≡ true = ap holds_lock is in
      let there : is_there me.0.phase ≡ true = ap is_there is in
      let one_slot = k.one_slot in
      let w : View K E = left_view me.0 new in
      let homes' = set s.homes 0 (m.some (Some state)) in
      let whole : w.seen ≡ k.log ++ new = ap (λ (xs : List E). xs ++ new) (old.seat.whole holds) in
      let stands : R key (k.log ++ new) state = subst (λ (x : K). R x (k.log ++ new) state) (old.seat.keyed there) (subst (λ (xs : List E). R me.0.key xs state) whole home) in
      let kept : LockInvariant R F own key (set s.words 0 0) homes' (set s.views id w) =
      moved k 0 id homes' me.0 w new at there
      (record { key = refl; rank = refl; number = refl; made = refl; own = refl; there = refl; holds = (λ no. absurd (both-ways false no refl), λ z. absurd (omega arith)); joins = λ number other e. absurd (both-ways false (ap holds_lock e) refl) })
      whole fit (alone k id me.0 at holds) (λ only j apart. theirs only j (λ e. apart (e ∙ (old.numbers only).numbered there)))
      (length-set s.homes 0 (m.some (Some state)) ∙ k.one_slot) (inl refl)
      (λ _. record { state = state; there = set_here s.homes 0 (m.some (Some state)) (omega (arith, one_slot)); stands = stands }) (λ z. absurd (omega arith)) (state, stands) in (
        w,
        gives,
        tt,
        subst (λ (c : List (ℕ × Option S)). IsLocked R F own key record { words = set s.words 0 0; homes = put_back s.homes c; views = set s.views id w }) (sym has) kept,
        record {
          slot = refl;
          seen = λ other e.
              let same_state : state ≡ other = sym (ap (carried other) has) ∙ ap (carried other) e in
              ap (λ (x : S). left_view me.0 (written x)) same_state;
        },
      )

  -- the holder that joined a seat away still holds the lock, and knows what it had of that seat
  pub ends-join : (slots id : ℕ) (me : Me (Option S) (View K E)) (number : ℕ) (other : List E) → me.0.phase ≡ Joining number other → Allows (IsLocked R F own key) slots id me 0 (λ n. n) (AfterJoin F own (step slots 0 0 0 m.none) me)
  ends-join slots id me number other joining s k _ at small =
      let n : ℕ = get_or s.words 0 0 in
      let seat = (k.seats.each id me.0 at).seat in
      let holds : holds_lock me.0.phase ≡ true = ap holds_lock joining in
      let there : is_there me.0.phase ≡ true = ap is_there joining in
      let w : View K E = holder_view me.0 me.0.seen in
      let none : k.log ++ [] ≡ k.log = append-nil k.log in
      let kept : LockInvariant R F own key (set s.words 0 n) s.homes (set s.views id w) =
      moved k n id s.homes me.0 w [] at there (now-holds me.0 me.0.seen n (seat.holds.0 holds).1) (seat.whole holds ∙ sym none) (seat.fits there) (alone k id me.0 at holds) (λ _ j apart. refl)
      k.one_slot k.bit (λ z. subst (λ (xs : List E). IsAtHome R key xs s.homes) (sym none) (k.at_home z)) k.away (k.stood.0, subst (λ (xs : List E). R key xs k.stood.0) (sym none) k.stood.1) in
      let all : HasAllOf F own number other me.0.seen = subst (λ (xs : List E). HasAllOf F own number other xs) (sym (seat.whole holds)) (seat.joins number other joining) in
      (w, keeps, tt, kept, record { slot = refl; view = refl; joined = subst (λ (p : Phase E). HasAllOfJoined F own p me.0.seen) (sym joining) all })

  pub enters-lock : (slots : ℕ) → F Visitor [] → Enters (IsLocked R F own key) slots 0 (λ n w. AfterComing {S = Option S} (step slots 0 0 0 m.none) (first_view key, []) n (w, []))
  enters-lock slots fit s k _ small = (visitor_view (first_view key), comes k key Visitor refl fit (λ e. let no : Visitor ≡ Opener = e in cc) (λ e. let no : Visitor ≡ Member = e in cc), refl)

  -- the opener makes a seat, whose number is its place if all seats have numbers
  makes-one : (who : Rank) (number id : ℕ) (v : View K E) → v.rank ≡ Opener → who ≢ Opener → F who [] → (IsNumbering F → number ≡ v.made) → Splits (IsLocked R F own key) id v (made_one v) (view_of v.key who number 0 0 Idle [] [])
  makes-one who number id v opens other fit named s k at =
      let Fits = FitsPlace F own key (get_or s.words 0 0) k.holder (k.count + 1) k.log in
      let old = k.seats.each id v at in
      let o = old.seat in
      let zero : id ≡ 0 = (o.opener opens).0 in
      let there : is_there v.phase ≡ true = (o.opener opens).1 in
      let left = made_one v in
      let right : View K E = view_of v.key who number 0 0 Idle [] [] in
      let changed = set s.views id left in
      let inside = place_within s.views id v at in
      let one : length changed ≡ length s.views = length-set s.views id left in
      let more : length (changed ++ right ∷ []) ≡ length changed + 1 = length-append changed (right ∷ []) in
      let mine : Fits id left = record {
        seat = record { begins = o.begins; opener = o.opener; first = o.first; keyed = o.keyed; fits = o.fits; spent = o.spent; holds = o.holds; whole = o.whole; joins = o.joins };
        numbers = λ only. let a = old.numbers only in record { numbered = a.numbered; counted = λ z. ap (λ (c : ℕ). c + 1) (a.counted z); all_own = a.all_own };
      } in
      let new : Fits (length s.views) right = record {
        seat = newcomer k v.key who number (o.keyed there) fit other;
        numbers = λ only. let c = k.counted only in record {
          numbered = λ _. named only ∙ ((old.numbers only).counted zero ∙ c.0);
          counted = λ none. absurd (omega (arith, none, inside));
          all_own = λ _. sym (c.1 (length s.views) (omega arith));
        };
      } in
      let seats = log_moves k.seats k.log Fits id v left at tt (λ j apart. refl) mine
      (λ j u apart e f. record { seat = f.seat; numbers = λ only. let a = f.numbers only in record { numbered = a.numbered; counted = λ z. absurd (apart (z ∙ sym zero)); all_own = a.all_own } })
      (seen_still s.views id v left at refl k.seats.longest) in
      reseated k (k.count + 1) k.gone (changed ++ right ∷ []) (log_enters seats right (subst (λ (j : ℕ). Fits j right) (sym one) new)) (omega (arith, one, more))
      (λ weight.
      let a = total-set (λ (y : View K E). weigh weight y.own) s.views id v left at in
      let b = total-more (λ (y : View K E). weigh weight y.own) changed right in
      let c = k.wrote weight in
      omega (arith, a, b, c))
      k.gone_fits (λ only. let c = k.counted only in let count = c.0 in (omega (arith, count, one, more), λ j le. c.1 j (omega (arith, le, one, more))))

  pub admits-one : (id : ℕ) (v : View K E) → v.rank ≡ Opener → F Member [] → Splits (IsLocked R F own key) id v (made_one v) (member_view v)
  admits-one id v opens fit = makes-one Member v.made id v opens (λ e. let no : Member ≡ Opener = e in cc) fit (λ _. refl)

  -- a worker's seat has no number, so there is none if all seats have numbers
  pub hires-one : (id : ℕ) (v : View K E) → v.rank ≡ Opener → F Worker [] → Splits (IsLocked R F own key) id v (made_one v) (worker_view v)
  hires-one id v opens fit =
      makes-one Worker 0 id v opens (λ e. let no : Worker ≡ Opener = e in cc) fit
      (λ only. absurd (⊎_elim (λ e. let no : Worker ≡ Opener = e in cc) (λ e. let no : Worker ≡ Member = e in cc) (only Worker [] fit)))

  -- the holder joins away a member's seat that is between two turns
  pub joins-one : (spent : K) (id : ℕ) (v : View K E) (other : ℕ) (u : View K E) → v.phase ≡ Holding → u.phase ≡ Idle → u.rank ≡ Member → Joins (IsLocked R F own key) id v other u (joining_view v u) (joined_view spent)
  joins-one spent id v other u holding idle member s k at apart there =
      let Fits = FitsPlace F own key (get_or s.words 0 0) k.holder k.count k.log in
      let both = joining_view v u in
      let gone : View K E = joined_view spent in
      let views' = set s.views id both in
      let last = set views' other gone in
      let there' : get_elem? s.views other ≡ m.some u = sym (set_else s.views id other both apart) ∙ there in
      let old = k.seats.each id v at in
      let old' = k.seats.each other u there' in
      let o = old.seat in
      let holds : holds_lock v.phase ≡ true = ap holds_lock holding in
      let present : is_there v.phase ≡ true = ap is_there holding in
      let present' : is_there u.phase ≡ true = ap is_there idle in
      let not_first : 0 ≢ other = λ e. let no : Member ≡ Opener = sym member ∙ old'.seat.first (sym e) in cc in
      let lengths : length last ≡ length s.views = length-set views' other gone ∙ length-set s.views id both in
      let all : HasAllOf F own u.number u.seen k.log = record {
        begins = old'.seat.begins;
        same_own = λ only. let a = old'.numbers only in subst (λ (j : ℕ). filter (own j) k.log ≡ filter (own j) u.seen) (sym (a.numbered present')) (sym (a.all_own present'));
      } in
      let mine : Fits id both = record {
        seat = record {
          begins = o.begins;
          opener = λ is. ((o.opener is).0, refl);
          first = o.first;
          keyed = λ _. o.keyed present;
          fits = λ _. o.fits present;
          spent = λ away. absurd (both-ways true refl away);
          holds = (λ _. o.holds.0 holds, λ _. refl);
          whole = λ _. o.whole holds;
          joins = λ number xs e. subst (λ (p : Phase E). HasAllOfJoined F own p k.log) e all;
        };
        numbers = λ only. let a = old.numbers only in record { numbered = λ _. a.numbered present; counted = a.counted; all_own = λ _. a.all_own present };
      } in
      let theirs : Fits other gone = record {
        seat = record {
          begins = (k.log, refl);
          opener = λ e. let no : Member ≡ Opener = e in absurd (cc);
          first = λ z. absurd (not_first (sym z));
          keyed = λ is. absurd (both-ways false is refl);
          fits = λ is. absurd (both-ways false is refl);
          spent = λ _. refl;
          holds = (λ is. absurd (both-ways false is refl), λ t. absurd (apart (t.0 ∙ sym ((o.holds.0 holds).0))));
          whole = λ is. absurd (both-ways false is refl);
          joins = λ number xs e. absurd (both-ways false (ap holds_lock e) refl);
        };
        numbers = λ _. record { numbered = λ is. absurd (both-ways false is refl); counted = λ z. absurd (not_first (sym z)); all_own = λ is. absurd (both-ways false is refl) };
      } in
      reseated k k.count (u ∷ k.gone) last
      (log_joins k.seats id other v u both gone at there' apart o.begins old'.seat.begins (o.whole holds ∙ sym (longer_of_whole v.seen u.seen k.log o.begins old'.seat.begins (inl (o.whole holds)))) mine theirs)
      (omega (arith, lengths))
      (λ weight.
      let a = total-set (λ (z : View K E). weigh weight z.own) s.views id v both at in
      let b = total-set (λ (z : View K E). weigh weight z.own) views' other u gone there in
      let c = k.wrote weight in
      omega (arith, a, b, c))
      gone-fit (λ only. let c = k.counted only in (c.0 ∙ sym lengths, λ j le. c.1 j (omega (arith, le, lengths))))
    where
      gone-fit : (j : ℕ) (y : View K E) → get_elem? (u ∷ k.gone) j ≡ m.some y → F y.rank y.own
      gone-fit zero y e = subst (λ (z : View K E). F z.rank z.own) (m.some-injective u y e) ((k.seats.each other u (sym (set_else s.views id other (joining_view v u) apart) ∙ there)).seat.fits (ap is_there idle))
      gone-fit (suc j) y e = k.gone_fits j y e

  -- the state in the slot, and the opener's seat
  pub opens-lock : (state : S) → R key [] state → F Opener [] → LockInvariant R F own key (0 ∷ []) (m.some (Some state) ∷ []) (first_view key ∷ [])
  opens-lock state home fit = record {
    log = [];
    gone = [];
    holder = 0;
    count = 1;
    one_word = refl;
    one_slot = refl;
    bit = inl refl;
    at_home = λ _. record { state = state; there = refl; stands = home };
    away = λ z. absurd (omega arith);
    held = λ z. absurd (omega arith);
    stood = (state, home);
    seats = log_opens (FitsPlace F own key 0 0 1 []) (first_view key) refl tt (record {
      seat = record {
        begins = ([], refl);
        opener = λ _. (refl, refl);
        first = λ _. refl;
        keyed = λ _. refl;
        fits = λ _. fit;
        spent = λ _. refl;
        holds = (λ is. absurd (both-ways false is refl), λ t. let no = t.1 in absurd (omega (arith, no)));
        whole = λ _. refl;
        joins = λ number other e. absurd (both-ways false (ap holds_lock e) refl);
      };
      numbers = λ _. record { numbered = λ _. refl; counted = λ _. refl; all_own = λ _. refl };
    });
    wrote = λ weight. refl;
    gone_fits = λ j u e. absurd (m.some-ne-none u (sym e));
    counted = λ _. (refl, λ j le. refl);
  }

-- what is known after a step, with another name for the seat before it
pub tells-at : {K E S : Type 0} (written : S → List E) (how : Step (Option S)) (stored : ℕ) (old new seat : Me (Option S) (View K E)) → old ≡ new → AfterRelease written how old stored seat → AfterRelease written how new stored seat
tells-at written how stored old new seat is told = subst (λ (me : _). AfterRelease written how me stored seat) is told

-- after a join the holder is as before
pub told-of-joined : {K E S : Type 0} (F : Rank → List E → Type 0) (own : ℕ → E → Bool) (how : Step (Option S)) (found : ℕ) (old mid new : Me (Option S) (View K E)) (u : View K E) → old.0.phase ≡ Holding → mid ≡ (joining_view old.0 u, old.1)
    → AfterJoin F own how mid found new → (new ≡ old) × HasAllOf F own u.number u.seen old.0.seen
told-of-joined {K} {E} {S} F own how found old mid new u holds is told =
    let t : AfterJoin F own how (joining_view old.0 u, old.1) found new = subst (λ (me : Me (Option S) (View K E)). AfterJoin F own how me found new) is told in
    let back : holder_view old.0 old.0.seen ≡ old.0 = ap (λ (p : Phase E). view_of old.0.key old.0.rank old.0.number old.0.made old.0.turns p old.0.seen old.0.own) (sym holds) in
    (λ i. ((t.view ∙ back) i, t.slot i), t.joined)
