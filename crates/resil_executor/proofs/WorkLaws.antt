-- What a worker has done, turn by turn, and what its clause rules out, for any body.
use Rattle.std.proofs.Common.{ℕ, ◌≡◌, ◌≤◌, ◌⊎◌, inl, inr, List, [], ◌∷◌, ◌++◌, ◌∙◌, Option, Some, length, sym, refl, ap, subst, arith, append-nil, append_assoc, length-append}
use Rattle.std.specs.Prelude.{Contains}
use Rattle.std.proofs.lemmas.List.{append_cancel_left}
use Rattle.std.proofs.lemmas.List.Elements.{filter_map-append, Contains-append_cases}
use Rattle.resil_executor.specs.Words.{IsPrefix, Sizes, RuleView, Id, Event, Ghosts, Rank, View, AfterRounds}
use Rattle.resil_rule.specs.declared.event.Event.TheVariants as event
use Rattle.resil_lock.specs.declared.protocol.Rank.TheVariants as rank
use Rattle.resil_lock.proofs.RoundLaws.{after-rounds}
use Rattle.resil_lock.specs.declared.log.Note.TheVariants as note
use Rattle.resil_executor.specs.declared.worker.AtWork.{AtWork}
use Rattle.resil_executor.specs.Log.{Entry, Note, MayHaveWritten, picked_id, ended_id, job_of, entry_of, entries_of, accepted_in, picked_in, ended_in}
use Rattle.resil_executor.specs.Turn.{Picks, HasPicked, HasRested, HasOneInHand, HasWorked, WasRun, SeesLast}
use Rattle.resil_executor.specs.Laws.{PickedIsEnded, EndedWasPicked, OnlyWorkersPick}
use Rattle.resil_executor.proofs.LogLaws.{one-some, one-none, more-some, more-none, still-there, contains-one, nothing-there, length-more, prefix-trans, prefix-more, begins-either}

module _ {W : Type 0} where
  still-accepted : (xs ys : List (Entry W)) (job : Id × W) → IsPrefix xs ys → Contains (accepted_in xs) job → Contains (accepted_in ys) job
  still-accepted xs ys job p there = subst (λ (l : List (Entry W)). Contains (accepted_in l) job) p.1 (still-there (λ (e : Entry W). job_of e.note e.payload) xs p.0 job there)

  -- if at most one job was picked, at most one was in hand
  one-in_hand : (part : List (Entry W)) → length (picked_in part) ≤ 1 → HasOneInHand part
  one-in_hand part few begun p =
      let more = ap (λ (l : List (Entry W)). length (picked_in l)) p.1 in
      let both = length-more (λ (e : Entry W). picked_id e.note) begun p.0 in
      omega (arith, few, more, both)

  -- and this still holds after a part whose jobs were all ended
  still-in_hand : (xs ys : List (Entry W)) → ended_in xs ≡ picked_in xs → HasOneInHand xs → HasOneInHand ys → HasOneInHand (xs ++ ys)
  still-in_hand xs ys same one other begun p = elim (begins-either xs ys begun p) [
    | inl q ↦ one begun q
    | inr q ↦ (
        let few = other q.0 q.2 in
        let ends = ap length same in
        let picked = ap (λ (l : List (Entry W)). length (picked_in l)) q.1 ∙ length-more (λ (e : Entry W). picked_id e.note) xs q.0 in
        let ended = ap (λ (l : List (Entry W)). length (ended_in l)) q.1 ∙ length-more (λ (e : Entry W). ended_id e.note) xs q.0 in
        omega (arith, few, ends, picked, ended)
        )
  ]

module _ {W K : Type 0} where
  last-begins : (limits : Sizes) (before after : View K (Entry W)) (event : Event) → SeesLast limits before event after → IsPrefix before.seen after.seen
  last-begins limits before after event s = prefix-more before.seen s.log _ after.seen s.begins s.ends

module _ {W C O K : Type 0} (limits : Sizes) (HasRun : C → W → O → C → Type 0) where
  pub works-none : (a : View K (Entry W)) → HasWorked limits HasRun a a
  works-none a = record { begins = ([], append-nil a.seen); part = []; wrote = sym (append-nil a.own); same = refl; one_at_once = one-in_hand [] (omega arith); ran = λ id there. absurd (nothing-there [] id refl there) }

  pub rested-works : (a b : View K (Entry W)) → HasRested limits a b → HasWorked limits HasRun a b
  rested-works a b r = record {
    begins = r.begins;
    part = r.part;
    wrote = r.wrote;
    same = r.ended ∙ sym r.picked;
    one_at_once = one-in_hand r.part (let none = ap length r.picked in omega (arith, none));
    ran = λ id there. absurd (nothing-there (ended_in r.part) id r.ended there);
  }

  pub ran-works : (a b c : View K (Entry W)) (id ran_id : Id) (work : W) → HasPicked limits id work a b → SeesLast limits b (event.Finish ran_id) c → ran_id ≡ id → WasRun HasRun work → HasWorked limits HasRun a c
  ran-works a b c id ran_id work p f same_id ran = record {
    begins = prefix-trans a.seen b.seen c.seen p.begins (last-begins limits b c (event.Finish ran_id) f);
    part = p.entry ∷ end ∷ [];
    wrote = f.wrote ∙ (ap (λ (l : List (Entry W)). l ++ end ∷ []) p.wrote ∙ append_assoc a.own (p.entry ∷ []) (end ∷ []));
    same = ended ∙ sym picked;
    one_at_once = one-in_hand (p.entry ∷ end ∷ []) (let one = ap length picked in omega (arith, one));
    ran = λ x there.
        let is : id ≡ x = contains-one id x (subst (λ (l : List Id). Contains l x) ended there) in
        subst (λ (i : Id). (w : W) × Contains (accepted_in c.seen) (i, w) × WasRun HasRun w) is (work, still-accepted b.seen c.seen (id, work) (last-begins limits b c (event.Finish ran_id) f) p.known, ran);
  }
    where
      end : Entry W
      end = record { note = note.Event (event.Finish ran_id); payload = f.work }

      ended : ended_in (p.entry ∷ end ∷ []) ≡ id ∷ []
      ended = more-some (λ (e : Entry W). ended_id e.note) (p.entry ∷ []) end id (ap Some same_id) ∙ ap (λ (l : List Id). l ++ id ∷ []) (more-none (λ (e : Entry W). ended_id e.note) [] p.entry p.ended)

      picked : picked_in (p.entry ∷ end ∷ []) ≡ id ∷ []
      picked = more-none (λ (e : Entry W). picked_id e.note) (p.entry ∷ []) end refl ∙ more-some (λ (e : Entry W). picked_id e.note) [] p.entry id p.picked

  pub works-trans : (a b c : View K (Entry W)) → HasWorked limits HasRun a b → HasWorked limits HasRun b c → HasWorked limits HasRun a c
  works-trans a b c x y = record {
    begins = prefix-trans a.seen b.seen c.seen x.begins y.begins;
    part = x.part ++ y.part;
    wrote = y.wrote ∙ (ap (λ (l : List (Entry W)). l ++ y.part) x.wrote ∙ append_assoc a.own x.part y.part);
    same = both ∙ (ap (λ (l : List Id). l ++ ended_in y.part) x.same ∙ (ap (λ (l : List Id). picked_in x.part ++ l) y.same ∙ sym (filter_map-append (λ (e : Entry W). picked_id e.note) x.part y.part)));
    one_at_once = still-in_hand x.part y.part x.same x.one_at_once y.one_at_once;
    ran = λ id there. elim (split id there) [
      | inl old ↦ (let was = x.ran id old in (was.0, still-accepted b.seen c.seen (id, was.0) y.begins was.1, was.2))
      | inr new ↦ y.ran id new
    ];
  }
    where
      both : ended_in (x.part ++ y.part) ≡ ended_in x.part ++ ended_in y.part
      both = filter_map-append (λ (e : Entry W). ended_id e.note) x.part y.part

      split : (id : Id) → Contains (ended_in (x.part ++ y.part)) id → Contains (ended_in x.part) id ⊎ Contains (ended_in y.part) id
      split id there = Contains-append_cases (ended_in x.part) (ended_in y.part) id (subst (λ (l : List Id). Contains l id) both there)

module _ {W H C O : Type 0} {keeps : Ghosts H} (HasRun : C → W → O → C → Type 0) where
  -- what one round of a worker leaves
  abbrev HasGone : AtWork W H C keeps → AtWork W H C keeps → Type 0
  HasGone x y =
      (y.pool ≡ x.pool) × (y.worker.ghost_name ≡ x.worker.ghost_name) × (y.context.ghost_name ≡ x.context.ghost_name)
      × HasWorked x.pool.now.lock.table.shared.key.limits HasRun x.worker.now.seat.me.0 y.worker.now.seat.me.0

  gone-both : (x y z : AtWork W H C keeps) → HasGone x y → HasGone y z → HasGone x z
  gone-both x y z a b = (
    b.0 ∙ a.0,
    b.1 ∙ a.1,
    b.2 ∙ a.2,
    works-trans _ HasRun _ _ _ a.3 (subst (λ (p : _). HasWorked p.now.lock.table.shared.key.limits HasRun y.worker.now.seat.me.0 z.worker.now.seat.me.0) a.0 b.3),
  )

  -- and what all rounds leave
  pub gone-in_all : (rounds : ℕ) (x y : AtWork W H C keeps) → AfterRounds HasGone rounds x y → HasGone x y
  gone-in_all = after-rounds HasGone HasGone (λ x. (refl, refl, refl, works-none _ HasRun _)) gone-both

module _ {W C O : Type 0} (K : Type 0) (HasRun : C → W → O → C → Type 0) where
  pub picked_ended : PickedIsEnded K HasRun
  picked_ended limits before after id work p w =
      let part : p.entry ∷ [] ≡ w.part = append_cancel_left before.own (p.entry ∷ []) w.part (sym p.wrote ∙ w.wrote) in
      let none : ended_in w.part ≡ [] = ap ended_in (sym part) ∙ one-none (λ (e : Entry W). ended_id e.note) p.entry p.ended in
      let some : picked_in w.part ≡ id ∷ [] = ap picked_in (sym part) ∙ one-some (λ (e : Entry W). picked_id e.note) p.entry id p.picked in
      let both : ◌≡◌ {A = List Id} [] (id ∷ []) = sym none ∙ (w.same ∙ some) in
      absurd (cc both)

  pub ended_picked : EndedWasPicked K HasRun
  ended_picked limits before between after id other work p f w =
      let end : Entry W = record { note = note.Event (event.Finish other); payload = f.work } in
      let own = f.wrote ∙ (ap (λ (l : List (Entry W)). l ++ end ∷ []) p.wrote ∙ append_assoc before.own (p.entry ∷ []) (end ∷ [])) in
      let part : p.entry ∷ end ∷ [] ≡ w.part = append_cancel_left before.own (p.entry ∷ end ∷ []) w.part (sym own ∙ w.wrote) in
      let ended : ended_in (p.entry ∷ end ∷ []) ≡ other ∷ [] = more-some (λ (e : Entry W). ended_id e.note) (p.entry ∷ []) end other refl ∙ ap (λ (l : List Id). l ++ other ∷ []) (one-none (λ (e : Entry W). ended_id e.note) p.entry p.ended) in
      let picked : picked_in (p.entry ∷ end ∷ []) ≡ id ∷ [] = more-none (λ (e : Entry W). picked_id e.note) (p.entry ∷ []) end refl ∙ one-some (λ (e : Entry W). picked_id e.note) p.entry id p.picked in
      let same : ◌≡◌ {A = List Id} (other ∷ []) (id ∷ []) = sym ended ∙ (ap ended_in part ∙ (w.same ∙ (ap picked_in (sym part) ∙ picked))) in
      cc (same)

module _ {W : Type 0} where
  no-pick : (who : Rank) (own : List (Entry W)) (v after : RuleView W) (last : Option Note) (id : Id) (work : W) → (who ≡ rank.Worker → ⊥) → Picks v id work after last → MayHaveWritten who (own ++ entries_of after last) → ⊥
  no-pick who own v after last id work other p fits =
      let more = ap (λ (l : Option Note). picked_in (own ++ entries_of after l)) p.wrote ∙ more-some (λ (e : Entry W). picked_id e.note) own (entry_of after p.noted) id p.picked in
      let long = length-append (picked_in own) (id ∷ []) in
      elim fits.workers [
        | inl is ↦ other is
        | inr none ↦ (let zero = ap length (sym more ∙ none) in absurd (omega (arith, zero, long)))
      ]

pub only_workers : (W : Type 0) → OnlyWorkersPick W
only_workers W own v after last id work p = (no-pick rank.Visitor own v after last id work (λ e. absurd (cc e)) p, no-pick rank.Opener own v after last id work (λ e. absurd (cc e)) p)
