-- How many times a log has a job as picked or ended, and what that means for one seat among all that wrote the log.
use Rattle.std.proofs.Common.{◌≡◌, ◌≤◌, ◌+◌, ℕ, List, [], ◌∷◌, ◌++◌, ◌∙◌, Option, refl, ap, arith}
use Rattle.std.specs.Prelude.{filter_map}
use Rattle.std.proofs.lemmas.List.Elements.{filter_map-append}
use Rattle.resil_rule.specs.History.{times, finished}
use Rattle.resil_rule.specs.declared.event.Id.{Id}
use Rattle.resil_rule.specs.declared.event.Event.TheVariants as event
use Rattle.resil_rule.proofs.TimesLaws.{times-append}
use Rattle.resil_lock.specs.declared.protocol.Rank.{Rank}
use Rattle.resil_lock.specs.declared.log.Logged.{Logged}
use Rattle.resil_lock.specs.declared.log.Note.{Note}
use Rattle.resil_lock.specs.declared.log.Note.TheVariants as note
use Rattle.resil_lock.specs.Lock.{weigh, IsCovered}
use Rattle.resil_lock.specs.Log.{event_of, picked_id, ended_id, events_in, picked_in, ended_in, IsBalanced}

module _ {E : Type 0} (f : E → Option Id) (id : Id) where
  pub times-more : (log more : List E) → times id (filter_map f (log ++ more)) ≡ times id (filter_map f log) + times id (filter_map f more)
  times-more log more = ap (times id) (filter_map-append f log more) ∙ times-append id (filter_map f log) (filter_map f more)

  -- an entry, counted by how many times it has the id of a job
  abbrev pub count : E → ℕ
  count entry = times id (filter_map f (entry ∷ []))

  pub weigh-count : (log : List E) → weigh count log ≡ times id (filter_map f log)
  weigh-count [] = refl
  weigh-count (entry ∷ log) = let rest = weigh-count log in let both = times-more (entry ∷ []) log in omega (arith, rest, both)

weigh-none : {E : Type 0} (log : List E) → weigh (λ (entry : E). 0) log ≡ 0
weigh-none [] = refl
weigh-none (entry ∷ log) = let rest = weigh-none log in omega (arith, rest)

module _ {P : Type 0} where
  -- the job that an entry picked, and the one that it ended
  abbrev pub pick_of : Logged P → Option Id
  pick_of entry = picked_id entry.note

  abbrev pub end_of : Logged P → Option Id
  end_of entry = ended_id entry.note

  pub events_in-append : (log more : List (Logged P)) → events_in (log ++ more) ≡ events_in log ++ events_in more
  events_in-append log more = filter_map-append (λ (entry : Logged P). event_of entry.note) log more

  -- the ends in the log are the finishes of its history
  pub ended-is : (log : List (Logged P)) → ended_in log ≡ finished (events_in log)
  ended-is [] = refl
  ended-is (entry ∷ log) = here entry.note entry.payload (ended-is log)
    where
      here : (noted : Note) (payload : P) → ended_in log ≡ finished (events_in log) → ended_in (record { note = noted; payload = payload } ∷ log) ≡ finished (events_in (record { note = noted; payload = payload } ∷ log))
      here (note.Event (event.Finish x)) payload rest = ap (λ (ids : List Id). x ∷ ids) rest
      here noted payload rest = rest

  -- one seat among all that wrote the log, if none may end a job that it hasn't picked
  module _ (MayWrite : Rank → List (Logged P) → Type 0) (log own : List (Logged P)) (covered : IsCovered MayWrite log own) where
    -- the log without what the seat wrote has at most as many ends of a job as picks
    pub covered-ends : ((who : Rank) (entries : List (Logged P)) → MayWrite who entries → IsBalanced entries) → (id : Id) → times id (ended_in log) + times id (picked_in own) ≤ times id (picked_in log) + times id (ended_in own)
    covered-ends balanced id =
        let all = covered (count end_of id) (count pick_of id) (λ who entries may. let b = balanced who entries may id in let l = weigh-count end_of id entries in let r = weigh-count pick_of id entries in omega (arith, b, l, r)) in
        let a = weigh-count end_of id log in
        let b = weigh-count pick_of id own in
        let c = weigh-count pick_of id log in
        let d = weigh-count end_of id own in omega (arith, all, a, b, c, d)

    -- and at least as many picks as the seat
    pub covered-picks : (id : Id) → times id (picked_in own) ≤ times id (picked_in log)
    covered-picks id =
        let all = covered (λ entry. 0) (count pick_of id) (λ who entries may. let z = weigh-none entries in omega (arith, z)) in
        let a = weigh-none log in
        let b = weigh-count pick_of id own in
        let c = weigh-count pick_of id log in
        let d = weigh-none own in omega (arith, all, a, b, c, d)
