-- Laws of a legal history: a job runs or is finished, at most once; a refusal is real; if no work is left the pool is over, and stays so.
use Rattle.std.proofs.Common.{◌≡◌, ◌≤◌, ◌+◌, ◌∷◌, [], ◌++◌, ◌||◌, ◌∙◌, Bool, true, false, List, None, slice_get, refl, sym, ap, subst, arith}
use Rattle.std.specs.List.{list_any}
use Rattle.std.proofs.lemmas.Grind.{common_steps}
use Rattle.std.proofs.lemmas.List.Folds.{list_any-append}
use Rattle.resil_executor.specs.Words.{Sizes, IsLegal, reply_after, is_among, times, is_close, is_closed, accepted, finished, running, waiting, started_id, queued_id, taken_id, finished_id, accepted_id, Id, Reply, Event}
use Rattle.resil_rule.specs.declared.event.Reply.TheVariants as reply
use Rattle.resil_rule.specs.declared.event.Event.TheVariants as event
use Rattle.resil_rule.proofs.TimesLaws.{somewhere, among-some}
use Rattle.resil_rule.proofs.ConservationLaws.{conserved}
use Rattle.resil_rule.proofs.EventLaws.{running-quiet}
use Rattle.resil_rule.proofs.UnpickedLaws.{filtered-same, waiting-same}
use Rattle.resil_executor.specs.Log.{IsOver}
use Rattle.resil_executor.specs.Laws.{EndStays, NothingLeftIsOver}
use Rattle.resil_executor.specs.Turn.{NothingFree}

module _ (limits : Sizes) (h : List Event) where
  pub once-done : IsLegal limits h → (id : Id) → times id (running h) + times id (finished h) ≤ 1
  once-done legal id = let c = conserved limits h legal id in omega (arith, c.sum, c.once)

  -- if the rule of admission answers Full nothing is free, and if it answers Closed the pool is closed
  pub full-is-real : reply.Full ≡ reply_after limits h → NothingFree limits h
  full-is-real e = record { still_open = grind (arith, common_steps, e); core = grind (arith, common_steps, e); queue = grind (arith, common_steps, e); max = grind (arith, common_steps, e) }

  pub closed-is-real : reply.Closed ≡ reply_after limits h → is_closed h ≡ true
  closed-is-real e = grind (arith, common_steps, e)

pub nothing_left_is_over : NothingLeftIsOver
nothing_left_is_over limits h legal closed none_waits none_runs = record {
  closed = closed;
  none_waits = none_waits;
  none_runs = none_runs;
  all_finished = λ id was.
      let c = conserved limits h legal id in
      let some = somewhere id (accepted h) was in
      let waits = ap (times id) none_waits in
      let runs = ap (times id) none_runs in
      among-some id (finished h) (omega (arith, c.sum, some, waits, runs));
}

-- an event that isn't about an accepted job changes nothing
quiet-stays : (h : List Event) (e : Event) → started_id e ≡ None → queued_id e ≡ None → taken_id e ≡ None → finished_id e ≡ None → accepted_id e ≡ None → IsOver h → IsOver (h ++ e ∷ [])
quiet-stays h e no_start no_queue no_take no_end no_accept over = record {
  closed = list_any-append is_close h (e ∷ []) ∙ ap (λ (b : Bool). b || list_any is_close (e ∷ [])) over.closed;
  none_waits = waiting-same h e no_queue no_take ∙ over.none_waits;
  none_runs = running-quiet h e no_start no_queue no_accept no_take no_end ∙ over.none_runs;
  all_finished = λ id was.
      ap (λ (ids : List Id). is_among id ids) (filtered-same finished_id h e no_end) ∙ over.all_finished id (sym (ap (λ (ids : List Id). is_among id ids) (filtered-same accepted_id h e no_accept)) ∙ was);
}

pub end_stays : EndStays
end_stays limits h (event.Submit id r) over allowed =
    let is : r ≡ reply.Closed = grind (arith, common_steps, allowed.1, over.closed) in
    subst (λ (x : Reply). IsOver (h ++ event.Submit id x ∷ [])) (sym is) (quiet-stays h (event.Submit id reply.Closed) refl refl refl refl refl over)
end_stays limits h (event.Take id) over allowed =
    let none : slice_get (waiting h) 0 ≡ None = ap (λ (ids : List Id). slice_get ids 0) over.none_waits in absurd (cc (none, allowed.0))
end_stays limits h (event.Finish id) over allowed =
    let none : false ≡ true = sym (ap (λ (ids : List Id). is_among id ids) over.none_runs) ∙ allowed in absurd (cc none)
end_stays limits h event.IdleEnd over allowed = quiet-stays h event.IdleEnd refl refl refl refl refl over
end_stays limits h event.Close over allowed = quiet-stays h event.Close refl refl refl refl refl over
end_stays limits h (event.Resized core max) over allowed = quiet-stays h (event.Resized core max) refl refl refl refl refl over
