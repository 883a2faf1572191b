-- The names of other modules that the proofs here cite, passed on from one place. Declares nothing.
pub use Rattle.std.proofs.Common.{inl, inr, ◌⊎◌, ◌≡◌, ◌≤◌, ◌<◌, ◌==◌, ◌∷◌, [], ◌++◌, ◌∙◌, ℕ, zero, suc, Bool, true, false, if◌then◌else◌, All, List, Option, Some, None, length, map, option_map, option_to_list, slice_get, take, refl, sym, ap, subst, arith, append_assoc, append-nil, ◌+◌, ◌-◌, ◌&&◌, drop, is_some, nat_lt, ◌||◌, not, sum, ◌*◌, ◌^◌, filter, max, cond, length-append, get_or, slice_index, nat_le, find, slice_index_or, slice_set, heap_items, rules}
pub use Rattle.std.proofs.lemmas.Bool.{cases_Bool}
pub use Rattle.std.proofs.lemmas.Grind.{common_steps}
pub use Rattle.std.proofs.lemmas.List.{length-map, map-append, nil_from_length, take-map, take_all, take_more, drop-map, length-take-le}
pub use Rattle.std.proofs.lemmas.List.Elements.{All-append, All-cons, All-head, All-map, All-nil, All-tail, All-weaker, filter_map-append, All-filter, All-push, filter-append, All-get_or, All-more, All-drop, All-take}
pub use Rattle.std.proofs.lemmas.Option.{get_or_from_slice_get, slice_get_within, slice_get-get_or, slice_get-map}
pub use Rattle.std.specs.List.{cons_option, filter_map, list_any, AllByRecursion}
pub use Rattle.std.specs.Option.{IfSome, option_map_or}
pub use Rattle.resil_jdk.proofs.ConservationLaws.{jobs-conserved, as-many, balance, next-fresh, front-among}
pub use Rattle.resil_jdk.proofs.StateLaws.{waiting-more, waits-few}
pub use Rattle.resil_jdk.proofs.WorkerLaws.{workers-within_opening, served}
pub use Rattle.resil_jdk.specs.Admission.{reply_after, IsAllowed, IsLegal}
pub use Rattle.resil_jdk.specs.History.{waiting, running, workers, finished, kept_size, finished_id, submissions, is_begin, is_end, run_at_once, is_closed, is_closing, is_stop, is_stopped, last_setting, new_core, new_max, new_time_out, run_id, taken, taken_id, without}
pub use Rattle.resil_jdk.specs.Timed.{events_in, times_in}
pub use Rattle.resil_jdk.specs.declared.event.JdkEvent.{JdkEvent}
pub use Rattle.resil_jdk.specs.declared.event.JdkEvent.TheVariants.{Submit, Take, Finish, IdleEnd, TimeOut}
pub use Rattle.resil_jdk.specs.declared.event.JdkReply.{JdkReply}
pub use Rattle.resil_jdk.specs.declared.event.JdkReply.TheVariants.{Core, First, Queued, Handed, Extra, Full, Closed}
pub use Rattle.resil_jdk.specs.declared.timed.TimedJdkEvent.{TimedJdkEvent}
pub use Rattle.resil_rule.proofs.EventLaws.{not-among, front-is}
pub use Rattle.resil_rule.proofs.IdLaws.{same_id-self, same_id-equal}
pub use Rattle.resil_rule.proofs.TimesLaws.{same-length, same_id-sym, somewhere, times-filter, times-one, among-last, times-append, nowhere}
pub use Rattle.resil_rule.specs.History.{is_among, is_same_id, times, last_size}
pub use Rattle.resil_rule.specs.Timed.{AreAscending}
pub use Rattle.resil_rule.specs.declared.event.Id.{Id}
pub use Rattle.resil_virtual.specs.AtOnce.{free_after, free_ends, free_from, free_next, next_at_once, takes_due, GoesOnAtOnce, SameAtOnce}
pub use Rattle.resil_virtual.specs.Due.{earliest, end_at, ends_at, ends_due, ends_of, finishes, front, has_spare, idle_after, is_at, just_finished, last_at, looks_at, looks_due, looks_of, next_due, own_takes, passed, sooner, still_ends, submissions_due, take_at, without_first, begun, begun_id, end_from, fallen, idle_next, is_finish, none_waits, submission, without_taker, wake_first, woken, finish_from, finish_of, is_to_come, takes_of, submissions_of, finished_last, idle_from, submissions_at, submitted_at, later, still_looks, earliest_end_of, idle_by}
pub use Rattle.resil_virtual.specs.IdleWorkers.{AreFirst, changes, has_looked, is_over, IdleView}
pub use Rattle.resil_virtual.specs.Jobs.{id_of, IsSoonest, SameJobs, begun_at, is_before, total, JobsView}
pub use Rattle.resil_virtual.specs.Load.{IsLoad, of_caller, earliest_ends_of, latest, runs_of}
pub use Rattle.resil_virtual.specs.Pool.{AreSound, own, ids_to_come, job_of, IsFrom, to_run, kept, staying, AreDue, finish_at, HasRun, submitted_end, AreInOrder, AreRunning, IsOpen, submitted_run, reply_by, is_free, history_of, IsPool, arrivals_of, left_in, plan_of}
pub use Rattle.resil_virtual.specs.Simulated.{GoesOn, opening, IsSimulated, history_after, OneHistory}
pub use Rattle.resil_virtual.specs.declared.arrival.Arrival.{Arrival}
pub use Rattle.resil_virtual.specs.declared.idle.Idle.{Idle}
pub use Rattle.resil_virtual.specs.declared.jobs.RunningJob.{RunningJob}
pub use Rattle.resil_virtual.specs.declared.virtual_pool.VirtualPool.{VirtualPool}
