-- The names of other modules that the proofs here cite, passed on from one place. Declares nothing.
pub use Rattle.std.proofs.Common.{◌≡◌, ◌<◌, ◌+◌, ◌∷◌, [], ◌++◌, ◌∙◌, ℕ, zero, suc, List, Some, get_or, length, map, slice_get, slice_index, take, refl, ap, sym, add-one, arith, ◌≤◌, ◌-◌, ◌*◌, ◌^◌, Bool, false, cond, inl, inr, Fits, w64, mul-le-mul_right, true, All, filter, Contains, flat_map, ◌==◌, Option, None, option_map, subst, nat_cmp, if◌then◌else◌, filter_map, max, nat_lt, append_assoc, append-nil, rules, sum, below_more, drop, string_bytes, take_all, ◌&&◌, length-append}
pub use Rattle.std.proofs.lemmas.Bool.{cases_Bool}
pub use Rattle.std.proofs.lemmas.Grind.{common_steps}
pub use Rattle.std.proofs.lemmas.List.{map_push, length-map, take_more, map-append, length-take-le}
pub use Rattle.std.proofs.lemmas.List.Elements.{All-contains_itself, All-weaker, filter_passes, All-push}
pub use Rattle.std.proofs.lemmas.List.Sums.{sum-map, sum_by_more, count_by-le-length, length-filter, sum_by-le}
pub use Rattle.std.proofs.lemmas.Option.{get_or_from_slice_get, slice_get_within, slice_get-get_or}
pub use Rattle.std.specs.BTreeMap.{BTreeMap, get, IsOrdered}
pub use Rattle.std.specs.Option.{option_map_or, option_or}
pub use Rattle.resil_heads.proofs.LayerLaws.{after, each-init, items_listed-of}
pub use Rattle.resil_heads.specs.Keys.{each, parse_count}
pub use Rattle.resil_input.specs.declared.csv_rows.BodyError.{BodyError}
pub use Rattle.resil_replay.specs.Timed.{parse_timed, timed_header}
pub use Rattle.resil_rule.specs.History.{is_same_id}
pub use Rattle.resil_rule.specs.Limits.{Sizes}
pub use Rattle.resil_jdk.specs.Limits.{AreJdkLimits}
pub use Rattle.resil_rule.specs.Timed.{AreAscending}
pub use Rattle.resil_rule.specs.declared.event.Id.{Id}
pub use Rattle.resil_rule.specs.declared.timed.Timed.{Timed}
pub use Rattle.resil_virtual.specs.Load.{IsLoad, earliest_ends_of, latest, of_caller, runs_of, times_of}
pub use Rattle.resil_virtual.specs.declared.arrival.Arrival.{Arrival}
pub use Rattle.toml.specs.View.{view}
pub use Rattle.resil_simulate.specs.Command.{AreArrivals, AreShown, IsArrivalsRefusal, IsHeadRefusal, IsRead, IsSimulateRefusal, IsPoolRun}
pub use Rattle.resil_simulate.specs.declared.command.LoadView.{LoadView}
pub use Rattle.resil_simulate.specs.Head.{combinations, is_pool, with_maxes, with_queues, LoadPlan, load_head_of, listed, plan_of}
pub use Rattle.resil_simulate.specs.History.{AreTimesOf, arrival_by, arrivals_by, is_of, job_at, key, ran_of, submissions_in, submitted_at, submitted_id, time_of}
pub use Rattle.resil_simulate.specs.Legality.{AreEnough, AreTallied, IsAsked, IsLegalSomewhere, asked_at, no_hand_off, one_more}
pub use Rattle.resil_simulate.specs.Load.{AreInTime, arrival_at, arrivals_of, end_of, IsHistoryLoadRefusal, jobs_in, restated_in}
pub use Rattle.resil_simulate.specs.Numbers.{HasTimes, area, is_finish, running_count, to_finish}
pub use Rattle.resil_simulate.specs.Rows.{IsBodyRefused, IsHistoryBody, IsLoadBodyError, load_header, parse_row}
pub use Rattle.resil_simulate.specs.Table.{pools_text}
pub use Rattle.resil_simulate.specs.declared.head.Terms.{Terms}
pub use Rattle.resil_simulate.specs.declared.head.Ways.{Ways}
pub use Rattle.resil_simulate.specs.declared.rows.LoadRow.{LoadRow}
