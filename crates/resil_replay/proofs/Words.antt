-- The names of other modules that the proofs here cite, passed on from one place. Declares nothing.
pub use Rattle.std.proofs.Common.{◌≡◌, ◌+◌, ◌<◌, ◌∷◌, [], ◌++◌, ◌∙◌, suc, Bool, true, false, not, ◌&&◌, ◌||◌, List, Option, Some, None, length, refl, sym, ap, arith, take, drop, get_or, remove, take-append-drop, drop-cons, append-nil, length-append, slice_get, IfNone, IsSome, inl, inr, ℕ, nat_lt, ◌^◌, zero, map, add-one, All, flat_map, decimal, ◌≤◌, IsTrue, codes, Result, Ok, Err, MatchResult, rules, position}
pub use Rattle.std.proofs.lemmas.Bool.{both_ways, false_from_ne_true, true_from_ne_false}
pub use Rattle.std.proofs.lemmas.List.Folds.{list_any-append}
pub use Rattle.std.specs.Bool.{OnTrue, OnFalse}
pub use Rattle.resil_admission.specs.MachineView.{MachineView, with_event, with_submission, with_finish, with_run, newly_accepted, jobs_in_flight, next_started, plan_of, IsPicked, HasNoneToPick, IsFinishRefusal}
pub use Rattle.resil_input.proofs.NumberLaws.{from_zero-round_trip, below-round_trip, from_zero-are_decimal}
pub use Rattle.resil_input.proofs.PlainLaws.{IsPlain_number}
pub use Rattle.resil_input.proofs.RecordLaws.{records_from-end, records_from-next}
pub use Rattle.resil_input.proofs.RowLaws.{rows-unique, rows-exclude_errors, errors-unique, handed-on}
pub use Rattle.resil_input.specs.CsvRows.{ParseAs, records_of, row_under, IsBody, IsBodyError}
pub use Rattle.resil_input.specs.CsvTable.{ArePlain, record_text, IsPlain, HasColumns, table_text, text_so_far}
pub use Rattle.resil_input.specs.ReaderState.{IsOpened, header_of}
pub use Rattle.resil_rule.specs.Admission.{IsAllowed, AreAllowedAfter}
pub use Rattle.resil_rule.specs.History.{started, started_id, taken, finished, unfinished, running, is_among, is_same_id, is_close, is_closed}
pub use Rattle.resil_rule.specs.declared.event.Event.{Event}
pub use Rattle.resil_rule.specs.declared.event.Event.TheVariants.{Submit, Take, Finish, IdleEnd, Close, Resized}
pub use Rattle.resil_rule.specs.declared.event.Id.{Id}
pub use Rattle.resil_rule.specs.declared.event.Reply.{Reply}
pub use Rattle.resil_replay.specs.Events.{parse_event, HistoriesRoundTrip, parse_reply, IsAuditBodyError}
pub use Rattle.resil_replay.specs.History.{event_fields, history_header, record_fields, FitsEvent, FitsId, history_text, HistoryTextInjective, columns_of, job_fields}
pub use Rattle.resil_replay.specs.Pool.{ids_in_flight, IsRemoved, HavePlans, ReplayPoolInvariant}
pub use Rattle.resil_replay.specs.Rows.{parse_replay_row, replay_rows_header}
pub use Rattle.resil_replay.specs.State.{HasReplayed, IsCarriedOut}
pub use Rattle.resil_replay.specs.Timed.{FitsTimed, IsHistoryBody, IsTimedBody, TimedHistoriesRoundTrip, parse_timed, timed_fields, timed_header, timed_text, IsHistoryBodyError}
pub use Rattle.resil_replay.specs.declared.history.Version.{Version}
pub use Rattle.resil_replay.specs.declared.history.Version.TheVariants.{One, Two}
