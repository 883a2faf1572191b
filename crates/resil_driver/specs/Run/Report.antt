-- The text of the report of a `run`.
use Rattle.std.specs.Prelude.{ℕ, ◌≡◌, ◌++◌, ◌∷◌, [], List, codes, map, pos}
use Rattle.std.specs.Fmt.{decimal}
use Rattle.resil_retry.specs.declared.outcome.Outcome.TheVariants.{Value}
use Rattle.resil_decor.specs.Plan.{PlanView}
use Rattle.resil_rule.specs.declared.event.Id.{Id}
use Rattle.resil_rule.specs.declared.event.Reply.TheVariants.{Core}
use Rattle.resil_rule.specs.declared.event.Event.{Event}
use Rattle.resil_rule.specs.declared.event.Event.TheVariants.{Submit, Finish, IdleEnd, Close}
use Rattle.resil_admission.specs.declared.row.Row.{Row}
use Rattle.resil_chain.specs.RunFields.{run_fields}
use Rattle.resil_replay.specs.declared.history.Version.TheVariants.{One}
use Rattle.resil_replay.specs.History.{history_text}
use Rattle.resil_input.specs.CsvTable.{results_header, table_text}

-- the fields of a result: the job's id, and those of its run
abbrev pub result_fields : Row → List (List ℕ)
result_fields row = decimal row.id.caller ∷ decimal row.id.number ∷ run_fields row.run

-- the text of the history, an empty line, and a table with a record for each result, in order
abbrev pub report_text : List Event → List Row → List ℕ
report_text history results = history_text One history ++ codes "\n" ++ table_text (results_header ∷ map result_fields results)

-- an example: the id of the one job of a pool
abbrev pub first_job : Id
first_job = record { caller = 1; number = 1 }

-- the history of the example: the job was accepted with a worker of its own, the pool was closed, and the job finished
abbrev pub one_job : List Event
one_job = Submit first_job Core ∷ Close ∷ Finish first_job ∷ IdleEnd ∷ []

-- the results of the example: whatever its plan, the job's second call returned 7 after a wait of 500 ms
abbrev pub one_result : PlanView → List Row
one_result plan = record { id = first_job; run = record { plan = plan; outcome = Value (pos 7); calls = 2; waits = 500 ∷ []; asked = [] } } ∷ []

-- The text of the example, whatever the plan of its job.
abbrev pub ReportExample : Type 0
ReportExample = (plan : PlanView)
    → report_text one_job (one_result plan)
    ≡ codes "event,caller,number,reply\nsubmit,1,1,core\nclose,,,\nfinish,1,1,\nidle,,,\n\ncaller,number,outcome,calls,waits,asked\n1,1,V7,2,500,\n"
