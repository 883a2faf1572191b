-- The callers of the jobs of a body.
use Rattle.std.proofs.Common.{◌≡◌, ◌≤◌, ◌<◌, ◌==◌, ◌∙◌, ℕ, suc, List, [], Option, Some, None, Bool, true, false, All, option_and_then, option_map, length, get_or, refl, sym, ap, arith}
use Rattle.std.proofs.lemmas.List.{get_or-map}
use Rattle.resil_retry.specs.declared.outcome.Outcome.{Outcome}
use Rattle.resil_driver.specs.Run.Rows.{IsRunBody, parse_caller_up_to, parse_job, run_rows_header}
use Rattle.resil_input.specs.CsvRows.{row_under}
use Rattle.resil_driver.specs.Run.Play.{IsOfCaller}
use Rattle.resil_input.specs.Script.{parse_script}
use Rattle.resil_driver.specs.declared.run.rows.ScriptedJob.{ScriptedJob}
use Rattle.resil_input.proofs.NumberLaws.{below-are_decimal}
use Rattle.resil_input.proofs.RowLaws.{ParseAs-length}

-- the two parts that a job is read from
parts_of_job : (caller : Option ℕ) (script : Option (List Outcome)) (job : ScriptedJob)
    → option_and_then (λ c. option_map (λ outcomes. record { caller = c; script = outcomes }) script) caller ≡ Some job → caller ≡ Some job.caller
parts_of_job (Some c) (Some outcomes) job e =
    let same : ◌≡◌ {A = ScriptedJob} (record { caller = c; script = outcomes }) job = cc e in
    ap (λ (j : ScriptedJob). Some j.caller) same
parts_of_job caller script job e = cc e

module _ (callers : ℕ) (few : callers ≤ 64) where
  of_fields : (fields : List (List ℕ)) (job : ScriptedJob) → parse_job callers fields ≡ Some job → IsOfCaller callers job
  of_fields fields job e =
      let caller = get_or fields 0 [] in
      let number = below-are_decimal (suc callers) caller job.caller (omega arith) (parts_of_job (parse_caller_up_to callers caller) (parse_script (get_or fields 1 [])) job e) in
      (number.1, omega (arith, number.2))

  of_record : (fields : List (List ℕ)) (job : ScriptedJob) (b : Bool) → (length fields == 2) ≡ b → row_under run_rows_header (parse_job callers) fields ≡ Some job → IsOfCaller callers job
  of_record fields job true wide e = of_fields fields job (rw wide at e)
  of_record fields job false wide e = cc (rw wide at e)

  -- the jobs of a body name callers from 1 to their number
  pub jobs-of_callers : (body : List ℕ) (jobs : List ScriptedJob) → IsRunBody callers body jobs → All (IsOfCaller callers) jobs
  jobs-of_callers body jobs (records, is, spell) = λ k d within. (
      let as_many : length records ≡ length jobs = ParseAs-length run_rows_header (parse_job callers) records jobs spell in
      let within' : k < length records = omega arith in
      let spelled = get_or-map (row_under run_rows_header (parse_job callers)) records k [] None within' in
      let given = get_or-map Some jobs k d None within in
      of_record (get_or records k []) (get_or jobs k d) _ refl (sym spelled ∙ ap (λ (l : List (Option ScriptedJob)). get_or l k None) spell ∙ given))
