-- What a submission does to the machine.
use Rattle.std.specs.Prelude.{◌≡◌, ◌∷◌, [], List, Some, Result, IfOk, IfErr, OnErr}
use Rattle.resil_pool.specs.Words.{AdmitError, PlanView, IsAllowed, MachineView, with_submission, IsSubmitRefusal, Id, Reply, Submit, LoggedEvent}
use Rattle.resil_pool.specs.Lock.{log_event}

-- the result of a submission: it was allowed and written, with its plan, or nothing was and the job comes back
pub record AnswersSubmission (old : MachineView) (id : Id) (job : PlanView) (answer : Result Reply (AdmitError × PlanView)) (entries : List LoggedEvent) (new : MachineView) : Type 0 where
  pub event : IfOk answer (λ reply. new ≡ with_submission old id reply job)
  pub allowed : IfOk answer (λ reply. IsAllowed old.limits old.history (Submit id reply))
  pub refused : IfErr answer (λ e. IsSubmitRefusal old id e.0)
  pub unchanged : OnErr answer (new ≡ old)
  pub job_back : IfErr answer (λ e. e.1 ≡ job)
  pub told : IfOk answer (λ reply. entries ≡ log_event (Some job) (Submit id reply) ∷ [])
  pub nothing : OnErr answer (entries ≡ [])
