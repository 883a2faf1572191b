-- What contracts see of the accepted jobs of a pool.
use Rattle.std.specs.Prelude.{ℕ, ◌≤◌, List, length}
use Rattle.resil_admission.specs.Words.{Id, Accepted, Place}
use Rattle.resil_admission.specs.KeptJob.{KeptView}
use Rattle.resil_admission.specs.SubmissionTable.{row_at}

-- the jobs in order of acceptance, the same with a mark on those that haven't been picked yet, the table of their places, and for how
-- many more of them, and of their results, there is room
pub record JobsView : Type 0 where
  pub jobs : List Accepted
  pub kept : List KeptView
  pub places : List (List Place)
  pub room : ℕ
  pub result_room : ℕ

-- the table has a place for the job of an id
abbrev pub HasPlace : JobsView → Id → Type 0
HasPlace j id = id.number ≤ length (row_at j.places id.caller)
