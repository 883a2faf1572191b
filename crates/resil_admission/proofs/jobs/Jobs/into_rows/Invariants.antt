use Rattle.std.proofs.Common.{◌≡◌, ◌≤◌, ◌+◌, ◌++◌, length, vec_len, vec_capacity}
use Rattle.std.specs.List.{flat_map}
use Rattle.resil_admission.specs.JobsInvariant.{jobs_of, result_row}
use Rattle.resil_admission.proofs.jobs.Jobs.into_rows.Given as goal

-- the rows so far and those of the jobs that are left, and room for these
abbrev pub invariant-loop-job : goal.invariant-loop-job
invariant-loop-job l = record {
  rows : l.rows.items ++ flat_map result_row (jobs_of l.later.items) ≡ l.initial.rows.items ++ flat_map result_row (jobs_of l.initial.later.items);
  room : vec_len l.rows + length l.later.items ≤ vec_capacity l.rows;
}

abbrev pub decreases-loop-job : goal.decreases-loop-job
decreases-loop-job l = length l.later.items
