use Rattle.std.proofs.Common.{◌≡◌, ◌-◌, ◌+◌, ℕ, map, length}
use Rattle.resil_admission.specs.SubmissionTable.{row_at}
use Rattle.resil_admission.proofs.submission_table.SubmissionTable.reserve.Given as goal

-- each caller has the submissions that it had
abbrev pub invariant-loop-self : goal.invariant-loop-self
invariant-loop-self l = (caller : ℕ) → row_at (map (λ row. row.items) l.self-inside.rows.items) caller ≡ row_at (map (λ row. row.items) l.initial.self-inside.rows.items) caller

abbrev pub decreases-loop-self : goal.decreases-loop-self
decreases-loop-self l = (l.caller + 1) - length l.self-inside.rows.items
