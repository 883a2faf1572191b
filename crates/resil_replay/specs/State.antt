-- The state of a pool on which rows were carried out.
use Rattle.std.specs.Prelude.{◌≡◌, ◌⊎◌, ◌++◌, ◌∷◌, [], true, List}
use Rattle.std.specs.List.{list_any}
use Rattle.resil_rule.specs.Limits.{Sizes}
use Rattle.resil_rule.specs.Admission.{IsAllowed}
use Rattle.resil_rule.specs.History.{is_closed}
use Rattle.resil_rule.specs.declared.event.Event.{Event}
use Rattle.resil_admission.specs.MachineView.{MachineView}
use Rattle.resil_replay.specs.Play.{IsHistoryOf, is_closing, row_of_event}
use Rattle.resil_replay.specs.declared.rows.ReplayRow.{ReplayRow}
use Rattle.resil_replay.specs.declared.rows.ReplayRow.TheVariants.{Close}

-- A row was carried out: the pool has one more event, which was allowed and which the row writes, or the row is a closing of
-- a closed pool, which changes nothing.
abbrev pub IsCarriedOut : ReplayRow → MachineView → MachineView → Type 0
IsCarriedOut row before after =
    ((event : Event) × (row_of_event event ≡ row) × IsAllowed before.limits before.history event × (after.limits ≡ before.limits) × (after.history ≡ before.history ++ event ∷ []))
    ⊎ ((row ≡ Close) × (is_closed before.history ≡ true) × (after ≡ before))

-- the pool has these limits and a history of the rows, and is closed exactly if one of them is a closing
pub record HasReplayed (limits : Sizes) (rows : List ReplayRow) (m : MachineView) : Type 0 where
  pub same_limits : m.limits ≡ limits
  pub history : IsHistoryOf limits rows m.history
  pub closed : is_closed m.history ≡ list_any is_closing rows
