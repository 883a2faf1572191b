use Rattle.resil_input.proofs.OutcomeLaws.{kinds-read, outcomes-read, signed-reads}
use Rattle.resil_input.proofs.outcome_text.outcomes_round_trip.Goals as goal

pub returns : goal.returns
returns c = record { integers = signed-reads; kinds = kinds-read; outcomes = outcomes-read }
