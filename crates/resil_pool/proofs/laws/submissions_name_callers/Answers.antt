-- Each way to write to the machine, by the event that it writes.
use Rattle.resil_pool.proofs.NamedCallers.{opening_names, turn_names, closers_turn_names, submission_names, pick_names, finish_names, worker_names, closing_names, resize_names}
use Rattle.resil_pool.proofs.laws.submissions_name_callers.Goals as goal

pub returns : goal.returns
returns c = record {
  opening = opening_names;
  callers_turn = turn_names;
  closers_turn = closers_turn_names;
  submission = submission_names;
  pick = pick_names;
  finish = finish_names;
  worker = worker_names;
  closing = closing_names;
  resize = resize_names;
}
