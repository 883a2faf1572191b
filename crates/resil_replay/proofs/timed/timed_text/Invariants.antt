use Rattle.resil_replay.proofs.Words.{◌≡◌, ◌∷◌, map, take, HasColumns, table_text, text_so_far, timed_fields, timed_header}
use Rattle.resil_replay.proofs.timed.timed_text.Given as goal

abbrev pub invariant-loop-timed : goal.invariant-loop-timed
invariant-loop-timed l = record {
  columns : HasColumns l.table 7;
  text : text_so_far l.table ≡ table_text (timed_header ∷ map timed_fields (take l.timed-index l.history));
}
