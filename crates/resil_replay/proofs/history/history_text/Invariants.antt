use Rattle.resil_replay.proofs.Words.{◌≡◌, ◌∷◌, map, take, HasColumns, table_text, text_so_far, columns_of, record_fields, history_header}
use Rattle.resil_replay.proofs.history.history_text.Given as goal

abbrev pub invariant-loop-event : goal.invariant-loop-event
invariant-loop-event l = record {
  columns : HasColumns l.table (columns_of l.version);
  text : text_so_far l.table ≡ table_text (history_header l.version ∷ map (record_fields l.version) (take l.event-index l.history));
}
