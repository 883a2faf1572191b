-- What a log holds, in either form.
use Rattle.std.specs.Prelude.{[]}
use Rattle.std.specs.Box.{box_value}
use Rattle.resil_decor.specs.declared.run_log.Written.{Written}
use Rattle.resil_decor.specs.declared.run_log.Written.TheVariants.{Calls, Lists}
use Rattle.resil_decor.specs.RunLog.{RunLogView}

-- the calls alone: no wait and no answer, and room for none
abbrev pub log_at : Written → RunLogView
log_at (Calls calls) = record { calls = calls; waits = []; wait_room = 0; asked = []; asked_room = 0 }
log_at (Lists lists) = box_value lists
