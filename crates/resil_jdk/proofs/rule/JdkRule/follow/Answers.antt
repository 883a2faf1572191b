use Rattle.std.proofs.Common.{arith}
use Rattle.resil_jdk.specs.declared.event.JdkEvent.TheVariants.{Submit, Take, IdleEnd, Close, Resized, Start, Cull, Stop, TimeOut}
use Rattle.resil_jdk.proofs.StateLaws.{step-follows}
use Rattle.resil_jdk.proofs.StepLaws.{done, submitted, barred-ok, stays-ok, failed, took, not-took, failed-take, finished, not-finished, removed, not-removed, close-step, stop-step, time_out-step, resize-step, start-step, idle-step, cull-step}
use Rattle.resil_jdk.proofs.rule.JdkRule.follow.Goals as goal

pub returns-in-Submit-clause-allowed : goal.returns-in-Submit-clause-allowed
returns-in-Submit-clause-allowed c = rw c.in-Submit.is (submitted c.args.self.now _ c.in-Submit.id c.in-Submit.reply c.submit.result c.submit.ensures.may c.submit.ensures.placed c.submit.ensures.made)

pub returns-in-Submit-clause-refused : goal.returns-in-Submit-clause-refused
returns-in-Submit-clause-refused c = rw c.in-Submit.is (barred-ok c.args.self.now (Submit c.in-Submit.id c.in-Submit.reply) c.submit.result c.submit.ensures.refused)

pub returns-in-Submit-clause-stays : goal.returns-in-Submit-clause-stays
returns-in-Submit-clause-stays c = stays-ok c.args.self.now _ c.submit.result c.submit.ensures.tidied

pub returns-in-Submit-clause-memory : goal.returns-in-Submit-clause-memory
returns-in-Submit-clause-memory c = failed c.args.self.now _ c.submit.result _ c.submit.ensures.memory

pub returns-in-Take-clause-allowed : goal.returns-in-Take-clause-allowed
returns-in-Take-clause-allowed c = rw c.in-Take.is (took c.args.self.now _ c.in-Take.id c.take.ensures.rest c.take.ensures.line c.take.result c.take.ensures.may c.take.ensures.left c.take.ensures.runs)

pub returns-in-Take-clause-refused : goal.returns-in-Take-clause-refused
returns-in-Take-clause-refused c = rw c.in-Take.is (barred-ok c.args.self.now (Take c.in-Take.id) c.take.result c.take.ensures.refused)

pub returns-in-Take-clause-stays : goal.returns-in-Take-clause-stays
returns-in-Take-clause-stays c = not-took c.args.self.now _ c.in-Take.id c.take.ensures.rest c.take.ensures.line c.take.result c.take.ensures.unchanged

pub returns-in-Take-clause-memory : goal.returns-in-Take-clause-memory
returns-in-Take-clause-memory c = failed-take c.args.self.now _ c.in-Take.id c.take.ensures.rest c.take.ensures.line c.take.result _ c.take.ensures.memory

pub returns-in-Finish-clause-allowed : goal.returns-in-Finish-clause-allowed
returns-in-Finish-clause-allowed c = rw c.in-Finish.is (finished c.args.self.now _ c.in-Finish.id c.finish.result c.finish.ensures.may c.finish.ensures.runs c.finish.ensures.rest)

pub returns-in-Finish-clause-refused : goal.returns-in-Finish-clause-refused
returns-in-Finish-clause-refused c = rw c.in-Finish.is (not-finished c.args.self.now c.in-Finish.id c.finish.result c.finish.ensures.may)

pub returns-in-Remove-clause-allowed : goal.returns-in-Remove-clause-allowed
returns-in-Remove-clause-allowed c = rw c.in-Remove.is (removed c.args.self.now _ c.in-Remove.id c.remove.result c.remove.ensures.may c.remove.ensures.left c.remove.ensures.rest c.remove.ensures.line)

pub returns-in-Remove-clause-refused : goal.returns-in-Remove-clause-refused
returns-in-Remove-clause-refused c = rw c.in-Remove.is (not-removed c.args.self.now c.in-Remove.id c.remove.result c.remove.ensures.may)

pub returns-in-IdleEnd-clause-allowed : goal.returns-in-IdleEnd-clause-allowed
returns-in-IdleEnd-clause-allowed c = rw c.in-IdleEnd.is (done c.args.self.now _ _ IdleEnd c.idle_end.result c.idle_end.ensures.may c.idle_end.ensures.event (λ may. idle-step c.args.self.now (omega (arith, may.1))))

pub returns-in-Close-clause-allowed : goal.returns-in-Close-clause-allowed
returns-in-Close-clause-allowed c = rw c.in-Close.is (done c.args.self.now _ _ Close c.close.result c.close.ensures.may c.close.ensures.event (λ may. close-step c.args.self.now))

pub returns-in-Resized-clause-allowed : goal.returns-in-Resized-clause-allowed
returns-in-Resized-clause-allowed c = rw c.in-Resized.is (done c.args.self.now _ _ (Resized c.in-Resized.core c.in-Resized.max) c.resize.result c.resize.ensures.may c.resize.ensures.event (λ may. resize-step c.args.self.now c.in-Resized.core c.in-Resized.max))

pub returns-in-Start-clause-allowed : goal.returns-in-Start-clause-allowed
returns-in-Start-clause-allowed c = rw c.in-Start.is (done c.args.self.now _ _ Start c.start.result c.start.ensures.may c.start.ensures.event (λ may. start-step c.args.self.now))

pub returns-in-Cull-clause-allowed : goal.returns-in-Cull-clause-allowed
returns-in-Cull-clause-allowed c = rw c.in-Cull.is (done c.args.self.now _ _ Cull c.cull.result c.cull.ensures.may c.cull.ensures.event (λ may. cull-step c.args.self.now (omega (arith, may.0))))

pub returns-in-Stop-clause-allowed : goal.returns-in-Stop-clause-allowed
returns-in-Stop-clause-allowed c = rw c.in-Stop.is (done c.args.self.now _ _ Stop c.stop.result c.stop.ensures.may c.stop.ensures.event (λ may. stop-step c.args.self.now))

pub returns-in-TimeOut-clause-allowed : goal.returns-in-TimeOut-clause-allowed
returns-in-TimeOut-clause-allowed c = rw (c.in-TimeOut.is, c.set_time_out.ensures) (step-follows c.args.self.now (TimeOut c.in-TimeOut.on) (record c.args.self.now { time_out = c.in-TimeOut.on }) tt (time_out-step c.args.self.now c.in-TimeOut.on))
