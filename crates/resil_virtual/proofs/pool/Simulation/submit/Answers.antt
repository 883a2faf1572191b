use Rattle.resil_virtual.proofs.Words.{◌≡◌, ◌∙◌, [], Bool, List, map, sym, ap, arith, slice_get_within, Submit, TimedJdkEvent, idle_by, passed, history_of, Idle}
use Rattle.resil_virtual.proofs.PoolLaws.{job-some, none-is, placed-is, submit-due, submit-fits, submit-room, submitted-left, submitted-parts}
use Rattle.resil_virtual.proofs.pool.Simulation.submit.Goals as goal

pub place-requires-clause-room : goal.place-requires-clause-room
place-requires-clause-room c =
    let s = c.args.self.now in
    let due = submit-due s.plan s.arrivals.now s.next s.workers s.time s.own_look s.steps s.queue.items s.running.items s.idle.items (history_of s) c.requires.pool c.args.id c.args.reply c.args.at c.requires.due c.in-Some.job (sym c.in-Some.ensures) in
    submit-room s.plan s.arrivals.now s.next s.workers s.time s.own_look s.steps s.queue.items s.running.items s.idle.items (history_of s) c.requires.pool c.in-Some.job (sym c.in-Some.ensures) c.args.reply due

pub place-requires-clause-runs : goal.place-requires-clause-runs
place-requires-clause-runs c =
    let s = c.args.self.now in
    let due = submit-due s.plan s.arrivals.now s.next s.workers s.time s.own_look s.steps s.queue.items s.running.items s.idle.items (history_of s) c.requires.pool c.args.id c.args.reply c.args.at c.requires.due c.in-Some.job (sym c.in-Some.ensures) in
    (submit-fits s.plan s.arrivals.now s.next s.workers s.time s.own_look s.steps s.queue.items s.running.items s.idle.items (history_of s) c.requires.pool c.in-Some.job (sym c.in-Some.ensures) c.args.reply due).0

pub place-requires-clause-wakes : goal.place-requires-clause-wakes
place-requires-clause-wakes c =
    let s = c.args.self.now in
    let due = submit-due s.plan s.arrivals.now s.next s.workers s.time s.own_look s.steps s.queue.items s.running.items s.idle.items (history_of s) c.requires.pool c.args.id c.args.reply c.args.at c.requires.due c.in-Some.job (sym c.in-Some.ensures) in
    (submit-fits s.plan s.arrivals.now s.next s.workers s.time s.own_look s.steps s.queue.items s.running.items s.idle.items (history_of s) c.requires.pool c.in-Some.job (sym c.in-Some.ensures) c.args.reply due).1

pub overflow_add-self : goal.overflow_add-self
overflow_add-self c =
    let within = slice_get_within c.args.self.now.arrivals.now c.args.self.now.next c.in-Some.job (sym c.in-Some.ensures) in
    rw c.in_ok-place.ensures.rest (omega (arith, within, c.type_inv.self))

pub returns-clause-pool : goal.returns-clause-pool
returns-clause-pool c =
    let s = c.args.self.now in
    let due = submit-due s.plan s.arrivals.now s.next s.workers s.time s.own_look s.steps s.queue.items s.running.items s.idle.items (history_of s) c.requires.pool c.args.id c.args.reply c.args.at c.requires.due c.in-Some.job (sym c.in-Some.ensures) in
    let event : ◌≡◌ {A = TimedJdkEvent} (record { event = Submit c.in-Some.job.id c.args.reply; at = c.in-Some.job.at }) (record { event = Submit c.args.id c.args.reply; at = c.args.at }) = cc (sym due ∙ c.requires.due) in
    let none = c.no_job_waits-none_waits.ensures ∙ none-is s.plan s.arrivals.now s.next s.workers s.time s.own_look s.steps s.queue.items s.running.items s.idle.items (history_of s) c.requires.pool in
    let placed = c.in_ok-place.ensures in
    let same = placed.idle ∙ ap (λ (idle : List Idle). idle_by s.plan [] idle (Submit c.in-Some.job.id c.args.reply) c.in-Some.job.at) (c.pass.ensures ∙ ap (λ (b : Bool). map (passed b c.in-Some.job.at) s.idle.items) none)
    ∙ placed-is s.plan s.arrivals.now s.next s.workers s.time s.own_look s.steps s.queue.items s.running.items s.idle.items (history_of s) c.requires.pool c.in-Some.job c.args.reply in
    rw (← event, placed.rest, placed.queue) (submitted-parts s.plan s.arrivals.now s.next s.workers s.time s.own_look s.steps s.queue.items s.running.items s.idle.items (history_of s) c.requires.pool c.in-Some.job (sym c.in-Some.ensures) c.args.reply due _ placed.running _ same)

pub returns-clause-less : goal.returns-clause-less
returns-clause-less c =
    let s = c.args.self.now in
    let due = submit-due s.plan s.arrivals.now s.next s.workers s.time s.own_look s.steps s.queue.items s.running.items s.idle.items (history_of s) c.requires.pool c.args.id c.args.reply c.args.at c.requires.due c.in-Some.job (sym c.in-Some.ensures) in
    let event : ◌≡◌ {A = TimedJdkEvent} (record { event = Submit c.in-Some.job.id c.args.reply; at = c.in-Some.job.at }) (record { event = Submit c.args.id c.args.reply; at = c.args.at }) = cc (sym due ∙ c.requires.due) in
    rw (← event, c.in_ok-place.ensures.rest) (submitted-left s.plan s.arrivals.now s.next s.workers s.time s.own_look s.steps s.queue.items s.running.items s.idle.items (history_of s) c.requires.pool c.in-Some.job (sym c.in-Some.ensures) c.args.reply due)

pub returns-in_default-clause-pool : goal.returns-in_default-clause-pool
returns-in_default-clause-pool c = let s = c.args.self.now in absurd (job-some s.plan s.arrivals.now s.next s.workers s.time s.own_look s.steps s.queue.items s.running.items s.idle.items (history_of s) c.requires.pool c.args.id c.args.reply c.args.at c.requires.due (sym c.in_default.ensures))

pub returns-in_default-clause-less : goal.returns-in_default-clause-less
returns-in_default-clause-less c = let s = c.args.self.now in absurd (job-some s.plan s.arrivals.now s.next s.workers s.time s.own_look s.steps s.queue.items s.running.items s.idle.items (history_of s) c.requires.pool c.args.id c.args.reply c.args.at c.requires.due (sym c.in_default.ensures))
