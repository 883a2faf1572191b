-- Small loads and their histories, worked by hand.
use Rattle.std.specs.Prelude.{ℕ, Bool, List, [], ◌∷◌}
use Rattle.resil_rule.specs.declared.event.Id.{Id}
use Rattle.resil_jdk.specs.declared.event.JdkReply.{JdkReply}
use Rattle.resil_jdk.specs.declared.event.JdkReply.TheVariants.{Core, First, Queued, Handed, Extra, Full}
use Rattle.resil_jdk.specs.declared.event.JdkEvent.TheVariants.{Submit, Take, Finish, IdleEnd}
use Rattle.resil_jdk.specs.declared.timed.TimedJdkEvent.{TimedJdkEvent}
use Rattle.resil_virtual.specs.declared.arrival.Arrival.{Arrival}
use Rattle.resil_virtual.specs.declared.virtual_pool.VirtualPool.{VirtualPool}

-- a pool whose idle workers may end after 50 microseconds
abbrev pub pool : ℕ → ℕ → ℕ → Bool → ℕ → VirtualPool
pool core max queue time_out wakes = record { limits = record { core = core; max = max; queue = queue }; time_out = time_out; idle_for = 50; wakes = wakes }

-- a submission of caller 1, and its job
abbrev pub id : ℕ → Id
id number = record { caller = 1; number = number }

abbrev pub job : ℕ → ℕ → ℕ → Arrival
job number at takes = record { id = id number; at = at; takes = takes; earliest_end = 0 }

-- one whose run ends no earlier than at a time
abbrev pub held : ℕ → ℕ → ℕ → ℕ → Arrival
held number at takes until = record { id = id number; at = at; takes = takes; earliest_end = until }

abbrev pub submit : ℕ → JdkReply → ℕ → TimedJdkEvent
submit number reply at = record { event = Submit (id number) reply; at = at }

abbrev pub take : ℕ → ℕ → TimedJdkEvent
take number at = record { event = Take (id number); at = at }

abbrev pub finish : ℕ → ℕ → TimedJdkEvent
finish number at = record { event = Finish (id number); at = at }

abbrev pub end : ℕ → TimedJdkEvent
end at = record { event = IdleEnd; at = at }

-- At 30 two jobs end and a third one comes: the job that began first, the other one, the submission.
abbrev pub two_finishes_load : List Arrival
two_finishes_load = job 1 0 30 ∷ job 2 10 20 ∷ job 3 30 5 ∷ []

abbrev pub two_finishes : List TimedJdkEvent
two_finishes = submit 1 Core 0 ∷ submit 2 Core 10 ∷ finish 1 30 ∷ finish 2 30 ∷ submit 3 Queued 30 ∷ take 3 30 ∷ finish 3 35 ∷ []

-- At 60 an idle worker's time comes, a run ends and a job comes: the worker takes the job, so the other one ends, at its time.
abbrev pub end_comes_last_load : List Arrival
end_comes_last_load = job 1 0 10 ∷ job 2 0 50 ∷ job 3 0 10 ∷ job 4 60 7 ∷ []

abbrev pub end_comes_last : List TimedJdkEvent
end_comes_last =
    submit 1 Core 0 ∷ submit 2 Queued 0 ∷ submit 3 Extra 0 ∷ finish 1 10 ∷ take 2 10 ∷ finish 3 10
    ∷ finish 2 60 ∷ submit 4 Queued 60 ∷ take 4 60 ∷ finish 4 67 ∷ end 110 ∷ []

-- Three workers are idle from 15, 20 and 40 on: the first two end, each at its own time, and the last one stays.
abbrev pub own_times_load : List Arrival
own_times_load = job 1 0 10 ∷ job 2 0 30 ∷ job 3 0 15 ∷ job 4 0 20 ∷ []

abbrev pub own_times : List TimedJdkEvent
own_times =
    submit 1 Core 0 ∷ submit 2 Queued 0 ∷ submit 3 Extra 0 ∷ submit 4 Extra 0 ∷ finish 1 10 ∷ take 2 10
    ∷ finish 3 15 ∷ finish 4 20 ∷ finish 2 40 ∷ end 65 ∷ end 70 ∷ []

-- Eight jobs come at one moment to eight idle workers, with a queue of 5: each is taken before the next one comes.
abbrev pub burst_load : List Arrival
burst_load =
    job 1 0 10 ∷ job 2 0 10 ∷ job 3 0 10 ∷ job 4 0 10 ∷ job 5 0 10 ∷ job 6 0 10 ∷ job 7 0 10 ∷ job 8 0 10
    ∷ job 9 1000 10 ∷ job 10 1000 10 ∷ job 11 1000 10 ∷ job 12 1000 10 ∷ job 13 1000 10 ∷ job 14 1000 10 ∷ job 15 1000 10 ∷ job 16 1000 10 ∷ []

abbrev pub burst : List TimedJdkEvent
burst =
    submit 1 Core 0 ∷ submit 2 Core 0 ∷ submit 3 Core 0 ∷ submit 4 Core 0 ∷ submit 5 Core 0 ∷ submit 6 Core 0 ∷ submit 7 Core 0 ∷ submit 8 Core 0
    ∷ finish 1 10 ∷ finish 2 10 ∷ finish 3 10 ∷ finish 4 10 ∷ finish 5 10 ∷ finish 6 10 ∷ finish 7 10 ∷ finish 8 10
    ∷ submit 9 Queued 1000 ∷ take 9 1000 ∷ submit 10 Queued 1000 ∷ take 10 1000 ∷ submit 11 Queued 1000 ∷ take 11 1000
    ∷ submit 12 Queued 1000 ∷ take 12 1000 ∷ submit 13 Queued 1000 ∷ take 13 1000 ∷ submit 14 Queued 1000 ∷ take 14 1000
    ∷ submit 15 Queued 1000 ∷ take 15 1000 ∷ submit 16 Queued 1000 ∷ take 16 1000
    ∷ finish 9 1010 ∷ finish 10 1010 ∷ finish 11 1010 ∷ finish 12 1010 ∷ finish 13 1010 ∷ finish 14 1010 ∷ finish 15 1010 ∷ finish 16 1010 ∷ []

-- The same jobs, where a worker takes 100 microseconds to wake: five fit into the queue, and three are refused.
abbrev pub late_burst : List TimedJdkEvent
late_burst =
    submit 1 Core 0 ∷ submit 2 Core 0 ∷ submit 3 Core 0 ∷ submit 4 Core 0 ∷ submit 5 Core 0 ∷ submit 6 Core 0 ∷ submit 7 Core 0 ∷ submit 8 Core 0
    ∷ finish 1 10 ∷ finish 2 10 ∷ finish 3 10 ∷ finish 4 10 ∷ finish 5 10 ∷ finish 6 10 ∷ finish 7 10 ∷ finish 8 10
    ∷ submit 9 Queued 1000 ∷ submit 10 Queued 1000 ∷ submit 11 Queued 1000 ∷ submit 12 Queued 1000 ∷ submit 13 Queued 1000
    ∷ submit 14 Full 1000 ∷ submit 15 Full 1000 ∷ submit 16 Full 1000
    ∷ take 9 1100 ∷ take 10 1100 ∷ take 11 1100 ∷ take 12 1100 ∷ take 13 1100
    ∷ finish 9 1110 ∷ finish 10 1110 ∷ finish 11 1110 ∷ finish 12 1110 ∷ finish 13 1110 ∷ []

-- No queue: the third job goes directly to the worker that fell idle last, at 20, so the other one ends 50 after it fell idle, at 10.
abbrev pub handed_load : List Arrival
handed_load = job 1 0 20 ∷ job 2 0 10 ∷ job 3 30 5 ∷ []

abbrev pub handed : List TimedJdkEvent
handed = submit 1 Extra 0 ∷ submit 2 Extra 0 ∷ finish 2 10 ∷ finish 1 20 ∷ submit 3 Handed 30 ∷ finish 3 35 ∷ end 60 ∷ end 85 ∷ []

-- Core size 0: the first job waits, and a worker begins that looks after 100; the second one finds the queue full.
abbrev pub first_load : List Arrival
first_load = job 1 0 10 ∷ job 2 20 300 ∷ []

abbrev pub first : List TimedJdkEvent
first = submit 1 First 0 ∷ submit 2 Extra 20 ∷ take 1 100 ∷ finish 1 110 ∷ end 160 ∷ finish 2 320 ∷ end 370 ∷ []

-- Core workers time out: the worker ends, and another one begins for the second job.
abbrev pub timed_out_load : List Arrival
timed_out_load = job 1 5 10 ∷ job 2 100 10 ∷ []

abbrev pub timed_out : List TimedJdkEvent
timed_out = submit 1 Core 5 ∷ finish 1 15 ∷ end 65 ∷ submit 2 Core 100 ∷ finish 2 110 ∷ end 160 ∷ []

-- The job of 30 wakes the worker that fell idle first, which looks at 130; the time of the other one comes at 70, and it takes the job.
abbrev pub last_look_load : List Arrival
last_look_load = job 1 0 10 ∷ job 2 0 10 ∷ job 3 0 20 ∷ job 4 30 7 ∷ []

abbrev pub last_look : List TimedJdkEvent
last_look =
    submit 1 Core 0 ∷ submit 2 Queued 0 ∷ submit 3 Extra 0 ∷ finish 1 10 ∷ take 2 10 ∷ finish 3 20 ∷ finish 2 20
    ∷ submit 4 Queued 30 ∷ take 4 70 ∷ finish 4 77 ∷ end 127 ∷ []

-- The second job began at 70 in the history that it is of, which ended at 100. Here it begins at 0, and goes on up to 100: the fifth one is refused,
-- which would have begun at once if it had ended at 30.
abbrev pub earlier_load : List Arrival
earlier_load = job 1 0 10 ∷ held 2 0 30 100 ∷ job 3 40 80 ∷ job 4 50 5 ∷ job 5 60 5 ∷ []

abbrev pub earlier : List TimedJdkEvent
earlier =
    submit 1 Core 0 ∷ submit 2 Core 0 ∷ finish 1 10 ∷ submit 3 Queued 40 ∷ take 3 40 ∷ submit 4 Queued 50 ∷ submit 5 Full 60
    ∷ finish 2 100 ∷ take 4 100 ∷ finish 4 105 ∷ finish 3 120 ∷ []

-- The same job begins at 110, and runs as long as it ran there.
abbrev pub later_load : List Arrival
later_load = job 1 0 110 ∷ held 2 0 30 100 ∷ []

abbrev pub later : List TimedJdkEvent
later = submit 1 Core 0 ∷ submit 2 Queued 0 ∷ finish 1 110 ∷ take 2 110 ∷ finish 2 140 ∷ []
