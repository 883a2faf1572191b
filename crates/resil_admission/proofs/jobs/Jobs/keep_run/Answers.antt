use Rattle.std.proofs.Common.{◌≡◌, ◌∙◌, ◌<◌, ◌-◌, Some, List, false, cond, length, map, sym, ap, set, get_or, arith, length-set}
use Rattle.std.proofs.Math.Seq.{map-set_same}
use Rattle.std.proofs.lemmas.List.{map-set, get_or-map}
use Rattle.std.specs.List.{position}
use Rattle.resil_admission.specs.Words.{is_same_id, is_among, Accepted, Row}
use Rattle.resil_admission.specs.MachineView.{plan_of, ids_of, with_run}
use Rattle.resil_admission.specs.JobsInvariant.{jobs_of, jobs_kept, unpicked_in}
use Rattle.resil_admission.specs.KeptJob.{KeptView}
use Rattle.resil_admission.proofs.JobLaws.{kept-row, kept-later, runs-with_run, ids-with_run, position-named, unpicked-rows, later-within, later-others}
use Rattle.resil_admission.proofs.jobs.Jobs.keep_run.Goals as goal

kept : (c : goal.After-self-1) → jobs_kept (set c.self.inside.rows.items c.args.index c.set_run.new.row) (jobs_of c.self.inside.later.items) ≡ with_run (jobs_kept c.self.inside.rows.items (jobs_of c.self.inside.later.items)) c.args.id c.args.run
kept c =
    let rows = c.self.inside.rows.items in
    let later = jobs_of c.self.inside.later.items in
    let known : plan_of (jobs_kept rows later) c.args.id ≡ Some c.args.run.plan = rw (← c.self.view_is) at c.requires.plan in
    let found : position (λ job. is_same_id c.args.id job.id) (jobs_kept rows later) ≡ Some c.args.index = sym (position-named c.args.id (jobs_kept rows later)) ∙ rw (← c.self.view_is) at c.requires.index in
    let inside : c.args.index < length rows = omega arith in
    ap (λ (row : Row). jobs_kept (set rows c.args.index row) later) (c.set_run.ensures ∙ ap (λ (row : Row). record row { run = c.args.run }) c.index_mut.ensures.value)
    ∙ kept-row rows later c.args.id c.args.run c.args.index known found c.index_mut.result.now inside

-- where the job has no row yet
module _ (c : goal.After-self-else-index-made-1) where
  abbrev rows : List Row
  rows = c.self.inside.rows.items

  abbrev later : List KeptView
  later = c.self.inside.later.items

  abbrev job : KeptView
  job = c.index_mut-else-index-made.result.now

  long : length rows ≡ c.len-made.result
  long = omega arith

  finished : c.finish.new.self.job ≡ record job.job { plan = c.args.run.plan; run = Some c.args.run }
  finished = ap (λ k. k.job) c.finish.ensures

  place : position (is_same_id c.args.id) (ids_of (jobs_kept rows (jobs_of later))) ≡ Some c.args.index
  place = rw (← c.self.view_is) at c.requires.index

  kept-else : jobs_kept rows (jobs_of (set later (c.args.index - c.len-made.result) c.finish.new.self)) ≡ with_run (jobs_kept rows (jobs_of later)) c.args.id c.args.run
  kept-else =
      let known : plan_of (jobs_kept rows (jobs_of later)) c.args.id ≡ Some c.args.run.plan = rw (← c.self.view_is) at c.requires.plan in
      let found = sym (position-named c.args.id (jobs_kept rows (jobs_of later))) ∙ place in
      let within = later-within rows later c.args.id c.args.index c.len-made.result job place long c.if-index-made.false in
      let own : job.job ≡ get_or (jobs_of later) (c.args.index - c.len-made.result) job.job =
      ap (λ k. k.job) c.index_mut-else-index-made.ensures.value ∙ sym (get_or-map (λ k. k.job) later (c.args.index - c.len-made.result) job job.job within) in
      ap (jobs_kept rows) (map-set (λ k. k.job) later (c.args.index - c.len-made.result) c.finish.new.self)
      ∙ ap (λ (job : Accepted). jobs_kept rows (set (jobs_of later) (c.args.index - c.len-made.result) job)) (finished ∙ ap (λ (job : Accepted). record job { plan = c.args.run.plan; run = Some c.args.run }) own)
      ∙ kept-later rows (jobs_of later) c.args.id c.args.run c.args.index known found c.len-made.result job.job long c.if-index-made.false

pub invariant_of-self : goal.invariant_of-self
invariant_of-self c =
    let known = rw (← c.self.view_is) at c.requires.plan in
    record {
      own_runs = rw (kept c) (runs-with_run _ c.args.id c.args.run c.self.invariant.own_runs known c.requires.value);
      room = c.self.invariant.room;
      places = λ x. c.self.invariant.places x ∙ ap (position (is_same_id x)) (sym (ap ids_of (kept c) ∙ ids-with_run _ c.args.id c.args.run));
    }

pub invariant_of-self-else-index-made : goal.invariant_of-self-else-index-made
invariant_of-self-else-index-made c =
    let known = rw (← c.self.view_is) at c.requires.plan in
    record {
      own_runs = rw (kept-else c) (runs-with_run _ c.args.id c.args.run c.self.invariant.own_runs known c.requires.value);
      room = rw length-set c.self.invariant.room;
      places = λ x. c.self.invariant.places x ∙ ap (position (is_same_id x)) (sym (ap ids_of (kept-else c) ∙ ids-with_run _ c.args.id c.args.run));
    }

pub returns-then-index-made-clause-jobs : goal.returns-then-index-made-clause-jobs
returns-then-index-made-clause-jobs c = rw (← c.self.view_is) (kept c)

pub returns-then-index-made-clause-others : goal.returns-then-index-made-clause-others
returns-then-index-made-clause-others c other apart =
    let rows = c.self.inside.rows.items in
    let later = c.self.inside.later.items in
    let ids : map (λ row. row.id) (set rows c.args.index c.set_run.new.row) ≡ map (λ row. row.id) rows =
    map-set_same (λ row. row.id) rows c.args.index c.set_run.new.row c.index_mut.result.now (ap (λ (row : Row). row.id) c.set_run.ensures ∙ ap (λ (row : Row). row.id) c.index_mut.ensures.value) in
    rw (← c.self.view_is) (unpicked-rows (set rows c.args.index c.set_run.new.row) later other ∙ ap (λ ids. cond (is_among other ids) false (unpicked_in later other)) ids ∙ sym (unpicked-rows rows later other))

pub returns-else-index-made-clause-jobs : goal.returns-else-index-made-clause-jobs
returns-else-index-made-clause-jobs c = rw (← c.self.view_is) (kept-else c)

pub returns-else-index-made-clause-others : goal.returns-else-index-made-clause-others
returns-else-index-made-clause-others c other apart =
    rw (← c.self.view_is)
    (later-others (rows c) (later c) c.args.id c.args.index c.len-made.result (job c) (place c) (long c) c.if-index-made.false c.finish.new.self
    (ap (λ (job : Accepted). job.id) (finished c) ∙ ap (λ k. k.job.id) c.index_mut-else-index-made.ensures.value) other apart)
