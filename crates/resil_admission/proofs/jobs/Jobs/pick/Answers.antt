use Rattle.std.proofs.Common.{◌≡◌, ◌-◌, ◌<◌, ◌∙◌, true, Some, None, List, get_or, length, set, refl, sym, ap, arith, length-set}
use Rattle.std.proofs.Math.Seq.{map-set_same}
use Rattle.std.proofs.lemmas.Bool.{cases_Bool}
use Rattle.std.proofs.lemmas.Grind.{common_steps}
use Rattle.std.specs.List.{position}
use Rattle.resil_admission.specs.Words.{is_same_id, Row}
use Rattle.resil_admission.specs.MachineView.{ids_of}
use Rattle.resil_admission.specs.KeptJob.{KeptView}
use Rattle.resil_admission.specs.JobsInvariant.{jobs_of, jobs_kept, all_kept}
use Rattle.resil_admission.proofs.JobLaws.{jobs-kept, nowhere, row-picked, unpicked-nowhere, later-unpicked, later-plan, later-others}
use Rattle.resil_admission.proofs.jobs.Jobs.pick.Goals as goal

pub returns-in_err-get-clause-some : goal.returns-in_err-get-clause-some
returns-in_err-get-clause-some c unpicked =
    let rows = c.self.inside.rows.items in
    let all = all_kept rows c.self.inside.later.items in
    let none : position (is_same_id c.args.id) (ids_of (jobs_of all)) ≡ None =
    ap (λ jobs. position (is_same_id c.args.id) (ids_of jobs)) (jobs-kept rows c.self.inside.later.items) ∙ sym (c.self.invariant.places c.args.id) ∙ sym c.get.ensures ∙ c.in_err-get.was in
    let gone = unpicked-nowhere all c.args.id (nowhere c.args.id (ids_of (jobs_of all)) none) in
    let here = rw (← c.self.view_is) at unpicked in
    absurd (cc (gone, here))

pub returns-in_err-index-clause-some : goal.returns-in_err-index-clause-some
returns-in_err-index-clause-some c unpicked =
    let found = sym (c.self.invariant.places c.args.id) ∙ sym c.get.ensures ∙ c.in_ok-get.was in
    let short : c.in_ok-get.field-0 < length c.self.inside.rows.items = omega (arith, c.in_err-index.ensures, c.len.ensures, c.self.inside.rows.ok) in
    let gone = row-picked c.self.inside.rows.items c.self.inside.later.items c.args.id c.in_ok-get.field-0 found short in
    let here = rw (← c.self.view_is) at unpicked in
    absurd (cc (gone, here))

-- the job that is found, which has no row yet
module _ (c : goal.After-self-1) where
  abbrev rows : List Row
  rows = c.self.inside.rows.items

  abbrev later : List KeptView
  later = c.self.inside.later.items

  abbrev kept : KeptView
  kept = c.index_mut.result.now

  found : position (is_same_id c.args.id) (ids_of (jobs_kept rows (jobs_of later))) ≡ Some c.in_ok-get.field-0
  found = sym (c.self.invariant.places c.args.id) ∙ sym c.get.ensures ∙ c.in_ok-get.was

  long : length rows ≡ c.len.result
  long = omega (arith, c.len.ensures, c.self.inside.rows.ok)

  is : get_or later (c.in_ok-get.field-0 - c.len.result) kept ≡ kept
  is = grind (arith, c.in_ok-index.ensures.1, c.index_mut.ensures.value)

  jobs : jobs_of (set later c.in_ok-index.index c.pick.new.self) ≡ jobs_of later
  jobs = map-set_same (λ k. k.job) later c.in_ok-index.index c.pick.new.self kept (ap (λ k. k.job) c.pick.ensures.picked ∙ ap (λ k. k.job) c.index_mut.ensures.value)

pub invariant_of-self : goal.invariant_of-self
invariant_of-self c =
    let held = c.self.invariant in
    record {
      own_runs = rw (jobs c) held.own_runs;
      room = rw length-set held.room;
      places = λ x. held.places x ∙ ap (λ jobs. position (is_same_id x) (ids_of (jobs_kept (rows c) jobs))) (sym (jobs c));
    }

pub returns-clause-some : goal.returns-clause-some
returns-clause-some c unpicked =
    let own = later-unpicked (rows c) (later c) c.args.id c.in_ok-get.field-0 c.len.result (kept c) (found c) (long c) c.in_ok-index.ensures.0 in
    let waits : (kept c).unpicked ≡ true = sym (own ∙ ap (λ k. k.unpicked) (is c)) ∙ rw (← c.self.view_is) at unpicked in
    rw (c.pick.ensures.job, waits) refl

pub returns-clause-plan : goal.returns-clause-plan
returns-clause-plan c =
    let own = later-plan (rows c) (later c) c.args.id c.in_ok-get.field-0 c.len.result (kept c) (found c) (long c) c.in_ok-index.ensures.0 in
    rw (← c.self.view_is) (grind (arith, common_steps, own, c.in_ok-index.ensures.1, c.index_mut.ensures.value, c.pick.ensures.job, cases_Bool (kept c).unpicked))

pub returns-clause-jobs : goal.returns-clause-jobs
returns-clause-jobs c = rw (← c.self.view_is) (ap (jobs_kept (rows c)) (jobs c))

pub returns-clause-others : goal.returns-clause-others
returns-clause-others c other apart =
    let same : c.pick.new.self.job.id ≡ (get_or (later c) (c.in_ok-get.field-0 - c.len.result) (kept c)).job.id = ap (λ k. k.job.id) c.pick.ensures.picked ∙ sym (ap (λ k. k.job.id) (is c)) in
    rw (← c.self.view_is, c.in_ok-index.ensures.1) (later-others (rows c) (later c) c.args.id c.in_ok-get.field-0 c.len.result (kept c) (found c) (long c) c.in_ok-index.ensures.0 c.pick.new.self same other apart)
