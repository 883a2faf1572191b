-- The plan under an id is that of the job at its index, if there is one.
use Rattle.std.proofs.Common.{◌∙◌, sym, rules}
use Rattle.resil_admission.specs.MachineView.{ids_of}
use Rattle.resil_admission.proofs.JobLaws.{plan_of-among, plan-at, nowhere}
use Rattle.resil_admission.proofs.MachineLaws.{is-nothing}
use Rattle.resil_admission.proofs.machine.is_run_of.Goals as goal

pub returns-in_default : goal.returns-in_default
returns-in_default c = record {
  same = (
    λ no. absurd (cc no),
    λ known.
        let none = nowhere c.args.id (ids_of c.args.jobs.now.jobs) (sym c.index_of.ensures ∙ is-nothing c.index_of.result c.in_default.not-Some) in
        let among = plan_of-among c.args.jobs.now.jobs c.args.id _ known in
        absurd (cc (none, among)),
  );
}

pub returns-in-Some-plan_at : goal.returns-in-Some-plan_at
returns-in-Some-plan_at c = record { same = rw (plan-at c.args.jobs.now.jobs c.args.id c.in-Some.index (sym c.index_of.ensures ∙ c.in-Some.is)) (search rules) }

pub returns-in-None : goal.returns-in-None
returns-in-None c = record { same = rw (plan-at c.args.jobs.now.jobs c.args.id c.in-Some.index (sym c.index_of.ensures ∙ c.in-Some.is)) (search rules) }
