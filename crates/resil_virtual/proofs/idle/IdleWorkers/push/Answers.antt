use Rattle.resil_virtual.proofs.Words.{◌∙◌, ℕ, List, Option, sym, ap, earliest, ends_of, looks_of, sooner, Idle}
use Rattle.resil_virtual.proofs.FirstLaws.{times-pushed}
use Rattle.resil_virtual.proofs.idle.IdleWorkers.push.Goals as goal

pub invariant_of-self-2 : goal.invariant_of-self-2
invariant_of-self-2 c =
    let idle = c.self.inside.items.items in let worker = c.args.worker in
    record {
      end = c.sooner_time.ensures ∙ ap (λ (o : Option ℕ). sooner (λ time. time) o worker.end) c.self.invariant.end ∙ times-pushed (λ (w : Idle). w.end) idle worker
          ∙ sym (ap (λ (all : List Idle). earliest (λ time. time) (ends_of all)) c.in_ok-push.ensures.items);
      look = c.sooner_time-2.ensures ∙ ap (λ (o : Option ℕ). sooner (λ time. time) o worker.look) c.self.invariant.look ∙ times-pushed (λ (w : Idle). w.look) idle worker
          ∙ sym (ap (λ (all : List Idle). earliest (λ time. time) (looks_of all)) c.in_ok-push.ensures.items);
    }
