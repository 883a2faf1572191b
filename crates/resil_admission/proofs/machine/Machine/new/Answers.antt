use Rattle.std.proofs.Common.{◌≡◌, [], List, length, sym, ap, subst, refl, arith}
use Rattle.resil_admission.specs.Words.{ids_out, owed, opened, IsStateOf, Event}
use Rattle.resil_rule.proofs.SlotLaws.{none-out}
use Rattle.resil_admission.proofs.machine.Machine.new.Goals as goal

pub invariant_of-result : goal.invariant_of-result
invariant_of-result c =
    let opening : c.in_ok-new.field-0 ≡ opened c.args.limits 0 = rw c.into.ensures.0 at c.in_ok-new.ensures.opened in
    let empty : c.reserve.new.self.events ≡ [] = c.reserve.ensures.kept [] (ap (λ all. all.events) c.new-history.ensures) in
    let none : length (ids_out (opened {W = Unit {0}} c.args.limits 0).out) ≡ 0 = ap length (none-out c.args.limits.max) in
    let one : owed {W = Unit {0}} (opened c.args.limits 0) ≡ 1 = omega (arith, none) in
    let jobs = c.new-2.ensures in
    rw opening (record {
      limits = rw c.into.ensures.0 at c.into.ensures.1;
      state = subst (λ (history : List Event). IsStateOf history (opened {W = Unit {0}} c.args.limits 0)) (sym empty) (rw opening at c.in_ok-new.ensures.history);
      room = omega (arith, one, c.in_ok-reserve.ensures.room);
      accepted = rw (jobs, empty) refl;
      unpicked = λ id some. absurd (omega (arith, some));
    })
