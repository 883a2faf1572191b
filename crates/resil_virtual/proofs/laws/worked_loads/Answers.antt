use Rattle.std.proofs.Common.{refl}
use Rattle.resil_virtual.proofs.laws.worked_loads.Goals as goal

pub returns-clause-two_finishes : goal.returns-clause-two_finishes
returns-clause-two_finishes c = (refl, (refl, (refl, (refl, (refl, (refl, (refl, refl)))))))

pub returns-clause-end_comes_last : goal.returns-clause-end_comes_last
returns-clause-end_comes_last c = (refl, (refl, (refl, (refl, (refl, (refl, (refl, (refl, (refl, (refl, (refl, refl)))))))))))

pub returns-clause-own_times : goal.returns-clause-own_times
returns-clause-own_times c = (refl, (refl, (refl, (refl, (refl, (refl, (refl, (refl, (refl, (refl, (refl, refl)))))))))))

pub returns-clause-burst : goal.returns-clause-burst
returns-clause-burst c = (refl, (refl, (refl, (refl, (refl, (refl, (refl, (refl, (refl, (refl, (refl, (refl, (refl, (refl, (refl, (refl, (refl, (refl, (refl, (refl, (refl, (refl, (refl, (refl, (refl, (refl, (refl, (refl, (refl, (refl, (refl, (refl, (refl, (refl, (refl, (refl, (refl, (refl, (refl, (refl, refl))))))))))))))))))))))))))))))))))))))))

pub returns-clause-late_burst : goal.returns-clause-late_burst
returns-clause-late_burst c = (refl, (refl, (refl, (refl, (refl, (refl, (refl, (refl, (refl, (refl, (refl, (refl, (refl, (refl, (refl, (refl, (refl, (refl, (refl, (refl, (refl, (refl, (refl, (refl, (refl, (refl, (refl, (refl, (refl, (refl, (refl, (refl, (refl, (refl, refl))))))))))))))))))))))))))))))))))

pub returns-clause-handed : goal.returns-clause-handed
returns-clause-handed c = (refl, (refl, (refl, (refl, (refl, (refl, (refl, (refl, refl))))))))

pub returns-clause-first : goal.returns-clause-first
returns-clause-first c = (refl, (refl, (refl, (refl, (refl, (refl, (refl, refl)))))))

pub returns-clause-timed_out : goal.returns-clause-timed_out
returns-clause-timed_out c = (refl, (refl, (refl, (refl, (refl, (refl, refl))))))

pub returns-clause-last_look : goal.returns-clause-last_look
returns-clause-last_look c = (refl, (refl, (refl, (refl, (refl, (refl, (refl, (refl, (refl, (refl, (refl, refl)))))))))))

pub returns-clause-earlier : goal.returns-clause-earlier
returns-clause-earlier c = (refl, (refl, (refl, (refl, (refl, (refl, (refl, (refl, (refl, (refl, (refl, refl)))))))))))

pub returns-clause-later : goal.returns-clause-later
returns-clause-later c = (refl, (refl, (refl, (refl, (refl, refl)))))
