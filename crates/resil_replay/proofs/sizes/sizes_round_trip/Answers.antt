use Rattle.resil_replay.proofs.Words.{◌^◌, arith, from_zero-are_decimal, from_zero-round_trip}
use Rattle.resil_replay.proofs.sizes.sizes_round_trip.Goals as goal

pub returns-clause-written : goal.returns-clause-written
returns-clause-written c = λ n. from_zero-round_trip (2 ^ 32) n (omega arith)

pub returns-clause-read : goal.returns-clause-read
returns-clause-read c = λ field n. from_zero-are_decimal (2 ^ 32) field n (omega arith) (omega arith)
