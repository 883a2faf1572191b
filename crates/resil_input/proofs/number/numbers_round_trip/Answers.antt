use Rattle.resil_input.proofs.NumberLaws.{numbers-round_trip, numbers-are_decimal}
use Rattle.resil_input.proofs.number.numbers_round_trip.Goals as goal

pub returns : goal.returns
returns c = record { written = numbers-round_trip; read = numbers-are_decimal }
