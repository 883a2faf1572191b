-- How a call is counted.
use Rattle.std.specs.Prelude.{◌≡◌, ℕ, ◌+◌, Bool, true, false, Result, Ok, Err, min}
use Rattle.resil_layers.specs.declared.call_counts.OwnCounts.{OwnCounts}
use Rattle.resil_layers.specs.declared.counting.Counted.{Counted}
use Rattle.resil_layers.specs.declared.counting.Counted.TheVariants.{Called, Value, Error, Refused}

-- an error is counted as a refusal if it says that it is one
abbrev pub error_counted_as : Bool → Counted
error_counted_as true = Refused
error_counted_as false = Error

-- a value is counted as a value, and an error as an error or as a refusal
abbrev pub IsCountedAs : {T E : Type 0} → (E → Bool → Type 0) → Result T E → Counted → Type 0
IsCountedAs IsRefusal (Ok _) what = what ≡ Value
IsCountedAs IsRefusal (Err error) what = (is : Bool) × IsRefusal error is × (what ≡ error_counted_as is)

-- one more, up to 2^64 - 1
abbrev pub one_more : ℕ → ℕ
one_more n = min (n + 1) 18446744073709551615

-- the counts with one more of this kind
abbrev pub with_one_more : OwnCounts → Counted → OwnCounts
with_one_more counts Called = record counts { called = one_more counts.called }
with_one_more counts Value = record counts { values = one_more counts.values }
with_one_more counts Error = record counts { errors = one_more counts.errors }
with_one_more counts Refused = record counts { refused = one_more counts.refused }
