-- Which values a result test matches.
use Rattle.std.specs.Prelude.{Bool, false, ℤ, int_lt, int_le}
use Rattle.std.specs.Ordering.{int_eq}
use Rattle.resil_retry.specs.declared.result_test.ResultTest.{ResultTest}
use Rattle.resil_retry.specs.declared.result_test.ResultTest.TheVariants.{Never, Equal, Below, AtLeast}

-- whether the test matches the value
abbrev pub matches : ResultTest → ℤ → Bool
matches Never value = false
matches (Equal wanted) value = int_eq value wanted
matches (Below limit) value = int_lt value limit
matches (AtLeast least) value = int_le least value
