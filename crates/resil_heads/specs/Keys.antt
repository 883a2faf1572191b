-- What the values at the keys of a table say. A value that isn't of its kind, or isn't in its range, is the error `BadValue`.
use Rattle.std.specs.Prelude.{ℕ, ◌^◌, ◌==◌, Bool, ℤ, pos, negsuc, List, [], ◌∷◌, Option, Some, None, Result, Ok, Err, ok_or, if◌then◌else◌, chars, codes, length, nat_lt, option_map, option_and_then}
use Rattle.std.specs.Option.{option_map_or}
use Rattle.toml.specs.Data.{Data, Items, no_items, item, Members, get_member, as_str, as_integer, as_bool, as_array, as_table}
use Rattle.resil_retry.specs.declared.outcome.Kind.{Kind}
use Rattle.resil_retry.specs.declared.result_test.ResultTest.{ResultTest}
use Rattle.resil_retry.specs.declared.result_test.ResultTest.TheVariants.{Never, Equal, Below, AtLeast}
use Rattle.resil_heads.specs.Checks.{and_then}
use Rattle.resil_input.specs.OutcomeText.{parse_kind, parse_signed}
use Rattle.resil_input.specs.TextEquality.{is_same}
use Rattle.resil_heads.specs.declared.error.HeadError.{HeadError}
use Rattle.resil_heads.specs.declared.error.HeadError.TheVariants as error

-- each element is read in turn; the first error is that of all
abbrev pub each : {A B : Type 0} → (A → Result B HeadError) → List A → Result (List B) HeadError
each read [] = Ok []
each read (x ∷ xs) = and_then (read x) (λ y. and_then (each read xs) (λ ys. Ok (y ∷ ys)))

-- the value at a key, as it is read; the default if the key is absent
abbrev pub parse_at : {A : Type 0} → (Data → Result A HeadError) → A → List ℕ → Members → Result A HeadError
parse_at read default key layer = option_map_or read (get_member key layer) (Ok default)

-- what is read at a key, if it is there
abbrev pub parse_known : {A : Type 0} → (Data → Result A HeadError) → List ℕ → Members → Result (Option A) HeadError
parse_known read key head = parse_at (λ value. and_then (read value) (λ x. Ok (Some x))) None key head

-- the value at a required key, as it is read
abbrev pub parse_required_at : {A : Type 0} → (Data → Result A HeadError) → List ℕ → Members → Result A HeadError
parse_required_at read key layer = and_then (ok_or (get_member key layer) error.MissingKey) read

-- a string that names something
abbrev pub parse_named : {A : Type 0} → (List ℕ → Option A) → Data → Result A HeadError
parse_named named value = ok_or (option_and_then named (as_str value)) error.BadValue

-- any string
abbrev pub parse_text : Data → Result (List ℕ) HeadError
parse_text value = ok_or (as_str value) error.BadValue

-- the string at a key, of at most 64 characters, empty if there is none
abbrev pub parse_short_text : List ℕ → Members → Result (List ℕ) HeadError
parse_short_text key head =
    and_then (parse_at parse_text [] key head) (λ text. if nat_lt 64 (length (chars text)) then Err error.BadValue else Ok text)

-- any integer
abbrev pub parse_integer : Data → Result ℤ HeadError
parse_integer value = ok_or (as_integer value) error.BadValue

-- an integer from 0 on, below a limit
abbrev pub number_below : ℕ → ℤ → Result ℕ HeadError
number_below limit (pos n) = if nat_lt n limit then Ok n else Err error.BadValue
number_below limit (negsuc _) = Err error.BadValue

-- a value that is a number from 0 to 4,294,967,295
abbrev pub parse_count : Data → Result ℕ HeadError
parse_count value = and_then (parse_integer value) (number_below (2 ^ 32))

-- a value that is an integer from 0 on, of 64 bits like all integers of a head
abbrev pub parse_wait : Data → Result ℕ HeadError
parse_wait value = and_then (parse_integer value) (number_below (2 ^ 64))

-- true or false
abbrev pub parse_flag : Data → Result Bool HeadError
parse_flag value = ok_or (as_bool value) error.BadValue

-- an array of two numbers, the numerator and the denominator
abbrev pub fraction_from : Items → Result (ℕ × ℕ) HeadError
fraction_from (item p (item q no_items)) = and_then (parse_count p) (λ numerator. and_then (parse_count q) (λ denominator. Ok (numerator, denominator)))
fraction_from _ = Err error.BadValue

-- a value that is an array of two numbers
abbrev pub parse_fraction : Data → Result (ℕ × ℕ) HeadError
parse_fraction value = and_then (ok_or (as_array value) error.BadValue) fraction_from

-- the items of an array, in their order
abbrev pub items_listed : Items → List Data
items_listed no_items = []
items_listed (item value items) = value ∷ items_listed items

-- a value that is an array of kinds of error
abbrev pub parse_kinds : Data → Result (List Kind) HeadError
parse_kinds value = and_then (ok_or (as_array value) error.BadValue) (λ items. each (parse_named parse_kind) (items_listed items))

-- what follows `>`: `=` and an integer
abbrev pub at_least : List ℕ → Option ResultTest
at_least [] = None
at_least (next ∷ digits) = if next == 61 then option_map AtLeast (parse_signed digits) else None

-- `=`, `<` or `>=`, and an integer
abbrev pub comparison_from_text : List ℕ → Option ResultTest
comparison_from_text [] = None
comparison_from_text (sign ∷ rest) =
    if sign == 61 then option_map Equal (parse_signed rest)
    else if sign == 60 then option_map Below (parse_signed rest)
    else if sign == 62 then at_least rest
    else None

-- the values to be retried: none, or those that are equal to an integer, below it, or at least it
abbrev pub result_test_from_name : List ℕ → Option ResultTest
result_test_from_name text = if is_same text (codes "never") then Some Never else comparison_from_text text

-- a value that is a table
abbrev pub parse_table : Data → Result Members HeadError
parse_table value = ok_or (as_table value) error.BadValue

-- a value that is an array of tables
abbrev pub parse_tables : Data → Result (List Members) HeadError
parse_tables value = and_then (ok_or (as_array value) error.BadValue) (λ items. each parse_table (items_listed items))
