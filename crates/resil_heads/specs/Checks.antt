-- How the checks of a head follow each other, and how the result of a call agrees with a definition.
use Rattle.std.specs.Prelude.{◌≡◌, ◌≢◌, Result, Ok, Err}
use Rattle.resil_heads.specs.declared.error.HeadError.{HeadError}
use Rattle.resil_heads.specs.declared.error.HeadError.TheVariants as error

-- a check of what the checks before it let through; the first error is that of all
abbrev pub and_then : {A B E : Type 0} → Result A E → (A → Result B E) → Result B E
and_then (Ok x) check = check x
and_then (Err why) check = Err why

-- The result of a call, which contracts see through `seen`, is what the definition says, unless it is out of memory.
abbrev pub GivesBy : {T A : Type 0} → (T → A) → Result T HeadError → Result A HeadError → Type 0
GivesBy seen (Ok x) said = said ≡ Ok (seen x)
GivesBy seen (Err why) said = why ≢ error.Memory → said ≡ Err why

-- the result of a call, as it is, is what the definition says, unless it is out of memory
abbrev pub Gives : {A : Type 0} → Result A HeadError → Result A HeadError → Type 0
Gives result said = GivesBy (λ x. x) result said
