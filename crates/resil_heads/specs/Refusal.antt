-- The printed name of each refusal, and its line.
use Rattle.std.specs.Prelude.{ℕ, ◌++◌, List, codes}
use Rattle.std.specs.Fmt.{decimal}
use Rattle.resil_rule.specs.declared.error.AdmitError.{AdmitError}
use Rattle.resil_rule.specs.declared.error.AdmitError.TheVariants as refused
use Rattle.resil_decor.specs.declared.error.DecorError.{DecorError}
use Rattle.resil_decor.specs.declared.error.DecorError.TheVariants as chain
use Rattle.resil_registry.specs.declared.error.RegistryError.{RegistryError}
use Rattle.resil_registry.specs.declared.error.RegistryError.TheVariants as registry
use Rattle.resil_retry.specs.declared.error.RetryError.{RetryError}
use Rattle.resil_retry.specs.declared.error.RetryError.TheVariants as retry
use Rattle.resil_heads.specs.declared.error.HeadError.{HeadError}
use Rattle.resil_heads.specs.declared.error.HeadError.TheVariants as head
use Rattle.resil_heads.specs.declared.refusal.LoadRefusal.{LoadRefusal}
use Rattle.resil_heads.specs.declared.refusal.LoadRefusal.TheVariants as load
use Rattle.resil_heads.specs.declared.refusal.RowRefusal.{RowRefusal}
use Rattle.resil_heads.specs.declared.refusal.RowRefusal.TheVariants as row
use Rattle.resil_heads.specs.declared.refusal.InputRefusal.{InputRefusal}
use Rattle.resil_heads.specs.declared.refusal.InputRefusal.TheVariants as refusal
use Rattle.resil_heads.specs.declared.refusal.StepRefusal.{StepRefusal}
use Rattle.resil_heads.specs.declared.refusal.StepRefusal.TheVariants as step
use Rattle.resil_heads.specs.declared.refusal.RunRefusal.{RunRefusal}
use Rattle.resil_heads.specs.declared.refusal.RunRefusal.TheVariants as run

-- the printed word for a refusal of the pool
abbrev pub pool_name : AdmitError → List ℕ
pool_name refused.CoreOutOfRange = codes "CoreOutOfRange"
pool_name refused.MaxOutOfRange = codes "MaxOutOfRange"
pool_name refused.QueueOutOfRange = codes "QueueOutOfRange"
pool_name refused.Memory = codes "Memory"
pool_name refused.WrongNumber = codes "WrongNumber"
pool_name refused.NotOut = codes "NotOut"
pool_name refused.OtherJob = codes "OtherJob"
pool_name refused.NotDone = codes "NotDone"

-- the printed word for a refusal of a retry
abbrev pub retry_name : RetryError → List ℕ
retry_name retry.IntervalTooLong = codes "IntervalTooLong"
retry_name retry.BadMultiplier = codes "BadMultiplier"
retry_name retry.CapBelowInitial = codes "CapBelowInitial"
retry_name retry.EmptyScript = codes "EmptyScript"
retry_name retry.NoAttempts = codes "NoAttempts"
retry_name retry.TooManyAttempts = codes "TooManyAttempts"
retry_name retry.Memory = codes "Memory"

-- the printed word for a refusal of a chain
abbrev pub chain_name : DecorError → List ℕ
chain_name chain.TooManyLayers = codes "TooManyLayers"
chain_name chain.TooManyCalls = codes "TooManyCalls"
chain_name chain.Memory = codes "Memory"

-- the printed word for a refusal of a registry
abbrev pub registry_name : RegistryError → List ℕ
registry_name registry.ReservedName = codes "ReservedName"
registry_name registry.NoSuchConfig = codes "NoSuchConfig"
registry_name registry.NameTaken = codes "NameTaken"
registry_name registry.BadName = codes "BadName"
registry_name registry.Memory = codes "Memory"

-- the printed word for an error of a head
abbrev pub head_name : HeadError → List ℕ
head_name head.Memory = codes "Memory"
head_name head.BadToml = codes "BadToml"
head_name head.UnknownKey = codes "UnknownKey"
head_name head.MissingKey = codes "MissingKey"
head_name head.BadValue = codes "BadValue"
head_name (head.Limits why) = pool_name why
head_name head.TooManyPermits = codes "TooManyPermits"
head_name (head.SameName number) = codes "SameName"
head_name (head.Registry why) = registry_name why
head_name (head.Retry why) = retry_name why
head_name (head.Chain why) = chain_name why

-- the printed name of why a row can't be carried out
abbrev pub row_name : RowRefusal → List ℕ
row_name row.WrongNumber = codes "WrongNumber"
row_name row.NotOut = codes "NotOut"
row_name row.NotAllowed = codes "NotAllowed"
row_name row.CoreOutOfRange = codes "CoreOutOfRange"
row_name row.MaxOutOfRange = codes "MaxOutOfRange"

-- the printed name of why a step can't be made
abbrev pub step_name : StepRefusal → List ℕ
step_name step.NotLoaded = codes "NotLoaded"
step_name step.NotHolding = codes "NotHolding"
step_name step.StillLoaded = codes "StillLoaded"
step_name step.NotRetired = codes "NotRetired"

-- the printed name of why a row of a load can't be taken
abbrev pub load_name : LoadRefusal → List ℕ
load_name load.NoTakes = codes "NoTakes"
load_name load.Illegal = codes "Illegal"
load_name load.TimeGoesBack = codes "TimeGoesBack"
load_name load.TimeTooLate = codes "TimeTooLate"

-- the printed name of why a run has no report
abbrev pub run_name : RunRefusal → List ℕ
run_name run.Stranger = codes "Stranger"
run_name run.ReceiptsDiffer = codes "ReceiptsDiffer"

-- the line of a refusal of a part of the input
abbrev pub part_line : List ℕ → List ℕ → List ℕ
part_line part name = codes "refused " ++ (part ++ (codes " " ++ (name ++ codes "\n")))

-- the line of a refusal of a row, by its position from 1
abbrev pub row_line : ℕ → List ℕ → List ℕ
row_line position name = codes "refused " ++ (decimal position ++ (codes " " ++ (name ++ codes "\n")))

-- the line of a refusal: the place, and its name
abbrev pub refusal_line : InputRefusal → List ℕ
refusal_line refusal.TooLong = part_line (codes "input") (codes "TooLong")
refusal_line refusal.NoBody = part_line (codes "input") (codes "NoBody")
refusal_line (refusal.Head why) = part_line (codes "head") (head_name why)
refusal_line refusal.ManyPools = part_line (codes "head") (codes "ManyPools")
refusal_line refusal.BadHeader = part_line (codes "body") (codes "BadHeader")
refusal_line (refusal.BadRow position) = row_line position (codes "BadRow")
refusal_line (refusal.Row position why) = row_line position (row_name why)
refusal_line (refusal.Step position why) = row_line position (step_name why)
refusal_line (refusal.Load position why) = row_line position (load_name why)
refusal_line refusal.BadResult = part_line (codes "results") (codes "BadRow")
refusal_line (refusal.Run why) = part_line (codes "run") (run_name why)
