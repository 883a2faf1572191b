-- What the arguments of `resil_look` ask for, and what is written for an input.
use Rattle.std.specs.Prelude.{ℕ, ◌+◌, ◌≡◌, ◌&&◌, ◌∷◌, [], List, Option, Some, None, IfSome, codes, if◌then◌else◌, option_map}
use Rattle.resil_heads.specs.Output.{IsOutputFor, IsRefusalLine}
use Rattle.resil_heads.specs.declared.refusal.InputRefusal.{InputRefusal}
use Rattle.resil_input.specs.TextEquality.{is_same}
use Rattle.resil_input.specs.declared.output.Output.{Output}
use Rattle.resil_input.specs.declared.output.Output.TheVariants as output
use Rattle.resil_look.specs.declared.look.LookRequest.{LookRequest}
use Rattle.resil_look.specs.declared.look.LookRequest.TheVariants as request
use Rattle.resil_look.specs.declared.look.LookRequest.TheVariants.{Simulate}
use Rattle.resil_simulate.specs.Command.{IsSimulateRefusal, text_of}
use Rattle.resil_simulate.specs.declared.command.LoadView.TheVariants as load_view
use Rattle.resil_view.specs.Command.{IsViewRefusal, IsViewText}
use Rattle.resil_view.specs.declared.command.HistoryView.{HistoryView}
use Rattle.resil_view.specs.declared.command.HistoryView.TheVariants.{Judge, Stats, Timeline}

-- the view that a word asks for
abbrev pub view_named : List ℕ → Option HistoryView
view_named word = if is_same word (codes "judge") then Some Judge else if is_same word (codes "stats") then Some Stats else if is_same word (codes "timeline") then Some Timeline else None

-- what a single word asks for
abbrev pub request_named : List ℕ → Option LookRequest
request_named word = if is_same word (codes "simulate") then Some (Simulate load_view.Numbers) else option_map request.View (view_named word)

-- what the arguments ask for; the first of them is the program's name
abbrev pub requested : List (List ℕ) → Option LookRequest
requested (name ∷ word ∷ []) = request_named word
requested (name ∷ word ∷ option ∷ []) = if is_same word (codes "simulate") && is_same option (codes "--history") then Some (Simulate load_view.History) else None
requested _ = None

-- the maximum length of an input for this request, in bytes: 16 mebibytes for a history, 4 for a load
abbrev pub limit_of : LookRequest → ℕ
limit_of (request.View view) = 16777216
limit_of (Simulate shown) = 4194304

-- at most this many bytes are read for the arguments: those of an input, and one more that shows that it is too long
abbrev pub most_read : Option LookRequest → ℕ
most_read None = 0
most_read (Some request) = limit_of request + 1

-- a text for a request about an input, and a refusal
abbrev pub IsRequestText : LookRequest → List ℕ → List ℕ → Type 0
IsRequestText (request.View view) = IsViewText view
IsRequestText (Simulate shown) = text_of shown

abbrev pub IsRequestRefusal : LookRequest → List ℕ → InputRefusal → Type 0
IsRequestRefusal (request.View view) = IsViewRefusal view
IsRequestRefusal (Simulate shown) = IsSimulateRefusal shown

-- an output for a request about an input
abbrev pub IsRequestOutput : LookRequest → List ℕ → Output → Type 0
IsRequestOutput request input out = IsOutputFor (limit_of request) (IsRequestText request) (IsRefusalLine (IsRequestRefusal request)) input out

-- an output for the arguments and an input, if the bytes of the reader are known
abbrev pub IsLooked : Option LookRequest → Option (List ℕ) → Output → Type 0
IsLooked None input out = out ≡ output.Usage
IsLooked (Some request) input out = IfSome input (λ bytes. IsRequestOutput request bytes out)
