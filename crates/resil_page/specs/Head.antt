-- What the head of an input says, as text, and why it says nothing.
use Rattle.std.specs.Prelude.{ℕ, ◌≡◌, ◌++◌, ◌∷◌, [], Bool, true, false, List, codes, map}
use Rattle.std.specs.Fmt.{decimal}
use Rattle.resil_heads.specs.Parts.{IsPartRefusal, SplitsInto}
use Rattle.resil_heads.specs.PoolHead.{PoolHeadView, pool_head_of}
use Rattle.resil_heads.specs.declared.refusal.InputRefusal.{InputRefusal}
use Rattle.resil_input.specs.CsvTable.{record_text, table_text}
use Rattle.resil_page.specs.declared.head.HeadOf.{HeadOf}
use Rattle.resil_page.specs.declared.head.HeadOf.TheVariants as head_of
use Rattle.resil_rule.specs.Limits.{Sizes}
use Rattle.resil_simulate.specs.Head.{LoadPlan, load_head_of}
use Rattle.resil_simulate.specs.declared.head.Terms.{Terms}
use Rattle.resil_simulate.specs.declared.head.Ways.{Ways}
use Rattle.resil_simulate.specs.declared.head.Unfinished.{Unfinished}
use Rattle.resil_simulate.specs.declared.head.Unfinished.TheVariants.{Run, Takes}
use Rattle.resil_stats.specs.Text.{span_word}
use Rattle.resil_view.specs.Command.{drawn_uses}

-- the fields of the sizes of a pool
abbrev pub sizes_fields : Sizes → List (List ℕ)
sizes_fields sizes = decimal sizes.core ∷ decimal sizes.max ∷ decimal sizes.queue ∷ []

-- what is said of the head of a history: its sizes, then its name as it is
abbrev pub history_text : PoolHeadView → List ℕ
history_text said = record_text (sizes_fields said.limits) ++ said.name

-- words of a head
abbrev pub flag_word : Bool → List ℕ
flag_word true = codes "true"
flag_word false = codes "false"

abbrev pub unfinished_word : Unfinished → List ℕ
unfinished_word Run = codes "run"
unfinished_word Takes = codes "takes"

-- the fields of what the head of a load says beside the sizes; the second is empty if the head doesn't say it
abbrev pub load_fields : Ways → Terms → List (List ℕ)
load_fields ways terms =
    decimal ways.idle_for ∷ span_word terms.takes ∷ decimal ways.wakes ∷ flag_word ways.time_out ∷ unfinished_word terms.unfinished ∷ decimal terms.made ∷ []

-- what is said of the head of a load: that, then the sizes of each pool, in order
abbrev pub load_text : Ways → Terms → List Sizes → List ℕ
load_text ways terms pools = table_text (load_fields ways terms ∷ map sizes_fields pools)

-- the head of the input says this
abbrev pub IsHistoryHead : List ℕ → PoolHeadView → Type 0
IsHistoryHead input said = (body : List ℕ) × SplitsInto (pool_head_of drawn_uses) input said body

abbrev pub IsLoadHead : List ℕ → LoadPlan → Type 0
IsLoadHead input plan = (body : List ℕ) × SplitsInto load_head_of input plan body

-- the text of what the head of the input says
abbrev pub IsHeadText : HeadOf → List ℕ → List ℕ → Type 0
IsHeadText head_of.History input text = (said : PoolHeadView) × IsHistoryHead input said × (text ≡ history_text said)
IsHeadText head_of.Load input text = (plan : LoadPlan) × IsLoadHead input plan × (text ≡ load_text plan.ways plan.terms plan.pools)

-- why there is none: the input has no head, or its head is refused
abbrev pub IsHeadRefusal : HeadOf → List ℕ → InputRefusal → Type 0
IsHeadRefusal head_of.History input why = IsPartRefusal (pool_head_of drawn_uses) (λ _ _. ⊥) input why
IsHeadRefusal head_of.Load input why = IsPartRefusal load_head_of (λ _ _. ⊥) input why
