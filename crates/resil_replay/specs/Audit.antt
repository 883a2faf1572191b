-- Which text `audit` writes for an input, and which refusal an input has.
use Rattle.std.specs.Prelude.{ℕ, ◌≡◌, ◌++◌, List, codes, decimal}
use Rattle.resil_rule.specs.Limits.{Sizes}
use Rattle.resil_rule.specs.Verdict.{IsVerdict}
use Rattle.resil_rule.specs.declared.event.Event.{Event}
use Rattle.resil_rule.specs.declared.verdict.Verdict.{Verdict}
use Rattle.resil_rule.specs.declared.verdict.Verdict.TheVariants.{Legal, FirstIllegal}
use Rattle.resil_replay.specs.Head.{pool_head_of}
use Rattle.resil_replay.specs.Events.{IsAuditBody, IsAuditBodyError}
use Rattle.resil_heads.specs.Parts.{SplitsInto, IsPartRefusal}
use Rattle.resil_heads.specs.declared.refusal.InputRefusal.{InputRefusal}

-- one line: `legal`, or `illegal` and the position of the first illegal event, from 1
abbrev pub verdict_text : Verdict → List ℕ
verdict_text Legal = codes "legal\n"
verdict_text (FirstIllegal position) = codes "illegal " ++ (decimal position ++ codes "\n")

-- The input splits into a head of a pool and a body, the body is a history, and the text is that of
-- its verdict under the limits of the head.
abbrev pub IsAuditText : List ℕ → List ℕ → Type 0
IsAuditText input text = (limits : Sizes) × (body : List ℕ) × (history : List Event) × (verdict : Verdict)
    × SplitsInto pool_head_of input limits body × IsAuditBody body history × IsVerdict limits history verdict × (text ≡ verdict_text verdict)

-- the refusal of the first step that refuses the input: its parts, its head, its body
abbrev pub IsAuditRefusal : List ℕ → InputRefusal → Type 0
IsAuditRefusal input why = IsPartRefusal pool_head_of IsAuditBodyError input why
