-- The names of replies.
use Rattle.std.specs.Prelude.{ℕ, List, codes}
use Rattle.resil_rule.specs.declared.event.Reply.{Reply}
use Rattle.resil_rule.specs.declared.event.Reply.TheVariants.{Core, Queued, Extra, Full, Closed}

-- the name of a reply, as a history has it
abbrev pub reply_name : Reply → List ℕ
reply_name Core = codes "core"
reply_name Queued = codes "queued"
reply_name Extra = codes "extra"
reply_name Full = codes "full"
reply_name Closed = codes "closed"
