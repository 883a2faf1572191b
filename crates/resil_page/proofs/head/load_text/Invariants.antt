use Rattle.std.proofs.Common.{◌≡◌, string_bytes, take}
use Rattle.resil_page.specs.Head.{load_text}
use Rattle.resil_page.proofs.head.load_text.Given as goal

-- the times, and the records of the pools so far
abbrev pub invariant-loop-limits : goal.invariant-loop-limits
invariant-loop-limits l = string_bytes l.text ≡ load_text l.fn.ways l.fn.terms (take l.limits-index l.pools)
