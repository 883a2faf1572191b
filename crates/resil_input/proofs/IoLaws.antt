-- Writes, one after the other.
use Rattle.std.proofs.Common.{◌+◌, ◌-◌, ℕ, List, length, take, drop, Option, sym, subst}
use Rattle.std.proofs.lemmas.List.{take_rest}
use Rattle.std.proofs.Math.Seq.{take-add}
use Rattle.std.proofs.KnownBytes.{Appends-trans}
use Rattle.std.specs.Io.KnownBytes.{Appends}

-- a write that took some bytes of the rest of a text
pub write_more : (a b c : Option (List ℕ)) (text : List ℕ) (written count : ℕ) → Appends a b (take written text)
    → Appends b c (take count (take (length text - written) (drop written text))) → Appends a c (take (written + count) text)
write_more a b c text written count before next =
    subst (Appends a c) (sym (take-add written count text)) (Appends-trans a b c (take written text) (take count (drop written text)) before (rw take_rest at next))
