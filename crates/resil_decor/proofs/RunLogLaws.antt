-- Answers that were written down and given, step by step.
use Rattle.std.proofs.Common.{◌≡◌, ◌++◌, ◌∙◌, [], List, sym, ap, append-nil, append_assoc}
use Rattle.resil_decor.specs.declared.permitter.Asked.{Asked}
use Rattle.resil_decor.specs.RunLog.{RunLogView, HasWritten}

-- nothing is written
pub HasWritten-none : (Holds : List Asked → Type 0) (old new : RunLogView) → Holds [] → new.asked ≡ old.asked → HasWritten Holds old new
HasWritten-none Holds old new holds same = record { more = []; written = same ∙ sym (append-nil old.asked); holds = holds }

-- more is written after it
pub HasWritten-both : (First Then Both : List Asked → Type 0) (old middle new : RunLogView) → ((front back : List Asked) → First front → Then back → Both (front ++ back))
    → HasWritten First old middle → HasWritten Then middle new → HasWritten Both old new
HasWritten-both First Then Both old middle new both wrote later = record {
  more = wrote.more ++ later.more;
  written = later.written ∙ ap (λ asked. asked ++ later.more) wrote.written ∙ append_assoc old.asked wrote.more later.more;
  holds = both wrote.more later.more wrote.holds later.holds;
}
