-- What is counted of a history is legal by the whole rule, whichever rule judged it; and why an input has no numbers.
use Rattle.std.proofs.Common.{ℕ, ◌≡◌, ◌≤◌, ◌-◌, ◌⊎◌, inl, inr, ◌∷◌, [], ◌++◌, ◌∙◌, suc, List, Option, length, take, refl, sym, ap, subst, arith}
use Rattle.std.proofs.lemmas.Bool.Decides.{leb_tells}
use Rattle.std.proofs.lemmas.List.{take-append-le, take-map, take_all}
use Rattle.resil_rule.specs.Admission as rule
use Rattle.resil_rule.specs.Limits.{AreLimits, Sizes}
use Rattle.resil_rule.specs.Verdict as own
use Rattle.resil_rule.specs.declared.event.Event.{Event}
use Rattle.resil_rule.specs.declared.event.Event.TheVariants as event
use Rattle.resil_rule.specs.declared.verdict.Verdict.{Verdict}
use Rattle.resil_rule.specs.declared.verdict.Verdict.TheVariants.{Legal, FirstIllegal}
use Rattle.resil_jdk.specs.Admission.{IsLegal}
use Rattle.resil_jdk.specs.FromRule.{HaveCore, jdk_event, jdk_history}
use Rattle.resil_jdk.specs.Verdict as whole
use Rattle.resil_jdk.specs.declared.event.JdkEvent.{JdkEvent}
use Rattle.resil_jdk.proofs.FromRuleLaws.{legal-alike}
use Rattle.resil_heads.specs.CommandError.{IsError}
use Rattle.resil_heads.specs.PoolHead.{PoolHeadView}
use Rattle.resil_heads.specs.declared.command_error.CommandError.{CommandError}
use Rattle.resil_heads.specs.declared.command_error.CommandError.TheVariants as error
use Rattle.resil_stats.specs.Stats.{legal_part}
use Rattle.resil_view.specs.Judge.{AnyEvents, IsJudgment, IsPoolRefusal}
use Rattle.resil_view.specs.Numbers.{IsCountedFrom, IsManyMade, IsStatsRefusal, counted_uses, jdk_events}

-- ---- Sizes that `audit` takes, or doesn't.

abbrev Decided : Type 0 → Type 0
Decided P = P ⊎ (P → ⊥)

at-most : (a b : ℕ) → Decided (a ≤ b)
at-most a b = elim (leb_tells a b) [ inl le ↦ inl le.1 | inr lt ↦ inr (λ le. omega (arith, le, lt.1)) ]

both : {P Q : Type 0} → Decided P → Decided Q → Decided (P × Q)
both (inl p) (inl q) = inl (p, q)
both (inl p) (inr bars) = inr (λ pair. bars pair.1)
both (inr bars) q = inr (λ pair. bars pair.0)

all : {P Q R S : Type 0} → Decided P → Decided Q → Decided R → (P → Q → R → S) → (S → P) → (S → Q) → (S → R) → Decided S
all (inl p) (inl q) (inl r) make a b c = inl (make p q r)
all (inl p) (inl q) (inr bars) make a b c = inr (λ s. bars (c s))
all (inl p) (inr bars) r make a b c = inr (λ s. bars (b s))
all (inr bars) q r make a b c = inr (λ s. bars (a s))

decided : (sizes : Sizes) → Decided (AreLimits sizes)
decided sizes =
    all (both (at-most 1 sizes.core) (at-most sizes.core 64)) (both (at-most sizes.core sizes.max) (at-most sizes.max 64)) (both (at-most 1 sizes.queue) (at-most sizes.queue 65536))
    (λ core max queue. record { core = core; max = max; queue = queue }) (λ are. are.core) (λ are. are.max) (λ are. are.queue)

-- ---- The events before the first illegal one.

part-is : {A : Type 0} (prefix : List A) (bad : A) (rest h : List A) (position : ℕ) → h ≡ prefix ++ bad ∷ rest → position ≡ suc (length prefix) → take (position - 1) h ≡ prefix
part-is prefix bad rest h position all at =
    let count : position - 1 ≡ length prefix = omega (arith, at) in
    ap (take (position - 1)) all ∙ ap (λ n. take n (prefix ++ bad ∷ rest)) count ∙ take-append-le (length prefix) prefix (bad ∷ rest) (omega arith) ∙ take_all (length prefix) prefix (omega arith)

own-part : (limits : Sizes) (h : List Event) (verdict : Verdict) → own.IsVerdict limits h verdict → rule.IsLegal limits (legal_part verdict h)
own-part limits h Legal is = is
own-part limits h (FirstIllegal position) (prefix, bad, rest, all, at, legal, other) = subst (rule.IsLegal limits) (sym (part-is prefix bad rest h position all at)) legal

whole-part : (limits : Sizes) (h : List JdkEvent) (verdict : Verdict) → whole.IsVerdict limits h verdict → IsLegal limits (legal_part verdict h)
whole-part limits h Legal is = is
whole-part limits h (FirstIllegal position) (prefix, bad, rest, all, at, legal, other) = subst (IsLegal limits) (sym (part-is prefix bad rest h position all at)) legal

-- in the words of the whole rule
jdk-part : (verdict : Verdict) (h : List Event) → legal_part verdict (jdk_history h) ≡ jdk_history (legal_part verdict h)
jdk-part Legal h = refl
jdk-part (FirstIllegal position) h = take-map jdk_event (position - 1) h

-- no resize of a history that is legal for `audit` sets the core size 0
has-core : (limits : Sizes) (before events : List Event) → rule.AreAllowedAfter limits before events → HaveCore events
has-core limits before [] legal = tt
has-core limits before (event.Submit id answer ∷ events) legal = (tt, has-core limits (before ++ event.Submit id answer ∷ []) events legal.1)
has-core limits before (event.Take id ∷ events) legal = (tt, has-core limits (before ++ event.Take id ∷ []) events legal.1)
has-core limits before (event.Finish id ∷ events) legal = (tt, has-core limits (before ++ event.Finish id ∷ []) events legal.1)
has-core limits before (event.IdleEnd ∷ events) legal = (tt, has-core limits (before ++ event.IdleEnd ∷ []) events legal.1)
has-core limits before (event.Close ∷ events) legal = (tt, has-core limits (before ++ event.Close ∷ []) events legal.1)
has-core limits before (event.Resized core max ∷ events) legal = (legal.0.0, has-core limits (before ++ event.Resized core max ∷ []) events legal.1)

pub judged-legal : (limits : Sizes) (events : AnyEvents) (verdict : Verdict) → IsJudgment limits events verdict → IsLegal limits (legal_part verdict (jdk_events events))
judged-legal limits (inl events) verdict (by_own, by_whole) = elim (decided limits) [
  | inl are ↦
      let legal = own-part limits events verdict (by_own are) in
      subst (IsLegal limits) (sym (jdk-part verdict events)) ((legal-alike limits (legal_part verdict events) are (has-core limits [] (legal_part verdict events) legal)).0 legal)
  | inr other ↦ whole-part limits (jdk_history events) verdict (by_whole other)
]
judged-legal limits (inr events) verdict judged = whole-part limits events verdict judged

-- ---- Refusals.

-- the error of an input that can't be read
pub read-refused : (input : List ℕ) (why : CommandError) → IsError (IsPoolRefusal counted_uses input) why → IsError (IsStatsRefusal input) why
read-refused input error.Memory is = tt
read-refused input error.NoThread is = is
read-refused input (error.Refused why) is = inl is

-- the error of an input that was read, whose head says of more events than there are that they restate a state
pub made-refused : (input : List ℕ) (said : PoolHeadView) (events : AnyEvents) (times : Option (List ℕ)) → IsCountedFrom input said events times
    → (why : CommandError) → IsError (IsManyMade said.recorded.made events) why → IsError (IsStatsRefusal input) why
made-refused input said events times read error.Memory is = tt
made-refused input said events times read error.NoThread is = is
made-refused input said events times read (error.Refused why) is = inr (said, events, times, read, is)
