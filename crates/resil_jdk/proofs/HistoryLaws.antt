-- What one event more adds, and what holds of each legal history.
use Rattle.std.proofs.Common.{◌≡◌, ◌+◌, ◌∷◌, [], ◌++◌, ◌∙◌, ℕ, Bool, cond, List, Option, length, filter, refl, ap, append_assoc, append-nil, length-append}
use Rattle.std.specs.List.{filter_map}
use Rattle.std.proofs.lemmas.List.Elements.{filter-append, filter_map-append}
use Rattle.resil_rule.specs.Limits.{Sizes}
use Rattle.resil_rule.specs.History.{times, last_size}
use Rattle.resil_rule.specs.declared.event.Id.{Id}
use Rattle.resil_rule.proofs.TimesLaws.{one-if, times-append}
use Rattle.resil_jdk.specs.History.{is_submit_of, submissions, last_setting}
use Rattle.resil_jdk.specs.Admission.{IsAllowed, AreAllowedAfter, IsLegal}
use Rattle.resil_jdk.specs.declared.event.JdkEvent.{JdkEvent}

pub submissions-more : (h : List JdkEvent) (e : JdkEvent) (caller : ℕ) → length (submissions (h ++ e ∷ []) caller) ≡ length (submissions h caller) + cond (is_submit_of caller e) 1 0
submissions-more h e caller = ap length (filter-append (is_submit_of caller) h (e ∷ [])) ∙ length-append (submissions h caller) (filter (is_submit_of caller) (e ∷ []))
    ∙ ap (λ n. length (submissions h caller) + n) (one-if (is_submit_of caller e) e)

module _ (f : JdkEvent → Option Id) (h : List JdkEvent) (e : JdkEvent) where
  pub count-more : length (filter_map f (h ++ e ∷ [])) ≡ length (filter_map f h) + length (filter_map f (e ∷ []))
  count-more = ap length (filter_map-append f h (e ∷ [])) ∙ length-append (filter_map f h) (filter_map f (e ∷ []))

  pub times-more : (x : Id) → times x (filter_map f (h ++ e ∷ [])) ≡ times x (filter_map f h) + times x (filter_map f (e ∷ []))
  times-more x = ap (times x) (filter_map-append f h (e ∷ [])) ∙ times-append x (filter_map f h) (filter_map f (e ∷ []))

pub marks-more : (p : JdkEvent → Bool) (h : List JdkEvent) (e : JdkEvent) → length (filter p (h ++ e ∷ [])) ≡ length (filter p h) + length (filter p (e ∷ []))
marks-more p h e = ap length (filter-append p h (e ∷ [])) ∙ length-append (filter p h) (filter p (e ∷ []))

-- the last of two lists of sizes, or of settings
pub last_size-both : (other : ℕ) (xs ys : List ℕ) → last_size other (xs ++ ys) ≡ last_size (last_size other xs) ys
last_size-both other [] ys = refl
last_size-both other (x ∷ xs) ys = last_size-both x xs ys

pub last_setting-both : (other : Bool) (xs ys : List Bool) → last_setting other (xs ++ ys) ≡ last_setting (last_setting other xs) ys
last_setting-both other [] ys = refl
last_setting-both other (x ∷ xs) ys = last_setting-both x xs ys

-- a legal history goes on by what is allowed
allowed-push : (limits : Sizes) (before events : List JdkEvent) (event : JdkEvent) → AreAllowedAfter limits before events → IsAllowed limits (before ++ events) event
    → AreAllowedAfter limits before (events ++ event ∷ [])
allowed-push limits before [] event legal allowed = (rw append-nil at allowed, tt)
allowed-push limits before (e ∷ events) event legal allowed = (legal.0, allowed-push limits (before ++ e ∷ []) events event legal.1 (rw append_assoc allowed))

pub legal-push : (limits : Sizes) (history : List JdkEvent) (event : JdkEvent) → IsLegal limits history → IsAllowed limits history event → IsLegal limits (history ++ event ∷ [])
legal-push limits history event legal allowed = allowed-push limits [] history event legal allowed

-- what holds at first, and after each event that is allowed, holds of each legal history
module _ (limits : Sizes) (P : List JdkEvent → Type 0) (step : (h : List JdkEvent) (e : JdkEvent) → P h → IsAllowed limits h e → P (h ++ e ∷ [])) where
  holds-after : (before events : List JdkEvent) → P before → AreAllowedAfter limits before events → P (before ++ events)
  holds-after before [] p legal = rw append-nil p
  holds-after before (e ∷ events) p legal = rw append_assoc at (holds-after (before ++ e ∷ []) events (step before e p legal.0) legal.1)

  pub holds-legal : (h : List JdkEvent) → P [] → IsLegal limits h → P h
  holds-legal h p legal = holds-after [] h p legal
