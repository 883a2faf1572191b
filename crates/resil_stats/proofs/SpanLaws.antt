-- The beginnings of the spans of jobs, and how long these were, with one more event.
use Rattle.std.proofs.Common.{◌≡◌, ◌∷◌, [], ◌++◌, ◌∙◌, ℕ, Bool, cond, List, Option, Some, None, if◌then◌else◌, length, option_and_then, refl, sym, ap, subst}
use Rattle.std.specs.HashMap.{HashMap, get}
use Rattle.std.specs.List.{cons_option}
use Rattle.std.specs.Option.{option_map}
use Rattle.resil_rule.specs.History.{is_same_id}
use Rattle.resil_rule.specs.declared.event.Id.{Id}
use Rattle.resil_rule.proofs.TimesLaws.{same_id-sym}
use Rattle.resil_jdk.specs.declared.event.JdkEvent.{JdkEvent}
use Rattle.resil_stats.specs.Spans.{AreBegun, beginning, beginnings, begun_at, begun_id, ended_id, is_key, last_index, span, span_at, spans}
use Rattle.resil_stats.specs.declared.spans.Measure.{Measure}
use Rattle.resil_stats.proofs.CountLaws.{after_more}

-- the last index of a job, with one more
pub last-more : {A : Type 0} (id : Id) (other : Option A) (all : List (Id × A)) (one : Id × A) → last_index id other (all ++ one ∷ []) ≡ cond (is_same_id id one.0) (Some one.1) (last_index id other all)
last-more id other [] one = refl
last-more id other (first ∷ all) one = last-more id (if is_same_id id first.0 then Some first.1 else other) all one

-- the table with the beginning of one more span
pub begun-more : {A S : Type 0} (all : List (Id × A)) (id : Id) (index : A) (old new : HashMap (ℕ × ℕ) A S)
    → ((key : ℕ × ℕ) → get is_key new key ≡ cond (is_key (id.caller, id.number) key) (Some index) (get is_key old key)) → AreBegun all old → AreBegun (all ++ (id, index) ∷ []) new
begun-more {A} {S} all id index old new put are x =
    put (x.caller, x.number) ∙ ap (λ (b : Bool). cond b (Some index) (get is_key old (x.caller, x.number))) (same_id-sym id x)
    ∙ ap (λ (o : Option A). cond (is_same_id x id) (Some index) o) (are x) ∙ sym (last-more x None all (id, index))

module _ (measure : Measure) (restated : ℕ) (before : List JdkEvent) (e : JdkEvent) (index : ℕ) (is : index ≡ length before) where
  -- where spans began, with one more event
  pub noted : {S : Type 0} (id : Option Id) (table : HashMap (ℕ × ℕ) ℕ S) → id ≡ begun_id measure restated before e
      → AreBegun (beginnings measure restated before ++ cons_option (option_map (λ x. (x, index)) id) []) table → AreBegun (beginnings measure restated (before ++ e ∷ [])) table
  noted id table same are =
      let one : option_map (λ (x : Id). (x, index)) id ≡ beginning measure restated before e = ap (λ (n : ℕ). option_map (λ (x : Id). (x, n)) id) is ∙ ap (option_map (λ (x : Id). (x, length before))) same in
      let all = ap (λ (o : Option (Id × ℕ)). beginnings measure restated before ++ cons_option o []) one ∙ sym (after_more (beginning measure restated) [] before e) in
      subst (λ (l : List (Id × ℕ)). AreBegun l table) all are

  -- the spans, with one more event
  pub pushed : (times old new : List ℕ) (length' : Option ℕ) (ended : Option Id) → ended ≡ ended_id measure e
      → length' ≡ option_and_then (λ id. option_map (λ from. span times from index) (begun_at (beginnings measure restated (before ++ e ∷ [])) id)) ended
      → old ≡ spans measure restated times before → new ≡ old ++ cons_option length' [] → new ≡ spans measure restated times (before ++ e ∷ [])
  pushed times old new length' ended ends one was more =
      let all = beginnings measure restated (before ++ e ∷ []) in
      let last : length' ≡ span_at measure restated times before e = one ∙ ap (λ (n : ℕ). option_and_then (λ id. option_map (λ from. span times from n) (begun_at all id)) ended) is
      ∙ ap (option_and_then (λ id. option_map (λ from. span times from (length before)) (begun_at all id))) ends in
      more ∙ ap (λ (l : List ℕ). l ++ cons_option length' []) was ∙ ap (λ (o : Option ℕ). spans measure restated times before ++ cons_option o []) last ∙ sym (after_more (span_at measure restated times) [] before e)
