-- When jobs came, and the waits of those that started, with one more event and its time.
use Rattle.std.proofs.Common.{◌≡◌, ◌≤◌, ◌<◌, ◌+◌, ◌-◌, ◌∷◌, [], ◌++◌, ◌∙◌, ◌⊎◌, inl, inr, ℕ, suc, Bool, true, false, cond, List, Option, Some, None, if◌then◌else◌, length, nat_lt, option_and_then, option_map, slice_index, refl, sym, ap, arith, append-nil, length-append}
use Rattle.std.specs.List.{cons_option}
use Rattle.std.proofs.lemmas.List.{get_or_append_left}
use Rattle.std.proofs.Math.Seq.{get_or-append_seam}
use Rattle.std.proofs.lemmas.Option.{same_Some}
use Rattle.resil_rule.specs.History.{is_same_id}
use Rattle.resil_rule.specs.declared.event.Id.{Id}
use Rattle.resil_rule.proofs.IdLaws.{same_id-self}
use Rattle.resil_jdk.specs.History.{accepted_id}
use Rattle.resil_jdk.specs.declared.event.JdkEvent.{JdkEvent}
use Rattle.resil_stats.specs.Spans.{beginning, beginnings, begun_at, begun_id, came_at, ended_id, jdk_waits, last_index, span, span_at, started_id}
use Rattle.resil_stats.specs.Stats.{made_after}
use Rattle.resil_stats.specs.declared.spans.Measure.{Measure}
use Rattle.resil_stats.specs.declared.spans.Measure.TheVariants.{Wait}
use Rattle.resil_stats.proofs.CountLaws.{after_more}
use Rattle.resil_stats.proofs.SpanLaws.{last-more}

-- ---- The time of an event stays, with one more event.

module _ (ts : List ℕ) (t : ℕ) where
  pub time-kept : (i : ℕ) → i < length ts → slice_index (ts ++ t ∷ []) i ≡ slice_index ts i
  time-kept i lt = get_or_append_left ts (t ∷ []) 0 i lt

  pub time-last : (i : ℕ) → i ≡ length ts → slice_index (ts ++ t ∷ []) i ≡ t
  time-last i is = ap (slice_index (ts ++ t ∷ [])) is ∙ get_or-append_seam ts t [] 0

-- ---- A span begins at an event of the history.

module _ (id : Id) (other : Option ℕ) (n more : ℕ) (rest : List (Id × ℕ)) (from : ℕ) (later : (o : Option ℕ) → last_index id o rest ≡ Some from → (o ≡ Some from) ⊎ (from < n + 1 + more)) where
  noted-now : (b : Bool) → cond b (Some n) other ≡ Some from → (other ≡ Some from) ⊎ (from < n + suc more)
  noted-now true is = inr (omega (arith, same_Some n from is))
  noted-now false is = inl is

  noted-first : (o : Option Id) → last_index id other (cons_option (option_map (λ x. (x, n)) o) rest) ≡ Some from → (other ≡ Some from) ⊎ (from < n + suc more)
  noted-first None is = elim (later other is) [ inl was ↦ inl was | inr lt ↦ inr (omega (arith, lt)) ]
  noted-first (Some x) is = elim (later (if is_same_id id x then Some n else other) is) [ inl was ↦ noted-now (is_same_id id x) was | inr lt ↦ inr (omega (arith, lt)) ]

module _ (measure : Measure) (restated : ℕ) where
  noted-by : (before events : List JdkEvent) (id : Id) (from : ℕ) (other : Option ℕ) → last_index id other (made_after (beginning measure restated) before events) ≡ Some from
      → (other ≡ Some from) ⊎ (from < length before + length events)
  noted-by before [] id from other is = inl is
  noted-by before (e ∷ events) id from other is =
      let more = length-append before (e ∷ []) in
      noted-first id other (length before) (length events) (made_after (beginning measure restated) (before ++ e ∷ []) events) from
      (λ o now. elim (noted-by (before ++ e ∷ []) events id from o now) [ inl was ↦ inl was | inr lt ↦ inr (omega (arith, lt, more)) ]) (begun_id measure restated before e) is

  begun-within : (h : List JdkEvent) (id : Id) (from : ℕ) → begun_at (beginnings measure restated h) id ≡ Some from → from < length h
  begun-within h id from is = elim (noted-by [] h id from None is) [ inl none ↦ absurd (cc none) | inr lt ↦ omega (arith, lt) ]

  -- ---- The spans so far stay, with one more time.
  module _ (ts : List ℕ) (t : ℕ) where
    module _ (before : List JdkEvent) (e : JdkEvent) (lt : length before < length ts) where
      begun-span : (id : Id) (o : Option ℕ) → begun_at (beginnings measure restated (before ++ e ∷ [])) id ≡ o
          → option_map (λ from. span (ts ++ t ∷ []) from (length before)) o ≡ option_map (λ from. span ts from (length before)) o
      begun-span id None is = refl
      begun-span id (Some from) is =
          let early = begun-within (before ++ e ∷ []) id from is in
          ap Some (rw (time-kept ts t (length before) lt, time-kept ts t from (omega (arith, early, length-append before (e ∷ []), lt))) refl)

      ended-span : (o : Option Id)
          → option_and_then (λ id. option_map (λ from. span (ts ++ t ∷ []) from (length before)) (begun_at (beginnings measure restated (before ++ e ∷ [])) id)) o
          ≡ option_and_then (λ id. option_map (λ from. span ts from (length before)) (begun_at (beginnings measure restated (before ++ e ∷ [])) id)) o
      ended-span None = refl
      ended-span (Some id) = begun-span id (begun_at (beginnings measure restated (before ++ e ∷ [])) id) refl

      span-kept : span_at measure restated (ts ++ t ∷ []) before e ≡ span_at measure restated ts before e
      span-kept = ended-span (ended_id measure e)

    spans-kept : (before events : List JdkEvent) → length before + length events ≤ length ts
        → made_after (span_at measure restated (ts ++ t ∷ [])) before events ≡ made_after (span_at measure restated ts) before events
    spans-kept before [] le = refl
    spans-kept before (e ∷ events) le =
        ap (λ (o : Option ℕ). cons_option o (made_after (span_at measure restated (ts ++ t ∷ [])) (before ++ e ∷ []) events)) (span-kept before e (omega (arith, le)))
        ∙ ap (cons_option (span_at measure restated ts before e)) (spans-kept (before ++ e ∷ []) events (omega (arith, le, length-append before (e ∷ []))))

-- ---- When a job came.

none-before : (n : ℕ) → nat_lt n 0 ≡ false
none-before n = grind arith

module _ (h : List JdkEvent) (e : JdkEvent) where
  -- where waits began, with one more event
  begun-next : beginnings Wait 0 (h ++ e ∷ []) ≡ beginnings Wait 0 h ++ cons_option (option_map (λ id. (id, length h)) (accepted_id e)) []
  begun-next =
      after_more (beginning Wait 0) [] h e
      ∙ ap (λ (b : Bool). beginnings Wait 0 h ++ cons_option (option_map (λ (id : Id). (id, length h)) (if b then None else accepted_id e)) []) (none-before (length h))

  begun-new : (id : Id) → accepted_id e ≡ Some id → begun_at (beginnings Wait 0 (h ++ e ∷ [])) id ≡ Some (length h)
  begun-new id is =
      ap (λ (l : List (Id × ℕ)). begun_at l id) (begun-next ∙ ap (λ (o : Option Id). beginnings Wait 0 h ++ cons_option (option_map (λ (x : Id). (x, length h)) o) []) is)
      ∙ last-more id None (beginnings Wait 0 h) (id, length h) ∙ ap (λ (b : Bool). cond b (Some (length h)) (begun_at (beginnings Wait 0 h) id)) (same_id-self id)

  module _ (id : Id) where
    not-begun : (o : Option Id) → ((x : Id) → o ≡ Some x → is_same_id id x ≡ false)
        → begun_at (beginnings Wait 0 h ++ cons_option (option_map (λ x. (x, length h)) o) []) id ≡ begun_at (beginnings Wait 0 h) id
    not-begun None other = ap (λ (l : List (Id × ℕ)). begun_at l id) (append-nil (beginnings Wait 0 h))
    not-begun (Some x) other = last-more id None (beginnings Wait 0 h) (x, length h) ∙ ap (λ (b : Bool). cond b (Some (length h)) (begun_at (beginnings Wait 0 h) id)) (other x refl)

    begun-kept : ((x : Id) → accepted_id e ≡ Some x → is_same_id id x ≡ false) → begun_at (beginnings Wait 0 (h ++ e ∷ [])) id ≡ begun_at (beginnings Wait 0 h) id
    begun-kept other = ap (λ (l : List (Id × ℕ)). begun_at l id) begun-next ∙ not-begun (accepted_id e) other

  module _ (ts : List ℕ) (t : ℕ) (same : length ts ≡ length h) where
    pub came-new : (id : Id) → accepted_id e ≡ Some id → came_at (h ++ e ∷ []) (ts ++ t ∷ []) id ≡ Some t
    came-new id is = ap (option_map (slice_index (ts ++ t ∷ []))) (begun-new id is) ∙ ap Some (time-last ts t (length h) (sym same))

    times-kept : (id : Id) (o : Option ℕ) → begun_at (beginnings Wait 0 h) id ≡ o → option_map (slice_index (ts ++ t ∷ [])) o ≡ option_map (slice_index ts) o
    times-kept id None is = refl
    times-kept id (Some from) is = ap Some (time-kept ts t from (omega (arith, begun-within Wait 0 h id from is, same)))

    pub came-kept : (id : Id) → ((x : Id) → accepted_id e ≡ Some x → is_same_id id x ≡ false) → came_at (h ++ e ∷ []) (ts ++ t ∷ []) id ≡ came_at h ts id
    came-kept id other = ap (option_map (slice_index (ts ++ t ∷ []))) (begun-kept id other) ∙ times-kept id (begun_at (beginnings Wait 0 h) id) refl

    -- the wait of the job that starts with the event, if one does
    wait-at : (o : Option ℕ) → option_map (λ from. span (ts ++ t ∷ []) from (length h)) o ≡ option_map (λ at. t - at) (option_map (slice_index (ts ++ t ∷ [])) o)
    wait-at None = refl
    wait-at (Some from) = ap (λ (n : ℕ). Some (n - slice_index (ts ++ t ∷ []) from)) (time-last ts t (length h) (sym same))

    last-wait : (o : Option Id)
        → option_and_then (λ id. option_map (λ from. span (ts ++ t ∷ []) from (length h)) (begun_at (beginnings Wait 0 (h ++ e ∷ [])) id)) o
        ≡ option_and_then (λ id. option_map (λ at. t - at) (came_at (h ++ e ∷ []) (ts ++ t ∷ []) id)) o
    last-wait None = refl
    last-wait (Some id) = wait-at (begun_at (beginnings Wait 0 (h ++ e ∷ [])) id)

    pub waits-more : jdk_waits 0 (ts ++ t ∷ []) (h ++ e ∷ []) ≡ jdk_waits 0 ts h ++ cons_option (option_and_then (λ id. option_map (λ at. t - at) (came_at (h ++ e ∷ []) (ts ++ t ∷ []) id)) (started_id e)) []
    waits-more =
        after_more (span_at Wait 0 (ts ++ t ∷ [])) [] h e
        ∙ ap (λ (l : List ℕ). l ++ cons_option (span_at Wait 0 (ts ++ t ∷ []) h e) []) (spans-kept Wait 0 ts t [] h (omega (arith, same)))
        ∙ ap (λ (o : Option ℕ). jdk_waits 0 ts h ++ cons_option o []) (last-wait (started_id e))
