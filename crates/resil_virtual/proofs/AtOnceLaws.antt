-- A pool whose time to wake is 0, beside the definition of one whose workers take none.
use Rattle.resil_virtual.proofs.Words.{inl, inr, ◌⊎◌, ◌≡◌, ◌≤◌, ◌<◌, ◌==◌, ◌∷◌, [], ◌++◌, ◌∙◌, ℕ, zero, suc, Bool, true, false, if◌then◌else◌, All, List, Option, Some, None, length, map, option_map, option_to_list, slice_get, take, refl, sym, ap, subst, arith, append_assoc, append-nil, cons_option, filter_map, list_any, IfSome, option_map_or, cases_Bool, common_steps, All-append, All-cons, All-head, All-map, All-nil, All-tail, Id, waiting, JdkEvent, events_in, TimedJdkEvent, free_after, free_ends, free_from, free_next, next_at_once, takes_due, earliest, end_at, ends_at, ends_due, ends_of, finishes, front, has_spare, idle_after, is_at, just_finished, last_at, looks_at, looks_due, looks_of, next_due, own_takes, passed, sooner, still_ends, submissions_due, take_at, without_first, AreSound, own, Arrival, Idle, VirtualPool}
use Rattle.resil_virtual.proofs.FirstLaws.{among, earliest-append, first-is, lt-cases}
use Rattle.resil_virtual.proofs.CauseLaws.{at_of, due-with, jobs-are, next_job, now-job, now-jobs, now-others, others}
use Rattle.resil_virtual.proofs.IdleLaws.{still-from}
use Rattle.resil_virtual.proofs.ListLaws.{all-right}

-- ---- Idle workers by their ends alone.

abbrev pub end_in : Idle → Option ℕ
end_in w = w.end

ends-are : (idle : List Idle) → filter_map (λ end. end) (map end_in idle) ≡ ends_of idle
ends-are [] = refl
ends-are (w ∷ idle) = ap (cons_option w.end) (ends-are idle)

pub still-are : (none : Bool) (at : ℕ) (idle : List Idle) → map end_in (map (passed none at) idle) ≡ map (still_ends at) (map end_in idle)
still-are none at [] = refl
still-are none at (w ∷ idle) = ap (λ (ends : List (Option ℕ)). still_ends at w.end ∷ ends) (still-are none at idle)

pub without-are : (at : ℕ) (idle : List Idle) → map end_in (without_first (ends_at at) idle) ≡ without_first (is_at at) (map end_in idle)
without-are at [] = refl
without-are at (w ∷ idle) = let rest = without-are at idle in grind (arith, rest, cases_Bool (is_at at w.end))

-- no worker was woken
pub look-none : (w : Idle) (idle : List Idle) → looks_of (w ∷ idle) ≡ [] → (w.look ≡ None) × (looks_of idle ≡ [])
look-none w idle none = go w.look none
  where
    go : (o : Option ℕ) → cons_option o (looks_of idle) ≡ [] → (o ≡ None) × (looks_of idle ≡ [])
    go None none = (refl, none)
    go (Some look) none = absurd (cc none)

pub passed-none_looks : (none : Bool) (at : ℕ) (idle : List Idle) → looks_of idle ≡ [] → looks_of (map (passed none at) idle) ≡ []
passed-none_looks none at [] looks = refl
passed-none_looks none at (w ∷ idle) looks = let both = look-none w idle looks in rw both.0 (go none (passed-none_looks none at idle both.1))
  where
    go : (b : Bool) → looks_of (map (passed none at) idle) ≡ [] → cons_option (if b then None else None) (looks_of (map (passed none at) idle)) ≡ []
    go true rest = rest
    go false rest = rest

pub without-looks : (p : Idle → Bool) (idle : List Idle) → looks_of idle ≡ [] → looks_of (without_first p idle) ≡ []
without-looks p [] looks = refl
without-looks p (w ∷ idle) looks = let both = look-none w idle looks in go (p w) both.0 both.1 (without-looks p idle both.1)
  where
    go : (b : Bool) → w.look ≡ None → looks_of idle ≡ [] → looks_of (without_first p idle) ≡ [] → looks_of (if b then idle else w ∷ without_first p idle) ≡ []
    go true look rest less = rest
    go false look rest less = rw look less

pub take-looks : (n : ℕ) (idle : List Idle) → looks_of idle ≡ [] → looks_of (take n idle) ≡ []
take-looks zero idle looks = refl
take-looks (suc n) [] looks = refl
take-looks (suc n) (w ∷ idle) looks = let both = look-none w idle looks in rw both.0 (take-looks n idle both.1)

pub none-looks : (at : ℕ) (idle : List Idle) → looks_of idle ≡ [] → list_any (looks_at at) idle ≡ false
none-looks at [] looks = refl
none-looks at (w ∷ idle) looks = let both = look-none w idle looks in let rest = none-looks at idle both.1 in rw both.0 rest

abbrev pub Ahead : ℕ → Option ℕ → Type 0
Ahead at end = IfSome end (λ end. at ≤ end)

pub still-ahead : (at : ℕ) (free : List (Option ℕ)) → All (Ahead at) (map (still_ends at) free)
still-ahead at [] = All-nil (Ahead at)
still-ahead at (end ∷ free) = All-cons (Ahead at) (still_ends at end) (map (still_ends at) free) (still-from at end) (still-ahead at free)

ends-ahead : (at : ℕ) (free : List (Option ℕ)) → All (Ahead at) free → All (λ end. at ≤ end) (filter_map (λ end. end) free)
ends-ahead at [] all = All-nil (λ end. at ≤ end)
ends-ahead at (end ∷ free) all = go end (All-head (Ahead at) end free all) (ends-ahead at free (All-tail (Ahead at) end free all))
  where
    go : (o : Option ℕ) → Ahead at o → All (λ end. at ≤ end) (filter_map (λ end. end) free) → All (λ end. at ≤ end) (cons_option o (filter_map (λ end. end) free))
    go None le rest = rest
    go (Some end) le rest = All-cons (λ end. at ≤ end) end (filter_map (λ end. end) free) le rest

module _ (pool : VirtualPool) where
  from-pushed : (before : List TimedJdkEvent) (free : List (Option ℕ)) (h : List TimedJdkEvent) (t : TimedJdkEvent) → free_from pool before free (h ++ t ∷ []) ≡ free_next pool (before ++ h) (free_from pool before free h) t
  from-pushed before free [] t = ap (λ (b : List TimedJdkEvent). free_next pool b free t) (sym (append-nil before))
  from-pushed before free (e ∷ h) t = from-pushed (before ++ e ∷ []) (free_next pool before free e) h t
      ∙ ap (λ (b : List TimedJdkEvent). free_next pool b (free_from pool (before ++ e ∷ []) (free_next pool before free e) h) t) (append_assoc before (e ∷ []) h)

  pub free-pushed : (h : List TimedJdkEvent) (t : TimedJdkEvent) → free_after pool (h ++ t ∷ []) ≡ free_next pool h (free_after pool h) t
  free-pushed h t = from-pushed [] [] h t

-- ---- How the two are alike after events: no worker was woken; or the first was, by the job that was just queued; or a worker has just finished a job
-- and takes another one.

module _ (pool : VirtualPool) (arrivals : List Arrival) (h : List TimedJdkEvent) where
  abbrev ev : List JdkEvent
  ev = events_in h

  pub record IsCalm : Type 0 where
    pub same : map end_in (idle_after pool h) ≡ free_after pool h
    pub looks : looks_of (idle_after pool h) ≡ []
    pub no_own : own ev ≡ 0
    pub quiet : (waiting ev ≡ []) ⊎ (idle_after pool h ≡ [])

  pub record IsWoken : Type 0 where
    pub id : Id
    pub waits : waiting ev ≡ id ∷ []
    pub just : just_finished ev ≡ false
    pub first : Idle
    pub rest : List Idle
    pub idle : idle_after pool h ≡ first ∷ rest
    pub look : first.look ≡ Some (last_at h)
    pub looks : looks_of rest ≡ []
    pub end : Option ℕ
    pub free : free_after pool h ≡ end ∷ map end_in rest
    pub ahead : All (Ahead (last_at h)) (free_after pool h)
    pub later : All (λ f. last_at h < f.at) (finishes arrivals h)

  pub record IsOwn : Type 0 where
    pub id : Id
    pub waits : front ev ≡ Some id
    pub just : just_finished ev ≡ true
    pub idle : idle_after pool h ≡ []
    pub end : Option ℕ
    pub free : free_after pool h ≡ end ∷ []
    pub ahead : All (Ahead (last_at h)) (free_after pool h)

  abbrev pub AreAlike : Type 0
  AreAlike = IsCalm ⊎ IsWoken ⊎ IsOwn

  module _ (next : ℕ) (was : AreSound pool arrivals next h) where
    abbrev idle : List Idle
    idle = idle_after pool h

    abbrev From : TimedJdkEvent → Type 0
    From f = last_at h ≤ f.at

    -- ---- The same is due next.

    pub no-takes : IsCalm → own_takes h ≡ []
    no-takes calm = go (just_finished ev) (waiting ev) calm.no_own
      where
        go : (b : Bool) (ids : List Id) → ◌≡◌ {A = ℕ} (if b then (if length ids == 0 then 0 else 1) else 0) 0 → (if b then option_to_list (option_map (λ id. take_at id (last_at h)) (slice_get ids 0)) else []) ≡ []
        go false ids none = refl
        go true [] none = refl
        go true (x ∷ ids) none = absurd (grind (arith, common_steps, none))

    no-looks : (looks : List ℕ) (o : Option Id) → looks ≡ [] → option_map_or (λ id. map (take_at id) looks) o [] ≡ []
    no-looks looks None none = refl
    no-looks looks (Some id) none = ap (map (take_at id)) none

    no-takes_due : (waiting ev ≡ []) ⊎ (free_after pool h ≡ []) → takes_due h (free_after pool h) ≡ []
    no-takes_due (inr none) = ap (takes_due h) none
    no-takes_due (inl none) = go (free_after pool h)
      where
        first : front ev ≡ None
        first = ap (λ (ids : List Id). slice_get ids 0) none

        go : (free : List (Option ℕ)) → takes_due h free ≡ []
        go [] = refl
        go (end ∷ free) = ap (λ (o : Option Id). option_to_list (option_map (λ id. take_at id (last_at h)) o)) first

    same-ends : IsCalm → ends_due pool h idle ≡ free_ends pool h (free_after pool h)
    same-ends calm = elim calm.quiet [
      | inl none ↦ ap (λ (ids : List Id). option_map_or (λ id. map (take_at id) (ends_of idle)) (slice_get ids 0) (if has_spare pool ev then map end_at (ends_of idle) else [])) none
          ∙ ap (λ (ends : List ℕ). if has_spare pool ev then map end_at ends else []) (sym (ends-are idle)) ∙ ap (free_ends pool h) calm.same
      | inr none ↦ ap (ends_due pool h) none ∙ empty (front ev) (has_spare pool ev) ∙ ap (free_ends pool h) (ap (map end_in) (sym none) ∙ calm.same)
    ]
      where
        empty : (o : Option Id) (b : Bool) → option_map_or (λ id. map (take_at id) []) o (if b then map end_at [] else []) ≡ (if b then map end_at [] else [])
        empty None b = refl
        empty (Some id) true = refl
        empty (Some id) false = refl

    same-calm : IsCalm → next_due pool arrivals h ≡ next_at_once pool arrivals h
    same-calm calm =
        let nobody : takes_due h (free_after pool h) ≡ [] = elim calm.quiet [ inl none ↦ no-takes_due (inl none) | inr none ↦ no-takes_due (inr (sym calm.same ∙ ap (map end_in) none)) ] in
        due-with pool arrivals next h was ∙ ap (λ (own : List TimedJdkEvent). earliest at_of (own ++ others pool arrivals next h was)) (no-takes calm)
        ∙ ap (λ (looks : List TimedJdkEvent). earliest at_of (finishes arrivals h ++ (looks ++ (next_job pool arrivals next h was ++ ends_due pool h idle)))) (no-looks (looks_of idle) (front ev) calm.looks)
        ∙ ap (λ (ends : List TimedJdkEvent). earliest at_of (finishes arrivals h ++ (next_job pool arrivals next h was ++ ends))) (same-ends calm)
        ∙ ap (λ (jobs : List TimedJdkEvent). earliest at_of (finishes arrivals h ++ (jobs ++ free_ends pool h (free_after pool h)))) (sym (jobs-are pool arrivals next h was))
        ∙ ap (λ (takes : List TimedJdkEvent). earliest at_of (takes ++ (finishes arrivals h ++ (submissions_due pool arrivals h ++ free_ends pool h (free_after pool h))))) (sym nobody)

    -- a job that waits is taken now
    take-now : (id : Id) → front ev ≡ Some id → (end : Option ℕ) (rest : List (Option ℕ)) → free_after pool h ≡ end ∷ rest → All (Ahead (last_at h)) (free_after pool h) → next_at_once pool arrivals h ≡ Some (take_at id (last_at h))
    take-now id waits end rest free ahead =
        let now = take_at id (last_at h) in
        let mine : takes_due h (free_after pool h) ≡ now ∷ [] = rw (free, waits) refl in
        ap (λ (takes : List TimedJdkEvent). earliest at_of (takes ++ (finishes arrivals h ++ (submissions_due pool arrivals h ++ free_ends pool h (free_after pool h))))) mine
        ∙ first-is at_of now (finishes arrivals h ++ (submissions_due pool arrivals h ++ free_ends pool h (free_after pool h)))
        (All-append From (finishes arrivals h) (submissions_due pool arrivals h ++ free_ends pool h (free_after pool h)) (now-jobs pool arrivals next h was)
        (All-append From (submissions_due pool arrivals h) (free_ends pool h (free_after pool h)) (subst (All From) (sym (jobs-are pool arrivals next h was)) (now-job pool arrivals next h was (slice_get arrivals next) was.arrival)) (ends (has_spare pool ev))))
      where
        ends : (b : Bool) → All From (if b then map end_at (filter_map (λ end. end) (free_after pool h)) else [])
        ends false = All-nil From
        ends true = All-map From end_at (filter_map (λ end. end) (free_after pool h)) (ends-ahead (last_at h) (free_after pool h) ahead)

    pub own-due : (own : IsOwn) → next_due pool arrivals h ≡ Some (take_at own.id (last_at h))
    own-due own =
        let mine : own_takes h ≡ take_at own.id (last_at h) ∷ [] = rw (own.just, own.waits) refl in
        due-with pool arrivals next h was ∙ ap (λ (takes : List TimedJdkEvent). earliest at_of (takes ++ others pool arrivals next h was)) mine
        ∙ first-is at_of (take_at own.id (last_at h)) (others pool arrivals next h was) (now-others pool arrivals next h was)

    pub woken-due : (woken : IsWoken) → next_due pool arrivals h ≡ Some (take_at woken.id (last_at h))
    woken-due woken =
        let now = take_at woken.id (last_at h) in
        let first : front ev ≡ Some woken.id = ap (λ (ids : List Id). slice_get ids 0) woken.waits in
        let more = next_job pool arrivals next h was ++ ends_due pool h idle in
        let mine : looks_due h idle ≡ now ∷ [] = rw first (ap (λ (w : List Idle). map (take_at woken.id) (looks_of w)) woken.idle ∙ ap (λ (o : Option ℕ). map (take_at woken.id) (cons_option o (looks_of woken.rest))) woken.look
        ∙ ap (λ (looks : List ℕ). take_at woken.id (last_at h) ∷ map (take_at woken.id) looks) woken.looks) in
        let nobody : own_takes h ≡ [] = rw woken.just refl in
        let rest = all-right From (looks_due h idle) more (all-right From (finishes arrivals h) (looks_due h idle ++ more) (now-others pool arrivals next h was)) in
        due-with pool arrivals next h was ∙ ap (λ (takes : List TimedJdkEvent). earliest at_of (takes ++ others pool arrivals next h was)) nobody
        ∙ ap (λ (looks : List TimedJdkEvent). earliest at_of (finishes arrivals h ++ (looks ++ more))) mine
        ∙ earliest-append at_of (finishes arrivals h) (now ∷ more)
        ∙ ap (sooner at_of (earliest at_of (finishes arrivals h))) (first-is at_of now more rest)
        ∙ go (earliest at_of (finishes arrivals h)) refl
      where
        go : (e : Option TimedJdkEvent) → earliest at_of (finishes arrivals h) ≡ e → sooner at_of e (Some (take_at woken.id (last_at h))) ≡ Some (take_at woken.id (last_at h))
        go None is = refl
        go (Some f) is =
            let after = among at_of (λ f. last_at h < f.at) (finishes arrivals h) woken.later f is in
            elim (lt-cases (last_at h) f.at) [ inl before ↦ rw before.0 refl | inr not_before ↦ absurd (omega (arith, after, not_before.1)) ]

    pub same-due : AreAlike → next_due pool arrivals h ≡ next_at_once pool arrivals h
    same-due (inl calm) = same-calm calm
    same-due (inr (inl woken)) = woken-due woken ∙ sym (take-now woken.id (ap (λ (ids : List Id). slice_get ids 0) woken.waits) woken.end (map end_in woken.rest) woken.free woken.ahead)
    same-due (inr (inr own)) = own-due own ∙ sym (take-now own.id own.waits own.end [] own.free own.ahead)
