-- A pool whose time to wake is 0, after each event.
use Rattle.resil_virtual.proofs.Words.{inl, inr, ◌⊎◌, ◌≡◌, ◌≤◌, ◌<◌, ◌+◌, ◌-◌, ◌==◌, ◌&&◌, ◌∷◌, [], ◌++◌, ◌∙◌, ℕ, Bool, true, false, if◌then◌else◌, All, List, Option, Some, None, drop, is_some, length, map, nat_lt, slice_get, take, refl, sym, ap, subst, arith, append-nil, list_any, option_map_or, cases_Bool, common_steps, length-map, map-append, nil_from_length, take-map, All-append, All-cons, All-nil, All-weaker, filter_map-append, is_among, Id, reply_after, running, waiting, workers, JdkEvent, Submit, Take, Finish, IdleEnd, TimeOut, JdkReply, Core, First, Queued, Handed, Extra, Full, Closed, events_in, TimedJdkEvent, GoesOnAtOnce, SameAtOnce, free_after, free_next, begun, begun_id, earliest, end_at, end_from, ends_at, fallen, finishes, front, has_spare, idle_after, idle_next, is_at, is_finish, just_finished, last_at, looks_at, looks_due, looks_of, next_due, none_waits, passed, sooner, still_ends, submission, take_at, without_first, without_taker, wake_first, woken, ends_due, AreSound, ids_to_come, job_of, own, GoesOn, opening, Arrival, Idle, VirtualPool}
use Rattle.resil_virtual.proofs.AtOnceLaws.{Ahead, AreAlike, IsCalm, IsOwn, IsWoken, end_in, free-pushed, look-none, no-takes, none-looks, own-due, passed-none_looks, same-due, still-ahead, still-are, take-looks, without-are, without-looks, woken-due}
use Rattle.resil_virtual.proofs.CauseLaws.{IsTake, are-finishes, at_of, cause, due-with, next_job, others, reached}
use Rattle.resil_virtual.proofs.FinalLaws.{opened-parts}
use Rattle.resil_virtual.proofs.FinishLaws.{just-is, none-front, some-front}
use Rattle.resil_virtual.proofs.FinishLaws as done
use Rattle.resil_virtual.proofs.TakeLaws as taken
use Rattle.resil_virtual.proofs.EndLaws as ended
use Rattle.resil_virtual.proofs.SubmitLaws as submitted
use Rattle.resil_virtual.proofs.FirstLaws.{among, earliest-append, least, lt-cases, none-due}
use Rattle.resil_virtual.proofs.HistoryLaws.{events-are, finishes-same, idle-pushed, last-is}

is-now : (at : ℕ) → is_at at (Some at) ≡ true
is-now at = grind (arith, common_steps)

-- the worker that was woken is gone
woken-gone : (at : ℕ) (w : Idle) (idle : List Idle) → w.look ≡ Some at → without_taker false at (map (passed false at) (w ∷ idle)) ≡ map (passed false at) idle
woken-gone at w idle look = let now : is_at at w.look ≡ true = ap (is_at at) look ∙ is-now at in rw now refl

nobody-waits : (ids : List Id) → slice_get ids 0 ≡ None → ids ≡ []
nobody-waits [] none = refl
nobody-waits (id ∷ ids) none = absurd (cc none)

first-one : (k p z hd m : Bool) → First ≡ (if k then Core else if p then (if z then First else Queued) else if hd then Handed else if m then Extra else Full) → z ≡ true
first-one true p z hd m is = absurd (cc is)
first-one false true true hd m is = refl
first-one false true false hd m is = absurd (cc is)
first-one false false z true m is = absurd (cc is)
first-one false false z false true is = absurd (cc is)
first-one false false z false false is = absurd (cc is)

module _ (pool : VirtualPool) (arrivals : List Arrival) (next : ℕ) (h : List TimedJdkEvent) (was : AreSound pool arrivals next h) where
  abbrev ev : List JdkEvent
  ev = events_in h

  abbrev idle : List Idle
  idle = idle_after pool h

  abbrev free : List (Option ℕ)
  free = free_after pool h

  abbrev pub Goes : TimedJdkEvent → Type 0
  Goes t = (n : ℕ) × AreSound pool arrivals n (h ++ t ∷ []) × AreAlike pool arrivals (h ++ t ∷ [])

  calm-after : (t : TimedJdkEvent) → map end_in (idle_next pool h idle t) ≡ free_next pool h free t → looks_of (idle_next pool h idle t) ≡ [] → own (ev ++ t.event ∷ []) ≡ 0
      → (waiting (ev ++ t.event ∷ []) ≡ []) ⊎ (idle_next pool h idle t ≡ []) → IsCalm pool arrivals (h ++ t ∷ [])
  calm-after t same looks none quiet = record {
    same = ap (map end_in) (idle-pushed pool h t) ∙ same ∙ sym (free-pushed pool h t);
    looks = ap looks_of (idle-pushed pool h t) ∙ looks;
    no_own = ap own (events-are h t) ∙ none;
    quiet = elim quiet [ inl empty ↦ inl (ap waiting (events-are h t) ∙ empty) | inr empty ↦ inr (idle-pushed pool h t ∙ empty) ];
  }

  own-after : (e : JdkEvent) → is_finish e ≡ false → own (ev ++ e ∷ []) ≡ 0
  own-after e other = rw (just-is false ev e, other) refl

  -- ---- A take.

  woken-takes : (w : IsWoken pool arrivals h) → Goes (take_at w.id (last_at h))
  woken-takes w =
      let at = last_at h in let t = take_at w.id at in
      let is = woken-due pool arrivals h next was w in
      let waits : front ev ≡ Some w.id = ap (λ (ids : List Id). slice_get ids 0) w.waits in
      let now : list_any (looks_at at) idle ≡ true = rw (w.idle, ap (is_at at) w.look ∙ is-now at) refl in
      let r = reached pool arrivals next h was t is in
      let left : idle_next pool h idle t ≡ map (passed false at) w.rest =
      taken.same-idle pool arrivals next h was w.id at is waits (inr (inl now)) r ∙ ap (λ (b : Bool). without_taker b at (map (passed false at) idle)) w.just
      ∙ ap (λ (ws : List Idle). without_taker false at (map (passed false at) ws)) w.idle ∙ woken-gone at w.first w.rest w.look in (
        next,
        taken.taken-sound pool arrivals next h was w.id at is waits (inr (inl now)) r,
        inl (calm-after t
            (ap (map end_in) left ∙ still-are false at w.rest ∙ sym (ap (λ (ends : List (Option ℕ)). drop 1 (map (still_ends at) ends)) w.free))
            (ap looks_of left ∙ passed-none_looks false at w.rest w.looks)
            (own-after (Take w.id) refl)
            (inl (taken.waits2 pool arrivals next h was w.id at is waits (inr (inl now)) r ∙ ap (drop 1) w.waits))),
      )

  own-takes : (o : IsOwn pool arrivals h) → Goes (take_at o.id (last_at h))
  own-takes o =
      let at = last_at h in let t = take_at o.id at in
      let is = own-due pool arrivals h next was o in
      let r = reached pool arrivals next h was t is in
      let left : idle_next pool h idle t ≡ [] =
      taken.same-idle pool arrivals next h was o.id at is o.waits (inl o.just) r ∙ ap (λ (b : Bool). without_taker b at (map (passed false at) idle)) o.just ∙ ap (map (passed false at)) o.idle in (
        next,
        taken.taken-sound pool arrivals next h was o.id at is o.waits (inl o.just) r,
        inl (calm-after t
            (ap (map end_in) left ∙ sym (ap (λ (ends : List (Option ℕ)). drop 1 (map (still_ends at) ends)) o.free))
            (ap looks_of left)
            (own-after (Take o.id) refl)
            (inr left)),
      )

  -- nobody takes a job if none was woken
  calm-takes : IsCalm pool arrivals h → (t : TimedJdkEvent) → IsTake pool arrivals next h was t → ⊥
  calm-takes calm t take = elim take.taker [
    | inl just ↦ mine (just_finished ev) just (waiting ev) take.waits calm.no_own
    | inr rest ↦ (elim rest [
      | inl looks ↦ cc (sym (none-looks t.at idle calm.looks) ∙ looks)
      | inr ends ↦ (elim calm.quiet [
        | inl none ↦ cc (sym (ap (λ (ids : List Id). slice_get ids 0) none) ∙ take.waits)
        | inr none ↦ cc (sym (ap (list_any (ends_at t.at)) none) ∙ ends)
      ])
    ])
  ]
    where
      mine : (b : Bool) → b ≡ true → (ids : List Id) → slice_get ids 0 ≡ Some take.id → ◌≡◌ {A = ℕ} (if b then (if length ids == 0 then 0 else 1) else 0) 0 → ⊥
      mine false is ids waits none = cc is
      mine true is [] waits none = cc waits
      mine true is (x ∷ ids) waits none = grind (arith, common_steps, none)

  -- ---- A finish.

  module _ (calm : IsCalm pool arrivals h) (id : Id) (at : ℕ) where
    abbrev f : TimedJdkEvent
    f = record { event = Finish id; at = at }

    module _ (is : next_due pool arrivals h ≡ Some f) (runs : is_among id (ids_to_come arrivals h) ≡ true) where
      calm-falls : none_waits ev ≡ true → IsCalm pool arrivals (h ++ f ∷ [])
      calm-falls none =
          let r = reached pool arrivals next h was f is in
          let more : idle_next pool h idle f ≡ map (passed true at) idle ++ fallen (end_from pool ev at) ∷ [] = rw none refl in
          let nobody : none_waits (ev ++ Finish id ∷ []) ≡ true = done.none2 pool arrivals next h was id at is runs r ∙ none in
          calm-after f
          (ap (map end_in) more ∙ map-append end_in (map (passed true at) idle) (fallen (end_from pool ev at) ∷ [])
          ∙ ap (λ (ends : List (Option ℕ)). ends ++ end_from pool ev at ∷ []) (still-are true at idle ∙ ap (map (still_ends at)) calm.same))
          (ap looks_of more ∙ filter_map-append (λ (w : Idle). w.look) (map (passed true at) idle) (fallen (end_from pool ev at) ∷ []) ∙ append-nil (looks_of (map (passed true at) idle)) ∙ passed-none_looks true at idle calm.looks)
          (rw (just-is false ev (Finish id), nobody) refl)
          (inl (done.waits pool arrivals next h was id at is runs r ∙ (none-front ev none).0))

      own-falls : none_waits ev ≡ false → IsOwn pool arrivals (h ++ f ∷ [])
      own-falls some =
          let r = reached pool arrivals next h was f is in
          let empty : idle ≡ [] = elim calm.quiet [ inl none ↦ absurd (cc (sym (ap (λ (ids : List Id). length ids == 0) none) ∙ some)) | inr none ↦ none ] in
          let stays : idle_next pool h idle f ≡ [] = rw some (ap (map (passed false at)) empty) in
          let one : free_after pool (h ++ f ∷ []) ≡ end_from pool ev at ∷ [] =
          free-pushed pool h f ∙ ap (λ (ends : List (Option ℕ)). map (still_ends at) ends ++ end_from pool ev at ∷ []) (sym calm.same ∙ ap (map end_in) empty) in
          let waits = front-of (front ev) refl (some-front ev some) in
          record {
            id = waits.0;
            waits = ap front (events-are h f) ∙ ap (λ (ids : List Id). slice_get ids 0) (done.waits pool arrivals next h was id at is runs r) ∙ waits.1;
            just = ap just_finished (events-are h f) ∙ just-is false ev (Finish id);
            idle = idle-pushed pool h f ∙ stays;
            end = end_from pool ev at;
            free = one;
            ahead = rw (one, last-is h f) (All-cons (Ahead at) (end_from pool ev at) [] (ahead (has_spare pool ev)) (All-nil (Ahead at)));
          }
        where
          front-of : (o : Option Id) → front ev ≡ o → is_some o ≡ true → (x : Id) × (front ev ≡ Some x)
          front-of None is some = absurd (cc some)
          front-of (Some x) is some = (x, is)

          ahead : (b : Bool) → Ahead at (if b then Some (at + pool.idle_for) else None)
          ahead true = omega arith
          ahead false = tt

      falls : Goes f
      falls = (
        next,
        done.finished-sound pool arrivals next h was id at is runs (reached pool arrivals next h was f is),
        elim (cases_Bool (none_waits ev)) [ inl none ↦ inl (calm-falls none) | inr some ↦ inr (inr (own-falls some)) ],
      )

  -- ---- An end.

  ends : IsCalm pool arrivals h → (at : ℕ) → next_due pool arrivals h ≡ Some (end_at at) → front ev ≡ None → has_spare pool ev ≡ true → list_any (ends_at at) idle ≡ true → Goes (end_at at)
  ends calm at is none spare worker =
      let e = end_at at in let r = reached pool arrivals next h was e is in
      let left = ended.same-idle pool arrivals next h was at is none spare worker r in (
        next,
        ended.ended-sound pool arrivals next h was at is none spare worker r,
        inl (calm-after e
            (ap (map end_in) left ∙ without-are at (map (passed true at) idle) ∙ ap (without_first (is_at at)) (still-are true at idle ∙ ap (map (still_ends at)) calm.same))
            (ap looks_of left ∙ without-looks (ends_at at) (map (passed true at) idle) (passed-none_looks true at idle calm.looks))
            (own-after IdleEnd refl)
            (inl (ended.waits2 pool arrivals next h was at is none spare worker r ∙ nobody-waits (waiting ev) none))),
      )

  -- ---- A submission.

  -- each finish comes after what is due before it, although it would be first at one moment
  finish-later : IsCalm pool arrivals h → (id : Id) (reply : JdkReply) (at : ℕ) → next_due pool arrivals h ≡ Some (record { event = Submit id reply; at = at }) → All (λ f. at < f.at) (finishes arrivals h)
  finish-later calm id reply at is =
      go (earliest at_of F) refl (earliest at_of more) (sym (earliest-append at_of F more) ∙ sym (due-with pool arrivals next h was ∙ ap (λ (takes : List TimedJdkEvent). earliest at_of (takes ++ others pool arrivals next h was)) (no-takes pool arrivals h next was calm)) ∙ is)
    where
      F : List TimedJdkEvent
      F = finishes arrivals h

      more : List TimedJdkEvent
      more = looks_due h idle ++ (next_job pool arrivals next h was ++ ends_due pool h idle)

      s : TimedJdkEvent
      s = record { event = Submit id reply; at = at }

      other : (x : TimedJdkEvent) → earliest at_of F ≡ Some x → x ≡ s → ⊥
      other x first same =
          let finish = among at_of (λ f. f.event ≡ Finish (job_of f.event)) F (are-finishes pool arrivals next h was) x first in
          cc (sym (ap (λ (timed : TimedJdkEvent). timed.event) same) ∙ finish)

      go : (e : Option TimedJdkEvent) → earliest at_of F ≡ e → (o : Option TimedJdkEvent) → sooner at_of e o ≡ Some s → All (λ f. at < f.at) F
      go None first o is = subst (All (λ f. at < f.at)) (sym (none-due at_of F first)) (All-nil (λ f. at < f.at))
      go (Some x) first None is = absurd (other x first (cc is))
      go (Some x) first (Some y) is = elim (lt-cases y.at x.at) [
        | inl before ↦ (let same : y ≡ s = cc (rw before.0 at is) in let here = ap (λ (timed : TimedJdkEvent). timed.at) same in
            All-weaker (λ f. x.at ≤ f.at) (λ f. at < f.at) (λ f le. omega (arith, le, here, before.1)) F (least at_of F x first))
        | inr after ↦ absurd (other x first (cc (rw after.0 at is)))
      ]

  module _ (no_wakes : pool.wakes ≡ 0) (calm : IsCalm pool arrivals h) (a : Arrival) (there : slice_get arrivals next ≡ Some a) where
    abbrev s : JdkReply → TimedJdkEvent
    s reply = record { event = Submit a.id reply; at = a.at }

    abbrev now : List Idle
    now = map (passed (none_waits ev) a.at) idle

    same-now : map end_in now ≡ map (still_ends a.at) free
    same-now = still-are (none_waits ev) a.at idle ∙ ap (map (still_ends a.at)) calm.same

    looks-now : looks_of now ≡ []
    looks-now = passed-none_looks (none_waits ev) a.at idle calm.looks

    empty-now : idle ≡ [] → now ≡ []
    empty-now none = ap (map (passed (none_waits ev) a.at)) none

    -- the workers stay as they are
    module _ (reply : JdkReply) (is : next_due pool arrivals h ≡ Some (record { event = Submit a.id reply; at = a.at })) (by_rule : reply ≡ reply_after pool.limits ev) where
      stays : idle_next pool h idle (s reply) ≡ now → free_next pool h free (s reply) ≡ map (still_ends a.at) free → waiting (ev ++ Submit a.id reply ∷ []) ≡ waiting ev → IsCalm pool arrivals (h ++ s reply ∷ [])
      stays same same_free waits = calm-after (s reply) (ap (map end_in) same ∙ same-now ∙ sym same_free) (ap looks_of same ∙ looks-now) (own-after (Submit a.id reply) refl)
          (elim calm.quiet [ inl none ↦ inl (waits ∙ none) | inr none ↦ inr (same ∙ empty-now none) ])

    look-now : a.at + pool.wakes ≡ a.at
    look-now = omega (arith, no_wakes)

    -- the job wakes the first worker
    wakes-first : (reply : JdkReply) → (is : next_due pool arrivals h ≡ Some (record { event = Submit a.id reply; at = a.at })) → reply ≡ reply_after pool.limits ev → (w : Idle) (rest : List Idle) (end : Option ℕ) → begun_id (Submit a.id reply) ≡ None
        → idle_next pool h idle (s reply) ≡ w ∷ rest → w.look ≡ Some a.at → looks_of rest ≡ [] → free_next pool h free (s reply) ≡ end ∷ map end_in rest → All (Ahead a.at) (free_next pool h free (s reply))
        → waiting (ev ++ Submit a.id reply ∷ []) ≡ a.id ∷ [] → IsWoken pool arrivals (h ++ s reply ∷ [])
    wakes-first reply is by_rule w rest end waits_now idle_is look looks free_is ahead waits = record {
      id = a.id;
      waits = ap waiting (events-are h (s reply)) ∙ waits;
      just = ap just_finished (events-are h (s reply)) ∙ just-is false ev (Submit a.id reply);
      first = w;
      rest = rest;
      idle = idle-pushed pool h (s reply) ∙ idle_is;
      look = look ∙ ap Some (sym (last-is h (s reply)));
      looks = looks;
      end = end;
      free = free-pushed pool h (s reply) ∙ free_is;
      ahead = rw (free-pushed pool h (s reply), last-is h (s reply)) ahead;
      later = rw (finishes-same arrivals h (s reply) waits_now refl, last-is h (s reply)) (finish-later calm a.id reply a.at is);
    }

    -- the first worker begins if there is none
    first-alone : next_due pool arrivals h ≡ Some (record { event = Submit a.id First; at = a.at }) → First ≡ reply_after pool.limits ev → (idle ≡ []) × (waiting ev ≡ [])
    first-alone is by_rule =
        let none = first-one (nat_lt (workers ev) pool.limits.core) (nat_lt (length (waiting ev)) pool.limits.queue) (workers ev == 0) ((pool.limits.queue == 0) && nat_lt (length (running ev)) (workers ev)) (nat_lt (workers ev) pool.limits.max) (by_rule ∙ sym (submitted.reply-is pool arrivals next h was)) in
        let zero_workers : workers ev ≡ 0 = grind (arith, common_steps, none) in
        let crew = was.crew in
        let empty = nil_from_length idle (omega (arith, crew, zero_workers)) in
        (empty, elim was.staffed [ inl quiet ↦ quiet | inr some ↦ (let looks = ap length calm.looks in absurd (omega (arith, some, crew, zero_workers, looks))) ])

    submits : (reply : JdkReply) → (is : next_due pool arrivals h ≡ Some (record { event = Submit a.id reply; at = a.at })) → (by_rule : reply ≡ reply_after pool.limits ev) → AreAlike pool arrivals (h ++ record { event = Submit a.id reply; at = a.at } ∷ [])
    submits Core is by_rule = inl (stays Core is by_rule refl refl (submitted.waits-on pool arrivals next h was a there (reached pool arrivals next h was (s Core) is) Core is by_rule refl refl))
    submits Extra is by_rule = inl (stays Extra is by_rule refl refl (submitted.waits-on pool arrivals next h was a there (reached pool arrivals next h was (s Extra) is) Extra is by_rule refl refl))
    submits Full is by_rule = inl (stays Full is by_rule refl refl (submitted.waits-on pool arrivals next h was a there (reached pool arrivals next h was (s Full) is) Full is by_rule refl refl))
    submits Closed is by_rule = inl (stays Closed is by_rule refl refl (submitted.waits-on pool arrivals next h was a there (reached pool arrivals next h was (s Closed) is) Closed is by_rule refl refl))
    submits Handed is by_rule =
        let waits = submitted.waits-on pool arrivals next h was a there (reached pool arrivals next h was (s Handed) is) Handed is by_rule refl refl in
        inl (calm-after (s Handed)
        (sym (take-map end_in (length now - 1) now) ∙ ap (λ n. take (n - 1) (map end_in now)) (sym (length-map now end_in)) ∙ ap (λ (ends : List (Option ℕ)). take (length ends - 1) ends) same-now)
        (take-looks (length now - 1) now looks-now)
        (own-after (Submit a.id Handed) refl)
        (elim calm.quiet [ inl none ↦ inl (waits ∙ none) | inr none ↦ inr (ap (λ (ws : List Idle). take (length ws - 1) ws) (empty-now none)) ]))
    submits First is by_rule = inr (inl (wakes-first First is by_rule (begun pool a.at) [] (Some (a.at + pool.idle_for)) refl
        (ap (λ (ws : List Idle). ws ++ begun pool a.at ∷ []) (empty-now nobody.0)) (ap Some look-now) refl
        (ap (λ (ends : List (Option ℕ)). ends ++ Some (a.at + pool.idle_for) ∷ []) (sym same-now ∙ ap (map end_in) (empty-now nobody.0)))
        (All-append (Ahead a.at) (map (still_ends a.at) free) (Some (a.at + pool.idle_for) ∷ []) (still-ahead a.at free) (All-cons (Ahead a.at) (Some (a.at + pool.idle_for)) [] (omega arith) (All-nil (Ahead a.at))))
        (submitted.waits-more pool arrivals next h was a there (reached pool arrivals next h was (s First) is) First is by_rule refl refl ∙ ap (λ (ids : List Id). ids ++ a.id ∷ []) nobody.1)))
      where
        nobody : (idle ≡ []) × (waiting ev ≡ [])
        nobody = first-alone is by_rule
    submits Queued is by_rule = go idle refl
      where
        go : (ws : List Idle) → idle ≡ ws → AreAlike pool arrivals (h ++ record { event = Submit a.id Queued; at = a.at } ∷ [])
        go [] none = inl (calm-after (s Queued)
            (ap (λ (ws : List Idle). map end_in (wake_first (a.at + pool.wakes) ws)) (empty-now none) ∙ sym (ap (map end_in) (empty-now none)) ∙ same-now)
            (ap (λ (ws : List Idle). looks_of (wake_first (a.at + pool.wakes) ws)) (empty-now none))
            (own-after (Submit a.id Queued) refl)
            (inr (ap (wake_first (a.at + pool.wakes)) (empty-now none))))
        go (w ∷ ws) some =
            let none : waiting ev ≡ [] = elim calm.quiet [ inl none ↦ none | inr empty ↦ absurd (cc (sym some ∙ empty)) ] in
            let now_is : now ≡ passed (none_waits ev) a.at w ∷ map (passed (none_waits ev) a.at) ws = ap (map (passed (none_waits ev) a.at)) some in
            let both = look-none (passed (none_waits ev) a.at w) (map (passed (none_waits ev) a.at) ws) (ap looks_of (sym now_is) ∙ looks-now) in
            inr (inl (wakes-first Queued is by_rule (woken (a.at + pool.wakes) (passed (none_waits ev) a.at w)) (map (passed (none_waits ev) a.at) ws) (still_ends a.at w.end) refl
            (ap (wake_first (a.at + pool.wakes)) now_is ∙ ap (λ (o : Option ℕ). option_map_or (λ other. passed (none_waits ev) a.at w ∷ wake_first (a.at + pool.wakes) (map (passed (none_waits ev) a.at) ws)) o (woken (a.at + pool.wakes) (passed (none_waits ev) a.at w) ∷ map (passed (none_waits ev) a.at) ws)) both.0)
            (ap Some look-now) both.1
            (sym same-now ∙ ap (map end_in) now_is)
            (still-ahead a.at free)
            (submitted.waits-more pool arrivals next h was a there (reached pool arrivals next h was (s Queued) is) Queued is by_rule refl refl ∙ ap (λ (ids : List Id). ids ++ a.id ∷ []) none)))

  -- ---- What is due.

  steps : pool.wakes ≡ 0 → AreAlike pool arrivals h → (t : TimedJdkEvent) → next_due pool arrivals h ≡ Some t → Goes t
  steps no_wakes (inr (inl woken)) t is = let same : take_at woken.id (last_at h) ≡ t = cc (sym (woken-due pool arrivals h next was woken) ∙ is) in subst Goes same (woken-takes woken)
  steps no_wakes (inr (inr own)) t is = let same : take_at own.id (last_at h) ≡ t = cc (sym (own-due pool arrivals h next was own) ∙ is) in subst Goes same (own-takes own)
  steps no_wakes (inl calm) t is = elim (cause pool arrivals next h was t is) [
    | inl take ↦ absurd (calm-takes calm t take)
    | inr rest ↦ (elim rest [
      | inl finish ↦ subst (λ (e : JdkEvent). Goes (record { event = e; at = t.at })) (sym finish.finishes) (falls calm finish.id t.at (is ∙ ap (λ (e : JdkEvent). Some (record { event = e; at = t.at })) finish.finishes) finish.runs)
      | inr rest ↦ (elim rest [
        | inl job ↦ (let due : next_due pool arrivals h ≡ Some (submission pool.limits ev job.job) = is ∙ ap Some job.is in subst Goes (sym job.is) (
          next + 1,
          submitted.submitted-sound pool arrivals next h was job.job job.comes (reached pool arrivals next h was (submission pool.limits ev job.job) due) (reply_after pool.limits ev) due refl,
          submits no_wakes calm job.job job.comes (reply_after pool.limits ev) due refl,
        ))
        | inr end ↦ subst (λ (e : JdkEvent). Goes (record { event = e; at = t.at })) (sym end.ends) (ends calm t.at (is ∙ ap (λ (e : JdkEvent). Some (record { event = e; at = t.at })) end.ends) end.none end.spare end.worker)
      ])
    ])
  ]

module _ (pool : VirtualPool) (arrivals : List Arrival) where
  opened-calm : IsCalm pool arrivals (opening pool)
  opened-calm = go pool.time_out
    where
      go : (b : Bool) → IsCalm pool arrivals (if b then record { event = TimeOut true; at = 0 } ∷ [] else [])
      go true = record { same = refl; looks = refl; no_own = refl; quiet = inl refl }
      go false = record { same = refl; looks = refl; no_own = refl; quiet = inl refl }

  goes-on : pool.wakes ≡ 0 → (next : ℕ) (before : List TimedJdkEvent) → AreSound pool arrivals next before → AreAlike pool arrivals before → (rest : List TimedJdkEvent) → GoesOn pool arrivals before rest → GoesOnAtOnce pool arrivals before rest
  goes-on no_wakes next before was alike [] none = sym (same-due pool arrivals before next was alike) ∙ none
  goes-on no_wakes next before was alike (t ∷ rest) goes =
      let step = steps pool arrivals next before was no_wakes alike t goes.0 in
      (sym (same-due pool arrivals before next was alike) ∙ goes.0, goes-on no_wakes step.0 (before ++ t ∷ []) step.1 step.2 rest goes.1)

  comes-back : pool.wakes ≡ 0 → (next : ℕ) (before : List TimedJdkEvent) → AreSound pool arrivals next before → AreAlike pool arrivals before → (rest : List TimedJdkEvent) → GoesOnAtOnce pool arrivals before rest → GoesOn pool arrivals before rest
  comes-back no_wakes next before was alike [] none = same-due pool arrivals before next was alike ∙ none
  comes-back no_wakes next before was alike (t ∷ rest) goes =
      let due = same-due pool arrivals before next was alike ∙ goes.0 in let step = steps pool arrivals next before was no_wakes alike t due in
      (due, comes-back no_wakes step.0 (before ++ t ∷ []) step.1 step.2 rest goes.1)

pub same-at-once : SameAtOnce
same-at-once pool arrivals no_wakes sizes fits load history =
    let opened = (opened-parts pool arrivals load sizes fits).sound in let calm = inl (opened-calm pool arrivals) in
    (goes-on pool arrivals no_wakes 0 (opening pool) opened calm history, comes-back pool arrivals no_wakes 0 (opening pool) opened calm history)
