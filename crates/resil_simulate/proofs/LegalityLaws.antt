-- A history that is legal in a pool is legal in one of the least sizes that it asks for.
use Rattle.resil_simulate.proofs.Words.{◌≡◌, ◌≤◌, ◌<◌, ◌+◌, ◌∷◌, [], ◌++◌, ◌∙◌, inl, inr, ℕ, Bool, true, false, List, if◌then◌else◌, ◌==◌, ◌&&◌, filter, filter_map, get_or, length, max, nat_lt, refl, sym, ap, subst, take, drop, arith, append_assoc, append-nil, cases_Bool, common_steps, length-append, Sizes, AreEnough, IsAsked, IsLegalSomewhere, asked_at, no_hand_off, one_more}
use Rattle.std.proofs.lemmas.List.{drop_more, take-append-drop}
use Rattle.resil_rule.specs.History.{last_size}
use Rattle.resil_rule.proofs.TimesLaws.{same-length, times-append}
use Rattle.resil_jdk.specs.Admission.{AreAllowedAfter, IsAllowed, IsLegal, reply_after}
use Rattle.resil_jdk.specs.History.{core_size, finished, is_begin, is_closed, is_end, kept_size, left, max_size, new_core, new_max, queued, run_at_once, running, taken, times_out, waiting, workers}
use Rattle.resil_jdk.specs.Limits.{AreJdkLimits}
use Rattle.resil_jdk.specs.declared.event.JdkReply.{JdkReply}
use Rattle.resil_jdk.specs.declared.event.JdkReply.TheVariants.{Core, First, Queued, Handed, Extra, Full, Closed}
use Rattle.resil_jdk.specs.declared.event.JdkEvent.{JdkEvent}
use Rattle.resil_jdk.specs.declared.event.JdkEvent.TheVariants.{Submit, IdleEnd, Resized, Start, Cull}
use Rattle.resil_jdk.proofs.ConservationLaws.{as-many, line}
use Rattle.resil_jdk.proofs.HistoryLaws.{legal-push}
use Rattle.resil_simulate.specs.declared.legality.AskedSizes.{AskedSizes}

-- ---- Sizes after resizes.

same-resizes : (h : List JdkEvent) → length (filter_map new_max h) ≡ length (filter_map new_core h)
same-resizes [] = refl
same-resizes (Resized core max ∷ h) = omega (arith, same-resizes h)
same-resizes (e ∷ h) = same-resizes h

-- a size that is no more at the opening is no more later
last-le : (a b : ℕ) (sizes : List ℕ) → a ≤ b → last_size a sizes ≤ last_size b sizes
last-le a b [] le = le
last-le a b (s ∷ sizes) le = omega arith

-- the sizes after a history
abbrev sizes_after : Sizes → List JdkEvent → Sizes
sizes_after limits h = record { core = core_size limits h; max = max_size limits h; queue = limits.queue }

-- if one more worker is needed, a size that is large enough has room for it whenever a greater size has
opened : (h : List JdkEvent) (sizes : List ℕ) → length sizes ≡ length (filter_map new_core h) → (less more : ℕ) → one_more h ≤ less → workers h < last_size more sizes
    → workers h < last_size less sizes
opened h [] same less more enough lt = let none = rw (sym same) at enough in omega (arith, none)
opened h (s ∷ sizes) same less more enough lt = lt

-- a size that has room for one more worker is as large as is needed
asks : (h : List JdkEvent) (sizes : List ℕ) → length sizes ≡ length (filter_map new_core h) → (size : ℕ) → workers h < last_size size sizes → one_more h ≤ size
asks h [] same size lt = rw (sym same) (omega (arith, lt))
asks h (s ∷ sizes) same size lt = grind (arith, common_steps, same)

-- ---- What the sizes say to a submission.

is-below : (a b : ℕ) → a < b → nat_lt a b ≡ true
is-below a b lt = grind (arith, common_steps, lt)

not-below : (a b : ℕ) → b ≤ a → nat_lt a b ≡ false
not-below a b le = grind (arith, common_steps, le)

below : (a b : ℕ) → nat_lt a b ≡ true → a < b
below a b is = grind (arith, common_steps, is)

above : (a b : ℕ) → nat_lt a b ≡ false → b ≤ a
above a b is = grind (arith, common_steps, is)

-- by how many workers there are, how many jobs wait and how many run
module _ (workers waiting running : ℕ) where
  abbrev hands : Sizes → Bool
  hands sizes = (sizes.queue == 0) && nat_lt running workers

  abbrev reply_by : Bool → Sizes → JdkReply
  reply_by closed sizes =
      if closed then Closed else if nat_lt workers sizes.core then Core else if nat_lt waiting sizes.queue then (if workers == 0 then First else Queued)
      else if hands sizes then Handed else if nat_lt workers sizes.max then Extra else Full

  -- what an answer needs of the sizes
  abbrev Serves : JdkReply → Sizes → Type 0
  Serves Core sizes = workers < sizes.core
  Serves First sizes = waiting < sizes.queue
  Serves Queued sizes = waiting < sizes.queue
  Serves Extra sizes = (workers < sizes.max) × (running < workers → 1 ≤ sizes.queue)
  Serves Full sizes = running < workers → 1 ≤ sizes.queue
  Serves _ sizes = Unit {0}

  no-hand : (sizes : Sizes) → (running < workers → 1 ≤ sizes.queue) → hands sizes ≡ false
  no-hand sizes place = elim (cases_Bool (nat_lt running workers)) [
    | inl idle ↦ let some = place (below running workers idle) in grind (arith, common_steps, some, idle)
    | inr busy ↦ grind (arith, common_steps, busy)
  ]

  no-hand_place : (sizes : Sizes) → hands sizes ≡ false → running < workers → 1 ≤ sizes.queue
  no-hand_place sizes none idle = let is = is-below running workers idle in grind (arith, common_steps, none, is)

  -- the answer that sizes give needs no more than they have
  told : (closed : Bool) (sizes : Sizes) → Serves (reply_by closed sizes) sizes
  told true sizes = tt
  told false sizes = elim (cases_Bool (nat_lt workers sizes.core)) [
    | inl has ↦ rw has (below workers sizes.core has)
    | inr all ↦ rw all (elim (cases_Bool (nat_lt waiting sizes.queue)) [
      | inl has ↦ rw has (elim (cases_Bool (workers == 0)) [ inl none ↦ rw none (below waiting sizes.queue has) | inr some ↦ rw some (below waiting sizes.queue has) ])
      | inr full ↦ rw full (elim (cases_Bool (hands sizes)) [
        | inl hand ↦ rw hand tt
        | inr keeps ↦ rw keeps (elim (cases_Bool (nat_lt workers sizes.max)) [
          | inl has ↦ rw has (below workers sizes.max has, no-hand_place sizes keeps)
          | inr most ↦ rw most (no-hand_place sizes keeps)
        ])
      ])
    ])
  ]

  -- sizes that are no more, and enough for the answer, give the same one
  module _ (more less : Sizes) (core : less.core ≤ more.core) (max : less.max ≤ more.max) (queue : less.queue ≤ more.queue) where
    same-reply : (closed : Bool) → Serves (reply_by closed more) less → reply_by closed more ≡ reply_by closed less
    same-reply true serves = refl
    same-reply false serves = elim (cases_Bool (nat_lt workers more.core)) [
      | inl has ↦ (let lt = rw has at serves in rw (has, is-below workers less.core lt) refl)
      | inr all ↦ (let few = not-below workers less.core (omega (arith, core, above workers more.core all)) in elim (cases_Bool (nat_lt waiting more.queue)) [
        | inl has ↦ elim (cases_Bool (workers == 0)) [
          | inl none ↦ (let lt = rw (all, has, none) at serves in rw (all, few, has, none, is-below waiting less.queue lt) refl)
          | inr some ↦ (let lt = rw (all, has, some) at serves in rw (all, few, has, some, is-below waiting less.queue lt) refl)
        ]
        | inr full ↦ (let line = not-below waiting less.queue (omega (arith, queue, above waiting more.queue full)) in elim (cases_Bool (hands more)) [
          | inl hand ↦ (let same : hands less ≡ true = grind (arith, common_steps, hand, queue) in rw (all, few, full, line, hand, same) refl)
          | inr keeps ↦ elim (cases_Bool (nat_lt workers more.max)) [
            | inl has ↦ (let s = rw (all, full, keeps, has) at serves in rw (all, few, full, line, keeps, has, no-hand less s.1, is-below workers less.max s.0) refl)
            | inr most ↦ (let s = rw (all, full, keeps, most) at serves in rw (all, few, full, line, keeps, most, no-hand less s, not-below workers less.max (omega (arith, max, above workers more.max most))) refl)
          ]
        ])
      ])
    ]

-- What a legal history needs.

module _ (limits : Sizes) (h : List JdkEvent) (legal : IsLegal limits h) where
  -- as many jobs wait as were queued and haven't left
  in-line : length (waiting h) + length (left h) ≡ length (queued h)
  in-line =
      let same = same-length (queued h) (left h ++ waiting h) (λ x. line limits h legal x ∙ sym (times-append x (left h) (waiting h))) in
      let parts = length-append (left h) (waiting h) in
      omega (arith, same, parts)

  -- a place is needed if a worker is idle, and only then
  idle-asks : length (running h) < workers h → no_hand_off h ≡ 1
  idle-asks idle =
      let many = as-many limits h legal in
      rw (is-below (length (run_at_once h) + length (taken h) + length (filter is_end h)) (length (finished h) + length (filter is_begin h)) (omega (arith, many, idle))) refl

  asked-idle : (queue : ℕ) → (length (running h) < workers h → 1 ≤ queue) → no_hand_off h ≤ queue
  asked-idle queue place =
      let many = as-many limits h legal in
      let busy = length (run_at_once h) + length (taken h) + length (filter is_end h) in
      let there = length (finished h) + length (filter is_begin h) in
      elim (cases_Bool (nat_lt busy there)) [
        | inl idle ↦ (let lt = below busy there idle in rw idle (place (omega (arith, many, lt))))
        | inr none ↦ rw none (omega arith)
      ]

  abbrev ServesAfter : JdkReply → Sizes → Type 0
  ServesAfter reply sizes = Serves (workers h) (length (waiting h)) (length (running h)) reply sizes

  served-after : (reply : JdkReply) → reply ≡ reply_after limits h → ServesAfter reply (sizes_after limits h)
  served-after reply is = subst (λ r. ServesAfter r (sizes_after limits h)) (sym is) (told (workers h) (length (waiting h)) (length (running h)) (is_closed h) (sizes_after limits h))

  -- the sizes that an event needs are no more than those of a pool that has the event
  pub asked_enough : AreJdkLimits limits → (e : JdkEvent) → IsAllowed limits h e → AreEnough (asked_at h e) limits
  asked_enough are (Submit id Core) allowed = (asks h (filter_map new_core h) refl limits.core (served-after Core allowed.1), are.max.0, omega arith)
  asked_enough are (Submit id First) allowed = (omega arith, are.max.0, omega (arith, in-line, served-after First allowed.1))
  asked_enough are (Submit id Queued) allowed = (omega arith, are.max.0, omega (arith, in-line, served-after Queued allowed.1))
  asked_enough are (Submit id Extra) allowed =
      let serves = served-after Extra allowed.1 in
      (omega arith, asks h (filter_map new_max h) (same-resizes h) limits.max serves.0, asked-idle limits.queue serves.1)
  asked_enough are (Submit id Full) allowed = (omega arith, are.max.0, asked-idle limits.queue (served-after Full allowed.1))
  asked_enough are Start allowed = (asks h (filter_map new_core h) refl limits.core allowed.0, are.max.0, omega arith)
  asked_enough are (Resized core max) allowed = (omega arith, allowed.2, omega arith)
  asked_enough are e allowed = (omega arith, are.max.0, omega arith)

  -- sizes that are no more than those of the pool, and enough, allow what it allows
  module _ (least : Sizes) (core : least.core ≤ limits.core) (max : least.max ≤ limits.max) (queue : least.queue ≤ limits.queue) where
    core-le : core_size least h ≤ core_size limits h
    core-le = last-le least.core limits.core (filter_map new_core h) core

    max-le : max_size least h ≤ max_size limits h
    max-le = last-le least.max limits.max (filter_map new_max h) max

    kept-le : kept_size least h ≤ kept_size limits h
    kept-le = elim (cases_Bool (times_out h)) [ inl on ↦ rw on (omega arith) | inr off ↦ rw off core-le ]

    answers : (reply : JdkReply) → reply ≡ reply_after limits h → ServesAfter reply (sizes_after least h) → reply ≡ reply_after least h
    answers reply is serves =
        is ∙ same-reply (workers h) (length (waiting h)) (length (running h)) (sizes_after limits h) (sizes_after least h) core-le max-le queue (is_closed h) (subst (λ r. ServesAfter r (sizes_after least h)) is serves)

    idle-place : no_hand_off h ≤ least.queue → length (running h) < workers h → 1 ≤ least.queue
    idle-place enough idle = let one = idle-asks idle in omega (arith, one, enough)

    allows : (e : JdkEvent) → IsAllowed limits h e → AreEnough (asked_at h e) least → IsAllowed least h e
    allows (Submit id Core) allowed enough = (allowed.0, answers Core allowed.1 (opened h (filter_map new_core h) refl least.core limits.core enough.0 (served-after Core allowed.1)))
    allows (Submit id First) allowed enough = (allowed.0, answers First allowed.1 (omega (arith, in-line, enough.2)))
    allows (Submit id Queued) allowed enough = (allowed.0, answers Queued allowed.1 (omega (arith, in-line, enough.2)))
    allows (Submit id Handed) allowed enough = (allowed.0, answers Handed allowed.1 tt)
    allows (Submit id Extra) allowed enough =
        (allowed.0, answers Extra allowed.1 (opened h (filter_map new_max h) (same-resizes h) least.max limits.max enough.1 (served-after Extra allowed.1).0, idle-place enough.2))
    allows (Submit id Full) allowed enough = (allowed.0, answers Full allowed.1 (idle-place enough.2))
    allows (Submit id Closed) allowed enough = (allowed.0, answers Closed allowed.1 tt)
    allows IdleEnd allowed enough = (
      allowed.0,
      allowed.1,
      elim allowed.2 [
        | inl spare ↦ inl (omega (arith, kept-le, spare))
        | inr closed ↦ inr closed
      ],
    )
    allows Start allowed enough = (opened h (filter_map new_core h) refl least.core limits.core enough.0 allowed.0, allowed.1, allowed.2)
    allows Cull allowed enough = (
      allowed.0,
      elim allowed.1 [
        | inl spare ↦ inl (omega (arith, max-le, spare))
        | inr stopped ↦ inr stopped
      ],
    )
    allows (Resized c m) allowed enough = (allowed.0, allowed.1, enough.1)
    allows e allowed enough = allowed

module _ (limits least : Sizes) (core : least.core ≤ limits.core) (max : least.max ≤ limits.max) (queue : least.queue ≤ limits.queue) (most : AskedSizes) (enough : AreEnough most least) where
  legal_from : (before events : List JdkEvent) → IsLegal limits before → IsAsked before events most → AreAllowedAfter limits before events → AreAllowedAfter least before events
  legal_from before [] was are legal = tt
  legal_from before (e ∷ events) was are legal = (
    allows limits before was least core max queue e legal.0 (omega (arith, are.0, enough.0), omega (arith, are.1, enough.1), omega (arith, are.2, enough.2)),
    legal_from (before ++ e ∷ []) events (legal-push limits before e was legal.0) are.3 legal.1,
  )

  pub legal_least : (events : List JdkEvent) → IsAsked [] events most → IsLegal limits events → IsLegal least events
  legal_least events are legal = legal_from [] events tt are legal

-- ---- Event by event.

-- in a legal history an event is allowed after those before it, which are legal
parts-legal : (limits : Sizes) (before h : List JdkEvent) (e : JdkEvent) (t : List JdkEvent) → AreAllowedAfter limits before (h ++ e ∷ t) → AreAllowedAfter limits before h × IsAllowed limits (before ++ h) e
parts-legal limits before [] e t legal = (tt, rw append-nil legal.0)
parts-legal limits before (x ∷ h) e t legal = let rest = parts-legal limits (before ++ x ∷ []) h e t legal.1 in ((legal.0, rest.0), rw append_assoc at rest.1)

pub allowed_at : (limits : Sizes) (events : List JdkEvent) (i : ℕ) (d : JdkEvent) → i < length events → IsLegal limits events → IsLegal limits (take i events) × IsAllowed limits (take i events) (get_or events i d)
allowed_at limits events i d lt legal =
    let cut : events ≡ take i events ++ get_or events i d ∷ drop (i + 1) events = sym (take-append-drop i events) ∙ ap (λ (l : List JdkEvent). take i events ++ l) (drop_more events i d lt) in
    parts-legal limits [] (take i events) (get_or events i d) (drop (i + 1) events) (subst (IsLegal limits) cut legal)

-- what one more event needs
pub asked_grown : (before h : List JdkEvent) (e : JdkEvent) (less more : AskedSizes) → less.core ≤ more.core → less.max ≤ more.max → less.queue ≤ more.queue
    → (asked_at (before ++ h) e).core ≤ more.core → (asked_at (before ++ h) e).max ≤ more.max → (asked_at (before ++ h) e).queue ≤ more.queue
    → IsAsked before h less → IsAsked before (h ++ e ∷ []) more
asked_grown before [] e less more core max queue one two three are = (rw append-nil at one, rw append-nil at two, rw append-nil at three, tt)
asked_grown before (x ∷ h) e less more core max queue one two three are =
    (omega (arith, core, are.0), omega (arith, max, are.1), omega (arith, queue, are.2), asked_grown (before ++ x ∷ []) h e less more core max queue (rw append_assoc one) (rw append_assoc two) (rw append_assoc three) are.3)

pub no_events : IsLegalSomewhere []
no_events = (record { core = 1; max = 1; queue = 1 }, record { core = omega arith; max = (omega arith, omega arith, omega arith); queue = omega arith }, tt)

pub some_events : (h : List JdkEvent) → ¬ IsLegalSomewhere h → 0 < length h
some_events [] illegal = absurd (illegal no_events)
some_events (e ∷ h) illegal = omega arith
