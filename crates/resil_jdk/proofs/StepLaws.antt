-- What each call of the rule changes is the step of its event, and what a call's clauses come to.
use Rattle.std.proofs.Common.{◌≡◌, ◌≤◌, ◌+◌, ◌-◌, ◌∷◌, [], ◌++◌, ◌∙◌, ◌==◌, ℕ, Bool, true, false, cond, List, slice_get, slice_index_or, refl, sym, ap, subst, arith, append-nil}
use Rattle.std.specs.Bool.{OnTrue, OnFalse}
use Rattle.std.specs.Result.{IfOk, IfErr}
use Rattle.std.specs.declared.result.Result.{Result}
use Rattle.std.specs.declared.result.Result.TheVariants.{Ok, Err}
use Rattle.std.proofs.Math.Bool.{or-false}
use Rattle.resil_rule.specs.History.{is_among, times}
use Rattle.resil_rule.specs.declared.event.Id.{Id}
use Rattle.resil_jdk.specs.declared.event.JdkReply.{JdkReply}
use Rattle.resil_jdk.specs.declared.event.JdkReply.TheVariants.{Core, First, Queued, Handed, Extra, Full, Closed}
use Rattle.resil_jdk.specs.declared.event.JdkEvent.{JdkEvent}
use Rattle.resil_jdk.specs.declared.event.JdkEvent.TheVariants.{Submit, Take, Finish, IdleEnd, Close, Resized, Start, Cull, Remove, Stop, TimeOut}
use Rattle.resil_jdk.specs.History.{queued, run_at_once}
use Rattle.resil_jdk.specs.RuleView.{JdkView, made_by, May, IsStep, IsTidied, IsSameQueue, IsPlaced, begins}
use Rattle.resil_jdk.specs.RuleState.{IsStateOf, Follows, StaysAt, IsBarred}
use Rattle.resil_jdk.proofs.StateLaws.{or-true, step-follows, not-barred, tidied-stays}

-- ---- steps that change a few fields
module _ (v : JdkView) where
  line-same : v.line ≡ v.line ++ []
  line-same = sym (append-nil v.line)

  pub close-step : IsStep v Close (record v { closed = true })
  close-step = record { limits = refl; core = refl; max = refl; time_out = refl; closed = sym (or-true v.closed); stopped = sym (or-false v.stopped); workers = refl; line = line-same; waits = λ x. refl; runs = λ x. omega arith; made = λ c. omega arith }

  pub stop-step : IsStep v Stop (record v { closed = true; stopped = true })
  stop-step = record { limits = refl; core = refl; max = refl; time_out = refl; closed = sym (or-true v.closed); stopped = sym (or-true v.stopped); workers = refl; line = line-same; waits = λ x. refl; runs = λ x. omega arith; made = λ c. omega arith }

  pub time_out-step : (on : Bool) → IsStep v (TimeOut on) (record v { time_out = on })
  time_out-step on = record { limits = refl; core = refl; max = refl; time_out = refl; closed = sym (or-false v.closed); stopped = sym (or-false v.stopped); workers = refl; line = line-same; waits = λ x. refl; runs = λ x. omega arith; made = λ c. omega arith }

  pub resize-step : (core max : ℕ) → IsStep v (Resized core max) (record v { core = core; max = max })
  resize-step core max = record { limits = refl; core = refl; max = refl; time_out = refl; closed = sym (or-false v.closed); stopped = sym (or-false v.stopped); workers = refl; line = line-same; waits = λ x. refl; runs = λ x. omega arith; made = λ c. omega arith }

  pub start-step : IsStep v Start (record v { workers = v.workers + 1 })
  start-step = record { limits = refl; core = refl; max = refl; time_out = refl; closed = sym (or-false v.closed); stopped = sym (or-false v.stopped); workers = omega arith; line = line-same; waits = λ x. refl; runs = λ x. omega arith; made = λ c. omega arith }

  pub idle-step : 1 ≤ v.workers → IsStep v IdleEnd (record v { workers = v.workers - 1 })
  idle-step some = record { limits = refl; core = refl; max = refl; time_out = refl; closed = sym (or-false v.closed); stopped = sym (or-false v.stopped); workers = omega (arith, some); line = line-same; waits = λ x. refl; runs = λ x. omega arith; made = λ c. omega arith }

  pub cull-step : 1 ≤ v.workers → IsStep v Cull (record v { workers = v.workers - 1 })
  cull-step some = record { limits = refl; core = refl; max = refl; time_out = refl; closed = sym (or-false v.closed); stopped = sym (or-false v.stopped); workers = omega (arith, some); line = line-same; waits = λ x. refl; runs = λ x. omega arith; made = λ c. omega arith }

  pub finish-step : (id : Id) (runs : List Id) → ((x : Id) → times x runs + times x (id ∷ []) ≡ times x v.runs) → IsStep v (Finish id) (record v { runs = runs })
  finish-step id runs less = record { limits = refl; core = refl; max = refl; time_out = refl; closed = sym (or-false v.closed); stopped = sym (or-false v.stopped); workers = refl; line = line-same; waits = λ x. refl; runs = λ x. omega (arith, less x); made = λ c. omega arith }

  pub remove-step : (id : Id) (waits : List Id) → ((x : Id) → times x waits + times x (id ∷ []) ≡ times x v.waits) → IsStep v (Remove id) (record v { waits = waits })
  remove-step id waits less = record { limits = refl; core = refl; max = refl; time_out = refl; closed = sym (or-false v.closed); stopped = sym (or-false v.stopped); workers = refl; line = line-same; waits = λ x. omega (arith, less x); runs = λ x. omega arith; made = λ c. omega arith }

  pub take-step : (id : Id) (waits runs : List Id) → ((x : Id) → times x waits + times x (id ∷ []) ≡ times x v.waits) → ((x : Id) → times x runs ≡ times x v.runs + times x (id ∷ []))
      → IsStep v (Take id) (record v { waits = waits; runs = runs })
  take-step id waits runs less more = record { limits = refl; core = refl; max = refl; time_out = refl; closed = sym (or-false v.closed); stopped = sym (or-false v.stopped); workers = refl; line = line-same; waits = λ x. omega (arith, less x); runs = λ x. omega (arith, more x); made = λ c. omega arith }

-- ---- a submission: what was placed, and counted
module _ (v : JdkView) (id : Id) where
  abbrev placed_as : JdkReply → (waits runs : List Id) (made : List ℕ) → JdkView
  placed_as reply waits runs made = record v { workers = v.workers + begins reply; line = v.line ++ queued (Submit id reply ∷ []); waits = waits; runs = runs; made = made }

  pub placed-step : (reply : JdkReply) (after : JdkView) → IsPlaced v id reply after → ((c : ℕ) → made_by after c ≡ made_by v c + cond (id.caller == c) 1 0) → IsStep v (Submit id reply) after
  placed-step reply after placed counted =
      subst (λ (z : JdkView). IsStep v (Submit id reply) z) (sym placed.rest) (as_step reply after.waits after.runs after.made placed.waits placed.runs counted)
    where
      as_step : (reply : JdkReply) (waits runs : List Id) (made : List ℕ) → ((x : Id) → times x waits ≡ times x v.waits + times x (queued (Submit id reply ∷ [])))
          → ((x : Id) → times x runs ≡ times x v.runs + times x (run_at_once (Submit id reply ∷ []))) → ((c : ℕ) → slice_index_or made c 0 ≡ made_by v c + cond (id.caller == c) 1 0)
          → IsStep v (Submit id reply) (placed_as reply waits runs made)
      as_step Core waits runs made more_waits more_runs counted = record { limits = refl; core = refl; max = refl; time_out = refl; closed = sym (or-false v.closed); stopped = sym (or-false v.stopped); workers = omega arith; line = refl; waits = λ x. omega (arith, more_waits x); runs = λ x. omega (arith, more_runs x); made = counted }
      as_step First waits runs made more_waits more_runs counted = record { limits = refl; core = refl; max = refl; time_out = refl; closed = sym (or-false v.closed); stopped = sym (or-false v.stopped); workers = omega arith; line = refl; waits = λ x. omega (arith, more_waits x); runs = λ x. omega (arith, more_runs x); made = counted }
      as_step Queued waits runs made more_waits more_runs counted = record { limits = refl; core = refl; max = refl; time_out = refl; closed = sym (or-false v.closed); stopped = sym (or-false v.stopped); workers = omega arith; line = refl; waits = λ x. omega (arith, more_waits x); runs = λ x. omega (arith, more_runs x); made = counted }
      as_step Handed waits runs made more_waits more_runs counted = record { limits = refl; core = refl; max = refl; time_out = refl; closed = sym (or-false v.closed); stopped = sym (or-false v.stopped); workers = omega arith; line = refl; waits = λ x. omega (arith, more_waits x); runs = λ x. omega (arith, more_runs x); made = counted }
      as_step Extra waits runs made more_waits more_runs counted = record { limits = refl; core = refl; max = refl; time_out = refl; closed = sym (or-false v.closed); stopped = sym (or-false v.stopped); workers = omega arith; line = refl; waits = λ x. omega (arith, more_waits x); runs = λ x. omega (arith, more_runs x); made = counted }
      as_step Full waits runs made more_waits more_runs counted = record { limits = refl; core = refl; max = refl; time_out = refl; closed = sym (or-false v.closed); stopped = sym (or-false v.stopped); workers = omega arith; line = refl; waits = λ x. omega (arith, more_waits x); runs = λ x. omega (arith, more_runs x); made = counted }
      as_step Closed waits runs made more_waits more_runs counted = record { limits = refl; core = refl; max = refl; time_out = refl; closed = sym (or-false v.closed); stopped = sym (or-false v.stopped); workers = omega arith; line = refl; waits = λ x. omega (arith, more_waits x); runs = λ x. omega (arith, more_runs x); made = counted }

  -- where a job is put, by its answer
  pub placed-core : (runs : List Id) → ((x : Id) → times x runs ≡ times x v.runs + times x (id ∷ [])) → IsPlaced v id Core (record v { workers = v.workers + 1; runs = runs })
  placed-core runs more = record { rest = ap (λ (l : List Id). record v { workers = v.workers + 1; line = l; runs = runs }) (line-same v); waits = λ x. omega arith; runs = more }

  pub placed-first : (waits : List Id) → ((x : Id) → times x waits ≡ times x v.waits + times x (id ∷ [])) → IsPlaced v id First (record v { workers = v.workers + 1; line = v.line ++ id ∷ []; waits = waits })
  placed-first waits more = record { rest = refl; waits = more; runs = λ x. omega arith }

  -- a call that may fail, or find the job there
  pub by_new : {E : Type 0} (reply : JdkReply) (after : JdkView) (r : Result Bool E)
      → ((runs : List Id) → ((x : Id) → times x runs ≡ times x v.runs + times x (id ∷ [])) → IsPlaced v id reply (record v { workers = v.workers + 1; runs = runs }))
      → IfOk r (λ ok. OnTrue ok (after ≡ record v { workers = v.workers + 1; runs = after.runs })) → IfOk r (λ ok. OnTrue ok ((x : Id) → times x after.runs ≡ times x v.runs + times x (id ∷ [])))
      → IfOk r (λ ok. OnTrue ok (IsPlaced v id reply after))
  by_new reply after (Ok true) make is more = subst (λ (z : JdkView). IsPlaced v id reply z) (sym is) (make after.runs more)
  by_new reply after (Ok false) make is more = tt
  by_new reply after (Err why) make is more = tt

  pub by_first : {E : Type 0} (after : JdkView) (r : Result Bool E) → IfOk r (λ ok. OnTrue ok (after ≡ record v { workers = v.workers + 1; line = v.line ++ id ∷ []; waits = after.waits }))
      → IfOk r (λ ok. OnTrue ok ((x : Id) → times x after.waits ≡ times x v.waits + times x (id ∷ []))) → IfOk r (λ ok. OnTrue ok (IsPlaced v id First after))
  by_first after (Ok true) is more = subst (λ (z : JdkView). IsPlaced v id First z) (sym is) (placed-first after.waits more)
  by_first after (Ok false) is more = tt
  by_first after (Err why) is more = tt

-- ---- what a call's clauses come to
-- an event that is followed from a state that nothing but room leads to, and to one that nothing but room leads from
pub follows-tidied : (v w after : JdkView) (e : JdkEvent) → IsTidied v w → Follows w e after → Follows v e after
follows-tidied v w after e tidied follows h state =
    let next = follows h (tidied-stays v w tidied h state) in (rw tidied.rest at next.0, next.1)

pub tidied-follows : (v w after : JdkView) (e : JdkEvent) → Follows v e w → IsTidied w after → Follows v e after
tidied-follows v w after e follows tidied h state = let next = follows h state in (next.0, tidied-stays w after tidied _ next.1)

pub done : (v after w : JdkView) (e : JdkEvent) (ok : Bool) → OnTrue ok (May v e) → OnTrue ok (after ≡ w) → (May v e → IsStep v e w) → OnTrue ok (Follows v e after)
done v after w e true may is step = rw is (step-follows v e w may (step may))
done v after w e false may is step = tt

pub barred : (v : JdkView) (e : JdkEvent) (ok : Bool) → OnFalse ok (¬ May v e) → OnFalse ok (IsBarred v e)
barred v e true bars = tt
barred v e false bars = not-barred v e bars

pub stays : (v after : JdkView) (ok : Bool) → OnFalse ok (after ≡ v) → OnFalse ok (StaysAt v after)
stays v after true same = tt
stays v after false same = λ h state. rw same state

-- a finish
pub finished : (v after : JdkView) (id : Id) (ok : Bool) → ok ≡ is_among id v.runs → OnTrue ok ((x : Id) → times x after.runs + times x (id ∷ []) ≡ times x v.runs) → after ≡ record v { runs = after.runs }
    → OnTrue ok (Follows v (Finish id) after)
finished v after id true had less is =
    subst (λ (z : JdkView). Follows v (Finish id) z) (sym is) (step-follows v (Finish id) (record v { runs = after.runs }) (sym had) (finish-step v id after.runs less))
finished v after id false had less is = tt

pub not-finished : (v : JdkView) (id : Id) (ok : Bool) → ok ≡ is_among id v.runs → OnFalse ok (IsBarred v (Finish id))
not-finished v id true had = tt
not-finished v id false had = not-barred v (Finish id) (λ may. absurd (cc (had ∙ may)))

-- a removal, after which the line is tidied
pub removed : (v after : JdkView) (id : Id) (ok : Bool) → ok ≡ is_among id v.waits → OnTrue ok ((x : Id) → times x after.waits + times x (id ∷ []) ≡ times x v.waits)
    → after ≡ record v { line = after.line; waits = after.waits } → IsSameQueue after.waits v.line after.line → OnTrue ok (Follows v (Remove id) after)
removed v after id true had less is same =
    let w : JdkView = record v { waits = after.waits } in let z : JdkView = record v { line = after.line; waits = after.waits } in
    let tidied : IsTidied w z = record { rest = refl; queue = same; made = λ c. refl } in
    subst (λ (z : JdkView). Follows v (Remove id) z) (sym is) (tidied-follows v w z (Remove id) (step-follows v (Remove id) w (sym had) (remove-step v id after.waits less)) tidied)
removed v after id false had less is same = tt

pub not-removed : (v : JdkView) (id : Id) (ok : Bool) → ok ≡ is_among id v.waits → OnFalse ok (IsBarred v (Remove id))
not-removed v id true had = tt
not-removed v id false had = not-barred v (Remove id) (λ may. absurd (cc (had ∙ may)))

-- a take, before which the line is tidied
module _ (v after : JdkView) (id : Id) (is : after ≡ record v { line = after.line; waits = after.waits; runs = after.runs }) (same : IsSameQueue v.waits v.line after.line) where
  tidied-first : IsTidied v (record v { line = after.line })
  tidied-first = record { rest = refl; queue = same; made = λ c. refl }

  pub took : {E : Type 0} (r : Result Bool E) → IfOk r (λ ok. OnTrue ok (May v (Take id))) → IfOk r (λ ok. OnTrue ok ((x : Id) → times x after.waits + times x (id ∷ []) ≡ times x v.waits))
      → IfOk r (λ ok. OnTrue ok ((x : Id) → times x after.runs ≡ times x v.runs + times x (id ∷ []))) → IfOk r (λ ok. OnTrue ok (Follows v (Take id) after))
  took (Ok true) may less more =
      let w : JdkView = record v { line = after.line } in let front : May w (Take id) = (ap (λ (ids : List Id). slice_get ids 0) same.queue ∙ may.0, may.1, may.2, may.3) in
      let z : JdkView = record v { line = after.line; waits = after.waits; runs = after.runs } in
      subst (λ (z : JdkView). Follows v (Take id) z) (sym is) (follows-tidied v w z (Take id) tidied-first (step-follows w (Take id) z front (take-step w id after.waits after.runs less more)))
  took (Ok false) may less more = tt
  took (Err why) may less more = tt

  -- if nothing else is changed, it is where it was
  only-tidied : (after.waits ≡ v.waits) × (after.runs ≡ v.runs) → StaysAt v after
  only-tidied (waits, runs) h state =
      let z : JdkView = record v { line = after.line } in
      let there : after ≡ z = is ∙ ap (λ (w : List Id). record v { line = after.line; waits = w; runs = after.runs }) waits ∙ ap (λ (r : List Id). record v { line = after.line; runs = r }) runs in
      subst (λ (z : JdkView). IsStateOf h z) (sym there) (tidied-stays v z tidied-first h state)

  pub not-took : {E : Type 0} (r : Result Bool E) → IfOk r (λ ok. OnFalse ok ((after.waits ≡ v.waits) × (after.runs ≡ v.runs))) → IfOk r (λ ok. OnFalse ok (StaysAt v after))
  not-took (Ok true) same = tt
  not-took (Ok false) same = only-tidied same
  not-took (Err why) same = tt

  pub failed-take : {A E : Type 0} (r : Result A E) (P : E → Type 0) → IfErr r (λ e. P e × (after.waits ≡ v.waits) × (after.runs ≡ v.runs)) → IfErr r (λ e. P e × StaysAt v after)
  failed-take (Ok ok) P same = tt
  failed-take (Err why) P same = (same.0, only-tidied (same.1, same.2))

-- of calls that may fail
pub submitted : {E : Type 0} (v after : JdkView) (id : Id) (reply : JdkReply) (r : Result Bool E) → IfOk r (λ ok. OnTrue ok (May v (Submit id reply))) → IfOk r (λ ok. OnTrue ok (IsPlaced v id reply after))
    → IfOk r (λ ok. OnTrue ok ((c : ℕ) → made_by after c ≡ made_by v c + cond (id.caller == c) 1 0)) → IfOk r (λ ok. OnTrue ok (Follows v (Submit id reply) after))
submitted v after id reply (Ok true) may placed counted = step-follows v (Submit id reply) after may (placed-step v id reply after placed counted)
submitted v after id reply (Ok false) may placed counted = tt
submitted v after id reply (Err why) may placed counted = tt

pub barred-ok : {E : Type 0} (v : JdkView) (e : JdkEvent) (r : Result Bool E) → IfOk r (λ ok. OnFalse ok (¬ May v e)) → IfOk r (λ ok. OnFalse ok (IsBarred v e))
barred-ok v e (Ok ok) bars = barred v e ok bars
barred-ok v e (Err why) bars = tt

pub stays-ok : {E : Type 0} (v after : JdkView) (r : Result Bool E) → IfOk r (λ ok. OnFalse ok (IsTidied v after)) → IfOk r (λ ok. OnFalse ok (StaysAt v after))
stays-ok v after (Ok true) tidied = tt
stays-ok v after (Ok false) tidied = tidied-stays v after tidied
stays-ok v after (Err why) tidied = tt

pub failed : {A E : Type 0} (v after : JdkView) (r : Result A E) (P : E → Type 0) → IfErr r (λ e. P e × IsTidied v after) → IfErr r (λ e. P e × StaysAt v after)
failed v after (Ok ok) P tidied = tt
failed v after (Err why) P tidied = (tidied.0, tidied-stays v after tidied.1)
