-- Each step of a book follows the definitions, after every history that it may stand for.
use Rattle.std.proofs.Common.{◌≡◌, ◌+◌, ◌-◌, ◌^◌, ◌∷◌, [], ◌++◌, ◌∙◌, ◌<◌, ℕ, zero, min, suc, Bool, true, false, not, cond, List, Option, Some, None, length, filter, drop, slice_get, refl, sym, ap, subst, arith, length-append}
use Rattle.std.specs.List.{filter_map}
use Rattle.std.proofs.lemmas.List.Elements.{filter-append}
use Rattle.resil_rule.specs.History.{accepted, finished, accepted_id, finished_id}
use Rattle.resil_rule.specs.RuleView.{RuleView, busy, with_pick, with_take, with_finish, is_acceptance, with_submission, next_reply, opened}
use Rattle.resil_rule.specs.RuleState.{IsStateOf, Follows as RuleFollows, StaysAt as RuleStaysAt}
use Rattle.resil_rule.specs.Record.{LastView, IsLastOf}
use Rattle.resil_rule.specs.Limits.{Sizes}
use Rattle.resil_rule.specs.Slots.{ids_out}
use Rattle.resil_rule.specs.declared.slots.Slot.{Slot}
use Rattle.resil_rule.specs.declared.rule.Origin.{Origin}
use Rattle.resil_rule.specs.declared.rule.Origin.TheVariants.{Queue}
use Rattle.resil_rule.specs.declared.event.Id.{Id}
use Rattle.resil_rule.specs.declared.event.Reply.{Reply}
use Rattle.resil_rule.specs.declared.event.Reply.TheVariants.{Core, Queued, Extra, Full, Closed}
use Rattle.resil_rule.specs.declared.event.Event.{Event}
use Rattle.resil_rule.specs.declared.event.Event.TheVariants.{Submit, Take, Finish}
use Rattle.resil_rule.proofs.EventLaws.{front-is}
use Rattle.resil_rule.proofs.RuleLaws.{length-ids}
use Rattle.resil_rule.proofs.SlotLaws.{put-length, clear-length, none-out}
use Rattle.resil_rule.proofs.UnpickedLaws.{filtered-same, filtered-more}
use Rattle.resil_c.specs.Book.{BookView, in_64_bits, is_refusal, refusals, IsBookOf, Follows, StaysAt, IsSubmitted, IsPicked, AreCountsOf, opened_book, counts_of}

-- The last events are those from before and one more, for any history.
abbrev pub Writes : LastView → Event → LastView → Type 0
Writes before event after = (history : List Event) → IsLastOf history before → IsLastOf (history ++ event ∷ []) after

-- a count that stops, with one or none added
count-more : (more : Bool) (was n m : ℕ) → was ≡ in_64_bits n → m ≡ n + cond more 1 0 → cond more (in_64_bits (was + 1)) was ≡ in_64_bits m
count-more true was n m is one = omega (arith, is, one)
count-more false was n m is none = omega (arith, is, none)

-- whether there is an item
abbrev has : {A : Type 0} → Option A → Bool
has None = false
has (Some x) = true

listed-more : (f : Event → Option Id) (h : List Event) (e : Event) → length (filter_map f (h ++ e ∷ [])) ≡ length (filter_map f h) + cond (has (f e)) 1 0
listed-more f h e = go (f e) refl
  where
    go : (o : Option Id) → f e ≡ o → length (filter_map f (h ++ e ∷ [])) ≡ length (filter_map f h) + cond (has o) 1 0
    go None is = ap length (filtered-same f h e is) ∙ omega arith
    go (Some id) is = ap length (filtered-more f h e id is) ∙ length-append (filter_map f h) (id ∷ [])

refusals-more : (h : List Event) (e : Event) → length (refusals (h ++ e ∷ [])) ≡ length (refusals h) + cond (is_refusal e) 1 0
refusals-more h e =
    ap length (filter-append is_refusal h (e ∷ [])) ∙ length-append (refusals h) (filter is_refusal (e ∷ []))
    ∙ ap (λ n. length (refusals h) + n) (go (is_refusal e))
  where
    go : (b : Bool) → length (cond b (e ∷ []) []) ≡ cond b 1 0
    go true = refl
    go false = refl

-- the jobs that a rule has: those that run, and those that wait
abbrev pub unfinished_in : RuleView ℕ → ℕ
unfinished_in v = busy v + length v.waiting

-- a step of a book is a step of its rule, if what the book counts fits the event
pub follow : (b c : BookView) (e : Event) → RuleFollows b.rule e c.rule → Writes b.last e c.last
    → c.refused ≡ cond (is_refusal e) (in_64_bits (b.refused + 1)) b.refused
    → c.finished ≡ cond (has (finished_id e)) (in_64_bits (b.finished + 1)) b.finished
    → unfinished_in c.rule + cond (has (finished_id e)) 1 0 ≡ unfinished_in b.rule + cond (has (accepted_id e)) 1 0
    → Follows b e c
follow b c e rule last refused finishes jobs h is =
    let step = rule h is.state in
    let more = listed-more accepted_id h e in
    let done = listed-more finished_id h e in (
      step.0,
      record {
        state = step.1;
        last = last h is.last;
        refused_are = refused ∙ count-more (is_refusal e) b.refused (length (refusals h)) _ is.refused_are (refusals-more h e);
        finished_are = finishes ∙ count-more (has (finished_id e)) b.finished (length (finished h)) _ is.finished_are done;
        accepted_are = omega (arith, more, done, jobs, is.accepted_are);
      },
    )

-- an accepted submission adds one job
accepts : (v : RuleView ℕ) (id : Id) (work : ℕ) (reply : Reply) → unfinished_in (with_submission v id work reply) ≡ unfinished_in v + cond (has (accepted_id (Submit id reply))) 1 0
accepts v id work Core = omega (arith, length-append v.unpicked ((id, work) ∷ []))
accepts v id work Queued = omega (arith, length-append v.waiting ((id, work) ∷ []))
accepts v id work Extra = omega (arith, length-append v.unpicked ((id, work) ∷ []))
accepts v id work Full = omega arith
accepts v id work Closed = omega arith

-- an event that is neither a submission nor a finish, and leaves each job in its state
pub quiet-follow : (v w : RuleView ℕ) (l m : LastView) (refused finishes : ℕ) (e : Event) → is_refusal e ≡ false → finished_id e ≡ None → accepted_id e ≡ None
    → unfinished_in w ≡ unfinished_in v → RuleFollows v e w → Writes l e m
    → Follows (record { rule = v; last = l; refused = refused; finished = finishes }) e (record { rule = w; last = m; refused = refused; finished = finishes })
quiet-follow v w l m refused finishes e no_refusal no_finish no_submission jobs step last =
    follow (record { rule = v; last = l; refused = refused; finished = finishes }) (record { rule = w; last = m; refused = refused; finished = finishes }) e step last
    (rw no_refusal refl) (rw no_finish refl) (rw (no_finish, no_submission) (omega (arith, jobs)))

module _ (b c : BookView) where
  -- a submission that the rule answered
  pub submitted : (id : Id) (work : ℕ) (reply : Reply) → reply ≡ next_reply b.rule → c.rule ≡ with_submission b.rule id work reply → RuleFollows b.rule (Submit id reply) c.rule
      → Writes b.last (Submit id reply) c.last → c.refused ≡ cond (not (is_acceptance reply)) (in_64_bits (b.refused + 1)) b.refused → c.finished ≡ b.finished → IsSubmitted id work b c
  submitted id work reply is rule step last refused done =
      let jobs = ap unfinished_in rule ∙ accepts b.rule id work reply in (
        rule ∙ ap (with_submission b.rule id work) is,
        subst (λ (r : Reply). Follows b (Submit id r) c) is (follow b c (Submit id reply) step last refused done (omega (arith, jobs))),
      )

  pub finish-follow : (slot : Slot) → slice_get b.rule.out slot.place ≡ Some (Some slot.id) → c.rule ≡ with_finish b.rule slot → RuleFollows b.rule (Finish slot.id) c.rule
      → Writes b.last (Finish slot.id) c.last → c.refused ≡ b.refused → c.finished ≡ in_64_bits (b.finished + 1) → Follows b (Finish slot.id) c
  finish-follow slot out rule step last refused done =
      let fewer = clear-length slot.id b.rule.out slot.place out in
      let jobs = ap unfinished_in rule in
      follow b c (Finish slot.id) step last refused done (omega (arith, fewer, jobs))

-- a pick from the queue
pub picked-queue : (v w : RuleView ℕ) (l m : LastView) (refused finishes : ℕ) (origin : Origin) (slot : Slot) (work : ℕ) → origin ≡ Queue → slice_get v.out slot.place ≡ Some None
    → v.unpicked ≡ [] → slice_get v.waiting 0 ≡ Some (slot.id, work) → w ≡ with_take v slot → RuleFollows v (Take slot.id) w → Writes l (Take slot.id) m
    → IsPicked origin slot work (record { rule = v; last = l; refused = refused; finished = finishes }) (record { rule = w; last = m; refused = refused; finished = finishes })
picked-queue v w l m refused finishes origin slot work is free none front rule step last =
    let more = put-length slot.id v.out slot.place free in
    let fewer : length v.waiting ≡ length (drop 1 v.waiting) + 1 = ap length (front-is v.waiting (slot.id, work) front) ∙ omega arith in
    let jobs = ap unfinished_in rule in
    subst (λ (o : Origin). IsPicked o slot work (record { rule = v; last = l; refused = refused; finished = finishes }) (record { rule = w; last = m; refused = refused; finished = finishes }))
    (sym is) (free, none, front, rule, quiet-follow v w l m refused finishes (Take slot.id) refl refl refl (omega (arith, more, fewer, jobs)) step last)

-- an index at which the places have an item is one of theirs
pub below : (places : List (Option Id)) (i : ℕ) (o : Option Id) → slice_get places i ≡ Some o → i < length places
below [] i o there = absurd (cc there)
below (p ∷ places) zero o there = omega arith
below (p ∷ places) (suc i) o there = let rest = below places i o there in omega (arith, rest)

-- a pick of a job with its own worker
pub pick-stays : (b : BookView) (slot : Slot) (work : ℕ) → slice_get b.rule.out slot.place ≡ Some None → slice_get b.rule.unpicked 0 ≡ Some (slot.id, work)
    → RuleStaysAt b.rule (with_pick b.rule slot) → StaysAt b (record b { rule = with_pick b.rule slot })
pick-stays b slot work free front stays h is =
    let more = put-length slot.id b.rule.out slot.place free in
    let fewer : length b.rule.unpicked ≡ length (drop 1 b.rule.unpicked) + 1 = ap length (front-is b.rule.unpicked (slot.id, work) front) ∙ omega arith in
    record {
      state = stays h is.state;
      last = is.last;
      refused_are = is.refused_are;
      finished_are = is.finished_are;
      accepted_are = omega (arith, more, fewer, is.accepted_are);
    }

-- a book that was just made stands for the empty history
pub opens : (sizes : Sizes) (callers kept : ℕ) → IsStateOf [] (opened {W = ℕ} sizes (callers + 1)) → IsLastOf [] (record { events = []; capacity = kept; lost = 0 })
    → IsBookOf [] (opened_book sizes callers kept)
opens sizes callers kept state last =
    let none : length (ids_out (opened {W = ℕ} sizes (callers + 1)).out) ≡ 0 = ap length (none-out sizes.max) in
    record {
      state = state;
      last = last;
      refused_are = refl;
      finished_are = refl;
      accepted_are = omega (arith, none);
    }

-- the numbers of a book belong to each history that it may stand for
pub counts : (b : BookView) (h : List Event) → IsBookOf h b → AreCountsOf b.rule.limits h (counts_of b)
counts b h is = record {
  accepted_are = sum (busy b.rule) (length b.rule.waiting) (length (finished h)) (length (accepted h)) b.finished (2 ^ 64 - 1) is.finished_are is.accepted_are;
  refused_are = is.refused_are;
  finished_are = is.finished_are;
  core_is = is.state.sizes.core_is;
  max_is = is.state.sizes.max_is;
  workers_are = is.state.numbers.workers_are;
  running_are = is.state.numbers.running_are;
  waiting_are = sym (length-ids b.rule.waiting) ∙ ap length is.state.waiting_is;
  closed_is = ap (λ (closed : Bool). cond closed 1 0) is.state.numbers.closed_is;
}
  where
    sum : (r w f a counted limit : ℕ) → counted ≡ min f limit → a ≡ r + w + f → min (counted + (r + w)) limit ≡ min a limit
    sum r w f a counted limit is all = omega (arith, is, all)
