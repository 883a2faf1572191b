-- What an answer says of the sizes.
use Rattle.std.proofs.Common.{◌≡◌, ◌<◌, ℕ, Bool, true, false, cond, ◌&&◌, ◌==◌, List, length, nat_lt, refl, sym, subst, arith}
use Rattle.std.proofs.lemmas.Grind.{common_steps}
use Rattle.resil_rule.specs.Limits.{Sizes}
use Rattle.resil_jdk.specs.declared.event.JdkReply.{JdkReply}
use Rattle.resil_jdk.specs.declared.event.JdkReply.TheVariants.{Core, First, Queued, Handed, Extra, Full, Closed}
use Rattle.resil_jdk.specs.declared.event.JdkEvent.{JdkEvent}
use Rattle.resil_jdk.specs.History.{workers, waiting, running, is_closed, core_size, max_size}
use Rattle.resil_jdk.specs.Admission.{reply_after}
use Rattle.resil_jdk.specs.RuleView.{JdkView, next_reply}

-- the answer of a pool that is closed, is below the core size, has a place, has no worker, has an idle worker for a handoff, is below the maximum
abbrev answer : (closed below place none hands more : Bool) → JdkReply
answer closed below place none hands more = cond closed Closed (cond below Core (cond place (cond none First Queued) (cond hands Handed (cond more Extra Full))))

-- what an answer needs of these
abbrev Needs : JdkReply → (below none hands more : Bool) → Type 0
Needs Core below none hands more = below ≡ true
Needs First below none hands more = none ≡ true
Needs Handed below none hands more = hands ≡ true
Needs Extra below none hands more = more ≡ true
Needs _ below none hands more = Unit {0}

needs : (c k p n i m : Bool) → Needs (answer c k p n i m) k n i m
needs true k p n i m = tt
needs false true p n i m = refl
needs false false true true i m = refl
needs false false true false i m = tt
needs false false false n true m = refl
needs false false false n false true = refl
needs false false false n false false = tt

-- what an answer says of the workers, the core size, the jobs that run and the maximum size
abbrev pub Says : JdkReply → (workers core runs max : ℕ) → Type 0
Says Core workers core runs max = workers < core
Says First workers core runs max = workers ≡ 0
Says Handed workers core runs max = runs < workers
Says Extra workers core runs max = workers < max
Says _ workers core runs max = Unit {0}

less : (a b : ℕ) → nat_lt a b ≡ true → a < b
less a b h = grind (arith, common_steps, h)

none-at : (a : ℕ) → (a == 0) ≡ true → a ≡ 0
none-at a h = grind (arith, common_steps, h)

second : (a b : Bool) → (a && b) ≡ true → b ≡ true
second true true h = refl
second true false h = absurd (cc h)
second false b h = absurd (cc h)

module _ (c : Bool) (w k p q r m : ℕ) where
  abbrev by_sizes : JdkReply
  by_sizes = answer c (nat_lt w k) (nat_lt p q) (w == 0) ((q == 0) && nat_lt r w) (nat_lt w m)

  needed : (reply : JdkReply) → reply ≡ by_sizes → Needs reply (nat_lt w k) (w == 0) ((q == 0) && nat_lt r w) (nat_lt w m)
  needed reply is =
      subst (λ (a : JdkReply). Needs a (nat_lt w k) (w == 0) ((q == 0) && nat_lt r w) (nat_lt w m)) (sym is) (needs c (nat_lt w k) (nat_lt p q) (w == 0) ((q == 0) && nat_lt r w) (nat_lt w m))

  says : (reply : JdkReply) → reply ≡ by_sizes → Says reply w k r m
  says Core is = less w k (needed Core is)
  says First is = none-at w (needed First is)
  says Queued is = tt
  says Handed is = less r w (second (q == 0) (nat_lt r w) (needed Handed is))
  says Extra is = less w m (needed Extra is)
  says Full is = tt
  says Closed is = tt

pub says-after : (limits : Sizes) (h : List JdkEvent) (reply : JdkReply) → reply ≡ reply_after limits h → Says reply (workers h) (core_size limits h) (length (running h)) (max_size limits h)
says-after limits h reply is = says (is_closed h) (workers h) (core_size limits h) (length (waiting h)) limits.queue (length (running h)) (max_size limits h) reply is

pub says-next : (v : JdkView) (reply : JdkReply) → reply ≡ next_reply v → Says reply v.workers v.core (length v.runs) v.max
says-next v reply is = says v.closed v.workers v.core (length v.waits) v.limits.queue (length v.runs) v.max reply is
