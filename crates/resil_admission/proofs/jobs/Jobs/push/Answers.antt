use Rattle.std.proofs.Common.{◌≡◌, ◌+◌, ◌∷◌, [], ◌++◌, ◌∙◌, inl, inr, ℕ, List, Option, Some, None, true, false, cond, length, map, sym, ap, refl, arith, length-append}
use Rattle.std.specs.List.{position}
use Rattle.std.proofs.lemmas.List.{append_assoc, map-append, length-map}
use Rattle.resil_admission.specs.Words.{is_same_id, is_among, Accepted, Row}
use Rattle.resil_rule.proofs.IdLaws.{same_id-equal}
use Rattle.resil_admission.specs.MachineView.{ids_of}
use Rattle.resil_admission.specs.SubmissionTable.{place_at}
use Rattle.resil_admission.specs.KeptJob.{KeptView}
use Rattle.resil_admission.specs.JobsInvariant.{jobs_of, jobs_kept, job_of_row, kept_row, all_kept, unpicked_in}
use Rattle.resil_admission.proofs.JobLaws.{jobs-kept, kept-push, runs-push, position-last, unpicked-push, unpicked-new}
use Rattle.resil_admission.proofs.jobs.Jobs.push.Goals as goal

-- the jobs that have no row yet, and the new one after them
module _ (c : goal.After-push_back_reserved) where
  abbrev rows : List Row
  rows = c.self.inside.rows.items

  abbrev later : List KeptView
  later = c.self.inside.later.items

  abbrev job : Accepted
  job = record { id = c.args.id; plan = c.args.plan; run = None }

  abbrev one : KeptView
  one = record { job = job; unpicked = true }

  pushed : c.push_back_reserved.new.self.items ≡ later ++ one ∷ []
  pushed = c.push_back_reserved.ensures.items ∙ ap (λ k. later ++ k ∷ []) c.new.ensures

  jobs : jobs_kept rows (jobs_of c.push_back_reserved.new.self.items) ≡ jobs_kept rows (jobs_of later) ++ job ∷ []
  jobs = ap (λ later. jobs_kept rows (jobs_of later)) pushed ∙ ap (jobs_kept rows) (map-append (λ k. k.job) later (one ∷ [])) ∙ kept-push rows (jobs_of later) job

  new : is_among c.args.id (ids_of (jobs_kept rows (jobs_of later))) ≡ false
  new = rw (← c.self.view_is) at c.requires.new

pub invariant_of-self : goal.invariant_of-self
invariant_of-self c =
    let kept = c.self.invariant in
    let room = rw (← c.self.view_is) at c.requires.room.1 in
    let made = rows c in
    let old = jobs_kept made (jobs_of (later c)) in
    let ids = ids_of old in
    let long : length ids ≡ length made + length (later c) = length-map old (λ job. job.id) ∙ length-append (map job_of_row made) (jobs_of (later c)) ∙ omega (arith, length-map made job_of_row, length-map (later c) (λ k. k.job)) in
    let index : c.len.result + c.len-2.result ≡ length ids = omega (arith, long, c.len.ensures, c.len-2.ensures, c.self.inside.rows.ok, c.self.inside.later.ok) in
    let grown : ids_of (jobs_kept made (jobs_of c.push_back_reserved.new.self.items)) ≡ ids ++ c.args.id ∷ [] = ap ids_of (jobs c) ∙ map-append (λ job. job.id) old (job c ∷ []) in
    record {
      own_runs = rw (jobs c) (runs-push _ _ kept.own_runs refl);
      room = omega (arith, ap length (pushed c), length-append {A = KeptView}, room, kept.room, c.self.inside.later.ok);
      places = λ x.
          c.set.ensures x
          ∙ ap (λ (n : ℕ). cond (is_same_id c.args.id x) (Some n) (place_at c.self.inside.places x)) index
          ∙ ap (λ (rest : Option ℕ). cond (is_same_id c.args.id x) (Some (length ids)) rest) (kept.places x)
          ∙ sym (ap (position (is_same_id x)) grown ∙ position-last c.args.id x ids (new c));
    }

pub returns-clause-unpicked : goal.returns-clause-unpicked
returns-clause-unpicked c other =
    let made = all_kept (rows c) (later c) in
    let whole : all_kept (rows c) c.push_back_reserved.new.self.items ≡ made ++ one c ∷ [] = ap (all_kept (rows c)) (pushed c) ∙ sym (append_assoc (map kept_row (rows c)) (later c) (one c ∷ [])) in
    λ told. ap (λ kept. unpicked_in kept other) whole ∙ elim told [
      | inl same ↦
          let fresh : is_among other (ids_of (jobs_of made)) ≡ false = ap (λ jobs. is_among other (ids_of jobs)) (jobs-kept (rows c) (later c)) ∙ ap (λ id. is_among id (ids_of (jobs_kept (rows c) (jobs_of (later c))))) (same_id-equal other c.args.id same) ∙ new c in
          unpicked-new made (one c) other same fresh
      | inr before ↦ unpicked-push made (one c ∷ []) other (rw (← c.self.view_is) at before)
    ]
