-- `judge` answers what `audit` takes as `audit` does.
use Rattle.std.proofs.Common.{ℕ, ◌≡◌, ◌<◌, ◌∙◌, ◌∷◌, inl, inr, List, Option, Some, None, Result, Ok, Err, length, option_map, refl, sym, ap, subst, arith}
use Rattle.resil_heads.specs.PoolHead.{PoolHeadView}
use Rattle.resil_heads.specs.declared.error.HeadError.{HeadError}
use Rattle.resil_heads.specs.declared.refusal.LoadRefusal.TheVariants.{TimeGoesBack}
use Rattle.resil_heads.specs.declared.refusal.InputRefusal.{InputRefusal}
use Rattle.resil_heads.specs.declared.refusal.InputRefusal.TheVariants as refusal
use Rattle.resil_input.specs.CsvRows.{records_of}
use Rattle.resil_input.specs.Framing.{parts_of}
use Rattle.resil_input.specs.declared.csv_rows.BodyError.{BodyError}
use Rattle.resil_input.specs.declared.csv_rows.BodyError.TheVariants as body_error
use Rattle.resil_record.specs.Body.{record_header}
use Rattle.resil_replay.proofs.EventLaws.{headers-apart}
use Rattle.resil_replay.proofs.VersionLaws.{versions-exclude_errors, versions-unique}
use Rattle.resil_replay.specs.Audit.{verdict_text}
use Rattle.resil_replay.specs.Events.{IsAuditBody, parse_event}
use Rattle.resil_replay.specs.Head as audit
use Rattle.resil_replay.specs.History.{history_header}
use Rattle.resil_replay.specs.Timed.{timed_header}
use Rattle.resil_replay.specs.declared.history.Version.{Version}
use Rattle.resil_replay.specs.declared.history.Version.TheVariants.{One, Two}
use Rattle.resil_rule.proofs.VerdictLaws.{verdict_unique}
use Rattle.resil_rule.specs.Limits.{Sizes}
use Rattle.resil_rule.specs.declared.event.Event.{Event}
use Rattle.resil_stats.specs.Results.{history_part, results_of}
use Rattle.resil_view.specs.Judge.{AnyEvents, IsAnyBody, IsAnyBodyError, IsJudgeRefusal, IsJudgeText, IsJudgment, JudgesAsAudit, judged_head_of}
use Rattle.resil_view.specs.Read.{IsReadFrom}
use Rattle.resil_view.proofs.HeadLaws.{Agrees, head-agrees}

-- a body under a header of `audit`'s isn't under a longer one
apart : (version : Version) (wide : List (List ℕ)) (body : List ℕ) (ours theirs : List (List (List ℕ))) → 6 < length wide → records_of body ≡ history_header version ∷ ours → records_of body ≡ wide ∷ theirs → ⊥
apart One wide body ours theirs long a b =
    let all : history_header One ∷ ours ≡ wide ∷ theirs = sym a ∙ b in
    let same : history_header One ≡ wide = cc all in
    omega (arith, ap length same)
apart Two wide body ours theirs long a b =
    let all : history_header Two ∷ ours ≡ wide ∷ theirs = sym a ∙ b in
    let same : history_header Two ≡ wide = cc all in
    omega (arith, ap length same)

-- a body of `audit` has these events in each version, and no times
any-own : (body : List ℕ) (history : List Event) (events : AnyEvents) (times : Option (List ℕ)) → IsAuditBody body history → IsAnyBody body events times → (events ≡ inl history) × (times ≡ None)
any-own body history (inl events) None own any = (ap inl (versions-unique history_header parse_event headers-apart body any.0 own.0 events history any.1 own.1).1, refl)
any-own body history (inl events) (Some times) own any = absurd (apart own.0 timed_header body _ _ (omega arith) own.1.1 any.1.1)
any-own body history (inr events) times own any = absurd (apart own.0 record_header body _ _ (omega arith) own.1.1 any.1.1)

-- a body of `audit` has no error
no-error : (body : List ℕ) (history : List Event) → IsAuditBody body history → (IsAnyBodyError body body_error.BadHeader → ⊥) × ((position : ℕ) → IsAnyBodyError body (body_error.BadRow position) → ⊥)
no-error body history own = ((λ bad. bad.0.0 own.0 (rw own.1.1 refl)), bad-row)
  where
    bad-row : (position : ℕ) → IsAnyBodyError body (body_error.BadRow position) → ⊥
    bad-row position (inl (inl bad)) = cc (versions-exclude_errors history_header parse_event headers-apart body own.0 history (body_error.BadRow position) own.1 bad)
    bad-row position (inl (inr bad)) = apart own.0 timed_header body _ _ (omega arith) own.1.1 bad.4
    bad-row position (inr bad) = apart own.0 record_header body _ _ (omega arith) own.1.1 bad.4

-- two pairs of parts that are the same
same-parts : (head body head' body' : List ℕ) → ◌≡◌ {A = Option (List ℕ × List ℕ)} (Some (head, body)) (Some (head', body')) → (head ≡ head') × (body ≡ body')
same-parts head body head' body' e =
    let pair : ◌≡◌ {A = List ℕ × List ℕ} (head, body) (head', body') = cc e in
    (ap (λ (p : List ℕ × List ℕ). p.0) pair, ap (λ (p : List ℕ × List ℕ). p.1) pair)

-- an input that splits into a head in which `audit` reads these sizes and a body of this history without results
module _ (input head body : List ℕ) (limits : Sizes) (history : List Event) (parts : parts_of input ≡ Some (head, body)) (said : audit.pool_head_of head ≡ Ok limits) (own : IsAuditBody body history) (clear : results_of body ≡ None) where
  whole-part : history_part body ≡ body
  whole-part = rw clear refl

  agrees : Agrees head limits
  agrees = head-agrees head limits said

  same-head : (head' body' : List ℕ) → parts_of input ≡ Some (head', body') → (head ≡ head') × (body ≡ body')
  same-head head' body' parts' = same-parts head body head' body' (sym parts ∙ parts')

  one-head : (head' : List ℕ) (other : PoolHeadView) → head ≡ head' → judged_head_of head' ≡ Ok other → agrees.0.0 ≡ other
  one-head head' other heads said' =
      let read : ◌≡◌ {A = Result PoolHeadView HeadError} (Ok agrees.0.0) (Ok other) = sym agrees.0.1 ∙ ap judged_head_of heads ∙ said' in
      cc read

  own-part : (body' : List ℕ) (events : AnyEvents) (times : Option (List ℕ)) → body ≡ body' → IsAnyBody (history_part body') events times → IsAnyBody body events times
  own-part body' events times bodies any = subst (λ (part : List ℕ). IsAnyBody part events times) (ap history_part (sym bodies) ∙ whole-part) any

  own-error : (body' : List ℕ) (why : BodyError) → body ≡ body' → IsAnyBodyError (history_part body') why → IsAnyBodyError body why
  own-error body' why bodies bad = subst (λ (part : List ℕ). IsAnyBodyError part why) (ap history_part (sym bodies) ∙ whole-part) bad

  no-results : (body' : List ℕ) (results : Option (List ℕ)) → body ≡ body' → results ≡ option_map (λ parts. parts.1) (results_of body') → results ≡ None
  no-results body' results bodies is = is ∙ ap (λ (part : List ℕ). option_map (λ parts. parts.1) (results_of part)) (sym bodies) ∙ rw clear refl

  -- what is read of it
  reads : (other : PoolHeadView) (events : AnyEvents) (times results : Option (List ℕ)) → IsReadFrom judged_head_of IsAnyBody input other events times results
      → (other.limits ≡ limits) × (events ≡ inl history) × (times ≡ None) × (results ≡ None)
  reads other events times results (body', (head', parts', said'), any, rest) =
      let (heads, bodies) = same-head head' body' parts' in
      let one = one-head head' other heads said' in
      let (event, time) = any-own body history events times own (own-part body' events times bodies any) in
      (ap (λ (view : PoolHeadView). view.limits) (sym one) ∙ agrees.0.2, event, time, no-results body' results bodies rest)

  not-refused : (why : InputRefusal) → IsJudgeRefusal input why → ⊥
  not-refused refusal.BadResult (other, events, times, results, read, bad) =
      let clash : ◌≡◌ {A = Option (List ℕ)} None (Some bad.0) = sym (reads other events times results read).3 ∙ bad.1 in
      cc clash
  not-refused (refusal.Load position TimeGoesBack) (other, events, times, results, read, are, bad) =
      let clash : ◌≡◌ {A = Option (List ℕ)} None (Some bad.0) = sym (reads other events times results read).2 ∙ bad.1 in
      cc clash
  not-refused refusal.NoBody none =
      let clash : ◌≡◌ {A = Option (List ℕ × List ℕ)} None (Some (head, body)) = sym none ∙ parts in
      cc clash
  not-refused (refusal.Head why) (head', body', parts', bad) =
      let clash : ◌≡◌ {A = Result PoolHeadView HeadError} (Ok agrees.0.0) (Err why) = sym agrees.0.1 ∙ ap judged_head_of (same-head head' body' parts').0 ∙ bad in
      cc clash
  not-refused refusal.BadHeader (other, body', (head', parts', said'), bad) =
      (no-error body history own).0 (own-error body' body_error.BadHeader (same-head head' body' parts').1 bad)
  not-refused (refusal.BadRow position) (other, body', (head', parts', said'), bad) =
      (no-error body history own).1 position (own-error body' (body_error.BadRow position) (same-head head' body' parts').1 bad)
  not-refused why bad = absurd bad

pub judges-as_audit : JudgesAsAudit
judges-as_audit input text clear (limits, body, history, verdict, (head, parts, said), own, judged, written) =
    (same, not-refused input head body limits history parts said own (clear head body parts))
  where
    same : (other : List ℕ) → IsJudgeText input other → other ≡ text
    same other (view, events, (times, results, read, are, order), (verdict', judgment, written')) =
        let (sizes, event, none, no_results) = reads input head body limits history parts said own (clear head body parts) view events times results read in
        let ours : IsJudgment limits (inl history) verdict' = rw (sizes, event) at judgment in
        let one = verdict_unique limits history verdict' verdict (ours.0 (head-agrees head limits said).1) judged in
        written' ∙ ap verdict_text one ∙ sym written
