-- No two histories have the same text.
use Rattle.resil_replay.proofs.Words.{Some, codes, get_or, zero, suc, map, take, ◌≡◌, ◌<◌, ◌∷◌, ◌++◌, ◌∙◌, [], ℕ, List, length, refl, sym, ap, arith, All, flat_map, decimal, Id, Reply, Event, Submit, Take, Finish, IdleEnd, Close, Resized, ArePlain, IsPlain, record_text, parse_reply, Version, One, Two, FitsEvent, FitsId, HistoryTextInjective, history_text, columns_of, event_fields, history_header, job_fields, record_fields, IsPlain_number, records_from-end, records_from-next}
use Rattle.csv.specs.Machine.{next_record}
use Rattle.csv.specs.Reading.{default_config, records_from}
use Rattle.std.proofs.lemmas.Fmt.{decimal_injective}
use Rattle.csv.specs.declared.parser.State.TheVariants as st
use Rattle.resil_rule.specs.declared.event.Reply.TheVariants.{Core}
use Rattle.resil_input.specs.Answer.{reply_name}
use Rattle.resil_input.proofs.TableLaws.{ArePlain-take, record-read}

pub IsPlain_reply_name : (reply : Reply) → IsPlain (reply_name reply)
IsPlain_reply_name Core = refl
IsPlain_reply_name reply = refl

ArePlain-job_fields : (name : List ℕ) (id : Id) (reply : List ℕ) → IsPlain name → IsPlain reply → ArePlain (job_fields name id reply)
ArePlain-job_fields name id reply plain plain' = rw (plain, IsPlain_number id.caller, IsPlain_number id.number, plain') refl

ArePlain-event_fields : (event : Event) → ArePlain (event_fields event)
ArePlain-event_fields (Submit id reply) = ArePlain-job_fields (codes "submit") id (reply_name reply) refl (IsPlain_reply_name reply)
ArePlain-event_fields (Take id) = ArePlain-job_fields (codes "take") id [] refl refl
ArePlain-event_fields (Finish id) = ArePlain-job_fields (codes "finish") id [] refl refl
ArePlain-event_fields IdleEnd = refl
ArePlain-event_fields Close = refl
ArePlain-event_fields (Resized core max) = rw (IsPlain_number core, IsPlain_number max) refl

-- fields of which none needs quotes, in the columns of a version
ArePlain-record_fields : (version : Version) (event : Event) → ArePlain (record_fields version event)
ArePlain-record_fields version event = ArePlain-take (columns_of version) (event_fields event) (ArePlain-event_fields event)

several-record_fields : (version : Version) (event : Event) → 1 < length (record_fields version event)
several-record_fields One (Submit id reply) = omega arith
several-record_fields Two (Submit id reply) = omega arith
several-record_fields version event = omega arith

-- the fields of an event in a version, of those of a row
pub first_fields : (version : Version) (event : Event) (at : List ℕ) → take (columns_of version) (event_fields event ++ at ∷ []) ≡ record_fields version event
first_fields One (Submit id reply) at = refl
first_fields One event at = refl
first_fields Two (Submit id reply) at = refl
first_fields Two event at = refl

pub all_fields : (event : Event) (at : List ℕ) → take 7 (event_fields event ++ at ∷ []) ≡ event_fields event ++ at ∷ []
all_fields (Submit id reply) at = refl
all_fields event at = refl

-- a reply is read from its name
pub reply-read : (reply : Reply) → parse_reply (reply_name reply) ≡ Some reply
reply-read Core = refl
reply-read reply = refl

same-reply : (one other : Reply) → reply_name one ≡ reply_name other → one ≡ other
same-reply one other e = let same : Some one ≡ Some other = sym (reply-read one) ∙ ap parse_reply e ∙ reply-read other in cc

same-id : (one other : Id) → FitsId 0 one → FitsId 0 other → decimal one.caller ≡ decimal other.caller → decimal one.number ≡ decimal other.number → one ≡ other
same-id one other fits fits' callers numbers =
    let caller = decimal_injective one.caller other.caller (omega (arith, fits.0.1)) (omega (arith, fits'.0.1)) callers in
    let number = decimal_injective one.number other.number fits.1.1 fits'.1.1 numbers in
    λ i. record { caller = caller i; number = number i }

same-sizes : (core max core' max' : ℕ) → FitsEvent 0 Two (Resized core max) → FitsEvent 0 Two (Resized core' max') → decimal core ≡ decimal core' → decimal max ≡ decimal max' → Resized core max ≡ Resized core' max'
same-sizes core max core' max' fits fits' cores maxes =
    let first = decimal_injective core core' (omega (arith, fits.0)) (omega (arith, fits'.0)) cores in
    let second = decimal_injective max max' (omega (arith, fits.1)) (omega (arith, fits'.1)) maxes in
    λ i. Resized (first i) (second i)

same-job : (version : Version) (name : List ℕ) (id id' : Id) (reply reply' : List ℕ) → FitsId 0 id → FitsId 0 id'
    → take (columns_of version) (job_fields name id reply) ≡ take (columns_of version) (job_fields name id' reply') → (id ≡ id') × (reply ≡ reply')
same-job One name id id' reply reply' fits fits' e = (same-id id id' fits fits' (cc e) (cc e), cc e)
same-job Two name id id' reply reply' fits fits' e = (same-id id id' fits fits' (cc e) (cc e), cc e)

same-event : (version : Version) (one other : Event) → FitsEvent 0 version one → FitsEvent 0 version other → record_fields version one ≡ record_fields version other → one ≡ other
same-event version (Submit id reply) (Submit id' reply') fits fits' e =
    let (ids, names) = same-job version (codes "submit") id id' (reply_name reply) (reply_name reply') fits fits' e in
    let replies = same-reply reply reply' names in
    cc
same-event version (Take id) (Take id') fits fits' e = ap Take (same-job version (codes "take") id id' [] [] fits fits' e).0
same-event version (Finish id) (Finish id') fits fits' e = ap Finish (same-job version (codes "finish") id id' [] [] fits fits' e).0
same-event version IdleEnd IdleEnd fits fits' e = refl
same-event version Close Close fits fits' e = refl
same-event One (Resized core max) (Resized core' max') fits fits' e = absurd fits
same-event Two (Resized core max) (Resized core' max') fits fits' e = same-sizes core max core' max' fits fits' (cc e) (cc e)
same-event One one other fits fits' e = absurd (omega (arith, ap (λ (fields : List (List ℕ)). get_or (get_or fields 0 []) 0 0) e))
same-event Two one other fits fits' e = absurd (omega (arith, ap (λ (fields : List (List ℕ)). get_or (get_or fields 0 []) 0 0) e))

abbrev events_text : Version → List Event → List ℕ
events_text version events = flat_map record_text (map (record_fields version) events)

-- the header of a version
several-history_header : (version : Version) → 1 < length (history_header version)
several-history_header One = omega arith
several-history_header Two = omega arith

ArePlain-history_header : (version : Version) → ArePlain (history_header version)
ArePlain-history_header One = refl
ArePlain-history_header Two = refl

-- the records that `csv` reads in a text
abbrev pub read_records : List ℕ → List (List (List ℕ))
read_records text = records_from default_config (suc (length text)) st.StartRecord text

-- the record of plain fields is the first of a text that begins with it
pub record-first : (fields : List (List ℕ)) (rest : List ℕ) → 1 < length fields → ArePlain fields → read_records (record_text fields ++ rest) ≡ fields ∷ read_records rest
record-first fields rest several plain =
    (records_from-next st.StartRecord st.StartRecord (record_text fields ++ rest) rest fields refl (record-read fields rest several plain)).0

module _ (version : Version) where
  events-records : (events : List Event) → read_records (events_text version events) ≡ map (record_fields version) events
  unfolding next_record
  events-records [] = records_from-end 0 st.StartRecord [] refl
  events-records (event ∷ events) =
      record-first (record_fields version event) (events_text version events) (several-record_fields version event) (ArePlain-record_fields version event)
      ∙ ap (λ (t : List (List (List ℕ))). record_fields version event ∷ t) (events-records events)

  -- the records of the text of a history
  pub text-records : (history : List Event) → read_records (history_text version history) ≡ history_header version ∷ map (record_fields version) history
  text-records history =
      record-first (history_header version) (events_text version history) (several-history_header version) (ArePlain-history_header version)
      ∙ ap (λ (t : List (List (List ℕ))). history_header version ∷ t) (events-records history)

  same-events : (one other : List Event) → All (FitsEvent 0 version) one → All (FitsEvent 0 version) other → map (record_fields version) one ≡ map (record_fields version) other → one ≡ other
  same-events [] [] fits fits' e = refl
  same-events (x ∷ xs) (y ∷ ys) fits fits' e =
      let event = same-event version x y (fits zero x (omega arith)) (fits' zero y (omega arith)) (cc e) in
      let events = same-events xs ys (λ k d lt. fits (suc k) d (omega arith)) (λ k d lt. fits' (suc k) d (omega arith)) (cc e) in
      cc
  same-events one other fits fits' e = cc e

pub history_text-injective : HistoryTextInjective
history_text-injective version one other fits fits' e =
    let records : history_header version ∷ map (record_fields version) one ≡ history_header version ∷ map (record_fields version) other =
    sym (text-records version one) ∙ ap read_records e ∙ text-records version other in
    same-events version one other fits fits' (cc records)
