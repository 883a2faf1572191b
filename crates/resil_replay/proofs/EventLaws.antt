-- The text of a history is read as that history.
use Rattle.resil_replay.proofs.Words.{ℕ, ◌≡◌, ◌<◌, ◌^◌, ◌∷◌, zero, suc, List, [], Some, map, length, refl, add-one, arith, All, decimal, Id, Event, Resized, parse_event, HistoriesRoundTrip, Version, One, Two, FitsEvent, FitsId, record_fields, history_header, history_text, IsBody, ParseAs, records_of, row_under, below-round_trip, from_zero-round_trip}
use Rattle.csv.specs.Reading.{strip_bom}
use Rattle.resil_replay.specs.Id.{parse_id}
use Rattle.resil_replay.specs.Sizes.{parse_sizes}
use Rattle.resil_replay.proofs.HistoryLaws.{reply-read, text-records}
use Rattle.resil_replay.proofs.VersionLaws.{versions-unique}

id-read : (id : Id) → FitsId 1 id → parse_id (decimal id.caller) (decimal id.number) ≡ Some id
id-read id fits =
    let caller = below-round_trip (2 ^ 16) id.caller fits.0.0 (omega (arith, fits.0.1)) fits.0.1 in
    let number = below-round_trip (2 ^ 64) id.number fits.1.0 fits.1.1 fits.1.1 in
    rw (caller, number) refl

sizes-read : (core max : ℕ) → core < 2 ^ 32 → max < 2 ^ 32 → parse_sizes (decimal core) (decimal max) ≡ Some (core, max)
sizes-read core max low low' = rw (from_zero-round_trip (2 ^ 32) core (omega arith) low, from_zero-round_trip (2 ^ 32) max (omega arith) low') refl

pub event-read : (version : Version) (event : Event) → FitsEvent 1 version event → row_under (history_header version) parse_event (record_fields version event) ≡ Some event
event-read One (Resized core max) named = absurd named
event-read Two (Resized core max) named = rw (sizes-read core max named.0 named.1) refl
event-read version event named = first_of (simp (id-read, reply-read), cc)

events-parse : (version : Version) (history : List Event) → All (FitsEvent 1 version) history → ParseAs (history_header version) parse_event (map (record_fields version) history) history
events-parse version [] named = refl
events-parse version (event ∷ history) named =
    rw (event-read version event (named zero event (omega arith)), events-parse version history (λ k d lt. named (suc k) d (omega arith))) refl

-- no header begins with a byte order mark
header-records : (version : Version) (history : List Event) → records_of (history_text version history) ≡ history_header version ∷ map (record_fields version) history
unfolding strip_bom
header-records One history = rw add-one (text-records One history)
header-records Two history = rw add-one (text-records Two history)

pub headers-apart : length (history_header One) ≡ length (history_header Two) → ⊥
headers-apart e = omega (arith, e)

pub histories-round_trip : HistoriesRoundTrip
histories-round_trip version history named =
    let read : IsBody (history_header version) parse_event (history_text version history) history = (map (record_fields version) history, header-records version history, events-parse version history named) in
    ((version, read), (λ other body. (versions-unique history_header parse_event headers-apart (history_text version history) body.0 version other history body.1 read).1))
