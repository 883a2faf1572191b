use Rattle.resil_virtual.proofs.Words.{rules, ◌≡◌, ◌∙◌, [], ℕ, Bool, true, false, if◌then◌else◌, List, Option, Some, None, is_some, map, option_map, slice_get, refl, sym, ap, option_map_or, Id, earliest, end_at, ends_of, front, has_spare, take_at, events_in, TimedJdkEvent, history_of}
use Rattle.resil_virtual.proofs.CauseLaws.{at_of}
use Rattle.resil_virtual.proofs.FirstLaws.{earliest-map}
use Rattle.resil_virtual.proofs.pool.Simulation.next_end.Goals as goal

abbrev Ends : List ℕ → Option Id → Bool → Option TimedJdkEvent
Ends times o spare = earliest at_of (option_map_or (λ id. map (take_at id) times) o (if spare then map end_at times else []))

last-take : (times : List ℕ) (o : Option Id) (spare : Bool) → true ≡ is_some o → option_map_or (λ id. option_map (take_at id) (earliest (λ at. at) times)) o None ≡ Ends times o spare
last-take times None spare some = absurd (cc some)
last-take times (Some id) spare some = sym (earliest-map (take_at id) (λ at. at) at_of (λ at. refl) times)

first-end : (times : List ℕ) (o : Option Id) (spare : Bool) → false ≡ is_some o → spare ≡ true → option_map end_at (earliest (λ at. at) times) ≡ Ends times o spare
first-end times None true none some = sym (earliest-map end_at (λ at. at) at_of (λ at. refl) times)
first-end times None false none some = absurd (cc some)
first-end times (Some id) spare none some = absurd (cc none)

pub returns-then-is_some : goal.returns-then-is_some
returns-then-is_some c =
    let s = c.args.self.now in
    let ids = c.front-front.ensures ∙ ap (λ (ids : List Id). slice_get ids 0) c.requires.queue_is in
    let times = c.first_end-first.ensures in
    c.take_at.ensures ∙ ap (λ (at : Option ℕ). option_map_or (λ id. option_map (take_at id) at) c.front-front.result None) times
    ∙ ap (λ (o : Option Id). option_map_or (λ id. option_map (take_at id) (earliest (λ at. at) (ends_of s.idle.items))) o None) ids
    ∙ last-take (ends_of s.idle.items) (front (events_in (history_of s))) (has_spare s.plan (events_in (history_of s))) (c.if-is_some.ensures ∙ ap (λ (o : Option Id). is_some o) ids)

pub returns : goal.returns
returns c =
    let s = c.args.self.now in
    let ids = c.front-front.ensures ∙ ap (λ (ids : List Id). slice_get ids 0) c.requires.queue_is in
    let times = c.first_end-first.ensures in
    let spare : has_spare s.plan (events_in (history_of s)) ≡ true = search rules in
    c.end_at.ensures ∙ ap (option_map end_at) times
    ∙ first-end (ends_of s.idle.items) (front (events_in (history_of s))) (has_spare s.plan (events_in (history_of s))) (c.if-is_some.ensures ∙ ap (λ (o : Option Id). is_some o) ids) spare
