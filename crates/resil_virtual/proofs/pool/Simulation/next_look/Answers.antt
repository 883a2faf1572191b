use Rattle.resil_virtual.proofs.Words.{◌≡◌, ◌∙◌, [], ℕ, List, Option, Some, None, map, option_map, slice_get, refl, sym, ap, option_map_or, Id, earliest, front, looks_of, take_at, events_in, history_of}
use Rattle.resil_virtual.proofs.CauseLaws.{at_of}
use Rattle.resil_virtual.proofs.FirstLaws.{earliest-map}
use Rattle.resil_virtual.proofs.pool.Simulation.next_look.Goals as goal

first-take : (times : List ℕ) (o : Option Id) → option_map_or (λ id. option_map (take_at id) (earliest (λ at. at) times)) o None ≡ earliest at_of (option_map_or (λ id. map (take_at id) times) o [])
first-take times None = refl
first-take times (Some id) = sym (earliest-map (take_at id) (λ at. at) at_of (λ at. refl) times)

pub returns : goal.returns
returns c =
    let s = c.args.self.now in
    let ids = c.front.ensures ∙ ap (λ (ids : List Id). slice_get ids 0) c.requires.queue_is in
    let times = c.first_look.ensures in
    c.take_at.ensures ∙ ap (λ (at : Option ℕ). option_map_or (λ id. option_map (take_at id) at) c.front.result None) times
    ∙ ap (λ (o : Option Id). option_map_or (λ id. option_map (take_at id) (earliest (λ at. at) (looks_of s.idle.items))) o None) ids ∙ first-take (looks_of s.idle.items) (front (events_in (history_of s)))
