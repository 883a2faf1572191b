-- How jobs started and finished, with one more event.
use Rattle.std.proofs.Common.{◌≡◌, ◌≤◌, ◌+◌, ◌∷◌, [], ◌++◌, ◌∙◌, Bool, List, filter, length, ap, length-append}
use Rattle.std.specs.List.{cons_option}
use Rattle.std.specs.Option.{option_map}
use Rattle.std.proofs.lemmas.List.Elements.{filter_map-append, filter-append}
use Rattle.std.proofs.lemmas.List.Sums.{count_by-le-length, length-filter}
use Rattle.resil_jdk.specs.declared.event.JdkEvent.{JdkEvent}
use Rattle.resil_stats.specs.Areas.{begun, finished, finished_start, started}
use Rattle.resil_stats.specs.Bars.{start_at}
use Rattle.resil_stats.specs.declared.bars.Start.{Start}
use Rattle.resil_stats.proofs.CountLaws.{after_more, idle_few, made_few}

-- how many of some starts and one more were in this way
pub start_more : (p : Start → Bool) (starts : List Start) (start : Start) → length (filter p (starts ++ start ∷ [])) ≡ length (filter p starts) + length (filter p (start ∷ []))
start_more p starts start = ap length (filter-append p starts (start ∷ [])) ∙ length-append (filter p starts) (filter p (start ∷ []))

pub start_few : (p : Start → Bool) (starts : List Start) → length (filter p starts) ≤ length starts
start_few p starts = rw length-filter (count_by-le-length p starts)

module _ (h : List JdkEvent) (e : JdkEvent) where
  pub begun-push : begun (h ++ e ∷ []) ≡ begun h ++ cons_option (start_at e) []
  begun-push = filter_map-append start_at h (e ∷ [])

  pub started-push : started (h ++ e ∷ []) ≡ started h ++ cons_option (option_map (λ job. job.1) (start_at e)) []
  started-push = filter_map-append (λ event. option_map (λ job. job.1) (start_at event)) h (e ∷ [])

  pub finished-push : finished (h ++ e ∷ []) ≡ finished h ++ cons_option (finished_start h e) []
  finished-push = after_more finished_start [] h e

pub started-few : (h : List JdkEvent) → length (started h) ≤ length h
started-few h = made_few (λ event. option_map (λ job. job.1) (start_at event)) h

pub finished-few : (h : List JdkEvent) → length (finished h) ≤ length h
finished-few h = idle_few finished_start [] h
