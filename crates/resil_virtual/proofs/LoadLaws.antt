-- The jobs of a load.
use Rattle.resil_virtual.proofs.Words.{◌≡◌, ◌≤◌, ◌<◌, ◌+◌, ◌==◌, ◌∷◌, [], ◌++◌, ◌∙◌, ℕ, zero, suc, Bool, true, false, All, List, Option, Some, None, get_or, length, map, max, option_map, slice_get, sum, take, refl, sym, ap, subst, arith, length-append, find, IfSome, option_map_or, map-append, take_more, All-more, All-nil, filter-append, get_or_from_slice_get, slice_get-get_or, slice_get-map, slice_get_within, is_same_id, AreAscending, Id, same_id-equal, same_id-self, submissions_of, IsLoad, earliest_ends_of, latest, of_caller, runs_of, HasRun, submitted_end, Arrival}
use Rattle.std.proofs.lemmas.List.Sums.{sum_by-append}
use Rattle.resil_virtual.proofs.ListLaws.{count-taken, find-first}

pub sum-append : (xs ys : List ℕ) → sum (xs ++ ys) ≡ sum xs + sum ys
sum-append xs ys = sum_by-append (λ x. x) xs ys

-- the latest of some times and of one more
pub latest-push : (times : List ℕ) (time : ℕ) → latest (times ++ time ∷ []) ≡ max (latest times) time
latest-push [] time = omega arith
latest-push (t ∷ times) time = let rest = latest-push times time in omega (arith, rest)

-- a job that comes next doesn't come before
after-it : {X : Type 0} (at : X → ℕ) (xs : List X) (i : ℕ) (x y : X) → slice_get xs i ≡ Some x → slice_get xs (i + 1) ≡ Some y → AreAscending (map at xs) → at x ≤ at y
after-it at xs i x y here comes ascending =
    let this = get_or_from_slice_get (map at xs) i (at x) 0 (slice_get-map at xs i ∙ ap (option_map at) here) in
    let other = get_or_from_slice_get (map at xs) (i + 1) (at y) 0 (slice_get-map at xs (i + 1) ∙ ap (option_map at) comes) in
    let within = slice_get_within (map at xs) (i + 1) (at y) (slice_get-map at xs (i + 1) ∙ ap (option_map at) comes) in
    let le = ascending i within in
    omega (arith, this, other, le)

module _ (idle_for wakes : ℕ) (arrivals : List Arrival) (load : IsLoad idle_for wakes arrivals) (next : ℕ) (a : Arrival) (there : slice_get arrivals next ≡ Some a) where
  differs : (n : ℕ) (b : Arrival) → slice_get arrivals n ≡ Some b → n < next → (t : Bool) → is_same_id a.id b.id ≡ t → t ≡ false
  differs n b here before false is = refl
  differs n b here before true is =
      let same = same_id-equal a.id b.id is in let later = load.numbered next a there in let sooner_one = load.numbered n b here in
      let one : of_caller a.id.caller (take (n + 1) arrivals) ≡ of_caller a.id.caller (take n arrivals) ++ of_caller a.id.caller (b ∷ []) =
      ap (of_caller a.id.caller) (take_more arrivals n b (slice_get_within arrivals n b here) ∙ ap (λ (c : Arrival). take n arrivals ++ c ∷ []) (get_or_from_slice_get arrivals n b b here))
      ∙ filter-append (λ (c : Arrival). c.id.caller == a.id.caller) (take n arrivals) (b ∷ []) in
      let own : length (of_caller a.id.caller (b ∷ [])) ≡ 1 = rw (← same) (grind arith) in
      let long = ap length one ∙ length-append (of_caller a.id.caller (take n arrivals)) (of_caller a.id.caller (b ∷ [])) in
      let more = count-taken (λ (c : Arrival). c.id.caller == a.id.caller) arrivals (n + 1) next (omega (arith, before)) in
      let number = ap (λ (id : Id). id.number) same in
      let as_many : length (of_caller b.id.caller (take n arrivals)) ≡ length (of_caller a.id.caller (take n arrivals)) = ap (λ (id : Id). length (of_caller id.caller (take n arrivals))) (sym same) in
      absurd (omega (arith, later, sooner_one, own, long, more, number, as_many))

  all-differ : (n : ℕ) → n ≤ next → All (λ b. is_same_id a.id b.id ≡ false) (take n arrivals)
  all-differ zero less = All-nil (λ b. is_same_id a.id b.id ≡ false)
  all-differ (suc n) less =
      let within = slice_get_within arrivals next a there in let some : n < length arrivals = omega (arith, less, within) in
      let here = slice_get-get_or arrivals n a some in let one : n + 1 ≡ suc n = omega arith in
      subst (λ (m : ℕ). All (λ b. is_same_id a.id b.id ≡ false) (take m arrivals)) one
      (All-more (λ b. is_same_id a.id b.id ≡ false) arrivals n a some (all-differ n (omega (arith, less))) (differs n (get_or arrivals n a) here (omega (arith, less)) (is_same_id a.id (get_or arrivals n a).id) refl))

  itself : find (λ b. is_same_id a.id b.id) arrivals ≡ Some a
  itself = find-first (λ b. is_same_id a.id b.id) arrivals next a there (same_id-self a.id) (all-differ next (omega arith))

  pub its-run : HasRun arrivals a
  its-run = (ap (λ (o : Option Arrival). option_map_or (λ (b : Arrival). b.takes) o 0) itself, ap (λ (o : Option Arrival). option_map_or (λ (b : Arrival). b.earliest_end) o 0) itself)

  within : next < length arrivals
  within = slice_get_within arrivals next a there

  pub more : submissions_of (take (next + 1) arrivals) ≡ submissions_of (take next arrivals) ++ (a.id, a.at) ∷ []
  more =
      ap submissions_of (take_more arrivals next a within) ∙ map-append (λ (a : Arrival). (a.id, a.at)) (take next arrivals) (get_or arrivals next a ∷ [])
      ∙ ap (λ (b : Arrival). submissions_of (take next arrivals) ++ (b.id, b.at) ∷ []) (get_or_from_slice_get arrivals next a a there)

  -- all runs up to it
  pub all-runs : sum (runs_of (take (next + 1) arrivals)) ≡ sum (runs_of (take next arrivals)) + a.takes
  all-runs =
      ap (λ (all : List Arrival). sum (runs_of all)) (take_more arrivals next a within) ∙ ap sum (map-append (λ (a : Arrival). a.takes) (take next arrivals) (get_or arrivals next a ∷ []))
      ∙ sum-append (runs_of (take next arrivals)) (runs_of (get_or arrivals next a ∷ []))
      ∙ ap (λ (b : Arrival). sum (runs_of (take next arrivals)) + (0 + b.takes)) (get_or_from_slice_get arrivals next a a there) ∙ omega arith

  -- and the latest of the earliest ends up to it
  pub last-end : submitted_end arrivals (next + 1) ≡ max (submitted_end arrivals next) a.earliest_end
  last-end =
      ap (λ (all : List Arrival). latest (earliest_ends_of all)) (take_more arrivals next a within) ∙ ap latest (map-append (λ (a : Arrival). a.earliest_end) (take next arrivals) (get_or arrivals next a ∷ []))
      ∙ latest-push (earliest_ends_of (take next arrivals)) (get_or arrivals next a).earliest_end
      ∙ ap (λ (b : Arrival). max (submitted_end arrivals next) b.earliest_end) (get_or_from_slice_get arrivals next a a there)

  -- the job after it doesn't come before it
  pub then-comes : IfSome (slice_get arrivals (next + 1)) (λ b. a.at ≤ b.at)
  then-comes = go (slice_get arrivals (next + 1)) refl
    where
      go : (b : Option Arrival) → slice_get arrivals (next + 1) ≡ b → IfSome b (λ b. a.at ≤ b.at)
      go None is = tt
      go (Some b) is = after-it (λ a. a.at) arrivals next a b there is load.ascending
