-- The jobs that run, in any order.
use Rattle.resil_virtual.proofs.Words.{inl, inr, ◌⊎◌, ◌≡◌, ◌≤◌, ◌<◌, ◌+◌, ◌==◌, ◌&&◌, ◌∷◌, [], ◌++◌, ◌∙◌, ℕ, suc, Bool, true, false, not, cond, All, List, Option, Some, None, filter, length, map, option_map, slice_get, slice_index_or, refl, sym, ap, subst, arith, AllByRecursion, cases_Bool, common_steps, map-append, All-cons, All-nil, is_same_id, times, Id, same_id-self, TimedJdkEvent, earliest, finishes, sooner, IsSoonest, SameJobs, id_of, is_before, total, AreInOrder, AreRunning, finish_at, Arrival, RunningJob}
use Rattle.std.specs.List.Sorted.{IsPermutation}
use Rattle.std.proofs.lemmas.List.Recursion.{is_sum_by}
use Rattle.std.proofs.lemmas.List.Sorted.{IsPermutation-map, length_permutation, sum_by-IsPermutation}
use Rattle.std.specs.declared.cmp.Reverse.{Reverse}
use Rattle.resil_virtual.proofs.CauseLaws.{at_of}
use Rattle.resil_virtual.proofs.FirstLaws.{earliest-map, first-is, lt-cases}
use Rattle.resil_virtual.proofs.HistoryLaws.{is_of_other, others-are}

-- ---- Totals.

abbrev one : Bool → ℕ
one b = cond b 1 0

total-append : (f : RunningJob → ℕ) (xs ys : List RunningJob) → total f (xs ++ ys) ≡ total f xs + total f ys
total-append f [] ys = omega arith
total-append f (x ∷ xs) ys = let rest = total-append f xs ys in omega (arith, rest)

total-filter : (f : RunningJob → ℕ) (p : RunningJob → Bool) (xs : List RunningJob) → total f (filter p xs) ≡ total (λ x. cond (p x) (f x) 0) xs
total-filter f p [] = refl
total-filter f p (x ∷ xs) = let rest = total-filter f p xs in elim (p x) as (λ b. total f (cond b (x ∷ filter p xs) (filter p xs)) ≡ cond b (f x) 0 + total (λ y. cond (p y) (f y) 0) xs) [ true ↦ omega (arith, rest) | false ↦ omega (arith, rest) ]

total-none : (c : RunningJob → Bool) (f : RunningJob → ℕ) (xs : List RunningJob) → total (λ x. one (c x)) xs ≡ 0 → total (λ x. cond (not (c x)) (f x) 0) xs ≡ total f xs
total-none c f [] none = refl
total-none c f (x ∷ xs) none = elim (cases_Bool (c x)) [
  | inl is ↦ (let here : one (c x) ≡ 1 = rw is refl in absurd (omega (arith, here, none)))
  | inr is ↦ (
      let here : one (c x) ≡ 0 = rw is refl in let own : cond (not (c x)) (f x) 0 ≡ f x = rw is refl in
      let rest = total-none c f xs (omega (arith, here, none)) in omega (arith, own, rest))
]

many : (xs : List RunningJob) → total (λ x. 1) xs ≡ length xs
many [] = refl
many (x ∷ xs) = let rest = many xs in omega (arith, rest)

times-total : (id : Id) (xs : List RunningJob) → times id (map id_of xs) ≡ total (λ x. one (is_same_id id (id_of x))) xs
times-total id [] = refl
times-total id (x ∷ xs) = let rest = times-total id xs in elim (is_same_id id (id_of x)) as (λ b. length (cond b (id_of x ∷ filter (is_same_id id) (map id_of xs)) (filter (is_same_id id) (map id_of xs))) ≡ one b + total (λ y. one (is_same_id id (id_of y))) xs) [ true ↦ omega (arith, rest) | false ↦ omega (arith, rest) ]

pub same-permuted : (xs ys : List (Reverse RunningJob)) → IsPermutation xs ys → SameJobs (map (λ last. last.0) xs) (map (λ last. last.0) ys)
same-permuted xs ys moved f =
    let jobs = λ (rs : List (Reverse RunningJob)). map (λ (r : Reverse RunningJob). r.0) rs in
    let as_sum = is_sum_by (total f) f refl (λ x rest. refl) in
    as_sum (jobs xs) ∙ sym (sum_by-IsPermutation f (jobs xs) (jobs ys) (IsPermutation-map (λ (r : Reverse RunningJob). r.0) xs ys moved)) ∙ sym (as_sum (jobs ys))

-- ---- The heap.

before-none : (x : RunningJob) (rs : List (Reverse RunningJob)) → AllByRecursion (λ r. is_before r.0 x ≡ false) rs → AllByRecursion (λ job. is_before job x ≡ false) (map (λ last. last.0) rs)
before-none x [] all = tt
before-none x (r ∷ rs) all = (all.0, before-none x rs all.1)

pub top-soonest : (rs : List (Reverse RunningJob)) (x : Reverse RunningJob) → slice_get rs 0 ≡ Some x → AllByRecursion (λ r. is_before r.0 x.0 ≡ false) rs → IsSoonest (Some x.0) (map (λ last. last.0) rs)
top-soonest [] x is all = absurd (cc is)
top-soonest (r ∷ rs) x is all = let same : r ≡ x = cc is in (ap (λ (q : Reverse RunningJob). Some q.0) same, before-none x.0 (r ∷ rs) all)

pub front-is : (rs : List (Reverse RunningJob)) (x : Reverse RunningJob) → 0 < length rs → x ≡ slice_index_or rs 0 x → slice_get rs 0 ≡ Some x
front-is [] x some is = absurd (omega (arith, some))
front-is (r ∷ rs) x some is = ap Some (sym is)

-- the one that `pop` takes is at the front
pub popped-top : (rs qs : List (Reverse RunningJob)) (x : Reverse RunningJob) → IsPermutation rs (x ∷ qs) → x ≡ slice_index_or rs 0 x → slice_get rs 0 ≡ Some x
popped-top [] qs x moved is = let long = length_permutation [] (x ∷ qs) moved in absurd (omega (arith, long))
popped-top (r ∷ rs) qs x moved is = ap Some (sym is)

-- ---- The order in which they began.

in-order-wider : (xs : List RunningJob) (low less high more : ℕ) → less ≤ low → high ≤ more → AreInOrder low high xs → AreInOrder less more xs
in-order-wider [] low less high more below above all = omega (arith, below, above, all)
in-order-wider (x ∷ xs) low less high more below above all = (omega (arith, below, all.0), in-order-wider xs (suc x.order) (suc x.order) high more (omega arith) above all.1)

in-order-append : (xs ys : List RunningJob) (low mid high : ℕ) → AreInOrder low mid xs → AreInOrder mid high ys → AreInOrder low high (xs ++ ys)
in-order-append [] ys low mid high all more = in-order-wider ys mid low high high all (omega arith) more
in-order-append (x ∷ xs) ys low mid high all more = (all.0, in-order-append xs ys (suc x.order) mid high all.1 more)

in-order-filter : (p : RunningJob → Bool) (xs : List RunningJob) (low high : ℕ) → AreInOrder low high xs → AreInOrder low high (filter p xs)
in-order-filter p [] low high all = all
in-order-filter p (x ∷ xs) low high all =
    let rest = in-order-filter p xs (suc x.order) high all.1 in
    elim (p x) as (λ b. AreInOrder low high (cond b (x ∷ filter p xs) (filter p xs))) [ true ↦ (all.0, rest) | false ↦ in-order-wider (filter p xs) (suc x.order) low high high (omega (arith, all.0)) (omega arith) rest ]

-- ---- The first one.

abbrev is_job : RunningJob → RunningJob → Bool
is_job a b = (a.due == b.due) && (a.order == b.order) && ((a.caller == b.caller) && (a.number == b.number))

is_job-same : (a b : RunningJob) → is_job a b ≡ true → a ≡ b
is_job-same a b is = grind (arith, common_steps, is)

is_job-self : (a : RunningJob) → is_job a a ≡ true
is_job-self a = grind (arith, common_steps)

not-before : (a b : RunningJob) → is_before a b ≡ false → (b.due ≤ a.due) × ((b.due < a.due) ⊎ (b.order ≤ a.order))
not-before a b is = grind (arith, common_steps, is)

its-order : (x : RunningJob) (xs : List RunningJob) (low high : ℕ) → AreInOrder low high xs → 1 ≤ total (λ y. one (is_job x y)) xs → low ≤ x.order
its-order x [] low high all some = absurd (omega (arith, some))
its-order x (y ∷ xs) low high all some = elim (cases_Bool (is_job x y)) [
  | inl is ↦ (let same = ap (λ (job : RunningJob). job.order) (is_job-same x y is) in omega (arith, same, all.0))
  | inr is ↦ (let here : one (is_job x y) ≡ 0 = rw is refl in let rest = its-order x xs (suc y.order) high all.1 (omega (arith, here, some)) in omega (arith, rest, all.0))
]

none-sooner : (x : RunningJob) (xs : List RunningJob) → total (λ y. one (is_before y x)) xs ≡ 0 → All (λ y. x.due ≤ y.due) xs
none-sooner x [] none = All-nil (λ y. x.due ≤ y.due)
none-sooner x (y ∷ xs) none = elim (cases_Bool (is_before y x)) [
  | inl is ↦ (let here : one (is_before y x) ≡ 1 = rw is refl in absurd (omega (arith, here, none)))
  | inr is ↦ (let here : one (is_before y x) ≡ 0 = rw is refl in All-cons (λ z. x.due ≤ z.due) y xs (not-before y x is).0 (none-sooner x xs (omega (arith, here, none))))
]

-- one that began later comes first only if it finishes sooner
then-sooner : (x y : RunningJob) (n : ℕ) → one (is_before y x) + n ≡ 0 → suc y.order ≤ x.order → sooner (λ job. job.due) (Some y) (Some x) ≡ Some x
then-sooner x y n none later = elim (cases_Bool (is_before y x)) [
  | inl is ↦ (let here : one (is_before y x) ≡ 1 = rw is refl in absurd (omega (arith, here, none)))
  | inr is ↦ (elim (not-before y x is).1 [
    | inl sooner_one ↦ (elim (lt-cases x.due y.due) [ inl lt ↦ rw lt.0 refl | inr ge ↦ absurd (omega (arith, ge.1, sooner_one)) ])
    | inr before ↦ absurd (omega (arith, before, later))
  ])
]

first-begun : (x : RunningJob) (xs : List RunningJob) (low high : ℕ) → AreInOrder low high xs → total (λ y. one (is_before y x)) xs ≡ 0 → 1 ≤ total (λ y. one (is_job x y)) xs → earliest (λ job. job.due) xs ≡ Some x
first-begun x [] low high all none some = absurd (omega (arith, some))
first-begun x (y ∷ xs) low high all none some = elim (cases_Bool (is_job x y)) [
  | inl is ↦ subst (λ (z : RunningJob). earliest (λ job. job.due) (z ∷ xs) ≡ Some x) (is_job-same x y is) (first-is (λ job. job.due) x xs (none-sooner x xs (omega (arith, none))))
  | inr is ↦ (
      let here : one (is_job x y) ≡ 0 = rw is refl in let among : 1 ≤ total (λ z. one (is_job x z)) xs = omega (arith, here, some) in
      let rest = first-begun x xs (suc y.order) high all.1 (omega (arith, none)) among in let later = its-order x xs (suc y.order) high all.1 among in
      ap (sooner (λ job. job.due) (Some y)) rest ∙ then-sooner x y (total (λ z. one (is_before z x)) xs) none later)
]

none-total : (x : RunningJob) (xs : List RunningJob) → AllByRecursion (λ y. is_before y x ≡ false) xs → total (λ y. one (is_before y x)) xs ≡ 0
none-total x [] all = refl
none-total x (y ∷ xs) all = let here : one (is_before y x) ≡ 0 = rw all.0 refl in let rest = none-total x xs all.1 in omega (arith, here, rest)

at-front : (x : RunningJob) (xs : List RunningJob) → slice_get xs 0 ≡ Some x → 1 ≤ total (λ y. one (is_job x y)) xs
at-front x [] is = absurd (cc is)
at-front x (y ∷ xs) is = let same : x ≡ y = cc is in let own : one (is_job x y) ≡ 1 = rw (← same, is_job-self x) refl in omega (arith, own)

abbrev is_its : Id → RunningJob → Bool
is_its id job = is_same_id id (id_of job)

abbrev stays : Id → RunningJob → Bool
stays id job = not (is_same_id id (id_of job))

module _ (arrivals : List Arrival) (steps : ℕ) (jobs : List RunningJob) (h : List TimedJdkEvent) (was : AreRunning arrivals steps jobs h) where
  pub running-many : length jobs ≡ length (finishes arrivals h)
  running-many =
      sym (many jobs) ∙ sym (was.same (λ x. 1)) ∙ many was.begun ∙ mapped was.begun ∙ ap length was.finishes_are
    where
      mapped : (xs : List RunningJob) → length xs ≡ length (map finish_at xs)
      mapped [] = refl
      mapped (x ∷ xs) = ap suc (mapped xs)

  pub first-running : (o : Option RunningJob) → IsSoonest o jobs → option_map finish_at o ≡ earliest at_of (finishes arrivals h)
  first-running None none = go (finishes arrivals h) (sym running-many ∙ ap length none)
    where
      go : (fs : List TimedJdkEvent) → length fs ≡ 0 → None ≡ earliest at_of fs
      go [] is = refl
      go (f ∷ fs) is = absurd (omega (arith, is))
  first-running (Some x) is =
      let none = was.same (λ y. one (is_before y x)) ∙ none-total x jobs is.1 in let front = at-front x jobs is.0 in let as_many = was.same (λ y. one (is_job x y)) in
      ap (option_map finish_at) (sym (first-begun x was.begun 0 steps was.ordered none (omega (arith, front, as_many))))
      ∙ sym (earliest-map finish_at (λ job. job.due) at_of (λ job. refl) was.begun) ∙ ap (earliest at_of) was.finishes_are

  pub running-more : (new jobs2 : List RunningJob) (h2 : List TimedJdkEvent) → AreInOrder steps (steps + 1) new → SameJobs (new ++ jobs) jobs2 → finishes arrivals h2 ≡ finishes arrivals h ++ map finish_at new → AreRunning arrivals (steps + 1) jobs2 h2
  running-more new jobs2 h2 ordered same is = record {
    begun = was.begun ++ new;
    same = λ f. (let a = total-append f was.begun new in let b = total-append f new jobs in let c = was.same f in let d = same f in omega (arith, a, b, c, d));
    ordered = in-order-append was.begun new 0 steps (steps + 1) was.ordered ordered;
    finishes_are = map-append finish_at was.begun new ∙ ap (λ (fs : List TimedJdkEvent). fs ++ map finish_at new) was.finishes_are ∙ sym is;
  }

  pub running-less : (id : Id) (x : RunningJob) (jobs2 : List RunningJob) (h2 : List TimedJdkEvent) → id_of x ≡ id → SameJobs (x ∷ jobs2) jobs → times id (map id_of was.begun) ≤ 1 → finishes arrivals h2 ≡ filter (is_of_other id) (finishes arrivals h)
      → AreRunning arrivals (steps + 1) jobs2 h2
  running-less id x jobs2 h2 its same once is = record {
    begun = filter (stays id) was.begun;
    same = λ f. (
        let kept = total-filter f (stays id) was.begun in let all = was.same (λ y. cond (stays id y) (f y) 0) in let split = same (λ y. cond (stays id y) (f y) 0) in
        let gone : cond (stays id x) (f x) 0 ≡ 0 = rw own refl in let rest = total-none (is_its id) f jobs2 alone in omega (arith, kept, all, split, gone, rest));
    ordered = in-order-wider (filter (stays id) was.begun) 0 0 steps (steps + 1) (omega arith) (omega arith) (in-order-filter (stays id) was.begun 0 steps was.ordered);
    finishes_are = sym (others-are id was.begun) ∙ ap (filter (is_of_other id)) was.finishes_are ∙ sym is;
  }
    where
      own : is_same_id id (id_of x) ≡ true
      own = subst (λ (i : Id). is_same_id id i ≡ true) (sym its) (same_id-self id)

      alone : total (λ y. one (is_its id y)) jobs2 ≡ 0
      alone =
          let here : one (is_its id x) ≡ 1 = rw own refl in let counted = times-total id was.begun in let a = was.same (λ y. one (is_its id y)) in let b = same (λ y. one (is_its id y)) in
          omega (arith, here, counted, a, b, once)
