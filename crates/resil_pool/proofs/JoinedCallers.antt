-- Taking the callers out of their list, one after the other.
use Rattle.std.proofs.Common.{◌≡◌, ◌≢◌, ℕ, zero, suc, Bool, true, ◌||◌, ◌+◌, ◌-◌, ◌<◌, List, [], ◌∷◌, ◌++◌, map, length, get_or, refl, sym, ap, ◌∙◌, subst, arith, append_assoc, length-append, Result, IfOk}
use Rattle.std.specs.Prelude.{All, swap_remove}
use Rattle.std.specs.List.{range_with_len}
use Rattle.std.specs.List.Sorted.{IsPermutation}
use Rattle.std.proofs.lemmas.Result.{IfOk-weaker}
use Rattle.std.proofs.lemmas.List.{map-append, map-id, length-map, nil_from_length}
use Rattle.std.proofs.Math.ListN.{get_or-map}
use Rattle.std.proofs.lemmas.List.Elements.{All-append, All-push}
use Rattle.std.proofs.lemmas.List.FromFn.{length-range_with_len, get_or-range_with_len, map-range_with_len_more}
use Rattle.std.proofs.lemmas.List.Sorted.{IsPermutation-sym, IsPermutation-trans, IsPermutation-to_front, IsPermutation-append_left, IsPermutation-swap_remove, All-permutation, length_permutation}
use Rattle.resil_pool.specs.Words.{IsPrefix, LoggedEvent, Receipt, is_close, is_closed, submissions, Event}
use Rattle.resil_pool.specs.Parts.{CallerView, submission_of}
use Rattle.resil_pool.specs.Draining.{AreNumbered, AreSubmissions, receipts_at, AreLogged, IsGathered}
use Rattle.std.proofs.lemmas.List.Folds.{list_any-append}
use Rattle.resil_pool.specs.Lock.{events_in, own_in}
use Rattle.resil_pool.proofs.Logs.{events_in-append}
use Rattle.resil_pool.proofs.ReceiptLaws.{at_mapped}
use Rattle.resil_pool.proofs.Submissions.{submissions_of_entries}
use Rattle.resil_permit.proofs.Log.Prefixes.{prefix_trans}

abbrev pub numbers_of : List CallerView → List ℕ
numbers_of callers = map (λ c. c.number) callers

-- what was seen begins with what the caller had seen, and the caller's submissions there are those on its receipts, with their plans
pub record IsJoined (seen : List LoggedEvent) (c : CallerView) : Type 0 where
  pub begins : IsPrefix c.seen seen
  pub own : own_in c.number seen ≡ map (submission_of c.number) c.receipts

-- the callers with the numbers from 1 to this one are out, in order
pub record SoFar (initial callers : List CallerView) (below : ℕ) (seen : List LoggedEvent) (lists : List (List Receipt)) : Type 0 where
  pub done : List CallerView
  pub same : IsPermutation initial (callers ++ done)
  pub numbered : numbers_of done ≡ range_with_len 1 below
  pub told : lists ≡ map (λ c. c.receipts) done
  pub joined : All (IsJoined seen) done

one_more : (n : ℕ) → range_with_len 1 (n + 1) ≡ range_with_len 1 n ++ (n + 1) ∷ []
one_more n = sym (map-id (range_with_len 1 (n + 1))) ∙ (map-range_with_len_more (λ x. x) 1 n (n + 1) (omega arith) ∙ ap (λ (xs : List ℕ). xs ++ (n + 1) ∷ []) (map-id (range_with_len 1 n)))

pub so_far_next : (initial callers rest : List CallerView) (below : ℕ) (seen : List LoggedEvent) (lists : List (List Receipt)) (place : ℕ) (x : CallerView) → SoFar initial callers below seen lists
    → place < length callers → x ≡ get_or callers place x → rest ≡ swap_remove callers place x → x.number ≡ below + 1 → IsJoined seen x
    → SoFar initial rest (below + 1) seen (lists ++ x.receipts ∷ [])
so_far_next initial callers rest below seen lists place x s inside here is number joined =
    let out : IsPermutation callers (x ∷ rest) = subst (λ (xs : List CallerView). IsPermutation callers (x ∷ xs)) (sym is) (IsPermutation-swap_remove callers place x inside here) in
    let moved : IsPermutation (callers ++ s.done) ((x ∷ rest) ++ s.done) = IsPermutation-append_left s.done callers (x ∷ rest) out in
    let last : IsPermutation (x ∷ (rest ++ s.done)) ((rest ++ s.done) ++ x ∷ []) = IsPermutation-sym ((rest ++ s.done) ++ x ∷ []) (x ∷ (rest ++ s.done)) (IsPermutation-to_front (rest ++ s.done) x) in
    let all : IsPermutation initial ((rest ++ s.done) ++ x ∷ []) = IsPermutation-trans initial (callers ++ s.done) ((rest ++ s.done) ++ x ∷ []) s.same (IsPermutation-trans (callers ++ s.done) (x ∷ (rest ++ s.done)) ((rest ++ s.done) ++ x ∷ []) moved last) in record {
      done = s.done ++ x ∷ [];
      same = subst (λ (xs : List CallerView). IsPermutation initial xs) (append_assoc rest s.done (x ∷ [])) all;
      numbered = map-append (λ c. c.number) s.done (x ∷ []) ∙ ((λ i. s.numbered i ++ number i ∷ []) ∙ sym (one_more below));
      told = ap (λ (xs : List (List Receipt)). xs ++ x.receipts ∷ []) s.told ∙ sym (map-append (λ c. c.receipts) s.done (x ∷ []));
      joined = All-push (IsJoined seen) s.done x s.joined joined;
    }

pub done_length : (initial callers : List CallerView) (below : ℕ) (seen : List LoggedEvent) (lists : List (List Receipt)) → (s : SoFar initial callers below seen lists) → length s.done ≡ below
done_length initial callers below seen lists s = sym (length-map s.done (λ c. c.number)) ∙ (ap length s.numbered ∙ length-range_with_len 1 below)

-- as many lists are there as callers
pub gathered_count : {A : Type 0} (f : A → List Receipt) (xs : List A) (callers : List CallerView) (count : ℕ) (seen : List LoggedEvent) → AreNumbered count callers → IsGathered callers seen (map f xs) → length xs ≡ count
gathered_count f xs callers count seen all g =
    sym (length-map xs f) ∙ (ap length g.told.handed_in ∙ (length-map g.told.in_order (λ c. c.receipts) ∙ (length_permutation callers g.told.in_order g.told.same ∙ all.as_many)))

pub mapped_push : {A B : Type 0} (f : A → B) (xs ys : List A) (x : A) (y : B) → ys ≡ xs ++ x ∷ [] → f x ≡ y → map f ys ≡ map f xs ++ y ∷ []
mapped_push f xs ys x y is same = ap (map f) is ∙ (map-append f xs (x ∷ []) ∙ ap (λ z. map f xs ++ z ∷ []) same)

-- what holds of all holds of those that are left
pub all_left : (P : CallerView → Type 0) (callers rest : List CallerView) (place : ℕ) (x : CallerView) → place < length callers → x ≡ get_or callers place x → rest ≡ swap_remove callers place x → All P callers → All P rest
all_left P callers rest place x inside here is all =
    let out : IsPermutation callers (x ∷ rest) = subst (λ (xs : List CallerView). IsPermutation callers (x ∷ xs)) (sym is) (IsPermutation-swap_remove callers place x inside here) in
    let every = All-permutation P callers (x ∷ rest) out all in λ k d h. every (suc k) d (omega arith)

pub at_place : {A : Type 0} (xs : List A) (i : ℕ) → i < length xs → (x : A) × (get_or xs i x ≡ x)
at_place [] i within = absurd (omega arith)
at_place (x ∷ xs) zero within = (x, refl)
at_place (x ∷ xs) (suc i) within = at_place xs i (omega arith)

-- the callers that are out have the numbers from 1 on, in order
number_at : (done : List CallerView) (below : ℕ) → numbers_of done ≡ range_with_len 1 below → (k : ℕ) (d : CallerView) → k < length done → (get_or done k d).number ≡ 1 + k
number_at done below numbered k d h =
    let lengths : length done ≡ below = sym (length-map done (λ c. c.number)) ∙ (ap length numbered ∙ length-range_with_len 1 below) in
    sym (get_or-map (λ c. c.number) done k d) ∙ (ap (λ (xs : List ℕ). get_or xs k d.number) numbered ∙ get_or-range_with_len 1 below k d.number (omega arith))

-- the next number is still some caller's
pub still_there : (initial callers : List CallerView) (count below : ℕ) (seen : List LoggedEvent) (lists : List (List Receipt)) → AreNumbered count initial → SoFar initial callers below seen lists → below < count
    → ¬ All (λ c. c.number ≢ below + 1) callers
still_there initial callers count below seen lists all s less gone =
    let P : CallerView → Type 0 = λ c. c.number ≢ below + 1 in
    let out : All P s.done = λ k d h e. absurd (out_of k d h e) in
    let nowhere : All P initial = All-permutation P (callers ++ s.done) initial (IsPermutation-sym initial (callers ++ s.done) s.same) (All-append P callers s.done gone out) in
    let one = all.each (below + 1) (omega arith) (omega arith) in nowhere one.0 one.1 one.2 (ap (λ (c : CallerView). c.number) one.3 ∙ one.4)
  where
    out_of : (k : ℕ) (d : CallerView) → k < length s.done → (get_or s.done k d).number ≡ below + 1 → ⊥
    out_of k d h e =
        let lengths = done_length initial callers below seen lists s in
        let number = number_at s.done below s.numbered k d h in omega arith

-- so the submissions of each number are those on the receipts at its place
logged_in_order : (done : List CallerView) (below : ℕ) (seen : List LoggedEvent) (lists : List (List Receipt)) → numbers_of done ≡ range_with_len 1 below → lists ≡ map (λ c. c.receipts) done → All (IsJoined seen) done → AreLogged seen lists
logged_in_order done below seen lists numbered told all caller low high =
    let many : length lists ≡ length done = ap length told ∙ length-map done (λ c. c.receipts) in
    let inside : caller - 1 < length done = omega arith in
    let x = at_place done (caller - 1) inside in
    let number : x.0.number ≡ caller = ap (λ (c : CallerView). c.number) (sym x.1) ∙ (number_at done below numbered (caller - 1) x.0 inside ∙ omega arith) in
    let receipts : receipts_at lists caller ≡ x.0.receipts = ap (λ (ls : List (List Receipt)). get_or ls (caller - 1) []) told ∙ at_mapped (λ c. c.receipts) done (caller - 1) x.0 inside (sym x.1) in
    let joined : IsJoined seen x.0 = subst (IsJoined seen) x.1 (all (caller - 1) x.0 inside) in
    subst (λ (n : ℕ). own_in n seen ≡ map (submission_of n) (receipts_at lists caller)) number (joined.own ∙ ap (map (submission_of x.0.number)) (sym receipts))

-- when all are out, the receipts are in order
pub all_gathered : (initial callers : List CallerView) (count below : ℕ) (seen : List LoggedEvent) (lists : List (List Receipt)) → AreNumbered count initial → below ≡ count → SoFar initial callers below seen lists → IsGathered initial seen lists
all_gathered initial callers count below seen lists all end so_far =
    let s = subst (λ (n : ℕ). SoFar initial callers n seen lists) end so_far in
    let done : length s.done ≡ count = sym (length-map s.done (λ c. c.number)) ∙ (ap length s.numbered ∙ length-range_with_len 1 count) in
    let total : length (callers ++ s.done) ≡ length initial = length_permutation initial (callers ++ s.done) s.same in
    let sum : length (callers ++ s.done) ≡ length callers + length s.done = length-append callers s.done in
    let many = all.as_many in
    let none : callers ≡ [] = nil_from_length callers (omega arith) in
    let logged : AreLogged seen lists = logged_in_order s.done count seen lists s.numbered s.told s.joined in
    let same : IsPermutation initial s.done = subst (λ (xs : List CallerView). IsPermutation initial (xs ++ s.done)) none s.same in record {
      told = record { in_order = s.done; same = same; numbered = s.numbered ∙ ap (range_with_len 1) (sym done); handed_in = s.told };
      begins = All-permutation (λ c. IsPrefix c.seen seen) s.done initial (IsPermutation-sym initial s.done same) (λ k d h. (s.joined k d h).begins);
      submissions = λ caller low high. submissions_of_entries caller seen (receipts_at lists caller) (λ first. absurd (omega (arith, low, first))) (logged caller low high);
      logged = logged;
    }

-- what the closer has taken the machine with begins with what was seen before
pub events_begin : (seen taken : List LoggedEvent) (before history : List Event) → IsPrefix seen taken → before ≡ events_in taken → IsPrefix before history → IsPrefix (events_in seen) history
events_begin seen taken before history p is grown = prefix_trans (events_in seen) before history (events_in p.0, sym (events_in-append seen p.0) ∙ (ap events_in p.1 ∙ sym is)) grown

-- the history begins with what each caller had seen
pub each_begins : (callers : List CallerView) (taken : List LoggedEvent) (before history : List Event) → All (λ c. IsPrefix c.seen taken) callers → before ≡ events_in taken → IsPrefix before history
    → All (λ c. IsPrefix (events_in c.seen) history) callers
each_begins callers taken before history all is grown k d h = events_begin (get_or callers k d).seen taken before history (all k d h) is grown

-- the submissions of each caller are still those on its receipts, if none came after those that were seen
pub still_submissions : (taken : List LoggedEvent) (before history : List Event) (lists : List (List Receipt)) → AreSubmissions (events_in taken) lists → before ≡ events_in taken
    → ((caller : ℕ) → submissions history caller ≡ submissions before caller) → AreSubmissions history lists
still_submissions taken before history lists all is same caller low high = same caller ∙ (ap (λ (es : List Event). submissions es caller) is ∙ all caller low high)

pub still_closed : (old new : List Event) → IsPrefix old new → is_closed old ≡ true → is_closed new ≡ true
still_closed old new p closed = ap is_closed (sym p.1) ∙ (list_any-append is_close old p.0 ∙ ap (λ (b : Bool). b || is_closed p.0) closed)

-- what holds of a history holds of the report that has it
pub of_report : {A E : Type 0} (history_of : A → List Event) {history : List Event} (r : Result A E) (P : List Event → Type 0) → P history → IfOk r (λ x. history_of x ≡ history) → IfOk r (λ x. P (history_of x))
of_report history_of r P holds told = IfOk-weaker r _ _ (λ x e. subst P (sym e) holds) told
