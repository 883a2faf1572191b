-- The threads of a run: lists that grow by one from an iterator, and what comes back from the callers' threads.
use Rattle.std.proofs.Common.{◌≡◌, ◌+◌, ℕ, true, false, List, [], ◌∷◌, ◌++◌, ◌∙◌, length, map, sym, ap, arith, append_assoc, length-append, Result, Ok, Err, OnOk}
use Rattle.std.proofs.lemmas.List.{map-append}
use Rattle.std.specs.Prelude.{All, is_err}
use Rattle.std.proofs.lemmas.List.Elements.{All-push, All-same}
use Rattle.resil_pool.specs.declared.receipt.Receipt.{Receipt}
use Rattle.resil_pool.specs.declared.hold.JobRow.{JobRow}
use Rattle.resil_workers.specs.declared.batch.submit.Submitted.{Submitted}
use Rattle.resil_pool.specs.declared.submit.SubmitError.{SubmitError}
use Rattle.resil_pool.specs.Lock.Turn.{PoolId}
use Rattle.resil_pool.specs.Parts.{CallerView}
use Rattle.resil_workers.specs.Batch.Submit.{plans_of, plans_on_receipts}
use Rattle.resil_workers.specs.Batch.CallerThreads.{HasSubmitted, PromisesRowsOf}

-- a list has one for each that came of an iterator, which still has the others
pub record HasOneForEach {X Y : Type 0} (left : List X) (len : ℕ) (made : List Y) (all : ℕ) : Type 0 where
  pub count : length made + length left ≡ all
  pub len_is : len ≡ length left

pub one-more : {X Y : Type 0} (left rest : List X) (x : X) (len now all : ℕ) (made more : List Y) (y : Y) → HasOneForEach left len made all → left ≡ x ∷ rest → now + 1 ≡ len → more ≡ made ++ y ∷ [] → HasOneForEach rest now more all
one-more left rest x len now all made more y so_far from fewer is =
    let lost : length left ≡ length (x ∷ rest) = ap length from in
    let gained : length more ≡ length made + 1 = ap length is ∙ length-append made (y ∷ []) in record { count = omega (arith, so_far.count); len_is = omega (arith, so_far.len_is) }

-- one more of which it holds was pushed
pub all-pushed : {X : Type 0} (P : X → Type 0) (xs : List X) (x : X) (more : List X) → more ≡ xs ++ x ∷ [] → All P xs → P x → All P more
all-pushed P xs x more is all one = All-same P more (xs ++ x ∷ []) is (All-push P xs x all one)

-- an element with this number went over to the other list
pub numbers-moved : {X Y : Type 0} (f : X → ℕ) (h : Y → ℕ) (xs more : List X) (x : X) (ys left : List Y) (y : Y) → more ≡ xs ++ x ∷ [] → ys ≡ y ∷ left → f x ≡ h y → map f xs ++ map h ys ≡ map f more ++ map h left
numbers-moved f h xs more x ys left y is from same =
    ap (λ ls. map f xs ++ map h ls) from ∙ (ap (λ n. map f xs ++ n ∷ map h left) (sym same)
    ∙ (sym (append_assoc (map f xs) (f x ∷ []) (map h left)) ∙ ap (λ ns. ns ++ map h left) (sym (map-append f xs (x ∷ [])) ∙ ap (map f) (sym is))))

-- what is said where a caller's rows were all submitted
when_all : (X : Type 0) (outcome : Result (Unit {0}) SubmitError) → is_err outcome ≡ false → OnOk outcome X → X
when_all X (Ok u) fine x = x
when_all X (Err e) bad x =
    let no : true ≡ false = bad in absurd cc

-- a caller that had got no answer has the answers to its rows
pub told-own : (rows given : List JobRow) (source : PoolId) (caller : CallerView) (sent : Submitted) → PromisesRowsOf rows source given caller → HasSubmitted given caller sent → is_err sent.outcome ≡ false
    → plans_on_receipts sent.caller ≡ plans_of rows sent.caller.number
told-own rows given source caller sent from is fine =
    when_all _ sent.outcome fine is.told ∙ (ap (λ (rs : List Receipt). map (λ r. r.plan) rs ++ plans_of given caller.number) from.new
    ∙ (ap (λ (rs : List JobRow). plans_of rs caller.number) from.same ∙ ap (plans_of rows) (sym is.same.number)))
