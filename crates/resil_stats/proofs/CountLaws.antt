-- The numbers of a history of the whole rule, with one more event.
use Rattle.std.proofs.Common.{◌≡◌, ◌≤◌, ◌+◌, ◌∷◌, [], ◌++◌, ◌∙◌, inl, inr, ℕ, suc, Bool, List, Option, Some, None, length, filter, drop, min, refl, sym, ap, subst, arith, append_assoc, append-nil, length-append}
use Rattle.std.specs.List.{cons_option, filter_map}
use Rattle.std.proofs.lemmas.Bool.Decides.{leb_tells}
use Rattle.std.proofs.lemmas.List.{drop_all}
use Rattle.std.proofs.lemmas.List.Elements.{filter_map-append, filter-append}
use Rattle.std.proofs.lemmas.List.Sums.{count_by-le-length, length-filter}
use Rattle.resil_jdk.specs.declared.event.JdkEvent.{JdkEvent}
use Rattle.resil_stats.specs.Stats.{made_after}

-- how many events pass a test, with one more event
pub filter_more : (p : JdkEvent → Bool) (h : List JdkEvent) (e : JdkEvent) → length (filter p (h ++ e ∷ [])) ≡ length (filter p h) + length (filter p (e ∷ []))
filter_more p h e = ap length (filter-append p h (e ∷ [])) ∙ length-append (filter p h) (filter p (e ∷ []))

-- how many items are made of the events, with one more event
pub made_more : {A : Type 0} (f : JdkEvent → Option A) (h : List JdkEvent) (e : JdkEvent) → length (filter_map f (h ++ e ∷ [])) ≡ length (filter_map f h) + length (filter_map f (e ∷ []))
made_more f h e = ap length (filter_map-append f h (e ∷ [])) ∙ length-append (filter_map f h) (filter_map f (e ∷ []))

-- no more events pass a test, and no more items are made, than there are events
pub filter_few : (p : JdkEvent → Bool) (h : List JdkEvent) → length (filter p h) ≤ length h
filter_few p h = rw length-filter (count_by-le-length p h)

pub made_few : {A : Type 0} (f : JdkEvent → Option A) (h : List JdkEvent) → length (filter_map f h) ≤ length h
made_few f [] = omega arith
made_few f (e ∷ h) = grind (arith, made_few f h)

-- what is left of a list after its end is also left after any later place
pub drop-min : (k : ℕ) (h : List JdkEvent) → drop (min k (length h)) h ≡ drop k h
drop-min k h = elim (leb_tells k (length h)) [
  | inl le ↦ let same : min k (length h) ≡ k = omega (arith, le) in ap (λ n. drop n h) same
  | inr lt ↦
      let same : min k (length h) ≡ length h = omega (arith, lt) in
      ap (λ n. drop n h) same ∙ drop_all (length h) h (omega arith) ∙ sym (drop_all k h (omega (arith, lt)))
]

-- ---- What is made of each event and those before it.

cons-append : {A : Type 0} (o : Option A) (xs ys : List A) → cons_option o (xs ++ ys) ≡ cons_option o xs ++ ys
cons-append None xs ys = refl
cons-append (Some x) xs ys = refl

module _ {A : Type 0} (f : List JdkEvent → JdkEvent → Option A) where
  -- with one more event
  pub after_more : (before h : List JdkEvent) (e : JdkEvent) → made_after f before (h ++ e ∷ []) ≡ made_after f before h ++ cons_option (f (before ++ h) e) []
  after_more before [] e = ap (λ (b : List JdkEvent). cons_option (f b e) []) (sym (append-nil before))
  after_more before (x ∷ h) e =
      ap (cons_option (f before x)) (subst (λ (b : List JdkEvent). made_after f (before ++ x ∷ []) (h ++ e ∷ []) ≡ made_after f (before ++ x ∷ []) h ++ cons_option (f b e) []) (append_assoc before (x ∷ []) h) (after_more (before ++ x ∷ []) h e))
      ∙ cons-append (f before x) (made_after f (before ++ x ∷ []) h) (cons_option (f (before ++ x ∷ h) e) [])

  -- as many
  pub idle_more : (before h : List JdkEvent) (e : JdkEvent) → length (made_after f before (h ++ e ∷ [])) ≡ length (made_after f before h) + length (cons_option (f (before ++ h) e) [])
  idle_more before h e = ap length (after_more before h e) ∙ length-append (made_after f before h) (cons_option (f (before ++ h) e) [])

  cons-few : (o : Option A) (xs : List A) (n : ℕ) → length xs ≤ n → length (cons_option o xs) ≤ suc n
  cons-few None xs n few = omega (arith, few)
  cons-few (Some x) xs n few = omega (arith, few)

  pub idle_few : (before h : List JdkEvent) → length (made_after f before h) ≤ length h
  idle_few before [] = omega arith
  idle_few before (x ∷ h) = cons-few (f before x) (made_after f (before ++ x ∷ []) h) (length h) (idle_few (before ++ x ∷ []) h)
