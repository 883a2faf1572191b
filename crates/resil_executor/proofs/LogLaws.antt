-- Logs that grow by one entry.
use Rattle.std.proofs.Common.{◌≡◌, ◌⊎◌, inl, inr, ◌+◌, zero, suc, List, [], ◌∷◌, ◌++◌, ◌∙◌, Option, Some, None, drop, length, slice_get, sym, refl, ap, subst, arith, append-nil, append_assoc, length-append}
use Rattle.std.specs.Prelude.{Contains, filter_map}
use Rattle.std.proofs.lemmas.List.Elements.{filter_map-append, Contains-append_left}
use Rattle.resil_executor.specs.Words.{IsPrefix, RuleView, Id, Event}
use Rattle.resil_lock.proofs.LogLaws.{events_in-append}
use Rattle.resil_lock.specs.declared.log.Note.TheVariants as note
use Rattle.resil_executor.specs.Kept.{events_of}
use Rattle.resil_executor.specs.Log.{Entry, Note, last_work, entries_of, events_in}

module _ {A B : Type 0} (f : A → Option B) where
  pub one-some : (x : A) (y : B) → f x ≡ Some y → filter_map f (x ∷ []) ≡ y ∷ []
  one-some x y e = rw e refl

  pub one-none : (x : A) → f x ≡ None → filter_map f (x ∷ []) ≡ []
  one-none x e = rw e refl

  pub more-some : (xs : List A) (x : A) (y : B) → f x ≡ Some y → filter_map f (xs ++ x ∷ []) ≡ filter_map f xs ++ y ∷ []
  more-some xs x y e = filter_map-append f xs (x ∷ []) ∙ ap (λ (l : List B). filter_map f xs ++ l) (one-some x y e)

  pub more-none : (xs : List A) (x : A) → f x ≡ None → filter_map f (xs ++ x ∷ []) ≡ filter_map f xs
  more-none xs x e = filter_map-append f xs (x ∷ []) ∙ (ap (λ (l : List B). filter_map f xs ++ l) (one-none x e) ∙ append-nil (filter_map f xs))

  pub more-empty : (xs ys : List A) → filter_map f ys ≡ [] → filter_map f (xs ++ ys) ≡ filter_map f xs
  more-empty xs ys e = filter_map-append f xs ys ∙ (ap (λ (l : List B). filter_map f xs ++ l) e ∙ append-nil (filter_map f xs))

  pub length-more : (xs ys : List A) → length (filter_map f (xs ++ ys)) ≡ length (filter_map f xs) + length (filter_map f ys)
  length-more xs ys = ap length (filter_map-append f xs ys) ∙ length-append (filter_map f xs) (filter_map f ys)

  pub still-there : (xs ys : List A) (b : B) → Contains (filter_map f xs) b → Contains (filter_map f (xs ++ ys)) b
  still-there xs ys b there = subst (λ (l : List B). Contains l b) (sym (filter_map-append f xs ys)) (Contains-append_left (filter_map f xs) (filter_map f ys) b there)

pub contains-one : {A : Type 0} (x y : A) → Contains (x ∷ []) y → x ≡ y
contains-one x y (zero, few, is) = is
contains-one x y (suc k, few, is) = absurd (omega (arith, few))

pub contains-later : {A : Type 0} (xs : List A) (y : A) → Contains (drop 1 xs) y → Contains xs y
contains-later [] y there = there
contains-later (x ∷ xs) y (k, few, is) = (suc k, omega (arith, few), is)

pub contains-first : {A : Type 0} (xs : List A) (y : A) → slice_get xs 0 ≡ Some y → Contains xs y
contains-first [] y e = absurd (cc e)
contains-first (x ∷ xs) y e = let same : x ≡ y = cc in (0, omega arith, same)

pub nothing-there : {A : Type 0} (xs : List A) (y : A) → xs ≡ [] → Contains xs y → ⊥
nothing-there {A = A} xs y none there = let few = (subst (λ (l : List A). Contains l y) none there).1 in omega (arith, few)

-- what is known stays as a log grows
pub prefix-trans : {E : Type 0} (xs ys zs : List E) → IsPrefix xs ys → IsPrefix ys zs → IsPrefix xs zs
prefix-trans xs ys zs p q = (p.0 ++ q.0, sym (append_assoc xs p.0 q.0) ∙ (ap (λ (l : List _). l ++ q.0) p.1 ∙ q.1))

pub prefix-more : {E : Type 0} (xs ys more zs : List E) → IsPrefix xs ys → zs ≡ ys ++ more → IsPrefix xs zs
prefix-more xs ys more zs p e = prefix-trans xs ys zs p (more, sym e)

-- a prefix of two lists in sequence is a prefix of the first, or the first followed by a prefix of the second
pub begins-either : {E : Type 0} (xs ys begun : List E) → IsPrefix begun (xs ++ ys) → IsPrefix begun xs ⊎ ((more : List E) × (begun ≡ xs ++ more) × IsPrefix more ys)
begins-either [] ys begun p = inr (begun, refl, p)
begins-either (x ∷ xs) ys [] p = inl (x ∷ xs, refl)
begins-either (x ∷ xs) ys (b ∷ begun) p = elim (begins-either xs ys begun (p.0, cc (p.1))) [
  | inl q ↦ inl (q.0, cc (p.1, q.1))
  | inr q ↦ inr (q.0, cc (p.1, q.1), q.2)
]

module _ {W : Type 0} where
  -- the last work is the work of the last job
  pub last-more : (jobs : List (Id × W)) (id : Id) (work : W) → last_work (jobs ++ (id, work) ∷ []) ≡ Some work
  last-more [] id work = refl
  last-more (job ∷ []) id work = refl
  last-more (job ∷ next ∷ jobs) id work = last-more (next ∷ jobs) id work

  -- the history grows by the event that was noted
  pub events-more : (log : List (Entry W)) (after : RuleView W) (last : Option Note) → events_in (log ++ entries_of after last) ≡ events_in log ++ events_of last
  events-more log after last = events_in-append log (entries_of after last) ∙ ap (λ (h : List Event). events_in log ++ h) (same last)
    where
      same : (l : Option Note) → events_in (entries_of after l) ≡ events_of l
      same None = refl
      same (Some (note.Started id)) = refl
      same (Some (note.Event e)) = refl
