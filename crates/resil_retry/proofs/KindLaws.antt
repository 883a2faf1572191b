-- Lists of kinds: what it is for a list to have a kind, and what a test of lists names.
use Rattle.std.proofs.Common.{◌≡◌, ◌↔◌, ◌⊎◌, inl, inr, Bool, true, false, List, [], ◌∷◌, Contains, IsTrue, ◌&&◌, ◌||◌, not, ⊎_elim, refl, ap, subst, sym, arith}
use Rattle.std.proofs.Math.Bool.{or-true}
use Rattle.std.proofs.lemmas.Bool.{false_from_ne_true}
use Rattle.std.proofs.lemmas.List.Folds.{list_any_at}
use Rattle.std.proofs.lemmas.Map.Views.{Contains-from_any}
use Rattle.resil_retry.specs.declared.outcome.Kind.{Kind}
use Rattle.resil_retry.specs.ErrorTest.{ErrorTestView, IsNamed, has_kind, has_none, is_kind, names}

-- equal kinds are the same
is_kind-same : (a b : Kind) → is_kind b a ≡ true → a ≡ b
is_kind-same a b same = grind (arith, same)

is_kind-refl : (a : Kind) → is_kind a a ≡ true
is_kind-refl a = grind arith

-- a list has the kinds that it contains
pub has_kind-Contains : (kinds : List Kind) (kind : Kind) → has_kind kinds kind ≡ true → Contains kinds kind
has_kind-Contains kinds kind has = Contains-from_any {eq = λ a b. is_kind b a} is_kind-same kind kinds has

pub Contains-has_kind : (kinds : List Kind) (kind : Kind) → Contains kinds kind → has_kind kinds kind ≡ true
Contains-has_kind kinds kind contains =
    list_any_at (λ other. is_kind other kind) kinds contains.0 kind contains.1 (subst (λ other. is_kind other kind ≡ true) (sym contains.2) (is_kind-refl kind))

has_none-empty : (kinds : List Kind) → has_none kinds ≡ true → kinds ≡ []
has_none-empty [] none = refl
has_none-empty (kind ∷ kinds) none = cc

-- a test that isn't ignored and is listed, or that no kind is listed for, by three answers
named : (ignored none has : Bool) → (not ignored && (none || has)) ≡ true → (ignored ≡ false) × ((none ≡ true) ⊎ (has ≡ true))
named ignored none has holds = grind (arith, holds)

-- the rule of an error test is what `names` computes
pub names-IsNamed : (test : ErrorTestView) (kind : Kind) → IsTrue (names test kind) ↔ IsNamed test kind
names-IsNamed test kind = (
  λ holds.
      let parts = named (has_kind test.ignored kind) (has_none test.named) (has_kind test.named kind) holds in
      record {
        not_ignored = λ contains. let has = Contains-has_kind test.ignored kind contains in let never = parts.0 in cc;
        named_or_all = ⊎_elim (λ none. inl (has_none-empty test.named none)) (λ has. inr (has_kind-Contains test.named kind has)) parts.1;
      },
  λ rule.
      let ignored = false_from_ne_true (has_kind test.ignored kind) (λ has. rule.not_ignored (has_kind-Contains test.ignored kind has)) in
      ⊎_elim
      (λ unlisted. let all : has_none test.named ≡ true = ap has_none unlisted in rw (ignored, all) refl)
      (λ contains. rw (ignored, Contains-has_kind test.named kind contains) (or-true (has_none test.named)))
      rule.named_or_all,
)
