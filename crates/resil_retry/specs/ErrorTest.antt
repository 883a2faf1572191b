-- Which kinds of error are to be retried (Resilience4j user guide, Retry).
use Rattle.std.specs.Prelude.{◌≡◌, ◌==◌, ◌&&◌, ◌||◌, ◌⊎◌, not, Bool, true, false, List, [], ◌∷◌, Contains}
use Rattle.std.specs.List.{list_any}
use Rattle.resil_retry.specs.declared.outcome.Kind.{Kind}
use Rattle.resil_retry.specs.declared.outcome.Kind.TheVariants.{Code, Full, Exceeded}

-- the kinds that an error test names, and those that it ignores
pub record ErrorTestView : Type 0 where
  pub named : List Kind
  pub ignored : List Kind

-- two kinds are equal
abbrev pub is_kind : Kind → Kind → Bool
is_kind (Code a) (Code b) = a == b
is_kind Full Full = true
is_kind Exceeded Exceeded = true
is_kind _ _ = false

-- the list has the kind
abbrev pub has_kind : List Kind → Kind → Bool
has_kind kinds kind = list_any (λ other. is_kind other kind) kinds

-- the list is empty
abbrev pub has_none : List Kind → Bool
has_none [] = true
has_none (_ ∷ _) = false

-- whether the test names the kind: it isn't ignored, and it is listed or no kind is
abbrev pub names : ErrorTestView → Kind → Bool
names test kind = not (has_kind test.ignored kind) && (has_none test.named || has_kind test.named kind)

-- the rule of an error test, as a fact: the kind isn't ignored, and it is listed or no kind is
pub record IsNamed (test : ErrorTestView) (kind : Kind) : Type 0 where
  pub not_ignored : ¬ Contains test.ignored kind
  pub named_or_all : (test.named ≡ []) ⊎ Contains test.named kind
