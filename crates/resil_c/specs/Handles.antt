-- What a handle owns, and what calls say about the handles that go in and come back.
use Rattle.std.specs.Prelude.{◌≡◌, Option, Some, None}
use base.Fml.{Fml, ftrue, fex}
use denote.RattleType.{RattleType}
use denote.RawPtr.{Ptr, null_ptr}
use Rattle.std_alloc.specs.Box.Ownership.{box_owns}
use Rattle.std.specs.declared.alloc.Global.{Global as Heap}
use Rattle.std.specs.contracts.impls.GlobalAllocator.TheImpl.{ghosts}

-- an empty handle is null and owns nothing; any other handle owns the value on the heap, of the type R
abbrev pub handle_owns : (R : RattleType) → Heap → Ptr → Option R.Denot → Fml
handle_owns R heap at None = fex (at ≡ null_ptr) (λ _. ftrue)
handle_owns R heap at (Some value) = box_owns (ghosts.dealloc_token heap) R at value

-- the handle has a value, for which this holds
abbrev pub Has : {X : Type 0} → (X → Type 0) → Option X → Type 0
Has Holds None = ⊥
Has Holds (Some value) = Holds value

-- both handles have values, and this relation holds between them
abbrev pub AreBoth : {X : Type 0} → (X → X → Type 0) → Option X → Option X → Type 0
AreBoth Related (Some old) (Some new) = Related old new
AreBoth Related _ _ = ⊥

-- if the first handle has a value, the second one has a value too, and this relation holds between them
abbrev pub UnlessEmpty : {X : Type 0} → (X → X → Type 0) → Option X → Option X → Type 0
UnlessEmpty Related None new = Unit {0}
UnlessEmpty Related (Some old) new = Has (Related old) new
