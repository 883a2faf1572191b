-- Idle workers: who is woken, who looks and who ends.
use Rattle.resil_virtual.proofs.Words.{inl, inr, ◌⊎◌, ◌≡◌, ◌≤◌, ◌+◌, ◌∷◌, [], ◌∙◌, ℕ, suc, Bool, true, false, not, if◌then◌else◌, All, List, Option, Some, None, filter, is_some, length, map, nat_le, option_map, refl, sym, ap, subst, arith, ◌||◌, ◌&&◌, cons_option, list_any, IfSome, option_map_or, common_steps, cases_Bool, All-cons, All-head, All-nil, All-tail, All-weaker, earliest, ends_at, ends_of, is_at, later, looks_at, looks_of, passed, still_ends, still_looks, wake_first, without_first, without_taker, woken, AreFirst, changes, has_looked, is_over, IsFrom, staying, Idle}
use Rattle.resil_virtual.proofs.FirstLaws.{least, lt-cases, none-due}

-- ---- One is taken out.
module _ {X : Type 0} (p : X → Bool) where
  pub without-one : (xs : List X) → list_any p xs ≡ true → length (without_first p xs) + 1 ≡ length xs
  without-one [] one = absurd (cc one)
  without-one (x ∷ xs) one = go (p x) refl (without-one xs)
    where
      go : (b : Bool) → p x ≡ b → (list_any p xs ≡ true → length (without_first p xs) + 1 ≡ length xs) → length (without_first p (x ∷ xs)) + 1 ≡ length (x ∷ xs)
      go true is more = rw is (omega arith)
      go false is more = let rest = more (rw is at one) in rw is (omega (arith, rest))

  pub without-none : (xs : List X) → list_any p xs ≡ false → without_first p xs ≡ xs
  without-none [] none = refl
  without-none (x ∷ xs) none = go (p x) refl (without-none xs)
    where
      go : (b : Bool) → p x ≡ b → (list_any p xs ≡ false → without_first p xs ≡ xs) → without_first p (x ∷ xs) ≡ x ∷ xs
      go true is more = absurd (cc (rw is at none))
      go false is more = rw is (ap (λ (ys : List X). x ∷ ys) (more (rw is at none)))

  pub without-all : (P : X → Type 0) (xs : List X) → All P xs → All P (without_first p xs)
  without-all P [] all = all
  without-all P (x ∷ xs) all = go (p x) refl (without-all P xs (All-tail P x xs all))
    where
      go : (b : Bool) → p x ≡ b → All P (without_first p xs) → All P (without_first p (x ∷ xs))
      go true is rest = rw is (All-tail P x xs all)
      go false is rest = rw is (All-cons P x (without_first p xs) (All-head P x xs all) rest)

  pub without-count : (q : X → Bool) (xs : List X) → length (filter q (without_first p xs)) ≤ length (filter q xs)
  without-count q [] = omega arith
  without-count q (x ∷ xs) = let rest = without-count q xs in grind (arith, rest, cases_Bool (p x), cases_Bool (q x))

-- ---- One is woken.
module _ (look : ℕ) where
  pub wake-length : (idle : List Idle) → length (wake_first look idle) ≡ length idle
  wake-length [] = refl
  wake-length (w ∷ idle) = go w.look refl (wake-length idle)
    where
      go : (o : Option ℕ) → w.look ≡ o → length (wake_first look idle) ≡ length idle → length (wake_first look (w ∷ idle)) ≡ length (w ∷ idle)
      go None is rest = rw is refl
      go (Some x) is rest = rw is (ap suc rest)

  pub wake-looks : (idle : List Idle) → 1 ≤ length idle → 1 ≤ length (looks_of (wake_first look idle))
  wake-looks [] some = absurd (omega (arith, some))
  wake-looks (w ∷ idle) some = go w.look refl
    where
      go : (o : Option ℕ) → w.look ≡ o → 1 ≤ length (looks_of (wake_first look (w ∷ idle)))
      go None is = rw is (omega arith)
      go (Some x) is = rw is (omega arith)

  same-some : (o : Option ℕ) → is_some (option_map (later look) o) ≡ is_some o
  same-some None = refl
  same-some (Some x) = refl

  pub wake-staying : (idle : List Idle) → staying (wake_first look idle) ≡ staying idle
  wake-staying [] = refl
  wake-staying (w ∷ idle) = go w.look (wake-staying idle)
    where
      go : (o : Option ℕ) → staying (wake_first look idle) ≡ staying idle → staying (option_map_or (λ other. w ∷ wake_first look idle) o (woken look w ∷ idle)) ≡ staying (w ∷ idle)
      go None rest = let same = same-some w.end in grind (arith, same, cases_Bool (is_some w.end))
      go (Some x) rest = grind (arith, rest, cases_Bool (is_some w.end))

  pub wake-all : (P : Idle → Type 0) → ((w : Idle) → P w → P (woken look w)) → (idle : List Idle) → All P idle → All P (wake_first look idle)
  wake-all P wakes [] all = all
  wake-all P wakes (w ∷ idle) all = go w.look (wake-all P wakes idle (All-tail P w idle all))
    where
      go : (o : Option ℕ) → All P (wake_first look idle) → All P (option_map_or (λ other. w ∷ wake_first look idle) o (woken look w ∷ idle))
      go None rest = All-cons P (woken look w) idle (wakes w (All-head P w idle all)) (All-tail P w idle all)
      go (Some x) rest = All-cons P w (wake_first look idle) (All-head P w idle all) rest

-- ---- Time passes.

-- an end that is to come isn't past
still-same : (at : ℕ) (end : Option ℕ) → IfSome end (λ end. at ≤ end) → still_ends at end ≡ end
still-same at None is = refl
still-same at (Some end) is = elim (lt-cases end at) [ inl over ↦ absurd (omega (arith, over.1, is)) | inr ahead ↦ rw ahead.0 refl ]

pub still-at : (at : ℕ) (end : Option ℕ) → is_at at (still_ends at end) ≡ is_at at end
still-at at None = refl
still-at at (Some end) = elim (lt-cases end at) [ inl over ↦ rw over.0 (grind (arith, common_steps, over.1)) | inr ahead ↦ rw ahead.0 refl ]

pub still-from : (at : ℕ) (end : Option ℕ) → IfSome (still_ends at end) (λ end. at ≤ end)
still-from at None = tt
still-from at (Some end) = elim (lt-cases end at) [ inl over ↦ rw over.0 tt | inr ahead ↦ rw ahead.0 ahead.1 ]

looks-from : (at run bound : ℕ) (look : Option ℕ) → IfSome look (λ look. look + run ≤ bound) → IfSome (still_looks at look) (λ look. (at ≤ look) × (look + run ≤ bound))
looks-from at run bound None is = tt
looks-from at run bound (Some look) is = go (nat_le look at) refl
  where
    go : (b : Bool) → nat_le look at ≡ b → IfSome (still_looks at (Some look)) (λ look. (at ≤ look) × (look + run ≤ bound))
    go true over = rw over tt
    go false ahead = let more : at ≤ look = grind (arith, common_steps, ahead) in rw ahead (more, is)

module _ (at : ℕ) where
  pub passed-looks : (idle : List Idle) → looks_of (map (passed false at) idle) ≡ looks_of idle
  passed-looks [] = refl
  passed-looks (w ∷ idle) = go w.look (passed-looks idle)
    where
      go : (o : Option ℕ) → looks_of (map (passed false at) idle) ≡ looks_of idle → cons_option o (looks_of (map (passed false at) idle)) ≡ cons_option o (looks_of idle)
      go o rest = ap (cons_option o) rest

  pub passed-look_now : (idle : List Idle) → list_any (looks_at at) (map (passed false at) idle) ≡ list_any (looks_at at) idle
  passed-look_now [] = refl
  passed-look_now (w ∷ idle) = let rest = passed-look_now idle in grind (arith, rest, cases_Bool (is_at at w.look))

  pub passed-end_now : (none : Bool) (idle : List Idle) → list_any (ends_at at) (map (passed none at) idle) ≡ list_any (ends_at at) idle
  passed-end_now none [] = refl
  passed-end_now none (w ∷ idle) = let rest = passed-end_now none idle in let same = still-at at w.end in grind (arith, rest, same, cases_Bool (is_at at w.end))

  pub passed-stay : (none : Bool) (idle : List Idle) → All (λ end. at ≤ end) (ends_of idle) → staying (map (passed none at) idle) ≡ staying idle
  passed-stay none [] all = refl
  passed-stay none (w ∷ idle) all =
      let same = still-same at w.end (end-ahead w.end (ends_of idle) all) in let rest = passed-stay none idle (ends-ahead w.end (ends_of idle) all) in
      rw same (grind (arith, rest, cases_Bool (is_some w.end)))
    where
      end-ahead : (o : Option ℕ) (ends : List ℕ) → All (λ end. at ≤ end) (cons_option o ends) → IfSome o (λ end. at ≤ end)
      end-ahead None ends all = tt
      end-ahead (Some end) ends all = All-head (λ end. at ≤ end) end ends all

      ends-ahead : (o : Option ℕ) (ends : List ℕ) → All (λ end. at ≤ end) (cons_option o ends) → All (λ end. at ≤ end) ends
      ends-ahead None ends all = all
      ends-ahead (Some end) ends all = All-tail (λ end. at ≤ end) end ends all

  -- what was within a bound is so from then on
  pub passed-none : (before run bound : ℕ) (idle : List Idle) → All (IsFrom before run bound) idle → All (IsFrom at run bound) (map (passed true at) idle)
  passed-none before run bound [] all = All-nil (IsFrom at run bound)
  passed-none before run bound (w ∷ idle) all =
      let first = All-head (IsFrom before run bound) w idle all in
      All-cons (IsFrom at run bound) (passed true at w) (map (passed true at) idle) (record { end = still-from at w.end; look = looks-from at run bound w.look (weaker w.look first.look) })
      (passed-none before run bound idle (All-tail (IsFrom before run bound) w idle all))
    where
      weaker : (o : Option ℕ) → IfSome o (λ look. (before ≤ look) × (look + run ≤ bound)) → IfSome o (λ look. look + run ≤ bound)
      weaker None is = tt
      weaker (Some look) is = is.1

  pub passed-some : (before run bound : ℕ) (idle : List Idle) → All (λ look. at ≤ look) (looks_of idle) → All (IsFrom before run bound) idle → All (IsFrom at run bound) (map (passed false at) idle)
  passed-some before run bound [] looks all = All-nil (IsFrom at run bound)
  passed-some before run bound (w ∷ idle) looks all =
      let first = All-head (IsFrom before run bound) w idle all in
      All-cons (IsFrom at run bound) (passed false at w) (map (passed false at) idle) (record { end = still-from at w.end; look = both w.look (look-ahead w.look (looks_of idle) looks) first.look })
      (passed-some before run bound idle (looks-ahead w.look (looks_of idle) looks) (All-tail (IsFrom before run bound) w idle all))
    where
      look-ahead : (o : Option ℕ) (times : List ℕ) → All (λ look. at ≤ look) (cons_option o times) → IfSome o (λ look. at ≤ look)
      look-ahead None times all = tt
      look-ahead (Some look) times all = All-head (λ look. at ≤ look) look times all

      looks-ahead : (o : Option ℕ) (times : List ℕ) → All (λ look. at ≤ look) (cons_option o times) → All (λ look. at ≤ look) times
      looks-ahead None times all = all
      looks-ahead (Some look) times all = All-tail (λ look. at ≤ look) look times all

      both : (o : Option ℕ) → IfSome o (λ look. at ≤ look) → IfSome o (λ look. (before ≤ look) × (look + run ≤ bound)) → IfSome o (λ look. (at ≤ look) × (look + run ≤ bound))
      both None ahead is = tt
      both (Some look) ahead is = (ahead, is.1)

-- a worker that is woken is within the bound where its look is
pub woken-from : (at run bound look : ℕ) → at ≤ look → look + run ≤ bound → (w : Idle) → IsFrom at run bound w → IsFrom at run bound (woken look w)
woken-from at run bound look ahead within w is = record { end = go w.end is.end; look = (ahead, within) }
  where
    go : (o : Option ℕ) → IfSome o (λ end. at ≤ end) → IfSome (woken look (record { end = o; look = None })).end (λ end. at ≤ end)
    go None was = tt
    go (Some end) was = elim (lt-cases end look) [ inl before ↦ rw before.0 ahead | inr after ↦ rw after.0 was ]

-- a wider bound
pub wider-from : (at run more bound other : ℕ) (w : Idle) → run ≤ more → bound + more ≤ other + run → IsFrom at run bound w → IsFrom at more other w
wider-from at run more bound other w less wide is = record { end = is.end; look = go w.look is.look }
  where
    go : (o : Option ℕ) → IfSome o (λ look. (at ≤ look) × (look + run ≤ bound)) → IfSome o (λ look. (at ≤ look) × (look + more ≤ other))
    go None was = tt
    go (Some look) was = (was.0, omega (arith, was.1, wide))

-- a lower number to run
pub narrower-from : (at run less bound : ℕ) (w : Idle) → less ≤ run → IsFrom at run bound w → IsFrom at less bound w
narrower-from at run less bound w few is = record { end = is.end; look = go w.look is.look }
  where
    go : (o : Option ℕ) → IfSome o (λ look. (at ≤ look) × (look + run ≤ bound)) → IfSome o (λ look. (at ≤ look) × (look + less ≤ bound))
    go None was = tt
    go (Some look) was = (was.0, omega (arith, was.1, few))

-- ---- One takes a job.
module _ (at : ℕ) (idle : List Idle) where
  pub taker-all : (P : Idle → Type 0) (own : Bool) → All P idle → All P (without_taker own at idle)
  taker-all P true all = all
  taker-all P false all = go (list_any (looks_at at) idle)
    where
      go : (b : Bool) → All P (if b then without_first (looks_at at) idle else without_first (ends_at at) idle)
      go true = without-all (looks_at at) P idle all
      go false = without-all (ends_at at) P idle all

  pub taker-stay : (own : Bool) → staying (without_taker own at idle) ≤ staying idle
  taker-stay true = omega arith
  taker-stay false = go (list_any (looks_at at) idle)
    where
      go : (b : Bool) → staying (if b then without_first (looks_at at) idle else without_first (ends_at at) idle) ≤ staying idle
      go true = without-count (looks_at at) (λ w. not (is_some w.end)) idle
      go false = without-count (ends_at at) (λ w. not (is_some w.end)) idle

  pub taker-length : (list_any (looks_at at) idle ≡ true) ⊎ (list_any (ends_at at) idle ≡ true) → length (without_taker false at idle) + 1 ≡ length idle
  taker-length some = go (list_any (looks_at at) idle) refl some
    where
      go : (b : Bool) → list_any (looks_at at) idle ≡ b → (list_any (looks_at at) idle ≡ true) ⊎ (list_any (ends_at at) idle ≡ true) → length (if b then without_first (looks_at at) idle else without_first (ends_at at) idle) + 1 ≡ length idle
      go true looks some = without-one (looks_at at) idle looks
      go false looks (inl some) = absurd (cc (sym looks ∙ some))
      go false looks (inr some) = without-one (ends_at at) idle some

-- ---- Nothing is over.

split-times : (P : ℕ → Type 0) (o : Option ℕ) (xs : List ℕ) → All P (cons_option o xs) → IfSome o P × All P xs
split-times P None xs all = (tt, all)
split-times P (Some x) xs all = (All-head P x xs all, All-tail P x xs all)

-- those that come are not before the first one
from-first : (P : ℕ → Type 0) (ts : List ℕ) (o : Option ℕ) → o ≡ earliest (λ t. t) ts → IfSome o P → ((t u : ℕ) → P t → t ≤ u → P u) → All P ts
from-first P ts None is first grows = subst (All P) (sym (none-due (λ t. t) ts (sym is))) (All-nil P)
from-first P ts (Some t) is first grows = All-weaker (λ u. t ≤ u) P (λ u le. grows t u first le) ts (least (λ t. t) ts t (sym is))

passed-same : (none : Bool) (at : ℕ) (w : Idle) → IfSome w.end (λ end. at ≤ end) → (none ≡ false) ⊎ IfSome w.look (λ look. suc at ≤ look) → passed none at w ≡ w
passed-same none at w ends looks = rw (still-same at w.end ends, look-same none looks) refl
  where
    later-look : (look : Option ℕ) → IfSome look (λ look. suc at ≤ look) → still_looks at look ≡ look
    later-look None le = refl
    later-look (Some look) le = let after : nat_le look at ≡ false = grind (arith, common_steps, le) in rw after refl

    look-same : (none : Bool) → (none ≡ false) ⊎ IfSome w.look (λ look. suc at ≤ look) → (if none then still_looks at w.look else w.look) ≡ w.look
    look-same false looks = refl
    look-same true (inl unset) = absurd (cc unset)
    look-same true (inr le) = later-look w.look le

all-same : (none : Bool) (at : ℕ) (idle : List Idle) → All (λ end. at ≤ end) (ends_of idle) → (none ≡ false) ⊎ All (λ look. suc at ≤ look) (looks_of idle) → map (passed none at) idle ≡ idle
all-same none at [] ends looks = refl
all-same none at (w ∷ idle) ends looks =
    let e = split-times (λ end. at ≤ end) w.end (ends_of idle) ends in
    elim looks [
      | inl unset ↦ (let one = passed-same none at w e.0 (inl unset) in let rest = all-same none at idle e.1 (inl unset) in rw (one, rest) refl)
      | inr all ↦ (
          let l = split-times (λ look. suc at ≤ look) w.look (looks_of idle) all in
          let one = passed-same none at w e.0 (inr l.0) in let rest = all-same none at idle e.1 (inr l.1) in rw (one, rest) refl)
    ]

pub nothing-over : (none : Bool) (at : ℕ) (idle : List Idle) (end look : Option ℕ) → AreFirst idle end look → changes none at end look ≡ false → map (passed none at) idle ≡ idle
nothing-over none at idle end look first is =
    all-same none at idle (from-first (λ e. at ≤ e) (ends_of idle) end first.end (not-over end neither.0) (λ t u le more. omega (arith, le, more))) (looks none neither.1)
  where
    either : (a b : Bool) → (a || b) ≡ false → (a ≡ false) × (b ≡ false)
    either true b is = absurd (cc is)
    either false b is = (refl, is)

    neither : (is_over at end ≡ false) × ((none && has_looked at look) ≡ false)
    neither = either (is_over at end) (none && has_looked at look) is

    not-over : (o : Option ℕ) → is_over at o ≡ false → IfSome o (λ e. at ≤ e)
    not-over None is = tt
    not-over (Some e) is = grind (arith, common_steps, is)

    not-looked : (o : Option ℕ) → has_looked at o ≡ false → IfSome o (λ l. suc at ≤ l)
    not-looked None is = tt
    not-looked (Some l) is = grind (arith, common_steps, is)

    looks : (none : Bool) → (none && has_looked at look) ≡ false → (none ≡ false) ⊎ All (λ l. suc at ≤ l) (looks_of idle)
    looks false is = inl refl
    looks true is = inr (from-first (λ l. suc at ≤ l) (looks_of idle) look first.look (not-looked look is) (λ t u le more. omega (arith, le, more)))
