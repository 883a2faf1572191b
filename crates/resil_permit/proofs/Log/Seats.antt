-- What a step of one seat leaves of the log and of the other seats, and what the seat then knows.
use Rattle.std.proofs.Common.{◌≡◌, ◌≢◌, ◌⊎◌, ⊎_elim, inl, inr, ℕ, zero, suc, ◌+◌, Bool, true, List, [], ◌∷◌, ◌++◌, filter, length, set, refl, sym, ap, ◌∙◌, subst, arith, length-set, length-append}
use mathlib.Core.Option.{some, some-injective, some-ne-none}
use mathlib.Core.List.{IsPrefix}
use mathlib.Core.Logic.{dite}
use native.Mathlib.Decide.{ℕ_discrete}
use lib.ListN.{get_elem?}
use Rattle.atomic_table.proofs.Lists.{at_set, set_here, set_else, at_longer}
use Rattle.resil_permit.specs.Log.Seen.{SeesMore, SeesOwn, longer_of}
use Rattle.resil_permit.specs.Log.Seats.{IsLive, IsSeenWhole, IsLogOf}
use Rattle.resil_permit.proofs.Log.Prefixes.{prefix_self, prefix_push, prefix_trans, prefix_shorter, longer_of_cases, longer_of_whole, filter_between, filter_push}
use Rattle.resil_permit.proofs.Log.Places.{place_within, one_at, at_end}

module _ {E K : Type 0} {is_own : ℕ → E → Bool} {key : K} {index number : ℕ} {known : K} where
  -- a log that grew, with no event of this seat, keeps what was known of it
  pub live_later : {log now seen : List E} → IsLive is_own key log index number known seen → IsPrefix log now → filter (is_own index) now ≡ filter (is_own index) log → IsLive is_own key now index number known seen
  live_later {log} {now} {seen} k more same = record { numbered = k.numbered; keyed = k.keyed; begins = prefix_trans seen log now k.begins more; all_own = k.all_own ∙ sym same }

  -- a seat that has seen all is live
  pub live_whole : (log : List E) → number ≡ index → known ≡ key → IsLive is_own key log index number known log
  live_whole log numbered keyed = record { numbered = numbered; keyed = keyed; begins = prefix_self log; all_own = refl }

  -- a seat that takes in what another had seen
  pub live_joined : {log mine : List E} → IsLive is_own key log index number known mine → (other : List E) → IsPrefix other log
      → IsLive is_own key log index number known (longer_of mine other)
  live_joined {log} {mine} live other begins = record {
    numbered = live.numbered;
    keyed = live.keyed;
    begins = longer_of_cases (λ zs. IsPrefix zs log) mine other (λ _. live.begins) (λ _. begins);
    all_own = longer_of_cases (λ zs. filter (is_own index) zs ≡ filter (is_own index) log) mine other (λ _. live.all_own)
        (λ lt. filter_between (is_own index) mine other log (prefix_shorter mine other log live.begins begins (omega arith)) begins live.all_own);
  }

  module _ (IsLegal : K → List E → Type 0) {log seen : List E} (live : IsLive is_own key log index number known seen) where
    -- the number and the key that the seat has, instead of the rule's
    in_own_words : (P : K → ℕ → Type 0) → P key index → P known number
    in_own_words P h = subst (λ (y : K × ℕ). P y.0 y.1) (λ i. (sym live.keyed i, sym live.numbered i)) h

    -- a seat that sees all of the log sees more than it saw
    pub sees_more : (old : List E) → IsLegal key log → IsPrefix old log → filter (is_own index) old ≡ filter (is_own index) log → SeesMore IsLegal is_own known number old log
    sees_more old legal begins all_own = in_own_words (λ limit n. SeesMore IsLegal is_own limit n old log) (record { legal = legal; begins = begins; same_own = sym all_own })

    pub sees_whole : IsLegal key log → SeesMore IsLegal is_own known number seen log
    sees_whole legal = sees_more seen legal live.begins live.all_own

    -- a seat that adds an event to the log sees it last
    pub sees_own : (event : ℕ → E) (Before : K → List E → Type 0) → is_own index (event index) ≡ true → IsLegal key (log ++ event index ∷ []) → Before key log
        → SeesOwn IsLegal is_own known number seen (event number) (Before known) (log ++ event index ∷ [])
    sees_own event Before is legal there = in_own_words (λ limit n. SeesOwn IsLegal is_own limit n seen (event n) (Before limit) (log ++ event index ∷ [])) (record {
      legal = legal;
      begins = prefix_push seen log (event index) live.begins;
      more_own = filter_push (is_own index) log (event index) is ∙ ap (λ es. es ++ event index ∷ []) (sym live.all_own);
      before = log;
      ends = refl;
      there = there;
    })

module _ {E K : Type 0} {IsLegal : K → List E → Type 0} {is_own : ℕ → E → Bool} {key : K} {number : ℕ} {a b c : List E} (more : SeesMore IsLegal is_own key number a b) where
  pub sees_more_trans : SeesMore IsLegal is_own key number b c → SeesMore IsLegal is_own key number a c
  sees_more_trans k = record { legal = k.legal; begins = prefix_trans a b c more.begins k.begins; same_own = k.same_own ∙ more.same_own }

  pub sees_own_trans : {e : E} {Before : List E → Type 0} → SeesOwn IsLegal is_own key number b e Before c → SeesOwn IsLegal is_own key number a e Before c
  sees_own_trans {e} k = record {
    legal = k.legal;
    begins = prefix_trans a b c more.begins k.begins;
    more_own = k.more_own ∙ ap (λ (es : List E). es ++ e ∷ []) more.same_own;
    before = k.before;
    ends = k.ends;
    there = k.there;
  }

module _ {E V : Type 0} {seen : V → List E} {log : List E} (views : List V) where
  -- the seat of the step has seen all
  pub seen_here : (index : ℕ) (v w : V) → get_elem? views index ≡ some v → seen w ≡ log → IsSeenWhole seen log (set views index w)
  seen_here index v w at all = record { index = index; seat = w; there = set_here views index w (place_within views index v at); whole = all }

  -- where the seat of the step had seen all, it still has
  seen_on : (index : ℕ) (v w : V) → get_elem? views index ≡ some v → (seen v ≡ log → seen w ≡ log) → IsSeenWhole seen log views
      → IsSeenWhole seen log (set views index w)
  seen_on index v w at still long =
      dite (ℕ_discrete long.index index)
      (λ is. seen_here index v w at (still (ap seen (one_at views index long.index v long.seat at long.there is) ∙ long.whole)))
      (λ not. record { index = long.index; seat = long.seat; there = set_else views index long.index w not ∙ long.there; whole = long.whole })

  -- the seat of the step has seen what it had seen
  pub seen_still : (index : ℕ) (v w : V) → get_elem? views index ≡ some v → seen w ≡ seen v → IsSeenWhole seen log views → IsSeenWhole seen log (set views index w)
  seen_still index v w at same = seen_on index v w at (λ all. same ∙ all)

  -- a seat is spent that another has taken in
  seen_spent : (index other : ℕ) (both u spent : V) → get_elem? views index ≡ some both → get_elem? views other ≡ some u → index ≢ other
      → (seen u ≡ log → seen both ≡ log) → IsSeenWhole seen log views → IsSeenWhole seen log (set views other spent)
  seen_spent index other both u spent at there apart whole long =
      dite (ℕ_discrete long.index other)
      (λ is.
      let all = whole (ap seen (one_at views other long.index u long.seat there long.there is) ∙ long.whole) in
      record { index = index; seat = both; there = set_else views other index spent apart ∙ at; whole = all })
      (λ not. record { index = long.index; seat = long.seat; there = set_else views other long.index spent not ∙ long.there; whole = long.whole })

module _ {E V : Type 0} {seen : V → List E} {IsLegal : List E → Type 0} {is_own : ℕ → E → Bool} where
  -- at the start there is one seat and no event
  pub log_opens : (Fits : ℕ → V → Type 0) (first : V) → seen first ≡ [] → IsLegal [] → Fits 0 first → IsLogOf seen IsLegal is_own Fits [] (first ∷ [])
  log_opens Fits first none legal fits = record {
    legal = legal;
    longest = record { index = 0; seat = first; there = refl; whole = none };
    each = λ j u e. only j u e;
    no_others = λ j le. refl;
  }
    where
      only : (j : ℕ) (u : V) → get_elem? (first ∷ []) j ≡ some u → Fits j u
      only zero u e = subst (Fits 0) (some-injective first u e) fits
      only (suc j) u e = absurd (some-ne-none u (sym e))

  -- one seat's view changes, and the log may grow by its own events
  pub log_moves : {Fits : ℕ → V → Type 0} {log : List E} {views : List V} → IsLogOf seen IsLegal is_own Fits log views → (now : List E) (Fits' : ℕ → V → Type 0) (index : ℕ) (v w : V) → get_elem? views index ≡ some v → IsLegal now
      → ((j : ℕ) → j ≢ index → filter (is_own j) now ≡ filter (is_own j) log) → Fits' index w → ((j : ℕ) (u : V) → j ≢ index → get_elem? views j ≡ some u → Fits j u → Fits' j u)
      → IsSeenWhole seen now (set views index w) → IsLogOf seen IsLegal is_own Fits' now (set views index w)
  log_moves {Fits} {log} {views} k now Fits' index v w at legal others mine later longest =
      let inside = place_within views index v at in
      let lengths : length (set views index w) ≡ length views = length-set views index w in record {
        legal = legal;
        longest = longest;
        each = λ j u e.
            ⊎_elim
            (λ (t : (j ≡ index) × (w ≡ u)). subst (λ (y : ℕ × V). Fits' y.0 y.1) (λ i. (sym t.0 i, t.1 i)) mine)
            (λ (t : (j ≢ index) × (get_elem? views j ≡ some u)). later j u t.0 t.1 (k.each j u t.1))
            (at_set views index j w u e);
        no_others = λ j le.
            let far : j ≢ index = λ e. absurd (omega arith) in others j far ∙ k.no_others j (omega arith);
      }

  -- a seat comes in after all others
  pub log_enters : {Fits : ℕ → V → Type 0} {log : List E} {views : List V} → IsLogOf seen IsLegal is_own Fits log views → (new : V) → Fits (length views) new → IsLogOf seen IsLegal is_own Fits log (views ++ new ∷ [])
  log_enters {Fits} {log} {views} k new fits =
      let more : length (views ++ new ∷ []) ≡ length views + 1 = length-append views (new ∷ []) in
      let long = k.longest in record {
        legal = k.legal;
        longest = record { index = long.index; seat = long.seat; there = at_longer views (new ∷ []) long.index long.seat long.there; whole = long.whole };
        each = λ j u e.
            ⊎_elim
            (λ (t : get_elem? views j ≡ some u). k.each j u t)
            (λ (t : (j ≡ length views) × (new ≡ u)). subst (λ (y : ℕ × V). Fits y.0 y.1) (λ i. (sym t.0 i, t.1 i)) fits)
            (at_end views new u j e);
        no_others = λ j le. k.no_others j (omega arith);
      }

  -- one seat is cut in two; the left one has seen what it had seen
  pub log_splits : {Fits : ℕ → V → Type 0} {log : List E} {views : List V} → IsLogOf seen IsLegal is_own Fits log views → (index : ℕ) (v left right : V) → get_elem? views index ≡ some v → seen left ≡ seen v
      → Fits index left → Fits (length views) right → IsLogOf seen IsLegal is_own Fits log (set views index left ++ right ∷ [])
  log_splits {Fits} {log} {views} k index v left right at same mine new =
      let cut = log_moves k log Fits index v left at k.legal (λ j apart. refl) mine (λ j u apart e fits. fits) (seen_still views index v left at same k.longest) in
      log_enters cut right (subst (λ (n : ℕ). Fits n right) (sym (length-set views index left)) new)

  -- one seat takes in another, which is spent
  pub log_joins : {Fits : ℕ → V → Type 0} {log : List E} {views : List V} → IsLogOf seen IsLegal is_own Fits log views → (index other : ℕ) (v u both spent : V) → get_elem? views index ≡ some v → get_elem? views other ≡ some u
      → other ≢ index → IsPrefix (seen v) log → IsPrefix (seen u) log → seen both ≡ longer_of (seen v) (seen u) → Fits index both → Fits other spent → IsLogOf seen IsLegal is_own Fits log (set (set views index both) other spent)
  log_joins {Fits} {log} {views} k index other v u both spent at there apart begins begins' is mine theirs =
      let whole = λ (one : (seen v ≡ log) ⊎ (seen u ≡ log)). is ∙ longer_of_whole (seen v) (seen u) log begins begins' one in
      let here = set_here views index both (place_within views index v at) in
      let there' = set_else views index other both apart ∙ there in
      let long = seen_on views index v both at (λ all. whole (inl all)) k.longest in
      let took = log_moves k log Fits index v both at k.legal (λ j apart. refl) mine (λ j y apart e fits. fits) long in
      log_moves took log Fits other u spent there' k.legal (λ j apart. refl) theirs (λ j y apart e fits. fits)
      (seen_spent (set views index both) index other both u spent here there' (λ e. apart (sym e)) (λ all. whole (inr all)) long)
