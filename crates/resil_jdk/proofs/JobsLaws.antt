-- The ids of a set of jobs, by the keys that it has.
use Rattle.std.proofs.Common.{◌≡◌, ◌+◌, ◌∷◌, [], ◌∙◌, ◌||◌, ◌&&◌, ◌==◌, inl, inr, ℕ, Bool, true, false, cond, List, refl, sym, ap, arith}
use Rattle.std.specs.List.{list_any, sum_by}
use Rattle.std.specs.List.Sorted.{IsPermutation}
use Rattle.std.specs.Bool.{MatchBool, OnTrue}
use Rattle.std.specs.Set.{remove_key}
use Rattle.std.proofs.lemmas.Bool.{cases_Bool}
use Rattle.std.proofs.lemmas.List.Sorted.{IsPermutation-refl, sum_by-IsPermutation, sum_by_pushed}
use Rattle.resil_rule.specs.History.{is_same_id, is_among, times}
use Rattle.resil_rule.specs.declared.event.Id.{Id}
use Rattle.resil_rule.proofs.IdLaws.{same_id-equal}
use Rattle.resil_rule.proofs.TimesLaws.{times-append, times-one}
use Rattle.resil_jdk.specs.Jobs.{id_of, ids_of}

-- whether a key is that of a caller and a number
abbrev pub is_key : (ℕ × ℕ) → (ℕ × ℕ) → Bool
is_key key other = (key.0 == other.0) && (key.1 == other.1)

any-key : (key : ℕ × ℕ) (keys : List (ℕ × ℕ)) → list_any (is_key key) keys ≡ is_among (id_of key) (ids_of keys)
any-key key [] = refl
any-key key (k ∷ keys) = ap (λ (b : Bool). is_key key k || b) (any-key key keys)

-- how often an id stands among them, as a sum
abbrev weight : Id → (ℕ × ℕ) → ℕ
weight x k = cond (is_same_id x (id_of k)) 1 0

times-more : (x : Id) (k : ℕ × ℕ) (keys : List (ℕ × ℕ)) → times x (ids_of (k ∷ keys)) ≡ weight x k + times x (ids_of keys)
times-more x k keys = times-append x (id_of k ∷ []) (ids_of keys) ∙ ap (λ n. n + times x (ids_of keys)) (times-one x (id_of k))

times-sum : (x : Id) (keys : List (ℕ × ℕ)) → times x (ids_of keys) ≡ sum_by (weight x) keys
times-sum x [] = refl
times-sum x (k ∷ keys) = times-more x k keys ∙ ap (λ n. weight x k + n) (times-sum x keys) ∙ sym (sum_by_pushed (weight x) k keys (k ∷ keys) (IsPermutation-refl (k ∷ keys)))

times-permuted : (x : Id) (keys others : List (ℕ × ℕ)) → IsPermutation keys others → times x (ids_of others) ≡ times x (ids_of keys)
times-permuted x keys others permuted = times-sum x others ∙ sum_by-IsPermutation (weight x) keys others permuted ∙ sym (times-sum x keys)

times-removed : (x : Id) (key : ℕ × ℕ) (keys : List (ℕ × ℕ)) → is_among (id_of key) (ids_of keys) ≡ true
    → times x (ids_of (remove_key (is_key key) keys)) + times x (id_of key ∷ []) ≡ times x (ids_of keys)
times-removed x key [] among = absurd (cc among)
times-removed x key (k ∷ keys) among = elim (cases_Bool (is_key key k)) [
  | inl same ↦
      let first : id_of key ≡ id_of k = same_id-equal (id_of key) (id_of k) same in
      let gone = ap (λ (b : Bool). times x (ids_of (cond b keys (k ∷ remove_key (is_key key) keys)))) same in
      let one = ap (λ (id : Id). times x (id ∷ [])) first ∙ times-one x (id_of k) in let all = times-more x k keys in omega (arith, gone, one, all)
  | inr other ↦
      let rest = times-removed x key keys (sym (ap (λ (b : Bool). b || is_among (id_of key) (ids_of keys)) other) ∙ among) in
      let gone = ap (λ (b : Bool). times x (ids_of (cond b keys (k ∷ remove_key (is_key key) keys)))) other in let left = times-more x k (remove_key (is_key key) keys) in
      let all = times-more x k keys in omega (arith, gone, rest, left, all)
]

-- a key is put into the set
put : (x : Id) (key : ℕ × ℕ) (keys others : List (ℕ × ℕ)) → IsPermutation (key ∷ keys) others → times x (ids_of others) ≡ times x (ids_of keys) + times x (id_of key ∷ [])
put x key keys others permuted =
    let all = times-permuted x (key ∷ keys) others permuted in let more = times-more x key keys in let one = times-one x (id_of key) in omega (arith, all, more, one)

-- a key is taken out of the set
taken-out : (x : Id) (key : ℕ × ℕ) (keys others : List (ℕ × ℕ)) → is_among (id_of key) (ids_of keys) ≡ true → IsPermutation (remove_key (is_key key) keys) others
    → times x (ids_of others) + times x (id_of key ∷ []) ≡ times x (ids_of keys)
taken-out x key keys others among permuted =
    let all = times-permuted x (remove_key (is_key key) keys) others permuted in let less = times-removed x key keys among in omega (arith, all, less)

-- the clauses of the calls that do
pub put-more : (added : Bool) (id : Id) (key : ℕ × ℕ) (keys others : List (ℕ × ℕ)) → key ≡ (id.caller, id.number) → MatchBool added (IsPermutation (key ∷ keys) others) (others ≡ keys)
    → OnTrue added ((x : Id) → times x (ids_of others) ≡ times x (ids_of keys) + times x (id ∷ []))
put-more true id key keys others is permuted = λ x. put x key keys others permuted ∙ ap (λ (k : ℕ × ℕ). times x (ids_of keys) + times x (id_of k ∷ [])) is
put-more false id key keys others is same = tt

pub took-out : (had : Bool) (id : Id) (key : ℕ × ℕ) (keys others : List (ℕ × ℕ)) → key ≡ (id.caller, id.number) → had ≡ is_among id (ids_of keys) → IsPermutation (remove_key (is_key key) keys) others
    → OnTrue had ((x : Id) → times x (ids_of others) + times x (id ∷ []) ≡ times x (ids_of keys))
took-out true id key keys others is had permuted =
    let there = ap (λ (k : ℕ × ℕ). is_among (id_of k) (ids_of keys)) is ∙ sym had in
    λ x. ap (λ (k : ℕ × ℕ). times x (ids_of others) + times x (id_of k ∷ [])) (sym is) ∙ taken-out x key keys others there permuted
took-out false id key keys others is had permuted = tt

pub among-key : (id : Id) (key : ℕ × ℕ) (keys : List (ℕ × ℕ)) → key ≡ (id.caller, id.number) → list_any (is_key key) keys ≡ is_among id (ids_of keys)
among-key id key keys is = any-key key keys ∙ ap (λ (k : ℕ × ℕ). is_among (id_of k) (ids_of keys)) is
