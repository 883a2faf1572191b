-- What `audit` reads of a head, `judge` reads too.
use lib.Pointwise.{bytes_decides}
use Rattle.std.proofs.Common.{ℕ, ◌≡◌, ◌||◌, ◌&&◌, ◌⊎◌, inl, inr, Bool, true, false, List, [], None, Result, Ok, Err, codes, refl, arith}
use Rattle.std.specs.Prelude.{nat_le}
use Rattle.std.proofs.lemmas.Bool.{and_parts}
use Rattle.std.proofs.lemmas.Bool.Decides.{nat_tests}
use Rattle.std.specs.Str.{chars}
use Rattle.toml.specs.Data.{Members, no_members, member, get_member}
use Rattle.resil_heads.specs.Document.{document_of, has_all, has_only, is_known}
use Rattle.resil_heads.specs.Drawing.{no_drawing}
use Rattle.resil_heads.specs.PoolHead.{PoolHeadView, pool_head_of, pool_keys}
use Rattle.resil_heads.specs.Sizes.{build_jdk_limits, build_limits, is_within, parse_jdk_limits, parse_sizes, required_sizes}
use Rattle.resil_heads.specs.declared.error.HeadError.{HeadError}
use Rattle.resil_input.specs.TextEquality.{is_same}
use Rattle.resil_replay.specs.Head as audit
use Rattle.resil_rule.specs.Limits.{AreLimits, Sizes}
use Rattle.resil_view.specs.Judge.{judged_head_of}

-- ---- Keys.

more : (a b c d : Bool) → (a || (b || (c || false))) ≡ true → (a || (b || (c || d))) ≡ true
more true b c d e = refl
more false true c d e = refl
more false false true d e = refl
more false false false d e = cc e

one_of : (a b c : Bool) → (a || (b || (c || false))) ≡ true → (a ≡ true) ⊎ ((b ≡ true) ⊎ (c ≡ true))
one_of true b c e = inl refl
one_of false true c e = inr (inl refl)
one_of false false true e = inr (inr refl)
one_of false false false e = cc e

-- a key of `audit`'s heads is one of `judge`'s
known-more : (key : List ℕ) → is_known audit.pool_keys.known key ≡ true → is_known pool_keys.known key ≡ true
known-more key e = more (is_same (codes "core") key) (is_same (codes "max") key) (is_same (codes "queue") key) _ e

only-more : (table : Members) → has_only audit.pool_keys.known table ≡ true → has_only pool_keys.known table ≡ true
only-more no_members e = refl
only-more (member key value others) e =
    let (here, later) = and_parts (is_known audit.pool_keys.known key) (has_only audit.pool_keys.known others) e in
    rw (known-more key here, only-more others later) refl

-- a head of `audit` has no name
no-name : (table : Members) → has_only audit.pool_keys.known table ≡ true → get_member (codes "name") table ≡ None
no-name no_members e = refl
no-name (member key value others) e =
    let (here, later) = and_parts (is_known audit.pool_keys.known key) (has_only audit.pool_keys.known others) e in
    elim (one_of (is_same (codes "core") key) (is_same (codes "max") key) (is_same (codes "queue") key) here) [
      | inl core ↦ rw (← (bytes_decides (codes "core") key).0 core) (no-name others later)
      | inr (inl max) ↦ rw (← (bytes_decides (codes "max") key).0 max) (no-name others later)
      | inr (inr queue) ↦ rw (← (bytes_decides (codes "queue") key).0 queue) (no-name others later)
    ]

-- ---- Sizes.

in-core : (n : ℕ) → is_within 1 64 n ≡ true → nat_le n 536870911 ≡ true
in-core n e = grind (arith, nat_tests)

in-max : (core max : ℕ) → is_within 1 64 core ≡ true → is_within core 64 max ≡ true → (nat_le 1 max && is_within core 536870911 max) ≡ true
in-max core max e e' = grind (arith, nat_tests)

in-queue : (n : ℕ) → is_within 1 65536 n ≡ true → nat_le n 2147483647 ≡ true
in-queue n e = grind (arith, nat_tests)

sizes-agree : (sizes limits : Sizes) → build_limits sizes ≡ Ok limits → build_jdk_limits sizes ≡ Ok limits
sizes-agree sizes limits = by (is_within 1 64 sizes.core) (is_within sizes.core 64 sizes.max) (is_within 1 65536 sizes.queue) refl refl refl
  where
    by : (a b c : Bool) → is_within 1 64 sizes.core ≡ a → is_within sizes.core 64 sizes.max ≡ b → is_within 1 65536 sizes.queue ≡ c → build_limits sizes ≡ Ok limits → build_jdk_limits sizes ≡ Ok limits
    by true true true core max queue e = rw (in-core sizes.core core, in-max sizes.core sizes.max core max, in-queue sizes.queue queue) (rw (core, max, queue) at e)
    by false b c core max queue e = cc (rw core at e)
    by true false c core max queue e = cc (rw (core, max) at e)
    by true true false core max queue e = cc (rw (core, max, queue) at e)

-- ---- Heads.

within : (sizes limits : Sizes) → build_limits sizes ≡ Ok limits → AreLimits limits
within sizes limits = by (is_within 1 64 sizes.core) (is_within sizes.core 64 sizes.max) (is_within 1 65536 sizes.queue) refl refl refl
  where
    by : (a b c : Bool) → is_within 1 64 sizes.core ≡ a → is_within sizes.core 64 sizes.max ≡ b → is_within 1 65536 sizes.queue ≡ c → build_limits sizes ≡ Ok limits → AreLimits limits
    by true true true core max queue e =
        let same : sizes ≡ limits = cc (rw (core, max, queue) at e) in
        rw (← same) (record { core = (grind (arith, nat_tests), grind (arith, nat_tests)); max = (grind (arith, nat_tests), grind (arith, nat_tests)); queue = (grind (arith, nat_tests), grind (arith, nat_tests)) })
    by false b c core max queue e = cc (rw core at e)
    by true false c core max queue e = cc (rw (core, max) at e)
    by true true false core max queue e = cc (rw (core, max, queue) at e)

-- what `judge` reads of a head in which `audit` reads these sizes, which are those of a pool of ours
abbrev pub Agrees : List ℕ → Sizes → Type 0
Agrees head limits = ((said : PoolHeadView) × (judged_head_of head ≡ Ok said) × (said.limits ≡ limits)) × AreLimits limits

pub head-agrees : (head : List ℕ) (limits : Sizes) → audit.pool_head_of head ≡ Ok limits → Agrees head limits
unfolding pool_head_of parse_jdk_limits chars
head-agrees head limits e = by-document (document_of head) refl
  where
    by-sizes : (table : Members) → document_of head ≡ Ok table → has_only audit.pool_keys.known table ≡ true → has_all required_sizes table ≡ true
        → (read : Result Sizes HeadError) → parse_sizes table ≡ read → Agrees head limits
    by-sizes table document only all (Err why) read = cc (rw (document, only, all, read) at e)
    by-sizes table document only all (Ok sizes) read =
        let built : build_limits sizes ≡ Ok limits = rw (document, only, all, read) at e in
        let jdk = sizes-agree sizes limits built in (
          (
            record { limits = limits; name = []; recorded = record { idle_for = None; made = 0; owner = []; began = None }; drawing = no_drawing },
            rw (document, only-more table only, all, no-name table only, read, jdk) refl,
            refl,
          ),
          within sizes limits built,
        )

    by-all : (table : Members) → document_of head ≡ Ok table → has_only audit.pool_keys.known table ≡ true → (b : Bool) → has_all required_sizes table ≡ b → Agrees head limits
    by-all table document only true all = by-sizes table document only all (parse_sizes table) refl
    by-all table document only false all = cc (rw (document, only, all) at e)

    by-only : (table : Members) → document_of head ≡ Ok table → (b : Bool) → has_only audit.pool_keys.known table ≡ b → Agrees head limits
    by-only table document true only = by-all table document only (has_all required_sizes table) refl
    by-only table document false only = cc (rw (document, only) at e)

    by-document : (read : Result Members HeadError) → document_of head ≡ read → Agrees head limits
    by-document (Ok table) document = by-only table document (has_only audit.pool_keys.known table) refl
    by-document (Err why) document = cc (rw document at e)
