-- What the parts of a box own, and how a machine stores them. Assumes `Logic`.
--     word                 a pointer beside an allocator's handle
--     parts_out, parts_in  the parts are the value with the right to free its block, and the handle; and back
--     parts_tell           the parts are left as they are, and which machine value they are is learned
--     fields_own, fields_out     what the fields of a handle own, and which machine value they are
--     tested               a pointer to a block of the heap may be compared with null
--     either_of            an option is nothing or has a value
use Rattle.resil_c.proofs.Walks.{◌≡◌, ℕ, List, [], ◌∷◌, ◌++◌, ◌&&◌, T, true, lit<, refl, sym, subst, Ura, impl, tnil, dnil, bare, Val, vptr, vnull, vstruct}
use Rattle.resil_c.proofs.Walks.{vcons, vnil, of_list, has_ty, WT, SProp, ent, guard, never, fst∗, snd∗, via, guard_i, full_share, fact_use, Logic, sem, Item}
use Rattle.resil_c.proofs.Walks.{Goal, Seq, Step, step, ‵, ◌$◌, move, drop, fsplit, fjoin, fpick, fpack, rewrite, feq_i, feq_l, RattleType, Valss, RawPtr}
use Rattle.resil_c.proofs.Walks.{lone, Ptr, block_ptr, null_ptr, ptr_val, in_a_block, lies_at, Testable, nothing, layout, Laws, within, shape, Option, Some}
use Rattle.resil_c.proofs.Walks.{None, Ghosts, Al, handle_tells, Good, box_owns, and_tt, Global, ghosts, dealloc_token-Testable}
use Rattle.resil_c.specs.contracts.box_parts.BoxParts as parts

abbrev pub beside : Val → Val → Val
beside pointer handle = vstruct (vcons pointer (vcons handle vnil))

abbrev pub word : ℕ → ℕ → Val → Val
word b o handle = beside (vptr b o) handle

pub either_of {ℓ} : {X : Type 0} → {A : Type ℓ} → (found : Option X) → (found ≡ None → A) → ((x : X) → found ≡ Some x → A) → A
either_of None none some = none refl
either_of (Some x) none some = some x refl

-- R is what the box holds, and Z its allocator
module _ (R Z : RattleType) (L : Laws Z) (g : Ghosts Z.Denot) where
  abbrev pub Parts : RattleType
  Parts = parts.the_row R Z g

  abbrev allocator : Al
  allocator = record { row = Z; laws = L; g = g; d = impl [] tnil dnil; drops = impl [] tnil dnil }

  -- the right to free the block, with the value in it
  abbrev pub block : Z.Denot → R.Denot → Ptr → base.Fml.Fml
  block a x p = box_owns (g.dealloc_token a) R p x

  abbrev pub fields_own : Ptr → Z.Denot → List Val → base.Fml.Fml
  fields_own at a vs = base.Fml.fex (Valss (RawPtr ∷ Z ∷ [])) (within (shape (parts.the_type R Z g)) (at, (a, tt)) vs)

  pub null_good : (h : Val) → Good (layout Z) h → T (has_ty (layout Z) h && true) × WT (beside vnull h)
  null_good h fits = (and_tt (has_ty (layout Z) h) fits.0, (record { fits = lit< tt }, (fits.1, tt)))

  pub word_good : (b o : ℕ) (h : Val) → Good (layout Z) h → T (has_ty (layout Z) h && true) × WT (word b o h)
  word_good b o h fits = (and_tt (has_ty (layout Z) h) fits.0, (tt, (fits.1, tt)))

  module _ {M : Type 1} {𝓤 : Ura M} {𝓛 : Logic 𝓤} {K : Type 0} {Γ : List (Item 𝓤)} {G : Goal 𝓤 𝓛.H} where
    pub fields_out : K → (at : Ptr) (a : Z.Denot) (vs : List Val)
        → ((h : Val) → vs ≡ beside (ptr_val at) h ∷ [] → Good (layout Z) h → Seq K 𝓛 (‵ (Z.own_val a (h ∷ [])) ∷ Γ) G)
        → Seq K 𝓛 (‵ (fields_own at a vs) ∷ Γ) G
    fields_out t at a vs go =
        fpick t (λ fields. fsplit t $ feq_l t (λ whole. fsplit t $ feq_l t (λ pointer. fsplit t $
        handle_tells allocator t a fields.1.0 (λ h handle fits. move t (1 ∷ []) $ drop t $
        go h (subst (λ (hs : List Val). vs ≡ vstruct (of_list (ptr_val at ∷ (hs ++ []))) ∷ []) handle (subst (λ (ps : List Val). vs ≡ vstruct (of_list (ps ++ (fields.1.0 ++ []))) ∷ []) pointer whole)) fits))))

    pub parts_out : K → (d : Parts.Denot) (vs : List Val)
        → ((b o : ℕ) (h : Val) → d.at ≡ block_ptr b o → vs ≡ word b o h ∷ [] → Good (layout Z) h → Seq K 𝓛 (‵ (block d.alloc d.value (block_ptr b o)) ∷ ‵ (Z.own_val d.alloc (h ∷ [])) ∷ Γ) G)
        → Seq K 𝓛 (‵ (Parts.own_val d vs) ∷ Γ) G
    parts_out t d vs go =
        fsplit t $ fpick t (λ fields. fsplit t $ feq_l t (λ whole. fsplit t $ feq_l t (λ pointer. fsplit t $
        handle_tells allocator t d.alloc fields.1.0 (λ h handle fits. move t (1 ∷ []) $ drop t $ move t (1 ∷ []) $
        in_a_block t d.at (block d.alloc d.value) (fst∗ 𝓤 (never 𝓤) (sem 𝓛 (g.dealloc_token d.alloc (bare (lone R.mir)) null_ptr))) (λ b o lies.
        let with_handle = subst (λ (hs : List Val). vs ≡ vstruct (of_list (ptr_val d.at ∷ (hs ++ []))) ∷ []) handle (subst (λ (ps : List Val). vs ≡ vstruct (of_list (ps ++ (fields.1.0 ++ []))) ∷ []) pointer whole) in
        go b o h lies (subst (λ (p : Ptr). vs ≡ vstruct (of_list (ptr_val p ∷ h ∷ [])) ∷ []) lies with_handle) fits)))))

    pub parts_in : K → (b o : ℕ) (h : Val) (a : Z.Denot) (x : R.Denot)
        → Step K 𝓛 (‵ (Parts.own_val (record { at = block_ptr b o; alloc = a; value = x }) (word b o h ∷ [])) ∷ Γ) G (‵ (block a x (block_ptr b o)) ∷ ‵ (Z.own_val a (h ∷ [])) ∷ Γ) G
    parts_in t b o h a x = step (λ rest.
        nothing t $ move t (2 ∷ 0 ∷ []) $ fjoin t $ feq_i t (List Val) (vptr b o ∷ []) (vptr b o ∷ []) refl $ fjoin t $
        feq_i t (List Val) (word b o h ∷ []) (word b o h ∷ []) refl $ fjoin t $
        fpack t (Valss (RawPtr ∷ Z ∷ [])) (within (shape (parts.the_type R Z g)) (block_ptr b o, (a, tt)) (word b o h ∷ [])) (vptr b o ∷ [], (h ∷ [], tt)) $ fjoin t $ rest)

  module _ {M : Type 1} {𝓤 : Ura M} {𝓛 : Logic 𝓤} {K : Type 0} {Γ : List (Item 𝓤)} {G : Goal 𝓤 𝓛.H} where
    pub parts_tell : K → (d : Parts.Denot) (vs : List Val)
        → ((b o : ℕ) (h : Val) → vs ≡ word b o h ∷ [] → Good (layout Z) h → Seq K 𝓛 (‵ (Parts.own_val d (word b o h ∷ [])) ∷ Γ) G)
        → Seq K 𝓛 (‵ (Parts.own_val d vs) ∷ Γ) G
    parts_tell t d vs go = parts_out t d vs (λ b o h lies is fits. parts_in t b o h d.alloc d.value $
        rewrite t 0 (λ (p : Ptr). ‵ (Parts.own_val (record { at = p; alloc = d.alloc; value = d.value }) (word b o h ∷ []))) (sym lies) refl $ go b o h is fits)

module _ {M : Type 1} {𝓤 : Ura M} (𝓛 : Logic 𝓤) (R : RattleType) (a : Global) where
  pub tested : (p : Ptr) (x : R.Denot) → ent 𝓤 (sem 𝓛 (box_owns (ghosts.dealloc_token a) R p x)) (guard 𝓤 (Testable p) (sem 𝓛 (box_owns (ghosts.dealloc_token a) R p x)))
  tested p x =
      let owned : SProp 𝓤 = sem 𝓛 (box_owns (ghosts.dealloc_token a) R p x) in
      fact_use 𝓤 (Testable p) (via 𝓤 _ (snd∗ 𝓤 (sem 𝓛 (lies_at R full_share p x)) (sem 𝓛 (ghosts.dealloc_token a (bare (lone R.mir)) p))) (dealloc_token-Testable 𝓛 a (bare (lone R.mir)) p)) (guard_i 𝓤 (Testable p) owned)
