-- `of` takes the box apart by `Box::into_raw_with_allocator`, and puts the result into a struct.
use Rattle.resil_c.proofs.Walks.{◌≡◌, List, [], ◌∷◌, ◌++◌, refl, sym, ap, ◌∙◌, subst, Fn, Args, a_type, dcons, dnil, bare, Val, vstruct, of_list, inst_fn}
use Rattle.resil_c.proofs.Walks.{SProp, ent, emp, never, id⊢, fst∗, ftrue, fsep, flft, WpFn, sem, Item, ‵, raw, ◌⊛◌, some, later, ◌$◌, ◌∵◌, !, qed, by, move}
use Rattle.resil_c.proofs.Walks.{keep, drop, split, split3, join, fsplit, fjoin, fpick, pick, suffices, use0, use1, await, rewrite, feq_l, stop, fld, of_opd}
use Rattle.resil_c.proofs.Walks.{no_more, and_then, returns, enter, alloc_all, pass_all, free_all, look_at, get, get_in, sets, lands_as, agg, sub, whole}
use Rattle.resil_c.proofs.Walks.{fact, fact_i, tables, no, RattleType, owns, types_at, plain, RawPtr, Ptr, block_ptr, null_ptr, ptr_val, in_a_block, nothing}
use Rattle.resil_c.proofs.Walks.{only, heard, layout, bounded, Tuple, triple_of, calls_at, Stays, stay_dropped, walk_of, Goes-blank, handle_tells, fm}
use Rattle.resil_c.proofs.Walks.{proved_at, leaves, box_owns, box_out, box_in, param_laws}
use Rattle.std_alloc.proofs.boxed.Box.into_raw_with_allocator.Met.{met}
use Rattle.std_alloc.proofs.BoxSteps.Form as box
use Rattle.std_alloc.specs.contracts.boxed.Box.into_raw_with_allocator as callee
use Rattle.resil_c.proofs.Parts.{word, Parts, word_good, parts_in}
use Rattle.resil_c.specs.contracts.box_parts.BoxParts.of as called
use Rattle.resil_c.proofs.box_parts.BoxParts.of.Statement.{statement}
use Rattle.resil_c.proofs.box_parts.BoxParts.of.Code as code

pub of_spec : {M : Type 1} → statement M
of_spec 𝓤 𝓛 𝓜 𝓡 wired X A L LA g d dx da allocator glue_x glue_a =
    let H = 𝓛.H in let 𝓣 = tables 𝓤 H 𝓜 𝓡 𝓡.env in let E : box.Bx = record { row = X; laws = L; al = record { row = A; laws = LA; g = g; d = d; drops = da } } in
    let R : RattleType = box.R E in let P : RattleType = box.P E in let LP = param_laws 1 A LA in let args : Args = bounded (a_type ∷ a_type ∷ []) (X, (A, tt)) (dcons d (dcons dx (dcons da dnil))) in let fn : Fn = inst_fn args code.function in
    let En = called.ended X A g d dx da in let c = called.clauses X A g d dx da 𝓛 𝓜.mem 𝓡.returns in let stayed : Stays En.signature.params En.kept = (stay_dropped (plain (λ _. box.B E)) no, tt) in
    let Opens = triple_of 𝓛 (callee.signature X A g d da dx) (callee.spec X A g d da dx 𝓛 𝓜.mem 𝓡.returns) in
    let opens = met 𝓤 𝓛 𝓜 𝓡 (code.calls-std_alloc::boxed::Box::into_raw_with_allocator 𝓡.env wired) X A L LA g d da dx allocator glue_a glue_x in
    proved_at 𝓛 En stayed c 𝓜 𝓡 (Goes-blank 𝓛 2 (plain (λ _. box.B E)) no (λ κs x f. tt), tt) (called.Key.name args) fn (code.unfolded 𝓤 H 𝓜 𝓡 wired (X, (A, tt)) d dx da) (λ z are.
    let κs = z.0.0 in let qs = z.0.1 in let v = z.0.3.0 in let a = v.alloc in let Post : Val → SProp 𝓤 = (walk_of 𝓛 En stayed c).post z in let Run : List Val → SProp 𝓤 = λ ws. WpFn 𝓤 H 𝓣.C 𝓣.Λ fn ws Post in
    let tokens : Item 𝓤 = ‵ (flft κs.0 qs.0) ⊛ ‵ (flft κs.1.0 qs.1.0) ⊛ ‵ ftrue in
    qed 𝓛 ((tokens ⊛ ‵ (owns (types_at En.signature.params κs) z.0.3 z.0.4)) ∷ raw ((c κs z.0.3).requires z.1) ∷ []) ∵ split ! $ move ! (1 ∷ []) $ fsplit ! $
    box_out E ! v z.0.4.0 (λ b o h lies is fits. box_in E ! v b o v.value lies refl $
    let w : Val = word b o h in let good = word_good R P LP g b o h fits in let y : Opens.Ghost = ((κs, qs, tt, (v, tt), (w ∷ [], tt)), tt) in
    -- [the box; nothing; the tokens; the bounds]
    fjoin ! $ move ! (1 ∷ 0 ∷ []) $ join ! $ join ! $ use1 𝓛 (raw (Opens.pre y)) (id⊢ 𝓤 _) $
    suffices ! (Run (w ∷ [])) (subst (λ (us : List Val). ent 𝓤 (Run (w ∷ [])) (Run us)) (sym (λ i. is i ++ [])) (id⊢ 𝓤 (Run (w ∷ [])))) $
    enter ! 𝓣.C 𝓣.Λ fn (w ∷ []) Post $ alloc_all ! (λ l. pass_all ! refl (good, tt) $ sets ! (of_opd ! (get ! refl)) refl good $
    calls_at ! (fm 𝓛 𝓜 𝓡) Opens opens y (and_then ! (get ! refl) (no_more !)) (λ u.
    use1 𝓛 (later (some (λ (r : Ptr × A.Denot). (tokens ⊛ ‵ ((Tuple (RawPtr ∷ P ∷ [])).own_val r (u ∷ []))) ⊛
    some (λ (_ : (Unit {0} × (Unit {0} × Unit {0})) × Unit {0}). ‵ (fsep (fsep ftrue (fsep ftrue ftrue)) ftrue) ⊛ (raw (fact 𝓤 (r.1 ≡ a)) ⊛ ‵ (box_owns (g.dealloc_token a) R r.0 v.value)))))) (id⊢ 𝓤 _) $
    await ! tt $ pick ! (λ r. split ! $ move ! (1 ∷ []) $ pick ! (λ _. split3 ! $ drop ! $ heard ! (r.1 ≡ a) (λ same.
    -- [the block; the tokens and the pair]
    in_a_block ! r.0 (λ p. box_owns (g.dealloc_token a) R p v.value) (fst∗ 𝓤 (never 𝓤) (sem 𝓛 (g.dealloc_token a (bare (layout X)) null_ptr))) (λ b' o' lies'.
    move ! (1 ∷ []) $ split ! $ move ! (1 ∷ []) $ fpick ! (λ fields. fsplit ! $ feq_l ! (λ pair. fsplit ! $ feq_l ! (λ pointer. fsplit ! $
    rewrite ! 0 (λ (s : A.Denot). ‵ (A.own_val s fields.1.0)) same refl $ handle_tells E.al ! a fields.1.0 (λ h' handle fits'.
    -- [the handle; nothing; the tokens; the block]
    let made : (Parts R P LP g).Denot = record { at = block_ptr b' o'; alloc = a; value = v.value } in let w' : Val = word b' o' h' in let good' = word_good R P LP g b' o' h' fits' in
    lands_as ! (ap only (pair ∙ (λ i. vstruct (of_list ((pointer ∙ ap (λ (p : Ptr). ptr_val p ∷ []) lies') i ++ (handle i ++ []))) ∷ []))) refl good' $
    sets ! (of_opd ! (get_in ! (fld ! refl (stop !)) (sub ! 0 refl (whole !)))) refl (tt, tt) $
    sets ! (of_opd ! (get_in ! (fld ! refl (stop !)) (sub ! 1 refl (whole !)))) refl fits' $ sets ! (of_opd ! (get ! refl)) refl fits' $
    sets ! (agg ! (and_then ! (get ! refl) (and_then ! (get ! refl) (no_more !)))) refl good' $
    move ! (3 ∷ 0 ∷ []) $ parts_in R P LP g ! b' o' h' a v.value $
    use0 𝓛 (raw (fact 𝓤 (v.value ≡ v.value))) (fact_i 𝓤 (v.value ≡ v.value) (emp 𝓤) refl) $ nothing ! $ nothing ! $ fjoin ! $
    -- [what is left of the box; the clause; the parts; nothing; the tokens]
    returns ! (look_at ! 0 refl) $ free_all ! refl $ keep ! (4 ∷ 0 ∷ 2 ∷ 1 ∷ []) $ by ! (leaves 𝓛 En stayed c z w' made ((tt, (tt, tt)), tt) (tt, tt))))))))))))))
