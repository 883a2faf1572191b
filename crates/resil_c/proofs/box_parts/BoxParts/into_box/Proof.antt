-- `into_box` makes a box of the parts by `Box::from_raw`.
use Rattle.resil_c.proofs.Walks.{◌≡◌, List, [], ◌∷◌, ◌++◌, refl, sym, ap, subst, Fn, Args, a_type, dcons, dnil, Val, vptr, inst_fn, SProp, ent, id⊢, ftrue}
use Rattle.resil_c.proofs.Walks.{flft, WpFn, Item, ‵, raw, ◌⊛◌, some, later, at_ret, ◌$◌, ◌∵◌, !, qed, by, move, keep, drop, split, split3, join, fsplit}
use Rattle.resil_c.proofs.Walks.{fjoin, pick, suffices, use1, await, rewrite, feq_i, stop, fld, of_opd, no_more, and_then, first, blocks, exec, returns}
use Rattle.resil_c.proofs.Walks.{enter, alloc_all, pass_all, free_all, look_at, get, get_in, sets, lands_last, env, sub, whole, fact, ◌⊑◌, tables, no}
use Rattle.resil_c.proofs.Walks.{RattleType, owns, types_at, plain, block_ptr, nothing, only, layout, bounded, param_laws, Lasts, lasts, triple_of}
use Rattle.resil_c.proofs.Walks.{calls_at_last, Stays, stay_dropped, walk_of, Goes-blank, after, fm, Good, proved_at, leaves, box_out, box_in}
use Rattle.std_alloc.proofs.boxed.Box.from_raw.Met.{met}
use Rattle.std_alloc.proofs.BoxSteps.Form as box
use Rattle.std_alloc.specs.contracts.boxed.Box.from_raw as callee
use Rattle.resil_c.proofs.Parts.{word, Parts, word_good, parts_out}
use Rattle.resil_c.specs.contracts.box_parts.BoxParts.into_box as called
use Rattle.resil_c.proofs.box_parts.BoxParts.into_box.Statement.{statement}
use Rattle.resil_c.proofs.box_parts.BoxParts.into_box.Code as code

pub into_box_spec : {M : Type 1} → statement M
into_box_spec 𝓤 𝓛 𝓜 𝓡 wired X A L LA g d dx da allocator glue_x glue_a =
    let H = 𝓛.H in let 𝓣 = tables 𝓤 H 𝓜 𝓡 𝓡.env in let E : box.Bx = record { row = X; laws = L; al = record { row = A; laws = LA; g = g; d = d; drops = da } } in
    let R : RattleType = box.R E in let P : RattleType = box.P E in let B : RattleType = box.B E in let LP = param_laws 1 A LA in
    let args : Args = bounded (a_type ∷ a_type ∷ []) (X, (A, tt)) (dcons d (dcons dx (dcons da dnil))) in let fn : Fn = inst_fn args code.function in
    let En = called.ended X A g d dx da in let c = called.clauses X A g d dx da 𝓛 𝓜.mem 𝓡.returns in let stayed : Stays En.signature.params En.kept = (stay_dropped (plain (λ _. Parts R P LP g)) no, tt) in
    let Closes = triple_of 𝓛 (callee.signature X A g d da) (callee.spec X A g d da 𝓛 𝓜.mem 𝓡.returns) in
    let closes = met 𝓤 𝓛 𝓜 𝓡 (code.calls-std_alloc::boxed::Box::from_raw 𝓡.env wired) X A L LA g d da allocator glue_a in
    proved_at 𝓛 En stayed c 𝓜 𝓡 (Goes-blank 𝓛 2 (plain (λ _. Parts R P LP g)) no (λ κs x f. tt), tt) (called.Key.name args) fn (code.unfolded 𝓤 H 𝓜 𝓡 wired (X, (A, tt)) d dx da) (λ z are.
    let κs = z.0.0 in let qs = z.0.1 in let v = z.0.3.0 in let a = v.alloc in let Post : Val → SProp 𝓤 = (walk_of 𝓛 En stayed c).post z in let Run : List Val → SProp 𝓤 = λ ws. WpFn 𝓤 H 𝓣.C 𝓣.Λ fn ws Post in
    let tokens : Item 𝓤 = ‵ (flft κs.0 qs.0) ⊛ ‵ (flft κs.1.0 qs.1.0) ⊛ ‵ ftrue in
    qed 𝓛 ((tokens ⊛ ‵ (owns (types_at En.signature.params κs) z.0.3 z.0.4)) ∷ raw ((c κs z.0.3).requires z.1) ∷ []) ∵ split ! $ move ! (1 ∷ []) $ fsplit ! $
    parts_out R P LP g ! v z.0.4.0 (λ b o h lies is fits.
    let w : Val = word b o h in let good = word_good R P LP g b o h fits in let y : Closes.Ghost = ((κs, qs, tt, (a, (block_ptr b o, tt)), (h ∷ [], (vptr b o ∷ [], tt))), v.value) in
    -- [the block; the handle; nothing; the tokens; the bounds]
    move ! (4 ∷ []) $ use1 𝓛 (raw (fact 𝓤 (κs.0 ⊑ X.lives)) ⊛ raw (fact 𝓤 (κs.1.0 ⊑ A.lives)) ⊛ ‵ ftrue) (id⊢ 𝓤 _) $ split3 ! $
    -- [two bounds and nothing; the block; the handle; nothing; the tokens]
    move ! (2 ∷ []) $ drop ! $ move ! (1 ∷ 2 ∷ []) $ join ! $ move ! (1 ∷ 0 ∷ []) $ join ! $ move ! (2 ∷ []) $
    feq_i ! (List Val) (vptr b o ∷ []) (vptr b o ∷ []) refl $ fjoin ! $ move ! (2 ∷ 0 ∷ []) $ fjoin ! $ move ! (2 ∷ 0 ∷ []) $ join ! $ join ! $ use1 𝓛 (raw (Closes.pre y)) (id⊢ 𝓤 _) $
    suffices ! (Run (w ∷ [])) (subst (λ (us : List Val). ent 𝓤 (Run (w ∷ [])) (Run us)) (sym (λ i. is i ++ [])) (id⊢ 𝓤 (Run (w ∷ [])))) $
    enter ! 𝓣.C 𝓣.Λ fn (w ∷ []) Post $ alloc_all ! (λ l. pass_all ! refl (good, tt) $ let Ev = env fn.locals l in
    sets ! (of_opd ! (get_in ! (fld ! refl (stop !)) (sub ! 0 refl (whole !)))) refl (tt, tt) $
    sets ! (of_opd ! (get_in ! (fld ! refl (stop !)) (sub ! 1 refl (whole !)))) refl fits $
    first ! $ blocks ! $ sets ! (of_opd ! (get ! refl)) refl fits $
    calls_at_last ! (fm 𝓛 𝓜 𝓡) Closes closes y (and_then ! (get ! refl) (and_then ! (get ! refl) (no_more !))) (λ u.
    use1 𝓛 (later (some (λ (r : B.Denot). (tokens ⊛ ‵ (B.own_val r (u ∷ []))) ⊛
    some (λ (ls : Lasts (callee.ended X A g d da) κs y.0.3). ‵ (lasts (callee.ended X A g d da) κs y.0.3 ls) ⊛ (raw (fact 𝓤 (r.value ≡ v.value)) ⊛ raw (fact 𝓤 (r.alloc ≡ a))))))) (id⊢ 𝓤 (Closes.post y u)) $
    await ! tt $ pick ! (λ r. split ! $ move ! (1 ∷ []) $ pick ! (λ _. split3 ! $ drop ! $ move ! (2 ∷ []) $ split ! $ move ! (1 ∷ []) $
    -- [the box; the tokens; the value's clause; the allocator's]
    box_out E ! r (u ∷ []) (λ b' o' h' lies' is' fits'. box_in E ! r b' o' r.value lies' refl $ rewrite ! 0 (λ (us : List Val). ‵ (B.own_val r us)) (sym is') refl $
    let good' : Good (layout B) u = subst (Good (layout B)) (sym (ap only is')) (word_good R P LP g b' o' h' fits') in
    lands_last ! refl good' $ exec ! 𝓣.C 𝓣.Λ Ev (after 3 fn.body) (at_ret Ev Post) $ sets ! (of_opd ! (get ! refl)) refl good' $ nothing ! $ nothing ! $ fjoin ! $
    -- [what is left of the parts; the box; the tokens; the value's clause]
    returns ! (look_at ! 0 refl) $ free_all ! refl $ keep ! (2 ∷ 0 ∷ 1 ∷ 3 ∷ []) $ by ! (leaves 𝓛 En stayed c z u r ((tt, (tt, tt)), tt) (tt, tt)))))))))
