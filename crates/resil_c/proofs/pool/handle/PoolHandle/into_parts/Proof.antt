-- `into_parts` compares the pointer with null: an empty handle has no parts, and any other handle owns what its parts own.
use Rattle.resil_c.proofs.Walks.{◌≡◌, List, [], ◌∷◌, ◌++◌, ◌∙◌, refl, sym, ap, subst, lit<, Val, vnull, vcons, vnil, SProp, ent, id⊢, emp, ftrue, WpFn, ‵}
use Rattle.resil_c.proofs.Walks.{raw, given, at_ret, ◌⊛◌, ◌$◌, ◌∵◌, !, qed, by, move, keep, drop, split, fsplit, fpick, learn, rewrite, suffices, use0, use1}
use Rattle.resil_c.proofs.Walks.{fjoin, stop, fld, lit, of_opd, bin, no_more, and_then, first, branches, exec, returns, enter, alloc_all, pass_all, free_all}
use Rattle.resil_c.proofs.Walks.{look_at, get, get_in, sets, sets_last, env, agg, sub, whole, live, fact, fact_i, tables, yes, RattleType, owns, Ptr}
use Rattle.resil_c.proofs.Walks.{block_ptr, null_ptr, ptr_val, in_a_block, tests_null, lone, types_at, type_at, plain, layout, nothing, Stays, stay_dropped}
use Rattle.resil_c.proofs.Walks.{walk_of, Goes-dropped, bare, never, fst∗, sem, after, Ptr-Good, Good, Some-of, none_of, proved_at, leaves, Option, None}
use Rattle.resil_c.proofs.Walks.{Some, ghosts, and_tt}
use Rattle.resil_c.specs.Book.{BookView}
use Rattle.std.specs.contracts.alloc.Global as heap
use Rattle.std.proofs.alloc.Global.TheLaws as heap_laws
use Rattle.resil_c.specs.contracts.pool.book.Book as owner
use Rattle.resil_c.specs.contracts.pool.handle.PoolHandle as handle
use Rattle.resil_c.proofs.Parts.{beside, word, either_of, Parts, block, word_good, null_good, fields_out, parts_in, tested}
use Rattle.resil_c.specs.contracts.pool.handle.PoolHandle.into_parts.{ended, clauses}
use Rattle.resil_c.specs.contracts.pool.handle.PoolHandle.into_parts.Key.{name as #self}
use Rattle.resil_c.proofs.pool.handle.PoolHandle.into_parts.Statement.{statement}
use Rattle.resil_c.proofs.pool.handle.PoolHandle.into_parts.Code as code

abbrev To : RattleType
To = Parts owner.the_row heap.the_row heap_laws.the_row_laws ghosts

abbrev From : RattleType
From = handle.the_row

abbrev stayed : Stays ended.signature.params ended.kept
stayed = (stay_dropped (plain (λ _. From)) yes, tt)

pub into_parts_spec : {M : Type 1} → statement M
into_parts_spec 𝓤 𝓛 𝓜 𝓡 wired =
    let H = 𝓛.H in let 𝓣 = tables 𝓤 H 𝓜 𝓡 𝓡.env in let c = clauses 𝓛 𝓜.mem 𝓡.returns in let fn = code.function in
    let R : RattleType = owner.the_row in let Z : RattleType = heap.the_row in let L = heap_laws.the_row_laws in
    proved_at 𝓛 ended stayed c 𝓜 𝓡 (Goes-dropped 𝓛 0 (plain (λ _. From)) yes (λ κs x f. refl), tt) #self fn (code.unfolded 𝓤 H 𝓜 𝓡 wired) (λ z are.
    let d = z.0.3.0 in let vs = z.0.4.0 in let Out : RattleType = type_at ended.signature.result z.0.0 in
    let Post : Val → SProp 𝓤 = (walk_of 𝓛 ended stayed c).post z in let Run : List Val → SProp 𝓤 = λ ws. WpFn 𝓤 H 𝓣.C 𝓣.Λ fn ws Post in
    qed 𝓛 ((‵ ftrue ⊛ ‵ (owns (types_at ended.signature.params z.0.0) z.0.3 z.0.4)) ∷ raw ((c z.0.0 z.0.3).requires z.1) ∷ []) ∵ split ! $ move ! (1 ∷ []) $ fsplit ! $
    either_of d.value
    (λ none. rewrite ! 0 (λ (o : Option BookView). ‵ (From.own_val (record { at = d.at; alloc = d.alloc; value = o }) vs)) none refl $ fsplit ! $ move ! (1 ∷ []) $ fpick ! (λ null. drop ! $
    fields_out R Z L ghosts ! d.at d.alloc vs (λ h is fits.
    let w : Val = beside vnull h in let told : vs ≡ w ∷ [] = is ∙ ap (λ (p : Ptr). beside (ptr_val p) h ∷ []) null in let good = null_good R Z L ghosts h fits in
    drop ! $ suffices ! (Run (w ∷ [])) (subst (λ (us : List Val). ent 𝓤 (Run (w ∷ [])) (Run us)) (sym (λ i. told i ++ [])) (id⊢ 𝓤 (Run (w ∷ [])))) $
    enter ! 𝓣.C 𝓣.Λ fn (w ∷ []) Post $ alloc_all ! (λ l. pass_all ! refl (good, tt) $ let Ev = env fn.locals l in
    sets ! (of_opd ! (get_in ! (fld ! refl (stop !)) (sub ! 0 refl (whole !)))) refl (Ptr-Good null_ptr) $
    sets ! (of_opd ! (get_in ! (fld ! refl (stop !)) (sub ! 1 refl (whole !)))) refl fits $
    sets ! (bin ! (get ! refl) (lit ! tt) tt) refl (tt, tt) $ first ! $ branches ! (get ! refl)
    (λ _. sets_last ! (agg ! (and_then ! (lit ! tt) (no_more !))) refl (tt, (record { fits = lit< tt }, tt)) $ exec ! 𝓣.C 𝓣.Λ Ev (after 4 fn.body) (at_ret Ev Post) $ sets ! (of_opd ! (get ! refl)) refl (tt, (record { fits = lit< tt }, tt)) $
    use0 𝓛 (‵ (Out.own_val None (live 0 vnil ∷ []))) (none_of 𝓛 To) $
    use0 𝓛 (raw (fact 𝓤 (d.value ≡ None))) (fact_i 𝓤 (d.value ≡ None) (emp 𝓤) none) $ nothing ! $ nothing ! $ fjoin ! $
    -- [what is left of the handle; the clause; no parts; nothing; the tokens]
    returns ! (look_at ! 0 refl) $ free_all ! refl $ keep ! (4 ∷ 0 ∷ 2 ∷ 1 ∷ []) $ by ! (leaves 𝓛 ended stayed c z (live 0 vnil) None (tt, tt) (tt, tt)))
    (λ wrong. absurd wrong)))))
    (λ x some. rewrite ! 0 (λ (o : Option BookView). ‵ (From.own_val (record { at = d.at; alloc = d.alloc; value = o }) vs)) some refl $ fsplit ! $
    fields_out R Z L ghosts ! d.at d.alloc vs (λ h is fits. move ! (1 ∷ []) $
    in_a_block ! d.at (block R Z L ghosts d.alloc x) (fst∗ 𝓤 (never 𝓤) (sem 𝓛 (ghosts.dealloc_token d.alloc (bare (lone R.mir)) null_ptr))) (λ b o lies.
    use1 𝓛 (given (denote.RawPtr.Testable (block_ptr b o)) (‵ (block R Z L ghosts d.alloc x (block_ptr b o)))) (tested 𝓛 R d.alloc (block_ptr b o) x) $ learn ! (λ may.
    let w : Val = word b o h in let told : vs ≡ w ∷ [] = is ∙ ap (λ (p : Ptr). beside (ptr_val p) h ∷ []) lies in let typed = word_good R Z L ghosts b o h fits in
    let v : Val = live 1 (vcons w vnil) in let made : To.Denot = record { at = block_ptr b o; alloc = d.alloc; value = x } in
    let good : Good (layout Out) v = (and_tt _ typed.0, (record { fits = lit< tt }, (typed.1, tt))) in
    suffices ! (Run (w ∷ [])) (subst (λ (us : List Val). ent 𝓤 (Run (w ∷ [])) (Run us)) (sym (λ i. told i ++ [])) (id⊢ 𝓤 (Run (w ∷ [])))) $
    enter ! 𝓣.C 𝓣.Λ fn (w ∷ []) Post $ alloc_all ! (λ l. pass_all ! refl (typed, tt) $ let Ev = env fn.locals l in
    sets ! (of_opd ! (get_in ! (fld ! refl (stop !)) (sub ! 0 refl (whole !)))) refl (tt, tt) $
    sets ! (of_opd ! (get_in ! (fld ! refl (stop !)) (sub ! 1 refl (whole !)))) refl fits $
    sets ! (bin ! (get ! refl) (lit ! tt) (tests_null (block_ptr b o) may)) refl (tt, tt) $ first ! $ branches ! (get ! refl) (λ wrong. absurd wrong) (λ _.
    sets ! (agg ! (and_then ! (get ! refl) (and_then ! (get ! refl) (no_more !)))) refl typed $ sets_last ! (agg ! (and_then ! (lit ! tt) (and_then ! (get ! refl) (no_more !)))) refl good $
    exec ! 𝓣.C 𝓣.Λ Ev (after 4 fn.body) (at_ret Ev Post) $ sets ! (of_opd ! (get ! refl)) refl good $ parts_in R Z L ghosts ! b o h d.alloc x $
    use1 𝓛 (‵ (Out.own_val (Some made) (v ∷ []))) (Some-of 𝓛 To made w) $
    use0 𝓛 (raw (fact 𝓤 (d.value ≡ Some x))) (fact_i 𝓤 (d.value ≡ Some x) (emp 𝓤) some) $ nothing ! $ nothing ! $ fjoin ! $
    -- [what is left of the handle; the clause; the parts; nothing; the tokens]
    returns ! (look_at ! 0 refl) $ free_all ! refl $ keep ! (4 ∷ 0 ∷ 2 ∷ 1 ∷ []) $ by ! (leaves 𝓛 ended stayed c z v (Some made) (tt, tt) (tt, tt)))))))))
