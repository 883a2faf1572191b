-- `of_parts` moves the pointer and the allocator: the parts and the handle own the same.
use Rattle.resil_c.proofs.Walks.{List, [], ◌∷◌, ◌++◌, refl, sym, subst, Val, SProp, ent, id⊢, ftrue, WpFn, ‵, raw, ◌⊛◌, ◌$◌, ◌∵◌, !, qed, by, move, keep}
use Rattle.resil_c.proofs.Walks.{split, fsplit, fjoin, suffices, use0, use1, emp, stop, fld, of_opd, no_more, and_then, returns, enter, alloc_all, pass_all}
use Rattle.resil_c.proofs.Walks.{free_all, look_at, get, get_in, sets, agg, sub, whole, fact, fact_i, tables, yes, RattleType, owns, types_at, plain, nothing}
use Rattle.resil_c.proofs.Walks.{Stays, stay_dropped, walk_of, Goes-dropped, proved_at, leaves, ◌≡◌, Some, ghosts}
use Rattle.std.specs.contracts.alloc.Global as heap
use Rattle.std.proofs.alloc.Global.TheLaws as heap_laws
use Rattle.resil_c.specs.contracts.permit.owned_pass.OwnedPass as pass
use Rattle.resil_c.specs.contracts.permit.handle.PermitHandle as handle
use Rattle.resil_c.proofs.Parts.{word, Parts, word_good, parts_tell}
use Rattle.resil_c.specs.contracts.permit.handle.PermitHandle.of_parts.{ended, clauses}
use Rattle.resil_c.specs.contracts.permit.handle.PermitHandle.of_parts.Key.{name as #self}
use Rattle.resil_c.proofs.permit.handle.PermitHandle.of_parts.Statement.{statement}
use Rattle.resil_c.proofs.permit.handle.PermitHandle.of_parts.Code as code

abbrev From : RattleType
From = Parts pass.the_row heap.the_row heap_laws.the_row_laws ghosts

abbrev stayed : Stays ended.signature.params ended.kept
stayed = (stay_dropped (plain (λ _. From)) yes, tt)

pub of_parts_spec : {M : Type 1} → statement M
of_parts_spec 𝓤 𝓛 𝓜 𝓡 wired =
    let H = 𝓛.H in let 𝓣 = tables 𝓤 H 𝓜 𝓡 𝓡.env in let c = clauses 𝓛 𝓜.mem 𝓡.returns in let fn = code.function in
    proved_at 𝓛 ended stayed c 𝓜 𝓡 (Goes-dropped 𝓛 0 (plain (λ _. From)) yes (λ κs x f. refl), tt) #self fn (code.unfolded 𝓤 H 𝓜 𝓡 wired) (λ z are.
    let d = z.0.3.0 in let made : handle.the_row.Denot = record { at = d.at; alloc = d.alloc; value = Some d.value } in
    let Post : Val → SProp 𝓤 = (walk_of 𝓛 ended stayed c).post z in let Run : List Val → SProp 𝓤 = λ ws. WpFn 𝓤 H 𝓣.C 𝓣.Λ fn ws Post in
    qed 𝓛 ((‵ ftrue ⊛ ‵ (owns (types_at ended.signature.params z.0.0) z.0.3 z.0.4)) ∷ raw ((c z.0.0 z.0.3).requires z.1) ∷ []) ∵ split ! $ move ! (1 ∷ []) $ fsplit ! $
    parts_tell pass.the_row heap.the_row heap_laws.the_row_laws ghosts ! d z.0.4.0 (λ b o h is fits.
    let w : Val = word b o h in let good = word_good pass.the_row heap.the_row heap_laws.the_row_laws ghosts b o h fits in
    use1 𝓛 (‵ (handle.the_row.own_val made (w ∷ []))) (id⊢ 𝓤 _) $
    suffices ! (Run (w ∷ [])) (subst (λ (us : List Val). ent 𝓤 (Run (w ∷ [])) (Run us)) (sym (λ i. is i ++ [])) (id⊢ 𝓤 (Run (w ∷ [])))) $
    enter ! 𝓣.C 𝓣.Λ fn (w ∷ []) Post $ alloc_all ! (λ l. pass_all ! refl (good, tt) $
    sets ! (of_opd ! (get_in ! (fld ! refl (stop !)) (sub ! 0 refl (whole !)))) refl (tt, tt) $
    sets ! (of_opd ! (get_in ! (fld ! refl (stop !)) (sub ! 1 refl (whole !)))) refl fits $
    sets ! (agg ! (and_then ! (get ! refl) (and_then ! (get ! refl) (no_more !)))) refl good $
    use0 𝓛 (raw (fact 𝓤 (Some d.value ≡ Some d.value))) (fact_i 𝓤 (Some d.value ≡ Some d.value) (emp 𝓤) refl) $ nothing ! $ nothing ! $ fjoin ! $
    -- [what is left of the parts; the clause; the handle; nothing; the tokens]
    returns ! (look_at ! 0 refl) $ free_all ! refl $ keep ! (4 ∷ 0 ∷ 2 ∷ 1 ∷ []) $ by ! (leaves 𝓛 ended stayed c z w made (tt, tt) (tt, tt)))))
