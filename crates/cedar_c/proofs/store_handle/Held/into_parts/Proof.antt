-- `into_parts` moves two fields with their ownership.
use mathlib.Core.Path.{◌≡◌, refl, sym}
use mathlib.Core.List.{List, [], ◌∷◌}
use seplogic.Ra.Ura.{Ura}
use base.Logic.{SProp, id⊢}
use base.Fml.{ftrue, fsep}
use prog.Memory.{Memory}
use prog.Routine.{Routine}
use prog.Wp.{WpFn, Tables}
use types.Logic.{Logic}
use contract.Monad.{Fun, fact}
use contract.Running.{tables_of}
use types.Kit.{Item, rewrite, ‵, raw, ◌⊛◌, ◌$◌, ◌∵◌, !, qed, by, move, drop, use1, join, split, fsplit, fjoin, suffices}
use types.Kit.{done}
use types.Part.{whole, sub, agg}
use types.Run.{stop, fld, no_more, and_then, of_opd, returns, enter}
use types.ByLocal.{alloc_all, pass_all, free_all, look_at, get, get_in, sets}
use denote.Exit.{yes}
use denote.Signature.{plain, type_at}
use denote.Steps.{nothing, heard}
use denote.Triple.Walked.{says, Stays, Walks, stay_dropped, ends_at, Goes-dropped}
use Rattle.std_alloc.proofs.BoxSteps.Form.{D, B, word, box_typed}
use Rattle.std_alloc.proofs.BoxSteps.Steps.{box_out, box_in}
use Rattle.std.specs.Prelude.{Option, None, Some, IsSome}
use Rattle.cedar_c.specs.contracts.store_handle.Held.{the_row as Hd}
use Rattle.cedar_c.proofs.Walking.{at_words, calls, spec_by}
use Rattle.cedar_c.proofs.StoreAsBox.{E}
use Rattle.cedar_c.specs.contracts.store_handle.Held.into_parts as F
use Rattle.cedar_c.specs.contracts.store_handle.Held.into_parts.Key.{name as #self}
use Rattle.cedar_c.proofs.store_handle.Held.into_parts.Statement as stated
use Rattle.cedar_c.proofs.store_handle.Held.into_parts.Code as code

abbrev stayed : Stays (F.ended).signature.params (F.ended).kept
stayed = (stay_dropped (plain (λ _. Hd)) yes, tt)

some_of : {X : Type 0} (o : Option X) → IsSome o → (x : X) × (o ≡ Some x)
some_of None t = absurd (cc t)
some_of (Some x) t = (x, refl)

walk : {M : Type 1} {𝓤 : Ura M} (𝓛 : Logic 𝓤) (at_mem : Memory → SProp 𝓤) (run : Routine → Fun 𝓤) (𝓣 : Tables 𝓤 𝓛.H)
    → Walks 𝓛 F.ended stayed (WpFn 𝓤 𝓛.H 𝓣.C 𝓣.Λ code.function) (F.clauses 𝓛 at_mem run)
walk {𝓤 = 𝓤} 𝓛 at_mem run 𝓣 z =
    let h = z.0.3.0 in let us = z.0.4.0 in
    qed 𝓛 ((‵ ftrue ⊛ ‵ (fsep (Hd.own_val h us) ftrue)) ∷ raw (fact 𝓤 (IsSome h.value)) ∷ []) ∵ move !
    (1 ∷ []) $ heard ! (IsSome h.value) (λ there.
    let s = some_of h.value there in
    let v : D E = record { ptr = h.at; alloc = h.alloc; value = s.0 } in
    let To = type_at (F.signature).result tt in
    let made : To.Denot = record { ptr = v.ptr; alloc = v.alloc; value = v.value } in
    split ! $ drop ! $ fsplit ! $
    rewrite ! 0 (λ (o : Option (E.row).Denot). ‵ (Hd.own_val (record { at = h.at; alloc = h.alloc; value = o }) us))
    s.1 refl $ use1 𝓛 (‵ ((B E).own_val v us)) (id⊢ 𝓤 _) $
    box_out E ! v us
    (λ b o hv e ws fa. box_in E ! v b o v.value e refl $ use1 𝓛 (‵ (To.own_val made (word E hv b o ∷ [])))
    (id⊢ 𝓤 _) $ move ! (1 ∷ 2 ∷ []) $ drop ! $ drop ! $
    let w = word E hv b o in
    let Γ : List (Item 𝓤) = ‵ (To.own_val made (w ∷ [])) ∷ [] in
    by ! (at_words 𝓤 (WpFn 𝓤 𝓛.H 𝓣.C 𝓣.Λ code.function) ws
    (qed 𝓛 Γ ∵ enter ! 𝓣.C 𝓣.Λ code.function (w ∷ []) _ $ alloc_all !
    (λ ls. pass_all ! refl (box_typed E hv b o fa, tt) $
    sets ! (of_opd ! (get_in ! (fld ! refl (stop !)) (sub ! 0 refl (whole !)))) refl (tt, tt) $ sets !
    (of_opd ! (get_in ! (fld ! refl (stop !)) (sub ! 1 refl (whole !)))) refl fa $ sets !
    (of_opd ! (get ! refl)) refl (tt, tt) $
    sets ! (agg ! (and_then ! (get ! refl) (and_then ! (get ! refl) (no_more !)))) refl
    (box_typed E hv b o fa) $ returns ! (look_at ! 0 refl) $ free_all ! refl $
    suffices ! _ (ends_at 𝓛 F.ended stayed (F.clauses 𝓛 at_mem run) z w made (tt, tt) (tt, tt)) $ says ! (sym s.1) $
    nothing ! $ nothing ! $ fjoin ! $ join ! $ nothing ! $ join ! $ done !)))))

pub into_parts_spec : {M : Type 1} → stated.statement M
unfolding tables_of
into_parts_spec 𝓤 𝓛 𝓜 𝓡 wired =
    spec_by 𝓛 (calls 𝓛 𝓜 𝓡) F.ended stayed (Goes-dropped 𝓛 0 (plain (λ _. Hd)) yes (λ κs x f. refl), tt) (F.clauses 𝓛 𝓜.mem 𝓡.returns)
    #self code.function (code.unfolded 𝓤 𝓛.H 𝓜 𝓡 wired) (walk 𝓛 𝓜.mem 𝓡.returns (calls 𝓛 𝓜 𝓡))
