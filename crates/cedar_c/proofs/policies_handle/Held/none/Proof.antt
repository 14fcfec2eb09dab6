-- `none` creates a value with the null pointer, which owns nothing.
use mathlib.Core.Path.{refl}
use mathlib.Core.List.{List, [], ◌∷◌}
use lib.Dec.{lit<}
use seplogic.Ra.Ura.{Ura}
use mir.Val.{Val, vstruct, of_list, has_ty}
use base.Logic.{SProp, emp}
use base.Fml.{ftrue, fsep}
use prog.Memory.{Memory}
use prog.Routine.{Routine}
use prog.Wp.{WpFn, Tables}
use types.Logic.{Logic}
use contract.Monad.{Fun}
use contract.Running.{tables_of}
use types.Kit.{Item, ‵, raw, ◌⊛◌, ◌$◌, ◌∵◌, !, qed, by, move, drop, join, split, fsplit, fjoin, fpack, feq_i, suffices}
use types.Kit.{done}
use types.Part.{agg}
use types.Run.{lit, no_more, and_then, returns, enter}
use types.ByLocal.{alloc_all, pass_all, free_all, look_at, get, sets}
use denote.Builtin.{RawPtr}
use denote.Exit.{yes}
use denote.RattleType.{Valss}
use denote.RawPtr.{null_ptr, ptr_val}
use denote.Signature.{plain}
use denote.Steps.{nothing}
use denote.Struct.Struct.{within}
use denote.Struct.Owning.{shape}
use denote.Triple.Walked.{says, Stays, Walks, stay_dropped, ends_at, Goes-dropped}
use Rattle.std.proofs.alloc.Calls.{α, handle_tells}
use Rattle.std_alloc.proofs.ResultValues.{and_tt}
use Rattle.std_heap.specs.contracts.Global.{the_row as G}
use Rattle.std.specs.Prelude.{None}
use Rattle.cedar_c.proofs.Walking.{at_words, calls, spec_by}
use Rattle.cedar_c.proofs.PoliciesAsBox.{E}
use Rattle.cedar_c.specs.contracts.policies_handle.Held.{the_row as Hd, the_type as Ht}
use Rattle.cedar_c.specs.contracts.policies_handle.Held.none as F
use Rattle.cedar_c.specs.contracts.policies_handle.Held.none.Key.{name as #self}
use Rattle.cedar_c.proofs.policies_handle.Held.none.Statement as stated
use Rattle.cedar_c.proofs.policies_handle.Held.none.Code as code

abbrev stayed : Stays (F.ended).signature.params (F.ended).kept
stayed = (stay_dropped (plain (λ _. G)) yes, tt)

walk : {M : Type 1} {𝓤 : Ura M} (𝓛 : Logic 𝓤) (at_mem : Memory → SProp 𝓤) (run : Routine → Fun 𝓤) (𝓣 : Tables 𝓤 𝓛.H)
    → Walks 𝓛 F.ended stayed (WpFn 𝓤 𝓛.H 𝓣.C 𝓣.Λ code.function) (F.clauses 𝓛 at_mem run)
walk {𝓤 = 𝓤} 𝓛 at_mem run 𝓣 z =
    let a = z.0.3.0 in
    let made : Hd.Denot = record { at = null_ptr; alloc = a; value = None } in
    qed 𝓛 ((‵ ftrue ⊛ ‵ (fsep (G.own_val a z.0.4.0) ftrue)) ∷ raw (emp 𝓤) ∷ []) ∵ split ! $ drop ! $ fsplit ! $
    handle_tells E.al ! a z.0.4.0 (λ hv ea fa. move ! (1 ∷ 2 ∷ []) $ drop ! $ drop ! $
    let w : Val = vstruct (of_list (ptr_val null_ptr ∷ hv ∷ [])) in
    let Γ : List (Item 𝓤) = ‵ (G.own_val a (hv ∷ [])) ∷ [] in
    by ! (at_words 𝓤 (WpFn 𝓤 𝓛.H 𝓣.C 𝓣.Λ code.function) ea
    (qed 𝓛 Γ ∵ nothing ! $ move ! (1 ∷ []) $ nothing ! $ move ! (1 ∷ 0 ∷ []) $ fjoin ! $
    feq_i ! (List Val) (ptr_val null_ptr ∷ []) (ptr_val null_ptr ∷ []) refl $ fjoin ! $ feq_i ! (List Val) (w ∷ [])
    (w ∷ []) refl $ fjoin ! $
    fpack ! (Valss (RawPtr ∷ G ∷ [])) (within (shape Ht) (null_ptr, (((tt, tt), tt), tt)) (w ∷ []))
    (ptr_val null_ptr ∷ [], (hv ∷ [], tt)) $ fjoin ! $
    enter ! 𝓣.C 𝓣.Λ code.function (hv ∷ []) _ $ alloc_all ! (λ ls. pass_all ! refl (fa, tt) $
    sets ! (agg ! (and_then ! (lit ! tt) (and_then ! (get ! refl) (no_more !)))) refl
    (and_tt (has_ty (α E.al) hv) fa.0, (record { fits = lit< tt }, (fa.1, tt))) $
    returns ! (look_at ! 0 refl) $ free_all ! refl $
    suffices ! _ (ends_at 𝓛 F.ended stayed (F.clauses 𝓛 at_mem run) z w made (tt, tt) (tt, tt)) $ says ! refl $
    nothing ! $ nothing ! $ fjoin ! $ join ! $ nothing ! $ join ! $ done !))))

pub none_spec : {M : Type 1} → stated.statement M
unfolding tables_of
none_spec 𝓤 𝓛 𝓜 𝓡 wired =
    spec_by 𝓛 (calls 𝓛 𝓜 𝓡) F.ended stayed (Goes-dropped 𝓛 0 (plain (λ _. G)) yes (λ κs x f. refl), tt) (F.clauses 𝓛 𝓜.mem 𝓡.returns)
    #self code.function (code.unfolded 𝓤 𝓛.H 𝓜 𝓡 wired) (walk 𝓛 𝓜.mem 𝓡.returns (calls 𝓛 𝓜 𝓡))
