use Rattle.std.proofs.Common.{◌≡◌, ◌∙◌, ◌-◌, ◌+◌, [], ◌∷◌, ◌++◌, Some, ap, arith, suc, sym}
use Rattle.std.proofs.lemmas.List.{append-nil}
use Rattle.std.specs.Prelude.{reverse}
use Rattle.std.specs.HashMap.{get}
use Rattle.cedar_ids.specs.UidOf.{same_uid}
use Rattle.cedar_ids.specs.declared.entity.EntityUID.{EntityUID}
use Rattle.cedar_queries.specs.laws.Searches.{trace}
use Rattle.cedar_queries.proofs.Traces.{back_found, back_step, trace_end, trace_more}
use Rattle.cedar_queries.proofs.paths.walk_back.Goals as goal

pub index-requires : goal.index-requires
index-requires g c = c.requires.0

pub loop-step-init : goal.loop-step-init
loop-step-init g c =
    let f = get same_uid c.args.reached.now in
    let to : EntityUID = c.args.to.now in
    let at : EntityUID = c.in_ok-at.at in
    let n = c.args.between in
    let found : f to ≡ Some at = c.index.ensures ∙ ap Some (sym c.in_ok-at.ensures.cases) in
    let one : suc n ≡ suc (n - 0) = omega arith in
    let begun : c.push.new.self.items ≡ to ∷ [] =
    c.in_ok-push.ensures.items ∙ ap (λ l. l ++ c.in_ok-copy_of.field-0 ∷ []) c.new-uids.ensures.items
    ∙ ap (λ (u : EntityUID). u ∷ []) c.in_ok-copy_of.ensures in
    record {
      back = back_step f (suc n) (n - 0) to at one found c.requires;
      passed =
          trace_more f (suc n) (n - 0) to at (trace f (suc n) to) [] (sym (append-nil (trace f (suc n) to))) one found
          ∙ ap (λ l. trace f (n - 0) at ++ reverse l) (sym begun);
    }

pub index-requires-in-loop-step : goal.index-requires-in-loop-step
index-requires-in-loop-step g c =
    back_found (get same_uid c.args.reached.now) (c.args.between - c.loop-step._step)
    (c.args.between - (c.loop-step._step + 1)) c.loop-step.at (omega arith) c.loop-step.invariant.back

pub loop-step-preserved : goal.loop-step-preserved
loop-step-preserved g c =
    let f = get same_uid c.args.reached.now in
    let to : EntityUID = c.args.to.now in
    let at : EntityUID = c.loop-step.at in
    let before : EntityUID = c.in_ok-before.before in
    let n = c.args.between - c.loop-step._step in
    let m = c.args.between - (c.loop-step._step + 1) in
    let found : f at ≡ Some before = c.index-in-loop-step.ensures ∙ ap Some (sym c.in_ok-before.ensures.cases) in
    let one : n ≡ suc m = omega arith in
    record {
      back = back_step f n m at before one found c.loop-step.invariant.back;
      passed =
          trace_more f n m at before (trace f (suc c.args.between) to) c.loop-step.uids.items
          c.loop-step.invariant.passed one found
          ∙ ap (λ l. trace f m before ++ reverse l) (sym c.in_ok-push-2.ensures.items);
    }

pub returns : goal.returns
returns g c =
    let f = get same_uid c.args.reached.now in
    let none : c.args.between - c.loop-step._step ≡ 0 = omega arith in
    c.reverse.ensures.items
    ∙ ap reverse c.in_ok-push-3.ensures.items
    ∙ trace_end f (c.args.between - c.loop-step._step) c.loop-step.at (trace f (suc c.args.between) c.args.to.now)
    c.loop-step.uids.items c.loop-step.invariant.passed none
