use Rattle.std.proofs.Common.{[], ◌∷◌, ◌+◌, ap, sym, subst, ◌∙◌, ◌++◌, map}
use Rattle.cedar_entity_maps.specs.Plain.{IsPlainStore}
use Rattle.cedar_entity_maps.specs.InputStore.{InputStore, empty_input}
use Rattle.cedar_entities.specs.Calls.{apply_calls, AllPass}
use Rattle.cedar_replay.specs.CallsOf.{call_of}
use Rattle.cedar_replay.proofs.EntityReplays.{made_push, pass_push, longer, stops}
use Rattle.cedar_replay.proofs.entities.replay_entities_with_hasher.Goals as goal
use Rattle.std.proofs.lemmas.List.{append_assoc, map-append}

pub returns-in-Err-clause-err : goal.returns-in-Err-clause-err
returns-in-Err-clause-err g c =
    let i = c.loop-call.invariant in
    let done = c.loop-call.yielded in
    let place = i.place ∙ ap (λ l. done ++ l) c.in-Some.ensures.steps.0 in
    stops call_of c.args.calls.items done c.in-Some.call _ c.loop-call.done c.in-Err.error place i.count i.passed
    (c.in-Err.ensures.err _ i.plain)

pub loop-call-preserved : goal.loop-call-preserved
loop-call-preserved g c =
    let i = c.loop-call.invariant in
    let done = c.loop-call.yielded in
    let call = c.in-Some.call in
    let place = i.place ∙ ap (λ l. done ++ l) c.in-Some.ensures.steps.0 in
    let more = map-append call_of done (call ∷ []) in
    record {
      plain =
          subst (λ (W : InputStore). IsPlainStore W c.in-Ok.next)
          (sym (ap (apply_calls empty_input) more ∙ made_push empty_input (map call_of done) (call_of call)))
          (c.in-Ok.ensures.ok _ i.plain);
      passed =
          subst (AllPass empty_input) (sym more)
          (pass_push empty_input (map call_of done) (call_of call) i.passed (c.in-Ok.ensures.passes _ i.plain));
      count = longer done call ∙ ap (λ n. n + 1) i.count;
      place = place ∙ sym (append_assoc done (call ∷ []) _);
    }
