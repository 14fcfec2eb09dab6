use Rattle.cedar_replay.proofs.PolicyReplays.{continues_start, continues_more, continues_end, none_left, steps_count}
use Rattle.cedar_replay.proofs.PolicyReplays.{room_start, room_more, room_now}
use Rattle.cedar_replay.proofs.policies.replay_policies.Goals as goal

pub loop-call-init : goal.loop-call-init
loop-call-init g c =
    let same = c.into_iter-call-iterator.ensures.into_iter_gives.0 in
    let new = c.in_ok-answers.ensures in
    record {
      room = room_start c.args.calls.items _ _ _ _ _ same c.args.calls.ok.0 c.len.ensures new.len new.capacity;
      steps = continues_start c.args.calls.items _ c.args.set.now _ same new.items;
    }

pub append-requires : goal.append-requires
append-requires g c = room_now _ _ c.in-Some.call _ _ c.in-Some.ensures.steps.0 c.loop-call.invariant.room

pub loop-call-preserved : goal.loop-call-preserved
loop-call-preserved g c =
    let cut = c.in-Some.ensures.steps.0 in
    record {
      room =
          room_more _ _ c.in-Some.call _ _ _ _ cut c.loop-call.invariant.room c.append.ensures.len
          c.append.ensures.room;
      steps =
          continues_more _ _ _ _ _ _ _ _ c.in-Some.call c.replay_one-answer.result cut c.append.ensures.items
          c.replay_one-answer.ensures c.loop-call.invariant.steps;
    }

pub returns-clause-count : goal.returns-clause-count
returns-clause-count g c =
    let left =
    none_left c.loop-call.call-iterator.rest.items _ c.loop-call.call-iterator.rest.ok.0
    c.in-None.ensures.steps.0 in
    steps_count _ _ _ _ (continues_end _ _ _ _ _ left c.loop-call.invariant.steps)

pub returns-clause-steps : goal.returns-clause-steps
returns-clause-steps g c =
    let left =
    none_left c.loop-call.call-iterator.rest.items _ c.loop-call.call-iterator.rest.ok.0
    c.in-None.ensures.steps.0 in
    continues_end _ _ _ _ _ left c.loop-call.invariant.steps
