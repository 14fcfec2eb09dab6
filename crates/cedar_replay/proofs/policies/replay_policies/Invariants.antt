use Rattle.std.specs.Prelude.{◌≤◌, ◌+◌, length}
use Rattle.std.specs.Vec.{vec_len, vec_capacity}
use Rattle.cedar_replay.proofs.PolicyReplays.{Continues}
use Rattle.cedar_replay.proofs.policies.replay_policies.Given as goal

abbrev pub invariant-loop-call : goal.invariant-loop-call
invariant-loop-call g l = record {
  room : vec_len l.answers + length l.call-iterator.rest.items ≤ vec_capacity l.answers;
  steps : Continues l.fn.calls.items l.initial.set l.call-iterator.rest.items l.answers.items l.set;
}
