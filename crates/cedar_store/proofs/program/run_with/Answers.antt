use Rattle.std.proofs.Common.{rules}
use Rattle.cedar_store.proofs.HasOutput.{has_one_output}
use Rattle.cedar_store.proofs.program.run_with.Goals as goal

pub returns-in_err-status : goal.returns-in_err-status
returns-in_err-status g c = record { written = search rules; one = has_one_output; end = search rules; err = search rules }

pub returns : goal.returns
returns g c = record { written = search rules; one = has_one_output; end = search rules; err = search rules }
