use mir.Val.{SFits}
use mir.Syntax.{w64}
use Rattle.std.proofs.lemmas.Int.{to_z-of_z}
use Rattle.std.proofs.Common.{rules, refl}
use Rattle.std.proofs.lemmas.Result.{on_ok_weaker}
use Rattle.cedar_c_trees.specs.Items.{bool_item, long_item}
use Rattle.cedar_c_trees.proofs.Drafting.{adds_one}
use Rattle.cedar_c_trees.proofs.leaf_writing.write_literal.Goals as goal

pub returns-in-Bool : goal.returns-in-Bool
returns-in-Bool c =
    rw c.in-Bool.is
    (on_ok_weaker c.put.result
    (λ h. adds_one _ (bool_item c.in-Bool.b) c.args.draft.now c.put.new.self h
    (refl, (let f : SFits w64 c.number_of.result = search rules in rw to_z-of_z c.number_of.ensures)) (refl, refl))
    c.put.ensures)

pub returns-in-Long : goal.returns-in-Long
returns-in-Long c =
    rw c.in-Long.is
    (on_ok_weaker c.put-in-Long.result
    (λ h. adds_one _ (long_item c.in-Long.n) c.args.draft.now c.put-in-Long.new.self h
    (refl, (let f : SFits w64 c.in-Long.n = search rules in rw to_z-of_z refl)) (refl, refl)) c.put-in-Long.ensures)
