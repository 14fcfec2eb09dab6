use Rattle.std.proofs.Common.{rules, refl}
use Rattle.std.proofs.lemmas.Result.{err_from_is_err_and}
use Rattle.cedar_ids.specs.laws.NameReading.{name_of}
use Rattle.cedar_ids.specs.TextOf.{IsIdText, IsNameText}
use Rattle.cedar_ids.specs.laws.NameTexts.{name_found, name_some, name_none}
use Rattle.cedar_ids.proofs.Names.{one_more, not_more, at_last, not_last, same_error}
use Rattle.cedar_ids.proofs.name.read_name.Goals as goal

pub loop-front-init : goal.loop-front-init
unfolding name_of
loop-front-init c = (c.utf8.text, rw c.new-path.ensures.items refl)

pub returns-in_err-from_normalized_str : goal.returns-in_err-from_normalized_str
returns-in_err-from_normalized_str c =
    let p = err_from_is_err_and c.from_residual.result c.from_residual.ensures.1 in
    rw (p.1, p.2) (same_error IsIdText IsNameText _ _ _
    (λ e. name_none _ (not_more _ _ _ _ _ c.in-Some.ensures.parts e c.loop-front.invariant.1))
    c.in_err-from_normalized_str.ensures)

pub loop-front-preserved : goal.loop-front-preserved
loop-front-preserved c = (
  search rules,
  rw c.in_ok-push.ensures.items
      (one_more _ _ _ _ _ _ c.in-Some.ensures.parts c.in_ok-from_normalized_str.ensures c.loop-front.invariant.1),
)

pub returns-in_err-basename : goal.returns-in_err-basename
returns-in_err-basename c =
    let p = err_from_is_err_and c.from_residual-in_err-basename.result c.from_residual-in_err-basename.ensures.1 in
    rw (p.1, p.2) (same_error IsIdText IsNameText _ _ _
    (λ e. name_none _ (not_last _ _ _ c.in_default.ensures.parts e c.loop-front.invariant.1))
    c.in_err-basename.ensures)

pub returns : goal.returns
returns c =
    rw c.in_ok-path.ensures.ok
    (name_some _ _ (at_last _ _ _ _ c.in_default.ensures.parts c.in_ok-basename.ensures c.loop-front.invariant.1))

pub invariant_of-result : goal.invariant_of-result
invariant_of-result c =
    let e = at_last c.loop-front.path.items c.loop-front.rest.now c.in_ok-basename.basename
    (name_of c.args.text.now) c.in_default.ensures.parts c.in_ok-basename.ensures c.loop-front.invariant.1 in
    rw c.in_ok-path.ensures.ok (name_found c.args.text.now _ e).0
