use Rattle.std.proofs.Common.{arith}
use Rattle.std.proofs.lemmas.Result.{err_from_is_err_and}
use Rattle.cedar_c_stores.proofs.RowLaws.{no_terms, term_out, terms_done, terms_next}
use Rattle.cedar_c_stores.proofs.rows.push_terms.Goals as goal

pub loop-term-init : goal.loop-term-init
loop-term-init c = no_terms c.args.text.now c.args.nodes.now c.args.rows.now.items

pub loop-term-preserved : goal.loop-term-preserved
loop-term-preserved c =
    terms_next c.args.text.now c.args.nodes.now c.args.terms.now c.loop-term.term-index _ c.args.rows.now.items
    c.loop-term.rows.items c.push_term.new.rows.items (omega arith) c.loop-term.invariant c.in_ok-push_term.ensures.ok

pub returns-clause-ok : goal.returns-clause-ok
returns-clause-ok c =
    terms_done c.args.text.now c.args.nodes.now c.args.terms.now c.loop-term.term-index c.args.rows.now.items
    c.loop-term.rows.items (omega arith) c.loop-term.invariant

pub returns-in_err-push_term-clause-err : goal.returns-in_err-push_term-clause-err
returns-in_err-push_term-clause-err c =
    let p = err_from_is_err_and c.from_residual.result c.from_residual.ensures.1 in
    rw (p.1, p.2)
    (term_out c.args.text.now c.args.nodes.now c.args.terms.now c.loop-term.term-index _ c.args.rows.now.items
    c.loop-term.rows.items _ (omega arith) c.loop-term.invariant c.in_err-push_term.ensures.err)
