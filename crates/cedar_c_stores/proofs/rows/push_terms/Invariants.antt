use Rattle.std.specs.Prelude.{take}
use Rattle.cedar_c_stores.specs.laws.Rows.{PutsTerms}
use Rattle.cedar_c_stores.proofs.rows.push_terms.Given as goal

abbrev pub invariant-loop-term : goal.invariant-loop-term
invariant-loop-term l =
    PutsTerms l.text l.nodes (take l.term-index l.terms) l.initial.rows.items l.rows.items
