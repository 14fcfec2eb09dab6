-- A shared clause, in terms of the clause.
use Rattle.std.proofs.Common.{◌≡◌, Option, Some, None, refl, Global}
use Rattle.std.specs.declared.rc.Rc.{Rc}
use Rattle.std.specs.Option.{option_eq, option_map}
use Rattle.std.specs.Hash as fed
use Rattle.cedar_terms.specs.ExprTree.{ExprTree}
use Rattle.cedar_terms.specs.ExprEquality.{same_expr, expr_hash}
use Rattle.cedar_body.specs.BodyEquality.{same_clause, clause_hash}

abbrev pub SharedClause : Type 0
SharedClause = Option (Rc ExprTree Global)

-- Shared clauses are equal if the clauses are.
pub clauses_told : (x y : SharedClause) → option_eq (λ d e. same_expr d.value e.value) x y
    ≡ same_clause (option_map (λ e. e.value) x) (option_map (λ e. e.value) y)
clauses_told None None = refl
clauses_told None (Some e) = refl
clauses_told (Some d) None = refl
clauses_told (Some d) (Some e) = refl

-- A shared clause feeds the same input to a hasher as the clause.
pub clause_fed : (x : SharedClause) → fed.option (λ e. expr_hash e.value) x ≡ clause_hash (option_map (λ e. e.value) x)
clause_fed None = refl
clause_fed (Some e) = refl
