-- What the proofs of the functions of `Held` share: how a walk through a body begins, and how it becomes the proof.
use mathlib.Core.Path.{◌≡◌, sym, subst}
use mathlib.Core.List.{List, [], ◌++◌}
use seplogic.Ra.Ura.{Ura}
use mir.Syntax.{Fn}
use mir.Val.{Val}
use base.Logic.{SProp, ent}
use prog.Model.{Model}
use prog.Routine.{Callee}
use prog.Wp.{WpFn, Tables, Closed}
use types.Logic.{Logic}
use contract.Monad.{Fun}
use contract.Running.{Running, tables, tables_of}
use sound.WpLaws.{WpFn-mono}
use denote.Triple.Clauses.{Clauses, Ended, closing}
use denote.Triple.Spec.{triple_of}
use denote.Triple.Statement.{Triple}
use denote.Triple.Table.{entered}
use denote.Triple.Walked.{AllGo, Stays, Walks, walk_Meets}

-- The meaning of the calls of a function.
abbrev pub calls : {M : Type 1} {𝓤 : Ura M} (𝓛 : Logic 𝓤) (𝓜 : Model 𝓤 𝓛.H) → Running 𝓤 𝓛.H 𝓜 → Tables 𝓤 𝓛.H
calls {𝓤 = 𝓤} 𝓛 𝓜 𝓡 = tables_of 𝓤 𝓛.H 𝓜 (tables 𝓤 𝓛.H 𝓜 𝓡 𝓡.env)

-- A function runs on the machine values `us` as on the values that they are shown to be.
pub at_words : {M : Type 1} (𝓤 : Ura M) (run : Fun 𝓤) {P : SProp 𝓤} {K : Val → SProp 𝓤} {us vs : List Val} → us ≡ vs
    → ent 𝓤 P (run (vs ++ []) K) → ent 𝓤 P (run (us ++ []) K)
at_words 𝓤 run {P} {K} e t = subst (λ (ws : List Val). ent 𝓤 P (run (ws ++ []) K)) (sym e) t

-- A function whose body is walked meets its contract.
pub spec_by : {M : Type 1} {𝓤 : Ura M} (𝓛 : Logic 𝓤) (𝓣 : Tables 𝓤 𝓛.H) (T : Ended) (hs : Stays T.signature.params T.kept)
    → AllGo 𝓛 T.signature.lifetimes T.signature.params T.kept hs → (c : Clauses 𝓤 T) (k : Callee) (fn : Fn)
    → Closed 𝓤 𝓛.H 𝓣.C 𝓣.Λ k fn → Walks 𝓛 T hs (WpFn 𝓤 𝓛.H 𝓣.C 𝓣.Λ fn) c
    → Triple 𝓤 (𝓣.C k) (triple_of 𝓛 T.signature (closing 𝓛 T c))
spec_by {𝓤 = 𝓤} 𝓛 𝓣 T hs go c k fn closed walk =
    entered 𝓤 𝓛.H (triple_of 𝓛 T.signature (closing 𝓛 T c)) 𝓣.C 𝓣.Λ k fn closed
    (walk_Meets 𝓛 T hs go c (WpFn 𝓤 𝓛.H 𝓣.C 𝓣.Λ fn) (WpFn-mono 𝓤 𝓛.H 𝓛.laws 𝓣 fn) walk)
