-- The number of nodes that a closure visits.
use Rattle.std.specs.Cmp.{IsEquivalence}
use Rattle.std.specs.HashMap.{HashMap, get}
use Rattle.std.proofs.lemmas.Map.Made.{length-le_from_is_member}
use Rattle.std.proofs.lemmas.List.{length-take-le}
use Rattle.std.proofs.Common.{◌≡◌, Bool, true, ℕ, zero, suc, ◌<◌, ◌≤◌, List, [], ◌∷◌, length, take}
use Rattle.std.proofs.Common.{Some, sym, ap, ◌∙◌, arith}
use Rattle.std.specs.List.{slice_get}
use Rattle.std.specs.Option.{is_some}
use Rattle.cedar_graph.specs.Calls.{AreEdged}
use Rattle.cedar_graph.specs.laws.Arcs.{HasNumberBelow, IsKeyAt}
use Rattle.cedar_graph.proofs.Keyed.{member_of_got}
use Rattle.cedar_graph.proofs.Reaches.{lookup_alike}

got_taken : {K : Type 0} (ks : List K) (n i : ℕ) (k : K) → i < n → slice_get ks i ≡ Some k
    → slice_get (take n ks) i ≡ Some k
got_taken [] n i k h e = cc
got_taken (x ∷ ks) zero i k h e = absurd (omega arith)
got_taken (x ∷ ks) (suc n) zero k h e = e
got_taken (x ∷ ks) (suc n) (suc i) k h e = got_taken ks n i k (omega arith) e

-- There are at most n different keys with an edge, if each of them has a number below n.
pub edged_within : {K : Type 0} {eq : K → K → Bool} (laws : IsEquivalence eq) (G : K → K → Bool) (keys : List K)
    (n : ℕ) → n ≤ length keys → ((q b : K) → G q b ≡ true → HasNumberBelow eq n keys q)
    → (ks : List K) → AreEdged eq G ks → length ks ≤ n
edged_within {eq = eq} laws G keys n within all ks edged =
    let short : length (take n keys) ≡ n = length-take-le n keys within in
    let few : length ks ≤ length (take n keys) = length-le_from_is_member laws ks (take n keys) edged.distinct (λ q h.
    let e = edged.edges q h in
    let at = all q e.0 e.1 in
    member_of_got eq (take n keys) at.0 at.1 q (got_taken keys n at.0 at.1 at.2 at.3) at.4) in
    omega arith

-- If the first keys have nodes in the map, so has each key equal to one of them.
pub nodes_there : {K V S : Type 0} {eq : K → K → Bool} (laws : IsEquivalence eq) (nodes : HashMap K V S)
    (keys : List K) (n : ℕ)
    → ((i : ℕ) (k : K) → i < n → slice_get keys i ≡ Some k → is_some (get eq nodes k) ≡ true)
    → (q : K) → (x : ℕ) × (x < n) × IsKeyAt eq keys x q → is_some (get eq nodes q) ≡ true
nodes_there laws nodes keys n there q at =
    ap is_some (sym (lookup_alike laws at.2.0 q at.2.2 nodes.entries)) ∙ there at.0 at.2.0 at.1 at.2.1
