-- Progress in reading a map of nodes.
use Rattle.std.proofs.Common.{◌≡◌, ◌<◌, ◌≤◌, ◌+◌, Bool, true, ℕ, List, [], ◌∷◌, ◌++◌, Some, length, take, drop, inl, inr}
use Rattle.std.proofs.Common.{ap, sym, refl, subst, ◌∙◌, arith}
use Rattle.std.proofs.lemmas.Bool.{cases_lt}
use Rattle.std.proofs.lemmas.List.{length-take-le, take-append-drop}
use Rattle.std.proofs.lemmas.Option.{slice_get_within}
use Rattle.std.specs.Cmp.{IsEquivalence}
use Rattle.std.specs.List.{slice_get, IsDistinct}
use Rattle.indexmap.proofs.MapLemmas.{distinct-take}
use Rattle.indexmap.specs.IndexSet.{IndexSet}
use Rattle.cedar_graph.specs.Calls.{IsAtMostNeeded, NeedsEdges}
use Rattle.cedar_graph.specs.declared.arcs.Reading.{Reading}
use Rattle.cedar_graph.specs.laws.Readings.{HasPut, ReadsArc, ReadsOn}
use Rattle.cedar_graph.proofs.Keyed.{got_some, number_same, prefix_got, prefix_refl, prefix_trans, some_and}

got_last : {X : Type 0} (xs : List X) (x : X) → slice_get (xs ++ x ∷ []) (length xs) ≡ Some x
got_last [] x = refl
got_last (y ∷ ys) x = got_last ys x

-- Inserting a key can add only the number of that key.
pub put_fresh : {K S : Type 0} {eq : K → K → Bool} (laws : IsEquivalence eq) (key : K) (old new : IndexSet K S) (b : ℕ)
    → HasPut eq key old new b → (i : ℕ) → length old.keys ≤ i → i < length new.keys → i ≡ b
put_fresh {eq = eq} laws key old new b p i ge lt =
    let at_b = some_and (slice_get new.keys b) (λ k. eq key k ≡ true) p.found in
    let at_i = got_some new.keys i lt in
    let same : eq key at_i.0 ≡ true = elim (p.fresh i at_i.0 at_i.1) [
      | inl was ↦ absurd (omega (arith, slice_get_within old.keys i at_i.0 was, ge))
      | inr is ↦ is
    ] in
    number_same laws new.keys p.unique i b at_i.0 at_b.0 at_i.1 at_b.1 (sym (laws.congr key at_i.0 at_b.0 same) ∙ at_b.2)

module _ {K S H : Type 0} where
  -- Nothing more was read.
  pub reads_none : (n : ℕ) (s : Reading K S H) → ReadsOn n s s
  reads_none n s = record {
    keys = prefix_refl s.keys.keys;
    reads = omega arith;
    arcs = prefix_refl s.to.items;
    targets = λ i ge lt. absurd (omega (arith, ge, lt));
  }

  -- Two readings in sequence.
  pub reads_more : (m n : ℕ) (a b c : Reading K S H) → ReadsOn m a b → ReadsOn n b c → ReadsOn (m + n) a c
  reads_more m n a b c p q = record {
    keys = prefix_trans a.keys.keys b.keys.keys c.keys.keys p.keys q.keys;
    reads = omega (arith, p.reads, q.reads);
    arcs = prefix_trans a.to.items b.to.items c.to.items p.arcs q.arcs;
    targets = λ i ge lt. elim (cases_lt i (length b.keys.keys)) [
      | inl was ↦
          let t = p.targets i ge was in
          (t.0, prefix_got b.to.items c.to.items q.arcs t.0 i t.1)
      | inr new ↦ q.targets i new lt
    ];
  }

  -- One more arc was read.
  pub reads_arc : (eq : K → K → Bool) (a : ℕ) (key : K) (s t : Reading K S H) (b : ℕ) → ReadsArc eq a key s t b
      → t.reads ≡ s.reads → ReadsOn 0 s t
  reads_arc eq a key s t b e same = record {
    keys = e.keys;
    reads = omega (arith, same);
    arcs = (b ∷ [], e.to);
    targets = λ i ge lt. (
      length s.to.items,
      subst (λ to. slice_get to (length s.to.items) ≡ Some i) (sym e.to)
          (got_last s.to.items b ∙ ap Some (sym (e.fresh i ge lt))),
    );
  }

-- The first n keys show that n is at most the number of keys whose edges a repair has to know.
pub at_most_near : {K : Type 0} {eq : K → K → Bool} (laws : IsEquivalence eq) (fix : K → Bool) (G : K → K → Bool)
    (keys : List K) (n m : ℕ) → IsDistinct eq keys → n ≤ length keys → m ≤ n
    → ((i : ℕ) (k : K) → i < n → slice_get keys i ≡ Some k → NeedsEdges fix G k) → IsAtMostNeeded eq fix G m
at_most_near laws fix G keys n m distinct within less near =
    let first = take n keys in
    let all : length first ≡ n = length-take-le n keys within in (
      first,
      distinct-take laws n keys distinct,
      λ i k got. near i k (omega (arith, slice_get_within first i k got, all))
          (prefix_got first keys (drop n keys, sym (take-append-drop n keys)) i k got),
      omega (arith, less, all),
    )
