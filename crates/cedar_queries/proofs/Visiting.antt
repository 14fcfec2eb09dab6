-- The visits of the ends of several edges.
use Rattle.std.specs.Prelude.{◌≡◌, Bool, true, false, not, ◌&&◌, ◌||◌, Option, Some, None, is_some}
use Rattle.std.proofs.Common.{ap, sym, refl, ◌∙◌, subst, inl, inr}
use Rattle.std.proofs.lemmas.Bool.{false≢true, or_cases, or_left, or_right}
use Rattle.cedar_queries.specs.laws.Searches.{Visits}

or_off : (b : Bool) → b ≡ (b || false)
or_off true = refl
or_off false = refl

off_itself : (b : Bool) → false ≡ (not b && b)
off_itself true = refl
off_itself false = refl

joined : (n a b c : Bool) → (a ≡ true → b ≡ true) → (b ≡ true → c ≡ true)
    → ((n || (not a && b)) || (not b && c)) ≡ (n || (not a && c))
joined true a b c p q = refl
joined false true b c p q = ap (λ x. not x && c) (p refl)
joined false false true c p q = sym (q refl)
joined false false false c p q = refl

module _ {K : Type 0} where
  found_again : (f g : K → Option K) → ((v u : K) → f v ≡ Some u → g v ≡ Some u) → (v : K) (o : Option K) → f v ≡ o
      → is_some o ≡ true → is_some (g v) ≡ true
  found_again f g stays v (Some u) is h = ap is_some (stays v u is)
  found_again f g stays v None is h = absurd (false≢true h)

  -- What was found stays found.
  pub found_stays : (f g : K → Option K) → ((v u : K) → f v ≡ Some u → g v ≡ Some u) → (v : K)
      → is_some (f v) ≡ true → is_some (g v) ≡ true
  found_stays f g stays v h = found_again f g stays v (f v) refl h

  -- No edge is visited.
  pub visits_none : (f : K → Option K) (n : K → Bool) → Visits (λ a b. false) f f n n
  visits_none f n = record {
    stays = λ v u h. h;
    new = λ v u h k. absurd (false≢true (ap is_some (sym h ∙ k)));
    finds = λ u v h. absurd (false≢true h);
    adds = λ v. or_off (n v) ∙ ap (λ b. n v || b) (off_itself (is_some (f v)));
  }

  -- Equal edges and equal lists have equal visits.
  pub visits_same : (d e : K → K → Bool) (f g : K → Option K) (n m : K → Bool) → ((a b : K) → d a b ≡ e a b)
      → Visits d f g n m → Visits e f g n m
  visits_same d e f g n m h w = subst (λ t. Visits t f g n m) (λ i a b. h a b i) w

  -- Some edges are visited after others.
  pub visits_more : (d e : K → K → Bool) (f g h : K → Option K) (n m k : K → Bool) → Visits d f g n m
      → Visits e g h m k → Visits (λ a b. d a b || e a b) f h n k
  visits_more d e f g h n m k w x = record {
    stays = λ v u p. x.stays v u (w.stays v u p);
    new = λ v u p q. at v u (g v) refl p q;
    finds = λ u v p. elim (or_cases (d u v) (e u v) p) [
      | inl a ↦ found_stays g h x.stays v (w.finds u v a)
      | inr b ↦ x.finds u v b
    ];
    adds =
        λ v. x.adds v ∙ ap (λ b. b || (not (is_some (g v)) && is_some (h v))) (w.adds v)
        ∙ joined (n v) (is_some (f v)) (is_some (g v)) (is_some (h v)) (found_stays f g w.stays v)
        (found_stays g h x.stays v);
  }
    where
      at : (v u : K) (o : Option K) → g v ≡ o → f v ≡ None → h v ≡ Some u → (d u v || e u v) ≡ true
      at v u None is p q = or_right (d u v) (e u v) (x.new v u is q)
      at v u (Some y) is p q =
          or_left (d u v) (e u v) (subst (λ t. d t v ≡ true) (cc (x.stays v y is)) (w.new v y p is))
