-- A copy of the table has the same links.
use Rattle.std.proofs.Common.{◌≡◌, ℕ, zero, suc, nat_eq, List, [], ◌∷◌, length, Option, None, Some, slice_get, refl}
use Rattle.std.proofs.Common.{sym, ap, subst}
use Rattle.std.specs.Prelude.{if◌then◌else◌}
use Rattle.std.specs.List.{AllZip}
use Rattle.std.specs.Option.{option_map_or}
use Rattle.cedar_linked_map.specs.declared.chain.Node.{Node}
use Rattle.cedar_linked_map.specs.Linked.{IsOrder, AreLinked, in_order, walk, cells, after_at, before_at, after_of}
use Rattle.cedar_linked_map.specs.Linked.{before_of, end}

module _ {K V : Type 0} (C : K → K → Type 0) (D : V → V → Type 0) where
  -- The copy of an entry: a copy of the key, a copy of the value, and the same places.
  abbrev pub IsCopied : K × Node V → K × Node V → Type 0
  IsCopied p q = C p.0 q.0 × (D p.1.value q.1.value × ((q.1.before ≡ p.1.before) × (q.1.after ≡ p.1.after)))

  abbrev pub IsCopy : K × V → K × V → Type 0
  IsCopy p q = C p.0 q.0 × D p.1 q.1

  pub same_length : (ns ms : List (K × Node V)) → AllZip IsCopied ns ms → length ms ≡ length ns
  same_length [] [] h = refl
  same_length [] (m ∷ ms) h = absurd h
  same_length (n ∷ ns) [] h = absurd h
  same_length (n ∷ ns) (m ∷ ms) h = ap suc (same_length ns ms h.1)

  pub same_after : (ns ms : List (K × Node V)) → AllZip IsCopied ns ms → (u : ℕ) → after_at ms u ≡ after_at ns u
  same_after [] [] h u = refl
  same_after [] (m ∷ ms) h u = absurd h
  same_after (n ∷ ns) [] h u = absurd h
  same_after (n ∷ ns) (m ∷ ms) h zero = h.0.1.1.1
  same_after (n ∷ ns) (m ∷ ms) h (suc u) = same_after ns ms h.1 u

  same_before : (ns ms : List (K × Node V)) → AllZip IsCopied ns ms → (u : ℕ) → before_at ms u ≡ before_at ns u
  same_before [] [] h u = refl
  same_before [] (m ∷ ms) h u = absurd h
  same_before (n ∷ ns) [] h u = absurd h
  same_before (n ∷ ns) (m ∷ ms) h zero = h.0.1.1.0
  same_before (n ∷ ns) (m ∷ ms) h (suc u) = same_before ns ms h.1 u

  pub still_linked : (ns ms : List (K × Node V)) (first last : ℕ) → AllZip IsCopied ns ms
      → AreLinked ns first last → AreLinked ms first last
  still_linked ns ms first last h linked =
      let a : after_of ms first ≡ after_of ns first = λ j u. if nat_eq u end then first else same_after ns ms h u j in
      let b : before_of ms last ≡ before_of ns last = λ j u. if nat_eq u end then last else same_before ns ms h u j in (
        linked.0,
        subst (λ n. IsOrder n (after_of ms first) (before_of ms last) linked.0) (sym (same_length ns ms h))
            (subst (λ A. IsOrder (length ns) A (before_of ms last) linked.0) (sym a)
            (subst (λ B. IsOrder (length ns) (after_of ns first) B linked.0) (sym b) linked.1)),
      )

  -- Both have an item, and one is a copy of the other, or neither has one.
  abbrev IsBoth : Option (K × V) → Option (K × V) → Type 0
  IsBoth None None = Unit {0}
  IsBoth None (Some y) = ⊥
  IsBoth (Some x) None = ⊥
  IsBoth (Some x) (Some y) = IsCopy x y

  both : (ns ms : List (K × Node V)) → AllZip IsCopied ns ms → (u : ℕ)
      → IsBoth (slice_get (cells ns) u) (slice_get (cells ms) u)
  both [] [] h u = tt
  both [] (m ∷ ms) h u = absurd h
  both (n ∷ ns) [] h u = absurd h
  both (n ∷ ns) (m ∷ ms) h zero = (h.0.0, h.0.1.0)
  both (n ∷ ns) (m ∷ ms) h (suc u) = both ns ms h.1 u

  walked : (es fs : List (K × V)) (A : ℕ → ℕ) → ((u : ℕ) → IsBoth (slice_get es u) (slice_get fs u)) → (n u : ℕ)
      → AllZip IsCopy (walk n es A u) (walk n fs A u)
  walked es fs A same zero u = tt
  walked es fs A same (suc n) u = by (slice_get es u) (slice_get fs u) (same u) (walked es fs A same n (A u))
    where
      by : (x y : Option (K × V)) → IsBoth x y → AllZip IsCopy (walk n es A (A u)) (walk n fs A (A u))
          → AllZip IsCopy (option_map_or (λ e. e ∷ walk n es A (A u)) x []) (option_map_or (λ e. e ∷ walk n fs A (A
          u)) y [])
      by None None h rest = tt
      by None (Some y) h rest = absurd h
      by (Some x) None h rest = absurd h
      by (Some x) (Some y) h rest = (h, rest)

  pub copied : (ns ms : List (K × Node V)) (first : ℕ) → AllZip IsCopied ns ms
      → AllZip IsCopy (in_order ns first) (in_order ms first)
  copied ns ms first h =
      let a : after_at ms ≡ after_at ns = λ j u. same_after ns ms h u j in
      subst (λ n. AllZip IsCopy (in_order ns first) (walk n (cells ms) (after_at ms) first)) (sym (same_length ns ms h))
      (subst (λ A. AllZip IsCopy (in_order ns first) (walk (length ns) (cells ms) A first)) (sym a)
      (walked (cells ns) (cells ms) (after_at ns) (both ns ms h) (length ns) first))
