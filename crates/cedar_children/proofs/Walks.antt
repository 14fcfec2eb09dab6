-- A search for descendants: the uids that it has seen, the queued uids, and the proof that it finds all descendants.
use Rattle.std.specs.Prelude.{◌≡◌, ◌↔◌, ◌⊎◌, Bool, true, false, not, ◌&&◌, ◌||◌, List, [], ◌∷◌}
use Rattle.std.proofs.Common.{ap, sym, refl, ◌∙◌, inl, inr}
use Rattle.std.proofs.lemmas.Bool.{or_left, or_right, or_cases, false≢true}
use Rattle.std.specs.Set.{is_member}
use Rattle.cedar_graph.specs.Graph.{Path}
use Rattle.cedar_ids.specs.UidOf.{same_uid}
use Rattle.cedar_ids.specs.laws.UidOfLaws.{same_uid_decides}
use Rattle.cedar_ids.specs.declared.entity.EntityUID.{EntityUID}
use Rattle.cedar_children.specs.Children.{IsDescendantOrSelf}

-- The invariant of a search. The test `child p q` states that p has the child q.
pub record Walks (child : EntityUID → EntityUID → Bool) (A : List EntityUID)
    (seen todo : EntityUID → Bool) : Type 0 where
  pub seeds : (q : EntityUID) → is_member same_uid A q ≡ true → seen q ≡ true
  pub sound : (q : EntityUID) → seen q ≡ true → IsDescendantOrSelf (λ a b. child b a) A q
  pub known : (q : EntityUID) → todo q ≡ true → seen q ≡ true
  pub opens : (p q : EntityUID) → seen p ≡ true → child p q ≡ true → (seen q ≡ true) ⊎ (todo p ≡ true)

-- The search begins with the given uids.
pub begins : (child : EntityUID → EntityUID → Bool) (A : List EntityUID) (seen todo : EntityUID → Bool)
    → ((q : EntityUID) → seen q ≡ is_member same_uid A q) → ((q : EntityUID) → todo q ≡ is_member same_uid A q)
    → Walks child A seen todo
begins child A seen todo s t = record {
  seeds = λ q m. s q ∙ m;
  sound = λ q h. inl (sym (s q) ∙ h);
  known = λ q h. s q ∙ sym (t q) ∙ h;
  opens = λ p q h e. inr (t p ∙ sym (s p) ∙ h);
}

below_more : (child : EntityUID → EntityUID → Bool) (A : List EntityUID) (k q : EntityUID)
    → IsDescendantOrSelf (λ a b. child b a) A k → child k q ≡ true → IsDescendantOrSelf (λ a b. child b a) A q
below_more child A k q b e = elim b [
  | inl m ↦ inr (k, m, ([], e))
  | inr r ↦ inr (r.0, r.1, (k ∷ r.2.0, (e, r.2.1)))
]

-- One more uid was visited. Its children are seen, and the new ones are queued.
pub looked_at : (child : EntityUID → EntityUID → Bool) (A : List EntityUID)
    (seen todo more then left : EntityUID → Bool) (k : EntityUID)
    → Walks child A seen todo → ((p : EntityUID) → todo p ≡ (left p || same_uid k p))
    → ((q : EntityUID) → more q ≡ (seen q || child k q))
    → ((q : EntityUID) → then q ≡ (left q || (not (seen q) && child k q)))
    → Walks child A more then
looked_at child A seen todo more then left k w split sees notes = record {
  seeds = λ q m. was q (w.seeds q m);
  sound = λ q h. elim (or_cases (seen q) (child k q) (sym (sees q) ∙ h)) [
    | inl s ↦ w.sound q s
    | inr c ↦
        below_more child A k q
        (w.sound k (w.known k (split k ∙ or_right (left k) (same_uid k k) ((same_uid_decides k k).1 refl)))) c
  ];
  known = λ q h. known q (seen q) refl (left q) refl (sym (notes q) ∙ h);
  opens = λ p q h e. look p q (seen p) refl h e;
}
  where
    was : (q : EntityUID) → seen q ≡ true → more q ≡ true
    was q s = sees q ∙ or_left (seen q) (child k q) s

    stays : (p : EntityUID) → left p ≡ true → then p ≡ true
    stays p l = notes p ∙ or_left (left p) (not (seen p) && child k p) l

    known : (q : EntityUID) (s : Bool) → seen q ≡ s → (l : Bool) → left q ≡ l
        → (left q || (not (seen q) && child k q)) ≡ true → more q ≡ true
    known q true is l at h = was q is
    known q false is true at h = was q (w.known q (split q ∙ or_left (left q) (same_uid k q) at))
    known q false is false at h =
        sees q ∙ or_right (seen q) (child k q)
        (sym (ap (λ b. b || (not (seen q) && child k q)) at ∙ ap (λ b. not b && child k q) is) ∙ h)

    look : (p q : EntityUID) (s : Bool) → seen p ≡ s → more p ≡ true → child p q ≡ true
        → (more q ≡ true) ⊎ (then p ≡ true)
    look p q true is h e = elim (w.opens p q is e) [
      | inl t ↦ inl (was q t)
      | inr t ↦ elim (or_cases (left p) (same_uid k p) (sym (split p) ∙ t)) [
        | inl l ↦ inr (stays p l)
        | inr same ↦
            inl (sees q ∙ or_right (seen q) (child k q) (ap (λ u. child u q) ((same_uid_decides k p).0 same) ∙ e))
      ]
    ]
    look p q false is h e =
        inr (notes p ∙ or_right (left p) (not (seen p) && child k p) (ap (λ b. not b && child k p) is
        ∙ (sym (ap (λ b. b || child k p) is) ∙ sym (sees p) ∙ h)))

seen_path : (parent : EntityUID → EntityUID → Bool) (seen : EntityUID → Bool)
    → ((p q : EntityUID) → seen p ≡ true → parent q p ≡ true → seen q ≡ true)
    → (a b : EntityUID) (xs : List EntityUID) → Path parent a xs b → seen b ≡ true → seen a ≡ true
seen_path parent seen step a b [] p s = step b a s p
seen_path parent seen step a b (x ∷ xs) p s = step x a (seen_path parent seen step x b xs p.1 s) p.0

-- When the queue is empty, the seen uids are exactly the given uids and their descendants.
pub all_below : (child : EntityUID → EntityUID → Bool) (A : List EntityUID) (seen todo : EntityUID → Bool)
    → Walks child A seen todo → ((p : EntityUID) → todo p ≡ false)
    → (q : EntityUID) → (seen q ≡ true) ↔ IsDescendantOrSelf (λ a b. child b a) A q
all_below child A seen todo w none q = (
  w.sound q,
  λ b. elim b [
    | inl m ↦ w.seeds q m
    | inr r ↦ seen_path (λ a b. child b a) seen step q r.0 r.2.0 r.2.1 (w.seeds r.0 r.1)
  ],
)
  where
    step : (p q : EntityUID) → seen p ≡ true → child p q ≡ true → seen q ≡ true
    step p q s e = elim (w.opens p q s e) [
      | inl t ↦ t
      | inr t ↦ absurd (false≢true (sym (none p) ∙ t))
    ]
